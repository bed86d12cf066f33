-- `program_rewrite_text::put_rewritten` meets its contract: rewriting is refused, or its list is written.
use Rattle.std.proofs.Common.{◌≤◌, length, ℤ, List, replicate, pos, arith}
use Rattle.std.proofs.lemmas.List.{length-replicate}
use Rattle.program_report.specs.Laws.{renamed}
use Rattle.program_report.specs.Report.{refusal_line}
use Rattle.program_rewrite_text.specs.Laws.{rewriting_refused_lem, rewriting_done}
use Rattle.program_rewrite_text.specs.Printed.{rewritten_text}
use Rattle.program_rewrite_text.proofs.put_rewritten.Goals as goal

-- the list that is lent to rewriting
blank : List ℤ
blank = replicate 40000 (pos 0)

room : 40000 ≤ length blank
unfolding blank
room = omega (arith, length-replicate {A = ℤ} 40000 (pos 0))

pub put_file-requires : goal.put_file-requires
unfolding blank
put_file-requires c =
    let a = c.args in
    let sizes = c.in-Ok.sizes in
    let known = rewriting_done a.n a.rules.now a.row.now a.d blank room sizes.variables sizes.length c.rewrite.new.out c.in-Ok.ensures.reply c.in-Ok.ensures.output in
    (known.positive, known.most, known.sound)

pub returns-in-Err-clause-length : goal.returns-in-Err-clause-length
unfolding blank
returns-in-Err-clause-length c =
    let a = c.args in
    let text = rewriting_refused_lem a.n a.rules.now a.row.now a.d blank room c.in-Err.r c.in-Err.ensures.reply in
    (renamed (refusal_line c.in-Err.r) (rewritten_text a.n a.rules.now a.row.now a.d) c.put_refusal.result a.out.now c.put_refusal.new.out text c.put_refusal.ensures.0 c.put_refusal.ensures.1).0

pub returns-in-Err-clause-output : goal.returns-in-Err-clause-output
unfolding blank
returns-in-Err-clause-output c =
    let a = c.args in
    let text = rewriting_refused_lem a.n a.rules.now a.row.now a.d blank room c.in-Err.r c.in-Err.ensures.reply in
    (renamed (refusal_line c.in-Err.r) (rewritten_text a.n a.rules.now a.row.now a.d) c.put_refusal.result a.out.now c.put_refusal.new.out text c.put_refusal.ensures.0 c.put_refusal.ensures.1).1
