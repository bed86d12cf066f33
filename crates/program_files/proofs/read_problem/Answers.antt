-- `program_files::read_problem` meets its contract: a file is too long, one is refused, or both are read.
use Rattle.std.proofs.Common.{◌≡◌, List, ℕ, ℤ, sym, ap, ◌∙◌, take, Result, Ok, Err}
use Rattle.std.specs.Result.{IsErrAnd}
use Rattle.refusal.specs.declared.Refusal.{Refusal}
use Rattle.rule_file.specs.Format as rule
use Rattle.wish_file.specs.Format as wish
use Rattle.program_files.specs.Problem.{Problem, refuses, gives, together, with_wishes}
use Rattle.program_files.specs.Read.{problem_of}
use Rattle.program_files.specs.ReadLaws.{list_refused, list_read, row_refused, row_read, both_read}
use Rattle.program_files.specs.declared.FileError.{FileError}
use Rattle.program_files.specs.declared.FileError.TheVariants.{Refused}
use Rattle.program_files.specs.declared.Sizes.{Sizes}
use Rattle.program_files.proofs.read_problem.Goals as goal

-- a refusal that `?` passes on
passed_on : (p : Result Sizes FileError) (r : Refusal) (rules : List ℤ) (row : List ℕ) → IsErrAnd p (λ e. e ≡ Refused r) → problem_of p rules row ≡ refuses r
passed_on (Err e) r rules row h = ap (λ (q : FileError). problem_of (Err q) rules row) h
passed_on (Ok s) r rules row h = absurd h

pub returns-in_err-counts-clause-problem : goal.returns-in_err-counts-clause-problem
returns-in_err-counts-clause-problem c =
    let r = c.in_err-counts.field-0.0 in
    let read = list_refused c.args.rules_file.now c.args.rules.now c.requires.0 r c.in_err-counts.ensures.reply in
    passed_on c.from_residual.result r c.read_rules.new.rules c.args.row.now c.from_residual.ensures.1
    ∙ both_read c.args.rules_file.now c.args.wish_file.now c.if-rules_file-gt-MAX_FILE.false c.if-wish_file-gt-MAX_FILE.false (refuses r)
    (sym (ap (λ (g : rule.Reading). together g (wish.reading c.args.wish_file.now)) read))

pub returns-in_err-header-clause-problem : goal.returns-in_err-header-clause-problem
returns-in_err-header-clause-problem c =
    let r = c.in_err-header.field-0.0 in
    let counts = c.in_ok-counts.counts in
    let listed = list_read c.args.rules_file.now c.args.rules.now c.requires.0 counts.variables counts.clauses counts.length c.read_rules.new.rules c.in_ok-counts.ensures.reply c.in_ok-counts.ensures.output in
    let read = row_refused c.args.wish_file.now c.args.row.now c.requires.1 r c.in_err-header.ensures.reply in
    passed_on c.from_residual-in_err-header.result r c.read_rules.new.rules c.read_wishes.new.row c.from_residual-in_err-header.ensures.1
    ∙ both_read c.args.rules_file.now c.args.wish_file.now c.if-rules_file-gt-MAX_FILE.false c.if-wish_file-gt-MAX_FILE.false (refuses r)
    (sym (ap (λ (g : rule.Reading). together g (wish.reading c.args.wish_file.now)) listed.0 ∙ ap (with_wishes counts.variables (take counts.length c.read_rules.new.rules)) read))

pub returns : goal.returns
returns c =
    let counts = c.in_ok-counts.counts in
    let header = c.in_ok-header.header in
    let listed = list_read c.args.rules_file.now c.args.rules.now c.requires.0 counts.variables counts.clauses counts.length c.read_rules.new.rules c.in_ok-counts.ensures.reply c.in_ok-counts.ensures.output in
    let wished = row_read c.args.wish_file.now c.args.row.now c.requires.1 header.variables header.wishes header.limit c.read_wishes.new.row c.in_ok-header.ensures.reply c.in_ok-header.ensures.output in
    let p : Problem = gives counts.variables (take counts.length c.read_rules.new.rules) (take header.variables c.read_wishes.new.row) header.limit in
    record {
      problem = both_read c.args.rules_file.now c.args.wish_file.now c.if-rules_file-gt-MAX_FILE.false c.if-wish_file-gt-MAX_FILE.false p
          (sym (ap (λ (g : rule.Reading). together g (wish.reading c.args.wish_file.now)) listed.0 ∙ ap (with_wishes counts.variables (take counts.length c.read_rules.new.rules)) wished.0));
      sizes = (listed.1, wished.1);
    }
