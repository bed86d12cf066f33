-- `program_diagnostics::line::put_line` meets its contract: the place, the sentence and a line feed.
use Rattle.std.proofs.Common.{[], ◌∷◌, ◌++◌, ap, leb, length}
use Rattle.writing.specs.Wrote.{wrote_more, wrote_as}
use Rattle.program_file_position.specs.declared.Position.{Position}
use Rattle.program_refusal_words.specs.Reasons.{reason}
use Rattle.program_diagnostics.specs.Diagnostic.{place_text}
use Rattle.program_diagnostics.proofs.line.put_line.Goals as goal

pub returns-clause-text : goal.returns-clause-text
returns-clause-text c =
    let file = c.args.file in
    let sentence = reason c.args.number (leb (length file.bytes.now) c.args.place) in
    wrote_as (ap (λ (p : Position). place_text file.name.now p.line p.column ++ (sentence ++ 10 ∷ [])) c.position_of-position.ensures)
    (wrote_more c.put_place-sentence.ensures.text (wrote_more c.put_reason-end.ensures c.put_byte.ensures))
