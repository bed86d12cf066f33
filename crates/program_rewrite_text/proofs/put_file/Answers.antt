-- `program_rewrite_text::put_file` meets its contract: the writer refuses a sound list only for want of room.
use mathlib.Core.Path.{◌≡◌, ap, ◌∙◌}
use native.Mathlib.Omega.{arith}
use lib.ListN.{length}
use Rattle.rule_file.specs.Written.{written}
use Rattle.program_rewrite_text.specs.FileSize.{size_of}
use Rattle.program_rewrite_text.specs.Laws.{file_size_lem, file_put}
use Rattle.program_rewrite_text.specs.Sizes.{written-most}
use Rattle.program_rewrite_text.proofs.put_file.Goals as goal

pub returns : goal.returns
returns c =
    let (positive, most, sound) = c.requires in
    let size : c.size_of.result ≡ length (written c.args.n c.args.rules.now) =
    c.size_of.ensures ∙ ap size_of c.write_rules.ensures.reply ∙ file_size_lem c.args.n c.args.rules.now c.args.out.now positive most sound in record { length = size; output = c.write_rules.ensures.output ∙ file_put c.args.n c.args.rules.now c.args.out.now positive most sound; bound = omega (arith, size, written-most c.args.n c.args.rules.now most sound) }
