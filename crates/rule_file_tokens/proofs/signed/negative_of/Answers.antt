-- `rule_file_tokens::signed::negative_of` meets its contract: a number read has five digits at most.
use Rattle.std.proofs.Common.{sym, arith}
use Rattle.decimal.specs.Laws.{number_small}
use Rattle.rule_file_tokens.proofs.signed.negative_of.Goals as goal

pub literal_of-requires : goal.literal_of-requires
literal_of-requires c =
    omega (arith, number_small c.args.digits.now c.in_ok-magnitude.magnitude (sym c.in_ok-magnitude.ensures))
