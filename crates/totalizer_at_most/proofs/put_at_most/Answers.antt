-- `totalizer_at_most::put_at_most` meets its contract.
use Rattle.totalizer_at_most.specs.Limit.{group_asks, limit-asks, wrote_at_most}
use Rattle.totalizer_at_most.proofs.put_at_most.Goals as goal

pub put_group-whole-requires : goal.put_group-whole-requires
put_group-whole-requires c =
    group_asks c.args.n c.args.d c.args.leaves.now c.args.out.now c.args.from c.requires.0 c.requires.1 c.requires.2

pub put_limit-at-requires : goal.put_limit-at-requires
put_limit-at-requires c =
    limit-asks c.args.n c.args.d c.args.leaves.now c.args.out.now c.args.from c.requires.0 c.requires.1 c.requires.2 c.put_group-whole.ensures

pub returns : goal.returns
returns c = (
  wrote_at_most c.args.n c.args.d c.args.leaves.now c.args.out.now c.args.from c.requires.0 c.requires.1 c.requires.2 c.put_group-whole.ensures c.put_limit-at.ensures,
  c.put_group-whole.ensures.last,
)
