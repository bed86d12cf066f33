-- `agreement_second_route::from_reader` meets its contract: the reader is refused, or plain search has the part of the list that it filled.
use Rattle.std.proofs.Common.{arith, ap, length, length-take}
use Rattle.agreement_second_route.specs.Laws.{read_inside}
use Rattle.agreement_second_route.proofs.from_reader.Goals as goal

pub slice_bounds-search-end : goal.slice_bounds-search-end
slice_bounds-search-end c =
    let k = c.in_ok-counts.counts in
    omega (arith, ap length c.in_ok-counts.ensures.output, read_inside c.args.file.now c.args.list.now k.variables k.clauses k.length c.in_ok-counts.ensures.reply)

pub slice_bounds-search-end-2 : goal.slice_bounds-search-end-2
slice_bounds-search-end-2 c =
    let k = c.in_ok-counts.counts in
    omega (arith, length-take k.length c.read_rules.new.rules, ap length c.in_ok-counts.ensures.output, read_inside c.args.file.now c.args.list.now k.variables k.clauses k.length c.in_ok-counts.ensures.reply)
