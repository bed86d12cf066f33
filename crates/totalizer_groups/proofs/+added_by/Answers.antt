use Rattle.std.proofs.Common.{◌≡◌, ◌-◌, ◌/◌, ◌<◌, length, take, drop, arith}
use Rattle.totalizer_groups.specs.Laws.{added_split, left_length, right_length, added_bound}
use Rattle.totalizer_groups.proofs.+added_by.Goals as goal

pub overflow_add-result : goal.overflow_add-result
overflow_add-result t c =
    omega (arith, added_bound (c.args.m / 2) c.added_by.result (omega arith) c.added_by.ensures, added_bound (c.args.m - c.args.m / 2) c.added_by-2.result (omega arith) c.added_by-2.ensures)

pub overflow_add-result-2 : goal.overflow_add-result-2
overflow_add-result-2 t c =
    omega (arith, added_bound (c.args.m / 2) c.added_by.result (omega arith) c.added_by.ensures, added_bound (c.args.m - c.args.m / 2) c.added_by-2.result (omega arith) c.added_by-2.ensures)

pub returns : goal.returns
returns t c l e =
    let m = c.args.m in
    let many : 1 < length l = omega arith in
    let half : length l / 2 ≡ m / 2 = omega arith in
    omega (
      arith,
      added_split l many,
      c.added_by.ensures (take (length l / 2) l) (omega (arith, left_length l many, half)),
      c.added_by-2.ensures (take (length l - length l / 2) (drop (length l / 2) l)) (omega (arith, right_length l many)),
    )
