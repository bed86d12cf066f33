use Rattle.std.specs.Prelude.{◌≡◌, List, ℕ, ◌+◌, ◌-◌, ◌*◌, ◌<◌, length, drop, set}
use Rattle.std.proofs.Common.{sym, ap, ap₂, subst, ◌∙◌, arith, length-set}
use Rattle.wish_file.specs.Format.{wishes_in}
use Rattle.wish_file.specs.Wishes.{Wish, marked, Rising}
use Rattle.wish_file_lines.specs.Laws.{line_inside}
use Rattle.wish_file_reader.specs.Laws.{marks_line, mark_fits, mark_after, mark_step}
use Rattle.wish_file_reader.proofs.fill.mark_row.Goals as goal

pub field_at-variable-requires : goal.field_at-variable-requires
field_at-variable-requires c =
    let left : 0 < c.args.wishes - c.loop-i.i = omega arith in
    omega (arith, line_inside 2 c.args.file.now (16 + 11 * c.loop-i.i) (marks_line (length c.args.row.now) (c.args.wishes - c.loop-i.i) (drop (16 + 11 * c.loop-i.i) c.args.file.now) left c.loop-i.invariant.rising))

pub overflow_add-at : goal.overflow_add-at
overflow_add-at c =
    let left : 0 < c.args.wishes - c.loop-i.i = omega arith in
    omega (arith, line_inside 2 c.args.file.now (16 + 11 * c.loop-i.i) (marks_line (length c.args.row.now) (c.args.wishes - c.loop-i.i) (drop (16 + 11 * c.loop-i.i) c.args.file.now) left c.loop-i.invariant.rising))

pub field_at-mark-requires : goal.field_at-mark-requires
field_at-mark-requires c =
    let left : 0 < c.args.wishes - c.loop-i.i = omega arith in
    omega (arith, line_inside 2 c.args.file.now (16 + 11 * c.loop-i.i) (marks_line (length c.args.row.now) (c.args.wishes - c.loop-i.i) (drop (16 + 11 * c.loop-i.i) c.args.file.now) left c.loop-i.invariant.rising))

pub overflow_cast-mark : goal.overflow_cast-mark
overflow_cast-mark c =
    let left : 0 < c.args.wishes - c.loop-i.i = omega arith in
    omega (arith, mark_fits c.args.file.now (length c.args.row.now) (c.args.wishes - c.loop-i.i) (16 + 11 * c.loop-i.i) c.field_at-variable.result c.field_at-mark.result left c.loop-i.invariant.rising c.field_at-variable.ensures c.field_at-mark.ensures)

pub wish_for-requires : goal.wish_for-requires
wish_for-requires c =
    let left : 0 < c.args.wishes - c.loop-i.i = omega arith in
    omega (arith, mark_fits c.args.file.now (length c.args.row.now) (c.args.wishes - c.loop-i.i) (16 + 11 * c.loop-i.i) c.field_at-variable.result c.field_at-mark.result left c.loop-i.invariant.rising c.field_at-variable.ensures c.field_at-mark.ensures)

pub overflow_sub-row : goal.overflow_sub-row
overflow_sub-row c =
    let left : 0 < c.args.wishes - c.loop-i.i = omega arith in
    omega (arith, mark_fits c.args.file.now (length c.args.row.now) (c.args.wishes - c.loop-i.i) (16 + 11 * c.loop-i.i) c.field_at-variable.result c.field_at-mark.result left c.loop-i.invariant.rising c.field_at-variable.ensures c.field_at-mark.ensures)

pub bounds-row-variable : goal.bounds-row-variable
bounds-row-variable c =
    let left : 0 < c.args.wishes - c.loop-i.i = omega arith in
    omega (arith, mark_fits c.args.file.now (length c.args.row.now) (c.args.wishes - c.loop-i.i) (16 + 11 * c.loop-i.i) c.field_at-variable.result c.field_at-mark.result left c.loop-i.invariant.rising c.field_at-variable.ensures c.field_at-mark.ensures)

pub loop-i-preserved : goal.loop-i-preserved
loop-i-preserved c =
    let left : 0 < c.args.wishes - c.loop-i.i = omega arith in
    let fewer : c.args.wishes - c.loop-i.i - 1 ≡ c.args.wishes - (c.loop-i.i + 1) = omega arith in
    let next : 16 + 11 * c.loop-i.i + 11 ≡ 16 + 11 * (c.loop-i.i + 1) = omega arith in
    let same : wishes_in (c.args.wishes - c.loop-i.i - 1) (drop (16 + 11 * c.loop-i.i + 11) c.args.file.now) ≡ wishes_in (c.args.wishes - (c.loop-i.i + 1)) (drop (16 + 11 * (c.loop-i.i + 1)) c.args.file.now)
    = ap₂ (λ (k at : ℕ). wishes_in k (drop at c.args.file.now)) fewer next in
    let after : List ℕ = set c.loop-i.row (c.field_at-variable.result - 1) c.wish_for.result in
    record {
      long = length-set c.loop-i.row (c.field_at-variable.result - 1) c.wish_for.result ∙ c.loop-i.invariant.long;
      inside = omega (arith, line_inside 2 c.args.file.now (16 + 11 * c.loop-i.i) (marks_line (length c.args.row.now) (c.args.wishes - c.loop-i.i) (drop (16 + 11 * c.loop-i.i) c.args.file.now) left c.loop-i.invariant.rising));
      rising = subst (Rising (length c.args.row.now) 0) same (mark_after c.args.file.now (length c.args.row.now) (c.args.wishes - c.loop-i.i) (16 + 11 * c.loop-i.i) c.field_at-variable.result c.field_at-mark.result left c.loop-i.invariant.rising c.field_at-variable.ensures c.field_at-mark.ensures);
      to_come =
          c.loop-i.invariant.to_come
          ∙ mark_step c.args.file.now (length c.args.row.now) (c.args.wishes - c.loop-i.i) (16 + 11 * c.loop-i.i) c.field_at-variable.result c.field_at-mark.result left c.loop-i.invariant.rising c.field_at-variable.ensures c.field_at-mark.ensures c.loop-i.row
          ∙ ap₂ (λ (b : ℕ) (ws : List Wish). marked (set c.loop-i.row (c.field_at-variable.result - 1) b) ws) (sym c.wish_for.ensures) same;
    }

pub returns : goal.returns
returns c =
    let none : c.args.wishes - c.loop-i.i ≡ 0 = omega arith in
    sym (c.loop-i.invariant.to_come ∙ ap (λ (k : ℕ). marked c.loop-i.row (wishes_in k (drop (16 + 11 * c.loop-i.i) c.args.file.now))) none)
