use Rattle.std.specs.Prelude.{◌≡◌, List, ℕ, ◌+◌, ◌-◌, ◌*◌, ◌<◌, drop}
use Rattle.std.proofs.Common.{sym, ap₂, ◌∙◌, arith}
use Rattle.wish_file.specs.Format.{bad_lines}
use Rattle.wish_file_lines.specs.Laws.{line_inside}
use Rattle.wish_file_scan.specs.Laws.{lines_malformed, wish_misfit, wish_fits, lines_end, lines_extra}
use Rattle.wish_file_scan.proofs.scan_lines.Goals as goal

pub returns-then-not-is_line : goal.returns-then-not-is_line
returns-then-not-is_line c =
    let left : 0 < c.args.wishes - c.loop-i.i = omega arith in
    c.refuse.ensures
    ∙ sym (c.loop-i.invariant.1 ∙ lines_malformed c.args.n (c.args.wishes - c.loop-i.i) c.loop-i.last (16 + 11 * c.loop-i.i) (drop (16 + 11 * c.loop-i.i) c.args.file.now) left (sym c.is_line.ensures ∙ c.if-not-is_line.true))

pub field_at-number-requires : goal.field_at-number-requires
field_at-number-requires c =
    omega (arith, line_inside 2 c.args.file.now (16 + 11 * c.loop-i.i) (sym c.is_line.ensures ∙ c.if-not-is_line.false))

pub field_at-mark-requires : goal.field_at-mark-requires
field_at-mark-requires c =
    omega (arith, line_inside 2 c.args.file.now (16 + 11 * c.loop-i.i) (sym c.is_line.ensures ∙ c.if-not-is_line.false))

pub returns-then-is_misfit : goal.returns-then-is_misfit
returns-then-is_misfit c =
    let left : 0 < c.args.wishes - c.loop-i.i = omega arith in
    c.refuse-then-is_misfit.ensures
    ∙ sym (c.loop-i.invariant.1
    ∙ wish_misfit c.args.file.now c.args.n (c.args.wishes - c.loop-i.i) c.loop-i.last (16 + 11 * c.loop-i.i) c.field_at-number.result c.field_at-mark.result left
    (sym c.is_line.ensures ∙ c.if-not-is_line.false) c.field_at-number.ensures c.field_at-mark.ensures (sym c.is_misfit.ensures ∙ c.if-is_misfit.true))

pub loop-i-preserved : goal.loop-i-preserved
loop-i-preserved c =
    let s : List ℕ = c.args.file.now in
    let is-line = sym c.is_line.ensures ∙ c.if-not-is_line.false in
    let left : 0 < c.args.wishes - c.loop-i.i = omega arith in
    let fewer : c.args.wishes - c.loop-i.i - 1 ≡ c.args.wishes - (c.loop-i.i + 1) = omega arith in
    let next : 16 + 11 * c.loop-i.i + 11 ≡ 16 + 11 * (c.loop-i.i + 1) = omega arith in (
      omega (arith, line_inside 2 s (16 + 11 * c.loop-i.i) is-line),
      c.loop-i.invariant.1
          ∙ wish_fits s c.args.n (c.args.wishes - c.loop-i.i) c.loop-i.last (16 + 11 * c.loop-i.i) c.field_at-number.result c.field_at-mark.result left
          is-line c.field_at-number.ensures c.field_at-mark.ensures (sym c.is_misfit.ensures ∙ c.if-is_misfit.false)
          ∙ ap₂ (λ (k at : ℕ). bad_lines c.args.n k c.field_at-number.result at (drop at s)) fewer next,
    )

pub returns-then-end-file : goal.returns-then-end-file
returns-then-end-file c =
    let s : List ℕ = c.args.file.now in
    let none : c.args.wishes - c.loop-i.i ≡ 0 = omega arith in
    let past : 16 + 11 * c.loop-i.i ≡ 16 + 11 * c.args.wishes = omega arith in
    c.refuse-then-end-file.ensures
    ∙ sym (c.loop-i.invariant.1
    ∙ ap₂ (λ (k at : ℕ). bad_lines c.args.n k c.loop-i.last at (drop at s)) none past
    ∙ lines_extra c.args.n c.loop-i.last (16 + 11 * c.args.wishes) s c.if-end-file.true)

pub returns : goal.returns
returns c =
    let s : List ℕ = c.args.file.now in
    let none : c.args.wishes - c.loop-i.i ≡ 0 = omega arith in
    let past : 16 + 11 * c.loop-i.i ≡ 16 + 11 * c.args.wishes = omega arith in
    sym (c.loop-i.invariant.1
    ∙ ap₂ (λ (k at : ℕ). bad_lines c.args.n k c.loop-i.last at (drop at s)) none past
    ∙ lines_end c.args.n c.loop-i.last (16 + 11 * c.args.wishes) s c.if-end-file.false)
