use Rattle.std.specs.Prelude.{◌≡◌, List, ℕ, zero, ◌+◌, ◌-◌, ◌*◌, ◌<◌, length, drop}
use Rattle.std.proofs.Common.{sym, ap₂, ◌∙◌, arith, le-ltb}
use Rattle.wish_file_lines.specs.Laws.{line_cut, line_malformed, line_more, line_ends, line_stops}
use Rattle.wish_file_lines.specs.Lines.{is_line}
use Rattle.wish_file_lines.proofs.is_line.Goals as goal

pub returns-then-file-at-lt-COLUMN_WIDTH : goal.returns-then-file-at-lt-COLUMN_WIDTH
returns-then-file-at-lt-COLUMN_WIDTH c =
    let left : 0 < c.args.columns - c.loop-i.i = omega arith in
    sym (c.loop-i.invariant.1 ∙ line_cut c.args.file.now (c.args.from + 5 * c.loop-i.i) (c.args.columns - c.loop-i.i) left c.if-file-at-lt-COLUMN_WIDTH.true)

pub returns-in_default : goal.returns-in_default
returns-in_default c =
    let left : 0 < c.args.columns - c.loop-i.i = omega arith in
    sym (c.loop-i.invariant.1
    ∙ line_malformed c.args.file.now (c.args.from + 5 * c.loop-i.i) (c.args.columns - c.loop-i.i) left (sym c.column_number.ensures ∙ c.in_default.is))

pub loop-i-preserved : goal.loop-i-preserved
loop-i-preserved c =
    let s : List ℕ = c.args.file.now in
    let left : 0 < c.args.columns - c.loop-i.i = omega arith in
    let fewer : c.args.columns - c.loop-i.i - 1 ≡ c.args.columns - (c.loop-i.i + 1) = omega arith in
    let next : c.args.from + 5 * c.loop-i.i + 5 ≡ c.args.from + 5 * (c.loop-i.i + 1) = omega arith in (
      omega arith,
      c.loop-i.invariant.1
          ∙ line_more s (c.args.from + 5 * c.loop-i.i) (c.args.columns - c.loop-i.i) left c.in-Some.field-0 (sym c.column_number.ensures ∙ c.in-Some.is)
          ∙ ap₂ (λ (k at : ℕ). is_line k (drop at s)) fewer next,
    )

pub returns-then-end-file : goal.returns-then-end-file
returns-then-end-file c =
    let s : List ℕ = c.args.file.now in
    let none : c.args.columns - c.loop-i.i ≡ 0 = omega arith in
    let past : c.args.from + 5 * c.loop-i.i ≡ c.args.from + 5 * c.args.columns = omega arith in
    sym (c.loop-i.invariant.1 ∙ ap₂ (λ (k at : ℕ). is_line k (drop at s)) none past ∙ line_ends s (c.args.from + 5 * c.args.columns) c.if-end-file.true)

pub returns-else-end-file : goal.returns-else-end-file
returns-else-end-file c =
    let s : List ℕ = c.args.file.now in
    let none : c.args.columns - c.loop-i.i ≡ 0 = omega arith in
    let past : c.args.from + 5 * c.loop-i.i ≡ c.args.from + 5 * c.args.columns = omega arith in
    le-ltb (c.args.from + 5 * c.args.columns) (length s) c.if-end-file.false
    ∙ sym (c.loop-i.invariant.1 ∙ ap₂ (λ (k at : ℕ). is_line k (drop at s)) none past ∙ line_stops s (c.args.from + 5 * c.args.columns) c.if-end-file.false)
