-- `walk_occurrences::layout::begin_of` meets its contract: the place is among the begins.
use mathlib.Core.Path.{sym}
use Prim.Native.Nat.{ℕ, ◌+◌, ◌-◌, ◌<◌}
use native.Mathlib.Omega.{arith}
use lib.ListN.{length}
use Rattle.limits.specs.Limits.{max_clauses}
use Rattle.walk_occurrences.specs.Layout.{begins_at, begins_of}
use Rattle.walk_occurrences.proofs.LayoutLaws.{begins_there, begins_read}
use Rattle.walk_occurrences.proofs.layout.begin_of.Goals as goal

-- how many clauses are before it
abbrev k-after-struct_known-1 : goal.After-struct_known-1 → ℕ
k-after-struct_known-1 c = c.args.clause.0 - 1

low-after-struct_known-1 : (c : goal.After-struct_known-1) → k-after-struct_known-1 c < length (begins_of c.args.arrangement.now)
low-after-struct_known-1 c = omega (arith, c.requires)

there-after-struct_known-1 : (c : goal.After-struct_known-1) → (k-after-struct_known-1 c < max_clauses) × (begins_at + k-after-struct_known-1 c < length c.args.arrangement.now)
there-after-struct_known-1 c = begins_there c.args.arrangement.now (k-after-struct_known-1 c) (low-after-struct_known-1 c)

pub overflow_add-result : goal.overflow_add-result
overflow_add-result c = omega (arith, there-after-struct_known-1 c)

pub offset_bounds-arrangement-k : goal.offset_bounds-arrangement-k
offset_bounds-arrangement-k c = omega (arith, there-after-struct_known-1 c)

-- how many clauses are before it
abbrev k-after-shared_slice_known-1-unread : goal.After-shared_slice_known-1-unread → ℕ
k-after-shared_slice_known-1-unread c = c.args.clause.0 - 1

low-after-shared_slice_known-1-unread : (c : goal.After-shared_slice_known-1-unread) → k-after-shared_slice_known-1-unread c < length (begins_of c.args.arrangement.now)
low-after-shared_slice_known-1-unread c = omega (arith, c.requires)

there-after-shared_slice_known-1-unread : (c : goal.After-shared_slice_known-1-unread) → (k-after-shared_slice_known-1-unread c < max_clauses) × (begins_at + k-after-shared_slice_known-1-unread c < length c.args.arrangement.now)
there-after-shared_slice_known-1-unread c = begins_there c.args.arrangement.now (k-after-shared_slice_known-1-unread c) (low-after-shared_slice_known-1-unread c)

pub bounds-arrangement-k : goal.bounds-arrangement-k
bounds-arrangement-k c = (there-after-shared_slice_known-1-unread c).1

-- how many clauses are before it
abbrev k-after-shared_slice_known-1 : goal.After-shared_slice_known-1 → ℕ
k-after-shared_slice_known-1 c = c.args.clause.0 - 1

low-after-shared_slice_known-1 : (c : goal.After-shared_slice_known-1) → k-after-shared_slice_known-1 c < length (begins_of c.args.arrangement.now)
low-after-shared_slice_known-1 c = omega (arith, c.requires)

pub returns : goal.returns
returns c = sym (begins_read c.args.arrangement.now (k-after-shared_slice_known-1 c) (low-after-shared_slice_known-1 c))
