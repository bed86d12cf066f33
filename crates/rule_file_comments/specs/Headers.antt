-- A header stands on one line, so what follows whole lines does not alter it.
use Rattle.std.specs.Prelude.{◌≡◌, List, ◌++◌, ℕ, ◌+◌, ◌≤◌, length, Option, Some}
use Rattle.rule_file.specs.Format.{Header, header}

-- the header at the front of whole lines, whatever follows them
pub record HeaderOf (f : List ℕ) : Type 0 where
  pub found : Option Header
  pub same : (x : List ℕ) → header (f ++ x) ≡ found
  pub fits : (h : Header) → found ≡ Some h → h.size ≤ length f
