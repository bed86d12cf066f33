-- A rule without entries (document 02, L2): a clause that has no literal.
use Rattle.std.specs.Prelude.{cond, List, [], ◌∷◌, ℕ, suc, ◌+◌, eqb, ℤ, length, Option, None, Some}

-- "the first such rule's closing zero": its index, where the first of these clauses begins at index i. A clause with k literals has its closing 0 at i + k, and the next clause begins behind that.
abbrev pub empty_clause : ℕ → List (List ℤ) → Option ℕ
empty_clause i [] = None
empty_clause i (c ∷ f) = cond (eqb (length c) 0) (Some i) (empty_clause (suc (i + length c)) f)
