-- Formulas in conjunctive normal form (document 01: rules).
-- In memory a formula is one list of signed numbers, each clause closed by 0 ("Words of the trade"). `clauses` takes such a list apart.
use Rattle.std.specs.Prelude.{Bool, true, false, cond, ◌&&◌, ◌||◌, List, [], ◌∷◌, ℕ, suc, ◌+◌, ℤ, length}
use Rattle.literal.specs.Literal.{is_literal, holds}
pub use Rattle.literal.specs.Literal.{closes}

-- some element passes the test; every element does
abbrev pub any {ℓ} : {A : Type ℓ} → (A → Bool) → List A → Bool
any p [] = false
any p (x ∷ l) = p x || any p l

abbrev pub all {ℓ} : {A : Type ℓ} → (A → Bool) → List A → Bool
all p [] = true
all p (x ∷ l) = p x && all p l

-- the literal of variable v that wants the value b stands in a clause
abbrev pub contains : ℕ → ℕ → List ℤ → Bool
contains v b c = any (is_literal v b) c

-- a literal in front of the first clause
abbrev pub onto : ℤ → List (List ℤ) → List (List ℤ)
onto x [] = (x ∷ []) ∷ []
onto x (c ∷ f) = (x ∷ c) ∷ f

-- the clauses of a closed list, in order
abbrev pub clauses : List ℤ → List (List ℤ)
clauses [] = []
clauses (x ∷ l) = cond (closes x) ([] ∷ clauses l) (onto x (clauses l))

-- "Entries counted below exclude closing zeros."
abbrev pub literals : List (List ℤ) → ℕ
literals [] = 0
literals (c ∷ f) = length c + literals f

-- "A rule is met when at least one entry holds; a rule without entries is never met."
abbrev pub satisfied : List ℕ → List ℤ → Bool
satisfied a c = any (holds a) c

-- A choice that meets the rules is a model of the formula.
abbrev pub models : List ℕ → List (List ℤ) → Bool
models a f = all (satisfied a) f

-- how many literals stand before the first closing 0, or in all where there is none
abbrev pub clause_length : List ℤ → ℕ
clause_length [] = 0
clause_length (x ∷ l) = cond (closes x) 0 (suc (clause_length l))
