-- Sound rule lists (document 01, "Refusals", 13): "not closed, outside -n..n, setting repeated, over the file's limits (31,001st entry, 9,001st closing zero)"; the place is the "first bad index; length if not closed". Instead of a repeated setting, document 02, L3, has a repeated entry: "Lent lists may hold opposite entries but not equal ones."
use Rattle.std.specs.Prelude.{◌≡◌, Bool, true, false, cond, not, ◌&&◌, List, [], ◌∷◌, ℕ, suc, ltb, leb, ℤ, Option, None, Some}
use Rattle.literal.specs.Literal.{variable, wanted}
use Rattle.formula.specs.Formula.{contains, closes}
use Rattle.limits.specs.Limits.{max_clauses, max_literals}

-- whether a literal may join the literals of a clause: none of them is equal to it, opposite ones do not matter
abbrev pub may_join : List ℤ → ℤ → Bool
may_join c x = not (contains (variable x) (wanted x) c)

-- a rule list as far as it was read: the clauses closed, the literals, and those of the clause that is still open, the last one first
pub record Scan : Type 0 where
  pub clauses : ℕ
  pub literals : ℕ
  pub clause : List ℤ

abbrev pub unread : Scan
unread = record { clauses = 0; literals = 0; clause = [] }

-- whether an element may come next
abbrev pub stands : ℕ → Scan → ℤ → Bool
stands n s x =
    cond (closes x) (ltb s.clauses max_clauses) (leb (variable x) n && (ltb s.literals max_literals && may_join s.clause x))

abbrev pub after : Scan → ℤ → Scan
after s x =
    cond (closes x)
    (record { clauses = suc s.clauses; literals = s.literals; clause = [] })
    (record { clauses = s.clauses; literals = suc s.literals; clause = x ∷ s.clause })

-- the end of a list leaves a clause open
abbrev pub unclosed : List ℤ → Bool
unclosed [] = false
unclosed (x ∷ c) = true

-- the first bad index of a rule list from index i on, after what s says was read
abbrev pub bad_rule : ℕ → Scan → ℕ → List ℤ → Option ℕ
bad_rule n s i [] = cond (unclosed s.clause) (Some i) None
bad_rule n s i (x ∷ list) = cond (stands n s x) (bad_rule n (after s x) (suc i) list) (Some i)

-- a sound list of n variables: it has no bad index
abbrev pub SoundList : ℕ → List ℤ → Type 0
SoundList n list = bad_rule n unread 0 list ≡ None
