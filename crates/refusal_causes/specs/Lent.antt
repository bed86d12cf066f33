-- What a call is lent, and the one order in which its causes to refuse count (document 01, "Refusals"): "Then lent values: 14, 13 (rules, wishes, choice), 11, 12. Last 15." Document 02's 16 comes "after 12 and before 15" (L2).
use Rattle.std.specs.Prelude.{Bool, true, false, cond, not, ◌||◌, List, [], ◌∷◌, ℕ, eqb, ltb, ℤ, length, Option, None, Some}
use Rattle.formula.specs.Formula.{clauses, literals}
use Rattle.refusal.specs.declared.Refusal.{Refusal}
use Rattle.refusal.specs.Reply.{first, place_if, too_short, Cause, first_found}
use Rattle.limits.specs.Limits.{max_variables, max_limit, max_wish_variables, max_wish_clauses, max_wish_literals}
use Rattle.rule_list.specs.Sound.{unread, bad_rule}
use Rattle.refusal_causes.specs.Empty.{empty_clause}
use Rattle.refusal_causes.specs.Sound.{bad_wish, bad_choice}

-- n and the rule list (empty in a call that takes none), and whether every rule must have an entry, as the export to OPB asks
pub record Problem : Type 0 where
  pub n : ℕ
  pub rules : List ℤ
  pub asks_entries : Bool

-- the limit d on broken wishes (0 in a call that takes none)
pub record Limits : Type 0 where
  pub d : ℕ

-- the wish row
pub record Wishes : Type 0 where
  pub row : List ℕ

-- how many elements the output needs and was lent (0 and 0 in a call that has none)
pub record Output : Type 0 where
  pub needed : ℕ
  pub room : ℕ

-- The values lent to a call, part by part, as far as it takes any (a file's reader takes none: it has the causes of its file, and then `too_short`). Wishes and a given choice are there only if the call takes them.
pub record Lent : Type 0 where
  pub problem : Problem
  pub limits : Limits
  pub wishes : Option Wishes
  pub choice : Option (List ℕ)
  pub output : Output

-- the parts, each without the values that only some calls take
abbrev pub ruled : Bool → ℕ → List ℤ → Problem
ruled asks_entries n rules = record { n = n; rules = rules; asks_entries = asks_entries }

abbrev pub limit_alone : ℕ → Limits
limit_alone d = record { d = d }

abbrev pub row_alone : List ℕ → Wishes
row_alone row = record { row = row }

-- a problem alone; and the same values with one more part
abbrev pub only : Problem → Lent
only problem = record { problem = problem; limits = limit_alone 0; wishes = None; choice = None; output = record { needed = 0; room = 0 } }

abbrev pub with_limits : Limits → Lent → Lent
with_limits limits s = record { problem = s.problem; limits = limits; wishes = s.wishes; choice = s.choice; output = s.output }

abbrev pub with_wishes : Wishes → Lent → Lent
with_wishes wishes s = record { problem = s.problem; limits = s.limits; wishes = Some wishes; choice = s.choice; output = s.output }

abbrev pub with_choice : List ℕ → Lent → Lent
with_choice choice s = record { problem = s.problem; limits = s.limits; wishes = s.wishes; choice = Some choice; output = s.output }

abbrev pub with_room : ℕ → ℕ → Lent → Lent
with_room needed room s =
    record { problem = s.problem; limits = s.limits; wishes = s.wishes; choice = s.choice; output = record { needed = needed; room = room } }

-- What the calls take, room left out: n and the rules (plain search, the writer of rules); the row and the limit besides (the searches with wishes, rewriting), or without rules (the writer of wishes), or with an entry in every rule (the export to OPB), or with a given choice and no limit (checking).
abbrev pub plain_problem : ℕ → List ℤ → Lent
plain_problem n rules = only (ruled false n rules)

abbrev pub wished_problem : ℕ → List ℤ → List ℕ → ℕ → Lent
wished_problem n rules row d = with_limits (limit_alone d) (with_wishes (row_alone row) (plain_problem n rules))

abbrev pub wishes_alone : ℕ → List ℕ → ℕ → Lent
wishes_alone n row d = wished_problem n [] row d

abbrev pub exported_problem : ℕ → List ℤ → List ℕ → ℕ → Lent
exported_problem n rules row d = with_limits (limit_alone d) (with_wishes (row_alone row) (only (ruled true n rules)))

abbrev pub chosen_problem : ℕ → List ℤ → List ℕ → List ℕ → Lent
chosen_problem n rules row choice = with_choice choice (with_wishes (row_alone row) (plain_problem n rules))

-- the place of a cause that only a part which the call takes can give
abbrev pub of_part : {A : Type 0} → Option A → (A → Option ℕ) → Option ℕ
of_part None f = None
of_part (Some part) f = f part

-- 14: "n outside 1 to 640, or d above 64"
abbrev pub out_of_range : ℕ → ℕ → Bool
out_of_range n d = eqb n 0 || (ltb max_variables n || ltb max_limit d)

abbrev pub range_cause : Lent → Cause
range_cause s = record { number = 14; place = place_if (out_of_range s.problem.n s.limits.d) 0 }

-- 13: "unsound lent list", at the "first bad index; length if not closed": the rules, the wishes and the choice
abbrev pub rules_cause : Lent → Cause
rules_cause s = record { number = 13; place = bad_rule s.problem.n unread 0 s.problem.rules }

abbrev pub row_cause : Lent → Cause
row_cause s = record { number = 13; place = of_part s.wishes (λ (w : Wishes). bad_wish 0 0 w.row) }

abbrev pub choice_cause : Lent → Cause
choice_cause s = record { number = 13; place = of_part s.choice (bad_choice 0) }

-- 11: "wish row or given choice not of length n"
abbrev pub wrong_length : ℕ → List ℕ → Bool
wrong_length n part = not (eqb (length part) n)

abbrev pub row_length_cause : Lent → Cause
row_length_cause s = record { number = 11; place = of_part s.wishes (λ (w : Wishes). place_if (wrong_length s.problem.n w.row) 0) }

abbrev pub choice_length_cause : Lent → Cause
choice_length_cause s = record { number = 11; place = of_part s.choice (λ (choice : List ℕ). place_if (wrong_length s.problem.n choice) 0) }

-- 12, for k clauses and m literals: "a call that takes a wish row, even one all free, with n above 256, over 4,096 rules or 16,384 entries"
abbrev pub oversized : ℕ → ℕ → ℕ → Bool
oversized n k m = ltb max_wish_variables n || (ltb max_wish_clauses k || ltb max_wish_literals m)

abbrev pub size_cause : Lent → Cause
size_cause s =
    let f = clauses s.problem.rules in
    record { number = 12; place = of_part s.wishes (λ (w : Wishes). place_if (oversized s.problem.n (length f) (literals f)) 0) }

-- 16 (document 02, L2): "a rule without entries, place the first such rule's closing zero"
abbrev pub empty_cause : Lent → Cause
empty_cause s = record { number = 16; place = cond s.problem.asks_entries (empty_clause 0 (clauses s.problem.rules)) None }

-- the causes that what is lent can give, in their order; 15 is not among them
abbrev pub causes : Lent → List Cause
causes s =
    range_cause s
    ∷ rules_cause s
    ∷ row_cause s
    ∷ choice_cause s
    ∷ row_length_cause s
    ∷ choice_length_cause s
    ∷ size_cause s
    ∷ empty_cause s
    ∷ []

-- the refusal that they give, if any: without one the call is admitted, and can only lack room
abbrev pub unadmitted : Lent → Option Refusal
unadmitted s = first_found (causes s)

-- the refusal that a call gives for what it was lent, if any: "Last 15"
abbrev pub refusal_of : Lent → Option Refusal
refusal_of s = first (unadmitted s ∷ too_short s.output.needed s.output.room ∷ [])
