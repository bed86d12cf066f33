-- What holds of lent values that are admitted: none of the causes before 15 applies to them. The facts have names, and nothing goes by a cause's place in the list: `search` finds what is said of a cause wherever it stands.
use Rattle.std.specs.Prelude.{◌≡◌, refl, Bool, true, false, cond, not, ◌||◌, List, [], ◌∷◌, ℕ, ◌≤◌, ◌<◌, eqb, ltb, ℤ, length, Option, None, Some}
use Rattle.std.proofs.Common.{ap, arith, eqb-true, ltb-true, ltb-false, le-ltb, eq-eqb, ne_eqb}
use Rattle.std.proofs.lemmas.Bool.{eqb-false, not-true, not-false}
use Rattle.formula.specs.Formula.{clauses, literals}
use Rattle.refusal.specs.declared.Refusal.{Refusal}
use Rattle.refusal.specs.Laws.{no_first, first_some, first_of_two, place_if_none, none_found, each_unfound, first_number, enough_room, neither}
use Rattle.refusal.specs.Passing.{Passes, no_cause, by_place, unfound, by_found}
use Rattle.refusal.specs.Reply.{Cause, place_if, cause_at, given, too_short}
use Rattle.limits.specs.Limits.{max_variables, max_limit, max_wish_variables, max_wish_clauses, max_wish_literals}
use Rattle.rule_list.specs.Sound.{unread, bad_rule, SoundList}
use Rattle.refusal_causes.specs.Empty.{empty_clause}
use Rattle.refusal_causes.specs.Laws.{in_range}
use Rattle.refusal_causes.specs.Lent.{Lent, Wishes, ruled, limit_alone, row_alone, plain_problem, wished_problem, exported_problem, wishes_alone, with_limits, with_wishes, with_room, only, of_part, out_of_range, wrong_length, oversized, range_cause, rules_cause, row_cause, choice_cause, row_length_cause, choice_length_cause, size_cause, empty_cause, causes, unadmitted, refusal_of}
use Rattle.refusal_causes.specs.Sound.{bad_wish, bad_choice}

-- what holds of a part, if the call takes it
abbrev pub InPart : {A : Type 0} → Option A → (A → Type 0) → Type 0
InPart None F = Unit {0}
InPart (Some part) F = F part

-- what holds where the call asks it
abbrev pub Asked : Bool → Type 0 → Type 0
Asked true F = F
Asked false F = Unit {0}

-- what 12 lets pass
pub record Small (n k m : ℕ) : Type 0 where
  pub variables : n ≤ max_wish_variables
  pub few : k ≤ max_wish_clauses
  pub short : m ≤ max_wish_literals

abbrev pub SmallProblem : ℕ → List ℤ → Type 0
SmallProblem n rules = Small n (length (clauses rules)) (literals (clauses rules))

-- "Refusals": what holds of what a call is lent where none of its causes before 15 applies
pub record Admitted (s : Lent) : Type 0 where
  pub positive : 0 < s.problem.n
  pub most : s.problem.n ≤ max_variables
  pub limited : s.limits.d ≤ max_limit
  pub sound_rules : SoundList s.problem.n s.problem.rules
  pub sound_row : InPart s.wishes (λ (w : Wishes). bad_wish 0 0 w.row ≡ None)
  pub sound_choice : InPart s.choice (λ (choice : List ℕ). bad_choice 0 choice ≡ None)
  pub long_row : InPart s.wishes (λ (w : Wishes). length w.row ≡ s.problem.n)
  pub long_choice : InPart s.choice (λ (choice : List ℕ). length choice ≡ s.problem.n)
  pub small : InPart s.wishes (λ (w : Wishes). SmallProblem s.problem.n s.problem.rules)
  pub entries : Asked s.problem.asks_entries (empty_clause 0 (clauses s.problem.rules) ≡ None)

-- a cause of a part does not apply exactly when the part, if there is one, is as it must be
module _ {A : Type 0} {f : A → Option ℕ} {F : A → Type 0} where
  in_part : (o : Option A) → ((part : A) → f part ≡ None → F part) → of_part o f ≡ None → InPart o F
  in_part None g e = tt
  in_part (Some part) g e = g part e

  of_part_lem : (o : Option A) → ((part : A) → F part → f part ≡ None) → InPart o F → of_part o f ≡ None
  of_part_lem None g a = refl
  of_part_lem (Some part) g a = g part a

-- nor one that only some calls ask for
in_asked : (b : Bool) (o : Option ℕ) → cond b o None ≡ None → Asked b (o ≡ None)
in_asked true o e = e
in_asked false o e = tt

of_asked : (b : Bool) (o : Option ℕ) → Asked b (o ≡ None) → cond b o None ≡ None
of_asked true o e = e
of_asked false o e = refl

-- each test that says no, and the fact that it stands for
length_right : (n : ℕ) (part : List ℕ) → place_if (wrong_length n part) 0 ≡ None → length part ≡ n
length_right n part e = eqb-true (length part) n (not-false (eqb (length part) n) (place_if_none (wrong_length n part) 0 e))

right_length : (n : ℕ) (part : List ℕ) → length part ≡ n → place_if (wrong_length n part) 0 ≡ None
right_length n part e = ap (λ (b : Bool). place_if (not b) 0) (eq-eqb (length part) n e)

size_small : (n k m : ℕ) → place_if (oversized n k m) 0 ≡ None → Small n k m
size_small n k m e =
    let one = neither (ltb max_wish_variables n) (ltb max_wish_clauses k || ltb max_wish_literals m) (place_if_none (oversized n k m) 0 e) in
    let two = neither (ltb max_wish_clauses k) (ltb max_wish_literals m) one.1 in
    record {
      variables = ltb-false max_wish_variables n one.0;
      few = ltb-false max_wish_clauses k two.0;
      short = ltb-false max_wish_literals m two.1;
    }

small_size : (n k m : ℕ) → Small n k m → place_if (oversized n k m) 0 ≡ None
small_size n k m a = rw (le-ltb max_wish_variables n a.variables, le-ltb max_wish_clauses k a.few, le-ltb max_wish_literals m a.short)

range_in : (n d : ℕ) → 0 < n → n ≤ max_variables → d ≤ max_limit → place_if (out_of_range n d) 0 ≡ None
range_in n d p h k = rw (ne_eqb n 0 (λ e. omega arith), le-ltb max_variables n h, le-ltb max_limit d k)

-- where no cause before 15 applies, all of this holds; and where it holds, none applies
module _ (s : Lent) where
  abbrev n : ℕ
  n = s.problem.n

  abbrev f : List (List ℤ)
  f = clauses s.problem.rules

  abbrev Absent : Cause → Type 0
  Absent c = c.place ≡ None

  pub admitted : unadmitted s ≡ None → Admitted s
  admitted e =
      let unfound = none_found (causes s) e in
      let range : Absent (range_cause s) = search in
      let rules : Absent (rules_cause s) = search in
      let row : Absent (row_cause s) = search in
      let choice : Absent (choice_cause s) = search in
      let row_length : Absent (row_length_cause s) = search in
      let choice_length : Absent (choice_length_cause s) = search in
      let size : Absent (size_cause s) = search in
      let empty : Absent (empty_cause s) = search in
      let numbers = in_range n s.limits.d (place_if_none (out_of_range n s.limits.d) 0 range) in
      record {
        positive = numbers.0;
        most = numbers.1;
        limited = numbers.2;
        sound_rules = rules;
        sound_row = in_part s.wishes (λ w g. g) row;
        sound_choice = in_part s.choice (λ part g. g) choice;
        long_row = in_part s.wishes (λ w. length_right n w.row) row_length;
        long_choice = in_part s.choice (length_right n) choice_length;
        small = in_part s.wishes (λ w. size_small n (length f) (literals f)) size;
        entries = in_asked s.problem.asks_entries (empty_clause 0 f) empty;
      }

  pub none_applies : Admitted s → unadmitted s ≡ None
  none_applies a =
      let range : Absent (range_cause s) = range_in n s.limits.d a.positive a.most a.limited in
      let row : Absent (row_cause s) = of_part_lem s.wishes (λ w g. g) a.sound_row in
      let choice : Absent (choice_cause s) = of_part_lem s.choice (λ part g. g) a.sound_choice in
      let row_length : Absent (row_length_cause s) = of_part_lem s.wishes (λ w. right_length n w.row) a.long_row in
      let choice_length : Absent (choice_length_cause s) = of_part_lem s.choice (right_length n) a.long_choice in
      let size : Absent (size_cause s) = of_part_lem s.wishes (λ w. small_size n (length f) (literals f)) a.small in
      let empty : Absent (empty_cause s) = of_asked s.problem.asks_entries (empty_clause 0 f) a.entries in
      each_unfound (causes s) (search depth 20)

  -- nothing but 14 looks at the limit
  pub at_limit : (d : ℕ) → d ≤ max_limit → Admitted s → Admitted (with_limits (limit_alone d) s)
  at_limit d h a = search

  -- the refusal of a call whose output needs so many elements and was lent room for so many
  module _ (needed room : ℕ) where
    pub refused-lent : (r : Refusal) → unadmitted s ≡ Some r → refusal_of (with_room needed room s) ≡ Some r
    refused-lent r e = first_some (unadmitted s) (too_short needed room ∷ []) r e

    pub room_decides : unadmitted s ≡ None → refusal_of (with_room needed room s) ≡ too_short needed room
    room_decides e = first_of_two (unadmitted s) (too_short needed room) e

    pub admitted_room : Admitted s → refusal_of (with_room needed room s) ≡ too_short needed room
    admitted_room a = room_decides (none_applies a)

    pub unrefused : refusal_of (with_room needed room s) ≡ None → Admitted s × (needed ≤ room)
    unrefused e =
        let one = no_first (unadmitted s) (too_short needed room ∷ []) e in
        (admitted one.0, enough_room needed room (no_first (too_short needed room) [] one.1).0)

-- the numbers of these causes are above 0, and none is 15: the list itself tells it
pub lent-number : (s : Lent) (r : Refusal) → unadmitted s ≡ Some r → (0 < r.number) × (r.number ≡ 15 → ⊥)
lent-number s r e = (
  ltb-true 0 r.number (first_number (ltb 0) (causes s) refl r e),
  eqb-false r.number 15 (not-true (eqb r.number 15) (first_number (λ (k : ℕ). not (eqb k 15)) (causes s) refl r e)),
)

-- Of a call with wishes and no given choice, whose n and d are in range and whose rules and row are sound, these causes are left: 11, 12 and, where it asks that every rule has an entry, 16.
module _ (test : ℕ → Bool) (n : ℕ) (rules : List ℤ) (row : List ℕ) (d : ℕ) (asks_entries : Bool) where
  abbrev asked : Lent
  asked = with_limits (limit_alone d) (with_wishes (row_alone row) (only (ruled asks_entries n rules)))

  abbrev Allowed : Cause → Type 0
  Allowed c = Passes test (given c)

  pub sound_left : 0 < n → n ≤ max_variables → d ≤ max_limit → SoundList n rules → bad_wish 0 0 row ≡ None
      → test 11 ≡ true → test 12 ≡ true → (asks_entries ≡ true → test 16 ≡ true) → Passes test (unadmitted asked)
  sound_left p m h l w t11 t12 t16 =
      let range : Allowed (range_cause asked) = unfound 14 (place_if (out_of_range n d) 0) (range_in n d p m h) in
      let sound : Allowed (rules_cause asked) = unfound 13 (bad_rule n unread 0 rules) l in
      let wished : Allowed (row_cause asked) = unfound 13 (bad_wish 0 0 row) w in
      let long : Allowed (row_length_cause asked) = by_place 11 t11 (place_if (wrong_length n row) 0) in
      let small : Allowed (size_cause asked) = by_place 12 t12 (place_if (oversized n (length (clauses rules)) (literals (clauses rules))) 0) in
      let filled : Allowed (empty_cause asked) = entries asks_entries t16 in
      by_found (causes asked) (search no_cause depth 20)
    where
      entries : (b : Bool) → (b ≡ true → test 16 ≡ true) → Passes test (cause_at 16 (cond b (empty_clause 0 (clauses rules)) None))
      entries true t = by_place 16 (t refl) (empty_clause 0 (clauses rules))
      entries false t = no_cause

-- n variables in range and a sound list are admitted, where nothing else is lent
pub plain_admitted : (n : ℕ) (rules : List ℤ) → 0 < n → n ≤ max_variables → SoundList n rules → Admitted (plain_problem n rules)
plain_admitted n rules p h e = search arith

-- and so are few enough variables with a sound row of their length and a limit, without rules
pub alone_admitted : (n : ℕ) (row : List ℕ) (d : ℕ) → 0 < n → n ≤ max_wish_variables → d ≤ max_limit → bad_wish 0 0 row ≡ None → length row ≡ n → Admitted (wishes_alone n row d)
alone_admitted n row d p h k e l = search arith

-- what the export admits, the other calls with wishes admit
pub export_wished : (n : ℕ) (rules : List ℤ) (row : List ℕ) (d : ℕ) → Admitted (exported_problem n rules row d) → Admitted (wished_problem n rules row d)
export_wished n rules row d a = search
