-- The invariant of the second pass over a file, and its laws: one for each way a turn can go.
use Rattle.std.proofs.Common.{sym}
use Rattle.std.specs.Prelude.{Option, None, Some, unwrap_or, Result, Ok, Err}
use mathlib.Core.Path.{◌≡◌, refl, sym, ap, ◌∙◌, subst}
use mathlib.Core.Bool.{Bool, true, false, not, ◌&&◌}
use mathlib.Core.List.{List, [], ◌∷◌, map}
use Rattle.std.proofs.lemmas.Option.{none-some}
use Prim.Native.Nat.{ℕ, ◌+◌, ◌≤◌, ◌<◌, zero-le}
use native.Mathlib.Numerals.{add-one}
use native.Mathlib.Omega.{arith}
use lib.Dec.{eqb}
use lib.IntN.{ℤ, pos}
use lib.ListN.{length, get_or, set, length-set}
use lib.Seq.{sets}
use mir.Syntax.{w32}
use mir.Val.{to_z, of_z}
use Rattle.literal.specs.Literal.{variable, closes}
use Rattle.literal.specs.Slots.{slot, wanted_bit}
use Rattle.refusal.specs.Reply.{refusal}
use Rattle.limits.specs.Limits.{max_variables, max_clauses}
use Rattle.rule_list.specs.Laws.{scan}
use Rattle.rule_list.specs.Sound.{Scan}
use Rattle.rule_list.specs.Stamps.{slots, Stamped, stamped_none, stamped_closed, stamped_joined}
use Rattle.rule_file.specs.Accepted.{Next}
use Rattle.rule_file.proofs.Accepted.{good_next, first_good}
use Rattle.rule_file.specs.Format.{signed, element, repeats, past, bad_token, bad_tokens, stored, rules_of}
use Rattle.rule_file.proofs.Stored.{stamp_repeats, repeat_dropped, zero-stored, literal-stored}
use Rattle.rule_file.specs.Tokens.{Token, tokens_from}
use Rattle.rule_file_tokens.specs.declared.Element.{Element}
use Rattle.rule_file_tokens.specs.declared.Malformed.{Malformed}
use Rattle.rule_file_tokens.specs.Laws.{Good, token_end, token_bad, token_good, token_numbers, number-held}
use Rattle.rule_file_tokens.specs.NextToken.{malformed, element_at, next_of}
use Rattle.rule_file_reader.specs.Passes.{FoundGood}

-- After the tokens before a place, which had k closing zeros: the rest is good, and with what it is to store the list is what it is to be.
pub record Filling (file : List ℕ) (from : ℕ) (rules₀ : List ℤ) (stamps : List ℕ) (k : ℕ) (rules : List ℤ) (at i : ℕ) : Type 0 where
  pub n : ℕ
  pub c : ℕ
  pub size : ℕ
  pub m : ℕ
  pub clause : List ℤ
  pub variables : n ≤ max_variables
  pub clauses : c ≤ max_clauses
  pub few : k ≤ c
  pub good : bad_tokens n c size (scan k m clause) (tokens_from file at) ≡ None
  pub stamped : Stamped stamps (k + 1) clause
  pub room : i + length (stored (scan k m clause) (map element (tokens_from file at))) ≤ length rules
  pub long : length rules ≡ length rules₀
  pub so_far : sets rules i (stored (scan k m clause) (map element (tokens_from file at))) ≡ sets rules₀ 0 (rules_of (tokens_from file from))

pub start : (file : List ℕ) (from : ℕ) (rules : List ℤ) (stamps : List ℕ) → length stamps ≡ slots → ((j : ℕ) → get_or stamps j 0 ≡ 0)
    → FoundGood (tokens_from file from) → length (rules_of (tokens_from file from)) ≤ length rules → Filling file from rules stamps 0 rules from 0
start file from rules stamps l z f room =
    record {
      n = f.n;
      c = f.c;
      size = f.size;
      m = 0;
      clause = [];
      variables = f.variables;
      clauses = f.clauses;
      few = zero-le;
      good = f.good;
      stamped = stamped_none stamps l z;
      room = omega arith;
      long = refl;
      so_far = refl;
    }

module _ {file : List ℕ} {from : ℕ} {rules₀ : List ℤ} {stamps : List ℕ} {k : ℕ} {rules : List ℤ} {at i : ℕ} (s : Filling file from rules₀ stamps k rules at i) where
  abbrev read : Scan
  read = scan k s.m s.clause

  -- no token is left
  pub filled : Ok None ≡ next_of (tokens_from file at) → rules ≡ sets rules₀ 0 (rules_of (tokens_from file from))
  filled e = sym (ap (λ (ts : List Token). sets rules i (stored read (map element ts))) (token_end file at (sym e))) ∙ s.so_far

  -- the stream goes on from the same place
  pub onward : {at' : ℕ} → at' ≡ at → Filling file from rules₀ stamps k rules at' i
  onward e = subst (λ (j : ℕ). Filling file from rules₀ stamps k rules j i) (sym e) s

  -- the first token is not refused, nor any after it
  next_good : (t : Token) (ts : List Token) → tokens_from file at ≡ t ∷ ts
      → (bad_token s.n s.c read t.place (signed t.bytes) ≡ None) × (bad_tokens s.n s.c s.size (past read (element t)) ts ≡ None)
  next_good t ts e = first_good s.n s.c s.size read t ts (sym (ap (bad_tokens s.n s.c s.size read) e) ∙ s.good)

  -- none is malformed
  pub never : (place : ℕ) → malformed place ≡ next_of (tokens_from file at) → ⊥
  never place e =
      let b = token_bad file at place (sym e) in
      let good = (next_good (record { place = place; bytes = b.bytes }) b.rest b.split).0 in
      none-some (refusal 3 place) (sym ((sym (ap (bad_token s.n s.c read place) b.malformed) ∙ good)))

  -- so the list is filled where no number comes
  pub finished : (r : Result (Option Element) Malformed) → r ≡ next_of (tokens_from file at) → ((t : Element) → r ≡ Ok (Some t) → ⊥)
      → rules ≡ sets rules₀ 0 (rules_of (tokens_from file from))
  finished (Ok None) e none = filled e
  finished (Ok (Some t)) e none = absurd (none t refl)
  finished (Err m) e none = absurd (never m.place e)

  -- the next one gives x
  module _ {place next : ℕ} {x : ℤ} (e : element_at place x next ≡ next_of (tokens_from file at)) where
    g : Good file at place x next
    g = token_good file at place x next (sym e)

    pub later : (at < next) × (next ≤ length file)
    later = (g.later, g.inside)

    -- the numbers that are left
    left : List ℤ
    left = map element (tokens_from file next)

    numbers : map element (tokens_from file at) ≡ x ∷ left
    unfolding left
    numbers = token_numbers file at g

    passed : (bad_token s.n s.c read place (Some x) ≡ None) × (bad_tokens s.n s.c s.size (past read x) (tokens_from file next) ≡ None)
    passed =
        let good = next_good (record { place = place; bytes = g.bytes }) (tokens_from file next) g.split in (
          sym (ap (bad_token s.n s.c read place) g.number) ∙ good.0,
          sym (ap (λ (o : Option ℤ). bad_tokens s.n s.c s.size (past read (unwrap_or o (pos 0))) (tokens_from file next)) g.number) ∙ good.1,
        )

    fits : Next s.n s.c read x
    fits = good_next s.n s.c read place x s.clauses passed.0

    pub below : k < max_clauses
    below = omega (arith, fits.below, s.clauses)

    pub inside : variable x ≤ max_variables
    inside = omega (arith, fits.inside, s.variables)

    further : (t : Scan) → past read x ≡ t → bad_tokens s.n s.c s.size t (tokens_from file next) ≡ None
    further t p = sym (ap (λ (u : Scan). bad_tokens s.n s.c s.size u (tokens_from file next)) p) ∙ passed.1

    -- as an i32 holds it
    abbrev value : ℤ
    value = to_z w32 (of_z w32 x)

    held : value ≡ x
    held = number-held file at e

    pub value_inside : variable value ≤ max_variables
    value_inside = subst (λ (y : ℤ). variable y ≤ max_variables) (sym held) inside

    -- r says whether it is a repeat
    module _ (r : Bool) (told : r ≡ not (closes value) && eqb (get_or stamps (slot value) 0) (k + 1)) where
      repeat : r ≡ repeats read x
      repeat =
          told
          ∙ ap (λ (y : ℤ). not (closes y) && eqb (get_or stamps (slot y) 0) (k + 1)) held
          ∙ stamp_repeats k s.m s.clause x left stamps s.stamped

      pub dropped : r ≡ true → Filling file from rules₀ stamps k rules next i
      unfolding left
      dropped t =
          let one = repeat_dropped k s.m s.clause x left (sym repeat ∙ t) in
          let same : stored read (map element (tokens_from file at)) ≡ stored read left = ap (stored read) numbers ∙ one.1 in
          record {
            n = s.n;
            c = s.c;
            size = s.size;
            m = s.m;
            clause = s.clause;
            variables = s.variables;
            clauses = s.clauses;
            few = s.few;
            good = further read one.0;
            stamped = s.stamped;
            room = omega (arith, s.room, ap length same);
            long = s.long;
            so_far = sym (ap (sets rules i) same) ∙ s.so_far;
          }

      -- it is stored, and what is read then is t
      module _ (t : Scan) (one : (past read x ≡ t) × (stored read (x ∷ left) ≡ x ∷ stored t left)) where
        same : stored read (map element (tokens_from file at)) ≡ x ∷ stored t left
        same = ap (stored read) numbers ∙ one.1

        space : i < length rules
        space = omega (arith, s.room, ap length same)

        rules' : List ℤ
        rules' = set rules i (to_z w32 (of_z w32 x))

        long' : length rules' ≡ length rules
        unfolding rules'
        long' = length-set rules i (to_z w32 (of_z w32 x))

        room' : i + 1 + length (stored t left) ≤ length rules'
        room' = omega (arith, s.room, ap length same, long')

        so_far' : sets rules' (i + 1) (stored t left) ≡ sets rules₀ 0 (rules_of (tokens_from file from))
        unfolding rules'
        so_far' =
            ap (λ (z : ℤ). sets (set rules i z) (i + 1) (stored t left)) (number-held file at e)
            ∙ ap (λ (j : ℕ). sets (set rules i x) j (stored t left)) (add-one i)
            ∙ sym (ap (sets rules i) same)
            ∙ s.so_far

      pub has_room : r ≡ false → i < length rules
      has_room f = go (closes x) refl
        where
          go : (b : Bool) → closes x ≡ b → i < length rules
          go true z = space (scan (k + 1) s.m []) (zero-stored k s.m s.clause x left z)
          go false z = space (scan k (s.m + 1) (x ∷ s.clause)) (literal-stored k s.m s.clause x left z (sym repeat ∙ f))

      pub closed : closes value ≡ true → Filling file from rules₀ stamps (k + 1) (set rules i (to_z w32 (of_z w32 x))) next (i + 1)
      unfolding left rules'
      closed z =
          let t : Scan = scan (k + 1) s.m [] in
          let one = zero-stored k s.m s.clause x left (ap closes (sym held) ∙ z) in
          record {
            n = s.n;
            c = s.c;
            size = s.size;
            m = s.m;
            clause = [];
            variables = s.variables;
            clauses = s.clauses;
            few = omega (arith, fits.below);
            good = further t one.0;
            stamped = stamped_closed stamps (k + 1) s.clause s.stamped;
            room = room' t one;
            long = long' t one ∙ s.long;
            so_far = so_far' t one;
          }

      pub joined : closes value ≡ false → r ≡ false → (after : List ℕ) → after ≡ set stamps (slot value) (k + 1)
          → Filling file from rules₀ after k (set rules i (to_z w32 (of_z w32 x))) next (i + 1)
      unfolding left rules'
      joined z f after a =
          let t : Scan = scan k (s.m + 1) (x ∷ s.clause) in
          let one = literal-stored k s.m s.clause x left (ap closes (sym held) ∙ z) (sym repeat ∙ f) in
          record {
            n = s.n;
            c = s.c;
            size = s.size;
            m = s.m + 1;
            clause = x ∷ s.clause;
            variables = s.variables;
            clauses = s.clauses;
            few = s.few;
            good = further t one.0;
            stamped =
                subst (λ (l : List ℕ). Stamped l (k + 1) (x ∷ s.clause)) (sym (a ∙ ap (λ (y : ℤ). set stamps (slot y) (k + 1)) held))
                (stamped_joined stamps (k + 1) s.clause x s.stamped (omega (arith, inside, wanted_bit x)));
            room = room' t one;
            long = long' t one ∙ s.long;
            so_far = so_far' t one;
          }
