-- The invariant of the first pass over a file, and its laws: one for each way a turn can go.
use Rattle.std.specs.Prelude.{Option, None, Some, Result, Ok, Err}
use mathlib.Core.Path.{◌≡◌, refl, sym, ap, ap₂, ◌∙◌, subst}
use mathlib.Core.Bool.{Bool, true, false, not, ◌&&◌, ◌||◌}
use mathlib.Core.List.{List, [], ◌∷◌, map}
use Prim.Native.Nat.{ℕ, ◌+◌, ◌≤◌, ◌<◌, zero-le}
use native.Mathlib.Omega.{arith}
use lib.Dec.{eqb, ltb}
use lib.IntN.{ℤ}
use mir.Syntax.{w32}
use mir.Val.{to_z, of_z}
use lib.ListN.{length, get_or, set}
use Rattle.literal.specs.Literal.{variable, closes}
use Rattle.literal.specs.Slots.{slot, wanted_bit}
use Rattle.refusal.specs.declared.Refusal.{Refusal}
use Rattle.refusal.specs.Reply.{refusal, cause}
use Rattle.rule_list.specs.Laws.{scan}
use Rattle.rule_list.specs.Sound.{Scan, unread, unclosed}
use Rattle.rule_list.specs.Stamps.{slots, Stamped, stamped_none, stamped_closed, stamped_joined}
use Rattle.rule_file.specs.Format.{element, repeats, past, bad_tokens, stored, rules_of}
use Rattle.rule_file.proofs.Stored.{stamp_repeats, repeat_dropped, zero-stored, literal-stored}
use Rattle.rule_file.specs.Tokens.{Token, tokens_from}
use Rattle.rule_file_tokens.specs.Laws.{Good, token_end, token_bad, token_good, token_numbers, number-held}
use Rattle.rule_file_tokens.specs.NextToken.{malformed, element_at, next_of}
use Rattle.rule_file_token_faults.specs.Fault.{fault_of}
use Rattle.rule_file_token_faults.specs.Laws.{open_clause, literal_inside, literal_fits}
use Rattle.rule_file_token_check.specs.Check.{check_as}
use Rattle.rule_file_token_check.specs.Laws.{refused_malformed, refused-fault, goes_on}

-- the answer for a file of n variables and c clauses whose tokens begin at a place
abbrev pub answer : ℕ → ℕ → List ℕ → ℕ → Result ℕ Refusal
answer n c file from = check_as (bad_tokens n c (length file) unread (tokens_from file from)) (length (rules_of (tokens_from file from)))

-- After the tokens before a place: k clauses, m literals, and the literals of the open clause
pub record Checking (n c : ℕ) (file : List ℕ) (from : ℕ) (stamps : List ℕ) (k m : ℕ) (is_open : Bool) (at : ℕ) : Type 0 where
  pub clause : List ℤ
  pub few : k ≤ c
  pub many : m ≤ 31000
  pub so_far : bad_tokens n c (length file) unread (tokens_from file from) ≡ bad_tokens n c (length file) (scan k m clause) (tokens_from file at)
  pub counted : length (rules_of (tokens_from file from)) ≡ k + m + length (stored (scan k m clause) (map element (tokens_from file at)))
  pub opened : unclosed clause ≡ is_open
  pub stamped : Stamped stamps (k + 1) clause

pub start : (n c : ℕ) (file : List ℕ) (from : ℕ) (stamps : List ℕ) → length stamps ≡ slots → ((j : ℕ) → get_or stamps j 0 ≡ 0) → Checking n c file from stamps 0 0 false from
start n c file from stamps l z =
    record {
      clause = [];
      few = zero-le;
      many = zero-le;
      so_far = refl;
      counted = omega arith;
      opened = refl;
      stamped = stamped_none stamps l z;
    }

module _ {n c : ℕ} {file : List ℕ} {from : ℕ} {stamps : List ℕ} {k m : ℕ} {is_open : Bool} {at : ℕ}
    (s : Checking n c file from stamps k m is_open at) where
  abbrev read : Scan
  read = scan k m s.clause

  found : (r : Refusal) → bad_tokens n c (length file) read (tokens_from file at) ≡ Some r → Err r ≡ answer n c file from
  found r e = sym (ap (λ (o : Option Refusal). check_as o (length (rules_of (tokens_from file from)))) (s.so_far ∙ e))

  -- the stream goes on from the same place
  pub onward : {at' : ℕ} → at' ≡ at → Checking n c file from stamps k m is_open at'
  onward e = subst (λ (j : ℕ). Checking n c file from stamps k m is_open j) (sym e) s

  -- no token is left
  pub ended : Ok None ≡ next_of (tokens_from file at) → check_as (cause (ltb k c || is_open) 6 (length file)) (k + m) ≡ answer n c file from
  ended e =
      let done : tokens_from file at ≡ [] = token_end file at (sym e) in
      let none_left : length (stored read (map element (tokens_from file at))) ≡ 0 = ap (λ (ts : List Token). length (stored read (map element ts))) done in
      let all : k + m ≡ length (rules_of (tokens_from file from)) = omega (arith, s.counted, none_left) in
      ap₂ check_as
      (ap (λ (b : Bool). cause (ltb k c || b) 6 (length file)) (sym s.opened)
      ∙ ap (bad_tokens n c (length file) read) (sym done)
      ∙ sym s.so_far)
      all

  -- the next one is malformed
  pub unreadable : (place : ℕ) → malformed place ≡ next_of (tokens_from file at) → Err (refusal 3 place) ≡ answer n c file from
  unreadable place e =
      let b = token_bad file at place (sym e) in
      found (refusal 3 place)
      (ap (bad_tokens n c (length file) read) b.split
      ∙ refused_malformed n c (length file) k m s.clause place b.bytes b.rest b.malformed)

  -- it is the number x
  module _ {place next : ℕ} {x : ℤ} (e : element_at place x next ≡ next_of (tokens_from file at)) where
    g : Good file at place x next
    g = token_good file at place x next (sym e)

    pub later : (at < next) × (next ≤ length file)
    later = (g.later, g.inside)

    here : bad_tokens n c (length file) read (tokens_from file at)
        ≡ bad_tokens n c (length file) read (record { place = place; bytes = g.bytes } ∷ tokens_from file next)
    here = ap (bad_tokens n c (length file) read) g.split

    -- the numbers that are left
    left : List ℤ
    left = map element (tokens_from file next)

    numbers : map element (tokens_from file at) ≡ x ∷ left
    unfolding left
    numbers = token_numbers file at g

    counting : length (rules_of (tokens_from file from)) ≡ k + m + length (stored read (x ∷ left))
    counting = s.counted ∙ ap (λ (l : List ℤ). k + m + length (stored read l)) numbers

    -- as an i32 holds it
    abbrev value : ℤ
    value = to_z w32 (of_z w32 x)

    held : value ≡ x
    held = number-held file at e

    -- r says whether it is a repeat, and f its fault
    module _ (r : Bool) (told : r ≡ not (closes value) && eqb (get_or stamps (slot value) 0) (k + 1))
        (f : Option ℕ) (fault : f ≡ fault_of n c k m value r) where
      repeat : r ≡ repeats read x
      repeat =
          told
          ∙ ap (λ (y : ℤ). not (closes y) && eqb (get_or stamps (slot y) 0) (k + 1)) held
          ∙ stamp_repeats k m s.clause x left stamps s.stamped

      faults : (t : Bool) → r ≡ t → f ≡ fault_of n c k m x t
      faults t h = fault ∙ ap₂ (λ (y : ℤ) (u : Bool). fault_of n c k m y u) held h

      pub faulty : (number : ℕ) → f ≡ Some number → Err (refusal number place) ≡ answer n c file from
      faulty number h =
          found (refusal number place)
          (here ∙ refused-fault n c (length file) k m s.clause place g.bytes (tokens_from file next) x g.number number (sym h ∙ faults (repeats read x) repeat))

      module _ (none : f ≡ None) where
        fine : fault_of n c k m x r ≡ None
        fine = sym (faults r refl) ∙ none

        further : (t : Scan) → past read x ≡ t → bad_tokens n c (length file) unread (tokens_from file from) ≡ bad_tokens n c (length file) t (tokens_from file next)
        further t p =
            s.so_far ∙ here
            ∙ goes_on n c (length file) k m s.clause place g.bytes (tokens_from file next) x g.number (sym (faults (repeats read x) repeat) ∙ none)
            ∙ ap (λ (u : Scan). bad_tokens n c (length file) u (tokens_from file next)) p

        pub repeated : r ≡ true → Checking n c file from stamps k m is_open next
        unfolding left
        repeated t =
            let dropped = repeat_dropped k m s.clause x left (sym repeat ∙ t) in
            record {
              clause = s.clause;
              few = s.few;
              many = s.many;
              so_far = further read dropped.0;
              counted = counting ∙ ap (λ (l : List ℤ). k + m + length l) dropped.1;
              opened = s.opened;
              stamped = s.stamped;
            }

        pub closed : closes value ≡ true → Checking n c file from stamps (k + 1) m false next
        unfolding left
        closed z =
            let one = zero-stored k m s.clause x left (ap closes (sym held) ∙ z) in
            record {
              clause = [];
              few = omega (arith, open_clause n c k m x r fine);
              many = s.many;
              so_far = further (scan (k + 1) m []) one.0;
              counted = omega (arith, counting, ap length one.1);
              opened = refl;
              stamped = stamped_closed stamps (k + 1) s.clause s.stamped;
            }

        -- a literal
        module _ (z : closes value ≡ false) where
          literal : closes x ≡ false
          literal = ap closes (sym held) ∙ z

          pub inside : variable x ≤ n
          inside = literal_inside n c k m x r fine literal

          pub joined : n ≤ 640 → r ≡ false → (after : List ℕ) → after ≡ set stamps (slot value) (k + 1) → Checking n c file from after k (m + 1) true next
          unfolding left
          joined small t after a =
              let one = literal-stored k m s.clause x left literal (sym repeat ∙ t) in
              record {
                clause = x ∷ s.clause;
                few = s.few;
                many = omega (arith, literal_fits n c k m x r fine literal t);
                so_far = further (scan k (m + 1) (x ∷ s.clause)) one.0;
                counted = omega (arith, counting, ap length one.1);
                opened = refl;
                stamped =
                    subst (λ (l : List ℕ). Stamped l (k + 1) (x ∷ s.clause)) (sym (a ∙ ap (λ (y : ℤ). set stamps (slot y) (k + 1)) held))
                    (stamped_joined stamps (k + 1) s.clause x s.stamped (omega (arith, inside, wanted_bit x)));
              }
