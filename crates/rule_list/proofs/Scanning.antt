-- The invariant of the scan of a rule list, and its laws: one for each way a turn can go.
use Rattle.std.specs.Prelude.{Option, None, Some, Result, Ok, Err}
use mathlib.Core.Path.{◌≡◌, refl, sym, ap, ap₂, ◌∙◌}
use mathlib.Core.Bool.{Bool, true, false, cond}
use mathlib.Core.List.{List, [], ◌∷◌}
use Prim.Native.Nat.{ℕ, zero, ◌+◌, ◌≤◌, ◌<◌, zero-le}
use native.Mathlib.Nat.{zero-add}
use native.Mathlib.Omega.{arith}
use lib.Dec.{eqb}
use lib.IntN.{ℤ, pos}
use lib.ListN.{length, get_or, drop, set}
use Rattle.literal.specs.Literal.{variable}
use Rattle.literal.specs.Slots.{slot, wanted_bit}
use Rattle.formula.specs.Formula.{clauses, literals}
use Rattle.refusal.specs.declared.Unsound.{Unsound}
use Rattle.rule_list.specs.declared.scan.ListSize.{ListSize}
use Rattle.rule_list.specs.Laws.{scan, rule_closed, rule_clauses, rule_literal, rule_outside, rule_literals, rule_twice, rule_end, zeros, nonzeros, zeros-zero, zeros-literal, zeros_end, zeros-clauses, nonzeros-literals}
use Rattle.rule_list.specs.Scans.{rule_scan}
use Rattle.rule_list.specs.Sound.{unread, unclosed, bad_rule, SoundList}
use Rattle.rule_list.specs.Stamps.{slots, Stamped, stamped_none, stamped_closed, stamped_joined, stamp_free, stamp_taken}

-- After the elements before i: k clauses, m literals, and the literals of the open clause
pub record Scanning (n : ℕ) (list : List ℤ) (stamps : List ℕ) (k m : ℕ) (is_open : Bool) (i : ℕ) : Type 0 where
  pub clause : List ℤ
  pub inside : i ≤ length list
  pub few : k ≤ 9000
  pub many : m ≤ 31000
  pub so_far : bad_rule n unread 0 list ≡ bad_rule n (scan k m clause) i (drop i list)
  pub opened : unclosed clause ≡ is_open
  pub stamped : Stamped stamps (k + 1) clause
  pub closings : k + zeros (drop i list) ≡ zeros list
  pub entries : m + nonzeros (drop i list) ≡ nonzeros list

pub start : (n : ℕ) (list : List ℤ) (stamps : List ℕ) → length stamps ≡ slots → ((j : ℕ) → get_or stamps j 0 ≡ 0) → Scanning n list stamps 0 0 false 0
start n list stamps l z =
    record {
      clause = [];
      inside = zero-le;
      few = zero-le;
      many = zero-le;
      so_far = refl;
      opened = refl;
      stamped = stamped_none stamps l z;
      closings = zero-add (zeros list);
      entries = zero-add (nonzeros list);
    }

-- the two answers
abbrev pub unsound_at : ℕ → Result ListSize Unsound
unsound_at i = Err (record { place = i })

abbrev pub sound_of : ℕ → ℕ → Result ListSize Unsound
sound_of k m = Ok (record { clauses = k; literals = m })

module _ (n : ℕ) (list : List ℤ) (stamps : List ℕ) (k m : ℕ) (is_open : Bool) (i : ℕ)
    (s : Scanning n list stamps k m is_open i) where
  abbrev unsound : Type 0
  unsound = unsound_at i ≡ rule_scan (bad_rule n unread 0 list) list

  found : bad_rule n (scan k m s.clause) i (drop i list) ≡ Some i → unsound
  found e = sym (ap (λ (o : Option ℕ). rule_scan o list) (s.so_far ∙ e))

  -- the turn's element is variable v's
  module _ (h : i < length list) (v : ℕ) (e : v ≡ variable (get_or list i (pos 0))) where
    pub clauses_over : v ≡ 0 → k ≡ 9000 → unsound
    clauses_over z r = found (rule_clauses n k m s.clause list i h (sym e ∙ z) (omega arith))

    pub closed : v ≡ 0 → (k ≡ 9000 → ⊥) → Scanning n list stamps (k + 1) m false (i + 1)
    closed z r =
        let zero : variable (get_or list i (pos 0)) ≡ 0 = sym e ∙ z in
        let below : k < 9000 = omega (arith, s.few) in
        record {
          clause = [];
          inside = omega arith;
          few = omega arith;
          many = s.many;
          so_far = s.so_far ∙ rule_closed n k m s.clause list i h zero below;
          opened = refl;
          stamped = stamped_closed stamps (k + 1) s.clause s.stamped;
          closings = omega (arith, s.closings, (zeros-zero list i h zero).0);
          entries = omega (arith, s.entries, (zeros-zero list i h zero).1);
        }

    -- it is no closing 0
    module _ (z : v ≡ 0 → ⊥) where
      literal : variable (get_or list i (pos 0)) ≡ 0 → ⊥
      literal q = z (e ∙ q)

      pub outside : n < v → unsound
      outside r = found (rule_outside n k m s.clause list i h literal (omega arith))

      pub literals_over : v ≤ n → m ≡ 31000 → unsound
      literals_over r q = found (rule_literals n k m s.clause list i h literal (omega arith) (omega arith))

      module _ (r : v ≤ n) (q : m ≡ 31000 → ⊥) where
        below : m < 31000
        below = omega (arith, s.many)

        -- its stamp
        abbrev stamp : ℕ
        stamp = get_or stamps (slot (get_or list i (pos 0))) 0

        pub twice : eqb stamp (k + 1) ≡ true → unsound
        twice t =
            found
            (rule_twice n k m s.clause list i h literal (omega arith) below
            (stamp_taken stamps (k + 1) s.clause (get_or list i (pos 0)) s.stamped t))

        pub joined : n ≤ 640 → eqb stamp (k + 1) ≡ false → Scanning n list (set stamps (slot (get_or list i (pos 0))) (k + 1)) k (m + 1) true (i + 1)
        joined small t =
            let x : ℤ = get_or list i (pos 0) in
            record {
              clause = x ∷ s.clause;
              inside = omega arith;
              few = s.few;
              many = omega (arith, below);
              so_far = s.so_far ∙ rule_literal n k m s.clause list i h literal (omega arith) below (stamp_free stamps (k + 1) s.clause x s.stamped t);
              opened = refl;
              stamped = stamped_joined stamps (k + 1) s.clause x s.stamped (omega (arith, wanted_bit x));
              closings = omega (arith, s.closings, (zeros-literal list i h literal).0);
              entries = omega (arith, s.entries, (zeros-literal list i h literal).1);
            }

  -- the end of the list
  module _ (h : length list ≤ i) where
    ended : bad_rule n (scan k m s.clause) i (drop i list) ≡ cond is_open (Some i) None
    ended = rule_end n k m s.clause list i h ∙ ap (λ (b : Bool). cond b (Some i) None) s.opened

    pub left_open : is_open ≡ true → unsound
    left_open o = found (ended ∙ ap (λ (b : Bool). cond b (Some i) None) o)

    pub complete : is_open ≡ false → sound_of k m ≡ rule_scan (bad_rule n unread 0 list) list
    complete o =
        let sound : SoundList n list = s.so_far ∙ ended ∙ ap (λ (b : Bool). cond b (Some i) None) o in
        let clauses-are : k ≡ length (clauses list) = omega (arith, s.closings, (zeros_end list i h).0, (zeros-clauses n unread 0 list sound).0) in
        let literals-are : m ≡ literals (clauses list) = omega (arith, s.entries, (zeros_end list i h).1, nonzeros-literals list) in
        ap₂ sound_of clauses-are literals-are ∙ sym (ap (λ (o : Option ℕ). rule_scan o list) sound)
