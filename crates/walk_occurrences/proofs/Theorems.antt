-- The arrangement and the closed list hold the same rules, and so do two sound lists with equal arrangements.
use Rattle.std.specs.Prelude.{◌≡◌, refl, Bool, true, false, ℕ, zero, suc, ◌-◌, ◌≤◌, ◌<◌, ltb, ℤ, length, get_or}
use Rattle.std.proofs.Common.{sym, ap, subst, ◌∙◌, true≢false, not-suc-le-zero, le_of_suc-le-suc, arith, ltb-true, ltb-false}
use mathlib.Core.List.Memᴰ
use mathlib.Core.List.{List, [], ◌∷◌, Memᴰ}
use Rattle.literal.specs.Literal.{variable, wanted, is_literal}
use Rattle.formula.specs.Formula.{contains, clauses}
use Rattle.choices.proofs.Lists.{any_at, any_member}
use Rattle.rule_list.specs.Sound.{SoundList}
use Rattle.rule_list_soundness.specs.Flat.{joining, well_formed}
use Rattle.rule_list_soundness.specs.Laws.{and_left, and_right}
use Rattle.rule_list_soundness.specs.Soundness.{sound}
use Rattle.walk_occurrences.specs.Occurrences.{numbered, occurrences, is_empty, empty_clauses, arrangement}
use Rattle.walk_occurrences.specs.SameRules.{IsNumber, SameRules, EqualRules}
use Rattle.walk_occurrences.specs.Numbered.{Passes}
use Rattle.walk_occurrences.proofs.Numbered.{numbered_in, numbered-from, numbered_rise}
use Rattle.walk_occurrences.proofs.Members.{is_itself, told, same_literal, no_longer}

-- the numbers of a test: a clause that passes has its number there, and each number there is that of a clause that passes
number_in : (p : List ℤ → Bool) (f : List (List ℤ)) {k : ℕ} {c : List ℤ} → IsNumber f k c → p c ≡ true → Memᴰ k (numbered 1 p f)
number_in p f {k} {c} i e =
    Memᴰ.cast (omega (arith, i.above)) (numbered_in p f 1 (k - 1) (omega (arith, i.above, i.up_to)) (ap p i.here ∙ e))

number-from : (p : List ℤ → Bool) (f : List (List ℤ)) {k : ℕ} → Memᴰ k (numbered 1 p f) → IsNumber f k (get_or f (k - 1) []) × (p (get_or f (k - 1) []) ≡ true)
number-from p f {k} m =
    let r : Passes 1 p f k = numbered-from p f 1 m in
    (record { above = r.low; up_to = omega (arith, r.high); here = refl }, r.passed)

is_empty_lem : (c : List ℤ) → is_empty c ≡ true → c ≡ []
is_empty_lem [] e = refl
is_empty_lem (x ∷ c) e = let z : ◌≡◌ {A = ℕ} 0 1 = cc in absurd (omega arith)

-- The arrangement of every formula holds the same rules as the formula.
pub same_rules : (f : List (List ℤ)) → SameRules f (arrangement f)
same_rules f =
    record {
      entry_in = λ {k} {c} {x} i m. number_in (contains (variable x) (wanted x)) f i (any_at (is_literal (variable x) (wanted x)) m (is_itself x));
      empty_in = λ {k} i. number_in is_empty f i refl;
      entry-from = λ {k} {v} {b} m.
          (let r = number-from (contains v b) f m in
          let x = any_member (is_literal v b) (get_or f (k - 1) []) r.1 in
          let t = told v b x.0 x.2 in
          (get_or f (k - 1) [], r.0, (x.0, x.1, t.0, t.1)));
      empty_from_lem = λ {k} m. (let r = number-from is_empty f m in subst (IsNumber f k) (is_empty_lem (get_or f (k - 1) []) r.1) r.0);
      holding_rise = λ v b. numbered_rise (contains v b) f 1;
      empty_rise = numbered_rise is_empty f 1;
    }

-- "the rules without entries, which no setting holds"
pub empty_unheld : (f : List (List ℤ)) {k : ℕ} (v b : ℕ) → Memᴰ k (arrangement f).empty → Memᴰ k ((arrangement f).holding v b) → ⊥
empty_unheld f {k} v b m h =
    let none : get_or f (k - 1) [] ≡ [] = is_empty_lem (get_or f (k - 1) []) (number-from is_empty f m).1 in
    true≢false (sym (number-from (contains v b) f h).1 ∙ ap (contains v b) none)

-- one direction: what the arrangement of f says is so in f', whose arrangement is equal
module _ (f f' : List (List ℤ)) (holding : (v b : ℕ) → occurrences f v b ≡ occurrences f' v b) (empty : empty_clauses f ≡ empty_clauses f') where
  number_kept : {k : ℕ} {c : List ℤ} → IsNumber f k c → k ≤ length f'
  number_kept {k} {c} i = go c i
    where
      go : (d : List ℤ) → IsNumber f k d → k ≤ length f'
      go [] n = ((same_rules f').empty_from_lem (subst (Memᴰ k) empty ((same_rules f).empty_in n))).up_to
      go (x ∷ d) n =
          let r = (same_rules f').entry-from {v = variable x} {b = wanted x} (subst (Memᴰ k) (holding (variable x) (wanted x)) ((same_rules f).entry_in n (Memᴰ.head refl))) in
          r.1.up_to

  no_more : length f ≤ length f'
  no_more = go (ltb 0 (length f)) refl
    where
      go : (b : Bool) → ltb 0 (length f) ≡ b → length f ≤ length f'
      go true e = number_kept (record { above = ltb-true 0 (length f) e; up_to = omega arith; here = refl })
      go false e = omega (arith, ltb-false 0 (length f) e)

  entry_kept : {k : ℕ} {c c' : List ℤ} → IsNumber f k c → IsNumber f' k c' → (x : ℤ) → Memᴰ x c → Memᴰ x c'
  entry_kept {k} {c} {c'} i i' x m =
      let r = (same_rules f').entry-from {v = variable x} {b = wanted x} (subst (Memᴰ k) (holding (variable x) (wanted x)) ((same_rules f).entry_in i m)) in
      let y = r.2 in
      let same : x ≡ y.0 = sym (same_literal y.0 x y.2 y.3) in
      subst (Memᴰ x) (sym r.1.here ∙ i'.here) (Memᴰ.cast same y.1)

  -- a rule of f repeats no entry, so it is no longer than the rule of f' with its number
  rule_shorter : (n : ℕ) → well_formed n f ≡ true → {k : ℕ} {c c' : List ℤ} → IsNumber f k c → IsNumber f' k c' → length c ≤ length c'
  rule_shorter n w {k} {c} {c'} i i' =
      no_longer n c [] c' (ap (joining n []) (sym i.here) ∙ clause_formed f (k - 1) w (omega (arith, i.above, i.up_to))) (entry_kept i i')
    where
      clause_formed : (g : List (List ℤ)) (j : ℕ) → well_formed n g ≡ true → j < length g → joining n [] (get_or g j []) ≡ true
      clause_formed [] j e h = absurd (not-suc-le-zero h)
      clause_formed (d ∷ g) zero e h = and_left (joining n [] d) (well_formed n g) e
      clause_formed (d ∷ g) (suc j) e h = clause_formed g j (and_right (joining n [] d) (well_formed n g) e) (le_of_suc-le-suc h)

-- The arrangement of a sound list determines its rules: only the order of the entries in a rule is not in it.
pub rules_determined : (n n' : ℕ) (rules rules' : List ℤ) → SoundList n rules → SoundList n' rules'
    → ((v b : ℕ) → occurrences (clauses rules) v b ≡ occurrences (clauses rules') v b)
    → empty_clauses (clauses rules) ≡ empty_clauses (clauses rules')
    → EqualRules (clauses rules) (clauses rules')
rules_determined n n' rules rules' s s' holding empty =
    let f : List (List ℤ) = clauses rules in
    let f' : List (List ℤ) = clauses rules' in
    let back : (v b : ℕ) → occurrences f' v b ≡ occurrences f v b = λ v b. sym (holding v b) in
    record {
      many = omega (arith, no_more f f' holding empty, no_more f' f back (sym empty));
      entries = λ i i' x. (entry_kept f f' holding empty i i' x, entry_kept f' f back (sym empty) i' i x);
      lengths = λ i i'.
          (omega (arith, rule_shorter f f' holding empty n (sound n rules s).formed i i', rule_shorter f' f back (sym empty) n' (sound n' rules' s').formed i' i));
    }
