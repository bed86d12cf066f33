-- The arrangement and the closed list hold the same rules (document 02, L10): "by number, the same entries, whatever their order in a rule".
use Rattle.std.specs.Prelude.{◌≡◌, ◌↔◌, ℕ, ◌-◌, ◌≤◌, ◌<◌, ℤ, length, get_or}
use mathlib.Core.List.{List, [], Memᴰ}
use Rattle.literal.specs.Literal.{variable, wanted}
use Rattle.walk_occurrences.specs.Occurrences.{Arrangement}

-- the clause c is number k of the formula f
pub record IsNumber (f : List (List ℤ)) (k : ℕ) (c : List ℤ) : Type 0 where
  pub above : 0 < k
  pub up_to : k ≤ length f
  pub here : get_or f (k - 1) [] ≡ c

-- the numbers of a list rise
abbrev pub Rising : List ℕ → Type 0
Rising l = (i j : ℕ) → i < j → j < length l → get_or l i 0 < get_or l j 0

-- The formula f and the arrangement A hold the same rules. What is in f is in A: rule k under each of its entries, or among those without entries. Nothing else is in A: what stands under an entry is the number of a rule that holds it, and what stands among those without entries is the number of one that has none. All numbers rise.
pub record SameRules (f : List (List ℤ)) (A : Arrangement) : Type 0 where
  pub entry_in : {k : ℕ} {c : List ℤ} {x : ℤ} → IsNumber f k c → Memᴰ x c → Memᴰ k (A.holding (variable x) (wanted x))
  pub empty_in : {k : ℕ} → IsNumber f k [] → Memᴰ k A.empty
  pub entry-from : {k v b : ℕ} → Memᴰ k (A.holding v b) → (c : List ℤ) × IsNumber f k c × ((x : ℤ) × Memᴰ x c × (variable x ≡ v) × (wanted x ≡ b))
  pub empty_from_lem : {k : ℕ} → Memᴰ k A.empty → IsNumber f k []
  pub holding_rise : (v b : ℕ) → Rising (A.holding v b)
  pub empty_rise : Rising A.empty

-- Two formulas hold the same rules: there are equally many, and by number they have the same entries and equally many, whatever their order.
pub record EqualRules (f f' : List (List ℤ)) : Type 0 where
  pub many : length f ≡ length f'
  pub entries : {k : ℕ} {c c' : List ℤ} → IsNumber f k c → IsNumber f' k c' → (x : ℤ) → Memᴰ x c ↔ Memᴰ x c'
  pub lengths : {k : ℕ} {c c' : List ℤ} → IsNumber f k c → IsNumber f' k c' → length c ≡ length c'
