-- An assignment that is being turned into its completion, byte by byte.
use Rattle.std.specs.Prelude.{◌≡◌, List, ℕ, ◌+◌, ◌≤◌, ◌<◌, length, get_or, set}
use Rattle.std.proofs.Common.{sym, ap, ◌∙◌, arith, length-set, get_or-set_same, get_or-set_other, ext_get_or}
use Rattle.std.proofs.Math.Decide.{ℕ_discrete}
use Rattle.walk.specs.Walk.{complete, complete_byte}
use Rattle.walk.proofs.Completion.{complete-length, complete_at}

-- the bytes before index i are those of the completion of a, and the others are those of a
pub record Filling (row a now : List ℕ) (i : ℕ) : Type 0 where
  pub size : length now ≡ length a
  pub passed : (k : ℕ) → k < i → get_or now k 2 ≡ get_or (complete row a) k 2
  pub left : (k : ℕ) → i ≤ k → get_or now k 2 ≡ get_or a k 2

pub start : (row a : List ℕ) → Filling row a a 0
start row a = record { size = λ i. length a; passed = λ k h. absurd (omega arith); left = λ k h i. get_or a k 2 }

module _ (row a now : List ℕ) (i : ℕ) (s : Filling row a now i) where
  -- the next byte is stored
  pub next : i < length now → (b : ℕ) → b ≡ complete_byte (get_or row i 2) (get_or now i 2) → Filling row a (set now i b) (i + 1)
  next h b e =
      record {
        size = length-set now i b ∙ s.size;
        passed = λ k l. elim (ℕ_discrete k i) [ yes q ↦ here k q | no q ↦ get_or-set_other now i k b 2 q ∙ s.passed k (omega arith) ];
        left = λ k l. get_or-set_other now i k b 2 (λ q. omega arith) ∙ s.left k (omega arith);
      }
    where
      here : (k : ℕ) → k ≡ i → get_or (set now i b) k 2 ≡ get_or (complete row a) k 2
      here k q =
          ap (λ (j : ℕ). get_or (set now i b) j 2) q
          ∙ get_or-set_same now i b 2 h
          ∙ e
          ∙ ap (complete_byte (get_or row i 2)) (s.left i (omega arith))
          ∙ sym (complete_at row a i 2 (omega (arith, s.size)))
          ∙ ap (λ (j : ℕ). get_or (complete row a) j 2) (sym q)

  -- all are
  pub whole : length now ≤ i → now ≡ complete row a
  whole h =
      ext_get_or 2 now (complete row a) (s.size ∙ sym (complete-length row a)) (λ k l. s.passed k (omega arith))
