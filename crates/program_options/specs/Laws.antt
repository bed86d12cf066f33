-- The equations by which proofs compare two lists byte by byte.
use Rattle.std.specs.Prelude.{◌≡◌, refl, Bool, true, false, cond, List, [], ◌∷◌, ℕ, ◌+◌, ◌≤◌, ◌<◌, eqb, length, get_or, drop, Option, None, Some}
use Rattle.std.proofs.Common.{sym, ap, ap₂, add-one, arith, drop_of_length-le, drop-cons, eq-eqb, ne_eqb}
use Rattle.std.proofs.Math.Bool.{and-false}
use Rattle.words.specs.Words.{ascii}
use Rattle.program_options.specs.declared.Asked.TheVariants.{Help, Version}
use Rattle.program_options.specs.declared.Asked.{Asked}
use Rattle.program_options.specs.Options.{same_bytes, asked_by}

-- lists of different lengths
pub unequal : (a b : List ℕ) → (length a ≡ length b → ⊥) → same_bytes a b ≡ false
unequal [] [] h = absurd (h refl)
unequal [] (y ∷ b) h = refl
unequal (x ∷ a) [] h = refl
unequal (x ∷ a) (y ∷ b) h = rw (unequal a b (λ e. h (omega (arith, e)))) (and-false (eqb x y))

module _ (a b : List ℕ) (i : ℕ) where
  -- the bytes at an index agree, or differ
  pub agree : i < length a → i < length b → get_or a i 0 ≡ get_or b i 0 → same_bytes (drop i a) (drop i b) ≡ same_bytes (drop (i + 1) a) (drop (i + 1) b)
  agree h k e = rw (drop-cons a i 0 h, drop-cons b i 0 k, eq-eqb (get_or a i 0) (get_or b i 0) e, add-one i)

  pub differ : i < length a → i < length b → (get_or a i 0 ≡ get_or b i 0 → ⊥) → same_bytes (drop i a) (drop i b) ≡ false
  differ h k e = rw (drop-cons a i 0 h, drop-cons b i 0 k, ne_eqb (get_or a i 0) (get_or b i 0) e)

  -- nothing is left
  pub ended : length a ≤ i → length b ≤ i → same_bytes (drop i a) (drop i b) ≡ true
  ended h k = rw (drop_of_length-le a h, drop_of_length-le b k)

-- what a word asks for, by whether it is one of the two
module _ (word : List ℕ) where
  abbrev unhelped : Bool → Option Asked
  unhelped v = cond v (Some Version) None

  pub by_help : same_bytes word (ascii "--help") ≡ true → Some Help ≡ asked_by word
  by_help e = sym (ap (λ (h : Bool). cond h (Some Help) (unhelped (same_bytes word (ascii "--version")))) e)

  pub by_version : (v : Bool) → same_bytes word (ascii "--help") ≡ false → same_bytes word (ascii "--version") ≡ v → unhelped v ≡ asked_by word
  by_version v e f = sym (ap₂ (λ (h w : Bool). cond h (Some Help) (unhelped w)) e f)
