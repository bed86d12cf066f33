-- The leaves of a row, one byte after another.
use Rattle.std.specs.Prelude.{◌≡◌, List, [], ◌∷◌, ◌++◌, ℕ, suc, ◌+◌, ◌≤◌, ◌<◌, ℤ, length, get_or, take, drop, replicate}
use Rattle.std.proofs.Common.{sym, ap, ◌∙◌, append_assoc, append-nil, add-one, arith, length-append, length-take, take-append-drop, take-suc}
use Rattle.std.proofs.lemmas.List.{length-replicate}
use Rattle.wish.specs.Wish.{weight, breaking}
use Rattle.totalizer.specs.Totalizer.{leaves_from, leaves}

leaves-append : (v : ℕ) (a b : List ℕ) → leaves_from v (a ++ b) ≡ leaves_from v a ++ leaves_from (v + length a) b
leaves-append v [] b = ap (λ (k : ℕ). leaves_from k b) (omega arith)
leaves-append v (w ∷ a) b =
    let own : List ℤ = replicate (weight w) (breaking v w) in
    let next : suc v + length a ≡ v + suc (length a) = omega arith in
    ap (λ (l : List ℤ). own ++ l) (leaves-append (suc v) a b ∙ ap (λ (k : ℕ). leaves_from (suc v) a ++ leaves_from k b) next)
    ∙ sym (append_assoc own (leaves_from (suc v) a) (leaves_from (v + suc (length a)) b))

-- the leaves of the bytes before index i, and those of the byte there
module _ (row : List ℕ) (i : ℕ) (h : i < length row) where
  abbrev own : List ℤ
  own = replicate (weight (get_or row i 0)) (breaking (i + 1) (get_or row i 0))

  place : 1 + length (take i row) ≡ i + 1
  place = omega (arith, length-take i row)

  pub leaves_next : leaves (take i row) ++ own ≡ leaves (take (i + 1) row)
  leaves_next =
      sym (
      ap (λ (k : ℕ). leaves (take k row)) (add-one i)
      ∙ ap leaves (take-suc row i 0 h)
      ∙ leaves-append 1 (take i row) (get_or row i 0 ∷ [])
      ∙ ap (λ (k : ℕ). leaves (take i row) ++ (replicate (weight (get_or row i 0)) (breaking k (get_or row i 0)) ++ [])) place
      ∙ ap (λ (l : List ℤ). leaves (take i row) ++ l) (append-nil own)
      )

  pub leaves_room : length (leaves (take i row)) + weight (get_or row i 0) ≤ length (leaves row)
  leaves_room =
      let rest : List ℤ = leaves_from (1 + length (take (i + 1) row)) (drop (i + 1) row) in
      let all : leaves row ≡ leaves (take (i + 1) row) ++ rest =
      ap leaves (sym (take-append-drop (i + 1) row)) ∙ leaves-append 1 (take (i + 1) row) (drop (i + 1) row) in
      omega (
        arith,
        ap length all,
        length-append (leaves (take (i + 1) row)) rest,
        ap length leaves_next,
        length-append (leaves (take i row)) own,
        length-replicate (weight (get_or row i 0)) (breaking (i + 1) (get_or row i 0)),
      )
