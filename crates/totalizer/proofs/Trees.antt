-- What follows from the definitions of specs/Trees.antt.
use Rattle.std.specs.Prelude.{◌≡◌, refl, Bool, List, [], ◌∷◌, ◌++◌, ℕ, zero, suc, ◌+◌, ◌/◌, ◌≤◌, ◌<◌, ℤ, length, take, drop}
use Rattle.std.proofs.Common.{ap, ap₂, ◌∙◌, arith, length-append, length-take, length-drop, take-append-drop}
use Rattle.totalizer.specs.Totalizer.{Tree, leaf, node, halving, tree, size, count, Over}
use Rattle.totalizer.specs.Trees.{Within, held, leaves_of}

-- how often halving may be done does not matter, if it is often enough
halving_enough : (j k : ℕ) (l : List ℤ) → length l ≤ j → length l ≤ k → halving j l ≡ halving k l
halving_enough zero zero l hj hk = refl
halving_enough zero (suc k) [] hj hk = refl
halving_enough zero (suc k) (x ∷ l) hj hk = absurd (omega arith)
halving_enough (suc j) zero [] hj hk = refl
halving_enough (suc j) zero (x ∷ l) hj hk = absurd (omega arith)
halving_enough (suc j) (suc k) [] hj hk = refl
halving_enough (suc j) (suc k) (x ∷ []) hj hk = refl
halving_enough (suc j) (suc k) (x ∷ y ∷ l) hj hk =
    let whole : List ℤ = x ∷ y ∷ l in
    let m : ℕ = length whole / 2 in
    ap₂ node
    (halving_enough j k (take m whole) (omega (arith, length-take m whole)) (omega (arith, length-take m whole)))
    (halving_enough j k (drop m whole) (omega (arith, length-drop m whole)) (omega (arith, length-drop m whole)))

-- "A group of one leaf is that entry. A group of m above 1 splits into the first floor(m/2) leaves and the rest."
pub tree_one : (x : ℤ) → tree (x ∷ []) ≡ leaf x
tree_one x = refl

pub tree_split : (l : List ℤ) → 1 < length l → tree l ≡ node (tree (take (length l / 2) l)) (tree (drop (length l / 2) l))
tree_split [] h = absurd (omega arith)
tree_split (x ∷ []) h = absurd (omega arith)
tree_split (x ∷ y ∷ l) h =
    let whole : List ℤ = x ∷ y ∷ l in
    let m : ℕ = length whole / 2 in
    ap₂ node
    (halving_enough (suc (length l)) (length (take m whole)) (take m whole) (omega (arith, length-take m whole)) (omega arith))
    (halving_enough (suc (length l)) (length (drop m whole)) (drop m whole) (omega (arith, length-drop m whole)) (omega arith))

halving-leaves : (k : ℕ) (l : List ℤ) → 0 < length l → length l ≤ k → leaves_of (halving k l) ≡ l
halving-leaves zero l z h = absurd (omega arith)
halving-leaves (suc k) [] z h = absurd (omega arith)
halving-leaves (suc k) (x ∷ []) z h = refl
halving-leaves (suc k) (x ∷ y ∷ l) z h =
    let whole : List ℤ = x ∷ y ∷ l in
    let m : ℕ = length whole / 2 in
    ap₂ ◌++◌
    (halving-leaves k (take m whole) (omega (arith, length-take m whole)) (omega (arith, length-take m whole)))
    (halving-leaves k (drop m whole) (omega (arith, length-drop m whole)) (omega (arith, length-drop m whole)))
    ∙ take-append-drop m whole

pub tree-leaves : (l : List ℤ) → 0 < length l → leaves_of (tree l) ≡ l
tree-leaves l h = halving-leaves (length l) l h (omega arith)

size-leaves : (t : Tree) → size t ≡ length (leaves_of t)
size-leaves (leaf x) = refl
size-leaves (node s t) = omega (arith, length-append (leaves_of s) (leaves_of t), size-leaves s, size-leaves t)

pub halving-size : (k : ℕ) (l : List ℤ) → 0 < length l → length l ≤ k → size (halving k l) ≡ length l
halving-size k l z h = size-leaves (halving k l) ∙ ap length (halving-leaves k l z h)

pub tree-size : (l : List ℤ) → 0 < length l → size (tree l) ≡ length l
tree-size l h = halving-size (length l) l h (omega arith)

pub held-append : (h : ℤ → Bool) (l m : List ℤ) → held h (l ++ m) ≡ held h l + held h m
held-append h [] m = omega arith
held-append h (x ∷ l) m = omega (arith, held-append h l m)

count-leaves : (h : ℤ → Bool) (t : Tree) → count h t ≡ held h (leaves_of t)
count-leaves h (leaf x) = omega arith
count-leaves h (node s t) = omega (arith, held-append h (leaves_of s) (leaves_of t), count-leaves h s, count-leaves h t)

pub tree-count : (h : ℤ → Bool) (l : List ℤ) → 0 < length l → count h (tree l) ≡ held h l
tree-count h l z = count-leaves h (tree l) ∙ ap (held h) (tree-leaves l z)

within_left : (n : ℕ) (l m : List ℤ) → Within n (l ++ m) → Within n l
within_left n [] m w = tt
within_left n (x ∷ l) m w = (w.0, w.1, within_left n l m w.2)

within_right : (n : ℕ) (l m : List ℤ) → Within n (l ++ m) → Within n m
within_right n [] m w = w
within_right n (x ∷ l) m w = within_right n l m w.2

over_leaves : (n : ℕ) (t : Tree) → Within n (leaves_of t) → Over n t
over_leaves n (leaf x) w = (w.0, w.1)
over_leaves n (node s t) w =
    (over_leaves n s (within_left n (leaves_of s) (leaves_of t) w), over_leaves n t (within_right n (leaves_of s) (leaves_of t) w))

pub tree_over : (n : ℕ) (l : List ℤ) → 0 < length l → Within n l → Over n (tree l)
tree_over n l z w = over_leaves n (tree l) (rw (tree-leaves l z) w)
