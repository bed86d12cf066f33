-- "Rewriting into plain rules" (document 01): the totalizer of Bailleux and Boufkhad (2003) over the wishes of a row. Its tree is built first, and all else goes by the tree.
use Rattle.std.specs.Prelude.{◌≡◌, Bool, cond, not, ◌&&◌, List, [], ◌∷◌, ◌++◌, ℕ, zero, suc, ◌+◌, ◌/◌, ◌≤◌, ◌<◌, eqb, ltb, ℤ, pos, negsuc, neg_ℤ, length, take, drop, replicate}
use Rattle.literal.specs.Literal.{variable, holds}
use Rattle.wish.specs.Wish.{weight, breaking}
use Rattle.rule_list_soundness.specs.Flat.{flat}

-- "Leaves are the wishes by rising setting; a leaf is the entry that breaks its wish", here from variable v on. A wish has as many leaves as it weighs.
abbrev pub leaves_from : ℕ → List ℕ → List ℤ
leaves_from v [] = []
leaves_from v (w ∷ row) = replicate (weight w) (breaking v w) ++ leaves_from (suc v) row

abbrev pub leaves : List ℕ → List ℤ
leaves row = leaves_from 1 row

-- A group of leaves: one leaf, or two parts.
pub data Tree : Type 0 where
  leaf : ℤ → Tree
  node : Tree → Tree → Tree

-- "A group of m above 1 splits into the first floor(m/2) leaves and the rest": by halving, at most k times in a row
abbrev pub halving : ℕ → List ℤ → Tree
halving zero l = leaf (pos 0)
halving (suc k) [] = leaf (pos 0)
halving (suc k) (x ∷ []) = leaf x
halving (suc k) (x ∷ y ∷ l) =
    let m : ℕ = length (x ∷ y ∷ l) in
    node (halving k (take (m / 2) (x ∷ y ∷ l))) (halving k (drop (m / 2) (x ∷ y ∷ l)))

-- The whole group of some leaves. Where there are none it stands for nothing: one leaf alone adds no variable and no clause.
abbrev pub tree : List ℤ → Tree
tree l = halving (length l) l

-- the number of a group's leaves
abbrev pub size : Tree → ℕ
size (leaf x) = 1
size (node s t) = size s + size t

-- how many variables a group adds: none for one leaf, else those of its parts and as many as it has leaves
abbrev pub added : Tree → ℕ
added (leaf x) = 0
added (node s t) = added s + added t + (size s + size t)

-- The outputs r1..rm of a group whose variables are numbered after n, "in the order left part, right part, itself"; "a group of one leaf is that entry".
abbrev pub output : ℕ → Tree → ℕ → ℤ
output n (leaf x) k = x
output n (node s t) k = pos (n + (added s + added t) + k)

-- -a(i), "leaving out index 0"
abbrev pub lower : (ℕ → ℤ) → ℕ → List ℤ
lower a zero = []
lower a (suc i) = neg_ℤ (a (suc i)) ∷ []

-- a(i+1), "leaving out a(p+1)"
abbrev pub upper : (ℕ → ℤ) → ℕ → ℕ → List ℤ
upper a p i = cond (ltb i p) (a (suc i) ∷ []) []

-- "up, unless i = j = 0: -a(i), -b(j), r(i+j)"
abbrev pub up : (ℕ → ℤ) → (ℕ → ℤ) → (ℕ → ℤ) → ℕ → ℕ → List (List ℤ)
up a b r i j = cond (eqb i 0 && eqb j 0) [] ((lower a i ++ lower b j ++ r (i + j) ∷ []) ∷ [])

-- "down, unless i = p and j = q: a(i+1), b(j+1), -r(i+j+1)"
abbrev pub down : (ℕ → ℤ) → ℕ → (ℕ → ℤ) → ℕ → (ℕ → ℤ) → ℕ → ℕ → List (List ℤ)
down a p b q r i j = cond (eqb i p && eqb j q) [] ((upper a p i ++ upper b q j ++ neg_ℤ (r (suc (i + j))) ∷ []) ∷ [])

-- what f gives for 0 to m - 1, in that order
abbrev pub below : ℕ → (ℕ → List (List ℤ)) → List (List ℤ)
below zero f = []
below (suc m) f = below m f ++ f m

-- "With the parts' outputs a1..ap and b1..bq, for i from 0 to p, inside it j from 0 to q"
abbrev pub adder : (ℕ → ℤ) → ℕ → (ℕ → ℤ) → ℕ → (ℕ → ℤ) → List (List ℤ)
adder a p b q r = below (suc p) (λ (i : ℕ). below (suc q) (λ (j : ℕ). up a b r i j ++ down a p b q r i j))

-- the clauses of a group and all groups in it, "in that same order"
abbrev pub totalizer : ℕ → Tree → List (List ℤ)
totalizer n (leaf x) = []
totalizer n (node s t) =
    totalizer n s
    ++ totalizer (n + added s) t
    ++ adder (output n s) (size s) (output (n + added s) t) (size t) (output n (node s t))

-- "then, if d < m, one rule -s(d+1), where s is the whole group"
abbrev pub limit : ℕ → List ℤ → ℕ → List (List ℤ)
limit n l d = cond (ltb d (length l)) ((neg_ℤ (output n (tree l) (suc d)) ∷ []) ∷ []) []

-- at most d of some leaves hold, said by clauses over variables numbered after n
abbrev pub at_most : ℕ → List ℤ → ℕ → List (List ℤ)
at_most n l d = totalizer n (tree l) ++ limit n l d

-- "The result holds the given rules, then the groups' rules in that same order, then .. one rule": the number of variables and the list
abbrev pub rewritten_variables : ℕ → List ℕ → ℕ
rewritten_variables n row = n + added (tree (leaves row))

abbrev pub rewritten : ℕ → List ℤ → List ℕ → ℕ → List ℤ
rewritten n list row d = list ++ flat (at_most n (leaves row) d)

-- the truth of a literal, from that of the variables
abbrev pub on : (ℕ → Bool) → ℤ → Bool
on σ (pos v) = σ v
on σ (negsuc k) = not (σ (suc k))

-- how many of a group's leaves hold
abbrev pub count : (ℤ → Bool) → Tree → ℕ
count h (leaf x) = cond (h x) 1 0
count h (node s t) = count h s + count h t

-- the number c in unary: m bytes, the first c of them 1 and the others 0
abbrev pub unary : ℕ → ℕ → List ℕ
unary zero c = []
unary (suc m) c = unary m c ++ cond (ltb m c) 1 0 ∷ []

-- the added counters by rising variable, those of a group showing how many of its leaves hold
abbrev pub counters : (ℤ → Bool) → Tree → List ℕ
counters h (leaf x) = []
counters h (node s t) = counters h s ++ counters h t ++ unary (size s + size t) (count h s + count h t)

-- "The one completion that meets every rewritten rule": the choice, and then the added counters
abbrev pub completion : List ℕ → List ℕ → List ℕ
completion row a = a ++ counters (holds a) (tree (leaves row))

-- outputs a1..am that count c: "r(k) .. on exactly when at least k .. hold" (k + 1 here, so that k < c says it)
abbrev pub Counts : (ℤ → Bool) → (ℕ → ℤ) → ℕ → ℕ → Type 0
Counts h a m c = (k : ℕ) → k < m → h (a (suc k)) ≡ ltb k c

-- every group in a group, and itself, counts its leaves that hold
abbrev pub AllCount : (ℤ → Bool) → ℕ → Tree → Type 0
AllCount h n (leaf x) = Unit {0}
AllCount h n (node s t) = AllCount h n s × AllCount h (n + added s) t × Counts h (output n (node s t)) (size s + size t) (count h s + count h t)

-- every leaf is a literal of the variables 1 to n
abbrev pub Over : ℕ → Tree → Type 0
Over n (leaf x) = (0 < variable x) × (variable x ≤ n)
Over n (node s t) = Over n s × Over n t
