-- How the group of some leaves is made of its parts: the equations by which proofs count and write it.
use Rattle.std.specs.Prelude.{◌≡◌, refl, Bool, true, false, List, [], ◌∷◌, ◌++◌, ℕ, zero, suc, ◌+◌, ◌-◌, ◌*◌, ◌/◌, ◌≤◌, ◌<◌, ltb, ℤ, pos, length, get_or, take, drop, replicate}
use Rattle.std.proofs.Common.{sym, ap, ap₂, ◌∙◌, arith, length-take, length-drop, get_or-drop, take_all, ltb-true, ltb-false}
use Rattle.std.proofs.lemmas.List.{length-replicate}
use Rattle.literal.specs.Literal.{variable}
use Rattle.limits.specs.Limits.{max_variables, max_wishes}
use Rattle.rule_list_soundness.specs.Flat.{flat}
use Rattle.writing.specs.Wrote.{Wrote, wrote_none, wrote_as}
use Rattle.totalizer.specs.Totalizer.{Tree, leaf, node, tree, size, added, output, adder, totalizer}
use Rattle.totalizer.proofs.Trees.{tree_split, tree-size}
use Rattle.totalizer.proofs.Sizes.{added-most}
use Rattle.totalizer_adder.specs.declared.outputs.Outputs.{Outputs}
use Rattle.totalizer_adder.specs.declared.outputs.Outputs.TheVariants.{Leaf, Counters}
use Rattle.totalizer_adder.specs.Adder.{Small, outputs, reach, clauses}
use Rattle.totalizer_adder.specs.Laws.{variable-outputs, room_first, room_next, wrote_both}
use Rattle.totalizer_groups.specs.declared.Group.{Group}
use Rattle.totalizer_groups.specs.Groups.{LeavesFit, Written, Joined, joined}

-- at most one leaf
pub tree_few : (l : List ℤ) → length l < 2 → tree l ≡ leaf (get_or l 0 (pos 0))
tree_few [] h = refl
tree_few (x ∷ []) h = refl
tree_few (x ∷ y ∷ l) h = absurd (omega arith)

pub written_few : (n : ℕ) (l out : List ℤ) (at : ℕ) (o : Outputs) → length l < 2 → o ≡ Leaf (get_or l 0 (pos 0))
    → Written n l out at out (record { outputs = o; last = n; at = at })
written_few n l out at o h e =
    let t : tree l ≡ leaf (get_or l 0 (pos 0)) = tree_few l h in
    record {
      clauses = wrote_as (sym (ap (λ (s : Tree). flat (totalizer n s)) t)) (wrote_none out at);
      last = omega (arith, ap added t);
      literals = ap outputs e ∙ sym (ap (output n) t);
    }

-- the halves of more leaves
module _ (l : List ℤ) (h : 1 < length l) where
  abbrev half : ℕ
  half = length l / 2

  abbrev left : List ℤ
  left = take half l

  -- as a part of a slice that ends with it
  abbrev right : List ℤ
  right = take (length l - half) (drop half l)

  right_rest : right ≡ drop half l
  right_rest = take_all (length l - half) (drop half l) (omega (arith, length-drop half l))

  halves : tree l ≡ node (tree left) (tree right)
  halves = tree_split l h ∙ ap (λ (r : List ℤ). node (tree left) (tree r)) (sym right_rest)

  pub left_length : length left ≡ half
  left_length = omega (arith, length-take half l)

  pub right_length : length right ≡ length l - half
  right_length = ap length right_rest ∙ length-drop half l

  left_size : size (tree left) ≡ half
  left_size = tree-size left (omega (arith, left_length)) ∙ left_length

  right_size : size (tree right) ≡ length l - half
  right_size = tree-size right (omega (arith, right_length)) ∙ right_length

  pub added_split : added (tree l) ≡ added (tree left) + added (tree right) + length l
  added_split = omega (arith, ap added halves, left_size, right_size)

  -- the clauses: those of the left part, of the right part, whose variables are numbered after k, and the own
  module _ (n k : ℕ) (e : k ≡ n + added (tree left)) where
    abbrev own : List (List ℤ)
    own = adder (output n (tree left)) half (output k (tree right)) (length l - half) (outputs (Counters (k + added (tree right))))

    pub totalizer_split : totalizer n (tree l) ≡ totalizer n (tree left) ++ totalizer k (tree right) ++ own
    totalizer_split =
        let s : Tree = tree left in
        let t : Tree = tree right in
        let base : n + (added s + added t) ≡ k + added t = omega (arith, e) in
        ap (totalizer n) halves
        ∙ ap (λ (j : ℕ). totalizer n s ++ totalizer j t ++ adder (output n s) (size s) (output j t) (size t) (output n (node s t))) (sym e)
        ∙ ap₂ (λ (p q : ℕ). totalizer n s ++ totalizer k t ++ adder (output n s) p (output k t) q (output n (node s t))) left_size right_size
        ∙ ap (λ (b : ℕ). totalizer n s ++ totalizer k t ++ adder (output n s) half (output k t) (length l - half) (outputs (Counters b))) base

    pub output_split : output n (tree l) ≡ outputs (Counters (k + added (tree right)))
    output_split =
        let base : n + (added (tree left) + added (tree right)) ≡ k + added (tree right) = omega (arith, e) in
        ap (output n) halves ∙ ap (λ (b : ℕ). outputs (Counters b)) base

-- the outputs of a group are literals within the limit
reach_few : (n k : ℕ) (l : List ℤ) → LeavesFit l → length l < 2 → variable (output n (tree l) k) ≤ max_variables
reach_few n k l w h = omega (arith, ap (λ (t : Tree). variable (output n t k)) (tree_few l h), w 0)

reach_many : (n k : ℕ) (l : List ℤ) → n + added (tree l) ≤ max_variables → k ≤ length l → 1 < length l → variable (output n (tree l) k) ≤ max_variables
reach_many n k l small few h =
    omega (arith, ap (λ (f : ℕ → ℤ). variable (f k)) (output_split l h n (n + added (tree (left l h))) refl), added_split l h)

pub reach-most : (n k : ℕ) (l : List ℤ) (o : Outputs) → LeavesFit l → n + added (tree l) ≤ max_variables → k ≤ length l → outputs o ≡ output n (tree l) → reach o k ≤ max_variables
reach-most n k l o w small few e = go (ltb (length l) 2) refl
  where
    same : reach o k ≡ variable (output n (tree l) k)
    same = sym (variable-outputs o k) ∙ ap (λ (f : ℕ → ℤ). variable (f k)) e

    go : (b : Bool) → ltb (length l) 2 ≡ b → reach o k ≤ max_variables
    go true q = omega (arith, same, reach_few n k l w (ltb-true (length l) 2 q))
    go false q = omega (arith, same, reach_many n k l small few (ltb-false (length l) 2 q))

within-take : (k : ℕ) (l : List ℤ) → LeavesFit l → LeavesFit (take k l)
within-take zero l w i = omega arith
within-take (suc k) [] w i = omega arith
within-take (suc k) (x ∷ l) w zero = w 0
within-take (suc k) (x ∷ l) w (suc i) = within-take k l (λ (j : ℕ). w (suc j)) i

within-drop : (k : ℕ) (l : List ℤ) → LeavesFit l → LeavesFit (drop k l)
within-drop k l w i = omega (arith, ap variable (get_or-drop k l i (pos 0)), w (k + i))

-- The writing of a group of two parts or more, part by part: what each call asks, and what all of them have written.
module _ (n : ℕ) (l : List ℤ) (h : 1 < length l) (out : List ℤ) (at : ℕ) (within : LeavesFit l) (small : n + added (tree l) ≤ max_variables) (room : at + length (flat (totalizer n (tree l))) ≤ length out) where
  abbrev first : List (List ℤ)
  first = totalizer n (tree (left l h))

  pub left_asks : LeavesFit (left l h) × (n + added (tree (left l h)) ≤ max_variables) × (at + length (flat first) ≤ length out)
  left_asks =
      let k : ℕ = n + added (tree (left l h)) in
      let second : List (List ℤ) = totalizer k (tree (right l h)) in
      let all : at + length (flat (first ++ second ++ own l h n k refl)) ≤ length out = rw (← totalizer_split l h n k refl) room in (
        within-take (half l h) l within,
        omega (arith, added_split l h),
        room_first first second out at (room_first (first ++ second) (own l h n k refl) out at all),
      )

  module _ {m : List ℤ} {g : Group} (wrote : Written n (left l h) out at m g) where
    abbrev second : List (List ℤ)
    second = totalizer g.last (tree (right l h))

    abbrev third : List (List ℤ)
    third = own l h n g.last wrote.last

    all : at + length (flat (first ++ second ++ third)) ≤ length out
    all = rw (← totalizer_split l h n g.last wrote.last) room

    pub right_asks : LeavesFit (right l h) × (g.last + added (tree (right l h)) ≤ max_variables) × (g.at + length (flat second) ≤ length m)
    right_asks = (
      rw (right_rest l h) (within-drop (half l h) l within),
      omega (arith, added_split l h, wrote.last),
      room_next first second wrote.clauses (room_first (first ++ second) third out at all),
    )

    module _ {o : List ℤ} {f : Group} (next : Written g.last (right l h) m g.at o f) where
      both : Wrote (flat (first ++ second)) out at o f.at
      both = wrote_both first second wrote.clauses next.clauses

      own_clauses : clauses (joined g (half l h) f (length l - half l h)) ≡ third
      own_clauses =
          ap₂ (λ (a b : ℕ → ℤ). adder a (half l h) b (length l - half l h) (outputs (Counters f.last))) wrote.literals next.literals
          ∙ ap (λ (b : ℕ). adder (output n (tree (left l h))) (half l h) (output g.last (tree (right l h))) (length l - half l h) (outputs (Counters b))) next.last

      pub join_asks : Small (joined g (half l h) f (length l - half l h)) × (f.at + length (flat (clauses (joined g (half l h) f (length l - half l h)))) ≤ length o)
      join_asks = (
        record {
          left = reach-most n (half l h) (left l h) g.outputs left_asks.0 left_asks.1 (omega (arith, left_length l h)) wrote.literals;
          right = reach-most g.last (length l - half l h) (right l h) f.outputs right_asks.0 right_asks.1 (omega (arith, right_length l h)) next.literals;
          own = omega (arith, added_split l h, wrote.last, next.last);
        },
        rw own_clauses (room_next (first ++ second) third both all),
      )

      pub written_node : {p : List ℤ} {e : Group} → Joined g (half l h) f (length l - half l h) o p e → Written n l out at p e
      written_node {p} {e} j =
          record {
            clauses =
                wrote_as (ap flat (sym (totalizer_split l h n g.last wrote.last)))
                (wrote_both (first ++ second) third both (wrote_as (ap flat own_clauses) j.own));
            last = omega (arith, j.last, next.last, wrote.last, added_split l h);
            literals =
                ap outputs j.literals
                ∙ ap (λ (b : ℕ). outputs (Counters b)) next.last
                ∙ sym (output_split l h n g.last wrote.last);
          }

-- a number that any group of m leaves adds is small
pub added_bound : (m r : ℕ) → m ≤ max_wishes → ((l : List ℤ) → length l ≡ m → r ≡ added (tree l)) → r ≤ 6 * m
added_bound m r h f =
    let l : List ℤ = replicate m (pos 0) in
    let long : length l ≡ m = length-replicate m (pos 0) in
    omega (arith, f l long, added-most l (omega arith))
