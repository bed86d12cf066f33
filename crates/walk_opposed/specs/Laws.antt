-- The equations by which proofs find opposed clauses.
use Rattle.std.specs.Prelude.{◌≡◌, refl, Bool, true, false, cond, ◌||◌, List, [], ◌∷◌, ℕ, suc, ◌+◌, ◌≤◌, ltb, ℤ, length, drop, Option, None, Some, option_map, count_by}
use Rattle.std.proofs.Common.{sym, ap, ◌∙◌, true≢false, arith, drop_of_length-le, lt-ltb, le-ltb, ltb-true, ltb-false}
use Rattle.std.proofs.lemmas.List.Recursion.{is_count_by}
use Rattle.formula.specs.Formula.{any, clauses}
use Rattle.walk.specs.State.{count, unassigned_in}
use Rattle.walk.specs.Branching.{is_opposed, shorter, shorter_of, shortest, fewest}
use Rattle.walk.specs.BranchingLaws.{fewer, IsFewest}
use Rattle.walk.proofs.BranchingLaws.{fewest_opposed, fewest-other, fewest_is, fewest_member}
use Rattle.walk_opposed.specs.Opposed.{some_opposed, NoneShort}

-- the shorter of three clauses is the same from either side
pub shorter_assoc : (a : List ℕ) (s c e : List ℤ) → shorter a s (shorter a c e) ≡ shorter a (shorter a s c) e
shorter_assoc a s c e = go (ltb (unassigned_in a e) (unassigned_in a c)) refl (ltb (unassigned_in a c) (unassigned_in a s)) refl
  where
    go : (t : Bool) → ltb (unassigned_in a e) (unassigned_in a c) ≡ t → (u : Bool) → ltb (unassigned_in a c) (unassigned_in a s) ≡ u
        → shorter a s (cond t e c) ≡ shorter a (cond u c s) e
    go true p true q =
        rw (p, lt-ltb (unassigned_in a e) (unassigned_in a s) (omega (arith, ltb-true (unassigned_in a e) (unassigned_in a c) p, ltb-true (unassigned_in a c) (unassigned_in a s) q)))
    go true p false q = refl
    go false p true q = rw (p, q)
    go false p false q =
        rw (q, le-ltb (unassigned_in a e) (unassigned_in a s) (omega (arith, ltb-false (unassigned_in a e) (unassigned_in a c) p, ltb-false (unassigned_in a c) (unassigned_in a s) q)))

-- the search by one more clause: one that is not opposed, the first that is, and another beside the one that is kept
module _ (row a : List ℕ) (c : List ℤ) (f : List (List ℤ)) where
  pub shortest-other : is_opposed row a c ≡ false → shortest row a (c ∷ f) ≡ shortest row a f
  shortest-other e = rw e

  pub shortest_first : is_opposed row a c ≡ true → shortest row a (c ∷ f) ≡ Some (shorter_of a c (shortest row a f))
  shortest_first e = rw e

  pub kept_other : is_opposed row a c ≡ false → (s : List ℤ) → shorter_of a s (shortest row a (c ∷ f)) ≡ shorter_of a s (shortest row a f)
  kept_other e s = rw e

  pub kept_shorter : is_opposed row a c ≡ true → (s : List ℤ) → shorter_of a s (shortest row a (c ∷ f)) ≡ shorter_of a (shorter a s c) (shortest row a f)
  kept_shorter e s = ap (shorter_of a s) (shortest_first e) ∙ go (shortest row a f)
    where
      go : (o : Option (List ℤ)) → shorter_of a s (Some (shorter_of a c o)) ≡ shorter_of a (shorter a s c) o
      go None = refl
      go (Some g) = shorter_assoc a s c g

-- at the end of the list
pub shortest_past : (row a : List ℕ) (l : List ℤ) (i : ℕ) → length l ≤ i → shortest row a (clauses (drop i l)) ≡ None
shortest_past row a l i h = rw (drop_of_length-le l h)

-- some clause is opposed where there is a shortest
pub any_opposed : (row a : List ℕ) (f : List (List ℤ)) → any (is_opposed row a) f ≡ some_opposed (fewest row a f)
any_opposed row a [] = refl
any_opposed row a (c ∷ f) = go (is_opposed row a c) refl (any_opposed row a f)
  where
    there : (o : Option ℕ) → some_opposed (fewer (Some (unassigned_in a c)) o) ≡ true
    there None = refl
    there (Some k) = refl

    go : (b : Bool) → is_opposed row a c ≡ b → any (is_opposed row a) f ≡ some_opposed (fewest row a f) → is_opposed row a c || any (is_opposed row a) f ≡ some_opposed (fewest row a (c ∷ f))
    go true e ih =
        ap (λ (t : Bool). t || any (is_opposed row a) f) e
        ∙ sym (ap some_opposed (fewest_opposed row a c f e) ∙ there (fewest row a f))
    go false e ih = ap (λ (t : Bool). t || any (is_opposed row a) f) e ∙ ih ∙ sym (ap some_opposed (fewest-other row a c f e))

-- where no opposed clause has less than two unassigned literals, neither has the shortest
two_in_shortest : (row a : List ℕ) (f : List (List ℤ)) → NoneShort row a f → (s : List ℤ) → shortest row a f ≡ Some s → 2 ≤ unassigned_in a s
two_in_shortest row a f h s e =
    let r = fewest_member row a f (ap (option_map (unassigned_in a)) e) in
    omega (arith, h r.0 r.1 r.2, r.3)

-- so a clause that has at most two is the shortest where it is kept beside any other
pub kept_two : (row a : List ℕ) (f : List (List ℤ)) → NoneShort row a f → (s : List ℤ) (o : Option (List ℤ)) → shortest row a f ≡ Some (shorter_of a s o) → unassigned_in a s ≤ 2
    → shortest row a f ≡ Some s
kept_two row a f h s None e l = e
kept_two row a f h s (Some g) e l = go (ltb (unassigned_in a g) (unassigned_in a s)) refl e
  where
    go : (t : Bool) → ltb (unassigned_in a g) (unassigned_in a s) ≡ t → shortest row a f ≡ Some (cond t g s) → shortest row a f ≡ Some s
    go true p q = absurd (omega (arith, two_in_shortest row a f h g q, ltb-true (unassigned_in a g) (unassigned_in a s) p))
    go false p q = q

-- that no opposed clause has less than two carries over to clauses with the same shortest
pub none_short_same : (row a : List ℕ) (f g : List (List ℤ)) → shortest row a f ≡ shortest row a g → NoneShort row a f → NoneShort row a g
none_short_same row a f g e h c m p = go (shortest row a g) refl (fewest_is row a g)
  where
    go : (o : Option (List ℤ)) → shortest row a g ≡ o → IsFewest row a g (option_map (unassigned_in a) o) → 2 ≤ unassigned_in a c
    go None q w = absurd (true≢false (sym p ∙ w c m))
    go (Some s) q w = omega (arith, two_in_shortest row a f h s (e ∙ q), w.below c m p)

-- a count is std's
pub counted : (p : ℤ → Bool) (c : List ℤ) → count p c ≡ count_by p c
counted p c = is_count_by (count p) p refl (λ x c. go (p x) (count p c)) c
  where
    go : (b : Bool) (k : ℕ) → cond b (suc k) k ≡ cond b (1 + k) k
    go true k = omega arith
    go false k = refl
