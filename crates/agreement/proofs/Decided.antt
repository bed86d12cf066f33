-- What follows from the definitions of specs/Decided.antt.
use Rattle.std.specs.Prelude.{◌≡◌, refl, List, ℕ, ℤ, take, replicate, Option, None, Some}
use Rattle.std.proofs.Common.{arith}
use Rattle.formula.specs.Formula.{clauses}
use Rattle.walk.specs.Walk.{Answer, walk, plain_walk}
use Rattle.totalizer.proofs.Completion.{completion_choice}
use Rattle.totalizer.specs.Totalizer.{rewritten_variables, rewritten, completion}
use Rattle.totalizer.proofs.Theorems.{found_within, within_found}
use Rattle.refusal_causes.specs.Admitted.{Admitted}
use Rattle.refusal_causes.specs.Lent.{wished_problem}
use Rattle.search_meaning.specs.Meaning.{search_found, search_none, plain-nothing}
use Rattle.search_meaning.specs.Searches.{found, broken_by}
use Rattle.agreement.specs.Second.{outcome}
use Rattle.agreement.proofs.Second.{sound}
use Rattle.agreement.specs.Decided.{Decided, Reached, no, yes}

module _ (n : ℕ) (rules : List ℤ) (row : List ℕ) (d : ℕ) (ok : Admitted (wished_problem n rules row d)) where
  -- the wish search
  pub search_decides : Decided (Reached n rules row d) d (found (broken_by (walk n (clauses rules) row d).answer))
  search_decides = go (walk n (clauses rules) row d).answer refl
    where
      go : (o : Option Answer) → (walk n (clauses rules) row d).answer ≡ o → Decided (Reached n rules row d) d (found (broken_by o))
      go None e = no refl (λ r. omega (arith, (search_none n rules ok.sound_rules row d).0 e r.0 r.1, r.2))
      go (Some x) e =
          let f = search_found n rules ok.sound_rules row d x e in
          yes x.broken f.limited refl (x.choice, f.model, omega (arith, f.own_count, f.limited))

  -- plain search on the rewritten rules
  pub plain_decides : Decided (Reached n rules row d) 0 (outcome n rules row d)
  plain_decides = go (plain_walk N (clauses R)).answer refl
    where
      N : ℕ
      N = rewritten_variables n row

      R : List ℤ
      R = rewritten n rules row d

      go : (o : Option Answer) → (plain_walk N (clauses R)).answer ≡ o → Decided (Reached n rules row d) 0 (found (broken_by o))
      go None e = no refl (λ r.
          (plain-nothing N R (sound n rules row d ok)).0 e (completion row r.0)
          (record {
            choice = completion_choice n row r.0 r.1.choice;
            satisfies = within_found n rules row d r.0 ok.sound_rules ok.long_row r.1.choice r.1.satisfies r.2;
          }))
      go (Some x) e =
          let f = search_found N R (sound n rules row d ok) (replicate N 2) 0 x e in
          let (choice, met, near) = found_within n rules row d x.choice ok.sound_rules ok.long_row f.model.choice f.model.satisfies in
          yes x.broken f.limited refl (take n x.choice, record { choice = choice; satisfies = met }, near)
