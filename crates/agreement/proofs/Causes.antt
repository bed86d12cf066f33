-- What follows from the definitions of specs/Causes.antt.
use Rattle.std.specs.Prelude.{◌≡◌, refl, Bool, true, false, List, ℕ, ◌≤◌, ltb, ℤ, length, Option, None, Some}
use Rattle.std.proofs.Common.{subst}
use Rattle.refusal.specs.declared.Refusal.{Refusal}
use Rattle.refusal.specs.Reply.{Reply, cause, too_short, answering, unless}
use Rattle.limits.specs.Limits.{max_limit}
use Rattle.refusal_causes.specs.Admitted as lent
use Rattle.refusal_causes.specs.Admitted.{Admitted, at_limit, refused-lent, lent-number}
use Rattle.refusal_causes.specs.Lent.{wished_problem, unadmitted, refusal_of}
use Rattle.totalizer.specs.Totalizer.{rewritten_variables, rewritten}
use Rattle.totalizer_encoding.specs.Rewrite.{lent_to_rewrite}
use Rattle.agreement_second_route.specs.Routes.{Answered, Passes}
use Rattle.agreement.specs.Claim.{Admissible}
use Rattle.agreement.specs.Causes.{Fine}

-- the cause of a lent output that is too short
pub short_fine : (needed room : ℕ) → Fine (too_short needed room)
short_fine needed room = go (ltb room needed)
  where
    go : (b : Bool) → Fine (cause b 15 needed)
    go true = refl
    go false = tt

-- the reply of a call with a cause or without one
passes_fine : (o : Option Refusal) (v x y z : ℕ) → Passes (unless o (answering v x y z)) → Fine o
passes_fine None v x y z h = tt
passes_fine (Some r) v x y z h = h

pub fine_passes : (o : Option Refusal) (reply : Reply) → Fine o → Passes reply → Passes (unless o reply)
fine_passes None reply f h = h
fine_passes (Some r) reply f h = f

pub answered_past : (o : Option Refusal) (reply : Reply) → Answered (unless o reply) → (unless o reply ≡ reply) × Answered reply
answered_past None reply h = (refl, h)
answered_past (Some r) reply h = absurd h

-- What rewriting admits with one d, every call with wishes admits with every d up to 64.
module _ (n : ℕ) (rules : List ℤ) (row : List ℕ) where
  -- no cause before 15 has the number 15
  admitted_with : (d room : ℕ) → Fine (refusal_of (lent_to_rewrite n rules row d room)) → Admitted (wished_problem n rules row d)
  admitted_with d room h = go (unadmitted (wished_problem n rules row d)) refl
    where
      go : (o : Option Refusal) → unadmitted (wished_problem n rules row d) ≡ o → Admitted (wished_problem n rules row d)
      go None e = lent.admitted (wished_problem n rules row d) e
      go (Some r) e =
          absurd ((lent-number (wished_problem n rules row d) r e).1 (subst Fine (refused-lent (wished_problem n rules row d) (length (rewritten n rules row d)) room r e) h))

  pub admitted : Admissible n rules row → (d : ℕ) → d ≤ max_limit → Admitted (wished_problem n rules row d)
  admitted a d h =
      at_limit (wished_problem n rules row a.d) d h
      (admitted_with a.d a.room
      (passes_fine (refusal_of (lent_to_rewrite n rules row a.d a.room)) 1 (rewritten_variables n row) (length (rewritten n rules row a.d)) 0 a.passes))
