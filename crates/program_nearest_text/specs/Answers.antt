-- What nearest's replies come to in the printed text, and what holds of a choice that is printed.
use Rattle.std.specs.Prelude.{◌≡◌, refl, List, [], ◌++◌, ℕ, ◌≤◌, ℤ, length, take, drop, replicate, Option, None, Some}
use Rattle.std.proofs.Common.{sym, ap, ap₂, subst, ◌∙◌, append-nil, arith, length-append, drop_of_length-le, take_at}
use Rattle.std.proofs.lemmas.Option.{same_Some}
use Rattle.std.proofs.lemmas.List.{length-replicate}
use Rattle.formula.specs.Formula.{clauses}
use Rattle.distance.specs.Distance.{disagreement, nearest}
use Rattle.choices.specs.Order.{FirstNearest}
use Rattle.refusal.specs.declared.Refusal.{Refusal}
use Rattle.refusal.specs.Reply.{Reply, refusing, answering, unless}
use Rattle.refusal_causes.specs.Admitted.{Admitted}
use Rattle.refusal_causes.specs.Lent.{wished_problem, refusal_of}
use Rattle.walk.specs.Walk.{Answer}
use Rattle.search_meaning.specs.Meaning as meaning
use Rattle.search_meaning.specs.Searches.{lent_to_search, found, broken_by, choice_after, nearest_reply, nearest_answer, nearest_choice}
use Rattle.program_report.specs.Report.{refusal_line}
use Rattle.program_files.specs.Problem.{unless_refused}
use Rattle.program_files.specs.Room.{enough, unrefused}
use Rattle.program_solution_text.specs.Lines.{unsatisfiable, solution}
use Rattle.program_nearest_text.specs.Printed.{nearest_refused, chosen, nearest_text}

module _ (n : ℕ) (rules : List ℤ) (row : List ℕ) where
  abbrev text : Option Refusal → List ℕ
  text o = unless_refused o (solution (nearest n rules row) (chosen n rules row))

  -- without a refusal
  module _ (e : nearest_refused n rules row ≡ None) where
    abbrev off : List ℕ
    off = replicate n 0

    admitted : Admitted (wished_problem n rules row 0)
    admitted = unrefused n rules row 0 n n e

    broken_is : broken_by (nearest_answer n rules row) ≡ nearest n rules row
    broken_is = meaning.nearest_is n rules row

    none_chosen : refusal_of (lent_to_search n rules row 0 (length off)) ≡ None
    none_chosen = ap (λ (j : ℕ). refusal_of (lent_to_search n rules row 0 j)) (length-replicate {A = ℕ} n 0) ∙ e

    -- the first nearest choice is the one that stands in the n bytes
    chosen_is : (x : Answer) → nearest_answer n rules row ≡ Some x → chosen n rules row ≡ x.choice
    chosen_is x g =
        let rest : drop n off ≡ [] = drop_of_length-le off {i = n} (omega (arith, length-replicate {A = ℕ} n 0)) in
        ap₂ (λ (o : Option Refusal) (w : Option Answer). choice_after o w n off) none_chosen g
        ∙ ap (λ (l : List ℕ). x.choice ++ l) rest
        ∙ append-nil x.choice

    -- What is printed of a choice that was found: it breaks the printed number of wishes and meets all rules; no choice that meets the rules breaks fewer, and every other that breaks as few comes later.
    pub chosen_first : (k : ℕ) → nearest n rules row ≡ Some k → (disagreement row (chosen n rules row) ≡ k) × FirstNearest n (clauses rules) row (chosen n rules row)
    chosen_first k f = go (nearest_answer n rules row) refl
      where
        go : (o : Option Answer) → nearest_answer n rules row ≡ o → (disagreement row (chosen n rules row) ≡ k) × FirstNearest n (clauses rules) row (chosen n rules row)
        go None g =
            let never : None ≡ Some k = sym (ap broken_by g) ∙ broken_is ∙ f in
            let z : ◌≡◌ {A = ℕ} 0 1 = cc in absurd (omega arith)
        go (Some x) g =
            let count : x.broken ≡ k = same_Some x.broken k (sym (ap broken_by g) ∙ broken_is ∙ f) in
            subst (meaning.IsFirst n rules row)
            (ap₂ (λ (a : List ℕ) (j : ℕ). record { choice = a; broken = j }) (sym (chosen_is x g)) count)
            (meaning.nearest_found n rules row x g)

  -- a choice of any length that has room for n bytes
  module _ (blank : List ℕ) (room : 256 ≤ length blank) where
    abbrev cause_of : Option Refusal
    cause_of = refusal_of (lent_to_search n rules row 0 (length blank))

    same_cause : cause_of ≡ nearest_refused n rules row
    same_cause = enough n rules row 0 n (length blank) (λ a. omega (arith, a.small.variables))

    pub nearest-refused : (r : Refusal) → refusing r ≡ nearest_reply n rules row (length blank) → refusal_line r ≡ nearest_text n rules row
    nearest-refused r e = go cause_of (nearest n rules row) e ∙ ap text same_cause
      where
        go : (o : Option Refusal) (k : Option ℕ) → refusing r ≡ unless o (found k) → refusal_line r ≡ unless_refused o (solution (nearest n rules row) (chosen n rules row))
        go (Some q) k f = let same : q ≡ r = cc in ap refusal_line (sym same)
        go None None f = let z : ◌≡◌ {A = ℕ} 0 1 = cc in absurd (omega arith)
        go None (Some k) f = let z : ◌≡◌ {A = ℕ} 0 1 = cc in absurd (omega arith)

    -- an answer, and no refusal
    answered : (reply : Reply) (v k : ℕ) → reply ≡ answering v k 0 0 → reply ≡ nearest_reply n rules row (length blank) → (cause_of ≡ None) × (answering v k 0 0 ≡ found (nearest n rules row))
    answered reply v k e f = go cause_of refl (sym e ∙ f)
      where
        go : (o : Option Refusal) → cause_of ≡ o → answering v k 0 0 ≡ unless o (found (nearest n rules row)) → (cause_of ≡ None) × (answering v k 0 0 ≡ found (nearest n rules row))
        go (Some q) g h = let z : ◌≡◌ {A = ℕ} 0 1 = cc in absurd (omega arith)
        go None g h = (g, h)

    whole : cause_of ≡ None → (o : Option ℕ) → nearest n rules row ≡ o → (a : List ℕ) → a ≡ chosen n rules row → solution o a ≡ nearest_text n rules row
    whole e o f a g = ap₂ solution (sym f) g ∙ ap text (sym e ∙ same_cause)

    pub nearest-nothing : answering 0 0 0 0 ≡ nearest_reply n rules row (length blank) → unsatisfiable ≡ nearest_text n rules row
    nearest-nothing e = go (nearest n rules row) refl a.1
      where
        a : (cause_of ≡ None) × (answering 0 0 0 0 ≡ found (nearest n rules row))
        a = answered (answering 0 0 0 0) 0 0 refl e

        go : (o : Option ℕ) → nearest n rules row ≡ o → answering 0 0 0 0 ≡ found o → unsatisfiable ≡ nearest_text n rules row
        go None f g = whole a.0 None f (chosen n rules row) refl
        go (Some k) f g = let z : ◌≡◌ {A = ℕ} 0 1 = cc in absurd (omega arith)

    -- a choice at the front of what was lent, and its lines
    pub record Given (k : ℕ) (result : List ℕ) : Type 0 where
      pub few : n ≤ 256
      pub inside : n ≤ length result
      pub lines : solution (Some k) (take n result) ≡ nearest_text n rules row

    pub nearest-given : (k : ℕ) (result : List ℕ) → answering 1 k 0 0 ≡ nearest_reply n rules row (length blank) → result ≡ nearest_choice n rules row blank → Given k result
    nearest-given k result e f = go (nearest_answer n rules row) refl
      where
        a : (cause_of ≡ None) × (answering 1 k 0 0 ≡ found (nearest n rules row))
        a = answered (answering 1 k 0 0) 1 k refl e

        free : nearest_refused n rules row ≡ None
        free = sym same_cause ∙ a.0

        count : nearest n rules row ≡ Some k
        count = same (nearest n rules row) a.1
          where
            same : (o : Option ℕ) → answering 1 k 0 0 ≡ found o → o ≡ Some k
            same None g = let z : ◌≡◌ {A = ℕ} 0 1 = cc in absurd (omega arith)
            same (Some j) g = cc

        go : (o : Option Answer) → nearest_answer n rules row ≡ o → Given k result
        go None g =
            let never : None ≡ Some k = sym (ap broken_by g) ∙ broken_is free ∙ count in
            let z : ◌≡◌ {A = ℕ} 0 1 = cc in absurd (omega arith)
        go (Some x) g =
            let size : length x.choice ≡ n = (meaning.nearest_found n rules row x g).1.model.choice.size in
            let left : result ≡ x.choice ++ drop n blank = f ∙ ap₂ (λ (o : Option Refusal) (w : Option Answer). choice_after o w n blank) a.0 g in
            let front : take n result ≡ x.choice = ap (take n) left ∙ take_at x.choice (drop n blank) n size in
            record {
              few = (admitted free).small.variables;
              inside = omega (arith, ap length left, length-append x.choice (drop n blank), size);
              lines = whole a.0 (Some k) count (take n result) (front ∙ sym (chosen_is free x g));
            }
