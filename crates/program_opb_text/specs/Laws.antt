-- What the call's replies come to in the printed text.
use Rattle.std.specs.Prelude.{◌≡◌, refl, Bool, true, false, List, ℕ, ◌≤◌, ltb, ℤ, length, Option, None, Some}
use Rattle.std.proofs.Common.{sym, ap, subst, ◌∙◌, le_refl, arith}
use Rattle.refusal.specs.declared.Refusal.{Refusal}
use Rattle.refusal.specs.Laws.{room_enough}
use Rattle.refusal.specs.Reply.{refusing, answering, unless, cause, filled, too_short}
use Rattle.refusal_causes.specs.Admitted.{admitted, export_wished, refused-lent, room_decides, lent-number}
use Rattle.refusal_causes.specs.Lent.{Lent, exported_problem, unadmitted, refusal_of}
use Rattle.opb_format.specs.Opb.{opb_of}
use Rattle.opb_format.specs.Sizes.{longest, opb_most}
use Rattle.opb_writer.specs.Write.{lent_to_write, write_reply, write_output}
use Rattle.program_report.specs.Report.{refusal_line, fitted}
use Rattle.program_files.specs.Problem.{unless_refused}
use Rattle.program_opb_text.specs.Printed.{opb_text}

module _ (n : ℕ) (rules : List ℤ) (row : List ℕ) (d : ℕ) where
  abbrev s : Lent
  s = exported_problem n rules row d

  abbrev file : List ℕ
  file = opb_of n rules row d

  -- refused for what was lent: the text is the line of that refusal, and its number is not 15
  line_of : (q : Refusal) → unadmitted s ≡ Some q → refusal_line q ≡ opb_text n rules row d
  line_of q e = sym (ap (λ (o : Option Refusal). unless_refused o file) (refused-lent s (length file) (length file) q e))

  -- admitted: the text is the file
  file_of : unadmitted s ≡ None → file ≡ opb_text n rules row d
  file_of e =
      sym (ap (λ (o : Option Refusal). unless_refused o file) (room_decides s (length file) (length file) e ∙ room_enough (length file) (length file) (le_refl (length file))))

  file_most : unadmitted s ≡ None → length file ≤ longest
  file_most e = opb_most n rules row d (export_wished n rules row d (admitted s e))

  -- the text's length was told, and it was put where it fits
  abbrev pub Said : ℕ → List ℕ → List ℕ → Type 0
  Said r out result =
      (r ≡ length (opb_text n rules row d)) × ((result ≡ fitted (opb_text n rules row d) out) × (r ≤ longest))

  said_file : unadmitted s ≡ None → (r : ℕ) (out result : List ℕ) → r ≡ length file → result ≡ fitted file out → Said r out result
  said_file ok r out result e f =
      subst (λ (text : List ℕ). (r ≡ length text) × ((result ≡ fitted text out) × (r ≤ longest))) (file_of ok) (e, (f, omega (arith, file_most ok)))

  -- what the call answers and leaves, by whether it is admitted
  module _ (out result : List ℕ) (f : result ≡ write_output n rules row d out) where
    abbrev refused_in : Option Refusal
    refused_in = refusal_of (lent_to_write n rules row d (length out))

    refuses_early : (q : Refusal) → unadmitted s ≡ Some q → refused_in ≡ Some q
    refuses_early q e = refused-lent s (length file) (length out) q e

    refuses_late : unadmitted s ≡ None → refused_in ≡ too_short (length file) (length out)
    refuses_late e = room_decides s (length file) (length out) e

    left : (o : Option Refusal) → refused_in ≡ o → result ≡ filled o file out
    left o e = f ∙ ap (λ (p : Option Refusal). filled p file out) e

    module _ (q : Refusal) (e : refusing q ≡ write_reply n rules row d (length out)) where
      replied : (o : Option Refusal) → refused_in ≡ o → refusing q ≡ unless o (answering 1 (length file) 0 0)
      replied o g = e ∙ ap (λ (p : Option Refusal). unless p (answering 1 (length file) 0 0)) g

      pub said_short : q.number ≡ 15 → Said q.place out result
      said_short z = go (unadmitted s) refl
        where
          short : unadmitted s ≡ None → (b : Bool) → refusing q ≡ unless (cause b 15 (length file)) (answering 1 (length file) 0 0) → q.place ≡ length file
          short ok true g = cc
          short ok false g = absurd (let w : ◌≡◌ {A = ℕ} 0 1 = cc in omega arith)

          go : (o : Option Refusal) → unadmitted s ≡ o → Said q.place out result
          go (Some r) g =
              let same : r ≡ q = (let h = replied (Some r) (refuses_early r g) in cc) in
              absurd ((lent-number s r g).1 (ap (λ (p : Refusal). p.number) same ∙ z))
          go None g =
              let late = refuses_late g in
              said_file g q.place out result (short g (ltb (length out) (length file)) (replied (too_short (length file) (length out)) late)) (left (too_short (length file) (length out)) late)

      pub said_refused : (q.number ≡ 15 → ⊥) → (result ≡ out) × (refusal_line q ≡ opb_text n rules row d)
      said_refused z = go (unadmitted s) refl
        where
          never : (b : Bool) → refusing q ≡ unless (cause b 15 (length file)) (answering 1 (length file) 0 0) → ⊥
          never true g = z (let h : q.number ≡ 15 = cc in h)
          never false g = let w : ◌≡◌ {A = ℕ} 0 1 = cc in omega arith

          go : (o : Option Refusal) → unadmitted s ≡ o → (result ≡ out) × (refusal_line q ≡ opb_text n rules row d)
          go (Some r) g =
              let same : r ≡ q = (let h = replied (Some r) (refuses_early r g) in cc) in
              (left (Some r) (refuses_early r g), ap refusal_line (sym same) ∙ line_of r g)
          go None g = absurd (never (ltb (length out) (length file)) (replied (too_short (length file) (length out)) (refuses_late g)))

    pub said_written : (r : ℕ) → answering 1 r 0 0 ≡ write_reply n rules row d (length out) → Said r out result
    said_written r e = go (unadmitted s) refl
      where
        replies : (o : Option Refusal) → refused_in ≡ o → answering 1 r 0 0 ≡ unless o (answering 1 (length file) 0 0)
        replies o g = e ∙ ap (λ (p : Option Refusal). unless p (answering 1 (length file) 0 0)) g

        long : (b : Bool) → answering 1 r 0 0 ≡ unless (cause b 15 (length file)) (answering 1 (length file) 0 0) → r ≡ length file
        long true g = absurd (let w : ◌≡◌ {A = ℕ} 0 1 = cc in omega arith)
        long false g = cc

        go : (o : Option Refusal) → unadmitted s ≡ o → Said r out result
        go (Some q) g = absurd (let h = replies (Some q) (refuses_early q g) in let w : ◌≡◌ {A = ℕ} 0 1 = cc in omega arith)
        go None g =
            let late = refuses_late g in
            said_file g r out result (long (ltb (length out) (length file)) (replies (too_short (length file) (length out)) late)) (left (too_short (length file) (length out)) late)
