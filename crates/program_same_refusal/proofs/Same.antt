-- What follows from the definitions of specs/Same.antt.
use Rattle.std.specs.Prelude.{◌≡◌, refl, Bool, true, false, cond, ◌||◌, List, ℕ, ◌≤◌, ◌<◌, ltb, leb, ℤ, length, Option, None, Some, Ok, Err}
use Rattle.std.proofs.Common.{sym, ap, ◌∙◌, true≢false, le_refl, arith, le-ltb, ltb-true, ltb-false, le-leb}
use Rattle.std.proofs.lemmas.Bool.{lt-leb}
use Rattle.refusal.specs.declared.Refusal.{Refusal}
use Rattle.refusal.specs.Laws.{room_enough}
use Rattle.limits.specs.Limits.{max_limit}
use Rattle.refusal_causes.specs.Admitted.{refused-lent, room_decides}
use Rattle.refusal_causes.specs.Lent.{Lent, with_room, wished_problem, exported_problem, unadmitted, refusal_of}
use Rattle.rule_file.specs.Format as rule
use Rattle.rule_file.specs.Written.{written}
use Rattle.wish_file.specs.Format as wish
use Rattle.wish_file.proofs.RoundTrip as accepted-wishes
use Rattle.opb_format.specs.Opb.{opb_of}
use Rattle.totalizer.specs.Totalizer.{rewritten_variables, rewritten}
use Rattle.distance.specs.Distance.{nearest}
use Rattle.program_solution_text.specs.Lines.{solution}
use Rattle.program_report.specs.Report.{refusal_line}
use Rattle.program_files.specs.Problem.{Problem, max_file, silent, refuses, gives, too_long, together, with_wishes, problem, unless_refused, printed_for}
use Rattle.program_check.specs.Check.{lent_of, refused_for, verdict, check_of}
use Rattle.program_files.specs.declared.FileError.TheVariants.{Refused}
use Rattle.program_diagnostics.specs.Diagnostic.{Named, in_rules, in_wishes, spot_too_long, file_at, said_of}
use Rattle.program_nearest_text.specs.Printed.{nearest_refused, chosen, nearest_printed}
use Rattle.program_rewrite_text.specs.Printed.{rewriting_refused, printed}
use Rattle.program_opb_text.specs.Printed.{export_refused, opb_printed}
use Rattle.program_same_refusal.specs.Same.{Alike}

-- the refusal of a call that is lent just the room that it needs
with_room_lem : (s : Lent) (needed : ℕ) → refusal_of (with_room needed needed s) ≡ unadmitted s
with_room_lem s needed = go (unadmitted s) refl
  where
    go : (o : Option Refusal) → unadmitted s ≡ o → refusal_of (with_room needed needed s) ≡ o
    go (Some r) e = refused-lent s needed needed r e
    go None e = room_decides s needed needed e ∙ room_enough needed needed (le_refl needed)

-- a program whose call is refused for the first cause of what it is lent
module _ (asks_entries : Bool) (refused_by : ℕ → List ℤ → List ℕ → ℕ → Option Refusal) (text : ℕ → List ℤ → List ℕ → ℕ → List ℕ) where
  abbrev answer : ℕ → List ℤ → List ℕ → ℕ → List ℕ
  answer n l row d = unless_refused (refused_by n l row d) (text n l row d)

  -- its call is refused as the check of its files says
  abbrev Checked : Problem → Type 0
  Checked p =
      (n : ℕ) (l : List ℤ) (row : List ℕ) (d : ℕ) → p ≡ gives n l row d → refused_by n l row d ≡ unadmitted (lent_of asks_entries n l row d)

  prints : (p : Problem) → Checked p → (r : Refusal) → refused_for asks_entries p ≡ Some r → (printed_for answer p ≡ refusal_line r) × (check_of asks_entries p ≡ Err (Refused r))
  prints silent same r e = absurd (let z : ◌≡◌ {A = ℕ} 0 1 = cc in omega arith)
  prints (refuses q) same r e = let z : q ≡ r = cc in (ap refusal_line z, ap (λ (q : Refusal). Err (Refused q)) z)
  prints (gives n l row d) same r e = (ap (λ (o : Option Refusal). unless_refused o (text n l row d)) (same n l row d refl ∙ e), ap verdict e)

  passes : (p : Problem) → Checked p → (n : ℕ) (l : List ℤ) (row : List ℕ) (d : ℕ) → p ≡ gives n l row d → refused_for asks_entries (gives n l row d) ≡ None
      → (printed_for answer p ≡ text n l row d) × (check_of asks_entries p ≡ Ok tt)
  passes p same n l row d e f = (
    ap (printed_for answer) e ∙ ap (λ (o : Option Refusal). unless_refused o (text n l row d)) (same n l row d e ∙ f),
    ap (check_of asks_entries) e ∙ ap verdict f,
  )

  alike : (f : Named) → Checked (problem f.rules f.wishes) → Alike asks_entries f (printed_for answer (problem f.rules f.wishes)) text
  alike f same =
      let p : Problem = problem f.rules f.wishes in
      record {
        long = λ e. (ap (printed_for answer) e, ap (λ (q : Problem). said_of f (check_of asks_entries q)) e);
        refused = λ r e. ((prints p same r e).0, ap (said_of f) (prints p same r e).1);
        passed = λ n l row d e g. ((passes p same n l row d e g).0, ap (said_of f) (passes p same n l row d e g).1);
      }

-- `rewrite`, for any two files and their names
pub rewrite_alike : (f : Named) → Alike false f (printed f.rules f.wishes) (λ n l row d. written (rewritten_variables n row) (rewritten n l row d))
rewrite_alike f =
    alike false rewriting_refused (λ n l row d. written (rewritten_variables n row) (rewritten n l row d)) f
    (λ n l row d e. with_room_lem (wished_problem n l row d) (length (rewritten n l row d)))

-- `opb`
pub opb_alike : (f : Named) → Alike true f (opb_printed f.rules f.wishes) opb_of
opb_alike f = alike true export_refused opb_of f (λ n l row d e. with_room_lem (exported_problem n l row d) (length (opb_of n l row d)))

-- a limit that a wish file has is no cause to refuse, so that none at all is as good
limit_alike : (n : ℕ) (l : List ℤ) (row : List ℕ) (d : ℕ) → d ≤ max_limit → unadmitted (wished_problem n l row 0) ≡ unadmitted (wished_problem n l row d)
limit_alike n l row d h = rw (le-ltb max_limit d h)

limit_read : (rules wishes : List ℕ) (n : ℕ) (l : List ℤ) (row : List ℕ) (d : ℕ) → problem rules wishes ≡ gives n l row d → d ≤ max_limit
limit_read rules wishes n l row d e = long (too_long rules wishes) e
  where
    read : (w : wish.Reading) → wish.reading wishes ≡ w → (m : ℕ) (k : List ℤ) → with_wishes m k w ≡ gives n l row d → d ≤ max_limit
    read (wish.refuses q) f m k g = absurd (let z : ◌≡◌ {A = ℕ} 0 1 = cc in omega arith)
    read (wish.gives v c limit line) f m k g =
        let same : limit ≡ d = cc in
        rw (← same) (accepted-wishes.accepted wishes v c limit line f).limit

    both : (g : rule.Reading) → together g (wish.reading wishes) ≡ gives n l row d → d ≤ max_limit
    both (rule.refuses q) f = absurd (let z : ◌≡◌ {A = ℕ} 0 1 = cc in omega arith)
    both (rule.gives m c k) f = read (wish.reading wishes) refl m k f

    long : (b : Bool) → cond b silent (together (rule.reading rules) (wish.reading wishes)) ≡ gives n l row d → d ≤ max_limit
    long true f = absurd (let z : ◌≡◌ {A = ℕ} 0 1 = cc in omega arith)
    long false f = both (rule.reading rules) f

-- `nearest`
pub nearest_alike : (f : Named) → Alike false f (nearest_printed f.rules f.wishes) (λ n l row d. solution (nearest n l row) (chosen n l row))
nearest_alike f =
    alike false (λ n l row d. nearest_refused n l row) (λ n l row d. solution (nearest n l row) (chosen n l row)) f
    (λ n l row d e. with_room_lem (wished_problem n l row 0) n ∙ limit_alike n l row d (limit_read f.rules f.wishes n l row d e))

-- of two files of which one is too long, the one that is named is: the byte at the place is there
pub long_named : (rules wishes : List ℕ) → problem rules wishes ≡ silent → max_file < length (file_at (spot_too_long rules) rules wishes)
long_named rules wishes e = long (too_long rules wishes) refl e
  where
    named : (a b : Bool) → ltb max_file (length rules) ≡ a → ltb max_file (length wishes) ≡ b → a || b ≡ true → max_file < length (file_at (cond (leb (length rules) max_file) (in_wishes max_file) (in_rules max_file)) rules wishes)
    named true b f g h = rw (lt-leb (length rules) max_file (ltb-true max_file (length rules) f)) (ltb-true max_file (length rules) f)
    named false true f g h = rw (le-leb (length rules) max_file (ltb-false max_file (length rules) f)) (ltb-true max_file (length wishes) g)
    named false false f g h = absurd (true≢false (sym h))

    gone : (g : rule.Reading) (w : wish.Reading) → together g w ≡ silent → ⊥
    gone (rule.refuses q) w f = (let z : ◌≡◌ {A = ℕ} 0 1 = cc in omega arith)
    gone (rule.gives m c k) (wish.refuses q) f = (let z : ◌≡◌ {A = ℕ} 0 1 = cc in omega arith)
    gone (rule.gives m c k) (wish.gives v n d row) f = (let z : ◌≡◌ {A = ℕ} 0 1 = cc in omega arith)

    long : (b : Bool) → too_long rules wishes ≡ b → cond b silent (together (rule.reading rules) (wish.reading wishes)) ≡ silent → max_file < length (file_at (spot_too_long rules) rules wishes)
    long true f g = named (ltb max_file (length rules)) (ltb max_file (length wishes)) refl refl f
    long false f g = absurd (gone (rule.reading rules) (wish.reading wishes) g)
