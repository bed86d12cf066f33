-- What follows from the definitions of specs/Worded.antt.
use Rattle.std.specs.Prelude.{◌≡◌, refl, Bool, true, false, cond, not, List, ℕ, ◌≤◌, ltb, leb, ℤ, length, None, Some}
use Rattle.std.proofs.Common.{sym, true≢false, arith, ltb-true}
use Rattle.std.proofs.lemmas.Option.{none-some}
use Rattle.std.proofs.lemmas.Bool.{not-true}
use Rattle.formula.specs.Formula.{all}
use Rattle.refusal.specs.declared.Refusal.{Refusal}
use Rattle.refusal.specs.Passing.{some-cause}
use Rattle.limits.specs.Limits.{max_variables, max_limit}
use Rattle.rule_list.specs.Sound.{SoundList}
use Rattle.refusal_causes.specs.Admitted.{sound_left}
use Rattle.refusal_causes.specs.Lent.{unadmitted}
use Rattle.refusal_causes.specs.Sound.{bad_wish}
use Rattle.rule_file.proofs.Accepted as accepted-rules
use Rattle.rule_file.specs.Format as rule
use Rattle.wish_file.specs.Format as wish
use Rattle.wish_file.proofs.RoundTrip as accepted-wishes
use Rattle.file_causes.specs.Causes.{among, rule_causes, wish_causes}
use Rattle.file_causes.proofs.Causes.{each, rule_number, wish_number}
use Rattle.program_files.specs.Problem.{silent, too_long, together, with_wishes, problem}
use Rattle.program_check.specs.Check.{lent_of, refused_for}
use Rattle.program_refusal_words.specs.Reasons.{reason}
use Rattle.program_diagnostics.specs.Diagnostic.{in_rules, in_wishes, spot_of}
use Rattle.program_same_refusal.specs.Worded.{joint_causes, program_causes}

-- Two good files: what was read of them is in range (not 14) and sound (not 13).
joint_number : (n : ℕ) (l : List ℤ) (row : List ℕ) (d : ℕ) → 1 ≤ n → n ≤ max_variables → d ≤ max_limit → SoundList n l → bad_wish 0 0 row ≡ None → (asks_entries : Bool) (r : Refusal)
    → unadmitted (lent_of asks_entries n l row d) ≡ Some r → among (joint_causes asks_entries) r.number ≡ true
joint_number n l row d p m h a b true r e = (sound_left (among (joint_causes true)) n l row d true p m h a b refl refl (λ f. refl)).number r e
joint_number n l row d p m h a b false r e =
    (sound_left (among (joint_causes false)) n l row d false p m h a b refl refl (λ f. absurd (true≢false (sym f)))).number r e

-- a cause of any of the three kinds is a program's
rule_programs : (asks_entries : Bool) (k : ℕ) → among rule_causes k ≡ true → among (program_causes asks_entries) k ≡ true
rule_programs asks_entries k e = each (among (program_causes asks_entries)) rule_causes k refl e

wish_programs : (asks_entries : Bool) (k : ℕ) → among wish_causes k ≡ true → among (program_causes asks_entries) k ≡ true
wish_programs asks_entries k e = each (among (program_causes asks_entries)) wish_causes k refl e

joint_programs : (asks_entries : Bool) (k : ℕ) → among (joint_causes asks_entries) k ≡ true → among (program_causes asks_entries) k ≡ true
joint_programs true k e = each (among (program_causes true)) (joint_causes true) k refl e
joint_programs false k e = each (among (program_causes false)) (joint_causes false) k refl e

-- Whatever two files a program refuses, the number is one of these.
pub program_number : (asks_entries : Bool) (rules wishes : List ℕ) (r : Refusal) → refused_for asks_entries (problem rules wishes) ≡ Some r
    → among (program_causes asks_entries) r.number ≡ true
program_number asks_entries rules wishes r e = long (too_long rules wishes) e
  where
    told : (q : Refusal) → among (program_causes asks_entries) q.number ≡ true → Some q ≡ Some r → among (program_causes asks_entries) r.number ≡ true
    told q t f = (some-cause {test = among (program_causes asks_entries)} q t).number r f

    both : (n c : ℕ) (l : List ℤ) → rule.reading rules ≡ rule.gives n c l → (w : wish.Reading) → wish.reading wishes ≡ w
        → refused_for asks_entries (with_wishes n l w) ≡ Some r → among (program_causes asks_entries) r.number ≡ true
    both n c l f (wish.refuses q) g h = told q (wish_programs asks_entries q.number (wish_number wishes q g)) h
    both n c l f (wish.gives v m d row) g h =
        let a = accepted-rules.accepted rules n c l f in
        let b = accepted-wishes.accepted wishes v m d row g in
        joint_programs asks_entries r.number (joint_number n l row d a.least a.most b.limit a.sound b.sound asks_entries r h)

    read : (g : rule.Reading) → rule.reading rules ≡ g → refused_for asks_entries (together g (wish.reading wishes)) ≡ Some r → among (program_causes asks_entries) r.number ≡ true
    read (rule.refuses q) f h = told q (rule_programs asks_entries q.number (rule_number rules q f)) h
    read (rule.gives n c l) f h = both n c l f (wish.reading wishes) refl h

    long : (b : Bool) → refused_for asks_entries (cond b silent (together (rule.reading rules) (wish.reading wishes))) ≡ Some r → among (program_causes asks_entries) r.number ≡ true
    long true h = absurd (none-some r (sym (sym h)))
    long false h = read (rule.reading rules) refl h

-- Each of these numbers has words: no program refuses two files without a reason.
worded : (asks_entries at_end : Bool) (k : ℕ) → among (program_causes asks_entries) k ≡ true → length (reason k at_end) ≡ 0 → ⊥
worded asks_entries at_end k t e =
    let some_words = ltb-true 0 (length (reason k at_end)) (each (λ (j : ℕ). ltb 0 (length (reason j at_end))) (program_causes asks_entries) k (all_worded asks_entries at_end) t) in
    omega (arith, e, some_words)
  where
    all_worded : (asks_entries at_end : Bool) → all (λ (j : ℕ). ltb 0 (length (reason j at_end))) (program_causes asks_entries) ≡ true
    all_worded true true = refl
    all_worded true false = refl
    all_worded false true = refl
    all_worded false false = refl

pub program_worded : (asks_entries : Bool) (rules wishes : List ℕ) (r : Refusal) → refused_for asks_entries (problem rules wishes) ≡ Some r
    → (at_end : Bool) → length (reason r.number at_end) ≡ 0 → ⊥
program_worded asks_entries rules wishes r e at_end = worded asks_entries at_end r.number (program_number asks_entries rules wishes r e)

-- The file that is named: a refusal of the rule file is told at its place there, and one of the wish file at its place there.
pub rule_spot : (rules : List ℕ) (r : Refusal) → rule.reading rules ≡ rule.refuses r → spot_of r.number r.place rules ≡ in_rules r.place
rule_spot rules r e = rw (each (λ (k : ℕ). leb k 7) rule_causes r.number refl (rule_number rules r e))

pub wish_spot : (rules wishes : List ℕ) (r : Refusal) → wish.reading wishes ≡ wish.refuses r → spot_of r.number r.place rules ≡ in_wishes r.place
wish_spot rules wishes r e =
    let own = wish_number wishes r e in
    rw (
      not-true (leb r.number 7) (each (λ (k : ℕ). not (leb k 7)) wish_causes r.number refl own),
      each (λ (k : ℕ). leb k 11) wish_causes r.number refl own,
    )
