-- What document 01 says of rewriting into plain rules.
use Rattle.std.specs.Prelude.{◌≡◌, refl, ◌↔◌, Bool, true, List, [], ◌++◌, ℕ, ◌+◌, ◌≤◌, ℤ, length, take, None}
use Rattle.std.proofs.Common.{sym, ap, ◌∙◌, arith}
use Rattle.literal.specs.Literal.{holds}
use Rattle.formula.specs.Formula.{any, all, clauses, literals, models}
use Rattle.distance.specs.Distance.{disagreement}
use Rattle.limits.specs.Limits.{max_variables, max_wish_variables, max_wish_clauses, max_wish_literals}
use Rattle.rule_list.specs.Sound.{SoundList, unread, bad_rule}
use Rattle.refusal_causes.specs.Sound.{bad_wish}
use Rattle.wish.specs.Wish.{total_weight}
use Rattle.refusal_causes.specs.Laws.{sound_weight}
use Rattle.rule_list_soundness.specs.Flat.{joining, well_formed}
use Rattle.rule_list_soundness.specs.Laws.{and_both, all_append, well_formed_more}
use Rattle.rule_list_soundness.specs.Soundness.{sound, flat_sound, behind}
use Rattle.choices.specs.Choices.{Choice}
use Rattle.totalizer.specs.Totalizer.{Tree, on, leaves, tree, added, totalizer, at_most, rewritten_variables, rewritten, completion, Over, AllCount}
use Rattle.totalizer.proofs.Meaning.{on_opposite, totalizer_right, right_totalizer}
use Rattle.totalizer.proofs.Rows.{leaves-length}
use Rattle.totalizer.proofs.Choice.{choice_take}
use Rattle.totalizer.proofs.Counters.{segment_right}
use Rattle.totalizer.proofs.Completion.{completion-segment, completion_choice, completion-take}
use Rattle.totalizer.proofs.Sizes.{added-most, added_64, added_3, added_1, clauses_64, clauses_3, clauses_1}
use Rattle.totalizer.proofs.Rewritten.{row_within, row_formed, rewritten-clauses, rewritten_says, rewritten_met}
use Rattle.totalizer.proofs.RewrittenSizes.{rewritten_sizes}

-- Of any assignment of the variables, the clauses of a group hold exactly when every output of every group in it is right. The leaves may be any literals of the variables 1 to n, repeated or not.
pub meaning : (σ : ℕ → Bool) (n : ℕ) (t : Tree) → Over n t → (all (any (on σ)) (totalizer n t) ≡ true) ↔ AllCount (on σ) n t
meaning σ n t o = (
  totalizer_right (on σ) (n + added t) (on_opposite σ (n + added t)) n t (omega arith) o,
  right_totalizer (on σ) (n + added t) (on_opposite σ (n + added t)) n t (omega arith) o,
)

-- The completion of a choice is one: "A completion of a choice gives every setting of the result a value, and settings 1 to n the values of the choice."
pub completion_completes : (n : ℕ) (row a : List ℕ) → Choice n a → Choice (rewritten_variables n row) (completion row a) × (take n (completion row a) ≡ a)
completion_completes n row a c = (completion_choice n row a c, completion-take n row a c)

-- It "has r(k) of a group on exactly when at least k of that group's leaves hold".
pub completion_counts : (n : ℕ) (row a : List ℕ) → length row ≡ n → Choice n a → AllCount (holds (completion row a)) n (tree (leaves row))
completion_counts n row a long c =
    let e : List ℕ = completion row a in
    let ch : Choice (rewritten_variables n row) e = completion_choice n row a c in
    let q : e ≡ completion row (take n e) = ap (completion row) (sym (completion-take n row a c)) in
    segment_right (rewritten_variables n row) e ch n (tree (leaves row)) (omega arith) (completion-segment n row e ch (row_within n row long) q)

-- Of the completions of a choice, that one meets the rewritten rules exactly when the choice meets the given rules with at most d broken wishes; no other ever does.
pub completions : (n : ℕ) (list : List ℤ) (row : List ℕ) (d : ℕ) (a e : List ℕ) → SoundList n list → length row ≡ n
    → Choice (rewritten_variables n row) e → take n e ≡ a
    → (models e (clauses (rewritten n list row d)) ≡ true) ↔ ((models a (clauses list) ≡ true) × (disagreement row a ≤ d) × (e ≡ completion row a))
completions n list row d a e ok long ch q = rw (← q) (
  rewritten_says n list row d ok long e ch,
  λ (h : (models (take n e) (clauses list) ≡ true) × (disagreement row (take n e) ≤ d) × (e ≡ completion row (take n e))).
      rewritten_met n list row d ok long e ch h.0 h.1 h.2,
)

-- So what a search finds for the rewritten rules has, in its first n variables, a choice that meets the given rules with at most d broken wishes.
pub found_within : (n : ℕ) (list : List ℤ) (row : List ℕ) (d : ℕ) (e : List ℕ) → SoundList n list → length row ≡ n
    → Choice (rewritten_variables n row) e → models e (clauses (rewritten n list row d)) ≡ true
    → Choice n (take n e) × (models (take n e) (clauses list) ≡ true) × (disagreement row (take n e) ≤ d)
found_within n list row d e ok long ch m =
    let (given, near, own) = rewritten_says n list row d ok long e ch m in
    (choice_take n (rewritten_variables n row) e ch (omega arith), given, near)

-- and every such choice has a completion for it to find
pub within_found : (n : ℕ) (list : List ℤ) (row : List ℕ) (d : ℕ) (a : List ℕ) → SoundList n list → length row ≡ n
    → Choice n a → models a (clauses list) ≡ true → disagreement row a ≤ d → models (completion row a) (clauses (rewritten n list row d)) ≡ true
within_found n list row d a ok long c m near =
    (completions n list row d a (completion row a) ok long (completion_choice n row a c) (completion-take n row a c)).1 (m, near, refl)

-- "64 wishes add 384 settings and 4,800 rules; 3 add 5 and 16; 1 and 0 add none before the limit rule."
pub adds_64 : (n : ℕ) (row : List ℕ) → total_weight row ≡ 64 → (rewritten_variables n row ≡ n + 384) × (length (totalizer n (tree (leaves row))) ≡ 4800)
adds_64 n row h =
    let m : length (leaves row) ≡ 64 = leaves-length row ∙ h in
    (ap (λ (k : ℕ). n + k) (added_64 (leaves row) m), clauses_64 n (leaves row) m)

pub adds_3 : (n : ℕ) (row : List ℕ) → total_weight row ≡ 3 → (rewritten_variables n row ≡ n + 5) × (length (totalizer n (tree (leaves row))) ≡ 16)
adds_3 n row h =
    let m : length (leaves row) ≡ 3 = leaves-length row ∙ h in
    (ap (λ (k : ℕ). n + k) (added_3 (leaves row) m), clauses_3 n (leaves row) m)

pub adds_none : (n : ℕ) (row : List ℕ) → total_weight row ≤ 1 → (rewritten_variables n row ≡ n) × (length (totalizer n (tree (leaves row))) ≡ 0)
adds_none n row h =
    let m : length (leaves row) ≤ 1 = omega (arith, leaves-length row) in
    (omega (arith, added_1 (leaves row) m), clauses_1 n (leaves row) m)

-- What is admitted to rewriting stays within the limits of the file, whatever the row and d.
pub rewritten_variables_lem : (n : ℕ) (row : List ℕ) → n ≤ max_wish_variables → bad_wish 0 0 row ≡ None → rewritten_variables n row ≤ max_variables
rewritten_variables_lem n row h w =
    let m : length (leaves row) ≤ 64 = omega (arith, leaves-length row, sound_weight row w) in
    omega (arith, added-most (leaves row) m)

-- The rewritten list is sound for its number of variables: "On admitted input no call named here is refused except with 15."
pub rewritten_sound : (n : ℕ) (list : List ℤ) (row : List ℕ) (d : ℕ) → SoundList n list → length row ≡ n → bad_wish 0 0 row ≡ None
    → length (clauses list) ≤ max_wish_clauses → literals (clauses list) ≤ max_wish_literals → SoundList (rewritten_variables n row) (rewritten n list row d)
rewritten_sound n list row d ok long w few small =
    let N : ℕ = rewritten_variables n row in
    let own : List (List ℤ) = at_most n (leaves row) d in
    let (f, s) = rewritten_sizes n list row d ok long w few small in
    let q : clauses (rewritten n list row d) ≡ clauses list ++ own = rewritten-clauses n list row d ok long in
    let formed : well_formed N (clauses list ++ own) ≡ true =
    all_append (joining N []) (clauses list) own
    ∙ and_both (well_formed N (clauses list)) (well_formed N own)
    (well_formed_more n N (clauses list) (omega arith) (sound n list ok).formed)
    (row_formed n row d long) in
    ap (bad_rule N unread 0) (behind n list own (sound n list ok))
    ∙ flat_sound N (clauses list ++ own) formed (omega (arith, f, ap length q)) (omega (arith, s, ap literals q))
