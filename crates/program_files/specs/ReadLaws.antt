-- What the readers' answers tell, where the list and the row have room for every good file: the file is refused for itself, or what it gives stands at the front.
use Rattle.std.specs.Prelude.{◌≡◌, refl, List, ◌++◌, ℕ, ◌≤◌, ◌<◌, ℤ, length, take, drop, Option, None}
use Rattle.std.proofs.Common.{ap, ◌∙◌, arith, length-append, take_at, le-ltb, lt-ltb}
use Rattle.refusal.specs.declared.Refusal.{Refusal}
use Rattle.refusal.specs.Laws.{room_enough}
use Rattle.refusal.specs.Reply.{refusing, answering, unless, too_short, filled}
use Rattle.rule_file.proofs.Accepted as accepted-rules
use Rattle.rule_file.specs.Format as rule
use Rattle.rule_file.proofs.Sizes.{sound_length}
use Rattle.rule_file_reader.specs.Read as rules
use Rattle.wish_file.specs.Format as wish
use Rattle.wish_file.proofs.RoundTrip as accepted-wishes
use Rattle.wish_file_reader.specs.Read as wishes
use Rattle.program_files.specs.Problem.{Problem, silent, max_file, together, problem}

-- what a call filled, from the front
pub front {ℓ} : {A : Type ℓ} (l out result : List A) (k : ℕ) → length l ≡ k → result ≡ l ++ drop (length l) out → (take k result ≡ l) × (k ≤ length result)
front l out result k e f =
    (ap (take k) f ∙ take_at l (drop (length l) out) k e, omega (arith, ap length f, length-append l (drop (length l) out)))

-- a rule file, read into a list
module _ (file : List ℕ) (out : List ℤ) (room : 40000 ≤ length out) where
  fits : (n c : ℕ) (l : List ℤ) → rule.reading file ≡ rule.gives n c l → too_short (length l) (length out) ≡ None
  fits n c l e =
      room_enough (length l) (length out) (omega (arith, sound_length n l (accepted-rules.accepted file n c l e).sound))

  pub list_refused : (r : Refusal) → refusing r ≡ rules.read_reply file (length out) → rule.reading file ≡ rule.refuses r
  list_refused r e = go (rule.reading file) refl e
    where
      go : (g : rule.Reading) → rule.reading file ≡ g → refusing r ≡ rules.replying g (length out) → g ≡ rule.refuses r
      go (rule.refuses q) f h = cc
      go (rule.gives n c l) f h =
          let never : refusing r ≡ answering 1 n c (length l) = h ∙ ap (λ (o : Option Refusal). unless o (answering 1 n c (length l))) (fits n c l f) in cc

  pub list_read : (n c k : ℕ) (result : List ℤ) → answering 1 n c k ≡ rules.read_reply file (length out) → result ≡ rules.read_output file out
      → (rule.reading file ≡ rule.gives n c (take k result)) × (k ≤ length result)
  list_read n c k result e f = go (rule.reading file) refl e f
    where
      go : (g : rule.Reading) → rule.reading file ≡ g → answering 1 n c k ≡ rules.replying g (length out) → result ≡ rules.leaving g out
          → (g ≡ rule.gives n c (take k result)) × (k ≤ length result)
      go (rule.refuses q) h i j = absurd (let z : ◌≡◌ {A = ℕ} 0 1 = cc in omega arith)
      go (rule.gives n' c' l) h i j =
          let fit = fits n' c' l h in
          let same : answering 1 n c k ≡ answering 1 n' c' (length l) = i ∙ ap (λ (o : Option Refusal). unless o (answering 1 n' c' (length l))) fit in
          let size : length l ≡ k = cc in
          let n_is : n' ≡ n = cc in
          let c_is : c' ≡ c = cc in
          let whole = front l out result k size (j ∙ ap (λ (o : Option Refusal). filled o l out) fit) in
          (rw (n_is, c_is, whole.0), whole.1)

-- a wish file, read into a row
module _ (file out : List ℕ) (room : 256 ≤ length out) where
  fits_row : (n m d : ℕ) (row : List ℕ) → wish.reading file ≡ wish.gives n m d row → too_short n (length out) ≡ None
  fits_row n m d row e = room_enough n (length out) (omega (arith, (accepted-wishes.accepted file n m d row e).most))

  pub row_refused : (r : Refusal) → refusing r ≡ wishes.read_reply file (length out) → wish.reading file ≡ wish.refuses r
  row_refused r e = go (wish.reading file) refl e
    where
      go : (g : wish.Reading) → wish.reading file ≡ g → refusing r ≡ wishes.replying g (length out) → g ≡ wish.refuses r
      go (wish.refuses q) f h = cc
      go (wish.gives n m d row) f h =
          let never : refusing r ≡ answering 1 n m d = h ∙ ap (λ (o : Option Refusal). unless o (answering 1 n m d)) (fits_row n m d row f) in cc

  pub row_read : (n m d : ℕ) (result : List ℕ) → answering 1 n m d ≡ wishes.read_reply file (length out) → result ≡ wishes.read_output file out
      → (wish.reading file ≡ wish.gives n m d (take n result)) × (n ≤ length result)
  row_read n m d result e f = go (wish.reading file) refl e f
    where
      go : (g : wish.Reading) → wish.reading file ≡ g → answering 1 n m d ≡ wishes.replying g (length out) → result ≡ wishes.leaving g out
          → (g ≡ wish.gives n m d (take n result)) × (n ≤ length result)
      go (wish.refuses q) h i j = absurd (let z : ◌≡◌ {A = ℕ} 0 1 = cc in omega arith)
      go (wish.gives n' m' d' row) h i j =
          let fit = fits_row n' m' d' row h in
          let same : answering 1 n m d ≡ answering 1 n' m' d' = i ∙ ap (λ (o : Option Refusal). unless o (answering 1 n' m' d')) fit in
          let n_is : n' ≡ n = cc in
          let m-is : m' ≡ m = cc in
          let d-is : d' ≡ d = cc in
          let size : length row ≡ n = (accepted-wishes.accepted file n' m' d' row h).size ∙ n_is in
          let whole = front row out result n size (j ∙ ap (λ (o : Option Refusal). filled o row out) fit) in
          (rw (n_is, m-is, d-is, whole.0), whole.1)

-- the lengths of the files
module _ (rules-file wish-file : List ℕ) where
  pub long_rules : max_file < length rules-file → silent ≡ problem rules-file wish-file
  long_rules h = rw (lt-ltb max_file (length rules-file) h)

  module _ (fine : length rules-file ≤ max_file) where
    pub long_wishes : max_file < length wish-file → silent ≡ problem rules-file wish-file
    long_wishes h = rw (le-ltb max_file (length rules-file) fine, lt-ltb max_file (length wish-file) h)

    pub both_read : length wish-file ≤ max_file → (p : Problem) → p ≡ together (rule.reading rules-file) (wish.reading wish-file) → p ≡ problem rules-file wish-file
    both_read h p e = rw (le-ltb max_file (length rules-file) fine, le-ltb max_file (length wish-file) h) e
