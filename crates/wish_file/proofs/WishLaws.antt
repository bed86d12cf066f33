-- What follows from the definitions of specs/WishLaws.antt.
use Rattle.std.specs.Prelude.{◌≡◌, refl, Bool, true, false, cond, ◌&&◌, List, [], ◌∷◌, ◌++◌, ℕ, zero, suc, ◌+◌, ◌-◌, ◌≤◌, ◌<◌, leb, length, set, replicate, None, Some}
use Rattle.std.proofs.Common.{sym, ap, ap₂, subst, subst₂, ◌∙◌, append_assoc, append-nil, add-zero, zero-add, arith, length-append, length-set, le-leb}
use Rattle.std.proofs.lemmas.Option.{none-some}
use Rattle.std.proofs.lemmas.List.{length-replicate, replicate-append-replicate, set_at}
use Rattle.std.proofs.Math.Seq.{append_snoc}
use Rattle.wish.specs.Wish.{weight, is_row_byte, free_byte, is_wish, wish_count, total_weight}
use Rattle.limits.specs.Limits.{max_wishes}
use Rattle.wish.specs.Laws.{free_byte_lem, free_no_wish, no_wish_free, for_byte, for_wish, for_wished, wished_for, wished_bit}
use Rattle.refusal_causes.specs.Sound.{bad_wish}
use Rattle.wish_file.specs.Wishes.{Wish, wish_list, marked, row_of, Rising, wish_as, byte_of}
use Rattle.wish_file.specs.WishLaws.{Bytes}

-- a row is sound where they may, and its wishes weigh little (`weight-from` of crate refusal_causes)
pub sound_bytes : (row : List ℕ) (m i : ℕ) → bad_wish m i row ≡ None → Bytes row
sound_bytes [] m i e = tt
sound_bytes (w ∷ row) m i e = go (is_row_byte w) refl (leb (m + weight w) max_wishes) e (sound_bytes row (m + weight w) (suc i))
  where
    go : (t : Bool) → is_row_byte w ≡ t → (u : Bool) → cond (t && u) (bad_wish (m + weight w) (suc i) row) (Some i) ≡ None
        → (bad_wish (m + weight w) (suc i) row ≡ None → Bytes row) → (is_row_byte w ≡ true) × Bytes row
    go true f true r ih = (f, ih r)
    go true f false r ih = absurd (none-some i (sym r))
    go false f u r ih = absurd (none-some i (sym r))

pub sound_whole : (row : List ℕ) (m i : ℕ) → Bytes row → m + total_weight row ≤ max_wishes → bad_wish m i row ≡ None
sound_whole [] m i b h = refl
sound_whole (w ∷ row) m i b h =
    rw (b.0, le-leb (m + weight w) max_wishes (omega arith)) (sound_whole row (m + weight w) (suc i) b.1 (omega arith))

pub list_length : (v : ℕ) (row : List ℕ) → length (wish_list v row) ≡ wish_count row
list_length v [] = refl
list_length v (w ∷ row) = go (is_wish w) (list_length (suc v) row)
  where
    go : (t : Bool) → length (wish_list (suc v) row) ≡ wish_count row
        → length (cond t (wish_as v w ∷ wish_list (suc v) row) (wish_list (suc v) row)) ≡ cond t (suc (wish_count row)) (wish_count row)
    go true e = omega arith
    go false e = omega arith

pub list_rising : (row : List ℕ) (v n last : ℕ) → last < v → v + length row ≤ suc n → Rising n last (wish_list v row)
list_rising [] v n last h k = tt
list_rising (w ∷ row) v n last h k =
    go (is_wish w) (λ (l : ℕ) (f : l < suc v). list_rising row (suc v) n l f (omega arith))
  where
    go : (t : Bool) → ((l : ℕ) → l < suc v → Rising n l (wish_list (suc v) row))
        → Rising n last (cond t (wish_as v w ∷ wish_list (suc v) row) (wish_list (suc v) row))
    go true ih = (h, omega arith, wished_bit w, ih v (omega arith))
    go false ih = ih last (omega arith)

-- the wishes of a row, put into a row that is free from there on, give the row again
list_marked : (row p : List ℕ) → Bytes row → marked (p ++ replicate (length row) free_byte) (wish_list (suc (length p)) row) ≡ p ++ row
list_marked [] p b = refl
list_marked (w ∷ row) p b = go (is_wish w) refl (λ (x : ℕ). list_marked row (p ++ x ∷ []) b.1)
  where
    free : List ℕ
    free = replicate (length row) free_byte

    next : (x : ℕ) → suc (length (p ++ x ∷ [])) ≡ suc (suc (length p))
    next x = omega (arith, length-append p (x ∷ []))

    step : (x : ℕ) → marked ((p ++ x ∷ []) ++ free) (wish_list (suc (length (p ++ x ∷ []))) row) ≡ (p ++ x ∷ []) ++ row
        → marked (p ++ x ∷ free) (wish_list (suc (suc (length p))) row) ≡ p ++ x ∷ row
    step x e =
        ap₂ (λ (r : List ℕ) (k : ℕ). marked r (wish_list k row)) (sym (append_snoc p x free)) (sym (next x)) ∙ e ∙ append_snoc p x row

    go : (t : Bool) → is_wish w ≡ t
        → ((x : ℕ) → marked ((p ++ x ∷ []) ++ free) (wish_list (suc (length (p ++ x ∷ []))) row) ≡ (p ++ x ∷ []) ++ row)
        → marked (p ++ free_byte ∷ free) (cond t (wish_as (suc (length p)) w ∷ wish_list (suc (suc (length p))) row) (wish_list (suc (suc (length p))) row)) ≡ p ++ w ∷ row
    go true e ih =
        ap (λ (r : List ℕ). marked r (wish_list (suc (suc (length p))) row)) (set_at p free_byte free (byte_of (wish_as (suc (length p)) w)) (suc (length p) - 1) (omega arith) ∙ ap (λ (x : ℕ). p ++ x ∷ free) (wished_for w e))
        ∙ step w (ih w)
    go false e ih =
        step free_byte (ih free_byte) ∙ ap (λ (x : ℕ). p ++ x ∷ row) (sym (no_wish_free w b.0 e))

pub row_list : (row : List ℕ) → Bytes row → row_of (length row) (wish_list 1 row) ≡ row
row_list row b = list_marked row [] b

-- the wishes of a row in two parts, and of a free one
list_append : (v : ℕ) (p q : List ℕ) → wish_list v (p ++ q) ≡ wish_list v p ++ wish_list (v + length p) q
list_append v [] q = ap (λ (k : ℕ). wish_list k q) (sym (add-zero v))
list_append v (w ∷ p) q = go (is_wish w) (list_append (suc v) p q ∙ ap (λ (k : ℕ). wish_list (suc v) p ++ wish_list k q) (place v (length p)))
  where
    place : (a b : ℕ) → suc a + b ≡ a + suc b
    place a b = omega arith

    go : (t : Bool) → wish_list (suc v) (p ++ q) ≡ wish_list (suc v) p ++ wish_list (v + suc (length p)) q
        → cond t (wish_as v w ∷ wish_list (suc v) (p ++ q)) (wish_list (suc v) (p ++ q))
        ≡ cond t (wish_as v w ∷ wish_list (suc v) p) (wish_list (suc v) p) ++ wish_list (v + suc (length p)) q
    go true e = ap (λ (ws : List Wish). wish_as v w ∷ ws) e
    go false e = e

list_free : (k v : ℕ) → wish_list v (replicate k free_byte) ≡ []
list_free zero v = refl
list_free (suc k) v =
    ap (λ (t : Bool). cond t (wish_as v free_byte ∷ wish_list (suc v) (replicate k free_byte)) (wish_list (suc v) (replicate k free_byte))) free_no_wish
    ∙ list_free k (suc v)

-- a byte put into the free part of a row
put_free : (p : List ℕ) (gap left b : ℕ)
    → set (p ++ replicate (gap + suc left) free_byte) (length p + gap) b ≡ ((p ++ replicate gap free_byte) ++ b ∷ []) ++ replicate left free_byte
put_free p gap left b =
    ap (λ (s : List ℕ). set s (length p + gap) b) split
    ∙ set_at (p ++ replicate gap free_byte) free_byte (replicate left free_byte) b (length p + gap) size
    ∙ sym (append_snoc (p ++ replicate gap free_byte) b (replicate left free_byte))
  where
    split : p ++ replicate (gap + suc left) free_byte ≡ (p ++ replicate gap free_byte) ++ replicate (suc left) free_byte
    split =
        ap (λ (s : List ℕ). p ++ s) (sym (replicate-append-replicate gap (suc left) free_byte))
        ∙ sym (append_assoc p (replicate gap free_byte) (replicate (suc left) free_byte))

    size : length (p ++ replicate gap free_byte) ≡ length p + gap
    size = length-append p (replicate gap free_byte) ∙ ap (λ (k : ℕ). length p + k) (length-replicate gap free_byte)

-- rising wishes, put into a row that is free from there on, are its wishes
marked_list : (ws : List Wish) (p : List ℕ) (k : ℕ) → Rising (length p + k) (length p) ws → wish_list 1 (marked (p ++ replicate k free_byte) ws) ≡ wish_list 1 p ++ ws
marked_list [] p k r = list_append 1 p (replicate k free_byte) ∙ ap (λ (us : List Wish). wish_list 1 p ++ us) (list_free k (1 + length p))
marked_list (w ∷ ws) p k r =
    ap (λ (s : List ℕ). wish_list 1 (marked s ws)) put
    ∙ marked_list ws (q ++ byte_of w ∷ []) left (subst₂ (λ (a b : ℕ). Rising a b ws) room (sym size) r.3)
    ∙ ap (λ (us : List Wish). us ++ ws) known
    ∙ append_snoc (wish_list 1 p) w ws
  where
    gap : ℕ
    gap = w.variable - 1 - length p

    left : ℕ
    left = length p + k - w.variable

    q : List ℕ
    q = p ++ replicate gap free_byte

    put : set (p ++ replicate k free_byte) (w.variable - 1) (byte_of w) ≡ (q ++ byte_of w ∷ []) ++ replicate left free_byte
    put =
        let parts : k ≡ gap + suc left = omega (arith, r.0, r.1) in
        let place : w.variable - 1 ≡ length p + gap = omega (arith, r.0) in
        ap₂ (λ (j i : ℕ). set (p ++ replicate j free_byte) i (byte_of w)) parts place ∙ put_free p gap left (byte_of w)

    size : length (q ++ byte_of w ∷ []) ≡ w.variable
    size =
        omega (arith, length-append q (byte_of w ∷ []), length-append p (replicate gap free_byte), length-replicate {A = ℕ} gap free_byte, r.0)

    room : length p + k ≡ length (q ++ byte_of w ∷ []) + left
    room = omega (arith, size, r.1)

    before : wish_list 1 q ≡ wish_list 1 p
    before =
        list_append 1 p (replicate gap free_byte)
        ∙ ap (λ (us : List Wish). wish_list 1 p ++ us) (list_free gap (1 + length p))
        ∙ append-nil (wish_list 1 p)

    here : wish_list (1 + length q) (byte_of w ∷ []) ≡ w ∷ []
    here =
        let v : 1 + length q ≡ w.variable = omega (arith, size, length-append q (byte_of w ∷ [])) in
        ap (λ (t : Bool). cond t (wish_as (1 + length q) (byte_of w) ∷ []) []) (for_wish w.mark r.2)
        ∙ ap₂ (λ (x y : ℕ). record { variable = x; mark = y } ∷ []) v (for_wished w.mark r.2)

    known : wish_list 1 (q ++ byte_of w ∷ []) ≡ wish_list 1 p ++ w ∷ []
    known = list_append 1 q (byte_of w ∷ []) ∙ ap₂ (λ (a b : List Wish). a ++ b) before here

pub list_row : (n : ℕ) (ws : List Wish) → Rising n 0 ws → wish_list 1 (row_of n ws) ≡ ws
list_row n ws r = marked_list ws [] n (subst (λ (a : ℕ). Rising a 0 ws) (sym (zero-add n)) r)

-- the row of some wishes has n bytes, and these may stand in a row
marked-length : (ws : List Wish) (row : List ℕ) → length (marked row ws) ≡ length row
marked-length [] row = refl
marked-length (w ∷ ws) row = marked-length ws (set row (w.variable - 1) (byte_of w)) ∙ length-set row (w.variable - 1) (byte_of w)

pub row_length_lem : (n : ℕ) (ws : List Wish) → length (row_of n ws) ≡ n
row_length_lem n ws = marked-length ws (replicate n free_byte) ∙ length-replicate n free_byte

bytes_set : (row : List ℕ) (i b : ℕ) → is_row_byte b ≡ true → Bytes row → Bytes (set row i b)
bytes_set [] i b h r = tt
bytes_set (w ∷ row) zero b h r = (h, r.1)
bytes_set (w ∷ row) (suc i) b h r = (r.0, bytes_set row i b h r.1)

bytes_marked : (ws : List Wish) (n last : ℕ) (row : List ℕ) → Rising n last ws → Bytes row → Bytes (marked row ws)
bytes_marked [] n last row r b = b
bytes_marked (w ∷ ws) n last row r b =
    bytes_marked ws n w.variable (set row (w.variable - 1) (byte_of w)) r.3 (bytes_set row (w.variable - 1) (byte_of w) (for_byte w.mark r.2) b)

bytes_free : (n : ℕ) → Bytes (replicate n free_byte)
bytes_free zero = tt
bytes_free (suc n) = (free_byte_lem, bytes_free n)

pub row_bytes : (n : ℕ) (ws : List Wish) → Rising n 0 ws → Bytes (row_of n ws)
row_bytes n ws r = bytes_marked ws n 0 (replicate n free_byte) r (bytes_free n)
