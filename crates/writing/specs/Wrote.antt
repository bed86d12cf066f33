-- What writing into a lent list does, and how two writings follow one another.
use Rattle.std.specs.Prelude.{◌≡◌, refl, List, [], ◌∷◌, ◌++◌, ℕ, suc, ◌+◌, ◌≤◌, ◌<◌, length, get_or, take, drop, set, replicate}
use Rattle.std.proofs.Common.{sym, ap, ap₂, ◌∙◌, zero-add, add-one, arith, length-append, take-suc, take_at, take_all}
use borrow.Rule.Slice.PartMut.{put_mid}
use Rattle.std.proofs.lemmas.Slice.{put_mid-paste}
use Rattle.std.proofs.lemmas.List.{replicate-append-replicate}
use Rattle.std.proofs.lemmas.List.Edits.{sets, sets-eq}
use Rattle.std.proofs.Math.Seq.{length-sets}

-- the elements w were written over a list from place at on, and next is the place past them
pub record Wrote {A : Type 0} (w before : List A) (at : ℕ) (after : List A) (next : ℕ) : Type 0 where
  pub place : next ≡ at + length w
  pub list : after ≡ sets before at w

-- what follows other elements is written after them
pub sets-append : {A : Type 0} (l : List A) (at : ℕ) (w v : List A) → sets l at (w ++ v) ≡ sets (sets l at w) (at + length w) v
sets-append l at [] v = let same : at + 0 ≡ at = omega arith in rw (same)
sets-append l at (x ∷ w) v =
    let same : suc at + length w ≡ at + suc (length w) = omega arith in
    sets-append (set l at x) (suc at) w v ∙ ap (λ (k : ℕ). sets (sets (set l at x) (suc at) w) k v) same

-- nothing
pub wrote_none : {A : Type 0} (l : List A) (at : ℕ) → Wrote [] l at l at
wrote_none l at = record { place = omega arith; list = refl }

-- one element
pub wrote_one : {A : Type 0} (x : A) (l : List A) (at : ℕ) → Wrote (x ∷ []) l at (set l at x) (at + 1)
wrote_one x l at = record { place = refl; list = refl }

-- a part of a list, written over as a whole by other elements
pub wrote_part : {A : Type 0} (w l part : List A) (at k : ℕ) → part ≡ w → k ≡ length w → at + length w ≤ length l → Wrote w l at (put_mid at k l part) (at + length w)
wrote_part w l part at k e q h =
    let whole : take k w ≡ w = take_all k w (omega arith) in
    record {
      place = refl;
      list = put_mid-paste at k l part w k e refl q ∙ rw (whole, q) (sym (sets-eq w l at h));
    }

-- one writing after another
pub wrote_more : {A : Type 0} {w v l : List A} {at : ℕ} {m : List A} {i : ℕ} {k : List A} {j : ℕ} → Wrote w l at m i → Wrote v m i k j → Wrote (w ++ v) l at k j
wrote_more {A} {w} {v} {l} {at} a b =
    record {
      place = omega (arith, a.place, b.place, length-append w v);
      list = b.list ∙ ap₂ (λ (n : List A) (h : ℕ). sets n h v) a.list a.place ∙ sym (sets-append l at w v);
    }

-- the same elements in another form
pub wrote_as : {A : Type 0} {w v l : List A} {at : ℕ} {m : List A} {i : ℕ} → w ≡ v → Wrote w l at m i → Wrote v l at m i
wrote_as e a = rw (← e) a

-- a list keeps its length
pub wrote_length : {A : Type 0} {w l : List A} {at : ℕ} {m : List A} {i : ℕ} → Wrote w l at m i → length m ≡ length l
wrote_length {A} {w} {l} {at} a = ap length a.list ∙ length-sets l at w

-- what is still to be written has room behind what was
pub wrote_room : {A : Type 0} {w l : List A} {at : ℕ} {m : List A} {i : ℕ} (rest : List A) → Wrote w l at m i → at + length (w ++ rest) ≤ length l → i + length rest ≤ length m
wrote_room {A} {w} {l} {at} rest a h = omega (arith, a.place, wrote_length a, length-append w rest)

-- one more copy of an element, and one more element of a list
pub wrote_copy : {A : Type 0} {x : A} {l : List A} {at : ℕ} {m : List A} {i : ℕ} {k : List A} {j : ℕ} (n : ℕ)
    → Wrote (replicate n x) l at m i → Wrote (x ∷ []) m i k j → Wrote (replicate (n + 1) x) l at k j
wrote_copy {A} {x} n a b = wrote_as (replicate-append-replicate n 1 x) (wrote_more a b)

pub wrote_next : {A : Type 0} {l : List A} {at : ℕ} {m : List A} {i : ℕ} {k : List A} {j : ℕ} (list : List A) (n : ℕ) (z : A) → n < length list
    → Wrote (take n list) l at m i → Wrote (get_or list n z ∷ []) m i k j → Wrote (take (n + 1) list) l at k j
wrote_next {A} list n z h a b =
    wrote_as (sym (take-suc list n z h) ∙ ap (λ (c : ℕ). take c list) (sym (add-one n))) (wrote_more a b)

-- what is still to be written follows what was
wrote_before : {A : Type 0} {w l : List A} {at : ℕ} {m : List A} {i : ℕ} (rest : List A) → Wrote w l at m i → sets m i rest ≡ sets l at (w ++ rest)
wrote_before {A} {w} {l} {at} rest a =
    ap₂ (λ (n : List A) (h : ℕ). sets n h rest) a.list a.place ∙ sym (sets-append l at w rest)

-- what was written from the start on: the list is that and its own rest
pub wrote_whole : {A : Type 0} {w l m : List A} {i : ℕ} → Wrote w l 0 m i → length w ≤ length l → m ≡ w ++ drop (length w) l
wrote_whole {A} {w} {l} a h =
    a.list ∙ sets-eq w l 0 (omega arith) ∙ ap (λ (k : ℕ). w ++ drop k l) (zero-add (length w))

pub wrote_front : {A : Type 0} {w l m : List A} {i : ℕ} → Wrote w l 0 m i → length w ≤ length l → take i m ≡ w
wrote_front {A} {w} {l} {m} {i} a h = ap (take i) (wrote_whole a h) ∙ take_at w (drop (length w) l) i (omega (arith, a.place))

-- Of the elements all, which are to be written over l from place from on, the rest are still to be written, over m from place at on.
pub record Remaining {A : Type 0} (all l : List A) (from : ℕ) (rest m : List A) (at : ℕ) : Type 0 where
  pub long : length m ≡ length l
  pub place : at + length rest ≡ from + length all
  pub list : sets m at rest ≡ sets l from all

-- all of them at first; one part less after it was written; and in the end none, so that all were written
pub remaining_all : {A : Type 0} (all l : List A) (from : ℕ) → Remaining all l from all l from
remaining_all all l from = record { long = refl; place = refl; list = refl }

pub remaining_next : {A : Type 0} {all l : List A} {from : ℕ} {rest m : List A} {at : ℕ} {w k : List A} {i : ℕ} (later : List A)
    → Remaining all l from rest m at → rest ≡ w ++ later → Wrote w m at k i → Remaining all l from later k i
remaining_next {A} {all} {l} {from} {rest} {m} {at} {w} later r e a =
    record {
      long = wrote_length a ∙ r.long;
      place = omega (arith, a.place, r.place, ap length e, length-append w later);
      list = wrote_before later a ∙ ap (sets m at) (sym e) ∙ r.list;
    }

pub remaining_none : {A : Type 0} {all l : List A} {from : ℕ} {rest m : List A} {at : ℕ} → Remaining all l from rest m at → rest ≡ [] → Wrote all l from m at
remaining_none {A} {all} {l} {from} {rest} {m} {at} r e =
    record { place = omega (arith, r.place, ap length e); list = sym (ap (sets m at) e) ∙ r.list }

-- the next part has room, if all have
pub remaining_room : {A : Type 0} {all l : List A} {from : ℕ} {rest m : List A} {at : ℕ} (w later : List A)
    → Remaining all l from rest m at → rest ≡ w ++ later → from + length all ≤ length l → at + length w ≤ length m
remaining_room w later r e h = omega (arith, r.place, r.long, ap length e, length-append w later)
