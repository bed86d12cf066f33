-- The equations by which proofs read a token.
use Rattle.std.specs.Prelude.{◌≡◌, refl, Bool, true, false, cond, List, [], ◌∷◌, map, ℕ, zero, suc, ◌+◌, ◌-◌, ◌≤◌, ◌<◌, eqb, ℤ, pos, negsuc, neg_ℤ, length, get_or, take, drop, Option, None, Some, unwrap_or, Ok}
use Rattle.std.proofs.Common.{sym, ap, ap₂, ◌∙◌, subst, not-suc-le-zero, arith, length-drop, take_all, SFits, to_z, of_z, ne_eqb}
use Rattle.std.proofs.lemmas.Option.{same_Some, none-some}
use Rattle.std.specs.Int.{w32}
use Rattle.std.proofs.lemmas.Int.{to_z-of_z}
use Rattle.decimal.specs.Decimal.{number}
use Rattle.decimal.specs.Laws.{number_small}
use Rattle.rule_file.specs.Class.{minus, class_of}
use Rattle.rule_file.proofs.Laws.{run_take, run_inside}
use Rattle.rule_file.specs.Format.{positive, negative, signed, element}
use Rattle.rule_file.specs.TokenLaws.{First, Shaped}
use Rattle.rule_file.proofs.TokenLaws.{shaped}
use Rattle.rule_file.specs.Tokens.{leading, in_token, Token, tokens_from}
use Rattle.rule_file_tokens.specs.NextToken.{malformed, element_at, next_as, next_of, first_place}

-- the first byte of a token: a minus or none
pub signed_empty : (w : List ℕ) → length w ≡ 0 → signed w ≡ None
signed_empty [] e = refl
signed_empty (b ∷ w) e = absurd (omega arith)

pub signed-minus : (w : List ℕ) → 0 < length w → class_of (get_or w 0 0) ≡ minus → signed w ≡ negative (number (take (length w - 1) (drop 1 w)))
signed-minus [] h e = absurd (not-suc-le-zero h)
signed-minus (b ∷ w) h e =
    let whole : take (suc (length w) - 1) w ≡ w = take_all (suc (length w) - 1) w (omega arith) in
    rw (e, whole)

pub signed-plain : (w : List ℕ) → 0 < length w → (class_of (get_or w 0 0) ≡ minus → ⊥) → signed w ≡ positive (number w)
signed-plain [] h e = absurd (not-suc-le-zero h)
signed-plain (b ∷ w) h e = rw (ne_eqb (class_of b) minus e)

-- a number with its sign
pub negative-zero : (v : ℕ) → v ≡ 0 → negative (Some v) ≡ None
negative-zero v e = rw e

pub negative-some : (v : ℕ) → (v ≡ 0 → ⊥) → negative (Some v) ≡ Some (neg_ℤ (pos v))
negative-some zero e = absurd (e refl)
negative-some (suc k) e = refl

-- numbers of five digits fit an i32
pub positive_fits : (v : ℕ) → v < 100000 → SFits w32 (pos v)
positive_fits v h = record { sfits = omega arith }

pub negative_fits : (v : ℕ) → v < 100000 → SFits w32 (neg_ℤ (pos v))
negative_fits zero h = record { sfits = omega arith }
negative_fits (suc k) h = record { sfits = omega arith }

positive_inverse : (o : Option ℕ) (x : ℤ) → ((v : ℕ) → o ≡ Some v → v < 100000) → positive o ≡ Some x → SFits w32 x
positive_inverse None x f e = absurd (none-some x e)
positive_inverse (Some v) x f e = subst (λ (z : ℤ). SFits w32 z) (same_Some (pos v) x e) (positive_fits v (f v refl))

negative_inverse : (o : Option ℕ) (x : ℤ) → ((v : ℕ) → o ≡ Some v → v < 100000) → negative o ≡ Some x → SFits w32 x
negative_inverse None x f e = absurd (none-some x e)
negative_inverse (Some zero) x f e = absurd (none-some x e)
negative_inverse (Some (suc k)) x f e = subst (λ (z : ℤ). SFits w32 z) (same_Some (negsuc k) x e) (negative_fits (suc k) (f (suc k) refl))

pub signed_fits : (w : List ℕ) (x : ℤ) → signed w ≡ Some x → SFits w32 x
signed_fits [] x e = absurd (none-some x e)
signed_fits (b ∷ w) x e = go (eqb (class_of b) minus) e
  where
    go : (t : Bool) → cond t (negative (number w)) (positive (number (b ∷ w))) ≡ Some x → SFits w32 x
    go true f = negative_inverse (number w) x (number_small w) f
    go false f = positive_inverse (number (b ∷ w)) x (number_small (b ∷ w)) f

pub held : (x z : ℤ) → x ≡ z → SFits w32 z → to_z w32 (of_z w32 x) ≡ z
held x z e f = rw (e) (to_z-of_z w32 z f)

-- a run from an index on ends inside the file
pub run_end_inside : (p : ℕ → Bool) (s : List ℕ) (at end : ℕ) → end ≡ at + length (leading p (drop at s)) → at ≤ length s → end ≤ length s
run_end_inside p s at end e h = omega (arith, run_inside p (drop at s), length-drop at s)

-- the first of the tokens from an offset on, if there is one
first_of : (s : List ℕ) (at : ℕ) (t : Token) (ts : List Token) → tokens_from s at ≡ t ∷ ts → First s at t ts
first_of s at t ts e = subst (Shaped s at) e (shaped s at)

-- the place at which the next token was found, and where it ends
module _ (s : List ℕ) (at start : ℕ) (e : start ≡ first_place (length s) (tokens_from s at)) where
  pub no_token : length s ≤ start → Ok None ≡ next_of (tokens_from s at)
  no_token h = go (tokens_from s at) refl
    where
      go : (ts : List Token) → tokens_from s at ≡ ts → Ok None ≡ next_of ts
      go [] f = refl
      go (t ∷ ts) f =
          let first = first_of s at t ts f in
          absurd (omega (arith, first.some, first.inside, e ∙ ap (first_place (length s)) f))

  module _ (end : ℕ) (f : end ≡ start + length (leading in_token (drop start s))) (h : start < length s) where
    abbrev bytes_of : List ℕ
    bytes_of = take (end - start) (drop start s)

    found : (o : Option ℤ) → signed bytes_of ≡ o → next_as start end o ≡ next_of (tokens_from s at)
    found o g = go (tokens_from s at) refl
      where
        go : (ts : List Token) → tokens_from s at ≡ ts → next_as start end o ≡ next_of ts
        go [] k = absurd (omega (arith, e ∙ ap (first_place (length s)) k))
        go (t ∷ ts) k =
            let first = first_of s at t ts k in
            let place : start ≡ t.place = e ∙ ap (first_place (length s)) k in
            let run : leading in_token (drop start s) ≡ t.bytes = ap (λ (i : ℕ). leading in_token (drop i s)) place ∙ sym first.run in
            let past : end ≡ t.place + length t.bytes = f ∙ ap₂ (λ (i : ℕ) (w : List ℕ). i + length w) place run in
            let size : end - start ≡ length (leading in_token (drop start s)) = omega arith in
            let bytes : bytes_of ≡ t.bytes = ap (λ (k : ℕ). take k (drop start s)) size ∙ run_take in_token (drop start s) ∙ run in
            ap (next_as start end) (sym g ∙ ap signed bytes) ∙ ap₂ (λ (i j : ℕ). next_as i j (signed t.bytes)) place past

    pub token_malformed : signed bytes_of ≡ None → malformed start ≡ next_of (tokens_from s at)
    token_malformed g = found None g

    pub token_element : (x : ℤ) → signed bytes_of ≡ Some x → element_at start (to_z w32 (of_z w32 x)) end ≡ next_of (tokens_from s at)
    token_element x g =
        ap (λ (z : ℤ). element_at start z end) (held x x refl (signed_fits bytes_of x g)) ∙ found (Some x) g

-- What the answer for an offset tells of all the tokens from there on.
pub record Bad (s : List ℕ) (at place : ℕ) : Type 0 where
  pub bytes : List ℕ
  pub rest : List Token
  pub split : tokens_from s at ≡ record { place = place; bytes = bytes } ∷ rest
  pub malformed : signed bytes ≡ None

pub record Good (s : List ℕ) (at place : ℕ) (x : ℤ) (next : ℕ) : Type 0 where
  pub bytes : List ℕ
  pub split : tokens_from s at ≡ record { place = place; bytes = bytes } ∷ tokens_from s next
  pub number : signed bytes ≡ Some x
  pub later : at < next
  pub inside : next ≤ length s

module _ (s : List ℕ) (at : ℕ) where
  pub token_end : next_of (tokens_from s at) ≡ Ok None → tokens_from s at ≡ []
  token_end e = go (tokens_from s at) e
    where
      one : (t : Token) (o : Option ℤ) → next_as t.place (t.place + length t.bytes) o ≡ Ok None → ⊥
      one t None f = cc
      one t (Some x) f = cc

      go : (ts : List Token) → next_of ts ≡ Ok None → ts ≡ []
      go [] f = refl
      go (t ∷ ts) f = absurd (one t (signed t.bytes) f)

  pub token_bad : (place : ℕ) → next_of (tokens_from s at) ≡ malformed place → Bad s at place
  token_bad place e = go (tokens_from s at) refl e
    where
      one : (t : Token) (ts : List Token) (o : Option ℤ) → tokens_from s at ≡ t ∷ ts → signed t.bytes ≡ o
          → next_as t.place (t.place + length t.bytes) o ≡ malformed place → Bad s at place
      one t ts None f g k =
          let same : t.place ≡ place = grind arith in
          record { bytes = t.bytes; rest = ts; split = f ∙ ap (λ (p : ℕ). record { place = p; bytes = t.bytes } ∷ ts) same; malformed = g }
      one t ts (Some x) f g k = cc

      go : (ts : List Token) → tokens_from s at ≡ ts → next_of ts ≡ malformed place → Bad s at place
      go [] f k = cc
      go (t ∷ ts) f k = one t ts (signed t.bytes) f refl k

  pub token_good : (place : ℕ) (x : ℤ) (next : ℕ) → next_of (tokens_from s at) ≡ element_at place x next → Good s at place x next
  token_good place x next e = go (tokens_from s at) refl e
    where
      one : (t : Token) (ts : List Token) → First s at t ts → (o : Option ℤ) → tokens_from s at ≡ t ∷ ts → signed t.bytes ≡ o
          → next_as t.place (t.place + length t.bytes) o ≡ element_at place x next → Good s at place x next
      one t ts first None f g k = cc
      one t ts first (Some y) f g k =
          let same_place : t.place ≡ place = grind arith in
          let same-value : y ≡ x = grind arith in
          let same_next : t.place + length t.bytes ≡ next = grind arith in
          record {
            bytes = t.bytes;
            split = f ∙ ap₂ (λ (p : ℕ) (us : List Token). record { place = p; bytes = t.bytes } ∷ us) same_place (first.rest ∙ ap (tokens_from s) same_next);
            number = g ∙ ap Some same-value;
            later = omega (arith, first.later, first.some);
            inside = omega (arith, first.inside);
          }

      go : (ts : List Token) → tokens_from s at ≡ ts → next_of ts ≡ element_at place x next → Good s at place x next
      go [] f k = cc
      go (t ∷ ts) f k = one t ts (first_of s at t ts f) (signed t.bytes) f refl k

-- the numbers from there on are the token's and those past it
pub token_numbers : (file : List ℕ) (at : ℕ) {place next : ℕ} {x : ℤ} → Good file at place x next → map element (tokens_from file at) ≡ x ∷ map element (tokens_from file next)
token_numbers file at {place} {next} {x} g =
    ap (map element) g.split ∙ ap (λ (o : Option ℤ). unwrap_or o (pos 0) ∷ map element (tokens_from file next)) g.number

-- the number that a token gives is held by an i32
pub number-held : (file : List ℕ) (at : ℕ) {place next : ℕ} {x : ℤ} → element_at place x next ≡ next_of (tokens_from file at) → to_z w32 (of_z w32 x) ≡ x
number-held file at {place} {next} {x} e =
    let g = token_good file at place x next (sym e) in
    held x x refl (signed_fits g.bytes x g.number)
