-- What follows from the definitions of specs/Laws.antt.
use Rattle.std.specs.Prelude.{◌≡◌, refl, Bool, true, false, not, List, ℕ, ◌+◌, ◌≤◌, ◌<◌, ℤ, length, drop, Option, None, Some, Ok}
use Rattle.std.specs.Int.{w32}
use Rattle.std.proofs.Common.{sym, ap, ◌∙◌, to_z, of_z}
use Rattle.std.proofs.lemmas.Option.{same_Some}
use Rattle.literal.specs.Literal.{closes}
use Rattle.rule_file.specs.Format.{past_comments, Header, header}
use Rattle.rule_file.specs.Tokens.{tokens_from}
use Rattle.rule_file_tokens.specs.Laws.{Good, token_end, token_bad, token_good, number-held}
use Rattle.rule_file_tokens.specs.NextToken.{malformed, element_at, next_of}
use Rattle.rule_file_header.specs.declared.Header as H
use Rattle.rule_file_header.specs.Header.{header_as}
use Rattle.program_empty_rule.specs.Empty.{empty_at, empty_among, empty_behind, empty_rule}
use Rattle.program_empty_rule.specs.Laws.{empty_from}

-- no token is left; the next one is malformed
module _ (filled : Bool) (file : List ℕ) (at : ℕ) where
  pub at_end_lem : Ok None ≡ next_of (tokens_from file at) → empty_from filled file at ≡ length file
  at_end_lem e = ap (empty_among filled (length file)) (token_end file at (sym e))

  pub at_malformed : (place : ℕ) → malformed place ≡ next_of (tokens_from file at) → empty_from filled file at ≡ place
  at_malformed place e =
      let b = token_bad file at place (sym e) in
      ap (empty_among filled (length file)) b.split
      ∙ ap (λ (o : Option ℤ). empty_at filled place o (λ f. empty_among f (length file) b.rest)) b.malformed

  -- it is the number x
  module _ {place next : ℕ} {x : ℤ} (e : element_at place x next ≡ next_of (tokens_from file at)) where
    g : Good file at place x next
    g = token_good file at place x next (sym e)

    pub later : (at < next) × (next ≤ length file)
    later = (g.later, g.inside)

    at_number : empty_from filled file at ≡ empty_at filled place (Some x) (λ f. empty_from f file next)
    at_number =
        ap (empty_among filled (length file)) g.split
        ∙ ap (λ (o : Option ℤ). empty_at filled place o (λ f. empty_from f file next)) g.number

    -- as an i32 holds it
    abbrev value : ℤ
    value = to_z w32 (of_z w32 x)

    held : value ≡ x
    held = number-held file at e

    pub closes_empty : closes value ≡ true → filled ≡ false → empty_from filled file at ≡ place
    closes_empty z f = at_number ∙ rw (ap closes (sym held) ∙ z, f)

    pub closes-filled : closes value ≡ true → filled ≡ true → empty_from filled file at ≡ empty_from false file next
    closes-filled z f = at_number ∙ rw (ap closes (sym held) ∙ z, f)

    pub fills : closes value ≡ false → empty_from filled file at ≡ empty_from true file next
    fills z = at_number ∙ rw (ap closes (sym held) ∙ z)

    -- r says whether it closes a clause; an empty one ends the search
    pub turned : (r : Bool) → r ≡ closes value → (r ≡ true → filled ≡ true) → empty_from filled file at ≡ empty_from (not r) file next
    turned true f full = closes-filled (sym f) (full refl)
    turned false f full = fills (sym f)

-- the header
module _ (file : List ℕ) (place : ℕ) (here : place ≡ past_comments false 0 file) where
  from_place : (o : Option Header) → header (drop place file) ≡ o → empty_rule file ≡ empty_behind file place o
  from_place o e =
      ap (λ (at : ℕ). empty_behind file at (header (drop at file))) (sym here) ∙ ap (empty_behind file place) e

  pub header_missing : None ≡ header_as place (header (drop place file)) → empty_rule file ≡ place
  header_missing e = go (header (drop place file)) refl e
    where
      go : (o : Option Header) → header (drop place file) ≡ o → None ≡ header_as place o → empty_rule file ≡ place
      go None f g = from_place None f
      go (Some h) f g = cc

  pub header_found : (h : H.Header) → Some h ≡ header_as place (header (drop place file)) → empty_rule file ≡ empty_from false file h.next
  header_found h e = go (header (drop place file)) refl e
    where
      go : (o : Option Header) → header (drop place file) ≡ o → Some h ≡ header_as place o → empty_rule file ≡ empty_from false file h.next
      go None f g = cc
      go (Some k) f g =
          from_place (Some k) f
          ∙ ap (λ (t : H.Header). empty_from false file t.next)
          (sym (same_Some h (record { variables = k.variables; clauses = k.clauses; next = place + k.size }) g))
