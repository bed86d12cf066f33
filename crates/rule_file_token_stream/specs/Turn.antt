-- What a turn of a loop over a stream of tokens tells of the file.
use Rattle.std.specs.Prelude.{◌≡◌, List, ℕ, Option, None, Some, Result, Ok, Err}
use Rattle.std.proofs.Common.{sym, ap, ◌∙◌, Bor}
use Rattle.rule_file.specs.Tokens.{tokens_from}
use Rattle.rule_file_tokens.specs.declared.Element.{Element}
use Rattle.rule_file_tokens.specs.declared.Malformed.{Malformed}
use Rattle.rule_file_tokens.specs.NextToken.{malformed, element_at, next_of}
use Rattle.rule_file_token_stream.specs.declared.TokenStream.{TokenStream}
use Rattle.rule_file_token_stream.specs.Past.{past}

-- the stream is one of the file, before the turn and after it
module _ (file : List ℕ) (old : TokenStream) (same : old.file.now ≡ file) where
  pub same_file : (new : TokenStream) → new.file ≡ old.file → new.file.now ≡ file
  same_file new e = ap (λ (f : Bor (List ℕ)). f.now) e ∙ same

  -- its first token is malformed
  pub unread : (m : Malformed) → Err m ≡ next_of (tokens_from old.file.now old.at) → malformed m.place ≡ next_of (tokens_from file old.at)
  unread m first = first ∙ ap (λ (s : List ℕ). next_of (tokens_from s old.at)) same

  module _ (o : Option Element) (first : Ok o ≡ next_of (tokens_from old.file.now old.at)) where
    in_file : Ok o ≡ next_of (tokens_from file old.at)
    in_file = first ∙ ap (λ (s : List ℕ). next_of (tokens_from s old.at)) same

    -- it has none
    pub at_end : o ≡ None → Ok None ≡ next_of (tokens_from file old.at)
    at_end e = ap (λ (p : Option Element). Ok p) (sym e) ∙ in_file

    -- or a number of the list
    module _ (t : Element) (e : o ≡ Some t) where
      pub number : element_at t.place t.value t.next ≡ next_of (tokens_from file old.at)
      number = ap (λ (p : Option Element). Ok p) (sym e) ∙ in_file

      pub moved : (new : TokenStream) → new.at ≡ past (Ok o) old.at → new.at ≡ t.next
      moved new f = f ∙ ap (λ (p : Option Element). past (Ok p) old.at) e
