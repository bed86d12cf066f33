-- What follows from the definitions of specs/Calls.antt.
use Rattle.std.specs.Prelude.{◌≡◌, true, List, ◌∷◌, ◌++◌, ℕ, ℤ}
use Rattle.std.proofs.Common.{sym, ap, ◌∙◌}
use Rattle.rule_file.specs.Format.{Reading, gives, reading}
use Rattle.rule_file_reader.specs.Read.{replying, leaving}
use Rattle.rule_file_comments.specs.Lines.{comment_line, is_text, ends_line}
use Rattle.rule_file_comments.proofs.Skipped.{comment_accepted, last_comment_accepted}
use Rattle.rule_file_comments.specs.Calls.{SameCall}

same_call : (file file' : List ℕ) → reading file ≡ reading file' → SameCall file file'
same_call file file' e = record {
  reply = λ room. ap (λ (r : Reading). replying r room) e;
  output = λ out. ap (λ (r : Reading). leaving r out) e;
}

module _ (front text : List ℕ) (whole : ends_line true front ≡ true) (line : is_text text ≡ true) (n c : ℕ) (list : List ℤ) where
  pub comment_kept : (back : List ℕ) → reading (front ++ back) ≡ gives n c list → SameCall (front ++ (comment_line text ++ back)) (front ++ back)
  comment_kept back accepted =
      same_call (front ++ (comment_line text ++ back)) (front ++ back) ((comment_accepted front text back whole line n c list).1 accepted ∙ sym accepted)

  pub last_comment_kept : reading front ≡ gives n c list → SameCall (front ++ 99 ∷ text) front
  last_comment_kept accepted = same_call (front ++ 99 ∷ text) front ((last_comment_accepted front text whole line n c list).1 accepted ∙ sym accepted)
