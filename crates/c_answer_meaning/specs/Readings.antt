-- An answer's refusal is 0 only where the call gave an answer, and never 5: for the two calls that read a file.
use Rattle.std.specs.Prelude.{◌≡◌, refl, List, ℕ, ltb, length}
use Rattle.refusal.specs.Passing.{some-cause, by_place}
use Rattle.refusal.specs.Reply.{place_if}
use Rattle.rule_file.specs.Format as rule-file
use Rattle.wish_file.specs.Format as wish-file
use Rattle.file_causes.specs.Causes.{rule_causes, wish_causes}
use Rattle.file_causes.proofs.Causes.{each, rule_number, wish_number}
use Rattle.rule_file_reader.specs.Read as rules
use Rattle.wish_file_reader.specs.Read as wishes
use Rattle.c_answer_meaning.specs.Numbers.{ordinary}
use Rattle.c_answer_meaning.specs.Replies.{Told, told_refusal, told_unless}

module _ (file : List ℕ) (room : ℕ) where
  pub read_rules_told : Told (rules.read_reply file room)
  read_rules_told = go (rule-file.reading file) refl
    where
      go : (g : rule-file.Reading) → rule-file.reading file ≡ g → Told (rules.replying g room)
      go (rule-file.refuses r) e = told_refusal r (some-cause r (each ordinary rule_causes r.number refl (rule_number file r e)))
      go (rule-file.gives n c list) e = told_unless _ 1 n c (length list) (by_place 15 refl (place_if (ltb room (length list)) (length list)))

  pub read_wishes_told : Told (wishes.read_reply file room)
  read_wishes_told = go (wish-file.reading file) refl
    where
      go : (g : wish-file.Reading) → wish-file.reading file ≡ g → Told (wishes.replying g room)
      go (wish-file.refuses r) e = told_refusal r (some-cause r (each ordinary wish_causes r.number refl (wish_number file r e)))
      go (wish-file.gives n m d row) e = told_unless _ 1 n m d (by_place 15 refl (place_if (ltb room n) n))
