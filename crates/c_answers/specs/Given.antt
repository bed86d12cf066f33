-- The reply by which `answer_of` answers is each call's own `reply_of`.
use Rattle.std.specs.Prelude.{◌≡◌, refl, ℕ, Option, Result, Ok, Err}
use Rattle.refusal.specs.declared.Refusal.{Refusal}
use Rattle.refusal.specs.Reply.{Reply}
use Rattle.replies.specs.Rewritten as rewrite
use Rattle.replies.specs.Written as written_text
use Rattle.replies.specs.declared.Sizes.{Sizes}
use Rattle.rule_file_reader.specs.Read as rules_read
use Rattle.rule_file_reader.specs.declared.RuleCounts.{RuleCounts}
use Rattle.wish_file.specs.declared.WishHeader.{WishHeader}
use Rattle.wish_file_reader.specs.Read as wishes_read
use Rattle.checking.specs.Check as check
use Rattle.checking.specs.declared.Checked.{Checked}
use Rattle.search_meaning.specs.Answers as search
use Rattle.c_answers.specs.Answers.{reply_by}

-- a reply of a whole answer is that of its refusal, or of what it gives
same : {A : Type 0} (reply_of : Result A Refusal → Reply) → ((r : Refusal) → reply_by (λ x. reply_of (Ok x)) (Err r) ≡ reply_of (Err r))
    → (given : Result A Refusal) → reply_by (λ x. reply_of (Ok x)) given ≡ reply_of given
same reply_of refused (Err r) = refused r
same reply_of refused (Ok x) = refl

pub written_reply : (given : Result ℕ Refusal) → reply_by (λ x. written_text.reply_of (Ok x)) given ≡ written_text.reply_of given
written_reply = same written_text.reply_of (λ r. refl)

pub rules_reply : (given : Result RuleCounts Refusal) → reply_by (λ x. rules_read.reply_of (Ok x)) given ≡ rules_read.reply_of given
rules_reply = same rules_read.reply_of (λ r. refl)

pub wishes_reply : (given : Result WishHeader Refusal) → reply_by (λ x. wishes_read.reply_of (Ok x)) given ≡ wishes_read.reply_of given
wishes_reply = same wishes_read.reply_of (λ r. refl)

pub rewritten_reply : (given : Result Sizes Refusal) → reply_by (λ x. rewrite.reply_of (Ok x)) given ≡ rewrite.reply_of given
rewritten_reply = same rewrite.reply_of (λ r. refl)

pub searched_reply : (given : Result (Option ℕ) Refusal) → reply_by (λ x. search.reply_of (Ok x)) given ≡ search.reply_of given
searched_reply = same search.reply_of (λ r. refl)

pub checked_reply : (given : Result Checked Refusal) → reply_by (λ x. check.reply_of (Ok x)) given ≡ check.reply_of given
checked_reply = same check.reply_of (λ r. refl)
