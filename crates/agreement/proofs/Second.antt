-- What follows from the definitions of specs/Second.antt.
use Rattle.std.specs.Prelude.{◌≡◌, refl, List, ℕ, ◌≤◌, ◌<◌, ℤ, length, take, drop, replicate, Option, None, Some}
use Rattle.std.proofs.Common.{sym, ap, subst, ◌∙◌, le_refl, arith}
use Rattle.std.proofs.lemmas.List.{length-replicate}
use Rattle.std.proofs.Math.Seq.{take-append_seam}
use Rattle.formula.specs.Formula.{clauses}
use Rattle.refusal.specs.declared.Refusal.{Refusal}
use Rattle.refusal.specs.Laws.{room_enough}
use Rattle.refusal.specs.Reply.{Reply, answering, unless, filled, too_short}
use Rattle.refusal_causes.specs.Admitted.{Admitted, admitted_room, plain_admitted}
use Rattle.refusal_causes.specs.Lent.{plain_problem, wished_problem, refusal_of}
use Rattle.limits.specs.Limits.{max_variables}
use Rattle.rule_list.specs.Sound.{SoundList}
use Rattle.walk.specs.Walk.{plain_walk}
use Rattle.totalizer.specs.Totalizer.{rewritten_variables, rewritten}
use Rattle.totalizer.proofs.Theorems.{rewritten_variables_lem, rewritten_sound}
use Rattle.rule_file.specs.Format.{Reading}
use Rattle.rule_file.proofs.RoundTrip.{read_written}
use Rattle.rule_file.specs.Written.{written}
use Rattle.search_meaning.specs.Searches.{found, broken_by}
use Rattle.totalizer_encoding.specs.Rewrite.{lent_to_rewrite, rewrite_output}
use Rattle.rule_file_writer.specs.Write.{lent_to_write, write_output}
use Rattle.rule_file_reader.specs.Read.{replying, leaving}
use Rattle.agreement.proofs.Causes.{short_fine, fine_passes, answered_past}
use Rattle.agreement_second_route.specs.Routes.{on_answer, Buffers, from_search, from_reader, from_writer, second_route, Answered, Passes}
use Rattle.agreement.specs.Second.{outcome}

on-unless : (o : Option Refusal) (v x y z : ℕ) (next : ℕ → ℕ → ℕ → ℕ → Reply) → on_answer (unless o (answering v x y z)) next ≡ unless o (next v x y z)
on-unless None v x y z next = refl
on-unless (Some r) v x y z next = refl

-- the part that a call filled is its result
take-filled {ℓ} : {A : Type ℓ} (o : Option Refusal) (result out : List A) (next : List A → Reply)
    → unless o (next (take (length result) (filled o result out))) ≡ unless o (next result)
take-filled None result out next = ap next (take-append_seam result (drop (length result) out))
take-filled (Some r) result out next = refl

pub found_answered : (o : Option ℕ) → Answered (found o)
found_answered None = tt
found_answered (Some k) = tt

pub found_passes : (o : Option ℕ) → Passes (found o)
found_passes None = tt
found_passes (Some k) = tt

module _ (n : ℕ) (rules : List ℤ) (row : List ℕ) (d : ℕ) (a : Admitted (wished_problem n rules row d)) where
  abbrev N : ℕ
  N = rewritten_variables n row

  abbrev R : List ℤ
  R = rewritten n rules row d

  abbrev W : List ℕ
  W = written N R

  pub sound : SoundList N R
  sound = rewritten_sound n rules row d a.sound_rules a.long_row a.sound_row a.small.few a.small.short

  positive : 0 < N
  positive = omega (arith, a.positive)

  most : N ≤ max_variables
  most = rewritten_variables_lem n row a.small.variables a.sound_row

  plain : Admitted (plain_problem N R)
  plain = plain_admitted N R positive most sound

  module _ (b : Buffers) where
    search_says : from_search b N R ≡ unless (too_short N (length b.choice)) (outcome n rules row d)
    search_says = ap (λ (o : Option Refusal). unless o (outcome n rules row d)) (admitted_room (plain_problem N R) N (length b.choice) plain)

    reader_says : from_reader b W ≡ unless (too_short (length R) (length b.list)) (from_search b N R)
    reader_says =
        ap
        (λ (g : Reading). on_answer (replying g (length b.list)) (λ (v n c size : ℕ). from_search b n (take size (leaving g b.list))))
        (read_written N R positive most sound)
        ∙ on-unless (too_short (length R) (length b.list)) 1 N (length (clauses R)) (length R)
        (λ (v n c size : ℕ). from_search b n (take size (filled (too_short (length R) (length b.list)) R b.list)))
        ∙ take-filled (too_short (length R) (length b.list)) R b.list (from_search b N)

    writer_says : from_writer b N R ≡ unless (too_short (length W) (length b.file)) (from_reader b W)
    writer_says =
        let o : Option Refusal = refusal_of (lent_to_write N R (length b.file)) in
        on-unless o 1 (length W) 0 0 (λ (v size y z : ℕ). from_reader b (take size (write_output N R b.file)))
        ∙ take-filled o W b.file (from_reader b)
        ∙ ap (λ (p : Option Refusal). unless p (from_reader b W)) (admitted_room (plain_problem N R) (length W) (length b.file) plain)

    rewriting_says : second_route n rules row d b ≡ unless (too_short (length R) (length b.rewritten)) (from_writer b N R)
    rewriting_says =
        let o : Option Refusal = refusal_of (lent_to_rewrite n rules row d (length b.rewritten)) in
        on-unless o 1 N (length R) 0 (λ (v variables size z : ℕ). from_writer b variables (take size (rewrite_output n rules row d b.rewritten)))
        ∙ take-filled o R b.rewritten (from_writer b N)
        ∙ ap (λ (p : Option Refusal). unless p (from_writer b N R)) (admitted_room (wished_problem n rules row d) (length R) (length b.rewritten) a)

    -- the whole route: the refusals for want of room, in the order of the calls, and then the answer of plain search
    pub second_says : second_route n rules row d b
        ≡ unless (too_short (length R) (length b.rewritten))
        (unless (too_short (length W) (length b.file))
        (unless (too_short (length R) (length b.list))
        (unless (too_short N (length b.choice)) (outcome n rules row d))))
    second_says =
        rewriting_says
        ∙ ap (λ (r : Reply). unless (too_short (length R) (length b.rewritten)) r)
        (writer_says
        ∙ ap (λ (r : Reply). unless (too_short (length W) (length b.file)) r)
        (reader_says ∙ ap (λ (r : Reply). unless (too_short (length R) (length b.list)) r) search_says))

    pub second_passes : Passes (second_route n rules row d b)
    second_passes =
        subst Passes (sym second_says)
        (fine_passes (too_short (length R) (length b.rewritten)) _ (short_fine (length R) (length b.rewritten))
        (fine_passes (too_short (length W) (length b.file)) _ (short_fine (length W) (length b.file))
        (fine_passes (too_short (length R) (length b.list)) _ (short_fine (length R) (length b.list))
        (fine_passes (too_short N (length b.choice)) (outcome n rules row d) (short_fine N (length b.choice))
        (found_passes (broken_by (plain_walk N (clauses R)).answer))))))

    pub second_outcome : Answered (second_route n rules row d b) → second_route n rules row d b ≡ outcome n rules row d
    second_outcome h =
        let one = answered_past (too_short (length R) (length b.rewritten)) _ (subst Answered second_says h) in
        let two = answered_past (too_short (length W) (length b.file)) _ one.1 in
        let three = answered_past (too_short (length R) (length b.list)) _ two.1 in
        let four = answered_past (too_short N (length b.choice)) (outcome n rules row d) three.1 in
        second_says ∙ one.0 ∙ two.0 ∙ three.0 ∙ four.0

  abbrev off : List ℕ
  off = replicate N 0

  -- buffers of just the lengths that are needed
  abbrev pub enough : Buffers
  enough = record { rewritten = R; file = W; list = R; choice = off }

  pub second_enough : Answered (second_route n rules row d enough)
  second_enough =
      let all : second_route n rules row d enough ≡ outcome n rules row d =
      second_says enough
      ∙ ap (λ (o : Option Refusal). unless o (unless (too_short (length W) (length W)) (unless o (unless (too_short N (length off)) (outcome n rules row d)))))
      (room_enough (length R) (length R) (le_refl (length R)))
      ∙ ap (λ (o : Option Refusal). unless o (unless (too_short N (length off)) (outcome n rules row d)))
      (room_enough (length W) (length W) (le_refl (length W)))
      ∙ ap (λ (o : Option Refusal). unless o (outcome n rules row d)) (room_enough N (length off) (omega (arith, length-replicate {A = ℕ} N 0)))
      in
      subst Answered (sym all) (found_answered (broken_by (plain_walk N (clauses R)).answer))
