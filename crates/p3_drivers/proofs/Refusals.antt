-- Why a step that reads is refused.
use Rattle.std.proofs.Common.{◌≡◌, ◌∙◌, sym, ap, ℕ, List, length, true, Ok, Err, refl, inl, inr, subst}
use Rattle.p3_challenger_core.specs.Observation.{Observation, observed_all}
use Rattle.p3_challenger_core.specs.declared.error.ChallengerError.{ChallengerError}
use Rattle.p3_fs_core.specs.{Errors.transcript_error, Steps.Step, declared.error.TranscriptError.TranscriptError}
use Rattle.p3_fs_core.specs.{declared.error.TranscriptError.TheVariants.{BadProofShape, OutOfMemory}, Encoding.Encoding}
use Rattle.p3_fs_core.specs.{BigEndian.count_bytes, Alphabet.Alphabet}
use Rattle.p3_driver_core.specs.{Effects.{observing_bytes, Effect}, Transcripts.{Abandons, step_on, IsNext}}
use Rattle.p3_driver_core.specs.Reads.{message_too_long, received_bounded, absorbed_first, reading_first, received_list}
use Rattle.p3_driver_core.specs.Reads.{FailsForList, LeavesValues, read_values, read_count, then_read, FailsFor}
use Rattle.p3_driver_core.specs.{Reads.{Reading, Read}, Driving.Driving, Verifying.{RefusesToRead, Receives}}
use Rattle.p3_drivers.proofs.ValuesInTurn.{values-as_many}
use Rattle.p3_challenger_core.specs.declared.error.ChallengerError.TheVariants as challenger

-- nothing was read, and nothing done
pub not-read : {S Symbol A : Type 0} (r : Reading S Symbol A) (before after : Driving S) (e : TranscriptError) → IsNext
    before.transcript.playing r.interaction → FailsFor (r.read before.bytes) after.bytes e → after.transcript.challenger
    ≡ before.transcript.challenger → after.transcript.playing.finished ≡ true → RefusesToRead r before e after
not-read r before after (BadProofShape reason) is_next fails same finished = record {
  failure = record { reason = reason.now; left = after.bytes; absorbed = λ s. s };
  is_next = is_next;
  read = fails;
  reason_is = refl;
  unread = refl;
  challenger = same;
  finished = finished;
}
not-read r before after e is_next fails same finished = absurd fails

by_error : {S Symbol A : Type 0} (interaction : Step) (read : List ℕ → Read S A) (effect : A → Effect S Symbol A)
    (before after : Driving S) (x : A) (e : ChallengerError) → read before.bytes ≡ Ok (x, after.bytes) →
    Abandons interaction before.transcript ((effect x).refuses e) after.transcript →
    RefusesToRead (reading_first interaction read effect) before (transcript_error e) after
by_error interaction read effect before after x challenger.OutOfMemory found given =
    record { is_next = given.is_next; leaves = (x, found, inr (inr given.leaves)); finished = given.finished }
by_error interaction read effect before after x e found given = record { value = x; read = found; abandons = given }

-- all was read, and the challenger refuses it
pub refused-after_read : {S Symbol A : Type 0} (interaction : Step) (read : List ℕ → Read S A)
    (effect : A → Effect S Symbol A) (before after : Driving S) (x : A) (e : ChallengerError) (here : S) →
    IsNext before.transcript.playing interaction →
    read before.bytes ≡ Ok (x, after.bytes) → here ≡ before.transcript.challenger →
    (effect x).refuses e here after.transcript.challenger → after.transcript.playing.finished ≡ true →
    RefusesToRead (reading_first interaction read effect) before (transcript_error e) after
refused-after_read {S} interaction read effect before after x e here is_next found same refuses finished =
    let from_before = subst (λ (s : S). (effect x).refuses e s after.transcript.challenger) same refuses in
    let abandons : Abandons interaction before.transcript ((effect x).refuses e) after.transcript =
    record { is_next = is_next; leaves = from_before; finished = finished } in
    by_error interaction read effect before after x e found abandons

-- ---- lists

module _ {S Symbol A : Type 0} (interaction : Step) (o : Observation S Symbol A) (enc : Encoding A) (before after :
    Driving S) (is_next : IsNext before.transcript.playing interaction)
    (finished : after.transcript.playing.finished ≡ true) where
  -- a list is refused
  pub list-refused : (n : ℕ) (err : TranscriptError) → FailsForList (read_values enc o.observed n before.bytes)
      (LeavesValues enc o n before.bytes) before.transcript.challenger after.bytes after.transcript.challenger err →
      RefusesToRead (received_list interaction o enc n) before err after
  list-refused n (BadProofShape reason) fails = record {
    failure = fails.0;
    is_next = is_next;
    read = fails.1;
    reason_is = fails.2;
    unread = fails.3;
    challenger = fails.4;
    finished = finished;
  }
  list-refused n OutOfMemory fails = record { is_next = is_next; leaves = fails; finished = finished }
  list-refused n e fails = absurd fails

  module _ {I : Type 0} (alphabet : Alphabet S Symbol I) (max : ℕ) where
    -- a count that is none is why there is no list
    pub count-fails : (left : List ℕ) (err : TranscriptError) →
        FailsFor (read_count {S = S} message_too_long max before.bytes) left err →
        FailsFor ((received_bounded interaction alphabet max o enc).read before.bytes) left err
    count-fails left (BadProofShape reason) fails = ap (then_read (λ n rest.
        absorbed_first (observing_bytes alphabet (count_bytes max n)).after (read_values enc o.observed n rest))) fails
    count-fails left e fails = absurd fails

    module _ (n : ℕ) (rest : List ℕ) (found : read_count {S = S} message_too_long max before.bytes ≡ Ok (n, rest)) where
      -- the count is refused for memory
      pub count-refused : after.bytes ≡ rest → (e : ChallengerError) → e ≡ challenger.OutOfMemory →
          (observing_bytes alphabet (count_bytes max n)).refuses e before.transcript.challenger
          after.transcript.challenger →
          RefusesToRead (received_bounded interaction alphabet max o enc) before (transcript_error e) after
      count-refused left challenger.OutOfMemory is refuses =
          record { is_next = is_next; leaves = (n, rest, found, inl (left, refuses)); finished = finished }
      count-refused left e is refuses = absurd (cc)

      whole : (r : Read S (List A)) → read_values enc o.observed n rest ≡ r →
          (received_bounded interaction alphabet max o enc).read before.bytes
          ≡ absorbed_first (observing_bytes alphabet (count_bytes max n)).after r
      whole r is = ap (then_read (λ m bs.
          absorbed_first (observing_bytes alphabet (count_bytes max m)).after (read_values enc o.observed m bs))) found
          ∙ ap (absorbed_first (observing_bytes alphabet (count_bytes max n)).after) is

      -- the values after it are refused
      pub values-refused : (here : S) (err : TranscriptError) →
          here ≡ (observing_bytes alphabet (count_bytes max n)).after before.transcript.challenger → FailsForList
          (read_values enc o.observed n rest) (LeavesValues enc o n rest) here after.bytes after.transcript.challenger
          err → RefusesToRead (received_bounded interaction alphabet max o enc) before err after
      values-refused here (BadProofShape reason) is fails = record {
        failure = record {
          reason = fails.0.reason;
          left = fails.0.left;
          absorbed = λ s. fails.0.absorbed ((observing_bytes alphabet (count_bytes max n)).after s);
        };
        is_next = is_next;
        read = whole (Err fails.0) fails.1;
        reason_is = fails.2;
        unread = fails.3;
        challenger = fails.4 ∙ ap fails.0.absorbed is;
        finished = finished;
      }
      values-refused here OutOfMemory is fails =
          let leaves = subst (λ s. LeavesValues enc o n rest s after.bytes after.transcript.challenger) is fails in
          record { is_next = is_next; leaves = (n, rest, found, inr leaves); finished = finished }
      values-refused here e is fails = absurd fails

-- a list is received after its count
pub values-received : {S Symbol I A : Type 0} (interaction : Step) (o : Observation S Symbol A) (enc : Encoding A)
    (alphabet : Alphabet S Symbol I) (max : ℕ) (before after : Driving S) (n : ℕ) (rest : List ℕ) (xs : List A)
    (here : S) → IsNext before.transcript.playing interaction → read_count {S = S} message_too_long max before.bytes
    ≡ Ok (n, rest) → (alphabet.is_too_long (length (count_bytes max n)) → ⊥) →
    here ≡ (observing_bytes alphabet (count_bytes max n)).after before.transcript.challenger →
    read_values enc o.observed n rest ≡ Ok (xs, after.bytes) →
    after.transcript.challenger ≡ observed_all o.observed here xs → after.transcript.playing ≡ step_on
    before.transcript.playing → Receives (received_bounded interaction alphabet max o enc) before xs after
values-received interaction o enc alphabet max before after n rest xs here is_next found fits is read observed playing =
    let many : length xs ≡ n = values-as_many enc o n rest xs after.bytes read in
    record {
      is_next = is_next;
      read = ap (then_read (λ m bs.
          absorbed_first (observing_bytes alphabet (count_bytes max m)).after (read_values enc o.observed m bs))) found
          ∙ ap (absorbed_first (observing_bytes alphabet (count_bytes max n)).after) read;
      fits = (subst (λ m. alphabet.is_too_long (length (count_bytes max m)) → ⊥) (sym many) fits, tt);
      gives = refl;
      challenger = observed ∙ ap (λ s. observed_all o.observed s xs) is ∙ ap (λ m. observed_all o.observed
          ((observing_bytes alphabet (count_bytes max m)).after before.transcript.challenger) xs) (sym many);
      playing = playing;
    }

-- no memory is asked for where nothing is read
pub fails-with-memory : {S A : Type 0} (read : Read S A) (left : List ℕ) (e : TranscriptError) → FailsFor read left e →
    e ≡ OutOfMemory → ⊥
fails-with-memory read left e fails is = subst (λ (m : TranscriptError). FailsFor read left m) is fails
