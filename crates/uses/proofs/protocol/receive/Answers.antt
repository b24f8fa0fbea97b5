use Rattle.std.proofs.Common.{lit<, ◌≡◌, ◌++◌, [], length, append-nil, ap, sym, ◌∙◌}
use Rattle.std.proofs.lemmas.Result.{err_from_is_err_and}
use Rattle.p3_challenger.specs.{Bound.bound_value, Encoding.{Encoding, IsEncoding}, Scalar.encoding}
use Rattle.p3_challenger.specs.{ScalarLaws.is_encoding, Transcripts.step_on, Drivers.verifying_of}
use Rattle.p3_field.specs.{BabyBearResidues.{residues, BabyBear}, SmallPrimeLaws.laws}
use Rattle.p3_challenger.specs.AheadLaws.{completing-of, memory-of, plays-on, plays-or_memory, reads, reads-or_memory}
use Rattle.p3_challenger.specs.ReadsLaws.{bytes-left, bytes-read, value-left, value-read, encoded-whole}
use Rattle.uses.proofs.Runs.{counted, read}
use Rattle.uses.proofs.Accepting.{begins, divisor-drawn, divisor-next, draws-place, ends-past, same-claim, sends-offset}
use Rattle.uses.proofs.Accepting.{sends-quotient, sends-slope}
use Rattle.uses.proofs.protocol.receive.Goals as goal

elements : Encoding BabyBear
elements = encoding residues 31

are_encoded : IsEncoding elements
unfolding elements
are_encoded = is_encoding residues (laws 2013265921 (lit< tt)) 31 (lit< tt)

pub returns-clause-read : goal.returns-clause-read
unfolding elements
returns-clause-read c are =
    let of_slope = value-read elements are_encoded _ _ _ are c.in_ok-slope.ensures.read in
    let of_offset = value-read elements are_encoded _ _ _ of_slope.1 c.in_ok-offset.ensures.read in
    let of_hint = bytes-read 4 _ _ _ c.in_ok-next_hint.ensures.exact.read in
    let quotient = encoded-whole elements _ c.in_ok-quotient.quotient of_hint.1 c.in_ok-quotient.ensures.found in
    rw (c.into_inner.ensures, c.into_inner-2.ensures)
    (read _ _ _ _ _ _ (elements.wire (bound_value c.in_ok-slope.slope))
    (elements.wire (bound_value c.in_ok-offset.offset))
    (elements.wire c.in_ok-quotient.quotient) of_slope.0 of_offset.0 c.in_ok-place.ensures.1
    c.in_ok-divisor.ensures.bytes
    (of_hint.0 ∙ ap (λ l. l ++ c.next_hint.new.self.tape.bytes.now) quotient))

pub returns-clause-length : goal.returns-clause-length
unfolding elements
returns-clause-length c =
    counted _ _ _ _ _ _ (value-left elements _ _ _ c.in_ok-slope.ensures.read)
    (value-left elements _ _ _ c.in_ok-offset.ensures.read) c.in_ok-place.ensures.1 c.in_ok-divisor.ensures.bytes
    (bytes-left 4 _ _ _ c.in_ok-next_hint.ensures.exact.read)

pub returns-in_err-slope-clause-accepted : goal.returns-in_err-slope-clause-accepted
unfolding elements
returns-in_err-slope-clause-accepted c claim rest ahead =
    let p = err_from_is_err_and c.from_residual.result c.from_residual.ensures.1 in
    rw (p.1, p.2)
    (reads-or_memory _ _ _ (c.sent_value_is_received.ensures.complete _ claim.slope)
    (c.only_memory_refuses_sent_values.ensures.value _ claim.slope) _ _ (sends-slope _ _ _ _ _ _ _ _ ahead) _ _
    (begins _ _ _ _ _ _ _ _ ahead) _ _ c.in_err-slope.ensures)

pub returns-in_err-offset-clause-accepted : goal.returns-in_err-offset-clause-accepted
unfolding elements
returns-in_err-offset-clause-accepted c claim rest ahead =
    let slope = reads _ _ _ (c.sent_value_is_received.ensures.complete _ claim.slope)
    (c.only_memory_refuses_sent_values.ensures.value _ claim.slope) _ _ (sends-slope _ _ _ _ _ _ _ _ ahead) _ _
    (begins _ _ _ _ _ _ _ _ ahead) _ _ c.in_ok-slope.ensures in
    let p = err_from_is_err_and c.from_residual-in_err-offset.result c.from_residual-in_err-offset.ensures.1 in
    rw (p.1, p.2)
    (reads-or_memory _ _ _ (c.sent_value_is_received.ensures.complete _ claim.offset)
    (c.only_memory_refuses_sent_values.ensures.value _ claim.offset) _ _ (sends-offset _ _ _ _ _ _ _ _ ahead) _ _
    slope.1 _ _ c.in_err-offset.ensures)

pub returns-in_err-place-clause-accepted : goal.returns-in_err-place-clause-accepted
unfolding elements
returns-in_err-place-clause-accepted c claim rest ahead =
    let slope = reads _ _ _ (c.sent_value_is_received.ensures.complete _ claim.slope)
    (c.only_memory_refuses_sent_values.ensures.value _ claim.slope) _ _ (sends-slope _ _ _ _ _ _ _ _ ahead) _ _
    (begins _ _ _ _ _ _ _ _ ahead) _ _ c.in_ok-slope.ensures in
    let offset = reads _ _ _ (c.sent_value_is_received.ensures.complete _ claim.offset)
    (c.only_memory_refuses_sent_values.ensures.value _ claim.offset) _ _ (sends-offset _ _ _ _ _ _ _ _ ahead) _ _
    slope.1 _ _ c.in_ok-offset.ensures in
    let p = err_from_is_err_and c.from_residual-in_err-place.result c.from_residual-in_err-place.ensures.1 in
    rw (p.1, p.2)
    (plays-or_memory _ claim.place (c.only_memory_refuses_drawn_values.ensures.value _) _ _
    (draws-place _ _ _ _ _ _ _ _ ahead) _ _ offset.1 _ _ c.in_err-place.ensures.0)

pub returns-in_err-divisor-clause-accepted : goal.returns-in_err-divisor-clause-accepted
unfolding elements
returns-in_err-divisor-clause-accepted c claim rest ahead =
    let slope = reads _ _ _ (c.sent_value_is_received.ensures.complete _ claim.slope)
    (c.only_memory_refuses_sent_values.ensures.value _ claim.slope) _ _ (sends-slope _ _ _ _ _ _ _ _ ahead) _ _
    (begins _ _ _ _ _ _ _ _ ahead) _ _ c.in_ok-slope.ensures in
    let offset = reads _ _ _ (c.sent_value_is_received.ensures.complete _ claim.offset)
    (c.only_memory_refuses_sent_values.ensures.value _ claim.offset) _ _ (sends-offset _ _ _ _ _ _ _ _ ahead) _ _
    slope.1 _ _ c.in_ok-offset.ensures in
    let place = plays-on _ claim.place (c.only_memory_refuses_drawn_values.ensures.value _) _ _
    (draws-place _ _ _ _ _ _ _ _ ahead) _ _ offset.1 _ _ c.in_ok-place.ensures.0 c.in_ok-place.ensures.1 in
    let here = ap (λ w. w.transcript) place.1 in
    let next = divisor-next _ _ _ _ _ _ _ _ ahead _ here in
    let drawn = divisor-drawn _ _ _ _ _ _ _ _ ahead _ here in
    let p = err_from_is_err_and c.from_residual-in_err-divisor.result c.from_residual-in_err-divisor.ensures.1 in
    rw (p.1, p.2)
    (c.in_err-divisor.ensures.accepted claim.divisor next drawn)

pub returns-in_err-next_hint-clause-accepted : goal.returns-in_err-next_hint-clause-accepted
unfolding elements
returns-in_err-next_hint-clause-accepted c claim rest ahead =
    let slope = reads _ _ _ (c.sent_value_is_received.ensures.complete _ claim.slope)
    (c.only_memory_refuses_sent_values.ensures.value _ claim.slope) _ _ (sends-slope _ _ _ _ _ _ _ _ ahead) _ _
    (begins _ _ _ _ _ _ _ _ ahead) _ _ c.in_ok-slope.ensures in
    let offset = reads _ _ _ (c.sent_value_is_received.ensures.complete _ claim.offset)
    (c.only_memory_refuses_sent_values.ensures.value _ claim.offset) _ _ (sends-offset _ _ _ _ _ _ _ _ ahead) _ _
    slope.1 _ _ c.in_ok-offset.ensures in
    let place = plays-on _ claim.place (c.only_memory_refuses_drawn_values.ensures.value _) _ _
    (draws-place _ _ _ _ _ _ _ _ ahead) _ _ offset.1 _ _ c.in_ok-place.ensures.0 c.in_ok-place.ensures.1 in
    let here = ap (λ w. w.transcript) place.1 in
    let next = divisor-next _ _ _ _ _ _ _ _ ahead _ here in
    let drawn = divisor-drawn _ _ _ _ _ _ _ _ ahead _ here in
    let divisor = c.in_ok-divisor.ensures.accepted claim.divisor next drawn in
    let played = divisor.1 ∙ ap (λ t. step_on t.playing) here in
    let left = c.in_ok-divisor.ensures.bytes ∙ ap (λ w. w.bytes) place.1 in
    let wide : length (elements.wire claim.quotient) ≡ 4 = are_encoded.fixed_width claim.quotient in
    let transcript = (verifying_of (λ s. s) c.draw_divisor.new.side).transcript in
    let p = err_from_is_err_and c.from_residual-in_err-next_hint.result c.from_residual-in_err-next_hint.ensures.1 in
    rw (p.1, p.2)
    (reads-or_memory _ _ _ (completing-of _ _ 4 wide (c.hint_is_received.ensures.complete _ _))
    (memory-of _ _ 4 wide (c.only_memory_refuses_hints.ensures.fixed _ _)) _ _
    (sends-quotient _ _ _ _ _ _ _ _ ahead transcript played wide) _ _
    (λ i. record { transcript = transcript; bytes = left i }) _ _
    c.in_err-next_hint.ensures.exact)

pub returns-in_err-quotient-clause-accepted : goal.returns-in_err-quotient-clause-accepted
unfolding elements
returns-in_err-quotient-clause-accepted c claim rest ahead =
    let slope = reads _ _ _ (c.sent_value_is_received.ensures.complete _ claim.slope)
    (c.only_memory_refuses_sent_values.ensures.value _ claim.slope) _ _ (sends-slope _ _ _ _ _ _ _ _ ahead) _ _
    (begins _ _ _ _ _ _ _ _ ahead) _ _ c.in_ok-slope.ensures in
    let offset = reads _ _ _ (c.sent_value_is_received.ensures.complete _ claim.offset)
    (c.only_memory_refuses_sent_values.ensures.value _ claim.offset) _ _ (sends-offset _ _ _ _ _ _ _ _ ahead) _ _
    slope.1 _ _ c.in_ok-offset.ensures in
    let place = plays-on _ claim.place (c.only_memory_refuses_drawn_values.ensures.value _) _ _
    (draws-place _ _ _ _ _ _ _ _ ahead) _ _ offset.1 _ _ c.in_ok-place.ensures.0 c.in_ok-place.ensures.1 in
    let here = ap (λ w. w.transcript) place.1 in
    let next = divisor-next _ _ _ _ _ _ _ _ ahead _ here in
    let drawn = divisor-drawn _ _ _ _ _ _ _ _ ahead _ here in
    let divisor = c.in_ok-divisor.ensures.accepted claim.divisor next drawn in
    let played = divisor.1 ∙ ap (λ t. step_on t.playing) here in
    let left = c.in_ok-divisor.ensures.bytes ∙ ap (λ w. w.bytes) place.1 in
    let wide : length (elements.wire claim.quotient) ≡ 4 = are_encoded.fixed_width claim.quotient in
    let transcript = (verifying_of (λ s. s) c.draw_divisor.new.side).transcript in
    let hint = reads _ _ _ (completing-of _ _ 4 wide (c.hint_is_received.ensures.complete _ _))
    (memory-of _ _ 4 wide (c.only_memory_refuses_hints.ensures.fixed _ _)) _ _
    (sends-quotient _ _ _ _ _ _ _ _ ahead transcript played wide) _ _
    (λ i. record { transcript = transcript; bytes = left i }) _ _
    c.in_ok-next_hint.ensures.exact in
    let p = err_from_is_err_and c.from_residual-in_err-quotient.result c.from_residual-in_err-quotient.ensures.1 in
    rw (p.1, p.2)
    (let none = c.in_err-quotient.ensures.only claim.quotient [] (hint.0 ∙ sym (append-nil _)) in absurd (cc))

pub returns-clause-accepted : goal.returns-clause-accepted
unfolding elements
returns-clause-accepted c claim rest ahead =
    let slope = reads _ _ _ (c.sent_value_is_received.ensures.complete _ claim.slope)
    (c.only_memory_refuses_sent_values.ensures.value _ claim.slope) _ _ (sends-slope _ _ _ _ _ _ _ _ ahead) _ _
    (begins _ _ _ _ _ _ _ _ ahead) _ _ c.in_ok-slope.ensures in
    let offset = reads _ _ _ (c.sent_value_is_received.ensures.complete _ claim.offset)
    (c.only_memory_refuses_sent_values.ensures.value _ claim.offset) _ _ (sends-offset _ _ _ _ _ _ _ _ ahead) _ _
    slope.1 _ _ c.in_ok-offset.ensures in
    let place = plays-on _ claim.place (c.only_memory_refuses_drawn_values.ensures.value _) _ _
    (draws-place _ _ _ _ _ _ _ _ ahead) _ _ offset.1 _ _ c.in_ok-place.ensures.0 c.in_ok-place.ensures.1 in
    let here = ap (λ w. w.transcript) place.1 in
    let next = divisor-next _ _ _ _ _ _ _ _ ahead _ here in
    let drawn = divisor-drawn _ _ _ _ _ _ _ _ ahead _ here in
    let divisor = c.in_ok-divisor.ensures.accepted claim.divisor next drawn in
    let played = divisor.1 ∙ ap (λ t. step_on t.playing) here in
    let left = c.in_ok-divisor.ensures.bytes ∙ ap (λ w. w.bytes) place.1 in
    let wide : length (elements.wire claim.quotient) ≡ 4 = are_encoded.fixed_width claim.quotient in
    let transcript = (verifying_of (λ s. s) c.draw_divisor.new.side).transcript in
    let hint = reads _ _ _ (completing-of _ _ 4 wide (c.hint_is_received.ensures.complete _ _))
    (memory-of _ _ 4 wide (c.only_memory_refuses_hints.ensures.fixed _ _)) _ _
    (sends-quotient _ _ _ _ _ _ _ _ ahead transcript played wide) _ _
    (λ i. record { transcript = transcript; bytes = left i }) _ _
    c.in_ok-next_hint.ensures.exact in
    let quotient : c.in_ok-quotient.quotient ≡ claim.quotient
    = let same = c.in_ok-quotient.ensures.only claim.quotient [] (hint.0 ∙ sym (append-nil _)) in cc in (
      same-claim _ claim (c.into_inner.ensures ∙ slope.0) (c.into_inner-2.ensures ∙ offset.0)
          (c.into_inner-3.ensures ∙ place.0) divisor.0 quotient,
      ends-past _ _ _ _ _ _ _ _ ahead transcript _ played hint.1,
    )
