use Rattle.binding_callers.proofs.two_proofs.verify_both.Goals as goal

pub returns : goal.returns
returns g c =
    let first = c.in_ok-accepted.ensures.accepted in
    let second = rw c.requires.equal at c.in_ok-again.ensures.accepted in
    record {
      first = first;
      second = second;
      agree = c.equal_symbols_have_equal_values.ensures _ _ _ _ _ _ _ first second
          (record { steps_are = c.requires.own; bytes_are = c.slices_are_bytes.ensures })
          (record { steps_are = c.requires.own; bytes_are = c.slices_are_bytes-2.ensures });
    }
