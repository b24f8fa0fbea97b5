use Rattle.std.{proofs.Common.{refl, sym, ap, None}, specs.Option.option_map}
use Rattle.p3_runs.specs.Values.{Witness}
use Rattle.p3_script_verifier.proofs.work.check_carried.Goals as goal

pub returns : goal.returns
returns g c =
    let p = c.in_ok-check_carried_pow.ensures in
    record {
      comes = record {
        value = Witness c.args.witness;
        fits = c.requires.has;
        carried = refl;
        shown = refl;
        plays = record {
          is_next = p.0.is_next;
          fits = p.0.fits;
          gives = ap (option_map (λ _. None)) p.0.gives;
          challenger = p.0.challenger;
          playing = p.0.playing;
        };
        read = sym p.1;
      };
    }
