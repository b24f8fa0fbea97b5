use Rattle.std.proofs.Common.{◌≡◌, map, take}
use Rattle.p3_challenger.specs.SeparatorSeed.{separator_of}
use Rattle.tealmuze_calls.proofs.description.separate.Given as goal

-- the chunks so far are in its label
abbrev pub invariant-loop-chunk : goal.invariant-loop-chunk
invariant-loop-chunk g l =
    separator_of l.separator ≡ record {
      version = l.version;
      name = l.name;
      chunks = map (λ chunk. chunk.now) (take l.chunk-index l.chunks);
      pattern = l.fn.pattern;
    }
