use Rattle.p3_domain_separator.specs.SeparatorSeedLaws.{separator-parts, separator-bytes}
use Rattle.p3_domain_separator.proofs.separator_seeds.separators_have_seeds.Goals as goal

pub returns : goal.returns
returns g c = record {
  parts = separator-parts g.D.DigestHasher.digest_of g.met.D.DigestHasher.digests;
  bytes = separator-bytes g.D.DigestHasher.digest_of g.met.D.DigestHasher.digests;
}
