-- Each of the two digests is that of the hash function, or stands in the table.
use Rattle.std.proofs.Common.{inl, inr, sym, ◌∙◌, subst}
use Rattle.p3_digest_table.specs.{Tables.IsGiven, TableLaws.digest_by-cases}
use Rattle.p3_digest_table.proofs.tabled_hasher.shared_digests.Goals as goal

pub returns : goal.returns
returns g c a b same =
    let lines = g.T.DigestTable.lines in
    let digest = g.H.DigestHasher.digest_of in
    elim (digest_by-cases lines (digest a) a) [
      | inr given ↦ inr given
      | inl of_a ↦ elim (digest_by-cases lines (digest b) b) [
        | inl of_b ↦ inl (sym of_a ∙ same ∙ of_b)
        | inr given ↦ inr (subst (IsGiven lines) (sym same) given)
      ]
    ]
