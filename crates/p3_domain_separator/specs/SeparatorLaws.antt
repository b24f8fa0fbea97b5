-- Laws of separators: the bytes of one determine its version, its name and its list of chunks.
use Rattle.std.{specs.Prelude.{◌≡◌, ℕ, ◌≤◌, ◌<◌, List, [], ◌∷◌, ◌++◌, length}, proofs.Common.{sym, subst, ◌∙◌}}
use Rattle.std.{specs.{Coded.{le_prop, Coded-set, coded_list, coded_ℕ}, List.All}, proofs.lemmas.List.Elements.All-push}
use Rattle.p3_challenger_core.specs.Reading.{AreBytes}
use Rattle.p3_fs_core.specs.StepFitLaws.{AreBytes-prop}
use Rattle.p3_domain_separator.specs.{Seed.{identifier, counted, label_of, FitsCount}, SeedLaws.identifier_injective}
use Rattle.p3_domain_separator.specs.{SeedLaws.{label_injective, chunk_added}, Separators.{IsIdentifier, IsLabel}}

-- equality of bytes has at most one proof
bytes-prop : (xs ys : List ℕ) → IsProp (xs ≡ ys)
bytes-prop xs ys = Coded-set (coded_list coded_ℕ) xs ys

All-prop : (P : List ℕ → Type 0) → ((xs : List ℕ) → IsProp (P xs)) → (all : List (List ℕ)) → IsProp (All P all)
All-prop P one all x y = λ i k d within. one _ (x k d within) (y k d within) i

FitsCount-prop : (bytes : List ℕ) → IsProp (FitsCount bytes)
FitsCount-prop bytes = le_prop

-- ---- identifiers

-- that bytes are an identifier has at most one proof
pub IsIdentifier-prop : (protocol_id : List ℕ) → IsProp (IsIdentifier protocol_id)
IsIdentifier-prop protocol_id x y =
    let parts = identifier_injective x.version y.version x.name y.name x.short y.short (sym x.encoded ∙ y.encoded) in
    let Same : ℕ × List ℕ → Type 0 = λ (p : ℕ × List ℕ).
    (encoded : protocol_id ≡ identifier p.0 p.1) (version_fits : p.0 < 256) (named : 1 ≤ length p.1)
    (short : length p.1 ≤ 62) (bytes : AreBytes p.1)
    → x ≡ record {
      version = p.0;
      name = p.1;
      encoded = encoded;
      version_fits = version_fits;
      named = named;
      short = short;
      bytes = bytes;
    } in
    let own : Same (x.version, x.name) = λ encoded version_fits named short bytes i. record {
      version = x.version;
      name = x.name;
      encoded = bytes-prop protocol_id (identifier x.version x.name) x.encoded encoded i;
      version_fits = le_prop x.version_fits version_fits i;
      named = le_prop x.named named i;
      short = le_prop x.short short i;
      bytes = AreBytes-prop x.name x.bytes bytes i;
    } in
    subst Same (λ i. (parts.0 i, parts.1 i)) own y.encoded y.version_fits y.named y.short y.bytes

-- ---- labels

-- a label determines its chunks
pub only_chunks : (label : List ℕ) (is : IsLabel label) (chunks : List (List ℕ)) → All FitsCount chunks →
    label ≡ label_of chunks → is.chunks ≡ chunks
only_chunks label is chunks fit encoded = label_injective is.chunks chunks is.counted fit (sym is.encoded ∙ encoded)

-- that bytes are a label has at most one proof
pub IsLabel-prop : (label : List ℕ) → IsProp (IsLabel label)
IsLabel-prop label x y =
    let Same : List (List ℕ) → Type 0 = λ (chunks : List (List ℕ)).
    (encoded : label ≡ label_of chunks) (counts : All FitsCount chunks) (bytes : All AreBytes chunks)
    → x ≡ record { chunks = chunks; encoded = encoded; counted = counts; bytes = bytes } in
    let own : Same x.chunks = λ encoded counts bytes i. record {
      chunks = x.chunks;
      encoded = bytes-prop label (label_of x.chunks) x.encoded encoded i;
      counted = All-prop FitsCount FitsCount-prop x.chunks x.counted counts i;
      bytes = All-prop AreBytes AreBytes-prop x.chunks x.bytes bytes i;
    } in
    subst Same (only_chunks label x y.chunks y.counted y.encoded) own y.encoded y.counted y.bytes

-- the label with one more chunk
pub IsLabel-more : (label chunk grown : List ℕ) → IsLabel label → FitsCount chunk → AreBytes chunk →
    grown ≡ label ++ counted chunk → IsLabel grown
IsLabel-more label chunk grown is fits bytes more =
    record {
      chunks = is.chunks ++ (chunk ∷ []);
      encoded = chunk_added chunk label grown more is.chunks is.encoded;
      counted = All-push FitsCount is.chunks chunk is.counted fits;
      bytes = All-push AreBytes is.chunks chunk is.bytes bytes;
    }
