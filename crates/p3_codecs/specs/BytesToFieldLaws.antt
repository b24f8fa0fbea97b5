-- Laws of an element through a challenger of bytes.
use Rattle.std.{proofs.Common.{ℕ, ◌<◌, ◌≤◌, ◌^◌, List, [], ◌∷◌, ◌++◌, length, sym, ap, ◌∙◌, arith}, specs.List.flat_map}
use Rattle.p3_field_core.specs.Residues.{Residues, IsResidues}
use Rattle.p3_challenger_core.specs.{Sponge.IsNonEmpty, Reading.{IsPrefixCode, IsPrefixCodeOn, IsPrefixFree, IsByte}}
use Rattle.p3_challenger_core.specs.SymbolLaws.{byte-feeds, bytes-feed, bytes-prefix_code}
use Rattle.p3_fs_core.specs.{BigEndian.bytes_for, BigEndianLaws.AreBytes-in_bytes, Scalar.wire}
use Rattle.p3_fs_core.specs.ScalarLaws.{length-wire, wire-prefix_code, order-fits, width-positive}

-- the symbols of elements are a prefix code
pub wire_symbols-prefix_code : {F Symbol : Type 0} (r : Residues F) (laws : IsResidues r) (width : ℕ)
    (fits : r.order ≤ 256 ^ width) (symbols : ℕ → List Symbol) → IsPrefixCodeOn IsByte symbols →
    IsPrefixCode (λ x. flat_map symbols (wire r width x))
wire_symbols-prefix_code r laws width fits symbols prefix_code x y a b e =
    let same = length-wire r laws width fits x ∙ sym (length-wire r laws width fits y) in
    let bytes = bytes-prefix_code symbols prefix_code (wire r width x) (wire r width y) a b
    (AreBytes-in_bytes width (r.number x)) (AreBytes-in_bytes width (r.number y)) same e in
    ((wire-prefix_code r laws width fits x y [] [] (ap (λ l. l ++ []) bytes.0)).0, bytes.1)

-- a list of positive length has an element
some_of : {T : Type 0} (xs : List T) → 0 < length xs → IsNonEmpty xs
some_of [] h = absurd (omega (arith, h))
some_of (x ∷ xs) h = tt

-- the symbols of an element determine it, where bytes are fed as a prefix code
pub bytes-tell_apart : {F Symbol : Type 0} (r : Residues F) → IsResidues r → (bits : ℕ) → r.order < 2 ^ bits →
    (symbols : ℕ → List Symbol) → IsPrefixCodeOn IsByte symbols →
    IsPrefixFree (λ x. flat_map symbols (wire r (bytes_for bits) x))
bytes-tell_apart r laws bits below symbols prefix_code =
    let width = bytes_for bits in
    let fits = order-fits bits r.order below in
    record {
      prefix_code = wire_symbols-prefix_code r laws width fits symbols prefix_code;
      some = λ x.
          let positive : 0 < length (wire r width x) = omega (
            arith,
            length-wire r laws width fits x,
            width-positive r laws bits below,
          ) in
          bytes-feed symbols (byte-feeds symbols prefix_code) (wire r width x) (AreBytes-in_bytes width (r.number x))
          (some_of (wire r width x) positive);
    }
