use Rattle.binding_callers.proofs.serializing64_symbols_bind.Goals as goal

-- (two laws, which the search does not put together over words of 64 bits)
pub binding-requires-clause-opaque : goal.binding-requires-clause-opaque
binding-requires-clause-opaque c =
    c.serialized_digests_are_prefix_code.ensures.words (λ x y a b _ _ e. c.hash_values_are_prefix_code.ensures x y a b e)
