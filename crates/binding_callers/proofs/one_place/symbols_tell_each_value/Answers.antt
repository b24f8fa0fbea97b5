use Rattle.p3_challenger.specs.Absorbed.{alone}
use Rattle.binding_callers.proofs.Places.{told, alone-same, element-tells, lists-tell, witness-tells}
use Rattle.binding_callers.proofs.one_place.symbols_tell_each_value.Goals as goal

pub returns-clause-public_value : goal.returns-clause-public_value
returns-clause-public_value g c l m a b =
    told _ _ c.binding.ensures.equal_symbols_bind _ _ _ _ (element-tells alone alone-same a b)

pub returns-clause-public_list : goal.returns-clause-public_list
returns-clause-public_list g c l m xs ys =
    told _ _ c.binding.ensures.equal_symbols_bind _ _ _ _
    (lists-tell alone alone-same xs.items ys.items)

pub returns-clause-counted_public_list : goal.returns-clause-counted_public_list
returns-clause-counted_public_list g c l m xs ys max most =
    told _ _ c.binding.ensures.equal_symbols_bind _ _ _ _
    (lists-tell alone alone-same xs.items ys.items)

pub returns-clause-element : goal.returns-clause-element
returns-clause-element g c l m a b =
    told _ _ c.binding.ensures.equal_symbols_bind _ _ _ _
    (element-tells _ g.met.S.Extension.BasedVectorSpace.same_coefficients a b)

pub returns-clause-element_list : goal.returns-clause-element_list
returns-clause-element_list g c l m xs ys =
    told _ _ c.binding.ensures.equal_symbols_bind _ _ _ _
    (lists-tell _ g.met.S.Extension.BasedVectorSpace.same_coefficients xs.items ys.items)

pub returns-clause-counted_element_list : goal.returns-clause-counted_element_list
returns-clause-counted_element_list g c l m xs ys max most =
    told _ _ c.binding.ensures.equal_symbols_bind _ _ _ _
    (lists-tell _ g.met.S.Extension.BasedVectorSpace.same_coefficients xs.items ys.items)

pub returns-clause-opaque_value : goal.returns-clause-opaque_value
returns-clause-opaque_value g c l m a b = told _ _ c.binding.ensures.equal_symbols_bind _ _ _ _ (λ e. cc)

pub returns-clause-scalar : goal.returns-clause-scalar
returns-clause-scalar g c l m a b =
    told _ _ c.binding.ensures.equal_symbols_bind _ _ _ _ (element-tells alone alone-same a b)

pub returns-clause-scalar_list : goal.returns-clause-scalar_list
returns-clause-scalar_list g c l m len n xs ys =
    told _ _ c.binding.ensures.equal_symbols_bind _ _ _ _ (lists-tell alone alone-same xs ys)

pub returns-clause-counted_scalar_list : goal.returns-clause-counted_scalar_list
returns-clause-counted_scalar_list g c l m max most xs ys =
    told _ _ c.binding.ensures.equal_symbols_bind _ _ _ _ (lists-tell alone alone-same xs ys)

pub returns-clause-sent_element : goal.returns-clause-sent_element
returns-clause-sent_element g c l m a b =
    told _ _ c.binding.ensures.equal_symbols_bind _ _ _ _
    (element-tells _ g.met.S.Extension.BasedVectorSpace.same_coefficients a b)

pub returns-clause-salt : goal.returns-clause-salt
returns-clause-salt g c l m len n a b = told _ _ c.binding.ensures.equal_symbols_bind _ _ _ _ (λ e. cc)

pub returns-clause-message : goal.returns-clause-message
returns-clause-message g c l m len n a b = told _ _ c.binding.ensures.equal_symbols_bind _ _ _ _ (λ e. cc)

pub returns-clause-counted_message : goal.returns-clause-counted_message
returns-clause-counted_message g c l m max most a b = told _ _ c.binding.ensures.equal_symbols_bind _ _ _ _ (λ e. cc)

pub returns-clause-witness : goal.returns-clause-witness
returns-clause-witness g c l m bits n a b within =
    told _ _ c.binding.ensures.equal_symbols_bind _ _ _ _ (witness-tells bits n a b within)

pub returns-clause-carried_witness : goal.returns-clause-carried_witness
returns-clause-carried_witness g c l m bits n a b within =
    told _ _ c.binding.ensures.equal_symbols_bind _ _ _ _ (witness-tells bits n a b within)
