use Rattle.std.proofs.Common.{length, refl}
use Rattle.vhdl_values.proofs.Spreading.{codes-spread}
use Rattle.vhdl_values.proofs.vector.codes.codes_of_bytes.Goals as goal

pub returns : goal.returns
returns c = λ values short planes.
    codes-spread values (length values) _ _ _ _ _ _ _ _ _ _ refl short planes.0 planes.1 planes.2 planes.3
    c.spread.ensures.bits c.spread-2.ensures.bits c.spread-3.ensures.bits c.spread-4.ensures.bits refl c.to_le_bytes.ensures
