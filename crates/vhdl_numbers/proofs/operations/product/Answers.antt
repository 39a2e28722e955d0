use Rattle.vhdl_numbers.proofs.Digits.{product_has_room}
use Rattle.vhdl_numbers.proofs.operations.product.Goals as goal

pub times-requires : goal.times-requires
times-requires c = product_has_room _ _ _ _ c.len.ensures.some c.len-2.ensures.some c.requires c.in-Some-Some.ensures.size c.in-Some-Some.ensures'.size
