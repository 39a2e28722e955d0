use Rattle.vhdl_values.specs.Logic.{logic_of_all}
use Rattle.vhdl_values.specs.declared.kinds.Logic.TheVariants.{And, Or, Xor}
use Rattle.vhdl_values.proofs.Stripping.{IsMarked-nand, IsMarked-nor, IsMarked-xnor}
use Rattle.vhdl_values.proofs.stripped.Stripped.logic.Goals as goal

pub returns-in-Nand : goal.returns-in-Nand
returns-in-Nand c = rw c.in-Nand.is (λ vs ws left right same. IsMarked-nand vs ws _ _ _ (c.not.ensures (logic_of_all And vs ws) (c.and-in-Nand.ensures vs ws left right same)))

pub returns-in-Nor : goal.returns-in-Nor
returns-in-Nor c = rw c.in-Nor.is (λ vs ws left right same. IsMarked-nor vs ws _ _ _ (c.not-in-Nor.ensures (logic_of_all Or vs ws) (c.or-in-Nor.ensures vs ws left right same)))

pub returns-in-Xnor : goal.returns-in-Xnor
returns-in-Xnor c = rw c.in-Xnor.is (λ vs ws left right same. IsMarked-xnor vs ws _ _ _ (c.not-in-Xnor.ensures (logic_of_all Xor vs ws) (c.xor-in-Xnor.ensures vs ws left right same)))
