use Rattle.rtl_net.specs.Bodies.{statements_of}
use Rattle.rtl_recheck.specs.Kept.{StoresNone}
use Rattle.rtl_recheck.proofs.variables.stores_none.Given as goal

abbrev pub invariant-loop-element : goal.invariant-loop-element
invariant-loop-element l = StoresNone (statements_of l.body) l.element
