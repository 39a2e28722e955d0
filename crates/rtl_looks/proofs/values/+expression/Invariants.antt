use Rattle.std.proofs.Common.{take}
use Rattle.rtl_looks.specs.Evaluating.{Chains}
use Rattle.rtl_looks.proofs.values.+expression.Given as goal

abbrev pub invariant-chain_looks-loop-link : goal.invariant-chain_looks-loop-link
invariant-chain_looks-loop-link l =
    Chains (take l.link-index l.rest) l.elements.looks.items l.initial.hubs.hubs.items l.hubs.hubs.items l.initial.looks.items l.looks.items
