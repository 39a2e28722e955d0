use Rattle.std.proofs.Common.{take}
use Rattle.rtl_looks.specs.Evaluating.{ChainsTests}
use Rattle.rtl_looks.proofs.tests.+condition.Given as goal

abbrev pub invariant-chained_look-loop-link : goal.invariant-chained_look-loop-link
invariant-chained_look-loop-link l =
    ChainsTests (take l.link-index l.rest) l.elements.looks.items l.initial.hubs.hubs.items l.hubs.hubs.items l.initial.look l.look
