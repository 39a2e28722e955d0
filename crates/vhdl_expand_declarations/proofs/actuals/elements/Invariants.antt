use Rattle.std.proofs.Common.{◌≡◌}
use Rattle.std.specs.List.{range_with_len}
use Rattle.vhdl_expand_declarations.proofs.actuals.elements.Given as goal

-- the elements so far
abbrev pub invariant-loop-k : goal.invariant-loop-k
invariant-loop-k l = l.elements.items ≡ range_with_len l.run.first l.k
