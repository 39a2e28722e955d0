use Rattle.std.proofs.Common.{◌≡◌, None, replicate}
use Rattle.vhdl_names.specs.steps.Architectures.{options_view}
use Rattle.vhdl_names.proofs.architectures.none_of_each.Given as goal

abbrev pub invariant-loop : goal.invariant-loop
invariant-loop l = options_view l.all ≡ replicate l.counter None
