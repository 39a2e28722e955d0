use Rattle.std.proofs.Common.{◌≡◌, drop}
use Rattle.rtl_net.specs.Bodies.{statements_of}
use Rattle.rtl_variable_registers.specs.Known as spec
use Rattle.rtl_kept_bodies.specs.Steps.{knows}
use Rattle.rtl_kept_bodies.proofs.constants.Known.gives_constants.Given as goal

abbrev pub invariant-loop-statement : goal.invariant-loop-statement
invariant-loop-statement l =
    spec.gives_constants (knows l.self.elements.items) (statements_of (drop l.statement-index l.statements))
    ≡ spec.gives_constants (knows l.initial.self.elements.items) (statements_of l.statements)
