use Rattle.std.proofs.Common.{◌≡◌, drop}
use Rattle.rtl_net.specs.Bodies.{statements_of}
use Rattle.rtl_model.specs.bodies.Kinds as m
use Rattle.rtl_body_facts.proofs.constants.assigns_constants.Given as goal

abbrev pub invariant-loop-statement : goal.invariant-loop-statement
invariant-loop-statement l = m.assigns_constants (statements_of (drop l.statement-index l.statements)) ≡ m.assigns_constants (statements_of l.statements)
