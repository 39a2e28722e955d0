use Rattle.std.proofs.Common.{◌≡◌, map}
use Rattle.vhdl_names_rules.specs.Registers.{behind}
use Rattle.vhdl_names_units.specs.views.Sequential.{body_view, statement_view, statements_of}
use Rattle.vhdl_names_registers.specs.Tied.{edges_first}
use Rattle.vhdl_names_registers.proofs.registers.edges_first.Given as goal

-- what is made, and what is left
abbrev pub invariant-loop-statement : goal.invariant-loop-statement
invariant-loop-statement l =
    edges_first (body_view l.fn.list) ≡ behind (body_view l.all) (edges_first (statements_of (map statement_view l.statement-iterator.rest.items)))
