use Rattle.std.proofs.Common.{◌≡◌, map, drop}
use Rattle.vhdl_names_rules.specs.Registers.{has_register}
use Rattle.vhdl_names_units.specs.views.Sequential.{statement_view, statements_of}
use Rattle.vhdl_names_registers.proofs.registers.has_register.Given as goal

-- none so far
abbrev pub invariant-loop-statement : goal.invariant-loop-statement
invariant-loop-statement l =
    has_register (statements_of (map statement_view l.list)) ≡ has_register (statements_of (map statement_view (drop l.statement-index l.list)))
