use Rattle.std.proofs.Common.{◌≡◌, map}
use Rattle.vhdl_names_rules.specs.Registers.{behind}
use Rattle.vhdl_names_units.specs.views.Sequential.{body_view, statement_view, statements_of}
use Rattle.vhdl_names_registers.proofs.registers.add_all.Given as goal

-- what is added, and what is left
abbrev pub invariant-loop-statement : goal.invariant-loop-statement
invariant-loop-statement l =
    behind (body_view l.initial.all) (body_view l.fn.more) ≡ behind (body_view l.all) (statements_of (map statement_view l.statement-iterator.rest.items))
