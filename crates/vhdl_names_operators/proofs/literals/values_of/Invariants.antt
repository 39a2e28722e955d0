use Rattle.std.proofs.Common.{◌≡◌, drop}
use Rattle.vhdl_names_rules.specs.Rules.{each}
use Rattle.vhdl_names_rules.specs.Literals as rules
use Rattle.vhdl_names_operators.proofs.Quotations.{with_front}
use Rattle.vhdl_names_operators.proofs.literals.values_of.Given as goal

-- what is done, and then the rest, is the whole
abbrev pub invariant-loop-b : goal.invariant-loop-b
invariant-loop-b l = each rules.nine_of l.characters ≡ with_front l.values.items (each rules.nine_of (drop l.b-index l.characters))
