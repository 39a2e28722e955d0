-- Static integers of the code, operator by operator from the last.
use Rattle.std.specs.Prelude.{ℕ, suc, ◌+◌, List, Option, Some, None}
use Rattle.vhdl_names_trees.specs.declared.integer.StaticStart.{StaticStart}
use Rattle.vhdl_names_trees.specs.declared.integer.StaticLink.{StaticLink}
use Rattle.vhdl_names_rules.specs.declared.operator.Arithmetic.{Arithmetic}
use Rattle.vhdl_names_rules.specs.units.Expressions as u
use Rattle.vhdl_names_rules.specs.units.Expressions.{Static}
use Rattle.vhdl_names_trees.specs.views.Integers.{static_view, start_view, static_chained}
use Rattle.vhdl_names_registers.specs.declared.same.Prefix.{Prefix}
use Rattle.vhdl_names_registers.specs.declared.same.Prefix.TheVariants.{Whole, Chain}
use Rattle.vhdl_names_registers.specs.declared.same.Last.{Last}

abbrev pub chain_view : StaticStart → List StaticLink → Static
chain_view start links = static_chained (start_view start) links

abbrev pub prefix_view : Prefix → Static
prefix_view (Whole x) = static_view x.now
prefix_view (Chain start links) = chain_view start.now links.now

-- an operator with both of its operands
pub record Operated : Type 0 where
  pub operator : Arithmetic
  pub before : Static
  pub operand : Static

abbrev pub last_view : Last → Operated
last_view l = record { operator = l.operator; before = prefix_view l.before; operand = static_view l.operand.now }

abbrev pub last_of : Static → Option Operated
last_of (u.Static.binary at op x y) = Some (record { operator = op; before = x; operand = y })
last_of _ = None

-- how many operators and signs it has
abbrev pub size : Static → ℕ
size (u.Static.negated at x) = suc (size x)
size (u.absolute at x) = suc (size x)
size (u.Static.binary at op x y) = suc (size x + size y)
size _ = 0
