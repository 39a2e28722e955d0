-- What contracts see of names and character literals that are compared.
use Rattle.std.specs.Prelude.{Bool, true, false, Option, Some, None}
use Rattle.std.specs.Borrow.{Bor}
use Rattle.vhdl_values.specs.declared.scalar.Nine.{Nine}
use Rattle.vhdl_names_trees.specs.declared.vector.SignalPart.{SignalPart}
use Rattle.vhdl_names_rules.specs.units.Expressions as u
use Rattle.vhdl_names_rules.specs.units.Expressions.{Vector, Value}
use Rattle.vhdl_names_trees.specs.views.Vectors.{place_view}
use Rattle.vhdl_expand_choices.specs.declared.compared.Character.{Character}

-- a character literal, and whether it stands with no parentheses
pub record Literal : Type 0 where
  pub is_plain : Bool
  pub value : Nine

-- the name, or the character literal, that a vector or a value is
abbrev pub name_in : Vector → Option u.SignalPart
name_in (u.of_signal p) = Some p
name_in _ = None

abbrev pub name_of : Value → Option u.SignalPart
name_of (u.Value.elements x) = name_in x
name_of _ = None

abbrev pub character_in : Vector → Option Literal
character_in (u.character x) = Some (record { is_plain = true; value = x })
character_in (u.enclosed_character x) = Some (record { is_plain = false; value = x })
character_in _ = None

abbrev pub character_of : Value → Option Literal
character_of (u.Value.elements x) = character_in x
character_of _ = None

abbrev pub named_view : Bor SignalPart → u.SignalPart
named_view p = place_view p.now

abbrev pub character_view : Character → Literal
character_view c = record { is_plain = c.is_plain; value = c.literal }
