-- Constants that are no integers.
use Rattle.std.specs.Prelude.{ℕ, Ok}
use Rattle.vhdl_names_rules.specs.units.Units.{Fixed, Form}
use Rattle.vhdl_expand_rules.specs.Declarations.{fixed_values}
use Rattle.vhdl_expand_rules.specs.Elab.{Elab, ◌>>=◌}
use Rattle.vhdl_expand_rules.specs.Kinds.{kind_of, size}
use Rattle.vhdl_expand_rules.specs.Site.{Constant, Site}

-- of this form and with this value
abbrev pub constant_of : Site → (at : ℕ) → Form → Fixed → Elab Constant
constant_of here at form f = do
  kind ← kind_of here.integers at form
  vs ← fixed_values here at (size kind) f
  Ok (record { kind = kind; values = vs })
