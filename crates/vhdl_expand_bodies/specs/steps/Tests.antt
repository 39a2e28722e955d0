-- Parts of conditions, as the code comes to them.
use Rattle.std.specs.Prelude.{ℕ, Bool, false, Option, Some, None, Ok}
use Rattle.vhdl_values.specs.declared.scalar.Nine.{Nine}
use Rattle.vhdl_values.specs.declared.kinds.Cmp.{Cmp}
use Rattle.vhdl_names_trees.specs.declared.test.TestLink.{TestLink}
use Rattle.vhdl_names_trees.specs.declared.test.TestStart.{TestStart}
use Rattle.vhdl_names_trees.specs.views.Tests.{test_view}
use Rattle.vhdl_names_rules.specs.units.Expressions.{Static, SignalPart, Vector, Value}
use Rattle.rtl_model.specs.bodies.Body as bodies
use Rattle.vhdl_expand_rules.specs.Elab.{Elab, ◌>>=◌}
use Rattle.vhdl_expand_rules.specs.Site.{Site}
use Rattle.vhdl_expand_rules.specs.Integers.{natural}
use Rattle.vhdl_expand_rules.specs.Expressions.{place_level, value, vector, test}
use Rattle.vhdl_expand_choices.specs.Compared.{Literal, name_of, character_of}

module _ (here : Site) where
  abbrev pub level : (plain : Bool) → SignalPart → Nine → Elab bodies.Test
  level plain p x = place_level here plain p x

  -- by an operator that starts at this byte
  abbrev pub equal : (at : ℕ) → Value → Value → Elab bodies.Test
  equal at v w = do
    d ← value here at v
    e ← value here at w
    Ok (bodies.equal d e)

  abbrev pub unlike : (at : ℕ) → Value → Value → Elab bodies.Test
  unlike at v w = do
    d ← value here at v
    e ← value here at w
    Ok (bodies.unequal d e)

  abbrev pub compared : Cmp → Vector → Vector → Elab bodies.Test
  compared op x y = do
    d ← vector here x
    e ← vector here y
    Ok (bodies.compared op d e)

  abbrev pub compared_to : (at : ℕ) → Cmp → Vector → Static → Elab bodies.Test
  compared_to at op x s = do
    e ← vector here x
    n ← natural here.integers at s
    Ok (bodies.compared_to op e n)

  -- a name and a character literal, in either order, or any other values
  abbrev pub alike : (at : ℕ) → Value → Value → Elab bodies.Test
  alike at v w = by (name_of v) (character_of w) (character_of v) (name_of w)
    where
      by : Option SignalPart → Option Literal → Option Literal → Option SignalPart → Elab bodies.Test
      by (Some p) (Some c) _ _ = level c.is_plain p c.value
      by (Some p) None _ _ = equal at v w
      by None _ (Some c) (Some p) = level false p c.value
      by None _ (Some c) None = equal at v w
      by None _ None _ = equal at v w

  -- a logical operator with its right operand, after a condition
  abbrev pub linked : bodies.Test → TestLink → Elab bodies.Test
  linked c l = do
    d ← test here (test_view l.operand)
    Ok (bodies.combined l.operator c d)

  abbrev pub started : TestStart → Elab bodies.Test
  started s = do
    c ← test here (test_view s.first)
    linked c s.link
