-- The byte at which a part of a file starts.
use Rattle.std.specs.Prelude.{ℕ, Option, Some, None}
use Rattle.vhdl_tree.specs.Tree as t
use Rattle.vhdl_tree.specs.Tree.{Expr, Association}

-- an expression; one with a binary operator starts with its left operand
abbrev pub start : Expr → ℕ
start (t.integer at text) = at
start (t.character at c) = at
start (t.string at text) = at
start (t.bits at text) = at
start (t.named n suffix a) = n.at
start (t.parens at e) = at
start (t.negation at e) = at
start (t.absolute at e) = at
start (t.power d at e) = start d
start (t.signed sign at e) = at
start (t.binary begins op at d e) = start d
start (t.aggregate at es) = at
start (t.qualified n at es) = n.at

-- a range, which may be a name
abbrev pub range_start : t.DiscreteRange → ℕ
range_start (t.bounds r) = start r.left
range_start (t.range_named n) = n.identifier.at

abbrev pub choice_place : t.Choice → ℕ
choice_place (t.chosen e) = start e
choice_place (t.chosen_range d direction e) = start d
choice_place (t.otherwise at) = at

abbrev pub actual_place : t.Actual → ℕ
actual_place (t.actual e) = start e
actual_place (t.left_open at) = at

-- an association starts with its formal, if it names one
abbrev pub place_from : Option t.Ident → t.Actual → ℕ
place_from None a = actual_place a
place_from (Some f) a = f.at

abbrev pub association_place : Association → ℕ
association_place a = place_from a.formal a.actual
