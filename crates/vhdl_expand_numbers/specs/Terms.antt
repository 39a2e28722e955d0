-- Terms, and what sums of them give.
use Rattle.std.specs.Prelude.{ℕ, ℤ, if◌then◌else◌, Option, Some, None, Ok}
use Rattle.vhdl_tree.specs.declared.operator.Direction.{Direction}
use Rattle.vhdl_expand_rules.specs.Elab.{Elab, ◌>>=◌}
use Rattle.vhdl_expand_rules.specs.Kinds.{Bounds}
use Rattle.vhdl_expand_rules.specs.Linear.{Linear, Measured, is_static}
use Rattle.vhdl_expand_rules.specs.Expressions.{Row, slice_length, row_from}

-- what a sum is, if it is static
abbrev pub static_factor : Linear → Option ℤ
static_factor x = if is_static x then Some x.rest else None

-- the slice between these bounds, of which a run looks at the left one alone
abbrev pub slice_row : Bounds → (at : ℕ) → Direction → (left right : Measured) → Elab Row
slice_row b at direction l r = do
  len ← slice_length b at direction l.linear r.linear
  Ok (row_from b l.number len)
