-- When each length in an expression is one that a vector can have, whatever its names are (rtl_model's Fits).
use Rattle.std.specs.Prelude.{ℕ, ⊤, List, length}
use Rattle.std.specs.Coded.{×_prop, Unit-prop, le_prop, Coded-set, coded_ℕ}
use Rattle.vhdl_values.specs.declared.kinds.Counted.{Counted}
use Rattle.vhdl_values.specs.declared.kinds.Counted.TheVariants.{Resize, ResizeSigned, Shift}
use Rattle.vhdl_values.specs.Shifts.{IsCount}
use Rattle.rtl_model.specs.bodies.Body.{Operator, logical, Expr, signal, variable, constant, inverse, filled, binary}
use Rattle.rtl_model.specs.bodies.Body.{counted, shifted, converted, chosen}
use Rattle.rtl_model.specs.bodies.Rows.{Spacing}
use Rattle.rtl_model.specs.bodies.Body.{Value, elements}
use Rattle.rtl_model.specs.bodies.Fits.{IsWidth, IsSpacing, width, operated_width, FitsOperands}
use Rattle.rtl_net.specs.declared.body.Link.{Link}
use Rattle.rtl_net.specs.Bodies.{links_of}

abbrev pub IsSized : Expr → Type 0
IsSized (signal nets) = IsWidth (length nets)
IsSized (variable es) = IsWidth (length es)
IsSized (constant values) = IsWidth (length values)
IsSized (inverse e) = IsSized e
IsSized (filled len e) = IsWidth len × IsSized e
IsSized (binary op d e) =
    IsWidth (operated_width op (width d) (width e)) × IsSized d × IsSized e × FitsOperands op (width d) (width e)
IsSized (counted op count e) = IsCount op count × IsSized e
IsSized (shifted by count e) = IsSized count × IsSized e
IsSized (converted by e) = IsSized e
IsSized (chosen index spacing rows) = IsSpacing spacing × IsSized index

abbrev pub IsSizedValue : Value → Type 0
IsSizedValue (elements e) = IsSized e
IsSizedValue _ = ⊤

-- of a first operand and the operators after it
abbrev pub AreSized : Expr → List Link → Type 0
AreSized first links = IsSized (links_of first links)

-- ---- each holds in one way

width_prop : (n : ℕ) → IsProp (IsWidth n)
width_prop n = ×_prop le_prop le_prop

count_prop : (op : Counted) (n : ℕ) → IsProp (IsCount op n)
count_prop Resize n = ×_prop le_prop le_prop
count_prop ResizeSigned n = ×_prop le_prop le_prop
count_prop (Shift by) n = Unit-prop

spacing_prop : (spacing : Spacing) → IsProp (IsSpacing spacing)
spacing_prop spacing = ×_prop (width_prop spacing.len) le_prop

operands_prop : (op : Operator) (m n : ℕ) → IsProp (FitsOperands op m n)
operands_prop (logical op) m n = Coded-set coded_ℕ m n
operands_prop _ m n = Unit-prop

pub sized_prop : (e : Expr) → IsProp (IsSized e)
sized_prop (signal nets) = width_prop (length nets)
sized_prop (variable es) = width_prop (length es)
sized_prop (constant values) = width_prop (length values)
sized_prop (inverse e) = sized_prop e
sized_prop (filled len e) = ×_prop (width_prop len) (sized_prop e)
sized_prop (binary op d e) = λ x y i. (
  width_prop (operated_width op (width d) (width e)) x.0 y.0 i,
  sized_prop d x.1 y.1 i,
  sized_prop e x.2 y.2 i,
  operands_prop op (width d) (width e) x.3 y.3 i,
)
sized_prop (counted op count e) = ×_prop (count_prop op count) (sized_prop e)
sized_prop (shifted by count e) = ×_prop (sized_prop count) (sized_prop e)
sized_prop (converted by e) = sized_prop e
sized_prop (chosen index spacing rows) = ×_prop (spacing_prop spacing) (sized_prop index)

pub sized_links : (first : Expr) (links : List Link) → IsProp (AreSized first links)
sized_links first links = sized_prop (links_of first links)

pub sized_value_prop : (v : Value) → IsProp (IsSizedValue v)
sized_value_prop (elements e) = sized_prop e
sized_value_prop _ = Unit-prop
