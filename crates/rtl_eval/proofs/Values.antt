-- Values that are compared.
use Rattle.std.proofs.Common.{◌≡◌, refl}
use Rattle.rtl_model.specs.bodies.Types.{nine_valued, enumeration}
use Rattle.rtl_model.specs.bodies.Fits.{Scope, FitBoth}
use Rattle.rtl_net.specs.declared.body.Expr.{Expr}
use Rattle.rtl_net.specs.declared.body.Value.{Value}
use Rattle.rtl_net.specs.declared.body.Value.TheVariants as v
use Rattle.rtl_net.specs.Bodies.{value_view}
use Rattle.rtl_eval.specs.Seeing.{IsValue, IsPosition}

-- a value that has no elements is of an enumeration
pub is_position : (scope : Scope) (x : Value) → ((e : Expr) → x ≡ v.Elements e → ⊥) → IsValue scope (value_view x) → IsPosition scope (value_view x)
is_position scope (v.Elements e) other h = absurd (other e refl)
is_position scope (v.Position n) other (nine_valued, f) = elim f [ ]
is_position scope (v.Position n) other (enumeration k, f) = (k, f)
is_position scope (v.PositionOf n) other (nine_valued, f) = elim f [ ]
is_position scope (v.PositionOf n) other (enumeration k, f) = (k, f)
is_position scope (v.PositionIn n) other (nine_valued, f) = elim f [ ]
is_position scope (v.PositionIn n) other (enumeration k, f) = (k, f)

-- two values of one type are values
pub each_is_value : (scope : Scope) (x y : Value) → FitBoth scope (value_view x) (value_view y) → IsValue scope (value_view x) × IsValue scope (value_view y)
each_is_value scope x y (t, f, g) = ((t, f), (t, g))
