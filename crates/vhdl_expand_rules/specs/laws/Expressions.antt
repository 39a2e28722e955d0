-- An expression that stands soundly in a unit is expanded to one that fits: each element is there and of the type that
-- is wanted, and each length is one that a vector can have, and the one that is wanted (IEEE 1076-2008, clause 9).
use Rattle.std.specs.Prelude.{◌≡◌, ℕ, true, List, length, All, Some, Ok}
use Rattle.rtl_model.specs.bodies.Types.{ElementType, nine_valued, enumeration, HasType}
use Rattle.rtl_model.specs.bodies.Body as bodies
use Rattle.rtl_model.specs.bodies.Fits.{IsWidth, width, value_width, FitsExpr, FitsAs, FitsTest}
use Rattle.vhdl_names_rules.specs.units.Expressions.{SignalPart, Vector, Value, Test}
use Rattle.vhdl_names_rules.specs.sound.Expressions.{Inside, Shape, one, vector, state, number, is_elements, place_shape, vector_shape, value_fits, test_fits}
use Rattle.vhdl_expand_rules.specs.Site.{Site, place_elements}
use Rattle.vhdl_expand_rules.specs.Expressions as x
use Rattle.vhdl_expand_rules.specs.laws.Sites.{IsSite, scope_at}

-- how many elements a shape has, and of which type
abbrev pub HasShape : Shape → ℕ → Type 0
HasShape one n = n ≡ 1
HasShape vector n = IsWidth n
HasShape (state count) n = n ≡ 1
HasShape number n = IsWidth n

abbrev pub type_of : Shape → ElementType
type_of one = nine_valued
type_of vector = nine_valued
type_of (state count) = enumeration count
type_of number = nine_valued

-- the elements of a name of a signal or port
pub record IsName (here : Site) (s : Shape) (es : List ℕ) : Type 0 where
  pub width : HasShape s (length es)
  pub typed : All (HasType (scope_at here).nets (type_of s)) es

abbrev pub EachNameFits : Type 0
EachNameFits =
    (i : Inside) (here : Site) (p : SignalPart) (s : Shape) (es : List ℕ)
    → IsSite i here → place_shape i p ≡ Some s → place_elements here p ≡ Ok es
    → IsName here s es

pub record IsVector (here : Site) (s : Shape) (e : bodies.Expr) : Type 0 where
  pub of_elements : is_elements s ≡ true
  pub fits : FitsExpr (scope_at here) e
  pub width : HasShape s (width e)

abbrev pub EachVectorFits : Type 0
EachVectorFits =
    (i : Inside) (here : Site) (v : Vector) (s : Shape) (e : bodies.Expr)
    → IsSite i here → vector_shape i v ≡ Some s → x.vector here v ≡ Ok e
    → IsVector here s e

pub record IsValue (here : Site) (s : Shape) (v : bodies.Value) : Type 0 where
  pub fits : FitsAs (scope_at here) (type_of s) v
  pub width : HasShape s (value_width v)

-- where a value of this shape is asked for
abbrev pub EachValueFits : Type 0
EachValueFits =
    (i : Inside) (here : Site) (at : ℕ) (v : Value) (s : Shape) (e : bodies.Value)
    → IsSite i here → value_fits i s v ≡ true → x.value here at v ≡ Ok e
    → IsValue here s e

abbrev pub EachTestFits : Type 0
EachTestFits =
    (i : Inside) (here : Site) (t : Test) (c : bodies.Test) → IsSite i here
    → test_fits i t ≡ true → x.test here t ≡ Ok c → FitsTest (scope_at here) c
