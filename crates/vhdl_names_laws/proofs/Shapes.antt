-- Shapes of kinds, and options of which more is known.
use Rattle.std.proofs.Common.{◌≡◌, Bool, true, false, Option, Some, None, refl, ap, ◌∙◌}
use Rattle.std.specs.Option.{option_or}
use Rattle.std.proofs.lemmas.Bool.{eqb-true, eq-eqb}
use Rattle.vhdl_lexer.specs.declared.language.Language.{Language}
use Rattle.vhdl_lexer.specs.declared.language.Language.TheVariants.{Profile, Wide}
use Rattle.vhdl_names_rules.specs.declared.kind.ElementKind.{ElementKind}
use Rattle.vhdl_names_rules.specs.declared.kind.ElementKind.TheVariants.{Element, LogicVector, Unsigned, OpenVector}
use Rattle.vhdl_names_rules.specs.Rules.{then_some, wider}
use Rattle.vhdl_names_rules.specs.Operators as o
use Rattle.vhdl_names_rules.specs.Expressions.{fits}
use Rattle.vhdl_names_rules.specs.sound.Expressions.{Shape, one, vector, state, number, same_shape, is_elements, fits_shape}
use Rattle.vhdl_names_laws.specs.Meanings.{kind_shape}
use Rattle.vhdl_names_laws.proofs.Statics.{some_same}

-- ---- options

pub record Given {A : Type 0} (b : Bool) (x y : A) : Type 0 where
  pub holds : b ≡ true
  pub is : x ≡ y

pub given : {A : Type 0} (b : Bool) (x y : A) → then_some b x ≡ Some y → Given b x y
given true x y h = record { holds = refl; is = some_same x y h }
given false x y h = absurd cc

-- what the wider language alone has is there
pub wider_is : {A : Type 0} (language : Language) (o : Option A) (x : A) → wider language o ≡ Some x → o ≡ Some x
wider_is Profile o x h = absurd cc
wider_is Wide o x h = h

-- what holds of both holds of the one that is there
pub of_either : {A : Type 0} (P : A → Type 0) (x y : Option A) (z : A) → ((z : A) → x ≡ Some z → P z) → ((z : A) → y ≡ Some z → P z) → option_or x y ≡ Some z → P z
of_either P None y z f g h = g z h
of_either P (Some x) y z f g h = f z h

-- ---- shapes

pub shape_elements : (k : ElementKind) → is_elements (kind_shape k) ≡ true
shape_elements Element = refl
shape_elements _ = refl

pub same_self : (x : Shape) → same_shape x x ≡ true
same_self (state n) = eq-eqb n n refl
same_self _ = refl

pub same_shapes : (x y : Shape) → same_shape x y ≡ true → x ≡ y
same_shapes one one h = refl
same_shapes vector vector h = refl
same_shapes (state m) (state n) h = ap state (eqb-true m n h)
same_shapes number number h = refl
same_shapes _ _ h = absurd cc

pub fits_self : (x : Shape) (o : Option Shape) → o ≡ Some x → fits_shape x o ≡ true
fits_self x o h = ap (fits_shape x) h ∙ same_self x

-- what is given to a vector is one
pub fitting_kinds : (k j : ElementKind) → fits k j ≡ true → kind_shape k ≡ kind_shape j
fitting_kinds Element LogicVector h = absurd cc
fitting_kinds Element Unsigned h = absurd cc
fitting_kinds Element OpenVector h = absurd cc
fitting_kinds LogicVector Element h = absurd cc
fitting_kinds Unsigned Element h = absurd cc
fitting_kinds OpenVector Element h = absurd cc
fitting_kinds _ _ h = refl

pub kind_is_vector : (k : ElementKind) → o.is_vector k ≡ true → kind_shape k ≡ vector
kind_is_vector Element h = absurd cc
kind_is_vector _ h = refl
