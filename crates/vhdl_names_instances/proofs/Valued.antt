-- What an operand is as the actual of a generic.
use Rattle.std.proofs.Common.{◌≡◌, ℕ, Bool, true, false, Option, Some, None, Result, IfErr, refl, sym, ap, ◌∙◌}
use Rattle.vhdl_names_rules.specs.declared.kind.ElementKind.{ElementKind}
use Rattle.vhdl_names_rules.specs.declared.kind.ObjectType.TheVariants.{Elements}
use Rattle.vhdl_names_rules.specs.declared.fault.NameFault.{NameFault}
use Rattle.vhdl_names_rules.specs.declared.fault.NameProblem.TheVariants.{TypeMismatch, LeftOut}
use Rattle.vhdl_names_rules.specs.Gives.{Gives}
use Rattle.vhdl_names_rules.specs.units.Expressions.{Elements as VectorElements}
use Rattle.vhdl_names_rules.specs.units.Statements.{Given}
use Rattle.vhdl_names_rules.specs.units.Units as u
use Rattle.vhdl_names_rules.specs.Types.{Typed, composite, TypedElements}
use Rattle.vhdl_names_rules.specs.Rules.{◌>>=◌, ◌>>◌, met, then_some}
use Rattle.vhdl_names_rules.specs.Operators.{is_vector}
use Rattle.vhdl_names_rules.specs.Aggregates.{arranged}
use Rattle.vhdl_names_rules.specs.Expressions.{as_value}
use Rattle.vhdl_names_rules.specs.Known.{are_known}
use Rattle.vhdl_names_rules.specs.Instances.{aggregate_actual, value_as_actual}
use Rattle.vhdl_names_rules.specs.problems.Broken.{Broken, Tells, ◌▸◌, refused, unless, lacking}
use Rattle.vhdl_names_rules.specs.problems.Aggregates.{aggregate}
use Rattle.vhdl_names_rules.specs.problems.Expressions.{given}
use Rattle.vhdl_names_rules.specs.problems.Instances.{given_value}
use Rattle.vhdl_names_rules.proofs.Telling.{unless_kept, told_same, told_left, told_right, told_on, told_unless, told_lacking, told_of}
use Rattle.vhdl_names_rules.proofs.kept.Aggregates.{arranged_kept}
use Rattle.vhdl_names_rules.proofs.kept.Expressions.{as_value_kept}
use Rattle.vhdl_names_operators.specs.Resolving.{is_plain}
use Rattle.vhdl_names_values.specs.Fixing.{known_given}
use Rattle.vhdl_names_instances.specs.steps.Generics.{aggregate_breaks, plain_actual, plain_breaks}

-- ---- aggregates

module _ (k : ElementKind) (at : ℕ) (es : TypedElements) where
  abbrev chosen : Option VectorElements → Option u.Fixed
  chosen o = o >>= λ all. then_some (are_known all) (u.Fixed.aggregate at all)

  by_vector : (b : Bool) → is_vector k ≡ b → aggregate_actual k at es ≡ (met b >> chosen (arranged k true es))
  by_vector b e = ap (λ b. met b >> chosen (arranged k true es)) e

  pub no_vector : is_vector k ≡ false → aggregate_actual k at es ≡ None
  no_vector e = by_vector false e

  module _ (vector : is_vector k ≡ true) where
    pub not_arranged : arranged k true es ≡ None → aggregate_actual k at es ≡ None
    not_arranged e = by_vector true vector ∙ ap chosen e

    pub is_arranged : (all : VectorElements) → arranged k true es ≡ Some all → (b : Bool) → are_known all ≡ b → aggregate_actual k at es ≡ then_some b (u.Fixed.aggregate at all)
    is_arranged all e b h = by_vector true vector ∙ ap chosen e ∙ ap (λ b. then_some b (u.Fixed.aggregate at all)) h

  module _ (start : ℕ) (f : NameFault) where
    abbrev last : Broken
    last = lacking LeftOut start (aggregate_actual k at es)

    pub no_vector_told : is_vector k ≡ false → Tells (refused TypeMismatch at) f → Tells (aggregate_breaks k at start es) f
    no_vector_told e w = told_left (unless TypeMismatch at (is_vector k)) (aggregate k true es ▸ last) f (told_unless TypeMismatch at (is_vector k) f (λ m. e) w)

    pub elements_told : is_vector k ≡ true → Tells (aggregate k true es) f → Tells (aggregate_breaks k at start es) f
    elements_told e w =
        told_right (unless TypeMismatch at (is_vector k)) (aggregate k true es ▸ last) f (unless_kept TypeMismatch at (is_vector k) e) (told_left (aggregate k true es) last f w)

    pub unknown_told : is_vector k ≡ true → (all : VectorElements) → arranged k true es ≡ Some all → are_known all ≡ false → Tells (refused LeftOut start) f → Tells (aggregate_breaks k at start es) f
    unknown_told e all g h w =
        told_right (unless TypeMismatch at (is_vector k)) (aggregate k true es ▸ last) f (unless_kept TypeMismatch at (is_vector k) e)
        (told_right (aggregate k true es) last f (arranged_kept k true es all g)
        (told_lacking LeftOut start (aggregate_actual k at es) f (λ m. is_arranged e all g false h) w))

-- ---- other operands

pub actual_plain : (k : ElementKind) (x : Typed) → is_plain x ≡ true → value_as_actual k x ≡ plain_actual k x
actual_plain k (composite at es) h = absurd cc
actual_plain k x h = refl

pub breaks_plain : (k : ElementKind) (at : ℕ) (x : Typed) → is_plain x ≡ true → given_value k at x ≡ plain_breaks k at x
breaks_plain k at (composite p es) h = absurd cc
breaks_plain k at x h = refl

-- what is told of one that is given
pub given_told : {X : Type 0} (k : ElementKind) (at : ℕ) (x : Typed) (g : Given) (see : X → u.Fixed) (r : Result X NameFault) → as_value (Elements k) None x ≡ Some g
    → Gives see (known_given g) r → IfErr r (Tells (refused LeftOut at)) → IfErr r (Tells (plain_breaks k at x))
given_told k at x g see r is gives told =
    told_on (lacking LeftOut at (known_given g)) (plain_breaks k at x) r
    (λ f w. told_right (given (Elements k) None at x) (lacking LeftOut at (plain_actual k x)) f (as_value_kept (Elements k) None at x g is)
    (told_same (lacking LeftOut at (known_given g)) (lacking LeftOut at (plain_actual k x)) f (sym (ap (λ o. lacking LeftOut at (o >>= known_given)) is)) w))
    (told_of see LeftOut at (known_given g) r gives told)
