-- What cases are on, and what booleans are given.
use Rattle.std.proofs.Common.{◌≡◌, ℕ, true≢false, false, Option, Some, None, option_map, refl, ap}
use Rattle.vhdl_lexer.specs.declared.language.Language.{Language}
use Rattle.vhdl_lexer.specs.declared.language.Language.TheVariants.{Profile, Wide}
use Rattle.vhdl_tree.specs.Tree as t
use Rattle.vhdl_names_rules.specs.declared.kind.ElementKind.{ElementKind}
use Rattle.vhdl_names_rules.specs.declared.kind.ObjectType.{ObjectType}
use Rattle.vhdl_names_rules.specs.declared.kind.ObjectType.TheVariants.{Booleans}
use Rattle.vhdl_names_rules.specs.declared.fault.NameProblem.TheVariants.{TypeMismatch}
use Rattle.vhdl_names_trees.specs.declared.vector.Computed as code_computed
use Rattle.vhdl_names_trees.specs.declared.vector.Vector as code_vector
use Rattle.vhdl_names_trees.specs.declared.vector.Value as code_value
use Rattle.vhdl_names_trees.specs.declared.typed.Typed as code
use Rattle.vhdl_names_trees.specs.declared.typed.Typed.TheVariants as o
use Rattle.vhdl_names_rules.specs.units.Expressions as u
use Rattle.vhdl_names_rules.specs.Rules.{◌>>=◌, wider}
use Rattle.vhdl_names_rules.specs.Visibility.{Sight}
use Rattle.vhdl_names_rules.specs.Operators.{truth}
use Rattle.vhdl_names_rules.specs.Choices.{selector}
use Rattle.vhdl_names_rules.specs.Expressions.{typed, given, truth_of, as_boolean, value_given, value_assigned}
use Rattle.vhdl_names_rules.specs.problems.Broken.{◌▸◌, lacking, where_given}
use Rattle.vhdl_names_rules.specs.problems.Places.{start}
use Rattle.vhdl_names_rules.specs.problems.Expressions as broken
use Rattle.vhdl_names_trees.specs.views.Tests.{is_fixed}
use Rattle.vhdl_names_trees.specs.views.Expressions.{typed_view}
use Rattle.vhdl_names_rules.proofs.laws.Rules.{some_is}
use Rattle.vhdl_names_asked.specs.Asked.{wide_selector, boolean_value}

-- ---- what a case is on

-- what is neither of the nine values nor of an enumeration, and which no run computes
pub other_selector : (language : Language) (x : code.Typed) → ((k : ElementKind) (v : code_vector.Vector) → x ≡ o.Elements k v → ⊥)
    → ((number count : ℕ) (v : code_value.Value) → x ≡ o.Enumerated number count v → ⊥) → ((j : code_computed.Computed) → x ≡ o.Computed j → ⊥)
    → selector language (typed_view x) ≡ wider language (wide_selector (typed_view x))
other_selector language (o.Elements k v) not_elements not_enumerated not_computed = absurd (not_elements k v refl)
other_selector language (o.Enumerated number count v) not_elements not_enumerated not_computed = absurd (not_enumerated number count v refl)
other_selector language (o.Computed j) not_elements not_enumerated not_computed = absurd (not_computed j refl)
other_selector Profile x not_elements not_enumerated not_computed = refl
other_selector Wide x not_elements not_enumerated not_computed = refl

-- ---- what a boolean is given

-- a truth that a run decides
pub run_decides : (x : u.Test) → is_fixed x ≡ false → as_boolean (truth x) ≡ Some (truth_of x)
run_decides (u.Test.fixed a) h = absurd (true≢false h)
run_decides x h = refl

pub boolean_given : (sight : Sight) (type : ObjectType) (r : Option u.Range) (v : t.Value) (e : t.Expr) → boolean_value type v ≡ Some e
    → value_assigned sight type r v ≡ (typed sight e >>= as_boolean)
unfolding value_assigned
boolean_given sight Booleans r (t.single d) e h = ap (λ x. typed sight x >>= as_boolean) (some_is d e h)
boolean_given sight type r v e h = absurd cc

pub boolean_breaks : (sight : Sight) (type : ObjectType) (r : Option u.Range) (v : t.Value) (e : t.Expr) → boolean_value type v ≡ Some e
    → broken.value_assigned sight type r v ≡ (broken.typed sight e ▸ where_given (typed sight e) (λ x. lacking TypeMismatch (start e) (as_boolean x)))
boolean_breaks sight Booleans r (t.single d) e h =
    ap (λ e. broken.typed sight e ▸ where_given (typed sight e) (λ x. lacking TypeMismatch (start e) (as_boolean x))) (some_is d e h)
boolean_breaks sight type r v e h = absurd cc

-- what is no value for one
pub other_given : (sight : Sight) (type : ObjectType) (r : Option u.Range) (v : t.Value) → boolean_value type v ≡ None
    → value_assigned sight type r v ≡ option_map given (value_given sight type r v)
unfolding value_assigned
other_given sight Booleans r (t.single e) h = absurd cc
other_given sight type r v h = refl

pub other_breaks : (sight : Sight) (type : ObjectType) (r : Option u.Range) (v : t.Value) → boolean_value type v ≡ None
    → broken.value_assigned sight type r v ≡ broken.value_given sight type r v
other_breaks sight Booleans r (t.single e) h = absurd cc
other_breaks sight type r v h = refl
