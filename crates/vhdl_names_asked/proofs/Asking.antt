-- What is asked of expressions and names, in the words of `typed`.
use Rattle.std.proofs.Common.{◌≡◌, ℕ, Bool, true, false, true≢false, Option, Some, None, refl, ap, ◌∙◌}
use Rattle.std.specs.Prelude.{not, is_none}
use Rattle.vhdl_tree.specs.Tree as t
use Rattle.vhdl_names_rules.specs.declared.kind.ObjectType.{ObjectType}
use Rattle.vhdl_names_rules.specs.units.Expressions as u
use Rattle.vhdl_names_trees.specs.views.Tests.{is_fixed}
use Rattle.vhdl_names_rules.specs.Rules.{◌>>=◌, ◌>>◌, met, then_some, wider}
use Rattle.vhdl_names_rules.specs.Visibility.{Sight, Declared, declaration}
use Rattle.vhdl_names_rules.specs.Names.{Suffix}
use Rattle.vhdl_names_rules.specs.Ranges.{named_range}
use Rattle.vhdl_names_rules.specs.Operators.{Typed, elements, truth, is_vector}
use Rattle.vhdl_names_rules.specs.declared.kind.ElementKind.{ElementKind}
use Rattle.vhdl_names_rules.specs.declared.kind.ElementKind.TheVariants.{Element}
use Rattle.vhdl_names_rules.specs.declared.kind.ObjectType.TheVariants.{Elements}
use Rattle.vhdl_names_rules.specs.units.Statements.{filled}
use Rattle.vhdl_names_rules.specs.Expressions.{typed, typed_suffix, named, static_range, condition, value_given, as_range, as_test, as_static_test, as_value, as_filled}
use Rattle.vhdl_names_asked.specs.Asked.{unattributed, subtype_range, driven_target}
use Rattle.vhdl_names_expressions.proofs.Chains.{named_in_turn}
use Rattle.vhdl_names_rules.proofs.laws.Ranged.{range_alone}
use Rattle.vhdl_names_rules.specs.Statements.{signal, as_signal, is_input, mode_of, Target, as_signal_target, as_variable_target, signal_target, variable_target, target_by}

pub condition_is : (sight : Sight) (e : t.Expr) → condition sight e ≡ (typed sight e >>= as_test)
unfolding condition
condition_is sight e = refl

pub given_single : (sight : Sight) (type : ObjectType) (r : Option u.Range) (e : t.Expr) → value_given sight type r (t.single e) ≡ (typed sight e >>= as_value type r)
unfolding value_given
given_single sight type r e = refl

pub given_others : (sight : Sight) (type : ObjectType) (r : Option u.Range) (at : ℕ) (e : t.Expr) → value_given sight type r (t.others at e) ≡ (typed sight e >>= as_filled type)
unfolding value_given
given_others sight type r at e = refl

pub not_static : (x : u.Test) → is_fixed x ≡ false → as_static_test (truth x) ≡ None
not_static (u.Test.fixed a) h = absurd (true≢false h)
not_static x h = refl

-- ---- ranges by name

pub range_named_is : (sight : Sight) (n : t.Name) → static_range sight (t.range_named n) ≡ (typed sight (t.named n.identifier n.suffix n.attribute) >>= as_range)
unfolding static_range
range_named_is sight n = refl

-- a name without an attribute
pub subtype_range_is : (sight : Sight) (n : t.Name) → n.attribute ≡ None → static_range sight (t.range_named n) ≡ subtype_range sight n
subtype_range_is sight n h =
    range_named_is sight n
    ∙ ap (λ a. typed sight (t.named n.identifier n.suffix a) >>= as_range) h
    ∙ ap (λ o. o >>= as_range) (named_in_turn sight n.identifier n.suffix None)
    ∙ go (declaration sight n.identifier.text) (typed_suffix sight n.suffix)
  where
    go : (p : Option Declared) (o : Option Suffix) →
        ((p >>= λ d. (o >>= λ s. named sight.language n.identifier.at None d s)) >>= as_range) ≡ (p >>= λ d. (o >>= λ s. wider sight.language (named_range None d s)))
    go None o = refl
    go (Some d) None = refl
    go (Some d) (Some s) = range_alone sight.language n.identifier.at d s

-- ---- objects

abbrev pub both : Declared → Suffix → Declared × Suffix
both d s = (d, s)

-- the identifier first, and the attribute last
turned : {A : Type 0} (b : Bool) (o : Option Suffix) (p : Option Declared) (f : Declared → Suffix → Option A) →
    (met b >> (o >>= λ s. (p >>= λ d. f d s))) ≡ ((p >>= λ d. (o >>= λ s. (met b >> Some (both d s)))) >>= λ m. f m.0 m.1)
turned true None None f = refl
turned true (Some s) None f = refl
turned false None None f = refl
turned false (Some s) None f = refl
turned b o p f = refl

pub signal_in_turn : (sight : Sight) (n : t.Name) → signal sight n ≡ (unattributed sight n >>= λ m. as_signal n.identifier.at m.0 m.1)
unfolding signal
signal_in_turn sight n = turned (is_none n.attribute) (typed_suffix sight n.suffix) (declaration sight n.identifier.text) (as_signal n.identifier.at)

pub signal_by : (sight : Sight) (n : t.Name) (m : Declared × Suffix) → unattributed sight n ≡ Some m → signal sight n ≡ as_signal n.identifier.at m.0 m.1
signal_by sight n m h = signal_in_turn sight n ∙ ap (λ (o : Option (Declared × Suffix)). o >>= λ p. as_signal n.identifier.at p.0 p.1) h

-- targets

abbrev pub target_at : (is_variable : Bool) → (at : ℕ) → Declared → Suffix → Option Target
target_at true = as_variable_target
target_at false = driven_target

signal_target_in_turn : (sight : Sight) (n : t.Name) → signal_target sight n ≡ (unattributed sight n >>= λ m. driven_target n.identifier.at m.0 m.1)
unfolding signal_target
signal_target_in_turn sight n = turned (is_none n.attribute) (typed_suffix sight n.suffix) (declaration sight n.identifier.text) (driven_target n.identifier.at)

variable_target_in_turn : (sight : Sight) (n : t.Name) → variable_target sight n ≡ (unattributed sight n >>= λ m. as_variable_target n.identifier.at m.0 m.1)
unfolding variable_target
variable_target_in_turn sight n = turned (is_none n.attribute) (typed_suffix sight n.suffix) (declaration sight n.identifier.text) (as_variable_target n.identifier.at)

pub target_in_turn : (sight : Sight) (is_variable : Bool) (n : t.Name) → target_by sight is_variable n ≡ (unattributed sight n >>= λ m. target_at is_variable n.identifier.at m.0 m.1)
target_in_turn sight true n = variable_target_in_turn sight n
target_in_turn sight false n = signal_target_in_turn sight n

pub target_found : (sight : Sight) (is_variable : Bool) (n : t.Name) (m : Declared × Suffix) → unattributed sight n ≡ Some m
    → target_by sight is_variable n ≡ target_at is_variable n.identifier.at m.0 m.1
target_found sight is_variable n m h = target_in_turn sight is_variable n ∙ ap (λ (o : Option (Declared × Suffix)). o >>= λ p. target_at is_variable n.identifier.at p.0 p.1) h

-- a signal that is an in port, or another one
module _ (at : ℕ) (d : Declared) (s : Suffix) where
  abbrev if_driven : Bool → Option Target → Option Target
  if_driven b o = o >>= λ x. (met (not b) >> Some x)

  not_driven : (o : Option Target) → if_driven true o ≡ None
  not_driven None = refl
  not_driven (Some x) = refl

  pub no_target : as_signal_target at d s ≡ None → driven_target at d s ≡ None
  no_target h = ap (if_driven (is_input (mode_of d.meaning))) h

  pub input_target : is_input (mode_of d.meaning) ≡ true → driven_target at d s ≡ None
  input_target h = ap (λ b. if_driven b (as_signal_target at d s)) h ∙ not_driven (as_signal_target at d s)

  pub output_target : (x : Target) → is_input (mode_of d.meaning) ≡ false → as_signal_target at d s ≡ Some x → driven_target at d s ≡ Some x
  output_target x h g = ap (λ b. if_driven b (as_signal_target at d s)) h ∙ ap (if_driven false) g

-- what is no vector is not filled
pub no_filled : (k : ElementKind) (x : Typed) → is_vector k ≡ false → as_filled (Elements k) x ≡ None
no_filled k (elements Element v) h = ap (λ b. then_some b (filled v)) h
no_filled k x h = refl
