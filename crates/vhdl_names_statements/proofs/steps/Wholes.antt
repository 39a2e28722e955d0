-- A truth is assigned to a whole object: a boolean has no parts.
use Rattle.std.proofs.Common.{◌≡◌, ℕ, Bool, true, false, Option, Some, refl, ap, sym, ◌∙◌}
use Rattle.std.specs.Prelude.{not, is_none}
use Rattle.vhdl_tree.specs.Tree as t
use Rattle.vhdl_names_rules.specs.declared.kind.ObjectType.{ObjectType}
use Rattle.vhdl_names_rules.specs.declared.kind.ObjectType.TheVariants.{Elements, Booleans}
use Rattle.vhdl_names_rules.specs.units.Expressions as u
use Rattle.vhdl_names_rules.specs.units.Statements as s
use Rattle.vhdl_names_rules.specs.Visibility as visibility
use Rattle.vhdl_names_rules.specs.Visibility.{Name, Meaning, DeclaredRange, Sight, declaration}
use Rattle.vhdl_names_rules.specs.Names as names
use Rattle.vhdl_names_rules.specs.Names.{Suffix, AnyPart, fixed, free, place_of, any_part, any_part_of}
use Rattle.vhdl_names_rules.specs.Expressions as expressions
use Rattle.vhdl_names_rules.specs.Expressions.{Assigned, typed_suffix, value_given, value_assigned}
use Rattle.vhdl_names_rules.specs.Statements.{Target, part_target, target_of, assigned_signal, assigned_variable, as_signal_target, as_variable_target, mode_of, is_input, signal_target, variable_target, target_by}
use Rattle.vhdl_names_trees.specs.views.Expressions.{any_part_view}
use Rattle.vhdl_names_trees.specs.views.Vectors.{signal_view}
use Rattle.vhdl_names_rules.proofs.laws.Rules.{comes, kept, some_is}
use Rattle.vhdl_names_rules.proofs.kept.Keeping.{mapped}
use Rattle.vhdl_names_units.specs.declared.answers.Object.{Object}
use Rattle.vhdl_names_units.specs.declared.answers.Object.TheVariants as o
use Rattle.vhdl_names_units.specs.declared.answers.Target as code
use Rattle.vhdl_names_units.specs.views.Targets.{assigned_by, target_view}
use Rattle.vhdl_names_statements.specs.steps.Deciding.{IsWhole}

abbrev Assigns : Type 0
Assigns = AnyPart → s.Given → s.Statement

-- ---- targets of booleans

whole_of : (at : ℕ) (r : Option DeclaredRange) (type : ObjectType) (suffix : Suffix) (f : Assigns) (x : Target)
    → target_of at r type suffix f ≡ Some x → x.type ≡ Booleans → x.assigned ≡ f (fixed u.whole)
whole_of at r (Elements k) suffix f x h b =
    let a = mapped (part_target at r f) (any_part_of (Elements k) suffix) x h in
    let p = mapped (λ (p : AnyPart × _). (p.0, Elements p.1)) (any_part k suffix) a.value a.from in
    let no : Elements p.value.1 ≡ Booleans = ap (λ (p : AnyPart × ObjectType). p.1) p.is ∙ ap (λ (x : Target). x.type) a.is ∙ b in
    absurd cc
whole_of at r type names.plain f x h b = ap (λ (x : Target). x.assigned) (sym (some_is (part_target at r f (fixed u.whole, type)) x h))
whole_of at r type suffix f x h b = absurd cc

pub data Whole (x : Target) : Type 0 where
  of_signal : (at : ℕ) (y : u.Signal) → x.assigned ≡ assigned_signal at y (fixed u.whole) → Whole x
  of_variable : (at k : ℕ) → x.assigned ≡ assigned_variable at k (fixed u.whole) → Whole x

signal_by : (at : ℕ) (n : Name) (m : Meaning) (r : Option DeclaredRange) (g : Bool) (suffix : Suffix) (x : Target)
    → as_signal_target at (record { name = n; meaning = m; range = r; is_global = g }) suffix ≡ Some x → x.type ≡ Booleans → Whole x
signal_by at n (visibility.port k mode type) r g suffix x h b = of_signal at (u.port k) (whole_of at r type suffix (assigned_signal at (u.port k)) x h b)
signal_by at n (visibility.signal k type) r g suffix x h b = of_signal at (u.Signal.signal k) (whole_of at r type suffix (assigned_signal at (u.Signal.signal k)) x h b)
signal_by at n _ r g suffix x h b = absurd cc

variable_by : (at : ℕ) (n : Name) (m : Meaning) (r : Option DeclaredRange) (g : Bool) (suffix : Suffix) (x : Target)
    → as_variable_target at (record { name = n; meaning = m; range = r; is_global = g }) suffix ≡ Some x → x.type ≡ Booleans → Whole x
variable_by at n (visibility.variable k type) r g suffix x h b = of_variable at k (whole_of at r type suffix (assigned_variable at k) x h b)
variable_by at n _ r g suffix x h b = absurd cc

signal_is : (sight : Sight) (n : t.Name) (x : Target) → signal_target sight n ≡ Some x → x.type ≡ Booleans → Whole x
unfolding signal_target
signal_is sight n x h b =
    let k = kept (is_none n.attribute) _ x h in
    let z = comes (typed_suffix sight n.suffix) _ x k.1 in
    let d = comes (declaration sight n.identifier.text) _ x z.rest in
    let y = comes (as_signal_target n.identifier.at d.value z.value) _ x d.rest in
    let m = kept (not (is_input (mode_of d.value.meaning))) _ x y.rest in
    signal_by n.identifier.at d.value.name d.value.meaning d.value.range d.value.is_global z.value x (y.is ∙ m.1) b

variable_is : (sight : Sight) (n : t.Name) (x : Target) → variable_target sight n ≡ Some x → x.type ≡ Booleans → Whole x
unfolding variable_target
variable_is sight n x h b =
    let k = kept (is_none n.attribute) _ x h in
    let z = comes (typed_suffix sight n.suffix) _ x k.1 in
    let d = comes (declaration sight n.identifier.text) _ x z.rest in
    variable_by n.identifier.at d.value.name d.value.meaning d.value.range d.value.is_global z.value x d.rest b

target_is : (sight : Sight) (b : Bool) (n : t.Name) (x : Target) → target_by sight b n ≡ Some x → x.type ≡ Booleans → Whole x
target_is sight false n x h b = signal_is sight n x h b
target_is sight true n x h b = variable_is sight n x h b

-- ---- of the code

-- any value shows which part it is given to
abbrev any_given : s.Given
any_given = s.single (u.Value.position 0)

signal_part : (at place : ℕ) (x : Object) (p : AnyPart) (y : u.Signal) → assigned_by at x p any_given ≡ assigned_signal place y (fixed u.whole) any_given → p ≡ fixed u.whole
signal_part at place (o.Signal z) (fixed p) y h =
    let same : place_of at (signal_view z) p ≡ place_of place y u.whole = cc in
    ap (λ (x : u.SignalPart). fixed x.part) same
signal_part at place (o.Signal z) (free c) y h = absurd cc
signal_part at place (o.Variable k) (fixed p) y h = absurd cc
signal_part at place (o.Variable k) (free c) y h = absurd cc

variable_part : (at place : ℕ) (x : Object) (p : AnyPart) (k : ℕ) → assigned_by at x p any_given ≡ assigned_variable place k (fixed u.whole) any_given → p ≡ fixed u.whole
variable_part at place (o.Signal z) (fixed p) k h = absurd cc
variable_part at place (o.Signal z) (free c) k h = absurd cc
variable_part at place (o.Variable j) (fixed p) k h = let same : p ≡ u.whole = cc in ap fixed same
variable_part at place (o.Variable j) (free c) k h = absurd cc

part_is : (x : code.Target) → Whole (target_view x) → any_part_view x.part ≡ fixed u.whole
part_is x (of_signal place y h) = signal_part x.at place x.object (any_part_view x.part) y (ap (λ (f : s.Given → s.Statement). f any_given) h)
part_is x (of_variable place k h) = variable_part x.at place x.object (any_part_view x.part) k (ap (λ (f : s.Given → s.Statement). f any_given) h)

-- ---- a truth is assigned to a boolean alone

truth_type : (sight : Sight) (type : ObjectType) (r : Option u.Range) (v : t.Value) (t : u.Test) → value_assigned sight type r v ≡ Some (expressions.truth_of t) → type ≡ Booleans
unfolding value_assigned
truth_type sight Booleans r v t h = refl
truth_type sight type r v t h =
    let a = mapped expressions.given (value_given sight type r v) (expressions.truth_of t) h in
    let no : expressions.given a.value ≡ expressions.truth_of t = a.is in
    absurd cc

pub is_whole : (sight : Sight) (b : Bool) (n : t.Name) (v : t.Value) (x : code.Target) (a : Assigned) → target_by sight b n ≡ Some (target_view x)
    → value_assigned sight x.object_type (target_view x).range v ≡ Some a → IsWhole x a
is_whole sight b n v x (expressions.given g) found h = tt
is_whole sight b n v x (expressions.truth_of t) found h =
    part_is x (target_is sight b n (target_view x) found (truth_type sight x.object_type (target_view x).range v t h))
