-- No target is an in port, nor the actual of an out port.
use Rattle.std.proofs.Common.{◌≡◌, ℕ, Bool, true, false, not, Option, Some, None, refl, ap, sym, ◌∙◌, inl, inr}
use Rattle.std.specs.Prelude.{is_none}
use Rattle.std.specs.Option.{option_map}
use Rattle.vhdl_tree.specs.declared.declaration.Mode.{Mode}
use Rattle.vhdl_tree.specs.declared.declaration.Mode.TheVariants.{In, Out}
use Rattle.vhdl_tree.specs.Tree as t
use Rattle.vhdl_names_rules.specs.declared.kind.ObjectType.{ObjectType}
use Rattle.vhdl_names_rules.specs.units.Expressions as e
use Rattle.vhdl_names_rules.specs.units.Expressions.{Signal, Part}
use Rattle.vhdl_names_rules.specs.Visibility as visibility
use Rattle.vhdl_names_rules.specs.Visibility.{Name, Meaning, DeclaredRange, Sight, meaning, declaration}
use Rattle.vhdl_names_rules.specs.units.Statements.{Given}
use Rattle.vhdl_names_rules.specs.Names.{Suffix, AnyPart, fixed, free, part_of, any_part_of}
use Rattle.vhdl_names_rules.specs.Expressions.{typed_suffix}
use Rattle.vhdl_names_rules.specs.Statements.{SignalName, named_part, as_signal, signal, is_input, Target, part_target, assigned_signal, as_signal_target, mode_of, signal_target}
use Rattle.vhdl_names_rules.specs.Instances.{as_name, is_type, may_join, port_actual}
use Rattle.vhdl_names_rules.specs.laws.Sound.{IsDriven, assigned_by, TargetsAreDriven, ActualsAreDriven}
use Rattle.vhdl_names_rules.proofs.laws.Rules.{comes, kept, some_is, not_true}

-- a signal that isn't an in port is driven
driven_if : (at : ℕ) (r : Option DeclaredRange) (o : Option (Part × ObjectType)) (s : Signal) (mode : Option Mode) (x : SignalName)
    → option_map (named_part at s mode r) o ≡ Some x → (x.place.signal ≡ s) × (x.mode ≡ mode)
driven_if at r None s mode x e = cc
driven_if at r (Some p) s mode x e =
    let h = some_is (named_part at s mode r p) x e in
    (ap (λ (x : SignalName). x.place.signal) (sym h), ap (λ (x : SignalName). x.mode) (sym h))

by_meaning : (at : ℕ) (n : Name) (d : Meaning) (r : Option DeclaredRange) (g : Bool) (suffix : Suffix) (x : SignalName)
    → as_signal at (record { name = n; meaning = d; range = r; is_global = g }) suffix ≡ Some x → is_input x.mode ≡ false → IsDriven (Some d) x.place.signal
by_meaning at n (visibility.port k Out type) r g suffix x h i =
    let d = driven_if at r (part_of type suffix) (e.port k) (Some Out) x h in
    inl (k, type, refl, d.0)
by_meaning at n (visibility.port k In type) r g suffix x h i =
    let d = driven_if at r (part_of type suffix) (e.port k) (Some In) x h in
    let same : true ≡ is_input x.mode = ap is_input (sym d.1) in
    absurd (cc)
by_meaning at n (visibility.signal k type) r g suffix x h i =
    let d = driven_if at r (part_of type suffix) (e.Signal.signal k) None x h in
    inr (k, type, refl, d.0)
by_meaning at n _ r g suffix x h i = absurd (cc)

driven : (sight : Sight) (n : t.Name) (x : SignalName) → signal sight n ≡ Some x → is_input x.mode ≡ false → IsDriven (meaning sight n.identifier.text) x.place.signal
unfolding signal
driven sight n x h i =
    let k = kept (is_none n.attribute) _ x h in
    let s = comes (typed_suffix sight n.suffix) _ x k.1 in
    let d = comes (declaration sight n.identifier.text) _ x s.rest in
    rw d.is (by_meaning n.identifier.at d.value.name d.value.meaning d.value.range d.value.is_global s.value x d.rest i)

-- an assignment to a part of an object, or to what is chosen of it, is one to the object
assigned_is : (at : ℕ) (x : Signal) (p : AnyPart) (g : Given) → assigned_by (assigned_signal at x p g) ≡ Some x
assigned_is at x (fixed p) g = refl
assigned_is at x (free c) g = refl

assigned_if : (at : ℕ) (r : Option DeclaredRange) (x : Signal) (o : Option (AnyPart × ObjectType)) (y : Target) (g : Given)
    → option_map (part_target at r (assigned_signal at x)) o ≡ Some y → assigned_by (y.assigned g) ≡ Some x
assigned_if at r x None y g e = cc
assigned_if at r x (Some p) y g e =
    let h = some_is (part_target at r (assigned_signal at x) p) y e in
    ap (λ (y : Target). assigned_by (y.assigned g)) (sym h) ∙ assigned_is at x p.0 g

target_by : (at : ℕ) (n : Name) (d : Meaning) (r : Option DeclaredRange) (global : Bool) (suffix : Suffix) (y : Target) (g : Given)
    → as_signal_target at (record { name = n; meaning = d; range = r; is_global = global }) suffix ≡ Some y → is_input (mode_of d) ≡ false
    → (x : Signal) × (assigned_by (y.assigned g) ≡ Some x) × IsDriven (Some d) x
target_by at n (visibility.port k Out type) r global suffix y g h i =
    (e.port k, assigned_if at r (e.port k) (any_part_of type suffix) y g h, inl (k, type, refl, refl))
target_by at n (visibility.port k In type) r global suffix y g h i = absurd (cc)
target_by at n (visibility.signal k type) r global suffix y g h i =
    (e.Signal.signal k, assigned_if at r (e.Signal.signal k) (any_part_of type suffix) y g h, inr (k, type, refl, refl))
target_by at n _ r global suffix y g h i = absurd (cc)

pub targets_are_driven : TargetsAreDriven
unfolding signal_target
targets_are_driven sight n x g h =
    let k = kept (is_none n.attribute) _ x h in
    let s = comes (typed_suffix sight n.suffix) _ x k.1 in
    let d = comes (declaration sight n.identifier.text) _ x s.rest in
    let t = comes (as_signal_target n.identifier.at d.value s.value) _ x d.rest in
    let m = kept (not (is_input (mode_of d.value.meaning))) _ x t.rest in
    let same = some_is t.value x m.1 in
    rw d.is (target_by n.identifier.at d.value.name d.value.meaning d.value.range d.value.is_global s.value x g (t.is ∙ ap Some same) (not_true (is_input (mode_of d.value.meaning)) m.0))

pub actuals_are_driven : ActualsAreDriven
unfolding port_actual
actuals_are_driven sight f n actual p out named h =
    let c = comes (as_name actual) _ p h in
    let same : c.value ≡ n = some_is c.value n (sym c.is ∙ named) in
    let s = comes (signal sight c.value) _ p c.rest in
    let k = kept (is_type f.type s.value.type) _ p s.rest in
    let j = kept (may_join f.mode s.value.mode) _ p k.1 in
    let g = some_is s.value.place p j.1 in
    let i : not (is_input s.value.mode) ≡ true = ap (λ mode. may_join mode s.value.mode) (sym out) ∙ j.0 in
    let d = driven sight n s.value (ap (signal sight) (sym same) ∙ s.is) (not_true (is_input s.value.mode) i) in
    rw (← g) d
