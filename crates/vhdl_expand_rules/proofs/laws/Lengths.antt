-- Objects of an expanded tree are as long as what they start with, and as their actuals.
use Rattle.std.proofs.Common.{◌≡◌, ℕ, ◌==◌, List, [], ◌∷◌, length, map, replicate, Option, Some, None, Ok, All, sym, ap, ◌∙◌, subst}
use Rattle.std.specs.Prelude.{ℤ, slice_get}
use Rattle.std.proofs.lemmas.List.Elements.{All-append}
use Rattle.std.proofs.lemmas.Bool.{eqb-true}
use Rattle.vhdl_values.specs.declared.scalar.Nine.{Nine}
use Rattle.vhdl_values.specs.declared.scalar.Nine.TheVariants.{Zero}
use Rattle.vhdl_values.specs.Scalar.{code_of, value_of_truth}
use Rattle.vhdl_values.specs.Numbers.{digits_of}
use Rattle.vhdl_numbers.specs.TwosComplement.{signed_digits_of}
use Rattle.vhdl_numbers.proofs.Lengths.{length-signed_digits_of}
use Rattle.rtl_model.specs.bodies.Body as bodies
use Rattle.rtl_model.specs.bodies.Values.{elements_of}
use Rattle.vhdl_names_rules.specs.units.Units as u
use Rattle.vhdl_names_rules.specs.units.Units.{Fixed, Port}
use Rattle.vhdl_expand_rules.specs.declared.fault.ElabProblem.TheVariants.{Length, Index}
use Rattle.vhdl_expand_rules.specs.Elab.{◌>>=◌, item_or, same_length}
use Rattle.vhdl_expand_rules.specs.Integers.{IntegerRange, of_range, natural, integer_among, decision}
use Rattle.vhdl_expand_rules.specs.Kinds.{ObjectKind, vector, enumeration, integer, boolean, number_size, size, size_of}
use Rattle.vhdl_expand_rules.specs.Site.{Site}
use Rattle.vhdl_expand_rules.specs.Tree.{Role, internal, Object}
use Rattle.vhdl_expand_rules.specs.Declarations.{as_long_as, nothing_seen, elements_of_value, position_of_value, fixed_values, number_starts, given_starts, starts, object, role_of}
use Rattle.vhdl_expand_rules.specs.Statements.{value_given}
use Rattle.vhdl_expand_rules.specs.laws.Lengths.{ObjectFits, EachDesignFits}
use Rattle.vhdl_expand_rules.proofs.Steps.{given, ok, bound, kept}
use Rattle.vhdl_expand_rules.proofs.Items.{all_any, all_of_zip}
use Rattle.vhdl_expand_rules.proofs.laws.Expanded.{object_made, OfObjects, Any, any_ports, any_signals, OfInstances, design_holds}
use Rattle.std.proofs.lemmas.List.{length-map, length-replicate}

-- ---- values

as_long : (at len : ℕ) (vs ws : List Nine) → as_long_as at len vs ≡ Ok ws → length ws ≡ len
as_long at len vs ws h =
    let x = bound (same_length at (length vs) len) _ ws h in
    subst (λ (xs : List Nine). length xs ≡ len) (ok vs ws x.then_gave) (eqb-true (length vs) len (kept (Length (length vs) len) at (length vs == len) x.x x.gave))

elements-length : (at len : ℕ) (v : bodies.Value) (vs : List Nine) → elements_of_value at len v ≡ Ok vs → length vs ≡ len
elements-length at len (bodies.elements e) vs h = as_long at len (elements_of nothing_seen e) vs h
elements-length at len _ vs h = absurd cc

fixed-length : (here : Site) (at len : ℕ) (f : Fixed) (vs : List Nine) → fixed_values here at len f ≡ Ok vs → length vs ≡ len
unfolding fixed_values
fixed-length here at len (u.Fixed.literal xs) vs h = as_long at len xs vs h
fixed-length here at len (u.Fixed.constant k) vs h =
    let c = bound (item_or Index at (slice_get here.constants k)) _ vs h in
    as_long at len c.x.values vs c.then_gave
fixed-length here at len (u.Fixed.encoded s t) vs h =
    let n = bound (natural here.integers at s) _ vs h in
    let m = bound (size_of here.integers at t) _ vs n.then_gave in
    as_long at len (digits_of m.x n.x) vs m.then_gave
fixed-length here at len (u.Fixed.filled v) vs h = subst (λ (xs : List Nine). length xs ≡ len) (ok (replicate len v) vs h) (length-replicate len v)
fixed-length here at len (u.Fixed.given g) vs h =
    let v = bound (value_given here at len g) _ vs h in
    elements-length at len v.x vs v.then_gave
fixed-length here at len _ vs h = absurd cc

codes-length : (here : Site) (at len : ℕ) (f : Fixed) (vs : List ℕ) → (fixed_values here at len f >>= λ xs. given (map code_of xs)) ≡ Ok vs → length vs ≡ len
codes-length here at len f vs h =
    let x = bound (fixed_values here at len f) _ vs h in
    subst (λ (ns : List ℕ). length ns ≡ len) (ok (map code_of x.x) vs x.then_gave) (length-map x.x code_of ∙ fixed-length here at len f x.x x.gave)

position-length : (at : ℕ) (v : bodies.Value) (vs : List ℕ) → position_of_value at v ≡ Ok vs → length vs ≡ 1
position-length at (bodies.position n) vs h = ap length (sym (ok (n ∷ []) vs h))
position-length at _ vs h = absurd cc

number-length : (r : IntegerRange) (x : ℤ) → length (number_starts r x) ≡ number_size r
number-length r x = length-map (signed_digits_of (number_size r) x) code_of ∙ length-signed_digits_of (number_size r) x

given-length : (here : Site) (at : ℕ) (kind : ObjectKind) (f : Fixed) (vs : List ℕ) → given_starts here at kind f ≡ Ok vs → length vs ≡ size kind
given-length here at (vector b) f vs h = codes-length here at (size (vector b)) f vs h
given-length here at (enumeration count) (u.Fixed.position n) vs h = ap length (sym (ok (n ∷ []) vs h))
given-length here at (enumeration count) (u.Fixed.given g) vs h =
    let v = bound (value_given here at 1 g) _ vs h in
    position-length at v.x vs v.then_gave
given-length here at boolean (u.Fixed.truth t) vs h =
    let b = bound (decision here.integers t) _ vs h in
    ap length (sym (ok (code_of (value_of_truth b.x) ∷ []) vs b.then_gave))
given-length here at (integer r) (u.Fixed.integer s) vs h =
    let n = bound (integer_among here.integers at (of_range r) s) _ vs h in
    ap length (sym (ok (number_starts r n.x) vs n.then_gave)) ∙ number-length r n.x
given-length here at (integer r) f vs h = codes-length here at (number_size r) f vs h
given-length here at _ f vs h = codes-length here at 1 f vs h

pub starts-length : (here : Site) (at : ℕ) (kind : ObjectKind) (d : Option Fixed) (vs : List ℕ) → starts here at kind d ≡ Ok vs → length vs ≡ size kind
unfolding starts
starts-length here at (integer r) None vs h = ap length (sym (ok (number_starts r r.left) vs h)) ∙ number-length r r.left
starts-length here at boolean None vs h = ap length (sym (ok (code_of Zero ∷ []) vs h))
starts-length here at kind None vs h = subst (λ (ns : List ℕ). length ns ≡ size kind) (ok (replicate (size kind) 0) vs h) (length-replicate {A = ℕ} (size kind) 0)
starts-length here at kind (Some f) vs h = given-length here at kind f vs h

-- ---- objects

object-fits : (here : Site) (role : Role) (o : u.Object) (x : Object) → object here role o ≡ Ok x → ObjectFits x
object-fits here role o x h =
    let m = object_made here role o x h in
    subst ObjectFits m.is (record { starts = starts-length here o.at m.kind o.default m.values m.gave; actual = λ es k. absurd cc })

same-list : (xs ys : List ℕ) → Some xs ≡ Some ys → ys ≡ xs
same-list xs ys e = cc

abbrev PortFits : Port → Object → Type 0
PortFits p o = ObjectFits o

objects : OfObjects Any PortFits ObjectFits
objects = record {
  of_port = λ here p x s h. object-fits here (role_of p.mode) p.object x h;
  of_actual = λ p o es h e. record { starts = h.starts; actual = λ fs k. ap length (same-list es fs k) ∙ e };
  of_signal = λ here o x s h. object-fits here internal o x h;
}

-- ---- instances

instances : OfInstances Any Any PortFits ObjectFits (All ObjectFits)
instances = record {
  objects = objects;
  of_unit = λ unit k. any_ports unit.ports;
  of_architecture = λ unit a k there. any_signals a.declarations;
  of_instance = λ unit ports signals h k. All-append ObjectFits ports signals (all_of_zip PortFits ObjectFits (λ p o fits. fits) unit.ports ports h) k;
}

pub design-fits : EachDesignFits
design-fits units top design h = design_holds Any Any PortFits ObjectFits (All ObjectFits) instances units (all_any Any (λ x. tt) units) top design h
