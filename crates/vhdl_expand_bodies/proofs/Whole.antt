-- Objects of integer types have as many elements as their numbers have digits.
use Rattle.std.proofs.Common.{◌≡◌, ℕ, Ok, sym, ap, ◌∙◌}
use Rattle.std.specs.Prelude.{slice_get}
use Rattle.rtl_model.specs.bodies.Body as bodies
use Rattle.rtl_model.specs.bodies.Fits.{width}
use Rattle.vhdl_names_rules.specs.units.Expressions as u
use Rattle.vhdl_expand_rules.specs.Integers.{IntegerRange}
use Rattle.vhdl_expand_rules.specs.Kinds.{number_size}
use Rattle.vhdl_expand_rules.specs.Site.{Site, part_elements, signal_elements, signal_kind, variable_elements, integer_range, elements_count}
use Rattle.vhdl_expand_rules.proofs.Steps.{ok, bound}
use Rattle.vhdl_expand_rules.proofs.laws.Chosen.{number_long, range_found}
use Rattle.vhdl_expand_bodies.specs.steps.Vectors.{signal, variable}

pub signal_long : (here : Site) (at : ℕ) (x : u.Signal) (e : bodies.Expr) (r : IntegerRange) → signal here at x u.whole ≡ Ok e → integer_range at (signal_kind here x) ≡ Ok r → width e ≡ number_size r
unfolding signal_elements
signal_long here at (u.port k) e r h i =
    let named = bound (part_elements here.integers at 0 here.ports k u.whole) _ e h in
    ap width (sym (ok (bodies.signal named.x) e named.then_gave)) ∙ number_long here.integers at 0 here.ports k named.x r (range_found at (slice_get here.ports k) r i) named.gave
signal_long here at (u.Signal.signal k) e r h i =
    let named = bound (part_elements here.integers at (elements_count here.ports) here.signals k u.whole) _ e h in
    ap width (sym (ok (bodies.signal named.x) e named.then_gave)) ∙ number_long here.integers at (elements_count here.ports) here.signals k named.x r (range_found at (slice_get here.signals k) r i) named.gave

pub variable_long : (here : Site) (at k : ℕ) (e : bodies.Expr) (r : IntegerRange) → variable here at k u.whole ≡ Ok e → integer_range at (slice_get here.variables k) ≡ Ok r → width e ≡ number_size r
unfolding variable_elements
variable_long here at k e r h i =
    let named = bound (part_elements here.integers at 0 here.variables k u.whole) _ e h in
    ap width (sym (ok (bodies.variable named.x) e named.then_gave)) ∙ number_long here.integers at 0 here.variables k named.x r (range_found at (slice_get here.variables k) r i) named.gave
