-- What elaboration may take for granted of units: lists are as long as those that they are for, and no in port
-- is assigned.
use Rattle.std.specs.Prelude.{ℕ, suc, ◌+◌, nat_lt, nat_le, Bool, true, false, not, ◌&&◌, List, [], ◌∷◌, ◌++◌, map, slice_get, Option, Some, None, option_map, is_some}
use Rattle.std.specs.List.{list_all, list_any}
use Rattle.vhdl_tree.specs.declared.declaration.Mode.{Mode}
use Rattle.vhdl_tree.specs.declared.declaration.Mode.TheVariants.{In, Out}
use Rattle.vhdl_names_rules.specs.units.Expressions.{Range, Signal, SignalPart}
use Rattle.vhdl_names_rules.specs.units.Units as u
use Rattle.vhdl_names_rules.specs.units.Units.{Form, Fixed, Units}
use Rattle.vhdl_names_rules.specs.sound.Expressions.{Inside, Shape, one, vector, state, number, static_fits, range_fits, static_test_fits, shape_of, place_shape, is_elements, elements_fit, position_fits, fits_shape}
use Rattle.vhdl_names_rules.specs.sound.Statements.{is_driven, given_fits, statements_fit}

-- ---- declarations

abbrev pub integers_fit : Inside → u.Integers → Bool
integers_fit i (u.of_type w) = true
integers_fit i (u.of_range k) = nat_lt k i.ranges

abbrev pub subtype_range_fits : Inside → Option (ℕ × Range) → Bool
subtype_range_fits i None = true
subtype_range_fits i (Some r) = range_fits i r.1

abbrev pub subtype_fits : Inside → u.IntegerSubtype → Bool
subtype_fits i s = integers_fit i s.base && subtype_range_fits i s.range

abbrev pub form_fits : Inside → Form → Bool
form_fits i u.element = true
form_fits i (u.vector r) = range_fits i r
form_fits i (u.enumeration count) = nat_lt 0 count && nat_le count 256
form_fits i (u.Form.number s) = subtype_fits i s
form_fits i u.boolean = true

abbrev pub without_objects : Inside → Inside
without_objects i = record i { ports = []; signals = []; variables = [] }

abbrev pub fixed_fits : Inside → Shape → Fixed → Bool
fixed_fits i one (u.Fixed.literal (x ∷ [])) = true
fixed_fits i vector (u.Fixed.literal (x ∷ xs)) = true
fixed_fits i x (u.Fixed.position p) = position_fits x p
fixed_fits i x (u.Fixed.constant k) = is_elements x && fits_shape x (option_map shape_of (slice_get i.constants k))
fixed_fits i vector (u.Fixed.encoded n size) = static_fits i n && static_fits i size
fixed_fits i vector (u.Fixed.filled x) = true
-- no signal and no variable is in it
fixed_fits i x (u.Fixed.given g) = given_fits (without_objects i) x g
fixed_fits i vector (u.Fixed.aggregate at es) = elements_fit (without_objects i) es
fixed_fits i number (u.Fixed.integer n) = static_fits i n
fixed_fits i one (u.Fixed.truth t) = static_test_fits i t
fixed_fits i _ _ = false

abbrev pub default_fits : Inside → Shape → Option Fixed → Bool
default_fits i x None = true
default_fits i x (Some f) = fixed_fits i x f

-- neither an enumeration nor an integer nor a boolean is resolved
abbrev pub may_be_resolved : Form → Bool → Bool
may_be_resolved (u.enumeration count) true = false
may_be_resolved (u.Form.number s) true = false
may_be_resolved u.boolean true = false
may_be_resolved _ _ = true

abbrev pub object_fits : Inside → u.Object → Bool
object_fits i o =
    form_fits i o.form && may_be_resolved o.form o.is_resolved && default_fits i (shape_of o.form) o.default

-- a port is of no enumeration
abbrev pub is_port_shape : Shape → Bool
is_port_shape (state count) = false
is_port_shape _ = true

abbrev pub port_fits : u.Port → Bool
port_fits p = is_port_shape (shape_of p.object.form)

abbrev pub objects_fit : Inside → List u.Object → Bool
objects_fit i os = list_all (object_fits i) os

-- a value of a generic's type
abbrev pub generic_value_fits : Inside → u.GenericType → Fixed → Bool
generic_value_fits i (u.integers s) (u.Fixed.integer n) = static_fits i n
generic_value_fits i u.truths (u.Fixed.truth t) = static_test_fits i t
generic_value_fits i (u.values f) x = fixed_fits i (shape_of f) x
generic_value_fits i _ _ = false

abbrev pub generic_default_fits : Inside → u.GenericType → Option Fixed → Bool
generic_default_fits i type None = true
generic_default_fits i type (Some x) = generic_value_fits i type x

abbrev pub generic_type_fits : Inside → u.GenericType → Bool
generic_type_fits i (u.integers s) = subtype_fits i s
generic_type_fits i u.truths = true
generic_type_fits i (u.values f) = form_fits i f && is_elements (shape_of f)

-- how many ranges what is declared in this form has
abbrev pub ranges_of : Form → ℕ
ranges_of (u.vector r) = 1
ranges_of _ = 0

abbrev pub with_constant : Inside → Form → Inside
with_constant i f = record i { constants = i.constants ++ f ∷ []; ranges = i.ranges + ranges_of f }

abbrev pub with_generic : Inside → u.GenericType → Inside
with_generic i (u.values f) = with_constant i f
with_generic i _ = record i { generics = suc i.generics }

abbrev pub with_generics : Inside → List u.Generic → Inside
with_generics i [] = i
with_generics i (g ∷ gs) = with_generics (with_generic i g.type) gs

-- a generic's type and default have the generics before it
abbrev pub generics_fit : Inside → List u.Generic → Bool
generics_fit i [] = true
generics_fit i (g ∷ gs) =
    generic_type_fits i g.type && generic_default_fits i g.type g.default && generics_fit (with_generic i g.type) gs

-- ports behind those before them
abbrev pub with_ports : Inside → List u.Port → Inside
with_ports i [] = i
with_ports i (p ∷ ps) =
    with_ports (record i { ports = i.ports ++ p ∷ []; ranges = i.ranges + ranges_of p.object.form }) ps

-- a process declares no signal, and nothing but a process a variable
abbrev pub is_signal : u.Declaration → Bool
is_signal (u.Declaration.signal o) = true
is_signal _ = false

abbrev pub is_variable : u.Declaration → Bool
is_variable (u.Declaration.variable o) = true
is_variable _ = false

-- each declaration has those before it
abbrev pub declaration_fits : Inside → u.Declaration → Bool
declaration_fits i (u.Declaration.integer at type n) = subtype_fits i type && static_fits i n
declaration_fits i (u.Declaration.truth at t) = static_test_fits i t
declaration_fits i (u.Declaration.constant at f x) = form_fits i f && fixed_fits i (shape_of f) x
declaration_fits i (u.Declaration.signal o) = object_fits i o
declaration_fits i (u.Declaration.variable o) = object_fits i o
declaration_fits i (u.vector_subtype at r) = range_fits i r
declaration_fits i (u.integer_subtype at s) = subtype_fits i s

abbrev pub with_declaration : Inside → u.Declaration → Inside
with_declaration i (u.Declaration.integer at type n) = record i { integers = suc i.integers }
with_declaration i (u.Declaration.truth at t) = record i { integers = suc i.integers }
with_declaration i (u.Declaration.constant at f x) = with_constant i f
with_declaration i (u.Declaration.signal o) =
    record i { signals = i.signals ++ o.form ∷ []; ranges = i.ranges + ranges_of o.form }
with_declaration i (u.Declaration.variable o) =
    record i { variables = i.variables ++ o.form ∷ []; ranges = i.ranges + ranges_of o.form }
with_declaration i (u.vector_subtype at r) = record i { ranges = suc i.ranges }
with_declaration i (u.integer_subtype at s) = record i { ranges = suc i.ranges }

abbrev pub declarations_fit : Inside → List u.Declaration → Bool
declarations_fit i [] = true
declarations_fit i (d ∷ ds) = declaration_fits i d && declarations_fit (with_declaration i d) ds

abbrev pub with_declarations : Inside → List u.Declaration → Inside
with_declarations i [] = i
with_declarations i (d ∷ ds) = with_declarations (with_declaration i d) ds

-- ---- concurrent statements

abbrev pub sensitivity_fits : Inside → u.Sensitivity → Bool
sensitivity_fits i (u.listed ps) = list_all (λ p. is_some (place_shape i p)) ps
sensitivity_fits i _ = true

abbrev pub process_fits : Inside → u.Process → Bool
process_fits i p =
    sensitivity_fits (with_declarations i p.declarations) p.sensitivity && declarations_fit i p.declarations
    && not (list_any is_signal p.declarations) && statements_fit (with_declarations i p.declarations) p.body

abbrev pub may_join : Inside → Mode → Signal → Bool
may_join i In x = true
may_join i Out x = is_driven i x

abbrev pub actual_fits : Inside → u.Port → Option SignalPart → Bool
actual_fits i f None = true
actual_fits i f (Some p) = fits_shape (shape_of f.object.form) (place_shape i p) && may_join i f.mode p.signal

-- an actual for each formal
abbrev pub actuals_fit : Inside → List u.Port → List (Option SignalPart) → Bool
actuals_fit i [] [] = true
actuals_fit i (f ∷ fs) (p ∷ ps) = actual_fits i f p && actuals_fit i fs ps
actuals_fit i _ _ = false

abbrev pub generic_actuals_fit : Inside → List u.Generic → List (Option Fixed) → Bool
generic_actuals_fit i [] [] = true
generic_actuals_fit i (g ∷ gs) (x ∷ xs) = generic_default_fits i g.type x && generic_actuals_fit i gs xs
generic_actuals_fit i _ _ = false

abbrev pub instance_fits : Inside → u.Instance → Option u.Entity → Bool
instance_fits i x None = false
instance_fits i x (Some unit) =
    generic_actuals_fit i unit.generics x.generics && actuals_fit i unit.ports x.ports

abbrev pub within_generate : Inside → Inside
within_generate i = record i { generates = suc i.generates }

module _ (units : Units) where
  unfoldable mutual
    pub concurrent_fits : Inside → u.Concurrent → Bool
    concurrent_fits i (u.process p) = process_fits i p
    concurrent_fits i (u.instance x) = instance_fits i x (slice_get units x.unit)
    concurrent_fits i (u.generate_for at label r body) = range_fits i r && concurrents_fit (within_generate i) body
    concurrent_fits i (u.generate_if at label t body) = static_test_fits i t && concurrents_fit i body

    pub concurrents_fit : Inside → u.Concurrents → Bool
    concurrents_fit i u.no_concurrents = true
    concurrents_fit i (u.concurrent x xs) = concurrent_fits i x && concurrents_fit i xs

-- ---- units

abbrev pub nothing_inside : Inside
nothing_inside = record {
  generics = 0;
  integers = 0;
  ranges = 0;
  constants = [];
  ports = [];
  signals = [];
  variables = [];
  generates = 0;
  loops = 0;
}

abbrev pub architecture_fits : Units → Inside → Option u.Architecture → Bool
architecture_fits units i None = true
architecture_fits units i (Some a) =
    declarations_fit i a.declarations && not (list_any is_variable a.declarations)
    && concurrents_fit units (with_declarations i a.declarations) a.statements

abbrev pub entity_fits : Units → u.Entity → Bool
entity_fits units x = fits (with_generics nothing_inside x.generics)
  where
    fits : Inside → Bool
    fits i =
        generics_fit nothing_inside x.generics && objects_fit i (map (λ (p : u.Port). p.object) x.ports)
        && list_all port_fits x.ports
        && architecture_fits units (with_ports i x.ports) x.architecture

unfoldable pub are_sound : Units → Bool
are_sound units = list_all (entity_fits units) units
