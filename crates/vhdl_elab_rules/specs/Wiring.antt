-- The flat netlist of a design whose instances, nets and processes are numbered (IEEE 1076-2008, 6.4.2.3,
-- 14.7.2, 14.7.3).
use Rattle.std.specs.Prelude.{ℕ, ◌+◌, Bool, true, false, not, ◌&&◌, ◌==◌, List, [], ◌∷◌, ◌++◌, map, filter, flat_map, count_by, slice_index, is_none}
use Rattle.std.specs.List.{range_with_len}
use Rattle.rtl_model.specs.bodies.Types.{ElementType}
use Rattle.rtl_model.specs.bodies.Reads.{reads}
use Rattle.rtl_model.specs.nets.FlatNetlist.{FlatDriver, FlatVariable, FlatProcess, FlatNetlist, starts, flat_sources}
use Rattle.rtl_model.specs.nets.CoreNetlist.{core_resolve}
use Rattle.rtl_model.specs.simulation.Netlist.{Source}
use Rattle.rtl_model.specs.simulation.Cycle.{source_value}
use Rattle.vhdl_expand_rules.specs.Kinds.{size, element_type}
use Rattle.vhdl_expand_rules.specs.Tree.{Role, input, output, internal, Object, Variable, Sensitivity, listed, every, as_read, Process}
pub use Rattle.vhdl_expand_rules.specs.Declarations.{is_input}
use Rattle.vhdl_expand_rules.specs.Prefixes.{is_among, in_order}
use Rattle.vhdl_elab_rules.specs.Bodies.{connected_body}
use Rattle.vhdl_elab_rules.specs.Numbering.{Placed, Located, Numbered}

-- ---- the elements of the declarations of an instance

pub record Element : Type 0 where
  -- the byte at which its object is declared
  pub at : ℕ
  pub role : Role
  pub type : ElementType
  pub is_resolved : Bool
  -- the default of the name
  pub start : ℕ
  pub net : ℕ
  -- whether the net is its own, and no actual's
  pub is_own : Bool
  -- how many sources it has of its own: drivers in its instance, and out ports of instances in it
  pub sources : ℕ
  -- whether it is read in its instance, by name or by the in port of an instance
  pub is_read : Bool

-- the element of this number, which an object has at this place
abbrev pub element_of : Placed → Object → (number place : ℕ) → Element
element_of p o number place = record {
  at = o.at;
  role = o.role;
  type = element_type o.kind;
  is_resolved = o.is_resolved;
  start = slice_index o.starts place;
  net = slice_index p.nets number;
  is_own = is_none o.actual;
  sources = count_by (λ e. e == number) p.driven;
  is_read = is_among p.read number;
}

-- of these objects, the first element of which has this number
abbrev pub elements_from : Placed → (first : ℕ) → List Object → List Element
elements_from p first [] = []
elements_from p first (o ∷ os) =
    map (λ k. element_of p o (first + k) k) (range_with_len 0 (size o.kind)) ++ elements_from p (first + size o.kind) os

abbrev pub elements_of : Placed → List Element
elements_of p = elements_from p 0 p.objects

-- all elements that have nets of their own: these are the nets, in order
abbrev pub own_elements : Numbered → List Element
own_elements d = filter (λ (e : Element). e.is_own) (flat_map elements_of d.instances)

abbrev pub is_output : Role → Bool
is_output input = false
is_output output = true
is_output internal = false

-- ---- inputs, and idle out ports

abbrev pub is_top : Placed → Bool
is_top p = is_none p.parent

-- the nets of the top's in ports
abbrev pub inputs_of : Numbered → List ℕ
inputs_of d =
    map (λ (e : Element). e.net)
    (filter (λ (e : Element). is_input e.role) (flat_map elements_of (filter is_top d.instances)))

-- an out port's element without a source in its instance, which is below the top
abbrev pub idle_elements : Numbered → List Element
idle_elements d =
    filter (λ (e : Element). is_output e.role && e.sources == 0)
    (flat_map elements_of (filter (λ p. not (is_top p)) d.instances))

-- what the idle out ports of this net hold
abbrev pub idle_values : Numbered → (n : ℕ) → List ℕ
idle_values d n = map (λ (e : Element). e.start) (filter (λ (e : Element). e.net == n) (idle_elements d))

-- ---- processes

-- the defaults of an instance's elements
abbrev pub defaults_of : List Object → List ℕ
defaults_of [] = []
defaults_of (o ∷ os) = o.starts ++ defaults_of os

-- a driver of an element starts with the default of the name by which it is driven
abbrev pub driver_of : Placed → (e : ℕ) → FlatDriver
driver_of p e = record { net = slice_index p.nets e; start = slice_index (defaults_of p.objects) e }

-- the elements that a process is sensitive to
abbrev pub sensitive_to : Process → List ℕ
sensitive_to p = by p.sensitivity
  where
    by : Sensitivity → List ℕ
    by (listed es) = es
    by (every es) = es
    by as_read = reads p.body

abbrev pub flat_variable : Variable → FlatVariable
flat_variable v = record { type_of = element_type v.kind; starts = v.starts }

-- a process of a design with so many nets
abbrev pub flat_process : (count : ℕ) → Located → FlatProcess
flat_process count x = record {
  drivers = map (driver_of x.round) x.process.drives;
  wakes = in_order count (map (slice_index x.round.nets) (sensitive_to x.process));
  variables = map flat_variable x.process.variables;
  body = connected_body x.round.nets x.process.drives x.process.body;
}

-- ---- the netlist

-- with the defaults of the nets' own names in place of what they start with
abbrev pub with_defaults : Numbered → FlatNetlist
with_defaults d = record {
  types = map (λ (e : Element). e.type) (own_elements d);
  start = map (λ (e : Element). e.start) (own_elements d);
  inputs = inputs_of d;
  idle = map (idle_values d) (range_with_len 0 d.nets);
  processes = map (flat_process d.nets) d.processes;
  wide = false;
}

-- a net with sources starts with the resolution of what they start with, any other with its default
abbrev pub start_by : FlatNetlist → (default : ℕ) → List Source → ℕ
start_by net default [] = default
start_by net default (s ∷ ss) = core_resolve (map (source_value (map starts net.processes)) (s ∷ ss))

abbrev pub start_of : FlatNetlist → (n : ℕ) → ℕ
start_of net n = start_by net (slice_index net.start n) (flat_sources net n)

unfoldable pub flat_net : Numbered → FlatNetlist
flat_net d = record (with_defaults d) { start = map (start_of (with_defaults d)) (range_with_len 0 d.nets) }
