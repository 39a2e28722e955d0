-- Names beside a flat netlist (IEEE 1076-2008, 16.2.5): instances with their labels, signals with their nets,
-- and processes.
-- A path is the top's name and the labels below it, joined by dots.
use Rattle.std.specs.Prelude.{ℕ, ◌+◌, ◌-◌, Bool, true, false, List, [], ◌∷◌, ◌++◌, map, filter, flat_map, slice_range, decimal, codes, Option, Some}
use Rattle.std.specs.Prelude.{None, is_none}
use Rattle.std.specs.List.{range_with_len, enumerate_from}
use Rattle.vhdl_tree.specs.declared.operator.Direction.{Direction}
use Rattle.vhdl_tree.specs.declared.operator.Direction.TheVariants.{To, Downto}
use Rattle.vhdl_expand_rules.specs.Kinds.{ObjectKind, one, vector, enumeration, integer, boolean, Bounds, number_size, size}
use Rattle.vhdl_expand_rules.specs.Tree.{Role, input, output, internal, Object, Variable}
use Rattle.vhdl_elab_rules.specs.Numbering.{Placed, Located, Numbered}

-- ---- instances

pub record Scope : Type 0 where
  pub label : List ℕ
  pub parent : Option ℕ

abbrev pub scope_of : Placed → Scope
scope_of p = record { label = p.label; parent = p.parent }

-- ---- signals

-- a port or signal of the instance of this number, and the nets of its elements
pub record Signal : Type 0 where
  -- the byte of the source at which its name is declared
  pub at : ℕ
  pub scope : ℕ
  pub name : List ℕ
  pub is_port : Bool
  pub kind : ObjectKind
  pub nets : List ℕ

abbrev pub is_port_role : Role → Bool
is_port_role input = true
is_port_role output = true
is_port_role internal = false

-- the signal that an object is, whose first element has this number
abbrev pub signal_of : (scope : ℕ) → (nets : List ℕ) → (first : ℕ) → Object → Signal
signal_of scope nets first o = record {
  at = o.at;
  scope = scope;
  name = o.name;
  is_port = is_port_role o.role;
  kind = o.kind;
  nets = slice_range nets first (first + size o.kind);
}

-- of these objects, the first element of which has this number
abbrev pub signals_from : (scope : ℕ) → (nets : List ℕ) → (first : ℕ) → List Object → List Signal
signals_from scope nets first [] = []
signals_from scope nets first (o ∷ os) = signal_of scope nets first o ∷ signals_from scope nets (first + size o.kind) os

abbrev pub signals_of : ℕ × Placed → List Signal
signals_of x = signals_from x.0 x.1.nets 0 x.1.objects

-- ---- processes

pub record NamedVariable : Type 0 where
  pub name : List ℕ
  pub kind : ObjectKind

pub record NamedProcess : Type 0 where
  -- the byte of the source at which the process starts, or the concurrent assignment that it is, behind its label
  pub at : ℕ
  pub scope : ℕ
  -- the labels of the generates round it, each with a dot behind it
  pub prefix : List ℕ
  pub label : Option (List ℕ)
  pub variables : List NamedVariable

abbrev pub named_variable : Variable → NamedVariable
named_variable v = record { name = v.name; kind = v.kind }

abbrev pub named_process : Located → NamedProcess
named_process x = record {
  at = x.process.at;
  scope = x.scope;
  prefix = x.process.prefix;
  label = x.process.label;
  variables = map named_variable x.process.variables;
}

-- ---- the names of nets and processes

-- `(i)`, of the element at this place
abbrev pub index_text : Bounds → (place : ℕ) → List ℕ
index_text b place = codes "(" ++ (decimal (index b.direction) ++ codes ")")
  where
    index : Direction → ℕ
    index To = b.left + place
    index Downto = b.left - place

abbrev pub element_text : ObjectKind → (place : ℕ) → List ℕ
element_text (vector b) place = index_text b place
element_text one place = []
element_text (enumeration count) place = []
element_text boolean place = []
-- a digit of an integer, by its weight
element_text (integer r) place = codes "[" ++ (decimal (number_size r - 1 - place) ++ codes "]")

-- a net has the name of the declaration that it is the own net of: `path.name`, or `path.name(i)`
abbrev pub object_names : (path : List ℕ) → Object → List (List ℕ)
object_names path o =
    map (λ place. path ++ (codes "." ++ (o.name ++ element_text o.kind place))) (range_with_len 0 (size o.kind))

abbrev pub own_names : Placed → List (List ℕ)
own_names p = flat_map (object_names p.path) (filter (λ (o : Object). is_none o.actual) p.objects)

-- the names of all nets, in order
abbrev pub net_names : Numbered → List (List ℕ)
net_names d = flat_map own_names d.instances

-- a process is `path.label`, or `path.#K` without a label, K being its number
abbrev pub label_text : (number : ℕ) → Option (List ℕ) → List ℕ
label_text number (Some label) = label
label_text number None = codes "#" ++ decimal number

abbrev pub process_name : ℕ × Located → List ℕ
process_name x = x.1.round.path ++ (codes "." ++ (x.1.process.prefix ++ label_text x.0 x.1.process.label))

abbrev pub process_names : Numbered → List (List ℕ)
process_names d = map process_name (enumerate_from 0 d.processes)
