-- Instances, nets and processes in order of the text, and the net of each element (IEEE 1076-2008, 14.2, 6.5.6.3). An
-- associated port is no net of its own: its elements are the actual's elements. Nets are numbered from 0: the ports and
-- signals of the top, then each instance's in the same way; processes too, an instance's in its place.
use Rattle.std.specs.Prelude.{ℕ, ◌+◌, List, [], ◌∷◌, ◌++◌, length, map, slice_index, codes, Option, Some, None}
use Rattle.std.specs.List.{range_with_len}
use Rattle.rtl_model.specs.bodies.Reads.{reads}
use Rattle.vhdl_expand_rules.specs.Kinds.{size}
use Rattle.vhdl_expand_rules.specs.Tree.{Role, input, output, Object, Sensitivity, listed, every, as_read, Process, Instance, instance, Parts, no_parts}
use Rattle.vhdl_expand_rules.specs.Tree.{process, inner, objects_of}
use Rattle.vhdl_expand_rules.specs.Expansion.{Design}

-- ---- nets of elements

-- The nets of an object's elements: the actual's in the instance above, whose elements have these nets, or else its
-- own, of which this is the first.
abbrev pub object_nets : (above : List ℕ) → (first : ℕ) → Object → List ℕ
object_nets above first o = by o.actual
  where
    by : Option (List ℕ) → List ℕ
    by None = range_with_len first (size o.kind)
    by (Some actual) = map (slice_index above) actual

-- how many nets of its own an object has
abbrev pub own_size : Object → ℕ
own_size o = by o.actual
  where
    by : Option (List ℕ) → ℕ
    by None = size o.kind
    by (Some actual) = 0

abbrev pub element_nets : (above : List ℕ) → (first : ℕ) → List Object → List ℕ
element_nets above first [] = []
element_nets above first (o ∷ os) = object_nets above first o ++ element_nets above (first + own_size o) os

abbrev pub own_sizes : List Object → ℕ
own_sizes [] = 0
own_sizes (o ∷ os) = own_size o + own_sizes os

-- ---- what drives and reads the elements of an instance, from within it

-- the elements of the instance above that ports of this role have
abbrev pub actuals_of : Role → List Object → List ℕ
actuals_of role [] = []
actuals_of role (o ∷ os) = of_object role o.role o.actual ++ actuals_of role os
  where
    of_object : Role → Role → Option (List ℕ) → List ℕ
    of_object input input (Some actual) = actual
    of_object output output (Some actual) = actual
    of_object _ _ _ = []

-- elements that a process reads by name: in its statements and in its list
abbrev pub process_reads : Process → List ℕ
process_reads p = reads p.body ++ by p.sensitivity
  where
    by : Sensitivity → List ℕ
    by (listed es) = es
    by (every es) = []
    by as_read = []

-- each element, once for each driver in this instance and each out port of an instance in it
abbrev pub driven_in : Parts → List ℕ
driven_in no_parts = []
driven_in (process p rest) = p.drives ++ driven_in rest
driven_in (inner label i rest) = actuals_of output (objects_of i) ++ driven_in rest

-- each element that is read in it, or is the actual of an in port
abbrev pub read_in : Parts → List ℕ
read_in no_parts = []
read_in (process p rest) = process_reads p ++ read_in rest
read_in (inner label i rest) = actuals_of input (objects_of i) ++ read_in rest

-- ---- instances and processes in order

-- An instance in its place: the number of the one that it stands in; the labels of the generates round it and its own;
-- its path, which is the labels from the top on; its objects, the nets of their elements, and what is driven and read
-- in it.
pub record Placed : Type 0 where
  pub parent : Option ℕ
  pub label : List ℕ
  pub path : List ℕ
  pub objects : List Object
  pub nets : List ℕ
  pub driven : List ℕ
  pub read : List ℕ
  pub turns : ℕ

-- a process, with the instance of this number, in which it stands
pub record Located : Type 0 where
  pub scope : ℕ
  pub round : Placed
  pub process : Process

pub record Numbered : Type 0 where
  pub instances : List Placed
  pub processes : List Located
  -- how many nets there are
  pub nets : ℕ

abbrev pub nothing_numbered : Numbered
nothing_numbered = record { instances = []; processes = []; nets = 0 }

-- what an instance stands in: the number of the instance, its path with a dot behind it, and the nets of its elements
pub record Above : Type 0 where
  pub parent : Option ℕ
  pub path : List ℕ
  pub nets : List ℕ

abbrev pub above_top : Above
above_top = record { parent = None; path = []; nets = [] }

abbrev pub above_parts : (number : ℕ) → Placed → Above
above_parts number round = record { parent = Some number; path = round.path ++ codes "."; nets = round.nets }

-- an instance whose own nets begin at this one
abbrev pub placed_instance : Above → (label : List ℕ) → (first : ℕ) → Instance → Placed
placed_instance above label first (instance objects turns parts) = record {
  parent = above.parent;
  label = label;
  path = above.path ++ label;
  objects = objects;
  nets = element_nets above.nets first objects;
  driven = driven_in parts;
  read = read_in parts;
  turns = turns;
}

abbrev pub with_process : (scope : ℕ) → Placed → Process → Numbered → Numbered
with_process scope round p d =
    record d { processes = d.processes ++ record { scope = scope; round = round; process = p } ∷ [] }

abbrev pub with_placed : Placed → Numbered → Numbered
with_placed p d = record d { instances = d.instances ++ p ∷ []; nets = d.nets + own_sizes p.objects }

abbrev mutual
  -- an instance, after what has numbers already, and what stands in it
  pub with_instance : Above → (label : List ℕ) → Instance → Numbered → Numbered
  with_instance above label (instance objects turns parts) d =
      let p = placed_instance above label d.nets (instance objects turns parts) in
      with_parts (length d.instances) p parts (with_placed p d)

  -- in order of the text
  pub with_parts : (number : ℕ) → Placed → Parts → Numbered → Numbered
  with_parts number round no_parts d = d
  with_parts number round (process p rest) d = with_parts number round rest (with_process number round p d)
  with_parts number round (inner label i rest) d =
      with_parts number round rest (with_instance (above_parts number round) label i d)

-- a design, whose top stands in no instance
unfoldable pub numbered_design : Design → Numbered
numbered_design design = with_instance above_top design.name design.top nothing_numbered
