-- Words for small designs: units as names and types leave them. Each thing that has a byte stands at one of its own
-- kind: an entity at 1, the generics of it at 6 and 7, its ports from 10 on, its signals from 20 on, a process at 50, a
-- loop at 51, a case at 52, an if at 53, a generate at 54, variables from 60 on; and within a statement its target at
-- 30, a literal at 31, an operator at 32, a call at 33, a name that is read at 34, a relation at 35, an instance's
-- label at 40 and its actuals from 41 on. Static integers have their sign at 3 and their operator at 5.
use Rattle.std.specs.Prelude.{ℕ, true, List, [], ◌∷◌, Option, Some, None, option_map, Ok, Err, codes, ℤ}
use Rattle.vhdl_values.specs.declared.scalar.Nine.{Nine}
use Rattle.vhdl_tree.specs.declared.declaration.Mode.TheVariants.{In, Out}
use Rattle.vhdl_tree.specs.declared.operator.Direction.TheVariants.{To, Downto}
use Rattle.vhdl_names_rules.specs.declared.operator.IntegerType.{IntegerType}
use Rattle.vhdl_names_rules.specs.units.Expressions as e
use Rattle.vhdl_names_rules.specs.units.Expressions.{Static, Range, Part, SignalPart, Vector, Value}
use Rattle.vhdl_names_rules.specs.units.Statements as s
use Rattle.vhdl_names_rules.specs.units.Units as u
use Rattle.vhdl_names_rules.specs.units.Units.{Form, Fixed, Entity, Concurrent, Concurrents, Units}
use Rattle.vhdl_expand_rules.specs.Elab.{Elab, ◌>>=◌}
use Rattle.vhdl_expand_rules.specs.Tops.{plain}
use Rattle.vhdl_elab_rules.specs.Elaboration.{Elaborated, elaborated_net}

-- ---- names and ranges

abbrev pub number : ℕ → Static
number = e.number

abbrev pub downto : ℕ → ℕ → Range
downto l r = record { left = number l; direction = Downto; right = number r }

abbrev pub to : ℕ → ℕ → Range
to l r = record { left = number l; direction = To; right = number r }

-- a name of a port, and of a signal, that is read
abbrev pub port : ℕ → Part → SignalPart
port k part = record { at = 34; signal = e.port k; part = part }

abbrev pub signal : ℕ → Part → SignalPart
signal k part = record { at = 34; signal = e.Signal.signal k; part = part }

-- the same name at this byte
abbrev pub from : (at : ℕ) → SignalPart → SignalPart
from at p = record p { at = at }

abbrev pub at : Static → Part
at = e.Part.element

-- ---- values and statements

abbrev pub read : SignalPart → Value
read p = e.elements (e.of_signal p)

abbrev pub literal : List Nine → Value
literal vs = e.elements (e.Vector.literal 31 vs)

abbrev pub assigned : SignalPart → Value → s.Statement
assigned p v = s.assign (from 30 p) (s.single v)

abbrev pub sequence : List s.Statement → s.Statements
sequence [] = s.done
sequence (x ∷ xs) = s.step x (sequence xs)

abbrev pub process : u.Sensitivity → List s.Statement → Concurrent
process on body =
    u.process (record { at = 50; label = None; declarations = []; sensitivity = on; body = sequence body })

-- target <= value;
abbrev pub assignment : SignalPart → Value → Concurrent
assignment p v =
    u.process
    (record { at = 30; label = None; declarations = []; sensitivity = u.as_read; body = s.step (assigned p v) s.done })

-- an instance u of the unit of this number, with these actuals
abbrev pub instance : ℕ → List (Option SignalPart) → Concurrent
instance unit ports = u.instance (record { at = 40; label = codes "u"; unit = unit; generics = []; ports = ports })

abbrev pub together : List Concurrent → Concurrents
together [] = u.no_concurrents
together (c ∷ cs) = u.concurrent c (together cs)

-- ---- declarations and entities

abbrev pub object : (at : ℕ) → List ℕ → Form → Option Fixed → u.Object
object at name form default = record { at = at; name = name; form = form; is_resolved = true; default = default }

abbrev pub input : (at : ℕ) → List ℕ → Form → u.Port
input at name form = record { mode = In; object = object at name form None }

-- a generic of integers
abbrev pub integer_generic : (at : ℕ) → List ℕ → IntegerType → Option Static → u.Generic
integer_generic at name type default = record {
  at = at;
  name = name;
  type = u.integers (record { base = u.of_type type; range = None });
  default = option_map u.Fixed.integer default;
}

abbrev pub output : (at : ℕ) → List ℕ → Form → u.Port
output at name form = record { mode = Out; object = object at name form None }

abbrev pub declared : (at : ℕ) → List ℕ → Form → u.Declaration
declared at name form = u.signal (object at name form None)

-- an entity without generics, and its architecture
abbrev pub entity : List ℕ → List u.Port → List u.Declaration → List Concurrent → Entity
entity name ports declarations statements = record {
  at = 1;
  name = name;
  generics = [];
  ports = ports;
  architecture = Some (record { declarations = declarations; statements = together statements });
}

-- ---- what is shown of a netlist

-- under a top of this name, none of whose generics is set, and under one with one that is
abbrev pub elaborated : Units → (top : List ℕ) → Elab Elaborated
elaborated units top = elaborated_net units (plain top)

abbrev pub elaborated_with : Units → (top : List ℕ) → (generic : List ℕ) → ℤ → Elab Elaborated
elaborated_with units top generic x =
    elaborated_net units (record { name = top; generics = record { name = generic; value = x } ∷ [] })

-- the numbers, starts, inputs and sources of nets, and names
pub record Shown : Type 0 where
  pub starts : List ℕ
  pub inputs : List ℕ
  pub idle : List (List ℕ)
  pub nets : List (List ℕ)
  pub processes : List (List ℕ)

abbrev pub shown : Elab Elaborated → Elab Shown
shown elaboration = do
  x ← elaboration
  Ok (record {
    starts = x.flat.start;
    inputs = x.flat.inputs;
    idle = x.flat.idle;
    nets = x.net_names;
    processes = x.process_names;
  })

-- a fact of a design that is elaborated, which is false of one that isn't
abbrev pub Of : Elab Elaborated → (Elaborated → Type 0) → Type 0
Of (Ok x) fact = fact x
Of (Err told) fact = ⊥
