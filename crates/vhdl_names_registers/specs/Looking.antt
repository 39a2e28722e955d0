-- What is known of the conditions that `and` joins, and the edge among them.
use Rattle.std.specs.Prelude.{Bool, true, false, not, if◌then◌else◌, List, [], ◌∷◌, Option, Some, None, option_map}
use Rattle.std.specs.Option.{option_or}
use denote.Ref.{Bor}
use Rattle.vhdl_values.specs.declared.scalar.Nine.{Nine}
use Rattle.vhdl_values.specs.declared.kinds.Logic.{Logic}
use Rattle.vhdl_values.specs.declared.kinds.Logic.TheVariants.{And}
use Rattle.vhdl_values.specs.declared.kinds.Edge.{Edge as EdgeKind}
use Rattle.vhdl_names_trees.specs.declared.vector.SignalPart.{SignalPart as CodePart}
use Rattle.vhdl_names_rules.specs.units.Expressions as u
use Rattle.vhdl_names_rules.specs.units.Expressions.{SignalPart, Vector, Value, Test}
use Rattle.vhdl_names_trees.specs.views.Vectors.{place_view}
use Rattle.vhdl_names_rules.specs.Edges.{Edge, edge, conditions, gated, level_of}
use Rattle.vhdl_names_registers.specs.declared.seen.NamedEdge.{NamedEdge}
use Rattle.vhdl_names_registers.specs.declared.seen.Start.{Start}
use Rattle.vhdl_names_registers.specs.declared.seen.Start.TheVariants.{Call, Event}
use Rattle.vhdl_names_registers.specs.declared.seen.Many.{Many}
use Rattle.vhdl_names_registers.specs.declared.seen.Many.TheVariants as m
use Rattle.vhdl_names_registers.specs.declared.seen.Seen.{Seen}
use Rattle.vhdl_names_registers.specs.declared.gates.Gate.{Gate}

-- ---- of the code

abbrev pub named_view : Bor CodePart → SignalPart
named_view p = place_view p.now

abbrev pub edge_named : NamedEdge → Edge
edge_named e = edge e.kind (named_view e.place)

abbrev pub start_view : Start → Test
start_view (Call e) = u.edge e.kind (named_view e.place)
start_view (Event p) = u.event (named_view p)

-- ---- what is known

pub record SeenView : Type 0 where
  pub conditions : Many
  pub events : Many
  pub start : Option Test
  pub level : Option EdgeKind

abbrev pub seen_view : Seen → SeenView
seen_view s = record {
  conditions = s.conditions;
  events = s.events;
  start = option_map start_view s.start;
  level = s.level;
}

abbrev pub is_and : Logic → Bool
is_and And = true
is_and _ = false

abbrev pub together : Many → Many → Many
together m.None b = b
together a m.None = a
together m.One m.One = m.Two
together _ _ = m.More

abbrev pub one_of : Many → Many
one_of m.None = m.None
one_of _ = m.One

abbrev pub closed : Many → SeenView
closed events = record { conditions = m.One; events = one_of events; start = None; level = None }

abbrev pub started : Test → SeenView
started t = record { conditions = m.One; events = m.One; start = Some t; level = None }

abbrev pub levelled : Option EdgeKind → SeenView
levelled level = record { conditions = m.One; events = m.None; start = None; level = level }

abbrev pub joined_by : Logic → SeenView → SeenView → SeenView
joined_by op a b =
    if is_and op
    then record {
      conditions = together a.conditions b.conditions;
      events = together a.events b.events;
      start = option_or a.start b.start;
      level = option_or a.level b.level;
    }
    else closed (together a.events b.events)

-- ---- a level

abbrev pub signal_of : Vector → Option SignalPart
signal_of (u.of_signal p) = Some p
signal_of _ = None

abbrev pub character_of : Vector → Option Nine
character_of (u.Vector.character v) = Some v
character_of _ = None

abbrev pub signal_in : Value → Option SignalPart
signal_in (u.Value.elements x) = signal_of x
signal_in _ = None

abbrev pub character_in : Value → Option Nine
character_in (u.Value.elements x) = character_of x
character_in _ = None

-- of the signal in question, if there is one
abbrev pub level_kind : Option SignalPart → Test → Option EdgeKind
level_kind None t = None
level_kind (Some p) t = option_map (λ (e : Edge). e.kind) (level_of p t)

-- ---- of a whole test

abbrev pub seen : Option SignalPart → Test → SeenView
seen p (u.edge kind q) = started (u.edge kind q)
seen p (u.event q) = started (u.event q)
seen p (u.Test.negated t) = closed (seen p t).events
seen p (u.Test.both op t r) = joined_by op (seen p t) (seen p r)
seen p t = levelled (level_kind p t)

-- ---- an edge, and whether it is all of the conditions

pub record GateView : Type 0 where
  pub edge : Edge
  pub is_alone : Bool

abbrev pub gate_view : Gate → GateView
gate_view g = record { edge = edge_named g.edge; is_alone = g.is_alone }

abbrev pub none_beside : List Test → Bool
none_beside [] = true
none_beside (t ∷ ts) = false

abbrev pub gate_among : Edge × List Test → GateView
gate_among g = record { edge = g.0; is_alone = none_beside g.1 }

abbrev pub is_one : Many → Bool
is_one m.One = true
is_one _ = false

abbrev pub is_two : Many → Bool
is_two m.Two = true
is_two _ = false

abbrev pub begun : Test → SeenView → Test → Option GateView
begun t all (u.edge kind p) = Some (record { edge = edge kind p; is_alone = is_one all.conditions })
begun t all (u.event p) =
    option_map (λ kind. record { edge = edge kind p; is_alone = is_two all.conditions }) (seen (Some p) t).level
begun t all _ = None

-- an edge, and others beside it
abbrev pub has_beside : Option (Edge × List Test) → Bool
has_beside None = false
has_beside (Some g) = not (none_beside g.1)

abbrev pub is_gated : Test → Bool
is_gated t = has_beside (gated (conditions t))
