-- Edges of signals among the conditions that `and` joins (IEEE 1076-2008, 9.2.2, 10.2, 16.2.4).
use Rattle.std.specs.Prelude.{◌==◌, ◌&&◌, ◌||◌, not, Bool, true, false, List, [], ◌∷◌, ◌++◌, Option, Some, None, option_map}
use Rattle.std.specs.List.{list_any}
use Rattle.std.specs.Option.{option_or}
use Rattle.vhdl_values.specs.declared.scalar.Nine.{Nine}
use Rattle.vhdl_values.specs.declared.scalar.Nine.TheVariants.{Zero, One}
use Rattle.vhdl_values.specs.declared.kinds.Logic.TheVariants.{And}
use Rattle.vhdl_values.specs.declared.kinds.Edge.{Edge as EdgeKind}
use Rattle.vhdl_values.specs.declared.kinds.Edge.TheVariants.{Falling, Rising, To0, To1}
use Rattle.vhdl_names_rules.specs.declared.operator.Arithmetic.{Arithmetic}
use Rattle.vhdl_names_rules.specs.declared.operator.Arithmetic.TheVariants as arithmetic
use Rattle.vhdl_names_rules.specs.declared.operator.Bound.{Bound}
use Rattle.vhdl_names_rules.specs.declared.operator.Bound.TheVariants as bound
use Rattle.vhdl_names_rules.specs.units.Expressions as u
use Rattle.vhdl_names_rules.specs.units.Expressions.{Static, Part, Signal, SignalPart, Test}
use Rattle.vhdl_names_rules.specs.units.Statements as s
use Rattle.vhdl_names_rules.specs.Rules.{◌>>=◌, then_some}
use Rattle.vhdl_names_rules.specs.Operators.{both}
use Rattle.vhdl_names_rules.specs.Names.{is_static_part}

-- ---- the conditions that `and` joins

-- in order of the text, parentheses aside
abbrev pub conditions : Test → List Test
conditions (u.Test.both And t r) = conditions t ++ conditions r
conditions t = t ∷ []

-- one and those behind it, joined
abbrev pub joined : Test → List Test → Test
joined t [] = t
joined t (r ∷ rs) = joined (both And t r) rs

-- an event is looked for somewhere in it
abbrev pub looks_for_event : Test → Bool
looks_for_event (u.edge kind p) = true
looks_for_event (u.event p) = true
looks_for_event (u.Test.negated t) = looks_for_event t
looks_for_event (u.Test.both op t r) = looks_for_event t || looks_for_event r
looks_for_event _ = false

-- ---- edges

-- of a signal, whose name starts where `place` says
pub record Edge : Type 0 where
  pub kind : EdgeKind
  pub place : SignalPart

abbrev pub edge : EdgeKind → SignalPart → Edge
edge kind place = record { kind = kind; place = place }

-- the edge that `s = '1'` or `s = '0'` makes beside an event of s (16.2.4)
abbrev pub edge_to : Nine → Option EdgeKind
edge_to One = Some To1
edge_to Zero = Some To0
edge_to _ = None

abbrev pub level : Test → Option Edge
level (u.alike at (u.Value.elements (u.of_signal p)) (u.Value.elements (u.character v))) =
    option_map (λ kind. edge kind p) (edge_to v)
level _ = None

-- ---- the same signal: whole, or one element of it, by an index of the same text

abbrev pub same_signal : Signal → Signal → Bool
same_signal (u.port j) (u.port k) = j == k
same_signal (u.Signal.signal j) (u.Signal.signal k) = j == k
same_signal _ _ = false

abbrev pub same_operator : Arithmetic → Arithmetic → Bool
same_operator arithmetic.Add arithmetic.Add = true
same_operator arithmetic.Subtract arithmetic.Subtract = true
same_operator arithmetic.Multiply arithmetic.Multiply = true
same_operator arithmetic.Divide arithmetic.Divide = true
same_operator arithmetic.Modulo arithmetic.Modulo = true
same_operator arithmetic.Remainder arithmetic.Remainder = true
same_operator arithmetic.Power arithmetic.Power = true
same_operator _ _ = false

abbrev pub same_bound : Bound → Bound → Bool
same_bound bound.Left bound.Left = true
same_bound bound.Right bound.Right = true
same_bound bound.High bound.High = true
same_bound bound.Low bound.Low = true
same_bound bound.Length bound.Length = true
same_bound _ _ = false

-- no loop stands round a process; bounds of slices are not looked into
abbrev pub same_index : Static → Static → Bool
same_index (u.number j) (u.number k) = j == k
same_index (u.generic j) (u.generic k) = j == k
same_index (u.Static.constant j) (u.Static.constant k) = j == k
same_index (u.generate_parameter j) (u.generate_parameter k) = j == k
same_index (u.Static.negated at x) (u.Static.negated other y) = same_index x y
same_index (u.absolute at x) (u.absolute other y) = same_index x y
same_index (u.bound b j) (u.bound c k) = same_bound b c && j == k
same_index (u.Static.binary at op x y) (u.Static.binary other by v w) =
    same_operator op by && (same_index x v && same_index y w)
same_index _ _ = false

abbrev pub same_part : Part → Part → Bool
same_part u.whole u.whole = true
same_part (u.Part.element x) (u.Part.element y) = same_index x y
same_part _ _ = false

abbrev pub same_place : SignalPart → SignalPart → Bool
same_place p q = same_signal p.signal q.signal && same_part p.part q.part

abbrev pub same_kind : EdgeKind → EdgeKind → Bool
same_kind Rising Rising = true
same_kind Falling Falling = true
same_kind To1 To1 = true
same_kind To0 To0 = true
same_kind _ _ = false

abbrev pub same_edge : Edge → Edge → Bool
same_edge e f = same_kind e.kind f.kind && same_place e.place f.place

-- ---- an edge among conditions

-- what is found in the first of some conditions in which it is, and the others
abbrev pub taken : {A : Type 0} → (found : Test → Option A) → List Test → Option (A × List Test)
taken found [] = None
taken found (t ∷ ts) =
    option_or (option_map (λ a. (a, ts)) (found t)) (option_map (λ r. (r.0, t ∷ r.1)) (taken found ts))

-- with what an edge begins: rising_edge(s), falling_edge(s), or s'event
abbrev pub start_of : Test → Option Test
start_of (u.edge kind p) = Some (u.edge kind p)
start_of (u.event p) = Some (u.event p)
start_of _ = None

-- the edge to a level of this signal
abbrev pub level_of : SignalPart → Test → Option Edge
level_of p t = level t >>= λ e. then_some (same_place p e.place) (edge e.kind p)

-- the edge that begins so, and what stands beside it: a call is one, and s'event with the first level of s
abbrev pub begun : Test → List Test → Option (Edge × List Test)
begun (u.edge kind p) others = Some (edge kind p, others)
begun (u.event p) others = taken (level_of p) others
begun _ others = None

-- an edge among conditions, and those beside it, none of which looks for an event
abbrev pub gated : List Test → Option (Edge × List Test)
gated ts = do
  first ← taken start_of ts
  found ← begun first.0 first.1
  then_some (not (list_any looks_for_event found.1)) found

abbrev pub with_none : Edge × List Test → Option Edge
with_none (e, []) = Some e
with_none (e, t ∷ ts) = None

-- the edge that is all of a condition
abbrev pub edge_alone : Test → Option Edge
edge_alone t = gated (conditions t) >>= with_none

-- ---- what is done at an edge

abbrev pub at_edge : Edge → s.Statements → s.Branches
at_edge e xs = s.branch (u.edge e.kind e.place) xs s.no_else

-- ---- what a wait waits for (10.2)

-- `wait until` wants an event of what its condition reads, so that a level is an edge there. Its place is static, as no
-- loop stands round the head of a process.
abbrev pub waited_level : Test → Option Edge
waited_level t = level t >>= λ e. then_some (is_static_part e.place.part) e

-- the edge that is all of the condition of a wait
abbrev pub waited_edge : Test → Option Edge
waited_edge t = option_or (edge_alone t) (waited_level t)
