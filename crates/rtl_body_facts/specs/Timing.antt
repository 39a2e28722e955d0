-- What the code keeps of clocked bodies, their edge tests and their resets.
use Rattle.std.specs.Prelude.{ℕ, Bool, true, ◌==◌, ◌||◌, if◌then◌else◌, List, [], ◌∷◌, Option, Some, None, option_map}
use Rattle.rtl_model.specs.basics.Lists.{is_empty}
use Rattle.rtl_model.specs.bodies.Body as bodies
use Rattle.rtl_model.specs.bodies.Reads.{reads, events}
use Rattle.rtl_model.specs.bodies.Kinds as k
use Rattle.rtl_body_facts.specs.declared.kinds.EdgeTest.{EdgeTest}
use Rattle.rtl_body_facts.specs.declared.kinds.Clocking.{Clocking}
use Rattle.rtl_body_facts.specs.declared.kinds.ProcessKind.{ProcessKind}
use Rattle.rtl_body_facts.specs.declared.kinds.ProcessKind.TheVariants.{Combinational, Clocked, Mixed}
use Rattle.rtl_body_facts.specs.declared.kinds.Atom.{Atom}
use Rattle.rtl_body_facts.specs.declared.kinds.Atom.TheVariants as a
use Rattle.rtl_body_facts.specs.Reading.{is_in}

abbrev pub edge_test_view : k.EdgeTest → EdgeTest
edge_test_view t = record { clock = t.clock; edge = t.edge }

-- ---- tests

abbrev pub atom_of : bodies.Test → Atom
atom_of (bodies.rising net) = a.Rising net
atom_of (bodies.falling net) = a.Falling net
atom_of (bodies.event net) = a.Event net
atom_of (bodies.level plain net v) = a.Level plain net v
atom_of _ = a.Other

-- the edge that the two sides of `and` test
abbrev pub edge_pair : Atom → Atom → Option EdgeTest
edge_pair (a.Event net) (a.Level true other v) =
    option_map edge_test_view (k.edge_of_net (net == other) net (k.edge_to v))
edge_pair (a.Level true other v) (a.Event net) =
    option_map edge_test_view (k.edge_of_net (net == other) net (k.edge_to v))
edge_pair _ _ = None

abbrev pub reset_net : k.ResetTest → ℕ
reset_net r = r.net

-- the net of a reset test
abbrev pub atom_reset : (wide : Bool) → (inputs : List ℕ) → Atom → Option ℕ
atom_reset wide inputs (a.Level plain net v) =
    option_map reset_net (k.reset_of_level (wide || is_in net inputs) net v (k.edge_to v))
atom_reset wide inputs _ = None

-- ---- bodies

abbrev pub part_net : k.ResetPart → ℕ
part_net r = r.test.net

abbrev pub clocking_view : k.Clocking → Clocking
clocking_view c = record {
  clock = c.test.clock;
  edge = c.test.edge;
  reset = option_map part_net c.reset;
  reads_clock = is_in c.test.clock (reads c.branch);
}

-- what a branch under an edge test, if it is one, makes of a process with this reset
abbrev pub clocked_branch : Option k.EdgeTest → bodies.Stmts → (reset : Option ℕ) → Option Clocking
clocked_branch None branch reset = None
clocked_branch (Some t) branch reset =
    if is_empty (events branch)
    then Some (record { clock = t.clock; edge = t.edge; reset = reset; reads_clock = is_in t.clock (reads branch) })
    else None

-- clocked; else combinational, where no edge test and no `'event` stands in the body; else mixed
abbrev pub kind_view : Option k.Clocking → (events : List ℕ) → ProcessKind
kind_view (Some c) ns = Clocked (clocking_view c)
kind_view None [] = Combinational
kind_view None (n ∷ ns) = Mixed
