-- The parts of an instance and the turns of its generates, as they are made together, one concurrent statement
-- after another.
use Rattle.std.specs.Prelude.{ℕ, ◌+◌, ◌≤◌, List, ◌++◌, Ok}
use Rattle.vhdl_names_rules.specs.units.Units as u
use Rattle.vhdl_names_rules.specs.units.Units.{Units}
use Rattle.vhdl_expand_rules.specs.Elab.{Elab, ◌>>=◌}
use Rattle.vhdl_expand_rules.specs.Tree as t
use Rattle.vhdl_expand_rules.specs.Tree.{Process, Instance, Parts, no_parts, followed_by}
use Rattle.vhdl_expand_rules.specs.Expansion as definition
use Rattle.vhdl_expand_rules.specs.Expansion.{Spot, instance_of}
use Rattle.vhdl_elab_rules.specs.Limits.{Counts}
use Rattle.vhdl_expand_tree.specs.Costs.{plus, turns, parts_costs, charged}
use Rattle.vhdl_expand_tree.specs.Views.{parts_of, budget_view}
use Rattle.vhdl_expand.specs.declared.progress.TreeProgress as code

-- parts, and how many turns generates have
pub record Made : Type 0 where
  pub parts : Parts
  pub turns : ℕ

-- what is made so far, and what may still be made
pub record Progress : Type 0 where
  pub made : Made
  pub left : Counts

abbrev pub and_then : Made → Made → Made
and_then x y = record { parts = followed_by x.parts y.parts; turns = x.turns + y.turns }

-- turns alone, a process, and an instance of this label
abbrev pub made_turns : ℕ → Made
made_turns n = record { parts = no_parts; turns = n }

abbrev pub made_process : Process → Made
made_process p = record { parts = t.process p no_parts; turns = 0 }

abbrev pub made_instance : List ℕ → Instance → Made
made_instance label i = record { parts = t.inner label i no_parts; turns = 0 }

abbrev pub made_costs : Made → Counts
made_costs m = plus (turns m.turns) (parts_costs m.parts)

-- what is given, behind what is made so far
abbrev pub adding : Progress → Elab Made → Elab Progress
adding so_far more = do
  x ← charged so_far.left made_costs more
  Ok (record { made = and_then so_far.made x.0; left = x.1 })

abbrev pub together : (parts : Elab Parts) → (turned : Elab ℕ) → Elab Made
together parts turned = do
  ps ← parts
  n ← turned
  Ok (record { parts = ps; turns = n })

-- Of statements in the units, where so many instances may be nested from here on.
module _ (units : Units) (levels : ℕ) where
  abbrev pub process : Spot → u.Process → Elab Made
  process here p = do
    q ← definition.process here p
    Ok (made_process q)

  abbrev pub instance : Spot → u.Instance → Elab Made
  instance here x = do
    i ← definition.instance units (instance_of units levels) here x
    Ok (made_instance (here.prefix ++ x.label) i)

  abbrev pub concurrent : Spot → u.Concurrent → Elab Made
  concurrent here x =
      together (definition.concurrent units (instance_of units levels) here x) (definition.concurrent_turns here x)

  abbrev pub concurrents : Spot → u.Concurrents → Elab Made
  concurrents here xs =
      together (definition.concurrents units (instance_of units levels) here xs) (definition.concurrents_turns here xs)

abbrev pub nothing_yet : Counts → Progress
nothing_yet left = record { made = record { parts = no_parts; turns = 0 }; left = left }

abbrev pub progress_view : code.TreeProgress → Progress
progress_view p =
    record { made = record { parts = parts_of p.parts.items; turns = p.turns }; left = budget_view p.left }

-- the turns that it has, and those that may still be made, fit a word together
abbrev pub TurnsFit : code.TreeProgress → Type 0
TurnsFit p = p.turns + p.left.turns ≤ 4294967295
