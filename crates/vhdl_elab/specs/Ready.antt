-- Trees whose processes have their drivers in order and assign what they drive, and whose generates' labels are joined
-- by dots.
use Rattle.std.specs.Prelude.{⊤, Contains}
use Rattle.vhdl_expand_rules.specs.Tree.{Process, Instance, instance, Parts, no_parts, process, inner}
use Rattle.vhdl_expand_rules.specs.laws.Trees.{Assigns}
use Rattle.vhdl_connect_processes.specs.Connected.{IsRising}
use Rattle.vhdl_connect_processes.specs.Located.{IsDotted}

pub record ProcessIsReady (p : Process) : Type 0 where
  pub rising : IsRising p.drives
  pub driven : Assigns (Contains p.drives) p.body
  pub dotted : IsDotted p.prefix

-- each process, however deep
abbrev mutual
  pub InstanceIsReady : Instance → Type 0
  InstanceIsReady (instance os turns parts) = PartsAreReady parts

  pub PartsAreReady : Parts → Type 0
  PartsAreReady no_parts = ⊤
  PartsAreReady (process p rest) = ProcessIsReady p × PartsAreReady rest
  PartsAreReady (inner label i rest) = InstanceIsReady i × PartsAreReady rest
