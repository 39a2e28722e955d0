-- The tree of a sound design, in which labels of generates are joined by dots, is as the walk takes it.
use Rattle.std.proofs.Common.{List}
use Rattle.vhdl_expand_rules.specs.Tree.{Object, Instance, instance, Parts, no_parts, process, inner}
use Rattle.vhdl_expand_rules.specs.Expansion.{Design}
use Rattle.vhdl_expand_rules.specs.laws.Trees.{DesignIsSound, InstanceIsSound, PartsAreSound}
use Rattle.vhdl_elab_rules.specs.Prefixes.{InstanceIsDotted, PartsAreDotted}
use Rattle.vhdl_expand_processes.proofs.Rising.{rising}
use Rattle.vhdl_elab.specs.Ready.{InstanceIsReady, PartsAreReady}

mutual
  instance-ready : (i : Instance) (above : List Object) → InstanceIsSound above i → InstanceIsDotted i → InstanceIsReady i
  instance-ready (instance os turns parts) above sound dotted = parts-ready parts os sound.1 dotted

  parts-ready : (ps : Parts) (os : List Object) → PartsAreSound os ps → PartsAreDotted ps → PartsAreReady ps
  parts-ready no_parts os sound dotted = tt
  parts-ready (process p rest) os sound dotted =
      (record { rising = rising p.drives sound.0.drives_rise; driven = sound.0.assigned; dotted = record { labels = dotted.0.0; is = dotted.0.1 } }, parts-ready rest os sound.1 dotted.1)
  parts-ready (inner label i rest) os sound dotted = (instance-ready i os sound.0 dotted.0, parts-ready rest os sound.1 dotted.1)

pub is-ready : (design : Design) → DesignIsSound design → InstanceIsDotted design.top → InstanceIsReady design.top
is-ready design sound dotted = instance-ready design.top _ sound.top dotted
