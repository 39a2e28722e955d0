use Rattle.std.proofs.Common.{◌≡◌, ◌+◌, ◌≤◌, drop, length}
use Rattle.vhdl_expand_rules.specs.Tree.{no_parts}
use Rattle.vhdl_elab_rules.specs.Numbering.{Numbered, Placed}
use Rattle.vhdl_expand_tree.specs.Views.{instance_view, part_before, parts_of}
use Rattle.vhdl_elab.specs.Made.{IsMade}
use Rattle.vhdl_elab.specs.Ready.{PartsAreReady}
use Rattle.vhdl_elab.specs.Walking.{parts_nets, IsIn}
use Rattle.vhdl_elab.proofs.Walking.{SoFar, weight, weights}
use Rattle.vhdl_elab.proofs.walk.+instance.Given as goal

-- the parts that are left are as light and as ready as they were, have nets as many as they had, and what is made so far is of those before them
abbrev pub invariant-parts-loop-i : goal.invariant-parts-loop-i
invariant-parts-loop-i l = record {
  lighter : weights (parts_of (drop l.i l.list)) ≤ weights (parts_of l.fn.list);
  nets : length l.made.kinds.items + parts_nets (parts_of (drop l.i l.list)) ≡ length l.fn.made.kinds.items + parts_nets (parts_of l.fn.list);
  ready : PartsAreReady (parts_of (drop l.i l.list));
  so_far : (d : Numbered) (p : Placed) → IsIn p l.round → IsMade d l.fn.made → SoFar l.round.scope p (parts_of l.fn.list) (parts_of (drop l.i l.list)) d l.made;
}

abbrev pub decreases-instance : goal.decreases-instance
decreases-instance l = weight (instance_view l.from.now)

abbrev pub decreases-parts : goal.decreases-parts
decreases-parts l = 1 + weights (parts_of l.list.now)

abbrev pub decreases-part : goal.decreases-part
decreases-part l = weights (part_before no_parts l.from.now)
