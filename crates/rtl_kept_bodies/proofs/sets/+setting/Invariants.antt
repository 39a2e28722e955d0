use Rattle.std.proofs.Common.{take}
use Rattle.std.specs.List.{list_any}
use Rattle.rtl_net.specs.Bodies.{statements_of}
use Rattle.rtl_model.specs.bodies.Assigns.{is_element, stmts_assign}
use Rattle.rtl_kept_bodies.specs.Steps.{Marked, branch_sets, alternative_sets}
use Rattle.rtl_kept_bodies.proofs.sets.+setting.Given as goal

abbrev pub invariant-mark_all_set-loop-statement : goal.invariant-mark_all_set-loop-statement
invariant-mark_all_set-loop-statement l = Marked (λ e. stmts_assign (is_element e) (statements_of (take l.statement-index l.statements))) l.initial.marks l.marks

abbrev pub invariant-mark_branches-loop-branch : goal.invariant-mark_branches-loop-branch
invariant-mark_branches-loop-branch l = Marked (λ e. list_any (branch_sets e) (take l.branch-index l.branches)) l.initial.marks l.marks

abbrev pub invariant-mark_alternatives-loop-alternative : goal.invariant-mark_alternatives-loop-alternative
invariant-mark_alternatives-loop-alternative l = Marked (λ e. list_any (alternative_sets e) (take l.alternative-index l.alternatives)) l.initial.marks l.marks
