use Rattle.std.proofs.Common.{take}
use Rattle.std.specs.List.{list_any, list_all}
use Rattle.rtl_net.specs.Bodies.{statements_of}
use Rattle.rtl_model.specs.bodies.Assigns.{is_element, must_assign}
use Rattle.rtl_model.specs.bodies.Stored.{stores_element}
use Rattle.rtl_body_facts.specs.Looks.{branch_assigns, alternative_assigns, branch_stores, alternative_stores}
use Rattle.rtl_stored.specs.Walks.{Reads, Walked, Narrows}
use Rattle.rtl_stored.proofs.walk.+walking.Given as goal

abbrev pub invariant-walk_statements-loop-statement : goal.invariant-walk_statements-loop-statement
invariant-walk_statements-loop-statement l =
    Walked (λ e. stores_element e (statements_of (take l.statement-index l.statements))) (λ e. must_assign (is_element e) (statements_of (take l.statement-index l.statements)))
    l.initial.marks.marks.items l.marks.marks.items l.initial.added.items l.added.items

abbrev pub invariant-walk_branches-loop-branch : goal.invariant-walk_branches-loop-branch
invariant-walk_branches-loop-branch l = record {
  reads : Reads (λ e. list_any (branch_stores e) (take l.branch-index l.branches)) l.initial.marks.marks.items l.marks.marks.items;
  narrows : Narrows (λ e. list_all (branch_assigns e) (take l.branch-index l.branches)) l.initial.marks.marks.items l.initial.common.items l.common.items;
}

abbrev pub invariant-walk_alternatives-loop-alternative : goal.invariant-walk_alternatives-loop-alternative
invariant-walk_alternatives-loop-alternative l = record {
  reads : Reads (λ e. list_any (alternative_stores e) (take l.alternative-index l.alternatives)) l.initial.marks.marks.items l.marks.marks.items;
  narrows : Narrows (λ e. list_all (alternative_assigns e) (take l.alternative-index l.alternatives)) l.initial.marks.marks.items l.initial.common.items l.common.items;
}
