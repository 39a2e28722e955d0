use Rattle.std.proofs.Common.{◌≤◌, take, drop}
use Rattle.rtl_model.specs.bodies.Body.{Stmts, Branches}
use Rattle.rtl_model.specs.bodies.Looks.{body_looks, branches_look, alternatives_look}
use Rattle.rtl_net.specs.Bodies.{statements_of, branches_of, alternatives_of}
use Rattle.rtl_looks.specs.Walks.{Walked}
use Rattle.rtl_looks.specs.Rests.{PartsWalked}
use Rattle.rtl_looks.proofs.statements.+walking.Given as goal

abbrev pub invariant-walk_statements-loop-statement : goal.invariant-walk_statements-loop-statement
invariant-walk_statements-loop-statement l =
    Walked (λ sights so_far. body_looks sights so_far (statements_of (take l.statement-index l.statements))) l.round
    l.initial.hubs.hubs.items l.hubs.hubs.items l.initial.env l.env l.initial.changes l.changes

abbrev pub invariant-walk_branches-loop-branch : goal.invariant-walk_branches-loop-branch
invariant-walk_branches-loop-branch l = record {
  parts : (last : Branches) → PartsWalked (λ sights so_far. branches_look sights so_far (branches_of last (drop l.branch-index l.branches)))
      (λ sights so_far. branches_look sights so_far (branches_of last l.branches)) l.initial.round l.round
      l.initial.hubs.hubs.items l.hubs.hubs.items l.initial.env l.env l.initial.ends l.ends;
  few : l.ends.parts ≤ l.branch-index;
}

abbrev pub invariant-walk_alternatives-loop-alternative : goal.invariant-walk_alternatives-loop-alternative
invariant-walk_alternatives-loop-alternative l = record {
  parts : (last : Stmts) → PartsWalked (λ sights so_far. alternatives_look sights so_far (alternatives_of last (drop l.alternative-index l.alternatives)))
      (λ sights so_far. alternatives_look sights so_far (alternatives_of last l.alternatives)) l.round l.round
      l.initial.hubs.hubs.items l.hubs.hubs.items l.initial.env l.env l.initial.ends l.ends;
  few : l.ends.parts ≤ l.alternative-index;
}
