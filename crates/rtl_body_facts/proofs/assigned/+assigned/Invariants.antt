use Rattle.std.proofs.Common.{◌≡◌, drop}
use Rattle.std.specs.List.{list_any, list_all}
use Rattle.rtl_body_facts.specs.Looks.{statement_assigned, branch_assigns, alternative_assigns}
use Rattle.rtl_body_facts.proofs.assigned.+assigned.Given as goal

abbrev pub invariant-all_assign-loop-statement : goal.invariant-all_assign-loop-statement
invariant-all_assign-loop-statement l = list_any (statement_assigned l.element) (drop l.statement-index l.statements) ≡ list_any (statement_assigned l.element) l.statements

abbrev pub invariant-all_branches_assign-loop-branch : goal.invariant-all_branches_assign-loop-branch
invariant-all_branches_assign-loop-branch l = list_all (branch_assigns l.element) (drop l.branch-index l.branches) ≡ list_all (branch_assigns l.element) l.branches

abbrev pub invariant-all_alternatives_assign-loop-alternative : goal.invariant-all_alternatives_assign-loop-alternative
invariant-all_alternatives_assign-loop-alternative l =
    list_all (alternative_assigns l.element) (drop l.alternative-index l.alternatives) ≡ list_all (alternative_assigns l.element) l.alternatives
