use Rattle.std.proofs.Common.{List, ◌++◌, map, sym, ap, ◌∙◌}
use Rattle.std.proofs.lemmas.List.{append-nil}
use Rattle.vhdl_names_rules.specs.Choices.{always}
use Rattle.vhdl_names_trees.specs.views.Tests.{test_view}
use Rattle.vhdl_names_units.specs.declared.sequential.Alternative.{Alternative}
use Rattle.vhdl_names_units.specs.declared.sequential.Branch.{Branch}
use Rattle.vhdl_names_units.specs.views.Sequential.{alternative_view, branch_view, branches_view, guarded_by, statements_view}
use Rattle.vhdl_names_statements.specs.steps.Deciding.{branches_by}
use Rattle.vhdl_names_statements.proofs.steps.Deciding.{no_items, one_more}
use Rattle.vhdl_names_statements.proofs.selecting.branches_by.Goals as goal

pub loop-alternative-preserved : goal.loop-alternative-preserved
loop-alternative-preserved c =
    let l = c.loop-alternative in
    let at = c.args.at in
    let t = test_view l.condition in
    let left = map alternative_view c.next.new.self.rest.items in
    let rest = branches_by at (always at) left in
    l.invariant
    ∙ (ap (λ (xs : List Alternative). branches_view l.branches ++ branches_by at t (map alternative_view xs)) c.in-Some.ensures.steps.0
    ∙ (one_more l.branches.items c.new-branch.result (guarded_by t (statements_view c.in-Some.alternative.statements)) rest (c.new-branch.ensures ∙ ap (λ ss. guarded_by t (statements_view ss)) c.into_statements.ensures)
    ∙ (sym (ap (λ (xs : List Branch). map branch_view xs ++ rest) c.in_ok-push.ensures.items)
    ∙ ap (λ u. branches_view c.push.new.self ++ branches_by at u left) (sym c.always-condition.ensures))))

pub returns : goal.returns
returns c =
    let l = c.loop-alternative in
    let left = l.alternative-iterator.rest in
    sym (l.invariant
    ∙ (ap (λ (xs : List Alternative). branches_view l.branches ++ branches_by c.args.at (test_view l.condition) (map alternative_view xs)) (no_items left.items (sym left.ok.0 ∙ c.in-None.ensures.steps.0))
    ∙ append-nil (branches_view l.branches)))
