use Rattle.std.proofs.Common.{List, [], ◌∷◌, ◌++◌, map, ap, ◌∙◌}
use Rattle.vhdl_names_rules.specs.units.Statements as s
use Rattle.vhdl_names_units.specs.declared.sequential.Branch.{Branch}
use Rattle.vhdl_names_units.specs.views.Sequential.{Guarded, branch_view, branches_of, body_view, statements_of}
use Rattle.vhdl_names_statements.proofs.selecting.either.Goals as goal

pub returns : goal.returns
returns c =
    let last = s.otherwise (body_view c.args.otherwise) in
    c.conditional.ensures
    ∙ (ap (λ (xs : List Branch). s.if_of c.args.at (branches_of (map branch_view xs) last)) c.in_ok-push.ensures.items
    ∙ (ap (λ (xs : List Branch). s.if_of c.args.at (branches_of (map branch_view (xs ++ c.new-branch.result ∷ [])) last)) c.new-branches.ensures.items
    ∙ ap (λ (g : Guarded). s.if_of c.args.at (s.branch g.condition (statements_of g.statements) last)) c.new-branch.ensures))
