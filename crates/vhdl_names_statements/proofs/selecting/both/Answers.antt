use Rattle.std.proofs.Common.{List, map, ap, ◌∙◌, ◌∷◌, ◌++◌, []}
use Rattle.std.proofs.lemmas.List.{map-append}
use Rattle.vhdl_names_rules.specs.units.Statements as s
use Rattle.vhdl_names_units.specs.declared.sequential.Branch.{Branch}
use Rattle.vhdl_names_units.specs.declared.sequential.Statement.{Statement}
use Rattle.vhdl_names_units.specs.views.Sequential.{branch_view, branches_of, statement_view, statements_of}
use Rattle.vhdl_names_statements.proofs.selecting.both.Goals as goal

pub returns : goal.returns
returns c =
    let a = c.args.at in
    let second = statement_view c.args.second in
    c.conditional.ensures
    ∙ (ap (λ (bs : List Branch). s.if_of a (branches_of (map branch_view bs) (s.otherwise (statements_of (map statement_view c.push.new.self.items))))) c.new.ensures.items
    ∙ (ap (λ (xs : List Statement). s.if_of a (s.otherwise (statements_of (map statement_view xs)))) c.in_ok-push.ensures.items
    ∙ (ap (λ xs. s.if_of a (s.otherwise (statements_of xs))) (map-append statement_view c.in_ok-statements.statements.items (c.args.second ∷ []))
    ∙ ap (λ xs. s.if_of a (s.otherwise (statements_of (xs ++ second ∷ [])))) c.in_ok-statements.ensures)))
