use Rattle.std.proofs.Common.{ap, ◌∙◌}
use Rattle.vhdl_names_rules.specs.units.Statements as s
use Rattle.vhdl_names_units.specs.views.Sequential.{body_view, branches_of}
use Rattle.vhdl_names_statements.proofs.selecting.decided.Goals as goal

pub returns : goal.returns
returns c =
    c.conditional.ensures ∙ ap (λ bs. s.if_of c.args.at (branches_of bs (s.otherwise (body_view c.args.arranged.others)))) c.in_ok-branches.ensures
