use Rattle.std.proofs.Common.{◌≡◌, ◌∷◌, [], ap}
use Rattle.vhdl_names_rules.specs.units.Statements as s
use Rattle.vhdl_names_rules.specs.Choices.{nothing_done}
use Rattle.vhdl_names_units.specs.views.Sequential.{body_view, statements_of, statements_view}
use Rattle.vhdl_names_statements.proofs.steps.Deciding.{on_ok}
use Rattle.vhdl_names_statements.proofs.selecting.nothing_done.Goals as goal

pub returns : goal.returns
returns c = on_ok (λ v. statements_view v ≡ s.null_of ∷ []) (λ v. body_view v ≡ nothing_done) c.single.result (λ v h. ap statements_of h) c.single.ensures
