use Rattle.std.proofs.Common.{[], ◌∷◌, sym, ap, ◌∙◌}
use Rattle.vhdl_names_sight.specs.Views.{region_view}
use Rattle.vhdl_names_declarations.specs.Entered.{more}
use Rattle.vhdl_names_rules.proofs.Passing.{passed_on}
use Rattle.vhdl_names_interfaces.proofs.sights.copy_one.Goals as goal

pub returns-in_err-declare_entry-clause-given : goal.returns-in_err-declare_entry-clause-given
returns-in_err-declare_entry-clause-given c =
    passed_on _ _ c.in_err-declare_entry.field-0.0 _ c.from_residual-in_err-declare_entry.result c.from_residual-in_err-declare_entry.ensures.1 (λ e p. p)
    (λ n. ap (λ d. more (region_view c.args.copy.now) (d ∷ [])) (sym (c.in_ok-entry.ensures c.args.name.now)) ∙ c.in_err-declare_entry.ensures.given n)

pub returns-clause-given : goal.returns-clause-given
returns-clause-given c = ap (λ d. more (region_view c.args.copy.now) (d ∷ [])) (sym (c.in_ok-entry.ensures c.args.name.now)) ∙ c.in_ok-declare_entry.ensures.given
