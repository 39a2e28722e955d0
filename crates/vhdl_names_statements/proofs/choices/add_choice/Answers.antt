use Rattle.std.proofs.Common.{ℕ, Vec, Global, List, ap, sym, ◌∙◌}
use Rattle.std.specs.Prelude.{option_map}
use Rattle.vhdl_names_rules.proofs.Along.{gives_along}
use Rattle.vhdl_names_units.specs.views.Answers.{choice_view}
use Rattle.vhdl_names_units.specs.Once.{names_view}
use Rattle.vhdl_names_statements.proofs.steps.Keys.{no_key, with_key}
use Rattle.vhdl_names_statements.proofs.choices.add_choice.Goals as goal

abbrev items : Vec ℕ Global → List ℕ
items v = v.items

pub returns-in-Some-clause-given : goal.returns-in-Some-clause-given
returns-in-Some-clause-given c =
    gives_along _ _ _ _
    (with_key (names_view c.args.keys.now) (choice_view c.args.choice.now) c.in-Some.key.items (sym (ap (option_map items) c.in-Some.is) ∙ c.in_ok-key.ensures))
    c.add_key.ensures.given

pub returns-in-None-clause-given : goal.returns-in-None-clause-given
returns-in-None-clause-given c =
    no_key (names_view c.args.keys.now) (choice_view c.args.choice.now) (sym (ap (option_map items) c.in-None.is) ∙ c.in_ok-key.ensures)
