use Rattle.std.proofs.Common.{ap, sym, ◌∙◌}
use Rattle.std.specs.Prelude.{if◌then◌else◌}
use Rattle.vhdl_tree.specs.View.{name_view}
use Rattle.vhdl_names_rules.specs.declared.fault.NameProblem.TheVariants.{LeftOut}
use Rattle.vhdl_names_rules.specs.problems.Broken.{◌▸◌, refused}
use Rattle.vhdl_names_rules.specs.problems.Instances.{actual_signal}
use Rattle.vhdl_names_rules.specs.problems.Statements.{named, signal}
use Rattle.vhdl_names_rules.proofs.Telling.{told_on, told_same}
use Rattle.vhdl_names_instances.proofs.actuals.actual_signal.Goals as goal

pub returns-then-names_value-clause-given : goal.returns-then-names_value-clause-given
returns-then-names_value-clause-given c = c.signal_of_value.ensures.given (sym c.names_value.ensures ∙ c.if-names_value.true)

pub returns-then-names_value-clause-told : goal.returns-then-names_value-clause-told
returns-then-names_value-clause-told c =
    let s = c.args.sight.now in
    let n = name_view c.args.name.now in
    let is = sym c.names_value.ensures ∙ c.if-names_value.true in
    told_on (named s n ▸ refused LeftOut n.identifier.at) (actual_signal s n) c.signal_of_value.result
    (λ f w. told_same (named s n ▸ refused LeftOut n.identifier.at) (actual_signal s n) f
    (sym (ap (λ b. if b then named s n ▸ refused LeftOut n.identifier.at else signal s n) is)) w)
    (c.signal_of_value.ensures.told is)

pub returns-else-names_value-clause-told : goal.returns-else-names_value-clause-told
returns-else-names_value-clause-told c =
    let s = c.args.sight.now in
    let n = name_view c.args.name.now in
    let is = sym c.names_value.ensures ∙ c.if-names_value.false in
    told_on (signal s n) (actual_signal s n) c.signal.result
    (λ f w. told_same (signal s n) (actual_signal s n) f (sym (ap (λ b. if b then named s n ▸ refused LeftOut n.identifier.at else signal s n) is)) w)
    c.signal.ensures.told
