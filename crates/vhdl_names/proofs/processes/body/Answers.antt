use Rattle.std.proofs.Common.{[], map, sym}
use Rattle.vhdl_tree.specs.Tree as t
use Rattle.vhdl_tree.specs.View as tree
use Rattle.vhdl_names_rules.specs.Visibility.{are_distinct}
use Rattle.vhdl_names_rules.specs.Statements as rules
use Rattle.vhdl_names_units.specs.views.Sequential.{body_view}
use Rattle.vhdl_names_rules.specs.problems.Twice.{twice}
use Rattle.vhdl_names_rules.specs.problems.Labels.{statement_labels}
use Rattle.vhdl_names_rules.specs.problems.Concurrent as broken
use Rattle.vhdl_names_rules.specs.problems.Statements.{statements}
use Rattle.vhdl_names_rules.proofs.Telling.{told_on, told_same}
use Rattle.vhdl_names_rules.proofs.kept.Keeping.{among_second}
use Rattle.vhdl_names_rules.proofs.kept.Concurrent.{inner_labels_kept}
use Rattle.vhdl_names_rules.proofs.kept.Statements.{statements_kept}
use Rattle.vhdl_names.proofs.Told.{met_holds, ok_kept}
use Rattle.vhdl_names.proofs.processes.body.Goals as goal

pub returns-in-Ok-clause-told : goal.returns-in-Ok-clause-told
returns-in-Ok-clause-told c =
    let xs = t.statements_of (map tree.sequential_view c.args.list.now) in
    let a = twice [] (statement_labels xs) in
    let b = statements c.args.sight.now xs in
    let k = inner_labels_kept xs (met_holds (are_distinct (rules.statement_labels xs)) c.in-Ok.ensures.given) in
    told_on b (broken.body c.args.sight.now xs) _ (λ f. told_same b (broken.body c.args.sight.now xs) f (sym (among_second a b k))) c.analysed-statements.ensures.told

pub returns-in-Err-clause-told : goal.returns-in-Err-clause-told
returns-in-Err-clause-told c =
    let xs = t.statements_of (map tree.sequential_view c.args.list.now) in
    let a = twice [] (statement_labels xs) in
    let b = statements c.args.sight.now xs in
    c.earlier_in.ensures.told a b c.in-Err.ensures.told c.analysed-statements.ensures.told
    (ok_kept body_view (rules.statements c.args.sight.now xs) b _ (statements_kept xs c.args.sight.now) c.analysed-statements.ensures.given)
