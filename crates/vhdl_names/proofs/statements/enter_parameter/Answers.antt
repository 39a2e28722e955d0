use Rattle.std.proofs.Common.{◌≡◌, ◌∷◌, length, Some, ap, sym, ◌∙◌}
use Rattle.vhdl_tree.specs.View as tree
use Rattle.vhdl_names_rules.specs.Visibility.{declare, generate_parameter, within_generate}
use Rattle.vhdl_names_sight.specs.Seen.{sight_view}
use Rattle.vhdl_names_statements.proofs.steps.Entering.{seen, seen_count, entered}
use Rattle.vhdl_names.proofs.statements.enter_parameter.Goals as goal

pub returns-clause-given : goal.returns-clause-given
returns-clause-given c =
    let generates = c.sight.inside.generates.items in
    let n = c.args.parameter.now.text.items in
    let count : c.len.result ≡ length (seen c.sight.inside.generates.items) = c.len.ensures ∙ c.sight.inside.generates.ok.0 ∙ sym (seen_count generates) in
    let innermost : seen c.push.new.self.items ≡ declare c.args.parameter.now.text.items (generate_parameter (length (seen c.sight.inside.generates.items))) ∷ seen c.sight.inside.generates.items =
    entered generates c.push.new.self.items _ n (generate_parameter (length (seen generates))) c.in_ok-push.ensures.items
    (c.in_ok-name.ensures.items_if_clones_equal (λ x y e. e) ∙ c.deref.ensures.value)
    (λ n. c.entry-entry.ensures n ∙ ap (λ k. declare n (generate_parameter k)) count) in
    ap (λ o. Some (within_generate o (tree.ident_view c.args.parameter.now))) (sym c.sight.view_is)
    ∙ ap (λ ls. Some (record (sight_view c.sight.inside) { generates = ls })) (sym innermost)
