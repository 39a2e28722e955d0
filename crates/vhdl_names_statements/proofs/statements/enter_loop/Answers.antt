use Rattle.std.proofs.Common.{◌≡◌, ◌∷◌, length, Some, ap, sym, ◌∙◌}
use Rattle.vhdl_tree.specs.View as tree
use Rattle.vhdl_names_rules.specs.Visibility.{declare, loop_parameter, within_loop}
use Rattle.vhdl_names_sight.specs.Seen.{sight_view}
use Rattle.vhdl_names_statements.proofs.steps.Entering.{seen, seen_count, entered}
use Rattle.vhdl_names_statements.proofs.statements.enter_loop.Goals as goal

pub returns-clause-given : goal.returns-clause-given
returns-clause-given c =
    let loops = c.sight.inside.loops.items in
    let n = c.args.parameter.now.text.items in
    let count : c.len.result ≡ length (seen c.sight.inside.loops.items) = c.len.ensures ∙ c.sight.inside.loops.ok.0 ∙ sym (seen_count loops) in
    let innermost : seen c.push.new.self.items ≡ declare c.args.parameter.now.text.items (loop_parameter (length (seen c.sight.inside.loops.items))) ∷ seen c.sight.inside.loops.items =
    entered loops c.push.new.self.items _ n (loop_parameter (length (seen loops))) c.in_ok-push.ensures.items
    (c.in_ok-name.ensures.items_if_clones_equal (λ x y e. e) ∙ c.deref.ensures.value)
    (λ n. c.entry-entry.ensures n ∙ ap (λ k. declare n (loop_parameter k)) count) in
    ap (λ o. Some (within_loop o (tree.ident_view c.args.parameter.now))) (sym c.sight.view_is)
    ∙ ap (λ ls. Some (record (sight_view c.sight.inside) { loops = ls })) (sym innermost)
