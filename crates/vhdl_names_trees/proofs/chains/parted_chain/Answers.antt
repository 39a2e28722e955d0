use Rattle.std.proofs.Common.{◌≡◌, true, ap, sym, ◌∙◌, Ok}
use Rattle.vhdl_names_trees.specs.views.Parted as parts
use Rattle.vhdl_names_trees.specs.views.Tests.{test_view, start_view, test_chained}
use Rattle.vhdl_names_trees.proofs.rows.Tests.{chained-after}
use Rattle.vhdl_names_trees.proofs.rows.Parted.{and_parted}
use Rattle.vhdl_names_trees.proofs.chains.parted_chain.Goals as goal

pub returns-in-Some : goal.returns-in-Some
returns-in-Some c =
    let start = start_view c.args.start.value in
    let e = chained-after start c.pop.new.self.items c.args.links.items c.in-Some.link c.in-Some.ensures.items in
    let h : parts.ends_in_and (test_chained start c.args.links.items) ≡ true =
    ap (λ s. parts.ends_in_and (test_chained (start_view s) c.args.links.items)) (sym c.deref.ensures)
    ∙ ap (λ ls. parts.ends_in_and (test_chained (start_view c.deref.result.now) ls)) (sym c.deref-2.ensures.value) ∙ sym c.ends_in_and.ensures ∙ c.if-not-ends_in_and.false in
    ap (λ p. Ok (p, test_view c.into_operand.result)) c.chained-in-Some.ensures
    ∙ ap (λ t. Ok (test_chained start c.pop.new.self.items, test_view t)) c.into_operand.ensures
    ∙ sym (ap parts.parted e ∙ and_parted c.in-Some.link.operator _ _ (sym (ap parts.ends_in_and e) ∙ h))
