use Rattle.std.proofs.Common.{◌≡◌, IfOk, ap, sym, ◌∙◌, subst}
use Rattle.vhdl_names_rules.specs.units.Expressions as u
use Rattle.vhdl_names_trees.specs.views.Integers.{static_view, start_view, static_chained}
use Rattle.vhdl_names_trees.proofs.rows.Integers.{view_chain}
use Rattle.vhdl_names_trees.proofs.integer.+copied.Goals as goal

pub Static::copied-returns-in_ok-first-in-Chain : goal.Static::copied-returns-in_ok-first-in-Chain
Static::copied-returns-in_ok-first-in-Chain t c =
    let start = c.in-Chain.start in
    let links = c.in-Chain.links in
    let e : static_chained (static_view c.in_ok-first-in-Chain.first) c.deref-in-Chain-2.result.now ≡ static_view c.args.self.now =
    ap (λ x. static_chained x c.deref-in-Chain-2.result.now) (c.in_ok-first-in-Chain.ensures ∙ ap start_view c.deref-in-Chain.ensures)
    ∙ ap (static_chained (start_view start.value)) c.deref-in-Chain-2.ensures.value
    ∙ sym (ap static_view c.in-Chain.is ∙ view_chain start links) in
    subst (λ (y : u.Static). IfOk c.links_copied.result (λ s. static_view s ≡ y)) e c.links_copied.ensures
