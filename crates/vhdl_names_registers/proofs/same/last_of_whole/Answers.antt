use Rattle.std.proofs.Common.{sym, ap, ◌∙◌}
use Rattle.vhdl_names_trees.specs.views.Integers.{static_view, start_view, static_chained}
use Rattle.vhdl_names_trees.proofs.rows.Integers.{view_chain}
use Rattle.vhdl_names_registers.specs.Spines.{last_of}
use Rattle.vhdl_names_registers.proofs.same.last_of_whole.Goals as goal

pub returns-in-Chain : goal.returns-in-Chain
returns-in-Chain c =
    let i = c.in-Chain in
    c.last_of_chain.ensures
    ∙ (ap (λ ls. last_of (static_chained (start_view c.deref.result.now) ls)) c.deref-in-Chain.ensures.value
    ∙ (ap (λ x. last_of (static_chained (start_view x) i.links.items)) c.deref.ensures
    ∙ sym (ap last_of (ap static_view i.is ∙ view_chain i.start i.links))))
