use Rattle.std.proofs.Common.{◌≡◌, true, false, ap, sym, ◌∙◌}
use Rattle.std.specs.Prelude.{◌&&◌}
use Rattle.std.specs.List.{list_all}
use Rattle.vhdl_names_rules.specs.Names.{is_static}
use Rattle.vhdl_names_trees.specs.views.Integers.{static_view, start_view}
use Rattle.vhdl_names_parts.proofs.Meant.{is_static_chain}
use Rattle.vhdl_names_parts.proofs.edges.+is_static.Goals as goal

pub is_static-returns-then-is_static_start : goal.is_static-returns-then-is_static_start
is_static-returns-then-is_static_start t c =
    let w = is_static_chain c.args.integer.now c.in-Chain.start c.in-Chain.links c.in-Chain.is in
    let a : is_static (start_view c.in-Chain.start.value) ≡ true =
    ap (λ s. is_static (start_view s)) (sym c.deref-in-Chain.ensures) ∙ sym c.is_static_start.ensures ∙ c.if-is_static_start.true in
    c.are_static.ensures ∙ ap (list_all (λ k. is_static (static_view k.operand))) c.deref-then-is_static_start.ensures.value
    ∙ sym (w ∙ ap (λ b. b && list_all (λ k. is_static (static_view k.operand)) c.in-Chain.links.items) a)

pub is_static-returns-else-is_static_start : goal.is_static-returns-else-is_static_start
is_static-returns-else-is_static_start t c =
    let w = is_static_chain c.args.integer.now c.in-Chain.start c.in-Chain.links c.in-Chain.is in
    let a : is_static (start_view c.in-Chain.start.value) ≡ false =
    ap (λ s. is_static (start_view s)) (sym c.deref-in-Chain.ensures) ∙ sym c.is_static_start.ensures ∙ c.if-is_static_start.false in
    c.if-is_static_start.false ∙ sym (w ∙ ap (λ b. b && list_all (λ k. is_static (static_view k.operand)) c.in-Chain.links.items) a)
