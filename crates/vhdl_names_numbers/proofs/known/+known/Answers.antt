use Rattle.std.proofs.Common.{◌≡◌, ◌+◌, ◌<◌, ◌≤◌, true, false, length, drop, ap, sym, ◌∙◌, arith}
use Rattle.std.specs.Prelude.{◌&&◌, ◌||◌}
use Rattle.std.specs.List.{list_all}
use Rattle.vhdl_names_rules.specs.Known.{is_known, are_known}
use Rattle.vhdl_names_trees.specs.views.Vectors.{vector_view, start_view, elements_view}
use Rattle.vhdl_names_numbers.specs.Knowing.{link_is_known, is_others}
use Rattle.vhdl_names_numbers.proofs.Knowing.{is_known_chain, is_known_aggregate, next_known, none_known}
use Rattle.vhdl_names_numbers.proofs.known.+known.Goals as goal

pub is_known-returns-then-start_is_known : goal.is_known-returns-then-start_is_known
is_known-returns-then-start_is_known t c =
    let links = c.in-Chain.links.items in
    let whole = ap (λ v. is_known (vector_view v)) c.in-Chain.is ∙ is_known_chain c.in-Chain.start c.in-Chain.links in
    let known : is_known (start_view c.in-Chain.start.value) ≡ true =
    ap (λ s. is_known (start_view s)) (sym c.deref-in-Chain.ensures) ∙ sym c.start_is_known.ensures ∙ c.if-start_is_known.true in
    c.links_are_known.ensures ∙ ap (list_all link_is_known) c.deref-then-start_is_known.ensures.value
    ∙ sym (whole ∙ ap (λ b. b && list_all link_is_known links) known)

pub is_known-returns-in-Aggregate : goal.is_known-returns-in-Aggregate
is_known-returns-in-Aggregate t c =
    c.are_known.ensures ∙ ap (λ es. are_known (elements_view es)) c.deref-in-Aggregate.ensures.value
    ∙ sym (ap (λ v. is_known (vector_view v)) c.in-Aggregate.is ∙ is_known_aggregate c.in-Aggregate.field-0 c.in-Aggregate.field-1 c.in-Aggregate.elements)

pub are_known-loop-element-preserved : goal.are_known-loop-element-preserved
are_known-loop-element-preserved t c =
    let es = c.args.elements.now in
    let i = c.loop-element.element-index in
    let rest = are_known (elements_view (drop (i + 1) es)) in
    let lt : c.loop-element.element-index < length c.args.elements.now = omega arith in
    c.loop-element.invariant ∙ next_known es i c.element-item.result lt c.element-item.is
    ∙ ap (λ b. b && (is_others c.element-item.result || rest)) (sym c.element_is_known.ensures ∙ c.if-not-element_is_known.false)
    ∙ ap (λ b. b || rest) (sym c.is_others.ensures ∙ c.if-is_others.false)

pub are_known-returns-then-not-element_is_known : goal.are_known-returns-then-not-element_is_known
are_known-returns-then-not-element_is_known t c =
    let es = c.args.elements.now in
    let i = c.loop-element.element-index in
    let rest = are_known (elements_view (drop (i + 1) es)) in
    let lt : c.loop-element.element-index < length c.args.elements.now = omega arith in
    sym (c.loop-element.invariant ∙ next_known es i c.element-item.result lt c.element-item.is
    ∙ ap (λ b. b && (is_others c.element-item.result || rest)) (sym c.element_is_known.ensures ∙ c.if-not-element_is_known.true))

pub are_known-returns-then-is_others : goal.are_known-returns-then-is_others
are_known-returns-then-is_others t c =
    let es = c.args.elements.now in
    let i = c.loop-element.element-index in
    let rest = are_known (elements_view (drop (i + 1) es)) in
    let lt : c.loop-element.element-index < length c.args.elements.now = omega arith in
    sym (c.loop-element.invariant ∙ next_known es i c.element-item.result lt c.element-item.is
    ∙ ap (λ b. b && (is_others c.element-item.result || rest)) (sym c.element_is_known.ensures ∙ c.if-not-element_is_known.false)
    ∙ ap (λ b. b || rest) (sym c.is_others.ensures ∙ c.if-is_others.true))

pub are_known-returns : goal.are_known-returns
are_known-returns t c =
    let past : length c.args.elements.now ≤ c.loop-element.element-index = omega arith in
    sym (c.loop-element.invariant ∙ none_known c.args.elements.now c.loop-element.element-index past)
