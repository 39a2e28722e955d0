use Rattle.std.proofs.Common.{◌≡◌, true, false, ◌∷◌, ◌++◌, refl, sym, ap, ◌∙◌, arith, rules}
use Rattle.std.proofs.lemmas.Grind.{common_steps}
use Rattle.std.specs.Prelude.{flat_map}
use Rattle.vhdl_names_trees.specs.declared.vector.Vector.{Vector}
use Rattle.vhdl_names_trees.specs.declared.vector.VectorStart.{VectorStart}
use Rattle.vhdl_names_trees.specs.declared.vector.Computed.{Computed}
use Rattle.vhdl_names_trees.specs.declared.vector.ComputedStart.{ComputedStart}
use Rattle.vhdl_names_trees.specs.declared.vector.Chosen.{Chosen}
use Rattle.vhdl_names_trees.specs.views.Vectors.{signal_view, computed_view, computed_start_view, chosen_view, vector_view, elements_view}
use Rattle.vhdl_names_trees.proofs.rows.Vectors.{view_aggregate}
use Rattle.vhdl_expand_rules.specs.Prefixes.{whole_of, computed_names, chosen_names, vector_names, elements_names}
use Rattle.vhdl_expand_bodies.proofs.Aggregating.{is_last}
use Rattle.vhdl_expand_processes.specs.Names.{computed_link_names, element_names, link_names}
use Rattle.vhdl_expand_processes.proofs.Gathering.{nothing_more, adds_along, adds_both, next_of, last_of, none_of, left_next, left_none}
use Rattle.vhdl_expand_processes.proofs.Reading.{chain_names, computed_chain_names, elements_more, elements_last, chain_adds}
use Rattle.vhdl_expand_processes.proofs.names.+vectors.Goals as goal

pub of_vector-returns-in-Signal : goal.of_vector-returns-in-Signal
of_vector-returns-in-Signal t c =
    adds_along c.args.found.now c.add_place.new.self _ _ (ap (λ (x : Vector). vector_names (vector_view x)) c.in-Signal.is) c.add_place.ensures

pub of_vector-returns-in-Not : goal.of_vector-returns-in-Not
of_vector-returns-in-Not t c =
    adds_along c.args.found.now c.of_vector.new.found _ _ (ap (λ (x : Vector). vector_names (vector_view x)) c.in-Not.is ∙ ap (λ (x : Vector). vector_names (vector_view x)) (sym c.deref-in-Not.ensures)) c.of_vector.ensures

pub of_vector-returns-in-IntegerWith : goal.of_vector-returns-in-IntegerWith
of_vector-returns-in-IntegerWith t c =
    adds_along c.args.found.now c.of_vector-in-IntegerWith.new.found _ _ (ap (λ (x : Vector). vector_names (vector_view x)) c.in-IntegerWith.is ∙ ap (λ (x : Vector). vector_names (vector_view x)) (sym c.deref-in-IntegerWith.ensures)) c.of_vector-in-IntegerWith.ensures

pub of_vector-returns-in-Counted : goal.of_vector-returns-in-Counted
of_vector-returns-in-Counted t c =
    adds_along c.args.found.now c.of_vector-in-Counted.new.found _ _ (ap (λ (x : Vector). vector_names (vector_view x)) c.in-Counted.is ∙ ap (λ (x : Vector). vector_names (vector_view x)) (sym c.deref-in-Counted.ensures)) c.of_vector-in-Counted.ensures

pub of_vector-returns-in-InSignal : goal.of_vector-returns-in-InSignal
of_vector-returns-in-InSignal t c =
    adds_both c.args.found.now c.add_whole.new.self c.of_chosen.new.found _ _ _
    (ap (λ (x : Vector). vector_names (vector_view x)) c.in-InSignal.is ∙ ap (λ (x : Chosen). whole_of (signal_view c.in-InSignal.signal) ∷ chosen_names (chosen_view x)) (sym c.deref.ensures)) c.add_whole.ensures c.of_chosen.ensures

pub of_vector-returns-in-InVariable : goal.of_vector-returns-in-InVariable
of_vector-returns-in-InVariable t c =
    adds_along c.args.found.now c.of_chosen-in-InVariable.new.found _ _ (ap (λ (x : Vector). vector_names (vector_view x)) c.in-InVariable.is ∙ ap (λ (x : Chosen). chosen_names (chosen_view x)) (sym c.deref-in-InVariable.ensures)) c.of_chosen-in-InVariable.ensures

pub of_vector-returns-in-InConstant : goal.of_vector-returns-in-InConstant
of_vector-returns-in-InConstant t c =
    adds_along c.args.found.now c.of_chosen-in-InConstant.new.found _ _ (ap (λ (x : Vector). vector_names (vector_view x)) c.in-InConstant.is ∙ ap (λ (x : Chosen). chosen_names (chosen_view x)) (sym c.deref-in-InConstant.ensures)) c.of_chosen-in-InConstant.ensures

pub of_vector-returns-in-ComputedWith : goal.of_vector-returns-in-ComputedWith
of_vector-returns-in-ComputedWith t c =
    adds_both c.args.found.now c.of_computed.new.found c.of_vector-in-ComputedWith.new.found _ _ _
    (ap (λ (x : Vector). vector_names (vector_view x)) c.in-ComputedWith.is ∙ ap (λ (x : Computed). computed_names (computed_view x) ++ vector_names (vector_view c.in-ComputedWith.operand.value)) (sym c.deref-in-ComputedWith.ensures)
    ∙ ap (λ (x : Vector). computed_names (computed_view c.deref-in-ComputedWith.result.now) ++ vector_names (vector_view x)) (sym c.deref-in-ComputedWith-2.ensures)) c.of_computed.ensures c.of_vector-in-ComputedWith.ensures

pub of_vector-returns-in-ComputedEncoded : goal.of_vector-returns-in-ComputedEncoded
of_vector-returns-in-ComputedEncoded t c =
    adds_along c.args.found.now c.of_computed-in-ComputedEncoded.new.found _ _ (ap (λ (x : Vector). vector_names (vector_view x)) c.in-ComputedEncoded.is ∙ ap (λ (x : Computed). computed_names (computed_view x)) (sym c.deref-in-ComputedEncoded.ensures)) c.of_computed-in-ComputedEncoded.ensures

pub of_vector-returns-in-Shifted : goal.of_vector-returns-in-Shifted
of_vector-returns-in-Shifted t c =
    adds_both c.args.found.now c.of_vector-in-Shifted.new.found c.of_computed-in-Shifted.new.found _ _ _
    (ap (λ (x : Vector). vector_names (vector_view x)) c.in-Shifted.is ∙ ap (λ (x : Vector). vector_names (vector_view x) ++ computed_names (computed_view c.in-Shifted.count.value)) (sym c.deref-in-Shifted.ensures)
    ∙ ap (λ (x : Computed). vector_names (vector_view c.deref-in-Shifted.result.now) ++ computed_names (computed_view x)) (sym c.deref-in-Shifted-2.ensures)) c.of_vector-in-Shifted.ensures c.of_computed-in-Shifted.ensures

-- ---- integers that a run computes

pub of_computed-returns-in-SignalNumber : goal.of_computed-returns-in-SignalNumber
of_computed-returns-in-SignalNumber t c =
    adds_along c.args.found.now c.add_whole.new.self _ _ (ap (λ (x : Computed). computed_names (computed_view x)) c.in-SignalNumber.is) c.add_whole.ensures

pub of_computed-returns-in-Number : goal.of_computed-returns-in-Number
of_computed-returns-in-Number t c =
    adds_along c.args.found.now c.of_vector.new.found _ _ (ap (λ (x : Computed). computed_names (computed_view x)) c.in-Number.is ∙ ap (λ (x : Vector). vector_names (vector_view x)) (sym c.deref.ensures)) c.of_vector.ensures

pub of_computed-returns-in-Negated : goal.of_computed-returns-in-Negated
of_computed-returns-in-Negated t c =
    adds_along c.args.found.now c.of_computed.new.found _ _ (ap (λ (x : Computed). computed_names (computed_view x)) c.in-Negated.is ∙ ap (λ (x : Computed). computed_names (computed_view x)) (sym c.deref-in-Negated.ensures)) c.of_computed.ensures

pub of_computed-returns-in-Magnitude : goal.of_computed-returns-in-Magnitude
of_computed-returns-in-Magnitude t c =
    adds_along c.args.found.now c.of_computed-in-Magnitude.new.found _ _ (ap (λ (x : Computed). computed_names (computed_view x)) c.in-Magnitude.is ∙ ap (λ (x : Computed). computed_names (computed_view x)) (sym c.deref-in-Magnitude.ensures)) c.of_computed-in-Magnitude.ensures

pub of_computed-returns-in-Chain : goal.of_computed-returns-in-Chain
of_computed-returns-in-Chain t c =
    chain_adds (λ (s : ComputedStart) ls. computed_names (computed_start_view s) ++ flat_map computed_link_names ls) _ c.in-Chain.start.value _ c.in-Chain.links.items _ c.args.found.now c.of_computed_links.new.found
    (ap (λ (x : Computed). computed_names (computed_view x)) c.in-Chain.is ∙ computed_chain_names c.in-Chain.start c.in-Chain.links) c.deref-in-Chain.ensures c.deref-in-Chain-2.ensures.value
    (adds_both c.args.found.now c.of_computed_start.new.found c.of_computed_links.new.found _ _ _ refl c.of_computed_start.ensures c.of_computed_links.ensures)

pub of_computed_start-returns : goal.of_computed_start-returns
of_computed_start-returns t c =
    adds_both c.args.found.now c.of_computed.new.found c.of_computed-2.new.found _ _ _ refl c.of_computed.ensures c.of_computed-2.ensures

pub of_computed_links-loop-item-init : goal.of_computed_links-loop-item-init
of_computed_links-loop-item-init t c = λ n. (n, refl)

pub of_computed_links-loop-item-preserved : goal.of_computed_links-loop-item-preserved
of_computed_links-loop-item-preserved t c =
    left_next computed_link_names c.args.found.now c.args.list.now c.loop-item.found c.of_computed.new.found c.loop-item.item-index c.item-item.result c.loop-item-test.true c.item-item.is c.loop-item.invariant c.of_computed.ensures

pub of_computed_links-returns : goal.of_computed_links-returns
of_computed_links-returns t c =
    left_none computed_link_names c.args.found.now c.args.list.now c.loop-item.found c.loop-item.item-index c.loop-item-test.false c.loop-item.invariant

pub of_chosen-returns-in-Element : goal.of_chosen-returns-in-Element
of_chosen-returns-in-Element t c = adds_along c.args.found.now c.of_computed.new.found _ _ (ap (λ (x : Chosen). chosen_names (chosen_view x)) c.in-Element.is) c.of_computed.ensures

pub of_chosen-returns-in-Slice : goal.of_chosen-returns-in-Slice
of_chosen-returns-in-Slice t c =
    adds_both c.args.found.now c.of_computed-in-Slice.new.found c.of_computed-in-Slice-2.new.found _ _ _ (ap (λ (x : Chosen). chosen_names (chosen_view x)) c.in-Slice.is) c.of_computed-in-Slice.ensures c.of_computed-in-Slice-2.ensures

pub of_link-returns-in-Computed : goal.of_link-returns-in-Computed
of_link-returns-in-Computed t c =
    adds_along c.args.found.now c.of_computed.new.found _ _ (ap link_names c.in-Computed.is) c.of_computed.ensures

pub of_link-returns-in-Vector : goal.of_link-returns-in-Vector
of_link-returns-in-Vector t c =
    adds_along c.args.found.now c.of_vector.new.found _ _ (ap link_names c.in-Vector.is) c.of_vector.ensures

pub of_link-returns-in-Integer : goal.of_link-returns-in-Integer
of_link-returns-in-Integer t c =
    nothing_more c.args.found.now _ (ap link_names c.in-Integer.is)

pub of_vector-returns-in-Chain : goal.of_vector-returns-in-Chain
of_vector-returns-in-Chain t c =
    chain_adds (λ (s : VectorStart) ls. (vector_names (vector_view s.first) ++ link_names s.link) ++ flat_map link_names ls) _ c.in-Chain.start.value _ c.in-Chain.links.items _ c.args.found.now c.of_links.new.found
    (ap (λ (x : Vector). vector_names (vector_view x)) c.in-Chain.is ∙ chain_names c.in-Chain.start c.in-Chain.links) c.deref-in-Chain.ensures c.deref-in-Chain-2.ensures.value
    (adds_both c.args.found.now c.of_start.new.found c.of_links.new.found _ _ _ refl c.of_start.ensures c.of_links.ensures)

pub of_start-returns : goal.of_start-returns
of_start-returns t c =
    adds_both c.args.found.now c.of_vector.new.found c.of_link.new.found _ _ _ refl c.of_vector.ensures c.of_link.ensures

pub of_links-loop-item-init : goal.of_links-loop-item-init
of_links-loop-item-init t c =
    λ n. (n, refl)

pub of_links-loop-item-preserved : goal.of_links-loop-item-preserved
of_links-loop-item-preserved t c =
    left_next link_names c.args.found.now c.args.list.now c.loop-item.found c.of_link.new.found c.loop-item.item-index c.item-item.result c.loop-item-test.true c.item-item.is c.loop-item.invariant c.of_link.ensures

pub of_links-returns : goal.of_links-returns
of_links-returns t c =
    left_none link_names c.args.found.now c.args.list.now c.loop-item.found c.loop-item.item-index c.loop-item-test.false c.loop-item.invariant

-- ---- aggregates

pub of_vector-returns-in-Aggregate : goal.of_vector-returns-in-Aggregate
of_vector-returns-in-Aggregate t c =
    adds_along c.args.found.now c.of_elements.new.found _ _
    (ap (λ (x : Vector). vector_names (vector_view x)) c.in-Aggregate.is ∙ ap vector_names (view_aggregate c.in-Aggregate.field-0 c.in-Aggregate.field-1 c.in-Aggregate.elements)
    ∙ ap (λ xs. elements_names (elements_view xs)) (sym c.deref-in-Aggregate.ensures.value)) c.of_elements.ensures

pub of_vector-returns-in-Sized : goal.of_vector-returns-in-Sized
of_vector-returns-in-Sized t c =
    adds_along c.args.found.now c.of_vector-in-Sized.new.found _ _ (ap (λ (x : Vector). vector_names (vector_view x)) c.in-Sized.is ∙ ap (λ (x : Vector). vector_names (vector_view x)) (sym c.deref-in-Sized.ensures)) c.of_vector-in-Sized.ensures

pub of_elements-loop-item-init : goal.of_elements-loop-item-init
of_elements-loop-item-init t c = λ n. (n, refl)

pub of_elements-loop-item-preserved : goal.of_elements-loop-item-preserved
of_elements-loop-item-preserved t c =
    let last : is_last c.item-item.result ≡ false = first_of (search rules, grind (arith, common_steps)) in
    next_of (λ xs. elements_names (elements_view xs)) c.args.found.now c.args.list.now c.loop-item.found c.of_element.new.found c.loop-item.item-index c.item-item.result _
    c.loop-item-test.true c.item-item.is c.loop-item.invariant (λ rest. elements_more c.item-item.result rest last) c.of_element.ensures

pub of_elements-returns-in-Others : goal.of_elements-returns-in-Others
of_elements-returns-in-Others t c =
    let last : is_last c.item-item.result ≡ true = ap is_last c.in-Others.is in
    last_of (λ xs. elements_names (elements_view xs)) c.args.found.now c.args.list.now c.loop-item.found c.of_element.new.found c.loop-item.item-index c.item-item.result _
    c.loop-item-test.true c.item-item.is c.loop-item.invariant (λ rest. elements_last c.item-item.result rest last) c.of_element.ensures

pub of_elements-returns : goal.of_elements-returns
of_elements-returns t c =
    none_of (λ xs. elements_names (elements_view xs)) c.args.found.now c.args.list.now c.loop-item.found c.loop-item.item-index c.loop-item-test.false c.loop-item.invariant refl

pub of_element-returns-in-Next : goal.of_element-returns-in-Next
of_element-returns-in-Next t c = adds_along c.args.found.now c.of_vector.new.found _ _ (ap element_names c.in-Next.is) c.of_vector.ensures

pub of_element-returns-in-Chosen : goal.of_element-returns-in-Chosen
of_element-returns-in-Chosen t c = adds_along c.args.found.now c.of_vector-in-Chosen.new.found _ _ (ap element_names c.in-Chosen.is) c.of_vector-in-Chosen.ensures

pub of_element-returns-in-Others : goal.of_element-returns-in-Others
of_element-returns-in-Others t c = adds_along c.args.found.now c.of_vector-in-Others.new.found _ _ (ap element_names c.in-Others.is) c.of_vector-in-Others.ensures
