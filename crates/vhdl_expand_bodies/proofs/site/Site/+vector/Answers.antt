use Rattle.std.proofs.Common.{◌≡◌, ℕ, true, false, [], ◌∷◌, ◌+◌, map, drop, Result, Ok, refl, sym, ap, ◌∙◌, subst, arith, rules}
use Rattle.std.specs.Prelude.{option_map}
use Rattle.std.proofs.lemmas.Grind.{common_steps}
use Rattle.std.proofs.lemmas.List.{map-append}
use Rattle.rtl_model.specs.bodies.Body as bodies
use Rattle.rtl_model.specs.bodies.Fits.{IsWidth}
use Rattle.vhdl_names_rules.specs.units.Expressions.{Static}
use Rattle.vhdl_names_trees.specs.views.Integers.{static_view}
use Rattle.vhdl_names_trees.specs.views.Vectors.{vector_view, elements_view}
use Rattle.vhdl_expand_rules.specs.declared.fault.ElabFault.{ElabFault}
use Rattle.vhdl_expand_rules.specs.Elab.{◌>>=◌}
use Rattle.vhdl_expand_rules.specs.Integers.{Integers}
use Rattle.vhdl_expand_rules.specs.Kinds.{size_of}
use Rattle.vhdl_expand_rules.specs.views.Integers.{integers_view, Computes}
use Rattle.vhdl_expand_rules.specs.Aggregates.{composed}
use Rattle.vhdl_expand_operands.specs.Placings.{indexes_view, placed_view}
use Rattle.vhdl_expand_bodies.proofs.Aggregating.{is_last, elements_go, elements_last, elements_stop, elements_end}
use Rattle.vhdl_expand_operands.proofs.Several.{behind}
use Rattle.vhdl_expand_operands.specs.Operands.{operand_view}
use Rattle.vhdl_expand_numbers.specs.Views.{number_view}
use Rattle.vhdl_expand_rules.specs.Expressions as definition
use Rattle.vhdl_expand_rules.proofs.Steps.{given}
use Rattle.vhdl_expand_bodies.specs.Sites.{site_view}
use Rattle.vhdl_expand_bodies.specs.steps.Computed as numbers
use Rattle.vhdl_expand_bodies.specs.steps.Vectors as steps
use Rattle.vhdl_expand_operands.proofs.Passing.{expands_along, passed_on, on}
use Rattle.vhdl_expand_bodies.proofs.Links.{chain_is, aggregate_is, computed_is, measured_is}
use Rattle.vhdl_expand_bodies.proofs.Places.{size_fits}
use Rattle.vhdl_expand_bodies.proofs.Chained.{chain_goes, chain_stops, more_stops, next_goes, next_stops}
use Rattle.vhdl_expand_bodies.proofs.site.Site.+vector.Goals as goal

pub expanded-returns-in_err-chain-in-Chain : goal.expanded-returns-in_err-chain-in-Chain
expanded-returns-in_err-chain-in-Chain t c =
    passed_on _ _ c.in_err-chain-in-Chain.field-0.0 _ c.from_residual-in_err-chain-in-Chain.result c.from_residual-in_err-chain-in-Chain.ensures.1 (λ e p. p)
    (λ n. chain_stops (steps.linked (site_view c.args.self.now)) _ _ c.in-Chain.links.items (chain_is (site_view c.args.self.now) c.args.vector.now c.in-Chain.start c.in-Chain.links _ _ c.in-Chain.is c.deref-in-Chain.ensures refl) (c.in_err-chain-in-Chain.ensures n))

pub expanded-returns-in_err-add_links-in-Chain : goal.expanded-returns-in_err-add_links-in-Chain
expanded-returns-in_err-add_links-in-Chain t c =
    passed_on _ _ c.in_err-add_links-in-Chain.field-0.0 _ c.from_residual-in_err-add_links-in-Chain.result c.from_residual-in_err-add_links-in-Chain.ensures.1 (λ e p. p)
    (λ n. more_stops (steps.linked (site_view c.args.self.now)) _ _ c.deref-in-Chain-2.result.now _ (chain_is (site_view c.args.self.now) c.args.vector.now c.in-Chain.start c.in-Chain.links _ _ c.in-Chain.is c.deref-in-Chain.ensures c.deref-in-Chain-2.ensures.value)
    c.in_ok-chain-in-Chain.ensures (c.in_err-add_links-in-Chain.ensures n))

pub expanded-returns-in_ok-add_links-in-Chain : goal.expanded-returns-in_ok-add_links-in-Chain
expanded-returns-in_ok-add_links-in-Chain t c =
    chain_goes (steps.linked (site_view c.args.self.now)) _ _ c.deref-in-Chain-2.result.now _ (chain_is (site_view c.args.self.now) c.args.vector.now c.in-Chain.start c.in-Chain.links _ _ c.in-Chain.is c.deref-in-Chain.ensures c.deref-in-Chain-2.ensures.value) c.in_ok-chain-in-Chain.ensures
    ∙ c.in_ok-add_links-in-Chain.ensures ∙ ap given (sym c.whole.ensures)

pub add_links-loop-link-preserved : goal.add_links-loop-link-preserved
add_links-loop-link-preserved t c =
    next_goes (steps.linked (site_view c.args.self.now)) _ _ _ c.args.links.now c.loop-link.link-index c.link-item.result (omega arith) c.link-item.is c.loop-link.invariant c.in_ok-add_link.ensures

pub add_links-returns-in_err-add_link : goal.add_links-returns-in_err-add_link
add_links-returns-in_err-add_link t c =
    passed_on _ _ c.in_err-add_link.field-0.0 _ c.from_residual.result c.from_residual.ensures.1 (λ e p. p)
    (λ n. next_stops (steps.linked (site_view c.args.self.now)) _ _ c.args.links.now c.loop-link.link-index c.link-item.result (omega arith) c.link-item.is c.loop-link.invariant (c.in_err-add_link.ensures n))

-- ---- the forms of a vector but chains

pub expanded-returns-in-Signal : goal.expanded-returns-in-Signal
unfolding definition.vector
expanded-returns-in-Signal t c =
    expands_along operand_view _ _ _ (ap (λ x. definition.vector (site_view c.args.self.now) (vector_view x)) c.in-Signal.is) c.signal.ensures

pub expanded-returns-in-Variable : goal.expanded-returns-in-Variable
unfolding definition.vector
expanded-returns-in-Variable t c =
    expands_along operand_view _ _ _ (ap (λ x. definition.vector (site_view c.args.self.now) (vector_view x)) c.in-Variable.is) c.variable.ensures

pub expanded-returns-in-InSignal : goal.expanded-returns-in-InSignal
expanded-returns-in-InSignal t c =
    expands_along operand_view _ _ _ (ap (λ x. definition.vector (site_view c.args.self.now) (vector_view x)) c.in-InSignal.is) (rw c.deref.ensures at c.in_signal.ensures)

pub expanded-returns-in-InVariable : goal.expanded-returns-in-InVariable
expanded-returns-in-InVariable t c =
    expands_along operand_view _ _ _ (ap (λ x. definition.vector (site_view c.args.self.now) (vector_view x)) c.in-InVariable.is) (rw c.deref-in-InVariable.ensures at c.in_variable.ensures)

pub expanded-returns-in-InConstant : goal.expanded-returns-in-InConstant
expanded-returns-in-InConstant t c =
    expands_along operand_view _ _ _ (ap (λ x. definition.vector (site_view c.args.self.now) (vector_view x)) c.in-InConstant.is) (rw c.deref-in-InConstant.ensures at c.in_constant.ensures)

pub expanded-returns-in_ok-number-in-ComputedWith : goal.expanded-returns-in_ok-number-in-ComputedWith
unfolding definition.vector
expanded-returns-in_ok-number-in-ComputedWith t c =
    let here = site_view c.args.self.now in
    expands_along operand_view _ _ _
    (ap (λ x. definition.vector here (vector_view x)) c.in-ComputedWith.is
    ∙ on (λ n. steps.computed_with here c.in-ComputedWith.at c.in-ComputedWith.operator n (vector_view c.in-ComputedWith.operand.value)) _ _ (rw (c.deref-in-ComputedWith.ensures) at c.in_ok-number-in-ComputedWith.ensures))
    (rw (c.deref-in-ComputedWith-2.ensures) at c.computed_with.ensures)

-- the size that is asked for
asked : (here : Integers) (at : ℕ) (s : Static) (n : ℕ) (r : Result ℕ ElabFault) → r ≡ Ok n → Computes (size_of here at s) r → IsWidth n
asked here at s n r e h = size_fits here at s n (subst (λ (q : Result ℕ ElabFault). Computes (size_of here at s) q) e h)

pub expanded-natural_digits-requires-clause-some : goal.expanded-natural_digits-requires-clause-some
expanded-natural_digits-requires-clause-some t c =
    (asked (integers_view c.args.self.now.integers) c.in-ComputedEncoded.at (static_view c.in-ComputedEncoded.size) c.in_ok-number-in-ComputedEncoded-2.len c.size_of.result c.in_ok-number-in-ComputedEncoded-2.ensures.both.0 c.size_of.ensures).0

pub expanded-natural_digits-requires-clause-few : goal.expanded-natural_digits-requires-clause-few
expanded-natural_digits-requires-clause-few t c =
    (asked (integers_view c.args.self.now.integers) c.in-ComputedEncoded.at (static_view c.in-ComputedEncoded.size) c.in_ok-number-in-ComputedEncoded-2.len c.size_of.result c.in_ok-number-in-ComputedEncoded-2.ensures.both.0 c.size_of.ensures).1

pub expanded-returns-in-Literal : goal.expanded-returns-in-Literal
unfolding definition.vector
expanded-returns-in-Literal t c =
    expands_along operand_view _ _ _ (ap (λ x. definition.vector (site_view c.args.self.now) (vector_view x)) c.in-Literal.is) (rw c.deref-in-Literal.ensures.value at c.literal.ensures)

pub expanded-returns-in-IntegerWith : goal.expanded-returns-in-IntegerWith
unfolding definition.vector
expanded-returns-in-IntegerWith t c =
    expands_along operand_view _ _ _ (ap (λ x. definition.vector (site_view c.args.self.now) (vector_view x)) c.in-IntegerWith.is) (rw c.deref-in-IntegerWith.ensures at c.integer_with.ensures)

pub expanded-returns-in-Encoded : goal.expanded-returns-in-Encoded
unfolding definition.vector
expanded-returns-in-Encoded t c =
    expands_along operand_view _ _ _ (ap (λ x. definition.vector (site_view c.args.self.now) (vector_view x)) c.in-Encoded.is) c.encoded.ensures

pub expanded-returns-in-Counted : goal.expanded-returns-in-Counted
unfolding definition.vector
expanded-returns-in-Counted t c =
    expands_along operand_view _ _ _ (ap (λ x. definition.vector (site_view c.args.self.now) (vector_view x)) c.in-Counted.is) (rw c.deref-in-Counted.ensures at c.by_count.ensures)

pub expanded-returns-in_ok-values-in-Constant : goal.expanded-returns-in_ok-values-in-Constant
unfolding definition.vector
expanded-returns-in_ok-values-in-Constant t c =
    ap (λ x. definition.vector (site_view c.args.self.now) (vector_view x)) c.in-Constant.is ∙ on (λ vs. given (bodies.constant vs)) _ _ c.in_ok-values-in-Constant.ensures ∙ ap given (sym c.constant.ensures)

pub expanded-returns-in_err-values-in-Constant : goal.expanded-returns-in_err-values-in-Constant
unfolding definition.vector
expanded-returns-in_err-values-in-Constant t c =
    passed_on _ _ c.in_err-values-in-Constant.field-0.0 _ c.from_residual.result c.from_residual.ensures.1 (λ e p. p)
    (λ n. ap (λ x. definition.vector (site_view c.args.self.now) (vector_view x)) c.in-Constant.is ∙ on (λ vs. given (bodies.constant vs)) _ _ (c.in_err-values-in-Constant.ensures n))

pub expanded-returns-in_err-operand-in-Not : goal.expanded-returns-in_err-operand-in-Not
unfolding definition.vector
expanded-returns-in_err-operand-in-Not t c =
    passed_on _ _ c.in_err-operand-in-Not.field-0.0 _ c.from_residual-in_err-operand-in-Not.result c.from_residual-in_err-operand-in-Not.ensures.1 (λ e p. p)
    (λ n. ap (λ x. definition.vector (site_view c.args.self.now) (vector_view x)) c.in-Not.is ∙ on (λ e. given (bodies.inverse e)) _ _ (rw c.deref-in-Not.ensures at (c.in_err-operand-in-Not.ensures n)))

pub expanded-returns-in_ok-inverse-in-Not : goal.expanded-returns-in_ok-inverse-in-Not
unfolding definition.vector
expanded-returns-in_ok-inverse-in-Not t c =
    ap (λ x. definition.vector (site_view c.args.self.now) (vector_view x)) c.in-Not.is ∙ on (λ e. given (bodies.inverse e)) _ _ (rw c.deref-in-Not.ensures at c.in_ok-operand-in-Not.ensures) ∙ ap given (sym c.in_ok-inverse-in-Not.ensures)

-- ---- aggregates

pub aggregate-returns-in_err-all : goal.aggregate-returns-in_err-all
unfolding definition.vector
aggregate-returns-in_err-all t c =
    let here = site_view c.args.self.now in
    passed_on _ _ c.in_err-all.field-0.0 _ c.from_residual.result c.from_residual.ensures.1 (λ e p. p)
    (λ n. on (λ all. definition.elements here c.args.at all [] (elements_view c.args.elements.now) >>= λ xs. composed c.args.at all xs) _ _ (c.in_err-all.ensures n))

pub aggregate-returns-in_err-placed : goal.aggregate-returns-in_err-placed
unfolding definition.vector
aggregate-returns-in_err-placed t c =
    let here = site_view c.args.self.now in
    passed_on _ _ c.in_err-placed.field-0.0 _ c.from_residual-in_err-placed.result c.from_residual-in_err-placed.ensures.1 (λ e p. p)
    (λ n. on (λ all. definition.elements here c.args.at all [] (elements_view c.args.elements.now) >>= λ xs. composed c.args.at all xs) _ _ c.in_ok-all.ensures
    ∙ on (λ xs. composed c.args.at (option_map indexes_view c.in_ok-all.all) xs) _ _ (c.in_err-placed.ensures n))

pub aggregate-returns : goal.aggregate-returns
unfolding definition.vector
aggregate-returns t c =
    let here = site_view c.args.self.now in
    expands_along operand_view _ _ _
    (on (λ all. definition.elements here c.args.at all [] (elements_view c.args.elements.now) >>= λ xs. composed c.args.at all xs) _ _ c.in_ok-all.ensures
    ∙ on (λ xs. composed c.args.at (option_map indexes_view c.in_ok-all.all) xs) _ _ c.in_ok-placed.ensures)
    (rw c.deref.ensures.value at c.composed.ensures)

pub placed_elements-loop-element-preserved : goal.placed_elements-loop-element-preserved
placed_elements-loop-element-preserved t c =
    let here = site_view c.args.self.now in
    let all = option_map indexes_view c.args.all.now in
    let i = c.loop-element.element-index in
    let last : is_last c.element-item.result ≡ false = first_of (search rules, grind (arith, common_steps)) in
    elements_go here c.args.at all _ (map placed_view c.loop-element.placed.items) c.loop-element.taken.items c.args.elements.now i c.loop-element.invariant c.element-item.result _
    c.loop-element-test.true c.element-item.is last c.in_ok-next.ensures
    ∙ ap (λ ys. behind ys (definition.elements here c.args.at all c.placed_element.new.taken.items (elements_view (drop (i + 1) c.args.elements.now))))
    (sym (ap (map placed_view) c.in_ok-push.ensures.items ∙ map-append placed_view c.loop-element.placed.items (c.in_ok-next.next ∷ [])))

pub placed_elements-returns-in-Others : goal.placed_elements-returns-in-Others
placed_elements-returns-in-Others t c =
    let here = site_view c.args.self.now in
    let all = option_map indexes_view c.args.all.now in
    let last : is_last c.element-item.result ≡ true = ap is_last c.in-Others.is in
    elements_last here c.args.at all _ (map placed_view c.loop-element.placed.items) c.loop-element.taken.items c.args.elements.now c.loop-element.element-index c.loop-element.invariant
    c.element-item.result _ c.loop-element-test.true c.element-item.is last c.in_ok-next.ensures
    ∙ ap given (sym (ap (map placed_view) c.in_ok-push.ensures.items ∙ map-append placed_view c.loop-element.placed.items (c.in_ok-next.next ∷ [])))

pub placed_elements-returns-in_err-next : goal.placed_elements-returns-in_err-next
placed_elements-returns-in_err-next t c =
    let here = site_view c.args.self.now in
    let all = option_map indexes_view c.args.all.now in
    passed_on _ _ c.in_err-next.field-0.0 _ c.from_residual.result c.from_residual.ensures.1 (λ e p. p)
    (λ n. elements_stop here c.args.at all _ (map placed_view c.loop-element.placed.items) c.loop-element.taken.items c.args.elements.now c.loop-element.element-index c.loop-element.invariant
    c.element-item.result c.loop-element-test.true c.element-item.is (c.in_err-next.ensures n))

pub placed_elements-returns : goal.placed_elements-returns
placed_elements-returns t c =
    elements_end (site_view c.args.self.now) c.args.at (option_map indexes_view c.args.all.now) _ (map placed_view c.loop-element.placed.items) c.loop-element.taken.items c.args.elements.now
    c.loop-element.element-index c.loop-element.invariant (omega arith)

pub expanded-returns-in-Aggregate : goal.expanded-returns-in-Aggregate
expanded-returns-in-Aggregate t c =
    expands_along operand_view _ _ _
    (aggregate_is (site_view c.args.self.now) c.args.vector.now c.in-Aggregate.at c.in-Aggregate.range c.in-Aggregate.elements _ _ c.in-Aggregate.is (sym c.lent_range.ensures) c.deref-in-Aggregate.ensures.value)
    c.aggregate.ensures

-- ---- integers that a run computes

pub computed-returns-in_err-first-in-Chain : goal.computed-returns-in_err-first-in-Chain
computed-returns-in_err-first-in-Chain t c =
    let here = site_view c.args.self.now in
    passed_on _ _ c.in_err-first-in-Chain.field-0.0 _ c.from_residual-in_err-first-in-Chain.result c.from_residual-in_err-first-in-Chain.ensures.1 (λ e p. p)
    (λ n. chain_stops (numbers.linked here) _ _ c.in-Chain.links.items (computed_is here c.args.at c.args.integer.now c.in-Chain.start c.in-Chain.links _ _ c.in-Chain.is refl refl)
    (on (λ d. numbers.linked here d c.in-Chain.start.value.link) _ _ (rw (c.deref-in-Chain.ensures, c.deref-in-Chain-2.ensures) at (c.in_err-first-in-Chain.ensures n))))

pub computed-returns-in_err-begun-in-Chain : goal.computed-returns-in_err-begun-in-Chain
computed-returns-in_err-begun-in-Chain t c =
    let here = site_view c.args.self.now in
    passed_on _ _ c.in_err-begun-in-Chain.field-0.0 _ c.from_residual-in_err-begun-in-Chain.result c.from_residual-in_err-begun-in-Chain.ensures.1 (λ e p. p)
    (λ n. chain_stops (numbers.linked here) _ _ c.in-Chain.links.items (computed_is here c.args.at c.args.integer.now c.in-Chain.start c.in-Chain.links _ _ c.in-Chain.is refl refl)
    (on (λ d. numbers.linked here d c.in-Chain.start.value.link) _ _ (rw (c.deref-in-Chain.ensures, c.deref-in-Chain-2.ensures) at c.in_ok-first-in-Chain.ensures)
    ∙ (rw (c.deref-in-Chain-3.ensures) at (c.in_err-begun-in-Chain.ensures n))))

pub computed-returns-in_ok-begun-in-Chain : goal.computed-returns-in_ok-begun-in-Chain
computed-returns-in_ok-begun-in-Chain t c =
    let here = site_view c.args.self.now in
    expands_along number_view _ _ _
    (chain_goes (numbers.linked here) _ _ c.deref-in-Chain-4.result.now _ (computed_is here c.args.at c.args.integer.now c.in-Chain.start c.in-Chain.links _ _ c.in-Chain.is refl c.deref-in-Chain-4.ensures.value)
    (on (λ d. numbers.linked here d c.in-Chain.start.value.link) _ _ (rw (c.deref-in-Chain.ensures, c.deref-in-Chain-2.ensures) at c.in_ok-first-in-Chain.ensures)
    ∙ (rw (c.deref-in-Chain-3.ensures) at c.in_ok-begun-in-Chain.ensures)))
    c.all_linked.ensures

pub measured-returns-in_err-first-in-Chain : goal.measured-returns-in_err-first-in-Chain
measured-returns-in_err-first-in-Chain t c =
    let here = site_view c.args.self.now in
    passed_on _ _ c.in_err-first-in-Chain.field-0.0 _ c.from_residual-in_err-first-in-Chain.result c.from_residual-in_err-first-in-Chain.ensures.1 (λ e p. p)
    (λ n. chain_stops (numbers.measured_linked here) _ _ c.in-Chain.links.items (measured_is here c.args.at c.args.integer.now c.in-Chain.start c.in-Chain.links _ _ c.in-Chain.is refl refl)
    (on (λ d. numbers.measured_linked here d c.in-Chain.start.value.link) _ _ (rw (c.deref-in-Chain.ensures, c.deref-in-Chain-2.ensures) at (c.in_err-first-in-Chain.ensures n))))

pub measured-returns-in_err-done-in-Chain : goal.measured-returns-in_err-done-in-Chain
measured-returns-in_err-done-in-Chain t c =
    let here = site_view c.args.self.now in
    passed_on _ _ c.in_err-done-in-Chain.field-0.0 _ c.from_residual-in_err-done-in-Chain.result c.from_residual-in_err-done-in-Chain.ensures.1 (λ e p. p)
    (λ n. chain_stops (numbers.measured_linked here) _ _ c.in-Chain.links.items (measured_is here c.args.at c.args.integer.now c.in-Chain.start c.in-Chain.links _ _ c.in-Chain.is refl refl)
    (on (λ d. numbers.measured_linked here d c.in-Chain.start.value.link) _ _ (rw (c.deref-in-Chain.ensures, c.deref-in-Chain-2.ensures) at c.in_ok-first-in-Chain.ensures)
    ∙ (rw (c.deref-in-Chain-3.ensures) at (c.in_err-done-in-Chain.ensures n))))

pub measured-loop-link-init : goal.measured-loop-link-init
measured-loop-link-init t c =
    let here = site_view c.args.self.now in
    chain_goes (numbers.measured_linked here) _ _ c.deref-link-items.result.now _ (measured_is here c.args.at c.args.integer.now c.in-Chain.start c.in-Chain.links _ _ c.in-Chain.is refl c.deref-link-items.ensures.value)
    (on (λ d. numbers.measured_linked here d c.in-Chain.start.value.link) _ _ (rw (c.deref-in-Chain.ensures, c.deref-in-Chain-2.ensures) at c.in_ok-first-in-Chain.ensures)
    ∙ (rw (c.deref-in-Chain-3.ensures) at c.in_ok-done-in-Chain.ensures))
