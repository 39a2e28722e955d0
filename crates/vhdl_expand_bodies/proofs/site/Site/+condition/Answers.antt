use Rattle.std.proofs.Common.{◌≡◌, ℕ, refl, sym, ap, ◌∙◌, arith}
use Rattle.rtl_net.specs.Bodies as net
use Rattle.rtl_model.specs.bodies.Body as bodies
use Rattle.vhdl_values.specs.declared.scalar.Nine.{Nine}
use Rattle.vhdl_names_rules.specs.units.Expressions as u
use Rattle.vhdl_names_rules.specs.units.Expressions.{SignalPart, Vector, Value}
use Rattle.vhdl_names_trees.specs.views.Tests.{test_view}
use Rattle.vhdl_names_trees.specs.views.Vectors.{vector_view, value_view}
use Rattle.vhdl_expand_rules.specs.Site.{Site}
use Rattle.vhdl_expand_rules.specs.Expressions as definition
use Rattle.vhdl_expand_rules.proofs.Steps.{given}
use Rattle.vhdl_expand_bodies.specs.Sites.{site_view}
use Rattle.vhdl_expand_bodies.specs.steps.Tests as steps
use Rattle.vhdl_expand_operands.proofs.Passing.{expands_along, passed_on, on}
use Rattle.vhdl_expand_bodies.proofs.TestChains.{chain_is, link_given}
use Rattle.vhdl_expand_bodies.proofs.Chained.{chain_goes, chain_stops, more_stops, next_goes, next_stops}
use Rattle.vhdl_expand_rules.specs.Elab.{◌>>=◌}
use Rattle.vhdl_expand_bodies.proofs.site.Site.+condition.Goals as goal

pub expanded_test-returns-in_err-chain-in-Chain : goal.expanded_test-returns-in_err-chain-in-Chain
expanded_test-returns-in_err-chain-in-Chain t c =
    passed_on _ _ c.in_err-chain-in-Chain.field-0.0 _ c.from_residual-in_err-chain-in-Chain.result c.from_residual-in_err-chain-in-Chain.ensures.1 (λ e p. p)
    (λ n. chain_stops (steps.linked (site_view c.args.self.now)) _ _ c.in-Chain.links.items (chain_is (site_view c.args.self.now) c.args.test.now c.in-Chain.start c.in-Chain.links _ _ c.in-Chain.is c.deref-in-Chain.ensures refl) (c.in_err-chain-in-Chain.ensures n))

pub expanded_test-returns-in_err-add_tests-in-Chain : goal.expanded_test-returns-in_err-add_tests-in-Chain
expanded_test-returns-in_err-add_tests-in-Chain t c =
    passed_on _ _ c.in_err-add_tests-in-Chain.field-0.0 _ c.from_residual-in_err-add_tests-in-Chain.result c.from_residual-in_err-add_tests-in-Chain.ensures.1 (λ e p. p)
    (λ n. more_stops (steps.linked (site_view c.args.self.now)) _ _ c.deref-in-Chain-2.result.now _ (chain_is (site_view c.args.self.now) c.args.test.now c.in-Chain.start c.in-Chain.links _ _ c.in-Chain.is c.deref-in-Chain.ensures c.deref-in-Chain-2.ensures.value)
    c.in_ok-chain-in-Chain.ensures (c.in_err-add_tests-in-Chain.ensures n))

pub expanded_test-returns-in_ok-add_tests-in-Chain : goal.expanded_test-returns-in_ok-add_tests-in-Chain
expanded_test-returns-in_ok-add_tests-in-Chain t c =
    chain_goes (steps.linked (site_view c.args.self.now)) _ _ c.deref-in-Chain-2.result.now _ (chain_is (site_view c.args.self.now) c.args.test.now c.in-Chain.start c.in-Chain.links _ _ c.in-Chain.is c.deref-in-Chain.ensures c.deref-in-Chain-2.ensures.value) c.in_ok-chain-in-Chain.ensures
    ∙ c.in_ok-add_tests-in-Chain.ensures ∙ ap given (sym c.whole.ensures)

pub add_tests-loop-link-preserved : goal.add_tests-loop-link-preserved
add_tests-loop-link-preserved t c =
    next_goes (steps.linked (site_view c.args.self.now)) _ _ _ c.args.links.now c.loop-link.link-index c.link-item.result (omega arith) c.link-item.is c.loop-link.invariant c.in_ok-add_test.ensures

pub add_tests-returns-in_err-add_test : goal.add_tests-returns-in_err-add_test
add_tests-returns-in_err-add_test t c =
    passed_on _ _ c.in_err-add_test.field-0.0 _ c.from_residual.result c.from_residual.ensures.1 (λ e p. p)
    (λ n. next_stops (steps.linked (site_view c.args.self.now)) _ _ c.args.links.now c.loop-link.link-index c.link-item.result (omega arith) c.link-item.is c.loop-link.invariant (c.in_err-add_test.ensures n))

pub add_test-returns : goal.add_test-returns
add_test-returns t c =
    link_given (site_view c.args.self.now) (net.test_view c.args.chain.now.first.value) c.args.chain.now.rest.items c.push.new.self.items c.args.link.now _
    c.in_ok-operand.ensures refl c.in_ok-push.ensures.items

-- ---- the forms of a condition but chains

pub expanded_test-returns-in_ok-operand-in-Holds : goal.expanded_test-returns-in_ok-operand-in-Holds
unfolding definition.test
expanded_test-returns-in_ok-operand-in-Holds t c =
    ap (λ x. definition.test (site_view c.args.self.now) (test_view x)) c.in-Holds.is
    ∙ on (λ e. given (bodies.condition e)) _ _ c.in_ok-operand-in-Holds.ensures

pub expanded_test-returns-in_err-operand-in-Holds : goal.expanded_test-returns-in_err-operand-in-Holds
unfolding definition.test
expanded_test-returns-in_err-operand-in-Holds t c =
    passed_on _ _ c.in_err-operand-in-Holds.field-0.0 _ c.from_residual.result c.from_residual.ensures.1 (λ e p. p)
    (λ n. ap (λ x. definition.test (site_view c.args.self.now) (test_view x)) c.in-Holds.is
    ∙ on (λ e. given (bodies.condition e)) _ _ (c.in_err-operand-in-Holds.ensures n))

pub expanded_test-returns-in_ok-holds-in-Fixed : goal.expanded_test-returns-in_ok-holds-in-Fixed
unfolding definition.test
expanded_test-returns-in_ok-holds-in-Fixed t c =
    ap (λ x. definition.test (site_view c.args.self.now) (test_view x)) c.in-Fixed.is
    ∙ on (λ e. given (bodies.decided e)) _ _ c.in_ok-holds-in-Fixed.ensures

pub expanded_test-returns-in_err-holds-in-Fixed : goal.expanded_test-returns-in_err-holds-in-Fixed
unfolding definition.test
expanded_test-returns-in_err-holds-in-Fixed t c =
    passed_on _ _ c.in_err-holds-in-Fixed.field-0.0 _ c.from_residual-in_err-holds-in-Fixed.result c.from_residual-in_err-holds-in-Fixed.ensures.1 (λ e p. p)
    (λ n. ap (λ x. definition.test (site_view c.args.self.now) (test_view x)) c.in-Fixed.is
    ∙ on (λ e. given (bodies.decided e)) _ _ c.in_err-holds-in-Fixed.ensures)

-- equality of two values, as the code comes to it, is equality as it is defined
module _ (here : Site) (at : ℕ) where
  -- a name and any value
  of_name : (p : SignalPart) (w : Value) → steps.alike here at (u.Value.elements (u.of_signal p)) w ≡ definition.alike here at (u.Value.elements (u.of_signal p)) w
  of_name p (u.Value.elements (u.of_signal q)) = refl
  of_name p _ = refl

  -- a character literal and any value
  of_character : (x : Nine) (w : Value) → steps.alike here at (u.Value.elements (u.character x)) w ≡ definition.alike here at (u.Value.elements (u.character x)) w
  of_character x (u.Value.elements (u.of_signal q)) = refl
  of_character x _ = refl

  -- an enclosed one and any value
  of_enclosed : (x : Nine) (w : Value) → steps.alike here at (u.Value.elements (u.enclosed_character x)) w ≡ definition.alike here at (u.Value.elements (u.enclosed_character x)) w
  of_enclosed x (u.Value.elements (u.of_signal q)) = refl
  of_enclosed x _ = refl

  of_vector : (x : Vector) (w : Value) → steps.alike here at (u.Value.elements x) w ≡ definition.alike here at (u.Value.elements x) w
  of_vector (u.of_signal q) w = of_name q w
  of_vector (u.character y) w = of_character y w
  of_vector (u.enclosed_character y) w = of_enclosed y w
  of_vector _ w = refl

  same_alike : (v w : Value) → steps.alike here at v w ≡ definition.alike here at v w
  same_alike (u.Value.elements x) w = of_vector x w
  same_alike _ w = refl

pub expanded_test-returns-in-Alike : goal.expanded_test-returns-in-Alike
unfolding definition.test
expanded_test-returns-in-Alike t c =
    expands_along net.test_view _ _ _ (ap (λ x. definition.test (site_view c.args.self.now) (test_view x)) c.in-Alike.is
    ∙ sym (same_alike (site_view c.args.self.now) _ (value_view c.in-Alike.left.value) (value_view c.in-Alike.right.value)))
    (rw (c.deref.ensures, c.deref-in-Alike.ensures) at c.alike.ensures)

pub expanded_test-returns-in-Unlike : goal.expanded_test-returns-in-Unlike
unfolding definition.test
expanded_test-returns-in-Unlike t c = expands_along net.test_view _ _ _ (ap (λ x. definition.test (site_view c.args.self.now) (test_view x)) c.in-Unlike.is)
    (rw (c.deref-in-Unlike.ensures, c.deref-in-Unlike-2.ensures) at c.unlike.ensures)

pub expanded_test-returns-in-Compared : goal.expanded_test-returns-in-Compared
unfolding definition.test
expanded_test-returns-in-Compared t c = expands_along net.test_view _ _ _ (ap (λ x. definition.test (site_view c.args.self.now) (test_view x)) c.in-Compared.is)
    (rw (c.deref-in-Compared.ensures, c.deref-in-Compared-2.ensures) at c.compared.ensures)

pub expanded_test-returns-in-ComparedTo : goal.expanded_test-returns-in-ComparedTo
unfolding definition.test
expanded_test-returns-in-ComparedTo t c = expands_along net.test_view _ _ _ (ap (λ x. definition.test (site_view c.args.self.now) (test_view x)) c.in-ComparedTo.is)
    (rw (c.deref-in-ComparedTo.ensures) at c.compared_to.ensures)

pub expanded_test-returns-in_err-number-in-ComparedWith : goal.expanded_test-returns-in_err-number-in-ComparedWith
unfolding definition.test
expanded_test-returns-in_err-number-in-ComparedWith t c =
    passed_on _ _ c.in_err-number-in-ComparedWith.field-0.0 _ c.from_residual-in_err-number-in-ComparedWith.result c.from_residual-in_err-number-in-ComparedWith.ensures.1 (λ e p. p)
    (λ n. ap (λ x. definition.test (site_view c.args.self.now) (test_view x)) c.in-ComparedWith.is
    ∙ on (λ m. definition.vector (site_view c.args.self.now) (vector_view c.in-ComparedWith.vector.value) >>= λ e. given (bodies.compared_to (definition.converse_of c.in-ComparedWith.relation) e m)) _ _ c.in_err-number-in-ComparedWith.ensures)

pub expanded_test-returns-in_err-operand-in-ComparedWith : goal.expanded_test-returns-in_err-operand-in-ComparedWith
unfolding definition.test
expanded_test-returns-in_err-operand-in-ComparedWith t c =
    passed_on _ _ c.in_err-operand-in-ComparedWith.field-0.0 _ c.from_residual-in_err-operand-in-ComparedWith.result c.from_residual-in_err-operand-in-ComparedWith.ensures.1 (λ e p. p)
    (λ n. ap (λ x. definition.test (site_view c.args.self.now) (test_view x)) c.in-ComparedWith.is
    ∙ on (λ m. definition.vector (site_view c.args.self.now) (vector_view c.in-ComparedWith.vector.value) >>= λ e. given (bodies.compared_to (definition.converse_of c.in-ComparedWith.relation) e m)) _ _ c.in_ok-number-in-ComparedWith.ensures
    ∙ on (λ e. given (bodies.compared_to (definition.converse_of c.in-ComparedWith.relation) e c.in_ok-number-in-ComparedWith.number)) _ _ (rw (c.deref-in-ComparedWith.ensures) at (c.in_err-operand-in-ComparedWith.ensures n)))

pub expanded_test-returns-in_ok-operand-in-ComparedWith : goal.expanded_test-returns-in_ok-operand-in-ComparedWith
unfolding definition.test
expanded_test-returns-in_ok-operand-in-ComparedWith t c =
    ap (λ x. definition.test (site_view c.args.self.now) (test_view x)) c.in-ComparedWith.is
    ∙ on (λ m. definition.vector (site_view c.args.self.now) (vector_view c.in-ComparedWith.vector.value) >>= λ e. given (bodies.compared_to (definition.converse_of c.in-ComparedWith.relation) e m)) _ _ c.in_ok-number-in-ComparedWith.ensures
    ∙ on (λ e. given (bodies.compared_to (definition.converse_of c.in-ComparedWith.relation) e c.in_ok-number-in-ComparedWith.number)) _ _ (rw (c.deref-in-ComparedWith.ensures) at c.in_ok-operand-in-ComparedWith.ensures)
    ∙ ap (λ r. given (bodies.compared_to r (net.expr_view c.in_ok-operand-in-ComparedWith.operand.expr) c.in_ok-number-in-ComparedWith.number)) (sym c.turned.ensures)

pub expanded_test-returns-in_err-element-in-Edge : goal.expanded_test-returns-in_err-element-in-Edge
unfolding definition.test
expanded_test-returns-in_err-element-in-Edge t c =
    passed_on _ _ c.in_err-element-in-Edge.field-0.0 _ c.from_residual-in_err-element-in-Edge.result c.from_residual-in_err-element-in-Edge.ensures.1 (λ e p. p)
    (λ n. ap (λ x. definition.test (site_view c.args.self.now) (test_view x)) c.in-Edge.is
    ∙ on (λ e. given (definition.edge_test c.in-Edge.edge e)) _ _ (c.in_err-element-in-Edge.ensures n))

pub expanded_test-returns-in_ok-edge_test-in-Edge : goal.expanded_test-returns-in_ok-edge_test-in-Edge
unfolding definition.test
expanded_test-returns-in_ok-edge_test-in-Edge t c =
    ap (λ x. definition.test (site_view c.args.self.now) (test_view x)) c.in-Edge.is
    ∙ on (λ e. given (definition.edge_test c.in-Edge.edge e)) _ _ c.in_ok-element-in-Edge.ensures ∙ ap given (sym c.in_ok-edge_test-in-Edge.ensures)

pub expanded_test-returns-in_err-element-in-Event : goal.expanded_test-returns-in_err-element-in-Event
unfolding definition.test
expanded_test-returns-in_err-element-in-Event t c =
    passed_on _ _ c.in_err-element-in-Event.field-0.0 _ c.from_residual-in_err-element-in-Event.result c.from_residual-in_err-element-in-Event.ensures.1 (λ e p. p)
    (λ n. ap (λ x. definition.test (site_view c.args.self.now) (test_view x)) c.in-Event.is
    ∙ on (λ e. given (bodies.event e)) _ _ (c.in_err-element-in-Event.ensures n))

pub expanded_test-returns-in_ok-element-in-Event : goal.expanded_test-returns-in_ok-element-in-Event
unfolding definition.test
expanded_test-returns-in_ok-element-in-Event t c =
    ap (λ x. definition.test (site_view c.args.self.now) (test_view x)) c.in-Event.is
    ∙ on (λ e. given (bodies.event e)) _ _ c.in_ok-element-in-Event.ensures

pub expanded_test-returns-in_err-operand-in-Not : goal.expanded_test-returns-in_err-operand-in-Not
unfolding definition.test
expanded_test-returns-in_err-operand-in-Not t c =
    passed_on _ _ c.in_err-operand-in-Not.field-0.0 _ c.from_residual-in_err-operand-in-Not.result c.from_residual-in_err-operand-in-Not.ensures.1 (λ e p. p)
    (λ n. ap (λ x. definition.test (site_view c.args.self.now) (test_view x)) c.in-Not.is
    ∙ on (λ e. given (bodies.negated e)) _ _ (rw (c.deref-in-Not.ensures) at (c.in_err-operand-in-Not.ensures n)))
