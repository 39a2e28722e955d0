use Rattle.std.proofs.Common.{◌++◌, refl, ap, ◌∙◌}
use Rattle.std.specs.Prelude.{flat_map}
use Rattle.vhdl_names_trees.specs.declared.test.Test.{Test}
use Rattle.vhdl_names_trees.specs.declared.test.TestStart.{TestStart}
use Rattle.vhdl_names_trees.specs.views.Tests.{test_view}
use Rattle.vhdl_expand_rules.specs.Prefixes.{test_names}
use Rattle.vhdl_expand_processes.specs.Names.{test_link_names}
use Rattle.vhdl_expand_processes.proofs.Gathering.{nothing_more, adds_along, adds_both, left_next, left_none}
use Rattle.vhdl_expand_processes.proofs.Reading.{test_chain_names, chain_adds}
use Rattle.vhdl_expand_processes.proofs.names.+conditions.Goals as goal

pub of_test-returns-in-Holds : goal.of_test-returns-in-Holds
of_test-returns-in-Holds t c =
    adds_along c.args.found.now c.of_vector.new.found _ _ (ap (λ (x : Test). test_names (test_view x)) c.in-Holds.is) c.of_vector.ensures

pub of_test-returns-in-Fixed : goal.of_test-returns-in-Fixed
of_test-returns-in-Fixed t c =
    nothing_more c.args.found.now _ (ap (λ (x : Test). test_names (test_view x)) c.in-Fixed.is)

pub of_test-returns-in-Edge : goal.of_test-returns-in-Edge
of_test-returns-in-Edge t c =
    adds_along c.args.found.now c.add_place.new.self _ _ (ap (λ (x : Test). test_names (test_view x)) c.in-Edge.is) c.add_place.ensures

pub of_test-returns-in-Event : goal.of_test-returns-in-Event
of_test-returns-in-Event t c =
    adds_along c.args.found.now c.add_place-in-Event.new.self _ _ (ap (λ (x : Test). test_names (test_view x)) c.in-Event.is) c.add_place-in-Event.ensures

pub of_test-returns-in-Alike : goal.of_test-returns-in-Alike
of_test-returns-in-Alike t c =
    adds_along c.args.found.now c.of_values.new.found _ _ (ap (λ (x : Test). test_names (test_view x)) c.in-Alike.is) (rw (c.deref.ensures, c.deref-in-Alike.ensures) at c.of_values.ensures)

pub of_test-returns-in-Unlike : goal.of_test-returns-in-Unlike
of_test-returns-in-Unlike t c =
    adds_along c.args.found.now c.of_values-in-Unlike.new.found _ _ (ap (λ (x : Test). test_names (test_view x)) c.in-Unlike.is) (rw (c.deref-in-Unlike.ensures, c.deref-in-Unlike-2.ensures) at c.of_values-in-Unlike.ensures)

pub of_test-returns-in-Compared : goal.of_test-returns-in-Compared
of_test-returns-in-Compared t c =
    adds_along c.args.found.now c.of_vectors.new.found _ _ (ap (λ (x : Test). test_names (test_view x)) c.in-Compared.is) (rw (c.deref-in-Compared.ensures, c.deref-in-Compared-2.ensures) at c.of_vectors.ensures)

pub of_test-returns-in-ComparedTo : goal.of_test-returns-in-ComparedTo
of_test-returns-in-ComparedTo t c =
    adds_along c.args.found.now c.of_vector-in-ComparedTo.new.found _ _ (ap (λ (x : Test). test_names (test_view x)) c.in-ComparedTo.is) (rw (c.deref-in-ComparedTo.ensures) at c.of_vector-in-ComparedTo.ensures)

pub of_test-returns-in-ComparedWith : goal.of_test-returns-in-ComparedWith
of_test-returns-in-ComparedWith t c =
    adds_along c.args.found.now c.of_vector-in-ComparedWith.new.found _ _ (ap (λ (x : Test). test_names (test_view x)) c.in-ComparedWith.is) (rw (c.deref-in-ComparedWith.ensures) at c.of_vector-in-ComparedWith.ensures)

pub of_test-returns-in-ComparedToComputed : goal.of_test-returns-in-ComparedToComputed
of_test-returns-in-ComparedToComputed t c =
    adds_both c.args.found.now c.of_vector-in-ComparedToComputed.new.found c.of_computed.new.found _ _ _ (ap (λ (x : Test). test_names (test_view x)) c.in-ComparedToComputed.is)
    (rw (c.deref-in-ComparedToComputed.ensures) at c.of_vector-in-ComparedToComputed.ensures) (rw (c.deref-in-ComparedToComputed-2.ensures) at c.of_computed.ensures)

pub of_test-returns-in-ComparedWithComputed : goal.of_test-returns-in-ComparedWithComputed
of_test-returns-in-ComparedWithComputed t c =
    adds_both c.args.found.now c.of_computed-in-ComparedWithComputed.new.found c.of_vector-in-ComparedWithComputed.new.found _ _ _ (ap (λ (x : Test). test_names (test_view x)) c.in-ComparedWithComputed.is)
    (rw (c.deref-in-ComparedWithComputed.ensures) at c.of_computed-in-ComparedWithComputed.ensures) (rw (c.deref-in-ComparedWithComputed-2.ensures) at c.of_vector-in-ComparedWithComputed.ensures)

pub of_test-returns-in-ComputedCompared : goal.of_test-returns-in-ComputedCompared
of_test-returns-in-ComputedCompared t c =
    adds_both c.args.found.now c.of_computed-in-ComputedCompared.new.found c.of_computed-in-ComputedCompared-2.new.found _ _ _ (ap (λ (x : Test). test_names (test_view x)) c.in-ComputedCompared.is)
    (rw (c.deref-in-ComputedCompared.ensures) at c.of_computed-in-ComputedCompared.ensures) (rw (c.deref-in-ComputedCompared-2.ensures) at c.of_computed-in-ComputedCompared-2.ensures)

pub of_test-returns-in-Not : goal.of_test-returns-in-Not
of_test-returns-in-Not t c =
    adds_along c.args.found.now c.of_test.new.found _ _ (ap (λ (x : Test). test_names (test_view x)) c.in-Not.is) (rw (c.deref-in-Not.ensures) at c.of_test.ensures)

pub of_test-returns-in-Chain : goal.of_test-returns-in-Chain
of_test-returns-in-Chain t c =
    chain_adds (λ (s : TestStart) ls. (test_names (test_view s.first) ++ test_link_names s.link) ++ flat_map test_link_names ls) _ c.in-Chain.start.value _ c.in-Chain.links.items _ c.args.found.now c.of_test_links.new.found
    (ap (λ (x : Test). test_names (test_view x)) c.in-Chain.is ∙ test_chain_names c.in-Chain.start c.in-Chain.links) c.deref-in-Chain.ensures c.deref-in-Chain-2.ensures.value
    (adds_both c.args.found.now c.of_test_start.new.found c.of_test_links.new.found _ _ _ refl c.of_test_start.ensures c.of_test_links.ensures)

pub of_test_start-returns : goal.of_test_start-returns
of_test_start-returns t c =
    adds_both c.args.found.now c.of_test.new.found c.of_test-2.new.found _ _ _ refl c.of_test.ensures c.of_test-2.ensures

pub of_test_links-loop-item-init : goal.of_test_links-loop-item-init
of_test_links-loop-item-init t c =
    λ n. (n, refl)

pub of_test_links-loop-item-preserved : goal.of_test_links-loop-item-preserved
of_test_links-loop-item-preserved t c =
    left_next test_link_names c.args.found.now c.args.list.now c.loop-item.found c.of_test.new.found c.loop-item.item-index c.item-item.result c.loop-item-test.true c.item-item.is c.loop-item.invariant c.of_test.ensures

pub of_test_links-returns : goal.of_test_links-returns
of_test_links-returns t c =
    left_none test_link_names c.args.found.now c.args.list.now c.loop-item.found c.loop-item.item-index c.loop-item-test.false c.loop-item.invariant
