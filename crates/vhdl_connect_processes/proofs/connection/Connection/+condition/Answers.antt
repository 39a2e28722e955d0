use Rattle.std.proofs.Common.{refl, ap, ◌∙◌}
use Rattle.rtl_model.specs.bodies.Body as bodies
use Rattle.rtl_net.specs.declared.body.Test.TheVariants as vt
use Rattle.rtl_net.specs.Bodies.{test_view, test_links_of}
use Rattle.rtl_net.proofs.Rows.{view_combined}
use Rattle.vhdl_connect_processes.specs.Connected.{test_link_view, test_link_in, test_in}
use Rattle.vhdl_connect_processes.proofs.Nodes.{on_both, pair_becomes}
use Rattle.vhdl_connect_processes.proofs.Parts.{node_becomes, tests_in}
use Rattle.vhdl_connect_processes.proofs.connection.Connection.+condition.Goals as goal

pub connect_test-returns-in-Equal : goal.connect_test-returns-in-Equal
connect_test-returns-in-Equal t c =
    pair_becomes c.args.self.now bodies.equal vt.Equal (λ a b. refl) (λ v w. refl) c.connect_values.result c.args.test.now _ _ _ _ c.connect_values.new.left c.connect_values.new.right
    c.in-Equal.is c.in-Equal.left-is c.in-Equal.right-is c.connect_values.ensures.left c.connect_values.ensures.right

pub connect_test-returns-in-Unequal : goal.connect_test-returns-in-Unequal
connect_test-returns-in-Unequal t c =
    pair_becomes c.args.self.now bodies.unequal vt.Unequal (λ a b. refl) (λ v w. refl) c.connect_values-in-Unequal.result c.args.test.now _ _ _ _ c.connect_values-in-Unequal.new.left c.connect_values-in-Unequal.new.right
    c.in-Unequal.is c.in-Unequal.left-is c.in-Unequal.right-is c.connect_values-in-Unequal.ensures.left c.connect_values-in-Unequal.ensures.right

pub connect_test-returns-in-Combined : goal.connect_test-returns-in-Combined
connect_test-returns-in-Combined t c =
    on_both c.connect_test-in-Combined.result c.connect_tests.result c.and.result c.and.ensures c.connect_test-in-Combined.ensures c.connect_tests.ensures
    (node_becomes test_view test_links_of (test_in c.args.self.now) test_link_view (test_link_in c.args.self.now) vt.Combined view_combined (tests_in c.args.self.now) c.args.test.now c.in-Combined.first (record c.in-Combined.first { value = c.connect_test-in-Combined.new.test }) c.in-Combined.rest _ _ _ _
    c.in-Combined.is (c.deref_mut-in-Combined.ensures.value ∙ ap (λ b. b.value) c.in-Combined.first-is) (c.deref_mut-in-Combined-2.ensures.value ∙ ap (λ v. v.items) c.in-Combined.rest-is) (c.connect_tests.auto.links ∙ c.deref_mut-in-Combined-2.ensures.len))
