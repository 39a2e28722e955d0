use Rattle.std.proofs.Common.{List, map, Some, sym, ap, ◌∙◌}
use Rattle.vhdl_names_trees.specs.declared.test.Test.{Test}
use Rattle.vhdl_names_rules.specs.units.Expressions as u
use Rattle.vhdl_names_rules.specs.Edges as edges
use Rattle.vhdl_names_trees.specs.views.Tests.{test_view}
use Rattle.vhdl_names_registers.proofs.Branches.{none_left}
use Rattle.vhdl_names_registers.proofs.conditions.joined.Goals as goal

pub loop-test-preserved : goal.loop-test-preserved
loop-test-preserved c =
    let l = c.loop-test in
    l.invariant
    ∙ (ap (λ (xs : List Test). Some (edges.joined (test_view l.whole) (map test_view xs))) c.in-Some-test.ensures.steps.0
    ∙ sym (ap (λ (t : u.Test). Some (edges.joined t (map test_view c.next-in-loop-test.new.self.rest.items))) c.in_ok-whole.ensures))

pub returns : goal.returns
returns c =
    let l = c.loop-test in
    let left = l.test-iterator.rest in
    sym (l.invariant ∙ ap (λ (xs : List Test). Some (edges.joined (test_view l.whole) (map test_view xs))) (none_left left.items (sym left.ok.0 ∙ c.in-None.ensures.steps.0)))
