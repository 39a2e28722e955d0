use Rattle.std.proofs.Common.{refl, ap, sym, ◌∙◌}
use Rattle.vhdl_values.specs.declared.kinds.Logic.TheVariants as op
use Rattle.rtl_net.specs.declared.body.Test.{Test}
use Rattle.rtl_net.specs.Bodies.{test_view}
use Rattle.rtl_body_facts.specs.Timing.{atom_of, edge_pair}
use Rattle.rtl_body_facts.proofs.Timings.{edge_seen, edge_alone, edge_chain, edge_two, pair_is, not_and}
use Rattle.rtl_body_facts.proofs.kinds.+edge_of.Goals as goal

pub returns-then-is_empty : goal.returns-then-is_empty
returns-then-is_empty t c =
    let i = c.in-Combined in
    c.edge_of.ensures ∙ (ap (λ (x : Test). edge_seen (test_view x)) c.deref.ensures ∙ edge_alone c.args.test.now i.first i.rest i.is (sym c.is_empty.ensures ∙ c.if-is_empty.true))

pub returns-then-len-ne1 : goal.returns-then-len-ne1
returns-then-len-ne1 t c =
    let i = c.in-Combined in
    edge_chain c.args.test.now i.first i.rest i.is (sym c.is_empty.ensures ∙ c.if-is_empty.false) (λ e. c.if-len-ne1.true (c.len.ensures ∙ e))

pub returns-in-And : goal.returns-in-And
returns-in-And t c =
    let i = c.in-Combined in
    let l = c.index-link.result.now in
    let left = ap (λ (x : Test). atom_of (test_view x)) c.deref-in-And.ensures in
    c.edge_of_pair.ensures ∙ (ap (λ x. edge_pair x c.top_of-in-And.result) (c.top_of.ensures ∙ left)
    ∙ (ap (edge_pair (atom_of (test_view i.first.value))) c.top_of-in-And.ensures
    ∙ (sym (pair_is (test_view i.first.value) (test_view l.operand))
    ∙ edge_two c.args.test.now i.first i.rest i.is l op.And (sym c.len.ensures ∙ c.if-len-ne1.false) c.index-link.ensures c.in-And.is)))

pub returns-in_default-operator : goal.returns-in_default-operator
returns-in_default-operator t c =
    let i = c.in-Combined in
    let l = c.index-link.result.now in
    not_and l.operator (test_view i.first.value) (test_view l.operand) c.in_default-operator.not-And
    ∙ edge_two c.args.test.now i.first i.rest i.is l l.operator (sym c.len.ensures ∙ c.if-len-ne1.false) c.index-link.ensures refl
