use Rattle.std.proofs.Common.{◌&&◌, Bool, sym, ap, ◌∙◌, arith}
use Rattle.vhdl_names_rules.specs.Edges.{same_operator, same_index}
use Rattle.vhdl_names_trees.specs.views.Integers.{static_view}
use Rattle.vhdl_names_registers.specs.Spines.{last_of, prefix_view, last_view}
use Rattle.vhdl_names_registers.proofs.Indices.{by_last, last_differ, lasts_differ, size_by_last, and_before, no_operand, chain_has_last, number_differs, generic_differs, constant_differs, parameter_differs, negated_differs, absolute_differs, bound_differs, other_differs}
use Rattle.vhdl_names_registers.proofs.same.+same.Goals as goal

pub same_index-returns-then-not-same_operator : goal.same_index-returns-then-not-same_operator
same_index-returns-then-not-same_operator t c =
    let i = c.in-Some-Some in
    let others : Bool = same_index (prefix_view i.last.before) (prefix_view i.by.before) && same_index (static_view i.last.operand.now) (static_view i.by.operand.now) in
    sym (c.loop-last.invariant.0
    ∙ (by_last (prefix_view c.loop-last.one) (prefix_view c.loop-last.other) (last_view i.last) (last_view i.by) i.ensures i.ensures'
    ∙ ap (λ b. b && others) (sym c.same_operator.ensures ∙ c.if-not-same_operator.true)))

pub same_index-same_index-requires : goal.same_index-same_index-requires
same_index-same_index-requires t c =
    (omega (arith, c.decreases, c.loop-last.invariant.1, size_by_last (prefix_view c.loop-last.one) (last_view c.in-Some-Some.last) c.in-Some-Some.ensures), tt)

pub same_index-returns-then-not-same_index : goal.same_index-returns-then-not-same_index
same_index-returns-then-not-same_index t c =
    let i = c.in-Some-Some in
    sym (c.loop-last.invariant.0
    ∙ (by_last (prefix_view c.loop-last.one) (prefix_view c.loop-last.other) (last_view i.last) (last_view i.by) i.ensures i.ensures'
    ∙ no_operand (same_operator i.last.operator i.by.operator) (same_index (prefix_view i.last.before) (prefix_view i.by.before))
    (same_index (static_view i.last.operand.now) (static_view i.by.operand.now)) (sym c.same_index.ensures ∙ c.if-not-same_index.true)))

pub same_index-loop-last-preserved : goal.same_index-loop-last-preserved
same_index-loop-last-preserved t c =
    let i = c.in-Some-Some in (
      c.loop-last.invariant.0
          ∙ (by_last (prefix_view c.loop-last.one) (prefix_view c.loop-last.other) (last_view i.last) (last_view i.by) i.ensures i.ensures'
          ∙ and_before (same_operator i.last.operator i.by.operator) (same_index (prefix_view i.last.before) (prefix_view i.by.before))
          (same_index (static_view i.last.operand.now) (static_view i.by.operand.now)) (sym c.same_operator.ensures ∙ c.if-not-same_operator.false)
          (sym c.same_index.ensures ∙ c.if-not-same_index.false)),
      omega (arith, c.loop-last.invariant.1, size_by_last (prefix_view c.loop-last.one) (last_view i.last) i.ensures),
    )

pub same_index-returns-in_default : goal.same_index-returns-in_default
same_index-returns-in_default t c =
    sym (c.loop-last.invariant.0 ∙ last_differ (prefix_view c.loop-last.one) (prefix_view c.loop-last.other) (last_view c.in_default.field-0-0) c.in_default.ensures c.in_default.ensures')

pub same_index-returns-in_default-2 : goal.same_index-returns-in_default-2
same_index-returns-in_default-2 t c =
    sym (c.loop-last.invariant.0 ∙ lasts_differ (prefix_view c.loop-last.one) (prefix_view c.loop-last.other) (last_view c.in_default.field-0-1) c.in_default.ensures c.in_default.ensures')

pub same_index-same_leaf-requires : goal.same_index-same_leaf-requires
same_index-same_leaf-requires t c = (omega (arith, c.decreases, c.loop-last.invariant.1), (sym c.in-None-None.ensures, sym c.in-None-None.ensures'))

pub same_index-returns-in-None-None : goal.same_index-returns-in-None-None
same_index-returns-in-None-None t c = c.same_leaf.ensures ∙ sym c.loop-last.invariant.0

pub same_leaf-returns-in_default : goal.same_leaf-returns-in_default
same_leaf-returns-in_default t c =
    absurd (chain_has_last c.in_default.field-0-1.now c.in_default.field-1-1.now (sym (ap (λ p. last_of (prefix_view p)) c.in_default.is-1) ∙ c.requires.right))

pub same_leaf-returns-in_default-2 : goal.same_leaf-returns-in_default-2
same_leaf-returns-in_default-2 t c =
    absurd (chain_has_last c.in_default.field-0-0.now c.in_default.field-1-0.now (sym (ap (λ p. last_of (prefix_view p)) c.in_default.is-0) ∙ c.requires.left))

pub same_whole-returns-in_default : goal.same_whole-returns-in_default
same_whole-returns-in_default t c =
    let y = c.args.right.now in
    sym (ap (λ x. same_index (static_view x) (static_view y)) c.in_default.is-0 ∙ number_differs c.in_default.field-0-0 y c.requires.right c.in_default.not-Number-1)

pub same_whole-returns-in_default-2 : goal.same_whole-returns-in_default-2
same_whole-returns-in_default-2 t c =
    let y = c.args.right.now in
    sym (ap (λ x. same_index (static_view x) (static_view y)) c.in_default.is-0 ∙ generic_differs c.in_default.field-0-0 y c.requires.right c.in_default.not-Generic-1)

pub same_whole-returns-in_default-3 : goal.same_whole-returns-in_default-3
same_whole-returns-in_default-3 t c =
    let y = c.args.right.now in
    sym (ap (λ x. same_index (static_view x) (static_view y)) c.in_default.is-0 ∙ constant_differs c.in_default.field-0-0 y c.requires.right c.in_default.not-Constant-1)

pub same_whole-returns-in_default-4 : goal.same_whole-returns-in_default-4
same_whole-returns-in_default-4 t c =
    let y = c.args.right.now in
    sym (ap (λ x. same_index (static_view x) (static_view y)) c.in_default.is-0 ∙ parameter_differs c.in_default.field-0-0 y c.requires.right c.in_default.not-GenerateParameter-1)

pub same_whole-returns-in_default-5 : goal.same_whole-returns-in_default-5
same_whole-returns-in_default-5 t c =
    let y = c.args.right.now in
    sym (ap (λ x. same_index (static_view x) (static_view y)) c.in_default.is-0
    ∙ negated_differs c.in_default.field-0-0 (static_view c.in_default.field-1-0.value) y c.requires.right c.in_default.not-Negated-1)

pub same_whole-returns-in_default-6 : goal.same_whole-returns-in_default-6
same_whole-returns-in_default-6 t c =
    let y = c.args.right.now in
    sym (ap (λ x. same_index (static_view x) (static_view y)) c.in_default.is-0
    ∙ absolute_differs c.in_default.field-0-0 (static_view c.in_default.field-1-0.value) y c.requires.right c.in_default.not-Absolute-1)

pub same_whole-returns-in_default-7 : goal.same_whole-returns-in_default-7
same_whole-returns-in_default-7 t c =
    let y = c.args.right.now in
    sym (ap (λ x. same_index (static_view x) (static_view y)) c.in_default.is-0
    ∙ bound_differs c.in_default.field-0-0 c.in_default.field-1-0 y c.requires.right c.in_default.not-Bound-1)

pub same_whole-returns-in_default-8 : goal.same_whole-returns-in_default-8
same_whole-returns-in_default-8 t c =
    let d = c.in_default in
    sym (other_differs c.args.left.now (static_view c.args.right.now) c.requires.left d.not-Number-0 d.not-Generic-0 d.not-Constant-0 d.not-GenerateParameter-0 d.not-Negated-0
    d.not-Absolute-0 d.not-Bound-0)
