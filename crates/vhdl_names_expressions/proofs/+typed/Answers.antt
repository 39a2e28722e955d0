use Rattle.std.proofs.Common.{arith, option_map, map, Some, refl, ap, sym, ◌∙◌}
use Rattle.std.proofs.lemmas.List.{at_drop_all}
use Rattle.vhdl_tree.specs.Tree.{exprs_of, elements_of}
use Rattle.vhdl_tree.specs.View.{view, ident_view, suffix_view, attribute_view, choice_view, element_view}
use Rattle.vhdl_tree.specs.View.{range_view as tree_range_view}
use Rattle.vhdl_names_rules.specs.Rules.{each, ◌>>=◌}
use Rattle.vhdl_names_rules.specs.Visibility.{Sight}
use Rattle.vhdl_names_rules.specs.Expressions.{typed, typed_each, typed_elements, typed_choice, suffix_of, is_one_name}
use Rattle.vhdl_names_rules.specs.Operators.{composite}
use Rattle.vhdl_names_rules.specs.Types.{place}
use Rattle.vhdl_names_rules.specs.units.Expressions as u
use Rattle.vhdl_names_trees.specs.views.Integers.{static_view, range_view, index_view}
use Rattle.vhdl_names_trees.specs.views.Expressions.{typed_view, typed_suffix_view, typed_elements_view}
use Rattle.vhdl_names_trees.specs.views.Expressions.{choice_view as typed_choice_view}
use Rattle.vhdl_names_rules.specs.problems.Places as places
use Rattle.vhdl_names_rules.specs.problems.Expressions as broken
use Rattle.vhdl_names_sight.specs.Views.{entry_of}
use Rattle.vhdl_names_expressions.specs.Breaking.{all_break}
use Rattle.vhdl_names_expressions.specs.Elements.{one_element_view}
use Rattle.vhdl_names_expressions.specs.Steps.{all_linked}
use Rattle.vhdl_names_expressions.proofs.Answering.{base_passed, exponent_passed, power_answers, declaration_passed, suffix_passed, named_answers, mark_passed, inside_passed, qualified_answers, static_passed, static_answers, out_of_memory, along, begun_passed, begun_answers, chain_passed, chain_answers, link_passed, link_answers, links_passed, links_go, parens_passed, parens_answer, negation_passed, negation_answer, absolute_passed, absolute_answer, sign_passed, sign_answer, aggregate_passed}
use Rattle.vhdl_names_expressions.proofs.AnsweringLists.{arguments_passed, arguments_go, choices_passed, choices_go, elements_passed, elements_go, element_choices_passed, element_value_passed, element_is, index_passed, index_answers, single_passed, single_chosen, range_passed, range_chosen}
use Rattle.vhdl_names_numbers.specs.Integers.{integer_view, integer_of}
use Rattle.vhdl_names_expressions.proofs.AnsweringBounds.{computed_passed, no_integer, slice_left_passed, slice_right_passed, bounds_left_passed, bounds_right_passed, arguments_answer}
use Rattle.vhdl_names_expressions.proofs.BreakingForms.{slice_as, slice_broken}
use Rattle.vhdl_names_expressions.proofs.Chains.{both_bounds, front, none_before, each_ends as each_typed_ends}
use Rattle.vhdl_names_expressions.proofs.Each.{behind, none_behind, each_ends}
use Rattle.vhdl_names_expressions.proofs.Elementing.{one_viewed, choices_each, elements_viewed, behind_elements, no_elements_before, elements_end}
use Rattle.vhdl_names_expressions.proofs.Typing.{power_as, power_broken, qualified_as, qualified_broken, aggregate_as, bounds_are}
use Rattle.vhdl_names_expressions.proofs.+typed.Goals as goal

-- ---- chains

pub expressions::begun-returns-in_err-first : goal.expressions::begun-returns-in_err-first
expressions::begun-returns-in_err-first t c = begun_passed c.args.sight.now c.args.chain.now _ _ c.from_residual.ensures.1 c.in_err-first.ensures

pub expressions::begun-returns : goal.expressions::begun-returns
expressions::begun-returns t c =
    begun_answers c.args.sight.now c.args.chain.now _ (typed_view c.in_ok-first.first) _ c.in_ok-first.ensures.given c.stands_in_parens-after_parens.ensures c.link.ensures

pub expressions::further-returns : goal.expressions::further-returns
expressions::further-returns t c =
    let v = Some (typed_view c.args.before) in
    along typed_view _ _ _ _ _ (ap (all_linked c.args.sight.now v) (sym c.deref.ensures.value)) (ap (all_break c.args.sight.now v) (sym c.deref.ensures.value)) c.links.ensures

pub expressions::link-returns-in_err-operand : goal.expressions::link-returns-in_err-operand
expressions::link-returns-in_err-operand t c = link_passed c.args.sight.now c.args.after_parens (typed_view c.args.first) c.args.link.now _ _ c.from_residual.ensures.1 c.in_err-operand.ensures

pub expressions::link-returns : goal.expressions::link-returns
expressions::link-returns t c =
    link_answers c.args.sight.now c.args.after_parens (typed_view c.args.first) c.args.link.now (typed_view c.in_ok-operand.operand) (typed_view c.beside-operand.result) _ _ _
    c.in_ok-operand.ensures.given c.beside-operand.ensures (ap (λ (x : Sight). x.language) c.sight.view_is) (ap (λ (x : Sight). x.numbers) c.sight.view_is) c.operated.ensures

pub expressions::links-loop-next-init : goal.expressions::links-loop-next-init
expressions::links-loop-next-init t c = (refl, refl)

pub expressions::links-loop-next-preserved : goal.expressions::links-loop-next-preserved
expressions::links-loop-next-preserved t c =
    let l = c.loop-next in
    links_go c.args.sight.now (typed_view c.args.first) (typed_view l.done) c.args.links.now l.next-index c.next-item.result (typed_view c.in_ok-done.done) l.invariant (omega arith) c.next-item.is c.in_ok-done.ensures.given

pub expressions::links-returns-in_err-done : goal.expressions::links-returns-in_err-done
expressions::links-returns-in_err-done t c =
    let l = c.loop-next in
    links_passed c.args.sight.now (typed_view c.args.first) (typed_view l.done) c.args.links.now l.next-index c.next-item.result _ _ l.invariant (omega arith) c.next-item.is c.from_residual.ensures.1 c.in_err-done.ensures

pub expressions::links-returns-clause-given : goal.expressions::links-returns-clause-given
expressions::links-returns-clause-given t c =
    c.loop-next.invariant.0 ∙ at_drop_all (all_linked c.args.sight.now (Some (typed_view c.loop-next.done))) c.args.links.now c.loop-next.next-index c.loop-next-test.false

-- ---- expressions, form by form

pub expressions::typed-returns-in-Integer : goal.expressions::typed-returns-in-Integer
unfolding typed broken.typed
expressions::typed-returns-in-Integer t c =
    along typed_view _ _ _ _ _ (ap (λ x. typed c.args.sight.now (view x)) c.in-Integer.is) (ap (λ x. broken.typed c.args.sight.now (view x)) c.in-Integer.is) c.integer_literal.ensures

pub expressions::typed-returns-in-Character : goal.expressions::typed-returns-in-Character
unfolding typed broken.typed
expressions::typed-returns-in-Character t c =
    along typed_view _ _ _ _ _ (ap (λ x. typed c.args.sight.now (view x)) c.in-Character.is) (ap (λ x. broken.typed c.args.sight.now (view x)) c.in-Character.is) c.character_literal.ensures

pub expressions::typed-returns-in-StringLiteral : goal.expressions::typed-returns-in-StringLiteral
unfolding typed broken.typed
expressions::typed-returns-in-StringLiteral t c =
    along typed_view _ _ _ _ _ (ap (λ x. typed c.args.sight.now (view x)) c.in-StringLiteral.is) (ap (λ x. broken.typed c.args.sight.now (view x)) c.in-StringLiteral.is) c.string_literal.ensures

pub expressions::typed-returns-in-BitString : goal.expressions::typed-returns-in-BitString
unfolding typed broken.typed
expressions::typed-returns-in-BitString t c =
    along typed_view _ _ _ _ _ (ap (λ x. typed c.args.sight.now (view x)) c.in-BitString.is) (ap (λ x. broken.typed c.args.sight.now (view x)) c.in-BitString.is) c.bit_string_literal.ensures

pub expressions::typed-returns-in-Name : goal.expressions::typed-returns-in-Name
expressions::typed-returns-in-Name t c =
    along typed_view _ _ _ _ _ (ap (λ x. typed c.args.sight.now (view x)) c.in-Name.is) (ap (λ x. broken.typed c.args.sight.now (view x)) c.in-Name.is) c.named.ensures

pub expressions::typed-returns-in_err-operand-in-Parens : goal.expressions::typed-returns-in_err-operand-in-Parens
expressions::typed-returns-in_err-operand-in-Parens t c =
    parens_passed c.args.sight.now c.args.e.now c.deref.result.now c.in-Parens.at c.in-Parens.inner c.in-Parens.is _ _ c.deref.ensures c.from_residual.ensures.1 c.in_err-operand-in-Parens.ensures

pub expressions::typed-returns-in_ok-operand-in-Parens : goal.expressions::typed-returns-in_ok-operand-in-Parens
expressions::typed-returns-in_ok-operand-in-Parens t c =
    parens_answer c.args.sight.now c.args.e.now c.deref.result.now c.in-Parens.at c.in-Parens.inner (typed_view c.in_ok-operand-in-Parens.operand) _ c.deref.ensures c.in_ok-operand-in-Parens.ensures.given
    c.start.result c.in-Parens.is (c.start.ensures ∙ ap (λ y. places.start (view y)) (c.deref-in-Parens.ensures ∙ sym c.deref.ensures)) c.in_parentheses.ensures

pub expressions::typed-returns-in_err-operand-in-Not : goal.expressions::typed-returns-in_err-operand-in-Not
expressions::typed-returns-in_err-operand-in-Not t c =
    negation_passed c.args.sight.now c.args.e.now c.deref-in-Not.result.now c.in-Not.at c.in-Not.operand c.in-Not.is _ _ c.deref-in-Not.ensures
    c.from_residual-in_err-operand-in-Not.ensures.1 c.in_err-operand-in-Not.ensures

pub expressions::typed-returns-in_ok-operand-in-Not : goal.expressions::typed-returns-in_ok-operand-in-Not
expressions::typed-returns-in_ok-operand-in-Not t c =
    negation_answer c.args.sight.now c.args.e.now c.deref-in-Not.result.now c.in-Not.at c.in-Not.operand (typed_view c.in_ok-operand-in-Not.operand) _ c.deref-in-Not.ensures c.in_ok-operand-in-Not.ensures.given
    c.in-Not.is c.inverse.ensures

pub expressions::typed-returns-in_err-operand-in-Abs : goal.expressions::typed-returns-in_err-operand-in-Abs
expressions::typed-returns-in_err-operand-in-Abs t c =
    absolute_passed c.args.sight.now c.args.e.now c.deref-in-Abs.result.now c.in-Abs.at c.in-Abs.operand c.in-Abs.is _ _ c.deref-in-Abs.ensures
    c.from_residual-in_err-operand-in-Abs.ensures.1 c.in_err-operand-in-Abs.ensures

pub expressions::typed-returns-in_ok-operand-in-Abs : goal.expressions::typed-returns-in_ok-operand-in-Abs
expressions::typed-returns-in_ok-operand-in-Abs t c =
    absolute_answer c.args.sight.now c.args.e.now c.deref-in-Abs.result.now c.in-Abs.at c.in-Abs.operand (typed_view c.in_ok-operand-in-Abs.operand) _ c.deref-in-Abs.ensures c.in_ok-operand-in-Abs.ensures.given
    c.in-Abs.is c.absolute.ensures

pub expressions::typed-returns-in_err-operand-in-Signed : goal.expressions::typed-returns-in_err-operand-in-Signed
expressions::typed-returns-in_err-operand-in-Signed t c =
    sign_passed c.args.sight.now c.args.e.now c.deref-in-Signed.result.now c.in-Signed.at c.in-Signed.operand c.in-Signed.sign c.in-Signed.is _ _ c.deref-in-Signed.ensures
    c.from_residual-in_err-operand-in-Signed.ensures.1 c.in_err-operand-in-Signed.ensures

pub expressions::typed-returns-in_ok-operand-in-Signed : goal.expressions::typed-returns-in_ok-operand-in-Signed
expressions::typed-returns-in_ok-operand-in-Signed t c =
    sign_answer c.args.sight.now c.args.e.now c.deref-in-Signed.result.now c.in-Signed.at c.in-Signed.operand (typed_view c.in_ok-operand-in-Signed.operand) _ c.deref-in-Signed.ensures c.in_ok-operand-in-Signed.ensures.given
    c.in-Signed.sign c.in-Signed.is c.signed.ensures

pub expressions::typed-returns-in-Power : goal.expressions::typed-returns-in-Power
expressions::typed-returns-in-Power t c =
    along typed_view _ _ _ _ _ (power_as c.args.sight.now c.args.e.now c.in-Power.power c.deref-in-Power.result.now c.in-Power.is c.deref-in-Power.ensures)
    (power_broken c.args.sight.now c.args.e.now c.in-Power.power c.deref-in-Power.result.now c.in-Power.is c.deref-in-Power.ensures) c.raised.ensures

pub expressions::typed-returns-in_err-begun-in-Chain : goal.expressions::typed-returns-in_err-begun-in-Chain
expressions::typed-returns-in_err-begun-in-Chain t c =
    chain_passed c.args.sight.now c.args.e.now c.in-Chain.chain c.deref-in-Chain.result.now c.in-Chain.is c.deref-in-Chain.ensures _ _ c.from_residual-in_err-begun-in-Chain.ensures.1 c.in_err-begun-in-Chain.ensures

pub expressions::typed-returns-in_ok-begun-in-Chain : goal.expressions::typed-returns-in_ok-begun-in-Chain
expressions::typed-returns-in_ok-begun-in-Chain t c =
    chain_answers c.args.sight.now c.args.e.now c.in-Chain.chain c.deref-in-Chain.result.now c.in-Chain.is c.deref-in-Chain.ensures c.deref-in-Chain-2.result.now (typed_view c.in_ok-begun-in-Chain.begun) _
    c.deref-in-Chain-2.ensures c.in_ok-begun-in-Chain.ensures.given c.further.ensures

pub expressions::typed-returns-in_err-elements-in-Aggregate : goal.expressions::typed-returns-in_err-elements-in-Aggregate
expressions::typed-returns-in_err-elements-in-Aggregate t c =
    aggregate_passed c.args.sight.now c.args.e.now c.in-Aggregate.at c.in-Aggregate.elements c.deref-in-Aggregate.result.now _ _ c.in-Aggregate.is c.deref-in-Aggregate.ensures.value
    c.from_residual-in_err-elements-in-Aggregate.ensures.1 c.in_err-elements-in-Aggregate.ensures

pub expressions::typed-returns-in_ok-elements-in-Aggregate-clause-given : goal.expressions::typed-returns-in_ok-elements-in-Aggregate-clause-given
expressions::typed-returns-in_ok-elements-in-Aggregate-clause-given t c =
    aggregate_as c.args.sight.now c.args.e.now c.in-Aggregate.at c.in-Aggregate.elements c.deref-in-Aggregate.result.now c.in-Aggregate.is c.deref-in-Aggregate.ensures.value
    ∙ ap (option_map (composite c.in-Aggregate.at)) c.in_ok-elements-in-Aggregate.ensures.given ∙ ap Some (sym c.composite.ensures)

pub expressions::typed-returns-in-Qualified : goal.expressions::typed-returns-in-Qualified
expressions::typed-returns-in-Qualified t c =
    let q = c.in-Qualified in
    let es = c.deref-in-Qualified.result.now in
    along typed_view _ _ _ _ _ (qualified_as c.args.sight.now c.args.e.now q.mark q.at q.elements es q.is c.deref-in-Qualified.ensures.value)
    (qualified_broken c.args.sight.now c.args.e.now q.mark q.at q.elements es q.is c.deref-in-Qualified.ensures.value) c.qualified.ensures

pub expressions::static_integer-returns-in_err-value : goal.expressions::static_integer-returns-in_err-value
expressions::static_integer-returns-in_err-value t c = static_passed c.args.sight.now (view c.args.e.now) _ _ c.from_residual.ensures.1 c.in_err-value.ensures

pub expressions::static_integer-returns : goal.expressions::static_integer-returns
expressions::static_integer-returns t c =
    static_answers c.args.sight.now (view c.args.e.now) (typed_view c.in_ok-value.value) _ _ c.in_ok-value.ensures.given c.start.ensures c.as_integer.ensures

-- ---- powers

pub expressions::raised-returns-in_err-base : goal.expressions::raised-returns-in_err-base
expressions::raised-returns-in_err-base t c =
    let r = c.args.raised.now in
    base_passed c.args.sight.now (view r.base) (view r.exponent) r.at _ _ c.from_residual.ensures.1 c.in_err-base.ensures

pub expressions::raised-returns-in_err-exponent : goal.expressions::raised-returns-in_err-exponent
expressions::raised-returns-in_err-exponent t c =
    let r = c.args.raised.now in
    exponent_passed c.args.sight.now (view r.base) (view r.exponent) r.at (typed_view c.in_ok-base.base) _ _ c.in_ok-base.ensures.given c.from_residual-in_err-exponent.ensures.1 c.in_err-exponent.ensures

pub expressions::raised-returns : goal.expressions::raised-returns
expressions::raised-returns t c =
    let r = c.args.raised.now in
    power_answers c.args.sight.now (view r.base) (view r.exponent) r.at (typed_view c.in_ok-base.base) (typed_view c.in_ok-exponent.exponent) _ c.in_ok-base.ensures.given c.in_ok-exponent.ensures.given c.power.ensures

-- ---- integers, which a run may compute

pub expressions::computed_integer-returns-in_err-value : goal.expressions::computed_integer-returns-in_err-value
expressions::computed_integer-returns-in_err-value t c = computed_passed c.args.sight.now (view c.args.e.now) _ _ c.from_residual.ensures.1 c.in_err-value.ensures

pub expressions::computed_integer-returns-in-Ok-clause-given : goal.expressions::computed_integer-returns-in-Ok-clause-given
expressions::computed_integer-returns-in-Ok-clause-given t c = ap (λ o. o >>= integer_of) c.in_ok-value.ensures.given ∙ c.in-Ok.ensures.given

pub expressions::computed_integer-returns-in-Err : goal.expressions::computed_integer-returns-in-Err
expressions::computed_integer-returns-in-Err t c =
    no_integer c.args.sight.now (view c.args.e.now) (typed_view c.in_ok-value.value) c.start.result c.without.result c.in_ok-value.ensures.given c.in-Err.ensures.none c.start.ensures
    (c.without.ensures ∙ c.at.ensures)

-- ---- names

pub name::named-returns-in_err-entry : goal.name::named-returns-in_err-entry
name::named-returns-in_err-entry t c =
    let n = c.args.name.now in
    declaration_passed c.args.sight.now (ident_view n.identifier) (suffix_view n.suffix) (option_map attribute_view n.attribute) _ _ c.from_residual.ensures.1
    (record { given = c.in_err-entry.ensures.declared; told = c.in_err-entry.ensures.told })

pub name::named-returns-in_err-suffix : goal.name::named-returns-in_err-suffix
name::named-returns-in_err-suffix t c =
    let n = c.args.name.now in
    suffix_passed c.args.sight.now (ident_view n.identifier) (suffix_view n.suffix) (option_map attribute_view n.attribute) (entry_of n.identifier.text.items c.in_ok-entry.entry.now)
    c.in_ok-entry.ensures.declared _ _ c.from_residual-in_err-suffix.ensures.1 c.in_err-suffix.ensures

pub name::named-returns : goal.name::named-returns
name::named-returns t c =
    let n = c.args.name.now in
    let text = n.identifier.text.items in
    named_answers c.args.sight.now (ident_view n.identifier) (suffix_view n.suffix) (option_map attribute_view n.attribute) (entry_of text c.in_ok-entry.entry.now) c.in_ok-entry.ensures.declared
    (typed_suffix_view c.in_ok-suffix.suffix) _ c.in_ok-suffix.ensures.given (record { given = c.named_as.ensures.given text; told = c.named_as.ensures.told text })

pub name::typed_suffix-returns-in-Arguments : goal.name::typed_suffix-returns-in-Arguments
name::typed_suffix-returns-in-Arguments t c =
    arguments_answer c.args.sight.now c.args.suffix.now c.in-Arguments.all c.deref.result.now _ c.in-Arguments.is c.deref.ensures.value c.arguments.ensures

pub name::typed_suffix-returns-in-Range : goal.name::typed_suffix-returns-in-Range
name::typed_suffix-returns-in-Range t c =
    let s = c.args.sight.now in
    along typed_suffix_view _ _ _ _ _ (slice_as s c.args.suffix.now c.in-Range.range c.deref-in-Range.result.now c.in-Range.is c.deref-in-Range.ensures)
    (slice_broken s c.args.suffix.now c.in-Range.range c.deref-in-Range.result.now c.in-Range.is c.deref-in-Range.ensures) c.slice_bounds.ensures

pub name::slice_bounds-returns-in_err-left : goal.name::slice_bounds-returns-in_err-left
name::slice_bounds-returns-in_err-left t c = slice_left_passed c.args.sight.now c.args.range.now _ _ c.from_residual.ensures.1 c.in_err-left.ensures

pub name::slice_bounds-returns-in_err-right : goal.name::slice_bounds-returns-in_err-right
name::slice_bounds-returns-in_err-right t c =
    slice_right_passed c.args.sight.now c.args.range.now (integer_view c.in_ok-left.left) _ _ c.in_ok-left.ensures.given c.from_residual-in_err-right.ensures.1 c.in_err-right.ensures

pub name::slice_bounds-returns-in_err-sliced : goal.name::slice_bounds-returns-in_err-sliced
name::slice_bounds-returns-in_err-sliced t c = out_of_memory typed_suffix_view _ _ _ c.from_residual-in_err-sliced.ensures.1

pub name::slice_bounds-returns-clause-given : goal.name::slice_bounds-returns-clause-given
name::slice_bounds-returns-clause-given t c =
    let w = c.args.range.now in
    both_bounds c.args.sight.now (view w.left) w.direction (view w.right) (integer_view c.in_ok-left.left) (integer_view c.in_ok-right.right) c.in_ok-left.ensures.given c.in_ok-right.ensures.given
    ∙ c.in_ok-sliced.ensures

pub name::arguments-returns-clause-given : goal.name::arguments-returns-clause-given
name::arguments-returns-clause-given t c =
    ap (option_map (suffix_of (is_one_name (exprs_of (map view c.args.all.now))))) c.in_ok-typed.ensures.given
    ∙ ap Some (sym (c.suffix_of.ensures ∙ ap (λ b. suffix_of b (map typed_view c.in_ok-typed.typed.items)) c.is_one_name.ensures))

pub name::typed_each-loop-argument-init : goal.name::typed_each-loop-argument-init
name::typed_each-loop-argument-init t c =
    let all = typed_each c.args.sight.now (exprs_of (map view c.args.arguments.now)) in
    (none_before all ∙ ap (λ xs. front (map typed_view xs) all) (sym c.new-done.ensures.items), refl)

pub name::typed_each-loop-argument-preserved : goal.name::typed_each-loop-argument-preserved
name::typed_each-loop-argument-preserved t c =
    let l = c.loop-argument in
    arguments_go c.args.sight.now c.args.arguments.now l.done.items l.argument-index c.argument-item.result c.in_ok-value.value c.push.new.self.items l.invariant (omega arith) c.argument-item.is
    c.in_ok-value.ensures.given c.in_ok-push.ensures.items

pub name::typed_each-returns-in_err-value : goal.name::typed_each-returns-in_err-value
name::typed_each-returns-in_err-value t c =
    let l = c.loop-argument in
    arguments_passed c.args.sight.now c.args.arguments.now l.done.items l.argument-index c.argument-item.result _ _ l.invariant (omega arith) c.argument-item.is c.from_residual.ensures.1 c.in_err-value.ensures

pub name::typed_each-returns-in_err-push : goal.name::typed_each-returns-in_err-push
name::typed_each-returns-in_err-push t c = out_of_memory (λ v. map typed_view v.items) _ _ _ c.from_residual-in_err-push.ensures.1

pub name::typed_each-returns-clause-given : goal.name::typed_each-returns-clause-given
name::typed_each-returns-clause-given t c =
    each_typed_ends c.args.sight.now _ (map typed_view c.loop-argument.done.items) c.args.arguments.now c.loop-argument.argument-index c.loop-argument.invariant.0 (omega arith)

-- ---- bounds

pub name::bounds-returns-in_err-left : goal.name::bounds-returns-in_err-left
name::bounds-returns-in_err-left t c = bounds_left_passed c.args.sight.now (tree_range_view c.args.range.now) _ _ c.from_residual.ensures.1 c.in_err-left.ensures

pub name::bounds-returns-in_err-right : goal.name::bounds-returns-in_err-right
name::bounds-returns-in_err-right t c =
    bounds_right_passed c.args.sight.now (tree_range_view c.args.range.now) (static_view c.in_ok-left.left) _ _ c.in_ok-left.ensures.given c.from_residual-in_err-right.ensures.1 c.in_err-right.ensures

pub name::bounds-returns-clause-given : goal.name::bounds-returns-clause-given
name::bounds-returns-clause-given t c =
    bounds_are c.args.sight.now (tree_range_view c.args.range.now) (static_view c.in_ok-left.left) (static_view c.in_ok-right.right) c.in_ok-left.ensures.given c.in_ok-right.ensures.given

-- ---- qualified expressions

pub elements::qualified-returns-in_err-entry : goal.elements::qualified-returns-in_err-entry
elements::qualified-returns-in_err-entry t c =
    mark_passed c.args.sight.now (ident_view c.args.mark.now) c.args.at (elements_of (map element_view c.args.elements.now)) _ _ c.from_residual.ensures.1
    (record { given = c.in_err-entry.ensures.declared; told = c.in_err-entry.ensures.told })

pub elements::qualified-returns-in_err-elements : goal.elements::qualified-returns-in_err-elements
elements::qualified-returns-in_err-elements t c =
    inside_passed c.args.sight.now (ident_view c.args.mark.now) c.args.at (elements_of (map element_view c.args.elements.now)) (entry_of c.args.mark.now.text.items c.in_ok-entry.entry.now)
    c.in_ok-entry.ensures.declared _ _ c.from_residual-in_err-elements.ensures.1 c.in_err-elements.ensures

pub elements::qualified-returns : goal.elements::qualified-returns
elements::qualified-returns t c =
    let text = c.args.mark.now.text.items in
    qualified_answers c.args.sight.now (ident_view c.args.mark.now) c.args.at (elements_of (map element_view c.args.elements.now)) (entry_of text c.in_ok-entry.entry.now) c.in_ok-entry.ensures.declared
    (typed_elements_view c.in_ok-elements.elements.items) _ c.in_ok-elements.ensures.given (record { given = c.qualified_as.ensures.given text; told = c.qualified_as.ensures.told text })

-- ---- elements and choices, one by one

pub elements::typed_element-returns-in_err-choices : goal.elements::typed_element-returns-in_err-choices
elements::typed_element-returns-in_err-choices t c =
    element_choices_passed c.args.sight.now c.args.element.now c.deref.result.now c.deref.ensures.value _ _ c.from_residual.ensures.1 c.in_err-choices.ensures

pub elements::typed_element-returns-in_err-value : goal.elements::typed_element-returns-in_err-value
elements::typed_element-returns-in_err-value t c =
    element_value_passed c.args.sight.now c.args.element.now c.deref.result.now c.deref.ensures.value (map typed_choice_view c.in_ok-choices.choices.items) _ _
    c.in_ok-choices.ensures.given c.from_residual-in_err-value.ensures.1 c.in_err-value.ensures

pub elements::typed_element-returns-clause-given : goal.elements::typed_element-returns-clause-given
elements::typed_element-returns-clause-given t c =
    element_is c.args.sight.now c.args.element.now c.deref.result.now c.deref.ensures.value (map typed_choice_view c.in_ok-choices.choices.items) (typed_view c.in_ok-value.value) c.start.result
    c.in_ok-choices.ensures.given c.in_ok-value.ensures.given c.start.ensures ∙ ap Some (sym (one_viewed c.in_ok-choices.choices c.start.result c.in_ok-value.value))

pub elements::typed_elements-loop-element-init : goal.elements::typed_elements-loop-element-init
elements::typed_elements-loop-element-init t c =
    let all = typed_elements c.args.sight.now (elements_of (map element_view c.args.elements.now)) in
    (no_elements_before all ∙ ap (λ xs. behind_elements (map one_element_view xs) all) (sym c.new-done.ensures.items), refl)

pub elements::typed_elements-loop-element-preserved : goal.elements::typed_elements-loop-element-preserved
elements::typed_elements-loop-element-preserved t c =
    let l = c.loop-element in
    elements_go c.args.sight.now c.args.elements.now l.done.items l.element-index c.element-item.result c.in_ok-typed_element.field-0 c.push.new.self.items l.invariant (omega arith) c.element-item.is
    c.in_ok-typed_element.ensures.given c.in_ok-push.ensures.items

pub elements::typed_elements-returns-in_err-typed_element : goal.elements::typed_elements-returns-in_err-typed_element
elements::typed_elements-returns-in_err-typed_element t c =
    let l = c.loop-element in
    elements_passed c.args.sight.now c.args.elements.now l.done.items l.element-index c.element-item.result _ _ l.invariant (omega arith) c.element-item.is c.from_residual.ensures.1 c.in_err-typed_element.ensures

pub elements::typed_elements-returns-in_err-push : goal.elements::typed_elements-returns-in_err-push
elements::typed_elements-returns-in_err-push t c = out_of_memory (λ v. typed_elements_view v.items) _ _ _ c.from_residual-in_err-push.ensures.1

pub elements::typed_elements-returns-clause-given : goal.elements::typed_elements-returns-clause-given
elements::typed_elements-returns-clause-given t c =
    elements_end c.args.sight.now _ (map one_element_view c.loop-element.done.items) c.args.elements.now c.loop-element.element-index c.loop-element.invariant.0 (omega arith)
    ∙ ap Some (sym (elements_viewed c.loop-element.done.items))

pub elements::typed_choices-loop-choice-init : goal.elements::typed_choices-loop-choice-init
elements::typed_choices-loop-choice-init t c =
    let all = each (typed_choice c.args.sight.now) (map choice_view c.args.choices.now) in
    (choices_each c.args.sight.now (map choice_view c.args.choices.now) ∙ none_behind all ∙ ap (λ xs. behind (map typed_choice_view xs) all) (sym c.new-done.ensures.items), refl)

pub elements::typed_choices-loop-choice-preserved : goal.elements::typed_choices-loop-choice-preserved
elements::typed_choices-loop-choice-preserved t c =
    let l = c.loop-choice in
    choices_go c.args.sight.now c.args.choices.now l.done.items l.choice-index c.choice-item.result c.in_ok-typed_choice.field-0 c.push.new.self.items l.invariant (omega arith) c.choice-item.is
    c.in_ok-typed_choice.ensures.given c.in_ok-push.ensures.items

pub elements::typed_choices-returns-in_err-typed_choice : goal.elements::typed_choices-returns-in_err-typed_choice
elements::typed_choices-returns-in_err-typed_choice t c =
    let l = c.loop-choice in
    choices_passed c.args.sight.now c.args.choices.now l.done.items l.choice-index c.choice-item.result _ _ l.invariant (omega arith) c.choice-item.is c.from_residual.ensures.1 c.in_err-typed_choice.ensures

pub elements::typed_choices-returns-in_err-push : goal.elements::typed_choices-returns-in_err-push
elements::typed_choices-returns-in_err-push t c = out_of_memory (λ v. map typed_choice_view v.items) _ _ _ c.from_residual-in_err-push.ensures.1

pub elements::typed_choices-returns-clause-given : goal.elements::typed_choices-returns-clause-given
elements::typed_choices-returns-clause-given t c =
    each_ends (typed_choice c.args.sight.now) choice_view _ (map typed_choice_view c.loop-choice.done.items) c.args.choices.now c.loop-choice.choice-index c.loop-choice.invariant.0 (omega arith)

-- ---- a choice

pub elements::chosen_index-returns-in_err-operand : goal.elements::chosen_index-returns-in_err-operand
elements::chosen_index-returns-in_err-operand t c = index_passed c.args.sight.now (view c.args.e.now) _ _ c.from_residual.ensures.1 c.in_err-operand.ensures

pub elements::chosen_index-returns : goal.elements::chosen_index-returns
elements::chosen_index-returns t c =
    index_answers c.args.sight.now (view c.args.e.now) (typed_view c.in_ok-operand.operand) c.start.result _ c.in_ok-operand.ensures.given c.start.ensures c.as_index.ensures

pub elements::typed_choice-returns-in_err-index-in-Expr : goal.elements::typed_choice-returns-in_err-index-in-Expr
elements::typed_choice-returns-in_err-index-in-Expr t c = single_passed c.args.sight.now c.args.choice.now c.in-Expr.e c.in-Expr.is _ _ c.from_residual.ensures.1 c.in_err-index-in-Expr.ensures

pub elements::typed_choice-returns-in_ok-index-in-Expr-clause-given : goal.elements::typed_choice-returns-in_ok-index-in-Expr-clause-given
elements::typed_choice-returns-in_ok-index-in-Expr-clause-given t c =
    single_chosen c.args.sight.now c.args.choice.now c.in-Expr.e c.in-Expr.is (index_view c.in_ok-index-in-Expr.index) c.in_ok-index-in-Expr.ensures.given
    ∙ ap (λ b. Some (place b (index_view c.in_ok-index-in-Expr.index))) (sym c.is_local.ensures)

pub elements::typed_choice-returns-in_err-indexes-in-Range : goal.elements::typed_choice-returns-in_err-indexes-in-Range
elements::typed_choice-returns-in_err-indexes-in-Range t c =
    range_passed c.args.sight.now c.args.choice.now c.in-Range.range c.in-Range.is _ _ c.from_residual-in_err-indexes-in-Range.ensures.1 c.in_err-indexes-in-Range.ensures

pub elements::typed_choice-returns-in_ok-indexes-in-Range-clause-given : goal.elements::typed_choice-returns-in_ok-indexes-in-Range-clause-given
elements::typed_choice-returns-in_ok-indexes-in-Range-clause-given t c =
    let x = range_view c.in_ok-indexes-in-Range.indexes in
    range_chosen c.args.sight.now c.args.choice.now c.in-Range.range c.in-Range.is x c.start.result c.in_ok-indexes-in-Range.ensures.given c.start.ensures
    ∙ ap (λ b. Some (place b (u.indexes c.start.result x))) (sym c.has_local_bounds.ensures)
