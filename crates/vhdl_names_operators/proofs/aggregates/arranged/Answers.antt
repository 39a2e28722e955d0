use Rattle.std.proofs.Common.{◌≡◌, ◌+◌, List, Vec, Global, length, sym, ap, subst, ◌∙◌, arith}
use Rattle.std.proofs.lemmas.List.{nil_from_length}
use Rattle.vhdl_names_trees.specs.declared.typed.TypedElement.{TypedElement}
use Rattle.vhdl_names_trees.specs.declared.vector.VectorElement.{VectorElement}
use Rattle.vhdl_names_trees.specs.views.Vectors.{elements_view}
use Rattle.vhdl_names_trees.specs.views.Expressions.{typed_elements_view}
use Rattle.vhdl_names_rules.specs.problems.Aggregates as broken
use Rattle.vhdl_names_rules.proofs.Passing.{passed_on, told_by}
use Rattle.vhdl_names_rules.proofs.Telling.{behind_kept}
use Rattle.vhdl_names_operators.specs.Arranging.{alone, element_view}
use Rattle.vhdl_names_operators.proofs.Arranging.{element_kept}
use Rattle.vhdl_names_operators.proofs.Composing.{Fills, same_form, one_more, is_last, breaks_first, first_told, all_arranged, not_arranged}
use Rattle.vhdl_names_operators.proofs.aggregates.arranged.Goals as goal

pub loop-each-preserved : goal.loop-each-preserved
loop-each-preserved c =
    let l = c.loop-each in
    let form = c.arrangement_of-form.result in
    let e = c.in-Some.each in
    let rest = c.next.new.self.rest.items in
    let made = c.in_ok-made.made in
    let stands : c.len.result + (length rest + 1) ≡ c.len-count.result =
    omega (arith, ap (λ (es : List TypedElement). length es) c.in-Some.ensures.steps.0, l.done.ok.0, c.len.ensures, l.invariant.counted) in
    record {
      filled =
          one_more c.args.kind form.is_ranged form.is_named form.is_only _ (typed_elements_view c.args.elements.items) l.done.items _ e rest made
          (subst (λ (es : List TypedElement). Fills c.args.kind (typed_elements_view c.args.elements.items) l.done.items es) c.in-Some.ensures.steps.0 l.invariant.filled)
          c.in_ok-made.ensures.given c.in_ok-push.ensures.items;
      breaks =
          l.invariant.breaks
          ∙ ap (λ (es : List TypedElement). broken.each form.is_ranged form.is_named form.is_only c.args.kind (typed_elements_view es)) c.in-Some.ensures.steps.0
          ∙ breaks_first c.args.kind form.is_ranged form.is_named form.is_only _ e rest (is_last rest c.len.result c.len-count.result stands)
          ∙ behind_kept _ _ (element_kept c.args.kind form.is_ranged form.is_named form.is_only _ (element_view e) (alone made) c.in_ok-made.ensures.given);
      counted = omega (arith, ap (λ (es : List TypedElement). length es) c.in-Some.ensures.steps.0, l.invariant.counted, c.in_ok-push.ensures.len);
    }

pub returns-in_err-made : goal.returns-in_err-made
returns-in_err-made c =
    let l = c.loop-each in
    let f = c.in_err-made.field-0.0 in
    let form = c.arrangement_of-form.result in
    let is = c.arrangement_of-form.ensures in
    let all = typed_elements_view c.args.elements.items in
    let rest = c.next.new.self.rest.items in
    let stands : c.len.result + (length rest + 1) ≡ c.len-count.result =
    omega (arith, ap (λ (es : List TypedElement). length es) c.in-Some.ensures.steps.0, l.done.ok.0, c.len.ensures, l.invariant.counted) in
    let told =
    first_told c.args.kind form.is_ranged form.is_named form.is_only _ _ c.in-Some.each rest f
    (same_form c.args.kind c.args.is_ranged _ c.args.elements.items _ _ _ c.deref.ensures.value is.ranged is.named is.only ∙ l.invariant.breaks
    ∙ ap (λ (es : List TypedElement). broken.each form.is_ranged form.is_named form.is_only c.args.kind (typed_elements_view es)) c.in-Some.ensures.steps.0)
    (is_last rest c.len.result c.len-count.result stands) c.in_err-made.ensures.told in
    record {
      given = passed_on (λ (es : Vec VectorElement Global). elements_view es.items) _ f _ c.from_residual.result c.from_residual.ensures.1 (λ e p. p) (λ n. not_arranged c.args.kind c.args.is_ranged all f told n);
      told = told_by _ f _ c.from_residual.result c.from_residual.ensures.1 (λ e p. p) told;
    }

pub returns-clause-given : goal.returns-clause-given
returns-clause-given c =
    let l = c.loop-each in
    let is = c.arrangement_of-form.ensures in
    let all = typed_elements_view c.args.elements.items in
    let left = nil_from_length l.each-iterator.rest.items (sym l.each-iterator.rest.ok.0 ∙ c.in-None.ensures.steps.0) in
    all_arranged c.args.kind c.args.is_ranged all l.done.items
    (subst (λ (es : List TypedElement). Fills c.args.kind all l.done.items es) left l.invariant.filled)
    (same_form c.args.kind c.args.is_ranged _ c.args.elements.items _ _ _ c.deref.ensures.value is.ranged is.named is.only ∙ l.invariant.breaks
    ∙ ap (λ (es : List TypedElement). broken.each c.arrangement_of-form.result.is_ranged c.arrangement_of-form.result.is_named c.arrangement_of-form.result.is_only c.args.kind (typed_elements_view es)) left)
