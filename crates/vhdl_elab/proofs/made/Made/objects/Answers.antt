use Rattle.std.proofs.Common.{◌≡◌, ◌+◌, ◌∷◌, map, drop, set, ap, sym, ◌∙◌, arith, subst, []}
use Rattle.vhdl_expand_rules.specs.Kinds.{size}
use Rattle.vhdl_expand_rules.specs.views.Kinds.{kind_view}
use Rattle.vhdl_expand_tree.specs.declared.tree.Object.{Object}
use Rattle.vhdl_expand_tree.specs.Views.{object_view}
use Rattle.vhdl_elab.specs.Adding.{Declares, elements_count}
use Rattle.vhdl_elab.proofs.Adding.{next_dropped, none_dropped, declares_next, declares_none}
use Rattle.vhdl_elab.proofs.made.Made.objects.Goals as goal

pub loop-i-preserved : goal.loop-i-preserved
loop-i-preserved c =
    let place = c.args.place.now in
    let xs = c.loop-i.objects in
    let i = c.loop-i.i in
    let o = object_view c.index-objects-i.result in
    let is = sym c.index-objects-i.is in
    let rest = map object_view (drop (i + 1) (set xs i c.object.new.object)) in
    let all = next_dropped object_view xs i c.index-objects-i.result c.object.new.object (omega (arith, c.loop-i-test.true, c.loop-i.auto.objects)) c.index-objects-i.is in
    let count : elements_count (map object_view c.args.objects.now) ≡ c.loop-i.first + (size o.kind + elements_count rest) =
    c.loop-i.invariant.count ∙ ap (λ os. c.loop-i.first + elements_count os) all in
    let next : c.in_ok-first.first ≡ c.loop-i.first + size o.kind =
    c.in_ok-first.ensures.next ∙ ap (λ (x : Object). c.loop-i.first + size (kind_view x.kind)) is in
    let made = subst (λ (x : Object). Declares place c.loop-i.first (object_view x ∷ []) c.loop-i.self c.object.new.self) is c.in_ok-first.ensures.made in
    record {
      within = c.in_ok-first.ensures.within;
      count = omega (arith, count, next);
      made = λ b h. c.loop-i.invariant.made b
          (subst (λ os. Declares place c.loop-i.first os c.loop-i.self b) (sym all)
          (declares_next place c.loop-i.first o rest c.loop-i.self c.object.new.self b made
          (subst (λ n. Declares place n rest c.object.new.self b) next h)));
    }

pub returns-clause-made : goal.returns-clause-made
returns-clause-made c =
    c.loop-i.invariant.made c.loop-i.self
    (declares_none c.args.place.now c.loop-i.first (map object_view (drop c.loop-i.i c.loop-i.objects)) c.loop-i.self
    (ap (map object_view) (none_dropped c.loop-i.objects c.loop-i.i (omega (arith, c.loop-i-test.false, c.loop-i.auto.objects)))))

pub returns-clause-count : goal.returns-clause-count
returns-clause-count c =
    let none = ap (λ os. elements_count (map object_view os)) (none_dropped c.loop-i.objects c.loop-i.i (omega (arith, c.loop-i-test.false, c.loop-i.auto.objects))) in
    sym (c.loop-i.invariant.count ∙ ap (λ n. c.loop-i.first + n) none ∙ (let e : c.loop-i.first + 0 ≡ c.loop-i.first = omega arith in e))
