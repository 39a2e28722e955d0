use Rattle.std.proofs.Common.{◌≡◌, ℕ, ◌++◌, length, map, Some, Vec, Global, refl, sym, ap, ◌∙◌, subst, arith, rules}
use Rattle.std.specs.Prelude.{OnOk, is_none, codes}
use Rattle.std.proofs.lemmas.Grind.{common_steps}
use Rattle.vhdl_elab_rules.specs.Wiring.{defaults_of}
use Rattle.vhdl_elab_rules.specs.Numbering.{element_nets, with_instance}
use Rattle.vhdl_expand_tree.specs.declared.tree.Instance.{Instance}
use Rattle.vhdl_expand_tree.specs.declared.tree.Process.{Process}
use Rattle.vhdl_expand_tree.specs.Views.{object_view, objects_view, process_view, instance_view, parts_of, parts_view}
use Rattle.vhdl_connect_processes.specs.Located.{IsOf}
use Rattle.vhdl_elab.specs.Made.{IsMade}
use Rattle.vhdl_elab.specs.declared.walk.Above.{Above}
use Rattle.vhdl_elab.specs.Ready.{InstanceIsReady, PartsAreReady}
use Rattle.vhdl_elab.specs.Walking.{above_at, instance_nets, parts_nets}
use Rattle.vhdl_elab.proofs.Walking.{weight, weights, dropped, none_left, next_lighter, next_ready, others_ready, so_far_begins, so_far_next, so_far_ends, process_made, inner_lighter, inner_ready, inner_made, instance_made, next_nets, process_nets, inner_nets, own_nets, on_ok}
use Rattle.vhdl_elab.proofs.walk.+instance.Goals as goal

-- ---- an instance

pub instance-parts-requires : goal.instance-parts-requires
instance-parts-requires t c =
    let same : c.deref_mut.result.now ≡ c.args.from.now.parts.items = c.deref_mut.ensures.value ∙ ap (λ v. v.items) c.declare.ensures.parts in
    let i = c.args.from.now in
    let own = own_nets _ _ (objects_view i.objects) i.turns (parts_view i.parts) _ _ c.in_ok-declare.ensures.made in (
      omega (arith, c.decreases, ap (λ ps. weights (parts_of ps)) same),
      (subst (λ ps. PartsAreReady (parts_of ps)) (sym same) c.requires.ready, omega (arith, c.requires.room, own, ap (λ ps. parts_nets (parts_of ps)) same)),
    )

pub instance-returns-clause-nets : goal.instance-returns-clause-nets
instance-returns-clause-nets t c =
    let i = c.args.from.now in
    let same : c.deref_mut.result.now ≡ i.parts.items = c.deref_mut.ensures.value ∙ ap (λ v. v.items) c.declare.ensures.parts in
    let own = own_nets _ _ (objects_view i.objects) i.turns (parts_view i.parts) _ _ c.in_ok-declare.ensures.made in
    on_ok c.parts.result c.parts.ensures.nets (λ n. omega (arith, n, own, ap (λ ps. parts_nets (parts_of ps)) same))

pub instance-returns-clause-made : goal.instance-returns-clause-made
instance-returns-clause-made t c = λ d path h.
    let above = above_at c.args.above.now path in
    let i = c.args.from.now in
    let number : c.len-scope.result ≡ length c.args.made.now.scopes.items = first_of (search rules, grind (arith, common_steps)) in
    let kinds : c.len.result ≡ length c.args.made.now.kinds.items = first_of (search rules, grind (arith, common_steps)) in
    let top : c.is_none.result ≡ is_none c.args.above.now.parent = first_of (search rules, grind (arith, common_steps)) in
    let nets : c.deref-3.result.now ≡ element_nets above.nets (length c.args.made.now.kinds.items) (objects_view i.objects) =
    c.deref-3.ensures.value ∙ c.in_ok-nets.ensures ∙ (λ j. element_nets above.nets (kinds j) (map object_view (c.deref.ensures.value j))) in
    let defaults : c.deref-5.result.now ≡ defaults_of (objects_view i.objects) =
    c.deref-5.ensures.value ∙ c.in_ok-defaults.ensures ∙ ap (λ os. defaults_of (map object_view os)) c.deref-2.ensures.value in
    let same : c.deref_mut.result.now ≡ i.parts.items = c.deref_mut.ensures.value ∙ ap (λ v. v.items) c.declare.ensures.parts in
    instance_made above c.args.label.items (objects_view i.objects) i.turns (parts_view i.parts) (parts_of c.deref_mut.result.now) _ _ _
    d c.args.made.now c.declare.new.self c.parts.new.made c.parts.result h
    (record { number = number; top = top; nets = nets; label_is = refl; parent_is = refl })
    c.in_ok-declare.ensures.made refl (c.deref-4.ensures.value ∙ sym c.deref-3.ensures.value) defaults (ap parts_of same) c.parts.ensures.made

-- ---- what stands in an instance

pub parts-part-requires : goal.parts-part-requires
parts-part-requires t c =
    let next = dropped c.loop-i.list c.loop-i.i c.index-list-i.result c.index-list-i.result (omega (arith, c.loop-i-test.true, c.loop-i.auto.list)) in (
      omega (arith, c.decreases, c.loop-i.invariant.lighter, next_lighter _ _ _ next),
      (next_ready _ _ _ next c.loop-i.invariant.ready, omega (arith, c.requires.room, c.loop-i.invariant.nets, next_nets _ _ _ next)),
    )

pub parts-loop-i-init : goal.parts-loop-i-init
parts-loop-i-init t c = record { lighter = omega arith; nets = omega arith; ready = c.requires.ready; so_far = λ d p at h. so_far_begins _ p _ d _ h }

pub parts-loop-i-preserved : goal.parts-loop-i-preserved
parts-loop-i-preserved t c =
    let next = dropped c.loop-i.list c.loop-i.i c.index-list-i.result c.part.new.from (omega (arith, c.loop-i-test.true, c.loop-i.auto.list)) in
    record {
      lighter = omega (arith, c.loop-i.invariant.lighter, next_lighter _ _ _ next);
      nets = omega (arith, c.loop-i.invariant.nets, next_nets _ _ _ next, c.in_ok-part.ensures.nets);
      ready = others_ready _ _ _ next c.loop-i.invariant.ready;
      so_far = λ d p at h. so_far_next _ p _ _ _ _ d _ _ next (λ e k. c.in_ok-part.ensures.made e p at k) (c.loop-i.invariant.so_far d p at h);
    }

pub parts-returns-clause-nets : goal.parts-returns-clause-nets
parts-returns-clause-nets t c =
    omega (arith, c.loop-i.invariant.nets, ap parts_nets (none_left c.loop-i.list c.loop-i.i (omega (arith, c.loop-i-test.false, c.loop-i.auto.list))))

pub parts-returns-clause-made : goal.parts-returns-clause-made
parts-returns-clause-made t c = λ d p at h.
    so_far_ends _ p _ _ d _ (none_left c.loop-i.list c.loop-i.i (omega (arith, c.loop-i-test.false, c.loop-i.auto.list))) (c.loop-i.invariant.so_far d p at h)

-- ---- a process or an instance

pub part-returns-in_ok-push-in-Process-clause-nets : goal.part-returns-in_ok-push-in-Process-clause-nets
part-returns-in_ok-push-in-Process-clause-nets t c = omega (arith, process_nets c.args.from.now c.in-Process.process c.in-Process.is)

pub part-returns-in_ok-push-in-Process-clause-made : goal.part-returns-in_ok-push-in-Process-clause-made
part-returns-in_ok-push-in-Process-clause-made t c = λ d p at h.
    let round = c.args.round.now in
    let made = c.in_ok-process-in-Process.field-0 in
    process_made round p c.args.from.now c.in-Process.process d c.args.made.now c.push.new.self made c.in-Process.is at h
    (subst (λ (q : Process). IsOf round.scope round.nets.now round.defaults.now (process_view q) made) c.in-Process.process-is c.in_ok-process-in-Process.ensures)
    c.in_ok-push-in-Process.ensures.items

pub part-instance-requires : goal.part-instance-requires
part-instance-requires t c =
    let i = c.in-Instance.inner in (
      omega (arith, c.decreases, ap (λ (j : Instance). weight (instance_view j)) c.in-Instance.inner-is, inner_lighter c.args.from.now c.in-Instance.label i.objects i.turns i.parts c.in-Instance.is),
      (
        subst (λ (j : Instance). InstanceIsReady (instance_view j)) (sym c.in-Instance.inner-is) (inner_ready c.args.from.now c.in-Instance.label i.objects i.turns i.parts c.in-Instance.is c.requires.ready),
        omega (
          arith,
          c.requires.room,
          inner_nets c.args.from.now c.in-Instance.label i.objects i.turns i.parts c.in-Instance.is,
          ap (λ (j : Instance). instance_nets (instance_view j)) c.in-Instance.inner-is,
        ),
      ),
    )

pub part-returns-in-Instance-clause-nets : goal.part-returns-in-Instance-clause-nets
part-returns-in-Instance-clause-nets t c =
    let i = c.in-Instance.inner in
    on_ok c.instance.result c.instance.ensures.nets
    (λ n. omega (arith, n, inner_nets c.args.from.now c.in-Instance.label i.objects i.turns i.parts c.in-Instance.is, ap (λ (j : Instance). instance_nets (instance_view j)) c.in-Instance.inner-is))

pub part-returns-in-Instance-clause-made : goal.part-returns-in-Instance-clause-made
part-returns-in-Instance-clause-made t c = λ d p at h.
    let i = c.in-Instance.inner in
    let round = c.args.round.now in
    let above : Above = record { parent = Some round.scope; nets = round.nets } in
    let within = above_at above (p.path ++ codes ".") in
    let Made_of = λ (label : Vec ℕ Global) (j : Instance). OnOk c.instance.result (IsMade (with_instance within label.items (instance_view j) d) c.instance.new.made) in
    inner_made round above p c.args.from.now c.in-Instance.label i.objects i.turns i.parts d c.instance.result c.instance.new.made c.in-Instance.is at refl refl
    (subst (λ (label : Vec ℕ Global). Made_of label i) (c.replace-label.ensures.value ∙ c.in-Instance.label-is)
    (subst (λ (j : Instance). Made_of c.replace-label.result j) c.in-Instance.inner-is (c.instance.ensures.made d (p.path ++ codes ".") h)))
