use Rattle.std.proofs.Common.{◌≡◌, ◌≤◌, ℕ, length, get_or, sym, ap, subst, ◌∙◌, arith}
use Rattle.rtl_net_groups.specs.Groups.{AreNetsOf, Grouping}
use Rattle.rtl_kernel.proofs.Touching.{AreTouched, touched_none, touched_more, touches_events}
use Rattle.rtl_kernel.proofs.kernel.Kernel.mark_changed.Goals as goal

pub loop-group-init : goal.loop-group-init
loop-group-init g c = touched_none _ _ _

pub mark_run-requires : goal.mark_run-requires
mark_run-requires g c =
    let each : length c.groups-groups.result.now.of_net ≡ length c.self.inside.nets.net.types =
    ap (λ (x : Grouping). length x.of_net) c.groups-groups.ensures.value ∙ c.values-values.ensures.grouped in
    let nets : c.args.touched.now.nets ≡ length c.self.inside.nets.net.types = rw (← c.self.view_is) at c.requires in
    let within = c.end.ensures.within in
    let stay = c.loop-group.invariant.nets_stay in
    omega (arith, within, each, nets, stay)

pub loop-group-preserved : goal.loop-group-preserved
loop-group-preserved g c =
    let groups = c.groups-groups.result.now in
    let changed = c.changed.result.groups.now in
    let k = c.loop-group.group-index in
    touched_more groups changed k c.first.result c.end.result c.args.touched.now c.loop-group.touched c.mark_run.new.self c.loop-group.invariant c.mark_run.ensures
    (subst (λ (f : ℕ). AreNetsOf groups (get_or changed k 0) f c.end.result) (sym c.first.ensures) c.end.ensures)

pub returns : goal.returns
returns g c =
    let values = c.values-values.result.now in
    let changed = c.changed.result.groups.now in
    let k = c.loop-group.group-index in
    let of = c.groups-groups.ensures.value in
    let S = c.self.invariant.sound.in_range in
    let A : AreTouched values.groups changed k c.args.touched.now c.loop-group.touched =
    subst (λ (x : Grouping). AreTouched x changed k c.args.touched.now c.loop-group.touched) of c.loop-group.invariant in
    let all : length changed ≤ k = omega (arith, c.loop-group-test.false) in
    rw (← c.self.view_is, ← c.values-values.ensures.value)
    (touches_events values changed k c.args.touched.now c.loop-group.touched c.changed.ensures.covers all
    (sym (ap (λ (x : Grouping). length x.of_net) of) ∙ c.groups-groups.ensures.each_net) (rw (c.values-values.ensures.value) (S.before.each_net ∙ sym S.now.each_net)) A)
