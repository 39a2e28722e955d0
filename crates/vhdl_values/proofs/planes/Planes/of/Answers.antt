use Rattle.std.proofs.Common.{◌≡◌, ◌+◌, ◌*◌, ◌-◌, ◌/◌, arith, length, length-drop, refl, take}
use Rattle.std.proofs.lemmas.List.{length-take}
use Rattle.vhdl_values.specs.Planes.{HaveCodes}
use Rattle.vhdl_values.proofs.Coded.{HaveCodes-next, HaveCodes-whole}
use Rattle.vhdl_values.proofs.planes.Planes.of.Goals as goal

pub loop-group-preserved : goal.loop-group-preserved
loop-group-preserved c =
    HaveCodes-next c.args.codes.now (8 * c.loop-group.group) (8 * c.loop-group.group + 8 - 8 * c.loop-group.group) _ _ _ _ _ (omega arith)
    (c.and_group-planes.ensures (take (8 * c.loop-group.group) c.args.codes.now) (simp (length-take, length-drop) (omega arith)) c.loop-group.invariant)

pub returns : goal.returns
returns c =
    let end : c.loop-group.group ≡ length c.args.codes.now / 8 = omega arith in
    let have : HaveCodes (take (8 * (length c.args.codes.now / 8)) c.args.codes.now) c.loop-group.planes.first c.loop-group.planes.second c.loop-group.planes.third c.loop-group.planes.fourth =
    rw end at c.loop-group.invariant in
    HaveCodes-whole c.args.codes.now (8 * (length c.args.codes.now / 8) + (length c.args.codes.now - 8 * (length c.args.codes.now / 8))) _ _ _ _ (omega arith)
    (HaveCodes-next c.args.codes.now (8 * (length c.args.codes.now / 8)) (length c.args.codes.now - 8 * (length c.args.codes.now / 8)) _ _ _ _ _ refl
    (c.and_group.ensures (take (8 * (length c.args.codes.now / 8)) c.args.codes.now) (simp (length-take, length-drop) (omega arith)) have))
