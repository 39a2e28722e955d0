use Rattle.std.proofs.Common.{◌+◌, length, take, ap, sym, ◌∙◌, subst}
use Rattle.std.specs.Prelude.{flat_map}
use Rattle.std.proofs.lemmas.List.{with_items_is}
use Rattle.vhdl_connect.specs.Uses.{AreUses}
use Rattle.vhdl_connect.proofs.Marking.{driven_by, read_by, parts_next, parts_all}
use Rattle.vhdl_connect.proofs.uses.uses_in.Goals as goal

pub loop-part-preserved : goal.loop-part-preserved
loop-part-preserved c =
    let ps = c.args.parts.now in
    let i = c.loop-part.part-index in
    let w = with_items_is c.loop-part.uses c.mark_part.new.uses (c.mark_part.auto.uses ∙ c.deref_mut.ensures.len) in (
      ap length w ∙ c.mark_part.auto.uses ∙ ap length c.deref_mut.ensures.value ∙ c.loop-part.invariant.0,
      subst (AreUses (flat_map driven_by (take (i + 1) ps)) (flat_map read_by (take (i + 1) ps))) (sym w)
          (parts_next ps i c.part-item.result c.loop-part-test.true c.part-item.is c.mark_part.new.uses
          (c.in_ok-mark_part.ensures (flat_map driven_by (take i ps)) (flat_map read_by (take i ps))
          (subst (AreUses (flat_map driven_by (take i ps)) (flat_map read_by (take i ps))) (sym c.deref_mut.ensures.value) c.loop-part.invariant.1))),
    )

pub returns : goal.returns
returns c = record {
  length = c.loop-part.invariant.0;
  each = parts_all c.args.parts.now c.loop-part.part-index c.loop-part.uses.items c.loop-part-test.false c.loop-part.invariant.1;
}
