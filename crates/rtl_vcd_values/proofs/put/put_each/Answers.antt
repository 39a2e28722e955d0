use Rattle.std.proofs.Common.{◌+◌, ◌<◌, ◌||◌, set, length, take, arith, subst, sym, ◌∙◌, slice_index}
use Rattle.rtl_vcd_values.specs.Values.{character}
use Rattle.rtl_vcd_values.specs.Puts.{IsPut}
use Rattle.rtl_vcd_values.proofs.Puts.{put_none, put_more, put_all, alone_tells}
use Rattle.rtl_vcd_values.proofs.put.put_each.Goals as goal

pub loop-at-init : goal.loop-at-init
loop-at-init c = put_none c.args.room.now c.args.from c.args.old.now c.args.new.now

pub loop-at-preserved : goal.loop-at-preserved
loop-at-preserved c =
    let old = c.args.old.now in
    let new = c.args.new.now in
    let at = c.loop-at.at in
    let from = c.args.from in
    let room = c.loop-at.room in
    let within : from + at < length room = omega (arith, c.requires.room, c.loop-at-test.true, c.loop-at.invariant.long) in
    let more = put_more c.args.room.now room from at old new c.loop-at.is_other c.is_other_character.result c.requires.as_many c.loop-at-test.true within
    (c.is_other_character.ensures ∙ alone_tells (character (slice_index old at)) (character (slice_index new at))) c.loop-at.invariant in
    subst (λ r. IsPut c.args.room.now (set room (from + at) c.character.result) from (take (at + 1) old) (take (at + 1) new) r) (sym c.either-is_other.ensures)
    (subst (λ v. IsPut c.args.room.now (set room (from + at) v) from (take (at + 1) old) (take (at + 1) new) (c.loop-at.is_other || c.is_other_character.result)) (sym c.character.ensures) more)

pub returns : goal.returns
returns c =
    put_all c.args.room.now c.loop-at.room c.args.from c.loop-at.at c.args.old.now c.args.new.now c.loop-at.is_other c.requires.as_many
    (omega (arith, c.loop-at-test.false, c.loop-at.auto.at-end)) c.loop-at.invariant
