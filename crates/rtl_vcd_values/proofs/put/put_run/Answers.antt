use Rattle.std.proofs.Common.{subst, sym}
use Rattle.rtl_vcd_values.specs.Puts.{IsPut}
use Rattle.rtl_vcd_values.proofs.Puts.{put_all, put_parts}
use Rattle.rtl_vcd_values.proofs.put.put_run.Goals as goal

pub returns-then-done-new : goal.returns-then-done-new
returns-then-done-new c =
    put_all c.args.room.now c.put_front-front.new.room c.args.from c.put_front-front.result.many c.args.old.now c.args.new.now c.put_front-front.result.is_other
    c.requires.as_many c.if-done-new.true c.put_front-front.ensures.front

pub returns : goal.returns
returns c =
    subst (IsPut c.args.room.now c.put_each-is_more.new.room c.args.from c.args.old.now c.args.new.now) (sym c.either.ensures)
    (put_parts c.args.room.now c.put_front-front.new.room c.put_each-is_more.new.room c.args.from c.put_front-front.result.many c.args.old.now c.args.new.now
    c.put_front-front.result.is_other c.put_each-is_more.result c.requires.as_many c.put_front-front.ensures.within c.put_front-front.ensures.front c.put_each-is_more.ensures)
