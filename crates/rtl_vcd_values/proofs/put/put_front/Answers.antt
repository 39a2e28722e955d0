use Rattle.rtl_vcd_values.proofs.Puts.{put_none}
use Rattle.rtl_vcd_values.proofs.put.put_front.Goals as goal

pub returns-clause-front : goal.returns-clause-front
returns-clause-front c = put_none c.args.room.now c.args.from c.args.old.now c.args.new.now
