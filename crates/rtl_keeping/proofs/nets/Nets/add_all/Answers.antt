use Rattle.std.proofs.Common.{◌+◌, rules, sym, subst}
use Rattle.rtl_keeping.proofs.Adding.{Adding, passed, one_more, has_room}
use Rattle.rtl_keeping.proofs.nets.Nets.add_all.Goals as goal
use Rattle.rtl_keeping.proofs.nets.Nets.add_all.Goals.{then-marks-k+in_ok-add, else-marks-k}

pub loop-k-preserved : goal.loop-k-preserved
loop-k-preserved c =
    let p = c.args.process.now in
    let marks = c.args.marks.now in
    elim c.if-marks-k.branch [
      | then-marks-k+in_ok-add w ↦
          subst (Adding p c.args.number marks p.variables.items c.args.self.now (c.loop-k.k + 1)) (sym w.self-is)
          (one_more p c.args.number marks p.variables.items c.args.self.now c.loop-k.k c.loop-k.self c.requires.many c.loop-k-test.true w.index.result.now w.index.ensures c.loop-k.invariant w.add.new.self (let is = w.if-marks-k in search rules) w.in_ok-add.ensures)
      | else-marks-k w ↦
          subst (Adding p c.args.number marks p.variables.items c.args.self.now (c.loop-k.k + 1)) (sym w.self-is)
          (passed p c.args.number marks p.variables.items c.args.self.now c.loop-k.k c.loop-k.self c.requires.many c.loop-k-test.true (let is = w.if-marks-k in search rules) c.loop-k.invariant)
    ]

pub add-requires : goal.add-requires
add-requires c =
    let p = c.args.process.now in
    record {
      room = has_room p c.args.number c.args.marks.now p.variables.items c.args.self.now c.loop-k.k c.loop-k.self c.requires.many c.loop-k-test.true c.index.result.now c.index.ensures c.loop-k.invariant (search rules) c.requires.room;
    }
