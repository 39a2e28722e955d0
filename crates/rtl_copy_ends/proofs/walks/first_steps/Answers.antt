use Rattle.std.proofs.Common.{◌≡◌, ◌*◌, ◌∙◌, length, arith}
use Rattle.rtl_copy_ends.specs.Steps.{next}
use Rattle.rtl_copy_ends.proofs.Stepping.{one-more}
use Rattle.rtl_copy_ends.proofs.walks.first_steps.Goals as goal

pub loop-place-preserved : goal.loop-place-preserved
loop-place-preserved c =
    let l = c.loop-place in
    let more = one-more (next c.args.net.now) l.steps.items c.push.new.self.items l.place c.next_place.result l.invariant.many c.in_ok-push.ensures.items l.invariant.each c.next_place.ensures in
    record { many = more.0; each = more.1 }

pub returns : goal.returns
returns c =
    let l = c.loop-place in
    let all : l.place ≡ 4 * length c.args.net.now.types = (let n = c.nets-place-end.ensures.count in let h = l.auto.place-end in let g = c.loop-place-test.false in omega arith) in
    record { many = l.invariant.many ∙ all; each = λ p b. l.invariant.each p (omega arith) }
