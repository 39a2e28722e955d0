use Rattle.std.proofs.Common.{◌<◌, length, true, false, sym, ◌∙◌, arith}
use Rattle.rtlsim_nearest.proofs.Ends.{end_all, end_next}
use Rattle.rtlsim_nearest.proofs.likeness.shared_last.Goals as goal

pub returns-then-not-is_same_letter : goal.returns-then-not-is_same_letter
returns-then-not-is_same_letter c =
    let count = c.loop-count.count in
    let in_name : count < length c.args.name.now = omega (arith, c.loop-count-test.true, c.min-shorter.ensures) in
    let in_other : count < length c.args.other.now = omega (arith, c.loop-count-test.true, c.min-shorter.ensures) in
    let e = end_next c.args.name.now c.args.other.now count false in_name in_other (sym c.is_same_letter.ensures ∙ c.if-not-is_same_letter.true) in
    omega (arith, c.loop-count.invariant.0, e)

pub loop-count-preserved : goal.loop-count-preserved
loop-count-preserved c =
    let count = c.loop-count.count in
    let in_name : count < length c.args.name.now = omega (arith, c.loop-count-test.true, c.min-shorter.ensures) in
    let in_other : count < length c.args.other.now = omega (arith, c.loop-count-test.true, c.min-shorter.ensures) in
    let e = end_next c.args.name.now c.args.other.now count true in_name in_other (sym c.is_same_letter.ensures ∙ c.if-not-is_same_letter.false) in
    (omega (arith, c.loop-count.invariant.0, e), omega (arith, c.loop-count-test.true))

pub returns : goal.returns
returns c =
    let e = end_all c.args.name.now c.args.other.now c.loop-count.count (omega (arith, c.loop-count-test.false, c.min-shorter.ensures)) in
    omega (arith, c.loop-count.invariant.0, e)
