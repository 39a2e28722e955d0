use Rattle.std.proofs.Common.{true, false, ◌≡◌, ◌+◌, drop, get_or, ap, ◌∙◌, arith}
use Rattle.std.proofs.lemmas.List.{get_or_default}
use Rattle.rtl_net.specs.declared.process.Variable.{Variable}
use Rattle.rtl_kept_bodies.specs.Steps.{kept_count}
use Rattle.rtl_kept_bodies.proofs.Listing.{count_past, count_more, count_below}
use Rattle.rtl_kept_bodies.proofs.kept.count_kept.Goals as goal

pub loop-number-preserved-then-not-flags-number : goal.loop-number-preserved-then-not-flags-number
loop-number-preserved-then-not-flags-number c =
    let l = c.loop-number in
    let fs = c.args.flags.now in
    let vs = c.args.variables.now in
    let past = count_past fs vs l.number (omega (arith, c.requires.flags, c.loop-number-test.true)) c.loop-number-test.true
    (get_or_default fs l.number true false (omega (arith, c.requires.flags, c.loop-number-test.true)) ∙ c.if-not-flags-number.true) in
    let so_far : l.many + kept_count (drop l.number fs) (drop l.number vs) ≡ kept_count fs vs = l.invariant in
    omega (arith, past, so_far)

pub overflow_add-many : goal.overflow_add-many
overflow_add-many c =
    let l = c.loop-number in
    let fs = c.args.flags.now in
    let vs = c.args.variables.now in
    let v = c.index-variables-number in
    let more = count_more fs vs l.number (get_or vs l.number v.result) (omega (arith, c.requires.flags, c.loop-number-test.true)) c.loop-number-test.true
    (get_or_default fs l.number true false (omega (arith, c.requires.flags, c.loop-number-test.true)) ∙ c.if-not-flags-number.false) (ap (λ (x : Variable). get_or vs l.number x) v.is) in
    let below = count_below fs vs in
    let so_far : l.many + kept_count (drop l.number fs) (drop l.number vs) ≡ kept_count fs vs = l.invariant in
    omega (arith, more, below, so_far, c.requires.fits, c.len-many.ensures.value)

pub loop-number-preserved : goal.loop-number-preserved
loop-number-preserved c =
    let l = c.loop-number in
    let fs = c.args.flags.now in
    let vs = c.args.variables.now in
    let v = c.index-variables-number in
    let more = count_more fs vs l.number (get_or vs l.number v.result) (omega (arith, c.requires.flags, c.loop-number-test.true)) c.loop-number-test.true
    (get_or_default fs l.number true false (omega (arith, c.requires.flags, c.loop-number-test.true)) ∙ c.if-not-flags-number.false) (ap (λ (x : Variable). get_or vs l.number x) v.is) in
    let so_far : l.many + kept_count (drop l.number fs) (drop l.number vs) ≡ kept_count fs vs = l.invariant in
    omega (arith, more, so_far, c.len-many.ensures.value)
