use Rattle.std.proofs.Common.{ℕ, List, ◌<◌, length, set, false, Some, sym, subst, arith}
use Rattle.rtl_calm_nets.specs.Reaching.{IsWalk}
use Rattle.rtl_calm_nets.proofs.Walking.{Walks, meets, past, enters, stops, step_any}
use Rattle.rtl_calm_nets.proofs.search.walk.Goals as goal

pub returns-in-Some : goal.returns-in-Some
returns-in-Some c = let l = c.loop-at in meets c.args.steps.now l.marks l.path.items c.args.from l.at l.invariant c.in-Some.known c.in-Some.is

pub returns-in-Ends : goal.returns-in-Ends
returns-in-Ends c =
    let l = c.loop-at in
    let steps = c.args.steps.now in
    let there : l.at < length l.marks = (let e = l.invariant.each_place in let h = c.loop-at-test.true in omega arith) in
    subst (λ (path : List ℕ). IsWalk steps (set l.marks l.at (Some false)) path c.args.from c.in-Ends.good) (sym c.in_ok-push.ensures.items)
    (stops steps l.marks l.path.items c.args.from l.at l.invariant c.in-Ends.good there (step_any steps l.at _ _ c.loop-at-test.true c.in-Ends.is))

pub loop-at-preserved : goal.loop-at-preserved
loop-at-preserved c =
    let l = c.loop-at in
    let steps = c.args.steps.now in
    let there : l.at < length l.marks = (let e = l.invariant.each_place in let h = c.loop-at-test.true in omega arith) in
    subst (λ (path : List ℕ). Walks steps (set l.marks l.at (Some false)) path c.args.from c.in-To.next) (sym c.in_ok-push.ensures.items)
    (enters steps l.marks l.path.items c.args.from l.at l.invariant c.in-To.next there (step_any steps l.at _ _ c.loop-at-test.true c.in-To.is))

pub returns : goal.returns
returns c = let l = c.loop-at in past c.args.steps.now l.marks l.path.items c.args.from l.at l.invariant c.loop-at-test.false
