use Rattle.std.proofs.Common.{◌≡◌, ℕ, List, get_or, ap, ◌∙◌}
use Rattle.rtl_model.specs.bodies.Looks.{looked_nets}
use Rattle.rtl_net.specs.declared.body.Statement.{Statement}
use Rattle.rtl_net.specs.declared.process.Process.{Process}
use Rattle.rtl_net.specs.Bodies.{statements_of}
use Rattle.rtl_seen_nets.specs.Lowest.{lowest}
use Rattle.rtl_seen_nets.proofs.Tables.{by-places, of-process, goes_on, ends}
use Rattle.rtl_seen_nets.proofs.seen.seen_in_all.Goals as goal

pub loop-process-preserved : goal.loop-process-preserved
loop-process-preserved c =
    let l = c.loop-process in
    let wanted = c.args.wanted.now in
    let processes = c.args.processes.now in
    let x = c.process-item.result in
    let sees : (place : ℕ) → by-places c.in_ok-places.places place ≡ of-process wanted (get_or processes l.process-index x) place =
    λ place. c.in_ok-places.ensures place
    ∙ (ap (λ (xs : List Statement). lowest wanted (looked_nets (statements_of xs) place)) c.deref.ensures.value ∙ ap (λ (y : Process). of-process wanted y place) c.process-item.is) in
    goes_on wanted processes l.process-index l.seen.items c.push.new.self.items c.in_ok-places.places x l.invariant c.loop-process-test.true sees c.in_ok-push.ensures.items

pub returns : goal.returns
returns c =
    let l = c.loop-process in
    ends c.args.wanted.now c.args.processes.now l.process-index l.seen.items l.invariant c.loop-process-test.false
