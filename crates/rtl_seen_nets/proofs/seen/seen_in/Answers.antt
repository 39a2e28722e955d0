use Rattle.std.proofs.Common.{List, [], map, ap, ◌∙◌}
use Rattle.std.proofs.lemmas.Result.{IfOk-weaker}
use Rattle.rtl_net.specs.Bodies.{statements_of}
use Rattle.rtl_looks.specs.declared.hubs.Hub.{Hub}
use Rattle.rtl_looks.specs.Denoting.{nets_behind}
use Rattle.rtl_seen_nets.specs.Behind.{lowest_seen}
use Rattle.rtl_seen_nets.specs.Lowest.{lowest}
use Rattle.rtl_seen_nets.proofs.Hubs.{drivers-see}
use Rattle.rtl_seen_nets.proofs.seen.seen_in.Goals as goal

pub returns : goal.returns
returns c =
    let wanted = c.args.wanted.now in
    let hubs = c.driver_looks.new.hubs.hubs.items in
    let looks = c.in_ok-looks.looks.items in
    let found = c.in_ok-found.found.items in
    let behind = c.in_ok-found.ensures ∙ ap (λ (hs : List Hub). map (lowest wanted) (nets_behind [] hs)) c.deref.ensures.value in
    IfOk-weaker c.lowest_of_looks.result _ _
    (λ seen e. drivers-see wanted (statements_of c.args.body.now) c.new-hubs.result.hubs.items hubs looks found seen.items c.in_ok-looks.ensures behind
    (e ∙ (λ i. map (lowest_seen wanted (c.deref-2.ensures.value i)) (c.deref-3.ensures.value i))))
    c.lowest_of_looks.ensures
