use Rattle.std.proofs.Common.{◌≡◌, true, length, arith, ◌∙◌}
use Rattle.std.proofs.lemmas.List.{get_or_default}
use Rattle.rtl_net_groups.proofs.Numbering.{numbered_same, some_before}
use Rattle.rtl_net_groups.proofs.runs.Runs.push.Goals as goal

pub returns-in_ok-push-3-clause-numbered : goal.returns-in_ok-push-3-clause-numbered
returns-in_ok-push-3-clause-numbered c =
    let begins = c.args.begins.now in
    let of_net = c.args.self.now.of_net.items in
    let first = c.args.self.now.first.items in
    let count : c.len-group-else-begins-net.result ≡ length first = omega (arith, c.len-group-else-begins-net.ensures, c.args.self.now.first.ok.0) in
    let unmarked = get_or_default begins c.args.net true _ c.requires.there ∙ c.if-begins-net.false in
    rw (c.in_ok-push-3.ensures.items, count)
    (numbered_same begins of_net first c.requires.numbered (some_before begins of_net c.args.net c.requires.next c.requires.first unmarked) (rw (c.requires.next) unmarked))
