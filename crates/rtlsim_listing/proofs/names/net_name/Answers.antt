use Rattle.std.proofs.Common.{◌≡◌, ◌≤◌, [], length, sym, ◌∙◌, arith}
use Rattle.rtlsim_listing.proofs.Absent.{no_net}
use Rattle.rtlsim_listing.proofs.names.net_name.Goals as goal

pub returns : goal.returns
returns c =
    let empty : c.new.result.items ≡ [] = assumption (c.new.ensures) in
    let past : length c.args.net.now.types ≤ c.args.number = omega (arith, c.if-number-nets.false, c.nets.ensures.count) in
    empty ∙ sym (no_net c.args.net.now c.nets.ensures.elaborated c.args.number past)
