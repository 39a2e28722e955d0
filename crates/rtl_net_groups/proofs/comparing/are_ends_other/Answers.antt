use Rattle.std.proofs.Common.{◌-◌, length, ap, ℕ, arith}
use Rattle.rtl_net_groups.proofs.BothEnds.{ends_tell}
use Rattle.rtl_net_groups.proofs.comparing.are_ends_other.Goals as goal

pub returns : goal.returns
returns g c =
    let n = g.row.LANES in
    let new = c.args.new.now in
    ends_tell n (length c.args.old.now - n) c.args.old.now new c.requires.as_many (omega (arith, c.requires.least, c.requires.as_many)) (omega (arith, c.requires.covers, c.requires.as_many))
    (ap (λ (m : ℕ). m - n) c.requires.as_many) c.are_different-differ.result c.are_different.result c.are_different-differ.ensures c.are_different.ensures
