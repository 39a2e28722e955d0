use Rattle.rtl_check.proofs.Firsts.{not_driven, driven_pushed}
use Rattle.rtl_check.proofs.listing.two_drivers_at.Goals as goal

pub returns-then-sources-lt2 : goal.returns-then-sources-lt2
returns-then-sources-lt2 c =
    not_driven c.args.net.now c.args.number c.sources-sources.result.now c.args.faults.now.items c.requires c.sources-sources.ensures c.if-sources-lt2.true

pub returns : goal.returns
returns c =
    driven_pushed c.args.net.now c.args.number c.sources-sources.result.now _ _ c.args.faults.now.items c.push.new.self.items c.requires c.sources-sources.ensures
    c.if-sources-lt2.false c.in_ok-push.ensures.items
