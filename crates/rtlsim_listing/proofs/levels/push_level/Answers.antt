use Rattle.rtlsim_listing.specs.CheckText as spec
use Rattle.rtlsim_listing.proofs.Printing.{none, refused}
use Rattle.rtlsim_listing.proofs.levels.push_level.Goals as goal

pub returns-in_err-behind-in-Some : goal.returns-in_err-behind-in-Some
returns-in_err-behind-in-Some g c =
    let text = spec.level_line c.args.net.now (spec.shown_view c.args.shown.now) c.args.number in
    refused c.from_residual.result _ _ _ text c.from_residual.ensures.1 (none _ text)
