use Rattle.std.proofs.Common.{codes}
use Rattle.std.specs.Prelude.{flat_map}
use Rattle.rtlsim_listing.specs.CheckText.{fault_line}
use Rattle.rtlsim_listing.proofs.Printing.{then}
use Rattle.rtlsim_listing.proofs.rejection.show_faults.Goals as goal

pub returns : goal.returns
returns g c =
    then c.push_faults.result _ _ _ (codes "no\n") (flat_map (fault_line c.args.net.now) c.args.faults.now) c.push_text.ensures c.push_faults.ensures
