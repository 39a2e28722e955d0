use Rattle.std.proofs.Common.{◌++◌, ◌∙◌, List, sym, ap, subst, map}
use Rattle.rtl_model.specs.simulation.Faults.{AreFaultsOf}
use Rattle.rtl_check.specs.declared.fault.CheckFault.{CheckFault}
use Rattle.rtl_net.specs.Core.{core}
use Rattle.rtl_check.specs.Views.{fault_view}
use Rattle.rtl_check.specs.Listing.{is_of_number}
use Rattle.rtl_check.proofs.variables.stored.Goals as goal

pub returns : goal.returns
returns c =
    let h = c.in_ok-stored_variables.ensures in
    let is = h.is ∙ ap (λ (xs : List CheckFault). xs ++ h.added) c.new-faults.ensures.items in
    subst (λ (xs : List CheckFault). AreFaultsOf (core c.args.net.now) (is_of_number 9) (map fault_view xs)) (sym is) h.are
