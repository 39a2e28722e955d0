use Rattle.std.proofs.Common.{◌≡◌, inl, inr, true, false, refl, sym, ◌∙◌}
use Rattle.rtl_model.specs.simulation.Netlist.{process}
use Rattle.rtl_model.specs.simulation.Accepted.{IsFault, MixedProcess}
use Rattle.rtl_net.specs.Core.{core}
use Rattle.rtl_process_kinds.proofs.Processes.{kind_at}
use Rattle.rtl_check.proofs.Firsts.{mixed_is, never_mixed, is_of_mixed, not_mixed}
use Rattle.rtl_check.proofs.listing.mixed_at.Goals as goal
use Rattle.rtl_check.proofs.listing.mixed_at.Goals.{then-is_mixed-via-then-is_mixed, then-is_mixed-via-else-is_mixed+then-unsteady-process}

pub returns-in_ok-push : goal.returns-in_ok-push
returns-in_ok-push c =
    let net = core c.args.net.now in
    let p = c.args.process in
    let kind = kind_at net c.args.kinds.now c.requires.kinds p c.requires.there _ _ refl in
    let is : IsFault net (MixedProcess p) = elim c.then-is_mixed.branch [
      | then-is_mixed-via-then-is_mixed w ↦ inl (mixed_is (process net p) _ kind (sym c.is_mixed.ensures ∙ w.if-is_mixed.true))
      | then-is_mixed-via-else-is_mixed+then-unsteady-process w ↦ inr ((c.requires.unsteady p).0 w.if-unsteady-process.true)
    ] in
    is_of_mixed net p c.args.faults.now.items c.push.new.self.items is c.in_ok-push.ensures.items

pub returns-else-unsteady-process : goal.returns-else-unsteady-process
returns-else-unsteady-process c = not_mixed (core c.args.net.now) c.args.process c.args.faults.now.items steady
  where
    steady : IsFault (core c.args.net.now) (MixedProcess c.args.process) → ⊥
    steady (inl e) =
        let kind = kind_at (core c.args.net.now) c.args.kinds.now c.requires.kinds c.args.process c.requires.there _ _ refl in
        never_mixed (process (core c.args.net.now) c.args.process) _ kind (sym c.is_mixed.ensures ∙ c.if-is_mixed.false) e
    steady (inr h) = let t : true ≡ false = sym ((c.requires.unsteady c.args.process).1 h) ∙ c.if-unsteady-process.false in absurd cc
