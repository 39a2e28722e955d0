-- The settling theorem, from rtl_model's of sound flat netlists.
use Rattle.std.proofs.Common.{◌≡◌, ℕ, ◌≤◌, List, [], ◌∷◌, length, refl, subst, arith}
use Rattle.rtl_model.specs.nets.CoreNetlist.{core_netlist}
use Rattle.rtl_model.specs.nets.Laws.{EachSimulatesTheMachine, EachHasOneSolution}
use Rattle.rtl_model.specs.simulation.Netlist.{Netlist, Source, sources_of}
use Rattle.rtl_model.specs.simulation.Moments.{HasDeltas}
use Rattle.rtl_model.specs.simulation.Accepted.{IsAccepted, TwoDrivers}
use Rattle.rtl_model.proofs.simulation.Orders.{one_number}
use Rattle.rtl_net.specs.Nets.{flat}
use Rattle.rtl_net.specs.Laws.{EachNetMeetsTheLaws}
use Rattle.rtl_run.specs.Synchronous.{EachAcceptedIsSynchronous}

at_most_one : (net : Netlist) → IsAccepted net → (n : ℕ) → length (sources_of net n) ≤ 1
at_most_one net accepted n = by (sources_of net n) refl
  where
    by : (sources : List Source) → sources_of net n ≡ sources → length sources ≤ 1
    by [] is = omega arith
    by (a ∷ []) is = omega arith
    by (a ∷ b ∷ more) is = absurd (accepted (TwoDrivers n a b) (more, is))

pub is_synchronous : EachNetMeetsTheLaws → EachSimulatesTheMachine → EachHasOneSolution → EachAcceptedIsSynchronous
is_synchronous meets simulates solves net most stimulus is_net said raceless =
    let core = core_netlist (flat net) in
    let sound = (meets net is_net).sound said.accepted in
    let all = simulates (flat net) sound stimulus in (
      all.one_run.0,
      record {
        one_source = at_most_one core said.accepted;
        comes = all.begins;
        settles = λ m begun is_begun.
            let s = all.settles said.greatest most said.is_bound m begun is_begun in
            (s.deltas, s.settles, s.in_bound);
        starts = λ greatest is none begun is_begun.
            let s = all.settles greatest most is 0 begun is_begun in
            (s.deltas, s.settles, s.at_start refl none);
        is_machine = λ m deltas settled has.
            let (begun, is_begun, (settles, leads)) = has in
            let s = all.settles said.greatest most said.is_bound m begun is_begun in
            let same = one_number core begun deltas s.deltas settles s.settles in
            s.is_machine (raceless m) settled (subst (λ (k : ℕ). HasDeltas core k begun settled) same leads) all.one_run.0 all.one_run.1;
        machine = all.one_run.1;
        one_solution = solves (flat net) sound;
      },
    )
