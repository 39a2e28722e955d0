use Rattle.std.proofs.Common.{◌≡◌, ◌<◌, ◌++◌, length, map, take, ap, sym, ◌∙◌, arith}
use Rattle.rtl_model.specs.nets.FlatNetlist.{drivers_of, all_drivers_of}
use Rattle.rtl_net.specs.declared.process.Process.{Process}
use Rattle.rtl_net.specs.Nets.{process_view}
use Rattle.rtl_net.specs.steps.Tables.{nets_of}
use Rattle.rtl_net.proofs.Turns.{all-drivers-more}
use Rattle.rtl_net.proofs.building.sources.Goals as goal

pub loop-number-preserved : goal.loop-number-preserved
loop-number-preserved c =
    let adds = c.in_ok-add_drivers.ensures in
    let counted = c.loop-number.invariant.0 in
    let l : c.loop-number.number < length c.args.processes.now = omega (arith, c.loop-number-test.true) in
    let i = c.loop-number.number in
    let drives : c.deref.result.now ≡ c.index-processes-number.result.drives.items = c.deref.ensures.value ∙ ap (λ (p : Process). p.drives.items) (sym c.index-processes-number.is) in (
      omega (arith, adds.as_many, counted),
      λ n m.
          adds.each n (omega (arith, m, counted))
          ∙ ap (λ xs. xs ++ drivers_of n i 0 (nets_of c.deref.result.now)) (c.loop-number.invariant.1 n m)
          ∙ ap (λ ds. all_drivers_of n 0 (take i (map process_view c.args.processes.now)) ++ drivers_of n i 0 (nets_of ds)) drives
          ∙ all-drivers-more n c.args.processes.now i c.index-processes-number.result l c.index-processes-number.is,
    )
