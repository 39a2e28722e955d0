use Rattle.std.proofs.Common.{◌≡◌, ◌<◌, Bool, true, false, List, [], ◌∷◌, ◌++◌, length, get_or, refl, sym, ap, ◌∙◌}
use Rattle.std.proofs.lemmas.List.{map_more}
use Rattle.rtl_model.specs.simulation.Levels.{is_clocked}
use Rattle.rtl_model.specs.simulation.Netlist.{no_process, process}
use Rattle.rtl_net.specs.declared.process.Process.{Process}
use Rattle.rtl_net.specs.Core.{core}
use Rattle.rtl_levels.specs.Scheduled.{clocked_wakes}
use Rattle.rtl_levels.proofs.Clocks.{told_clocked}
use Rattle.rtl_levels.proofs.Wired.{processes_many, wakes_are}
use Rattle.rtl_levels.proofs.schedule.wakes_of_clocked.Goals as goal
use Rattle.rtl_levels.proofs.schedule.wakes_of_clocked.Goals.{then-clocked-number+in_ok-push, else-clocked-number+in_ok-push-2}

pub loop-number-preserved : goal.loop-number-preserved
loop-number-preserved c =
    let net = c.args.net.now in
    let k = c.loop-number.number in
    let same = c.processes-processes.ensures in
    let there : k < length net.processes = rw same at c.loop-number-test.true in
    let inside : k < length (core net).processes = rw (processes_many net) there in
    let more = sym (map_more clocked_wakes (core net).processes k no_process inside) in
    let told : get_or c.args.clocked.now k false ≡ is_clocked (process (core net) k).kind = ap (λ (bs : List Bool). get_or bs k false) c.requires ∙ told_clocked (core net) k inside in
    elim c.if-clocked-number.branch [
      | then-clocked-number+in_ok-push w ↦
          (let q = w.index-processes-number.result in
          let is : q ≡ get_or net.processes k q = w.index-processes-number.is ∙ ap (λ (ps : List Process). get_or ps k q) same in
          let kind : is_clocked (process (core net) k).kind ≡ true = sym told ∙ w.if-clocked-number.true in
          let row : w.as_slice.result.now ≡ clocked_wakes (process (core net) k) =
          w.as_slice.ensures ∙ sym (ap (λ (x : Process). x.wakes.items) w.index-processes-number.is) ∙ wakes_are net k q there is ∙ rw kind refl in
          w.lists-is ∙ w.in_ok-push.ensures.ok ∙ (λ j. c.loop-number.invariant j ++ row j ∷ []) ∙ more)
      | else-clocked-number+in_ok-push-2 w ↦
          (let kind : is_clocked (process (core net) k).kind ≡ false = sym told ∙ w.if-clocked-number.false in
          let row : [] ≡ clocked_wakes (process (core net) k) = rw kind refl in
          w.lists-is ∙ w.in_ok-push-2.ensures.ok ∙ (λ j. c.loop-number.invariant j ++ row j ∷ []) ∙ more)
    ]
