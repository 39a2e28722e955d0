use Rattle.std.proofs.Common.{length, ap, subst, arith}
use Rattle.std.proofs.lemmas.List.{take_all}
use Rattle.rtl_stim_lines.specs.Times.{all_nets}
use Rattle.rtl_stim.specs.Quiet.{HasNoneHere}
use Rattle.rtl_stim.proofs.stimulus.Stimulus.race_by_inputs.Goals as goal

pub returns-then-time-stop-clause-found : goal.returns-then-time-stop-clause-found
returns-then-time-stop-clause-found c =
    let s = c.args.self.now in
    let told = c.time_by_inputs-time.ensures in
    let all = ap all_nets (take_all (length s.inputs) s.inputs (omega arith)) in
    record {
      later = told.some;
      in_time = omega (arith, c.if-time-stop.true, c.stop.ensures.stop);
      race = told.race (omega (arith, c.if-time-stop.true, c.stop.ensures.stop));
      first = λ u some less. subst (λ ns. HasNoneHere s c.args.clocks.now ns u) all (told.none u some less);
    }

pub returns-else-time-stop-clause-none : goal.returns-else-time-stop-clause-none
returns-else-time-stop-clause-none c =
    let s = c.args.self.now in
    let told = c.time_by_inputs-time.ensures in
    let all = ap all_nets (take_all (length s.inputs) s.inputs (omega arith)) in
    λ t some le. subst (λ ns. HasNoneHere s c.args.clocks.now ns t) all (told.none t some (omega (arith, le, c.if-time-stop.false, c.stop.ensures.stop)))
