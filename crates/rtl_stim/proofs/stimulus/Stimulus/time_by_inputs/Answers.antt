use Rattle.std.proofs.Common.{◌≡◌, ℕ, ◌+◌, ◌<◌, ◌≤◌, length, sym, subst, arith}
use Rattle.rtl_stim_lines.specs.Inputs.{input_at}
use Rattle.rtl_stim_lines.specs.Times.{nets_of}
use Rattle.rtl_stim.specs.Quiet.{HasNoneHere, HasPassed}
use Rattle.rtl_stim.proofs.ByInputs.{none_of_clocks, passed_more}
use Rattle.rtl_stim.proofs.Places.{each_kept_input}
use Rattle.rtl_stim.proofs.stimulus.Stimulus.time_by_inputs.Goals as goal
use Rattle.rtl_stim.proofs.stimulus.Stimulus.time_by_inputs.Goals.{then-is_data, else-is_data}

pub loop-place-preserved : goal.loop-place-preserved
loop-place-preserved c =
    let v = c.args.self.now in
    let i = c.loop-place.place in
    let within : i < length v.inputs = omega (arith, c.loop-place-test.true, c.len-place-end.ensures.len, each_kept_input c.self.inside v c.self.view_is) in
    let past = c.loop-place.past in
    let clocks = c.args.clocks.now in
    let nets = nets_of (input_at v.inputs i) in
    let more : (n : ℕ) → 0 < n → n ≤ past → (n < past → HasNoneHere v clocks nets n → ⊥) → ((t : ℕ) → 0 < t → t < n → HasNoneHere v clocks nets t) → HasPassed v clocks (i + 1) n =
    (λ n. passed_more v clocks i past n within c.loop-place.invariant) in
    elim c.if-is_data.branch [
      | then-is_data w ↦
          let told = w.race_before-past.ensures in
          subst (HasPassed v clocks (i + 1)) (sym w.past-is) (more w.race_before-past.result told.later told.within told.race told.none)
      | else-is_data w ↦
          subst (HasPassed v clocks (i + 1)) (sym w.past-is)
          (more past c.loop-place.invariant.some (omega arith) (λ less none. omega (arith, less)) (λ t some less. none_of_clocks v clocks nets t (c.is_data.ensures w.if-is_data.false)))
    ]

pub returns : goal.returns
returns c =
    let v = c.args.self.now in
    let all : c.loop-place.place ≡ length v.inputs = omega (arith, c.loop-place-test.false, c.loop-place.auto.place-end, c.len-place-end.ensures.len, each_kept_input c.self.inside v c.self.view_is) in
    subst (λ n. HasPassed v c.args.clocks.now n c.loop-place.past) all c.loop-place.invariant
