use Rattle.std.proofs.Common.{◌≡◌, ℕ, ◌+◌, ◌<◌, length, sym, subst, arith}
use Rattle.std.specs.BTreeSet.{BTreeSet}
use Rattle.rtl_stim_lines.specs.Inputs.{input_at}
use Rattle.rtl_stim_lines.specs.Times.{nets_of}
use Rattle.rtl_stim.specs.Quiet.{AreChanges, HasAdded}
use Rattle.rtl_stim.proofs.Quieting.{changes_of_more, none_added}
use Rattle.rtl_stim.proofs.Places.{each_kept_input}
use Rattle.rtl_stim.proofs.stimulus.Stimulus.change_times.Goals as goal
use Rattle.rtl_stim.proofs.stimulus.Stimulus.change_times.Goals.{then-is_data+in_ok-add_changes, else-is_data}

pub loop-place-preserved : goal.loop-place-preserved
loop-place-preserved c =
    let v = c.args.self.now in
    let i = c.loop-place.place in
    let within : i < length v.inputs = omega (arith, c.loop-place-test.true, c.len-place-end.ensures.len, each_kept_input c.self.inside v c.self.view_is) in
    let clocks = c.args.clocks.now in
    let old = c.loop-place.times in
    let more : (new : BTreeSet ℕ) → HasAdded v clocks (nets_of (input_at v.inputs i)) c.args.from c.args.last old new → AreChanges v clocks (i + 1) c.args.from c.args.last new =
    (λ new. changes_of_more v clocks i c.args.from c.args.last old new within c.loop-place.invariant) in
    elim c.if-is_data.branch [
      | then-is_data+in_ok-add_changes w ↦
          subst (AreChanges v clocks (i + 1) c.args.from c.args.last) (sym w.times-is) (more w.add_changes.new.times w.in_ok-add_changes.ensures)
      | else-is_data w ↦
          subst (AreChanges v clocks (i + 1) c.args.from c.args.last) (sym w.times-is)
          (more old (none_added v clocks (nets_of (input_at v.inputs i)) c.args.from c.args.last old (c.is_data.ensures w.if-is_data.false)))
    ]

pub returns : goal.returns
returns c =
    let v = c.args.self.now in
    let all : c.loop-place.place ≡ length v.inputs = omega (arith, c.loop-place-test.false, c.loop-place.auto.place-end, c.len-place-end.ensures.len, each_kept_input c.self.inside v c.self.view_is) in
    subst (λ n. AreChanges v c.args.clocks.now n c.args.from c.args.last c.loop-place.times) all c.loop-place.invariant
