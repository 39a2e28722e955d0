use Rattle.std.proofs.Common.{◌<◌, ◌+◌, List, Option, ℕ, drop, length, slice_index, Some, ap, ◌∙◌, arith}
use Rattle.std.proofs.lemmas.List.{length-set}
use Rattle.rtl_drives.specs.Outcomes.{Outcome}
use Rattle.rtl_eval.specs.Running.{assigned}
use Rattle.rtl_eval.proofs.OneByOne.{assigned_more, none_to_assign}
use Rattle.rtl_eval.proofs.assigning.assign_each.Goals as goal

pub loop-at-preserved : goal.loop-at-preserved
loop-at-preserved c =
    let ns = c.args.places.now in
    let vs = c.args.codes.now in
    let o = c.loop-at.out in
    let m : c.loop-at.at < length vs = omega (arith, c.loop-at-test.true) in
    let with : List (Option ℕ) → Outcome = λ es. record o { entries = es } in
    record {
      each_driver = ap (λ (o : Outcome). length o.entries) c.set.ensures ∙ length-set o.entries (slice_index ns c.loop-at.at) (Some (slice_index vs c.loop-at.at)) ∙ c.loop-at.invariant.each_driver;
      whole = ap (λ (o : Outcome). record o { entries = assigned (drop (c.loop-at.at + 1) ns) (drop (c.loop-at.at + 1) vs) o.entries }) c.set.ensures
          ∙ ap with (assigned_more ns vs c.loop-at.at o.entries (omega (arith, m, c.requires.as_many)) m) ∙ c.loop-at.invariant.whole;
    }

pub returns : goal.returns
returns c =
    let o = c.loop-at.out in
    let with : List (Option ℕ) → Outcome = λ es. record o { entries = es } in
    ap with (none_to_assign c.args.places.now c.args.codes.now c.loop-at.at o.entries (omega (arith, c.loop-at-test.false, c.requires.as_many))) ∙ c.loop-at.invariant.whole
