use Rattle.std.proofs.Common.{◌<◌, ◌+◌, List, ℕ, drop, length, slice_index, slice_set, ap, ◌∙◌, arith}
use Rattle.std.proofs.lemmas.List.{length-set}
use Rattle.rtl_model.specs.bodies.Variables.{values_put}
use Rattle.rtl_net.specs.Indices.{numbers}
use Rattle.rtl_drives.specs.Outcomes.{Outcome}
use Rattle.rtl_eval.proofs.OneByOne.{put_more, none_to_put}
use Rattle.rtl_eval.proofs.assigning.set_codes.Goals as goal

pub loop-at-preserved : goal.loop-at-preserved
loop-at-preserved c =
    let ns = numbers c.args.elements.now in
    let vs = c.args.codes.now in
    let i = c.loop-at.at in
    let o = c.loop-at.out in
    let m : i < length vs = omega (arith, c.loop-at-test.true) in
    let put : List ℕ → Outcome = λ es. record o { variables = es } in
    record {
      each_element = ap (λ (o : Outcome). length o.variables) c.set_variable.ensures ∙ length-set o.variables c.at.result (slice_index vs i) ∙ c.loop-at.invariant.each_element;
      whole = ap (λ (o : Outcome). record o { variables = values_put (drop (i + 1) ns) (drop (i + 1) vs) o.variables }) c.set_variable.ensures
          ∙ ap put (ap (λ n. values_put (drop (i + 1) ns) (drop (i + 1) vs) (slice_set o.variables n (slice_index vs i))) c.at.ensures
          ∙ put_more ns vs i o.variables (omega (arith, m, c.requires.as_many)) m) ∙ c.loop-at.invariant.whole;
    }

pub returns : goal.returns
returns c =
    let o = c.loop-at.out in
    let put : List ℕ → Outcome = λ es. record o { variables = es } in
    ap put (none_to_put (numbers c.args.elements.now) c.args.codes.now c.loop-at.at o.variables (omega (arith, c.loop-at-test.false, c.requires.as_many))) ∙ c.loop-at.invariant.whole
