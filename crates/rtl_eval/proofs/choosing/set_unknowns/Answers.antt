use Rattle.std.proofs.Common.{◌≡◌, ◌<◌, ◌+◌, List, ℕ, drop, length, replicate, slice_index, slice_set, ap, sym, ◌∙◌, arith}
use Rattle.std.proofs.lemmas.List.{length-set, length-replicate, get_or-replicate}
use Rattle.vhdl_values.specs.Scalar.{code_of}
use Rattle.vhdl_values.specs.declared.scalar.Nine.TheVariants.{X}
use Rattle.rtl_net.specs.Indices.{numbers}
use Rattle.rtl_drives.specs.Outcomes.{Outcome}
use Rattle.rtl_model.specs.bodies.Variables.{values_put}
use Rattle.rtl_eval.proofs.OneByOne.{put_more, none_to_put}
use Rattle.rtl_eval.proofs.choosing.set_unknowns.Goals as goal

pub loop-at-preserved : goal.loop-at-preserved
loop-at-preserved c =
    let ns = numbers c.args.elements.now in
    let vs = replicate (length ns) (code_of X) in
    let i = c.loop-at.at in
    let o = c.loop-at.out in
    let m : i < length ns = omega (arith, c.loop-at-test.true, c.len-at-end.ensures) in
    let code : c.code.result ≡ slice_index vs i = c.code.ensures.code ∙ sym (get_or-replicate (length ns) i (code_of X) 0 m) in
    let many : length vs ≡ length ns = length-replicate (length ns) (code_of X) in
    let put : List ℕ → Outcome = λ es. record o { variables = es } in
    record {
      each_element = ap (λ (o : Outcome). length o.variables) c.set_variable.ensures ∙ length-set o.variables c.at.result c.code.result ∙ c.loop-at.invariant.each_element;
      whole = ap (λ (o : Outcome). record o { variables = values_put (drop (i + 1) ns) (drop (i + 1) vs) o.variables }) c.set_variable.ensures
          ∙ ap put (ap (λ n. values_put (drop (i + 1) ns) (drop (i + 1) vs) (slice_set o.variables n c.code.result)) c.at.ensures
          ∙ ap (λ v. values_put (drop (i + 1) ns) (drop (i + 1) vs) (slice_set o.variables (slice_index ns i) v)) code
          ∙ put_more ns vs i o.variables m (omega (arith, m, many))) ∙ c.loop-at.invariant.whole;
    }

pub returns : goal.returns
returns c =
    let ns = numbers c.args.elements.now in
    let o = c.loop-at.out in
    let put : List ℕ → Outcome = λ es. record o { variables = es } in
    ap put (none_to_put ns (replicate (length ns) (code_of X)) c.loop-at.at o.variables (omega (arith, c.loop-at-test.false, c.len-at-end.ensures))) ∙ c.loop-at.invariant.whole
