use Rattle.std.proofs.Common.{◌≡◌, ◌<◌, ◌+◌, List, Option, ℕ, drop, length, replicate, slice_index, slice_set, Some, ap, sym, ◌∙◌, arith}
use Rattle.std.proofs.lemmas.List.{length-set, length-replicate, get_or-replicate}
use Rattle.vhdl_values.specs.Scalar.{code_of}
use Rattle.vhdl_values.specs.declared.scalar.Nine.TheVariants.{X}
use Rattle.rtl_net.specs.Indices.{numbers}
use Rattle.rtl_drives.specs.Outcomes.{Outcome}
use Rattle.rtl_eval.specs.Running.{assigned}
use Rattle.rtl_eval.proofs.OneByOne.{assigned_more, none_to_assign}
use Rattle.rtl_eval.proofs.choosing.assign_unknowns.Goals as goal

pub loop-at-preserved : goal.loop-at-preserved
loop-at-preserved c =
    let ns = numbers c.args.places.now in
    let vs = replicate (length ns) (code_of X) in
    let i = c.loop-at.at in
    let o = c.loop-at.out in
    let m : i < length ns = omega (arith, c.loop-at-test.true, c.len-at-end.ensures) in
    let code : c.code.result ≡ slice_index vs i = c.code.ensures.code ∙ sym (get_or-replicate (length ns) i (code_of X) 0 m) in
    let many : length vs ≡ length ns = length-replicate (length ns) (code_of X) in
    let put : List (Option ℕ) → Outcome = λ es. record o { entries = es } in
    record {
      each_driver = ap (λ (o : Outcome). length o.entries) c.set.ensures ∙ length-set o.entries c.at.result (Some c.code.result) ∙ c.loop-at.invariant.each_driver;
      whole = ap (λ (o : Outcome). record o { entries = assigned (drop (i + 1) ns) (drop (i + 1) vs) o.entries }) c.set.ensures
          ∙ ap put (ap (λ n. assigned (drop (i + 1) ns) (drop (i + 1) vs) (slice_set o.entries n (Some c.code.result))) c.at.ensures
          ∙ ap (λ v. assigned (drop (i + 1) ns) (drop (i + 1) vs) (slice_set o.entries (slice_index ns i) (Some v))) code
          ∙ assigned_more ns vs i o.entries m (omega (arith, m, many))) ∙ c.loop-at.invariant.whole;
    }

pub returns : goal.returns
returns c =
    let ns = numbers c.args.places.now in
    let o = c.loop-at.out in
    let put : List (Option ℕ) → Outcome = λ es. record o { entries = es } in
    ap put (none_to_assign ns (replicate (length ns) (code_of X)) c.loop-at.at o.entries (omega (arith, c.loop-at-test.false, c.len-at-end.ensures))) ∙ c.loop-at.invariant.whole
