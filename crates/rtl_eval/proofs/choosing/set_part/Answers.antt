use Rattle.std.proofs.Common.{◌≡◌, ◌<◌, ◌+◌, List, ℕ, take, drop, map, length, slice_index, slice_set, sym, ap, ◌∙◌, arith, get_or-take, get_or-drop}
use Rattle.std.proofs.lemmas.List.{length-set, length-map, get_or-map}
use Rattle.std.proofs.lemmas.Option.{get_or_from_slice_get}
use Rattle.vhdl_values.specs.declared.scalar.Nine.TheVariants.{X}
use Rattle.vhdl_values.specs.Scalar.{code_of}
use Rattle.rtl_model.specs.bodies.Variables.{values_put}
use Rattle.rtl_net.specs.Indices.{numbers}
use Rattle.rtl_drives.specs.Outcomes.{Outcome}
use Rattle.rtl_eval.proofs.Beginnings.{row_long}
use Rattle.rtl_eval.proofs.OneByOne.{put_more, none_to_put}
use Rattle.rtl_eval.proofs.choosing.set_part.Goals as goal

pub at-requires : goal.at-requires
at-requires c = omega (arith, c.requires.within, c.loop-place-test.true, c.len-place-end.ensures.len)

pub loop-place-preserved : goal.loop-place-preserved
loop-place-preserved c =
    let ns = numbers c.args.elements.now in
    let value = c.args.value.now in
    let part = take (length value) (drop c.args.at ns) in
    let vs = map code_of value in
    let k = c.loop-place.place in
    let o = c.loop-place.out in
    let m : k < length value = omega (arith, c.loop-place-test.true, c.len-place-end.ensures.len) in
    let long = row_long ns c.args.at (length value) c.requires.within in
    let put : List ℕ → Outcome = λ es. record o { variables = es } in
    let place : c.at.result ≡ slice_index part k = c.at.ensures ∙ sym (get_or-take (length value) (drop c.args.at ns) k 0 m ∙ get_or-drop c.args.at ns k 0) in
    let code : c.code.result ≡ slice_index vs k = c.code.ensures.code ∙ ap code_of (sym (get_or_from_slice_get value k c.get.result X c.get.ensures)) ∙ sym (get_or-map code_of value k X 0 m) in
    record {
      each_element = ap (λ (o : Outcome). length o.variables) c.set_variable.ensures ∙ length-set o.variables c.at.result c.code.result ∙ c.loop-place.invariant.each_element;
      whole = ap (λ (o : Outcome). record o { variables = values_put (drop (k + 1) part) (drop (k + 1) vs) o.variables }) c.set_variable.ensures
          ∙ ap put (ap (λ n. values_put (drop (k + 1) part) (drop (k + 1) vs) (slice_set o.variables n c.code.result)) place
          ∙ ap (λ v. values_put (drop (k + 1) part) (drop (k + 1) vs) (slice_set o.variables (slice_index part k) v)) code
          ∙ put_more part vs k o.variables (omega (arith, m, long)) (omega (arith, m, length-map value code_of))) ∙ c.loop-place.invariant.whole;
    }

pub returns : goal.returns
returns c =
    let value = c.args.value.now in
    let part = take (length value) (drop c.args.at (numbers c.args.elements.now)) in
    let o = c.loop-place.out in
    let put : List ℕ → Outcome = λ es. record o { variables = es } in
    ap put (none_to_put part (map code_of value) c.loop-place.place o.variables
    (omega (arith, c.loop-place-test.false, c.len-place-end.ensures.len, row_long (numbers c.args.elements.now) c.args.at (length value) c.requires.within))) ∙ c.loop-place.invariant.whole
