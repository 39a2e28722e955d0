use Rattle.std.proofs.Common.{◌≡◌, map, position, ap, ◌∙◌}
use Rattle.std.specs.Prelude.{bytes_eq}
use Rattle.rtl_stim_lines.specs.Inputs.{small}
use Rattle.rtl_stim_lines.specs.View.{input_view}
use Rattle.rtl_stim_lines.proofs.Named.{named_place, found_input, found_within}
use Rattle.rtl_stim_lines.proofs.inputs.input_named.Goals as goal

pub returns-in-None-clause-place : goal.returns-in-None-clause-place
returns-in-None-clause-place c =
    let es = c.args.inputs.now.entries in
    let same : c.as_slice.result.now ≡ small c.args.name.now = c.as_slice.ensures.value ∙ c.in_ok-name.ensures.ok in
    c.in-None.ensures.index ∙ named_place c.as_slice.result.now es ∙ ap (λ n. position (λ input. bytes_eq n input.name) (map input_view es)) same

pub returns-clause-place : goal.returns-clause-place
returns-clause-place c =
    let es = c.args.inputs.now.entries in
    let same : c.as_slice.result.now ≡ small c.args.name.now = c.as_slice.ensures.value ∙ c.in_ok-name.ensures.ok in
    c.in-Some.ensures.index ∙ named_place c.as_slice.result.now es ∙ ap (λ n. position (λ input. bytes_eq n input.name) (map input_view es)) same

pub returns-clause-within : goal.returns-clause-within
returns-clause-within c = found_within c.args.inputs.now.entries c.in-Some.place _ c.in-Some.ensures.entry

pub returns-clause-input : goal.returns-clause-input
returns-clause-input c =
    let e = found_input c.args.inputs.now.entries c.in-Some.place _ c.in-Some.ensures.entry in
    (ap (λ input. input.is_scalar) e, ap (λ input. input.values) e, ap (λ input. input.elements) e)
