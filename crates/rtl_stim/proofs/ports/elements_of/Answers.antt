use Rattle.std.proofs.Common.{◌++◌, ◌∷◌, [], ℕ, List, map, take, get_or, ap, sym, ◌∙◌, unwrap_or}
use Rattle.std.proofs.lemmas.List.{take_more, map-append}
use Rattle.std.proofs.lemmas.Option.{get_or_from_slice_get}
use Rattle.vhdl_values.specs.declared.scalar.Nine.TheVariants.{X}
use Rattle.vhdl_values.specs.declared.scalar.Nine.{Nine}
use Rattle.vhdl_values.specs.Scalar.{value_of_code}
use Rattle.rtl_stim_lines.specs.View.{element_view}
use Rattle.rtl_stim_lines.specs.Inputs.{Element}
use Rattle.rtl_stim.specs.Ports.{element_on}
use Rattle.rtl_stim.proofs.ports.elements_of.Goals as goal

pub loop-number-preserved : goal.loop-number-preserved
loop-number-preserved c =
    let net = c.args.net.now in
    let nets = c.args.nets.now in
    let i = c.loop-number.number-index in
    let n : ℕ = get_or nets i 0 in
    let code = get_or_from_slice_get net.starts n c.start.result 0 c.start.ensures in
    let value = c.unwrap_or-start.ensures ∙ ap (λ o. unwrap_or o X) c.from_code.ensures ∙ ap value_of_code (sym code) in
    let old : List Element = map (element_on net) (take i nets) in
    ap (map element_view) c.in_ok-push.ensures.items ∙ map-append element_view c.loop-number.elements.items (record { net = n; start = c.unwrap_or-start.result } ∷ [])
    ∙ ap (λ es. es ++ record { net = n; start = c.unwrap_or-start.result } ∷ []) c.loop-number.invariant
    ∙ ap (λ (v : Nine). old ++ record { net = n; start = v } ∷ []) value
    ∙ sym (ap (map (element_on net)) (take_more nets i 0 c.loop-number-test.true) ∙ map-append (element_on net) (take i nets) (n ∷ []))
