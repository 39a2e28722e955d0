use Rattle.std.proofs.Common.{◌≡◌, ◌<◌, ◌≤◌, ◌++◌, ◌∷◌, [], ℕ, List, length, map, take, get_or, ap, sym, ◌∙◌, arith}
use Rattle.std.specs.Prelude.{slice_index}
use Rattle.std.proofs.lemmas.List.{get_or-map, length-map, map-append, take_more}
use Rattle.std.proofs.lemmas.List.Elements.{All-get_or}
use Rattle.vhdl_values.specs.declared.scalar.Nine.TheVariants.{U}
use Rattle.rtl_stim_lines.specs.declared.inputs.Element.{Element as KeptElement}
use Rattle.rtl_stim_lines.specs.Inputs.{Input, Element, input_at, no_input}
use Rattle.rtl_stim_lines.specs.View.{element_view, inputs_view, input_view}
use Rattle.rtl_stim.specs.Pushes.{first_net}
use Rattle.rtl_stim.proofs.Places.{elements_seen, nets_seen}
use Rattle.rtl_stim.proofs.reading.first_nets.Goals as goal

pub loop-place-preserved : goal.loop-place-preserved
loop-place-preserved c =
    let inputs = inputs_view c.args.inputs.now in
    let i = c.loop-place.place in
    let es = c.elements_at.result.now in
    let d : KeptElement = record { net = 0; start = U } in
    let within : i < length inputs = omega (arith, c.loop-place-test.true, c.len-place-end.ensures.len, length-map c.args.inputs.now.entries input_view) in
    let have : 1 ≤ length (input_at inputs i).elements = All-get_or (λ (input : Input). 1 ≤ length input.elements) inputs i no_input within c.requires in
    let some : 0 < length es = omega (arith, have, ap (λ (xs : List Element). length xs) (elements_seen inputs i within es c.elements_at.ensures), length-map es element_view) in
    let is : first_net (input_at inputs i) ≡ (get_or es 0 d).net =
    ap (λ (ns : List ℕ). slice_index ns 0) (nets_seen inputs i within es c.elements_at.ensures) ∙ get_or-map (λ (e : KeptElement). e.net) es 0 d 0 some in
    let old = map first_net (take i inputs) in
    c.in_ok-push.ensures.items ∙ ap (λ (ns : List ℕ). ns ++ (get_or es 0 d).net ∷ []) c.loop-place.invariant ∙ ap (λ (n : ℕ). old ++ n ∷ []) (sym is)
    ∙ sym (ap (map first_net) (take_more inputs i no_input within) ∙ map-append first_net (take i inputs) (input_at inputs i ∷ []))
