use Rattle.std.proofs.Common.{◌≡◌, ◌≢◌, ◌++◌, ◌∷◌, [], map, All, ap, sym, subst, ◌∙◌}
use Rattle.rtl_stim_lines.specs.Inputs.{small}
use Rattle.rtl_stim_lines.specs.View.{input_view, named_input}
use Rattle.rtl_stim_lines.proofs.Named.{new_last}
use Rattle.rtl_stim_lines.proofs.inputs.add_input.Goals as goal

pub returns : goal.returns
returns c =
    let es = c.args.inputs.now.entries in
    let name : c.in_ok-name.name.items ≡ small c.args.name.now = c.in_ok-name.ensures.ok in
    let new = subst (λ n. All (λ other. other.name ≢ n) (map input_view es)) (sym name) c.requires in
    ap (map input_view) c.in_ok-insert.ensures.entries ∙ new_last es c.in_ok-name.name c.args.input new
    ∙ ap (λ n. map input_view es ++ named_input n c.args.input ∷ []) name
