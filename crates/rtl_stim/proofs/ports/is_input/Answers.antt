use Rattle.std.proofs.Common.{ap, subst, sym, ◌∙◌}
use Rattle.std.specs.Prelude.{◌==◌}
use Rattle.std.specs.List.{list_any}
use Rattle.std.specs.List.Sorted.{IsStrictlyIncreasing}
use Rattle.std.proofs.lemmas.List.Sorted.{searched}
use Rattle.rtl_stim.proofs.Inputs.{found_among, rising}
use Rattle.rtl_stim.proofs.ports.is_input.Goals as goal

pub returns : goal.returns
returns c =
    let xs = c.inputs.result.now in
    let rise = rising xs (subst IsStrictlyIncreasing (sym c.inputs.ensures) c.is_elaborated.ensures.in_range.inputs_rise) in
    c.is_ok.ensures.value ∙ found_among xs c.args.number c.binary_search.result (searched xs c.args.number c.binary_search.result c.binary_search.ensures.position rise)
    ∙ ap (λ ns. list_any (λ m. m == c.args.number) ns) c.inputs.ensures
