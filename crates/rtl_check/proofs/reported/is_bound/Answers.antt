use Rattle.std.proofs.Common.{◌≡◌, ◌+◌, ℕ, not, sym, ap, ◌∙◌}
use Rattle.std.proofs.lemmas.Bool.{eqb-true, eq-eqb}
use Rattle.rtl_model.specs.simulation.Levels.{bound, has_clocked}
use Rattle.rtl_net.specs.Core.{core}
use Rattle.rtl_check.specs.Bounds as b
use Rattle.rtl_check.proofs.ReportParts.{some_listed}
use Rattle.rtl_check.proofs.reported.is_bound.Goals as goal

pub returns : goal.returns
returns c =
    let net = core c.args.net.now in
    let g = c.args.greatest in
    let sum = g + c.one_if-registers.result + c.one_if-late.result in
    let registers = c.one_if-registers.ensures ∙ ap b.one_if (ap not c.is_empty.ensures ∙ some_listed net c.args.clocks.now c.requires) in
    let late = c.one_if-late.ensures ∙ ap b.one_if c.some_is_late.ensures in
    let e : sum ≡ bound net g =
    ap (λ (n : ℕ). g + n + c.one_if-late.result) registers ∙ ap (λ (n : ℕ). g + b.one_if (has_clocked net) + n) late in
    (λ t. eqb-true c.args.bound sum t ∙ e, λ is. eq-eqb c.args.bound sum (is ∙ sym e))
