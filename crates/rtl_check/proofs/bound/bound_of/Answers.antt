use Rattle.std.proofs.Common.{◌+◌, ℕ, not, ap, ◌∙◌}
use Rattle.rtl_model.specs.simulation.Levels.{has_clocked}
use Rattle.rtl_net.specs.Core.{core}
use Rattle.rtl_check.specs.Bounds as b
use Rattle.rtl_check.proofs.Bounds.{some_clocked}
use Rattle.rtl_check.proofs.bound.bound_of.Goals as goal

pub returns : goal.returns
returns c =
    let net = core c.args.net.now in
    let g = c.args.greatest in
    let registers = c.one_if-registers.ensures ∙ ap b.one_if (ap not c.is_empty.ensures ∙ some_clocked net c.args.clocks.now c.requires.clocks) in
    let resets = c.one_if-resets.ensures ∙ ap b.one_if c.has_late_reset.ensures in
    ap (λ (n : ℕ). g + n + c.one_if-resets.result) registers ∙ ap (λ (n : ℕ). g + b.one_if (has_clocked net) + n) resets
