use Rattle.std.proofs.Common.{◌≡◌, Bool, true, Option, Some, None, sym, ap, ◌∙◌}
use Rattle.std.specs.Prelude.{if◌then◌else◌, option_and_then}
use Rattle.rtl_net.specs.declared.process.Process.{Process}
use Rattle.rtl_net.specs.Nets.{NetlistView}
use Rattle.rtl_copy_ends.specs.Ends.{end_of}
use Rattle.rtl_copy_ends.specs.declared.sight.Standing.{Standing}
use Rattle.rtl_mixed_reasons.specs.Unsteady.{told_of, last_at, reset_in, unsteady_of, unsteady}
use Rattle.rtl_mixed_reasons.proofs.unsteady.unsteady.Goals as goal

pub end_of-end-requires-clause-are : goal.end_of-end-requires-clause-are
end_of-end-requires-clause-are c = c.requires.walks (sym c.is_wide.ensures ∙ c.if-not-is_wide.false)

pub told_of-requires : goal.told_of-requires
told_of-requires c = c.requires.walks (sym c.is_wide.ensures ∙ c.if-not-is_wide.false)

-- what is told of this reset, where the netlist is wide
told-is : (net : NetlistView) (p : Process) (reset : Option Standing) → net.wide ≡ true → reset ≡ reset_in net p → option_and_then (λ (s : Standing). told_of net (last_at p.body.items) (end_of net s)) reset ≡ unsteady net p
told-is net p reset wide is =
    ap (option_and_then (λ (s : Standing). told_of net (last_at p.body.items) (end_of net s))) is
    ∙ ap (λ (b : Bool). if b then unsteady_of net p else None) (sym wide)

pub returns-in_err-reset : goal.returns-in_err-reset
returns-in_err-reset c =
    c.from_residual.ensures
    ∙ told-is c.args.net.now c.args.process.now None (sym c.is_wide.ensures ∙ c.if-not-is_wide.false) (sym c.in_err-reset.was ∙ c.reset_in.ensures)

pub returns : goal.returns
returns c =
    let net = c.args.net.now in
    let at = c.last_at.ensures ∙ ap last_at c.deref.ensures.value in
    c.told_of.ensures
    ∙ ((λ i. told_of net (at i) (c.end_of-end.ensures i))
    ∙ told-is net c.args.process.now (Some c.in_ok-reset.reset) (sym c.is_wide.ensures ∙ c.if-not-is_wide.false) (sym c.in_ok-reset.was ∙ c.reset_in.ensures))
