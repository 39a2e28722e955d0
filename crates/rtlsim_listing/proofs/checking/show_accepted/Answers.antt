use Rattle.std.proofs.Common.{subst, length}
use Rattle.byte_streams.specs.Written.{Goes}
use Rattle.rtlsim_listing.specs.NetText.{lines}
use Rattle.rtlsim_listing.specs.CheckText as spec
use Rattle.rtlsim_listing.proofs.Printing.{then}
use Rattle.rtlsim_listing.proofs.checking.show_accepted.Goals as goal

pub returns : goal.returns
returns g c =
    let state = g.W.Sink.state in
    let shown = spec.shown_view c.args.shown in
    let bounds = subst (λ k. Goes (state c.args.out.now) (state c.push_bounds.new.out) (spec.bounds_text k shown.bound)) c.greatest_level.ensures c.push_bounds.ensures in
    rw c.if-draws.false (then c.push_levels.result _ _ _ (spec.bounds_text (spec.greatest_level shown.levels) shown.bound)
    (lines (spec.level_line c.args.net.now shown) (length shown.levels)) bounds c.push_levels.ensures)
