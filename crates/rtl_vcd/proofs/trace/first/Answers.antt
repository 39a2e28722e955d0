use Rattle.std.proofs.Common.{All, ℕ, map, subst, sym}
use Rattle.byte_streams.proofs.Writing.{Goes-append}
use Rattle.rtl_net.specs.Nets.{signal_view}
use Rattle.rtl_net.specs.Showing.{IsShown}
use Rattle.rtl_vcd.proofs.trace.first.Goals as goal

pub push_all-requires : goal.push_all-requires
push_all-requires g c = record { shown = subst (λ (n : ℕ). All (IsShown n) (map signal_view c.args.shown.signals.now)) (sym c.requires.valuation) c.args.shown.fits.each }

pub returns-clause-text : goal.returns-clause-text
returns-clause-text g c =
    let start = Goes-append _ _ _ _ _ c.push_time.ensures c.push_text.ensures in
    Goes-append _ _ _ _ _ (Goes-append _ _ _ _ _ start c.push_all.ensures) c.push_text-2.ensures
