use Rattle.std.proofs.Common.{◌≡◌, ◌+◌, ◌∷◌, [], length, map, take, drop, arith, subst, sym}
use Rattle.rtl_net.specs.Nets.{signal_view}
use Rattle.rtl_vcd.specs.Blocks.{IsBlockOf}
use Rattle.rtl_vcd.proofs.Names.{shown_at, take_next}
use Rattle.rtl_vcd.proofs.blocks.close_at.Goals as goal

pub of-block-requires : goal.of-block-requires
of-block-requires c =
    let shown = shown_at (length c.args.shown.net.now.types) c.args.shown.signals.now c.args.first c.index-signals-first.result c.requires.there c.index-signals-first.is c.args.shown.fits.each in
    record { some = omega (arith, shown.width.0) }

pub loop-number-init : goal.loop-number-init
loop-number-init c =
    let signals = c.args.shown.signals.now in
    let first = c.args.first in
    let name = c.index-signals-first.result in
    let types = length c.args.shown.net.now.types in
    let block = c.of-block.result in
    let shown = shown_at types signals first name c.requires.there c.index-signals-first.is c.args.shown.fits.each in
    let names : take (0 + 1) (drop first (map signal_view signals)) ≡ signal_view name ∷ [] =
    take_next signals first 0 first name c.requires.there (omega arith) c.index-signals-first.is in
    let count : 0 + 1 ≡ block.names = omega (arith, c.of-block.ensures.names) in (
      omega (arith, c.of-block.ensures.names),
      subst (λ k. IsBlockOf types block (take k (drop first (map signal_view signals)))) count
          (subst (IsBlockOf types block) (sym names) (c.of-block.ensures.block types shown)),
    )

pub of-requires : goal.of-requires
of-requires c =
    let shown = shown_at (length c.args.shown.net.now.types) c.args.shown.signals.now c.loop-number.number c.index-signals-number.result c.loop-number-test.true c.index-signals-number.is c.args.shown.fits.each in
    record { some = omega (arith, shown.width.0) }

pub is_dense-requires : goal.is_dense-requires
is_dense-requires c =
    let signals = c.args.shown.signals.now in
    let types = length c.args.shown.net.now.types in
    let shown = shown_at types signals c.loop-number.number c.index-signals-number.result c.loop-number-test.true c.index-signals-number.is c.args.shown.fits.each in
    let is = c.with-more.ensures.block types (take c.loop-number.block.names (drop c.args.first (map signal_view signals)))
    (signal_view c.index-signals-number.result ∷ []) c.loop-number.invariant.1 (c.of.ensures.block types shown) in
    record { order = is.order }

pub loop-number-preserved : goal.loop-number-preserved
loop-number-preserved c =
    let signals = c.args.shown.signals.now in
    let first = c.args.first in
    let number = c.loop-number.number in
    let name = c.index-signals-number.result in
    let types = length c.args.shown.net.now.types in
    let before = c.loop-number.block.names in
    let block = c.with-more.result in
    let shown = shown_at types signals number name c.loop-number-test.true c.index-signals-number.is c.args.shown.fits.each in
    let names = take_next signals first before number name c.loop-number-test.true c.loop-number.invariant.0 c.index-signals-number.is in
    let count : before + 1 ≡ block.names = omega (arith, c.with-more.ensures.names, c.of.ensures.names) in (
      omega (arith, c.with-more.ensures.names, c.of.ensures.names, c.loop-number.invariant.0),
      subst (λ k. IsBlockOf types block (take k (drop first (map signal_view signals)))) count
          (subst (IsBlockOf types block) (sym names) (c.with-more.ensures.block types (take before (drop first (map signal_view signals))) (signal_view name ∷ []) c.loop-number.invariant.1
          (c.of.ensures.block types shown))),
    )
