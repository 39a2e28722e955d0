use Rattle.std.proofs.Common.{arith, ◌-◌, ◌^◌, ◌<◌, [], length, take}
use Rattle.vhdl_names_sight.specs.Views.{region_view}
use Rattle.vhdl_names_declarations.proofs.Counting.{counted_more, small_counts, taken_size}
use Rattle.vhdl_names_declarations.proofs.counts.Counts.between.Goals as goal

pub with-counts-requires : goal.with-counts-requires
with-counts-requires c =
    let size = taken_size c.args.region.now.entries c.loop-place.place in
    let small : length (take c.loop-place.place (region_view c.args.region.now)) < 2 ^ 64 - 1 = omega (arith, size, c.region_is_small.ensures) in
    small_counts c.loop-place.counts _ _ small c.loop-place.invariant

pub loop-place-preserved : goal.loop-place-preserved
loop-place-preserved c =
    counted_more [] c.loop-place.counts _ c.args.region.now.entries c.loop-place.place c.index.result.now c.index.ensures c.with-counts.ensures c.loop-place.invariant
