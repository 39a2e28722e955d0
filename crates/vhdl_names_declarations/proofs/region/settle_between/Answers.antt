use Rattle.std.proofs.Common.{arith, ◌≡◌, ◌≤◌, ◌+◌, ◌-◌, ◌^◌, ◌<◌, length, ap, ◌∙◌, sym, refl}
use Rattle.indexmap.proofs.CallerLemmas.{index_map_len-with_value_at}
use Rattle.vhdl_names_sight.specs.Views.{region_view}
use Rattle.vhdl_names_declarations.specs.Counts.{next_of}
use Rattle.vhdl_names_declarations.specs.Settled.{class_view}
use Rattle.vhdl_names_declarations.proofs.Counting.{smaller}
use Rattle.vhdl_names_declarations.proofs.Settling.{between, settled_more, settled_end}
use Rattle.vhdl_names_declarations.proofs.region.settle_between.Goals as goal

pub loop-place-init : goal.loop-place-init
loop-place-init c =
    let s = c.args.settled.now in
    let number = next_of c.args.counts s.class in
    let ds = region_view c.args.region.now in
    let k : number ≡ number + (c.args.first - c.args.first) = omega arith in
    let r : c.args.counts.ranges ≡ c.args.counts.ranges + (c.args.first - c.args.first) = omega arith in (
      ap (λ n. between (class_view s.class) s.direction s.is_global n c.args.counts.ranges c.args.first c.args.last ds) k
          ∙ ap (λ n. between (class_view s.class) s.direction s.is_global (number + (c.args.first - c.args.first)) n c.args.first c.args.last ds) r,
      refl,
    )

pub entry-requires-clause-before : goal.entry-requires-clause-before
entry-requires-clause-before c = omega (arith, c.region_is_small.ensures, c.requires.last)

pub entry-requires-clause-counts : goal.entry-requires-clause-counts
entry-requires-clause-counts c =
    let le : 2 ^ 63 + c.args.first ≤ 2 ^ 64 - (c.loop-place.place - c.args.first) = omega (arith, c.region_is_small.ensures, c.requires.last) in
    smaller c.args.counts _ _ le c.requires.counts

pub loop-place-preserved : goal.loop-place-preserved
loop-place-preserved c =
    let s = c.args.settled.now in
    let es = c.loop-place.region.entries in
    let place = c.loop-place.place in
    let number = next_of c.args.counts s.class in
    let same = c.loop-place.invariant.1 in
    let lt : place < length es = omega (arith, same, c.requires.last) in
    let within : place < c.args.last = omega arith in
    let k : number + ((place + 1) - c.args.first) ≡ (number + (place - c.args.first)) + 1 = omega arith in
    let r : c.args.counts.ranges + ((place + 1) - c.args.first) ≡ (c.args.counts.ranges + (place - c.args.first)) + 1 = omega arith in (
      c.loop-place.invariant.0
          ∙ settled_more (class_view s.class) s.direction s.is_global _ _ _ _ place c.args.last es c.in_ok-region.field-0 lt within k r c.in_ok-region.ensures,
      index_map_len-with_value_at c.loop-place.region place c.in_ok-region.field-0 ∙ same,
    )

pub returns : goal.returns
returns c =
    let s = c.args.settled.now in
    let all : c.loop-place.place ≡ c.args.last = omega (arith, c.requires.places) in
    sym (c.loop-place.invariant.0 ∙ settled_end (class_view s.class) s.direction s.is_global _ _ c.loop-place.place c.args.last (region_view c.loop-place.region) all)
