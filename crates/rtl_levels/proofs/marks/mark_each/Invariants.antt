use Rattle.std.proofs.Common.{◌≡◌, length, take}
use Rattle.rtl_kernel.specs.wakes.Woken.{AddsPlaces}
use Rattle.rtl_levels.proofs.marks.mark_each.Given as goal

abbrev pub invariant-loop-number : goal.invariant-loop-number
invariant-loop-number l = record {
  as_many : length l.marks.items ≡ length l.initial.marks.items;
  marks : AddsPlaces (take l.number-index l.numbers) l.initial.marks.items l.marks.items;
}
