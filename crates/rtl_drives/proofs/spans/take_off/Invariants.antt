use Rattle.std.proofs.Common.{◌≡◌, ℕ, true, false, drop, get_or, length}
use Rattle.std.specs.Prelude.{Contains}
use Rattle.rtl_drives.specs.Spans.{places_of}
use Rattle.rtl_drives.proofs.spans.take_off.Given as goal

abbrev pub invariant-loop-span : goal.invariant-loop-span
invariant-loop-span l = record {
  as_many : length l.marks ≡ length l.initial.marks;
  later : (place : ℕ) → get_or l.marks place false ≡ true → Contains (places_of (drop l.span-index l.spans)) place;
}
