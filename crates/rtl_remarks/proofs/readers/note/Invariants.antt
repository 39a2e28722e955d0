use Rattle.std.proofs.Common.{◌≡◌, ℕ, ◌<◌, length, take, if◌then◌else◌}
use Rattle.std.specs.Prelude.{slice_index_or, Some, None}
use Rattle.rtl_body_facts.specs.Reading.{is_in}
use Rattle.rtl_remarks.proofs.readers.note.Given as goal

-- the process stands at the nets before this one
abbrev pub invariant-loop-net : goal.invariant-loop-net
invariant-loop-net l = record {
  many : length l.readers.items ≡ length l.initial.readers.items;
  each : (n : ℕ) → n < length l.initial.readers.items
      → slice_index_or l.readers.items n None ≡ (if is_in n (take l.net-index l.nets) then Some l.process else slice_index_or l.initial.readers.items n None);
}
