use Rattle.std.proofs.Common.{◌≡◌, ℕ, ◌<◌, ◌≤◌, length, drop}
use Rattle.std.specs.Prelude.{slice_index_or, None}
use Rattle.rtl_remarks.specs.Remarks.{reader_from}
use Rattle.rtl_remarks.proofs.readers.first_readers.Given as goal

-- the first readers among this process and those behind it
abbrev pub invariant-loop-process : goal.invariant-loop-process
invariant-loop-process l = record {
  within : l.process ≤ length l.processes;
  each_net : length l.readers.items ≡ length l.net.types;
  each : (n : ℕ) → n < length l.net.types → slice_index_or l.readers.items n None ≡ reader_from l.process (drop l.process l.processes) n;
}

abbrev pub decreases-loop-process : goal.decreases-loop-process
decreases-loop-process l = l.process
