use Rattle.std.proofs.Common.{◌≡◌, ℕ, ◌+◌, ◌-◌, ◌*◌, ◌<◌, ◌≤◌, length, take}
use Rattle.std.specs.Prelude.{slice_index_or}
use Rattle.rtlsim_refusals.specs.Places.{position_behind}
use Rattle.rtlsim_refusals.specs.declared.place.Position.{Position}
use Rattle.rtlsim_findings_text.specs.Marks.{step}
use Rattle.rtlsim_findings_text.proofs.places.marks_of.Given as goal

-- the marks up to this byte, which stands here
abbrev pub invariant-loop-at : goal.invariant-loop-at
invariant-loop-at l = record {
  counted : l.at + step ≡ length l.marks.items * step;
  within : l.at ≤ length l.text;
  stands : l.here ≡ position_behind (take l.at l.text);
  each : (k : ℕ) (d : Position) → k < length l.marks.items → slice_index_or l.marks.items k d ≡ position_behind (take (k * step) l.text);
}

abbrev pub decreases-loop-at : goal.decreases-loop-at
decreases-loop-at l = length l.text - l.at
