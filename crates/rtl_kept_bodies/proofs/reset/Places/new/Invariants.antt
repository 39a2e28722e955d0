use Rattle.std.proofs.Common.{◌≡◌, ℕ, ◌-◌, length, drop}
use Rattle.std.specs.Prelude.{slice_index_or}
use Rattle.rtl_kept_bodies.specs.Steps.{placed_by}
use Rattle.rtl_kept_bodies.proofs.reset.Places.new.Given as goal

-- the places of the last variables are put
abbrev pub invariant-loop-number : goal.invariant-loop-number
invariant-loop-number l = record {
  long : length l.listed.items ≡ l.many;
  each : (e : ℕ) → slice_index_or l.listed.items e l.behind ≡ placed_by (drop (length l.kept - l.number) l.kept) l.behind e;
}
