use Rattle.std.proofs.Common.{◌≡◌, ℕ, ◌<◌, length, get_or, None, Some}
use Rattle.rtl_check_levels.specs.Feeding.{IsIn}
use Rattle.rtl_check_levels.specs.Levels.{level_of}
use Rattle.rtl_check_levels.specs.Finding.{open_count}
use Rattle.rtl_check_levels.specs.Rounds.{AreFed}
use Rattle.rtl_check_levels.proofs.rounds.find_round.Given as goal

abbrev pub invariant-loop-first : goal.invariant-loop-first
invariant-loop-first l = record {
  each : length l.places.items ≡ length l.table;
  fed : AreFed l.table l.path.items l.at;
  inside : IsIn l.table l.at;
  unplaced : level_of l.levels l.at ≡ None;
  known : (r i : ℕ) → get_or l.places.items r None ≡ Some i → (i < length l.path.items) × (get_or l.path.items i 0 ≡ r);
  noted : (i : ℕ) → i < length l.path.items → get_or l.places.items (get_or l.path.items i 0) None ≡ Some i;
}

abbrev pub decreases-loop-first : goal.decreases-loop-first
decreases-loop-first l = open_count l.places.items
