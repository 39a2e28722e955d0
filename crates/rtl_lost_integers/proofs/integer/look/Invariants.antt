use Rattle.std.proofs.Common.{◌≡◌, ◌++◌, map, take, drop}
use Rattle.std.specs.Option.{option_or}
use Rattle.rtl_lost_integers.specs.Watching.{first_now, seen}
use Rattle.rtl_lost_integers.proofs.integer.look.Given as goal

-- those before this place were looked at
abbrev pub invariant-loop-place : goal.invariant-loop-place
invariant-loop-place l = record {
  looked : l.integers.items ≡ map (seen l.values) (take l.place l.initial.integers.items) ++ drop l.place l.initial.integers.items;
  found : option_or l.first (first_now l.values (drop l.place l.initial.integers.items)) ≡ first_now l.values l.initial.integers.items;
}
