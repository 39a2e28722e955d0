use Rattle.std.proofs.Common.{◌≡◌, ◌+◌, ℕ, map, drop}
use Rattle.std.specs.List.Sorted.{IsStrictlyIncreasing}
use Rattle.rtl_body_facts.specs.Reading.{is_in}
use Rattle.rtl_latches.specs.Parts.{told, both, rest_told, numbered}
use Rattle.rtl_latches.proofs.choosing.choose_each.Given as goal

abbrev pub invariant-loop-i : goal.invariant-loop-i
invariant-loop-i l = record {
  rise : IsStrictlyIncreasing l.some.items;
  told : (n : ℕ) → both (told n l.part) (rest_told (numbered l.counted) (l.i + 1) (is_in n l.some.items) (map (told n) (drop l.i l.parts)))
      ≡ both (told n l.initial.part) (rest_told (numbered l.counted) 1 (is_in n l.initial.some.items) (map (told n) l.parts));
}
