use Rattle.std.proofs.Common.{◌≡◌, ◌||◌, ℕ, take}
use Rattle.std.specs.List.{list_any}
use Rattle.rtl_body_facts.specs.Reading.{is_in}
use Rattle.rtl_body_facts.specs.Paths.{covers}
use Rattle.rtl_body_facts.proofs.paths.push_listed.Given as goal

abbrev pub invariant-loop-place : goal.invariant-loop-place
invariant-loop-place l =
    (n : ℕ) → is_in n l.nets.items ≡ (is_in n l.initial.nets.items || list_any (covers l.drives n) (take l.place-index l.places))
