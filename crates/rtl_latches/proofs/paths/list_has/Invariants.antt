use Rattle.std.proofs.Common.{◌≡◌, drop}
use Rattle.std.specs.List.{list_any}
use Rattle.rtl_body_facts.specs.Paths.{covers}
use Rattle.rtl_latches.proofs.paths.list_has.Given as goal

abbrev pub invariant-loop-place : goal.invariant-loop-place
invariant-loop-place l = list_any (covers l.drives l.net) (drop l.place-index l.places) ≡ list_any (covers l.drives l.net) l.places
