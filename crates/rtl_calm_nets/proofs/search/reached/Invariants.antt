use Rattle.std.proofs.Common.{◌≡◌, ◌<◌, ◌↔◌, ℕ, false, IsTrue, length, get_or}
use Rattle.rtl_calm_nets.specs.Reaching.{AreRight, Comes}
use Rattle.rtl_calm_nets.proofs.search.reached.Given as goal

abbrev pub invariant-loop-place : goal.invariant-loop-place
invariant-loop-place l = record {
  so_many : length l.reached.items ≡ l.place;
  right : AreRight l.steps l.marks.items;
  so_far : (k : ℕ) → k < l.place → IsTrue (get_or l.reached.items k false) ↔ Comes l.steps k;
}
