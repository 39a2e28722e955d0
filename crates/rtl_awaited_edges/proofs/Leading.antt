-- Processes that await the same edge as others.
use Rattle.std.proofs.Common.{ℕ, ◌<◌, List, Option, None, length, get_or, subst}
use Rattle.rtl_awaited_edges.specs.declared.awaited.ClockEdge.{ClockEdge}
use Rattle.rtl_awaited_edges.specs.Awaiting.{AreLeaders, IsAsleep}

-- a process sleeps as its leader does
pub as_leader : (edges : List (Option ClockEdge)) (leaders : List ℕ) → AreLeaders edges leaders → (before v : List ℕ) (p : ℕ) → p < length edges
    → IsAsleep (get_or edges (get_or leaders p 0) None) before v → IsAsleep (get_or edges p None) before v
as_leader edges leaders A before v p l asleep = subst (λ (o : Option ClockEdge). IsAsleep o before v) (A.alike p l) asleep
