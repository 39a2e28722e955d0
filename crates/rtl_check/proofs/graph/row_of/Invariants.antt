use Rattle.std.proofs.Common.{◌≡◌, ℕ, take}
use Rattle.std.specs.List.{list_any}
use Rattle.rtl_model.specs.nets.FlatNetlist.{flat_sources}
use Rattle.rtl_net.specs.Nets.{flat}
use Rattle.rtl_body_facts.specs.Reading.{is_in}
use Rattle.rtl_check.specs.Feeders.{feeds_by}
use Rattle.rtl_check.proofs.graph.row_of.Given as goal

abbrev pub invariant-loop-wake : goal.invariant-loop-wake
invariant-loop-wake l =
    (p : ℕ) → is_in p l.feeders.items ≡ list_any (λ n. list_any (feeds_by l.kinds p) (flat_sources (flat l.net) n)) (take l.wake-index l.wakes)
