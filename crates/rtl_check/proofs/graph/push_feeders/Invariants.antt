use Rattle.std.proofs.Common.{◌≡◌, ◌||◌, ℕ, take}
use Rattle.std.specs.List.{list_any}
use Rattle.rtl_net.specs.Nets.{source_view}
use Rattle.rtl_body_facts.specs.Reading.{is_in}
use Rattle.rtl_check.specs.Feeders.{feeds_by}
use Rattle.rtl_check.proofs.graph.push_feeders.Given as goal

abbrev pub invariant-loop-source : goal.invariant-loop-source
invariant-loop-source l =
    (p : ℕ) → is_in p l.feeders.items ≡ (is_in p l.initial.feeders.items || list_any (λ s. feeds_by l.kinds p (source_view s)) (take l.source-index l.sources))
