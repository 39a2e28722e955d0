use Rattle.std.proofs.Common.{◌≡◌, ◌&&◌, ℕ, take}
use Rattle.std.specs.List.{list_any}
use Rattle.rtl_net.specs.Nets.{signal_view}
use Rattle.rtl_body_facts.specs.Reading.{is_in}
use Rattle.rtl_remarks.specs.Tables.{takes}
use Rattle.rtl_remarks.proofs.signals.nets_of.Given as goal

-- the nets of those signals before this one that are of the kind
abbrev pub invariant-loop-signal : goal.invariant-loop-signal
invariant-loop-signal l =
    (n : ℕ) → is_in n l.nets.items ≡ list_any (λ s. takes l.which (signal_view s) && is_in n s.nets.items) (take l.signal-index l.signals)
