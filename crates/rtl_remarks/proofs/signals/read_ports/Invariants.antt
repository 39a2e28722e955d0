use Rattle.std.proofs.Common.{◌≡◌, ◌&&◌, ℕ, take}
use Rattle.std.specs.List.{list_any}
use Rattle.rtl_net.specs.Nets.{signal_view}
use Rattle.rtl_body_facts.specs.Reading.{is_in}
use Rattle.rtl_remarks.specs.Remarks.{is_read_port}
use Rattle.rtl_remarks.proofs.signals.read_ports.Given as goal

-- the nets of those signals before this one that are such ports
abbrev pub invariant-loop-signal : goal.invariant-loop-signal
invariant-loop-signal l =
    (n : ℕ) → is_in n l.nets.items ≡ list_any (λ s. is_read_port l.net (signal_view s) && is_in n s.nets.items) (take l.signal-index l.signals)
