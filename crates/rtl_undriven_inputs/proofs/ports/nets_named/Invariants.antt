use Rattle.std.proofs.Common.{◌≡◌, ◌&&◌, ℕ, take}
use Rattle.std.specs.List.{list_any}
use Rattle.rtl_net.specs.Nets.{signal_view}
use Rattle.rtl_body_facts.specs.Reading.{is_in}
use Rattle.rtl_remarks.specs.Remarks.{is_top_port}
use Rattle.rtl_stim_lines.specs.Inputs.{small}
use Rattle.rtl_undriven_inputs.specs.Kept.{has_name}
use Rattle.rtl_undriven_inputs.proofs.ports.nets_named.Given as goal

-- the nets of those signals before this one that are such ports
abbrev pub invariant-loop-signal : goal.invariant-loop-signal
invariant-loop-signal l =
    (n : ℕ) → is_in n l.nets.items
    ≡ list_any (λ s. (is_top_port (signal_view s) && has_name (small s.name.items) l.names) && is_in n s.nets.items) (take l.signal-index l.signals)
