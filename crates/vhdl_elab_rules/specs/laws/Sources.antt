-- The sources of a net (IEEE 1076-2008, 14.7.2, 14.7.3.2): its drivers are those that drive it, each listed once; its
-- idle ports are those out ports without a source whose net it is.
use Rattle.std.specs.Prelude.{◌≡◌, ℕ, ◌<◌, ◌==◌, Bool, false, ◌&&◌, [], map, filter, count_by, slice_get, slice_index_or, Some, Contains}
use Rattle.rtl_model.specs.nets.FlatNetlist.{FlatNetlist, process_at, targets, flat_sources}
use Rattle.rtl_model.specs.simulation.Netlist.{Source, Driver, Idle}
use Rattle.vhdl_elab_rules.specs.Numbering.{Numbered}
use Rattle.vhdl_elab_rules.specs.Wiring.{Element, flat_net, idle_elements}

-- the driver of this process at this place is one of this net
abbrev pub Drives : FlatNetlist → (n p place : ℕ) → Type 0
Drives net n p place = slice_get (targets (process_at net p)) place ≡ Some n

-- whether a source is this driver
abbrev pub is_driver : (p place : ℕ) → Source → Bool
is_driver p place (Driver q k) = (q == p) && (k == place)
is_driver p place (Idle v) = false

pub record SourcesAreListed (net : FlatNetlist) : Type 0 where
  -- a driver is listed once under the net that it drives,
  pub once : (n p place : ℕ) → Drives net n p place → count_by (is_driver p place) (flat_sources net n) ≡ 1
  -- and under no other
  pub drives_it : (n p place : ℕ) → Contains (flat_sources net n) (Driver p place) → Drives net n p place

abbrev pub EachSourceIsListed : Type 0
EachSourceIsListed = (net : FlatNetlist) → SourcesAreListed net

-- The idle ports of a net, in order of the text, are the out ports without a source whose net it is: so each is listed
-- under its net, once.
abbrev pub EachIdlePortIsListed : Type 0
EachIdlePortIsListed =
    (d : Numbered) (n : ℕ) → n < d.nets
    → slice_index_or (flat_net d).idle n []
    ≡ map (λ (e : Element). e.start) (filter (λ (e : Element). e.net == n) (idle_elements d))
