-- What stands where the copies end that a net is made by, in the wider language (docs/WIDE.md), and for which values of
-- it a reset holds.
use Rattle.std.specs.Prelude.{ℕ, zero, suc, Bool, true, false, ◌&&◌, nat_lt, if◌then◌else◌, List, [], ◌∷◌, length, map, slice_get, Option, Some, None, is_some, is_none}
use Rattle.rtl_model.specs.bodies.Kinds.{clocking}
use Rattle.rtl_model.specs.bodies.Reads.{events}
use Rattle.rtl_model.specs.bodies.Copies.{CopyPart, copying}
use Rattle.rtl_model.specs.nets.FlatNetlist.{flat_sources}
use Rattle.rtl_model.specs.simulation.Netlist.{Source, Driver}
use Rattle.rtl_net.specs.declared.process.Process.{Process}
use Rattle.rtl_net.specs.Nets.{NetlistView, flat, body_of}
use Rattle.rtl_body_facts.specs.Timing.{kind_view}
use Rattle.rtl_body_facts.specs.declared.kinds.ProcessKind.{ProcessKind}
use Rattle.rtl_body_facts.specs.declared.kinds.ProcessKind.TheVariants as k
use Rattle.rtl_process_kinds.specs.AskedValues.{is_asked, asked_through}
use Rattle.rtl_process_kinds.specs.declared.asked.Asked.{Asked}
use Rattle.rtl_process_kinds.specs.declared.copies.Copied.{Copied}
use Rattle.rtl_copy_ends.specs.declared.sight.End.{End}
use Rattle.rtl_copy_ends.specs.declared.sight.End.TheVariants.{Nothing, Starts, Made, Register, Circle}
use Rattle.rtl_copy_ends.specs.declared.sight.Sight.{Sight}
use Rattle.rtl_copy_ends.specs.declared.sight.Sight.TheVariants.{Ends, Copies}
use Rattle.rtl_copy_ends.specs.declared.sight.Standing.{Standing}

-- ---- one net

-- the first process that drives a net
abbrev pub driver_of : List Source → Option ℕ
driver_of (Driver process place ∷ sources) = Some process
driver_of _ = None

abbrev pub driven_by : NetlistView → (n : ℕ) → Option ℕ
driven_by net n = if nat_lt n (length net.types) then driver_of (flat_sources (flat net) n) else None

-- the process that drives a net, if it has no other source
abbrev pub sole_of : List Source → Option ℕ
sole_of (Driver process place ∷ []) = Some process
sole_of _ = None

abbrev pub sole_driver : NetlistView → (n : ℕ) → Option ℕ
sole_driver net n = if nat_lt n (length net.types) then sole_of (flat_sources (flat net) n) else None

-- the net that a process copies, if a process drives it
abbrev pub if_driven : NetlistView → Copied → Option Copied
if_driven net c = if is_some (driven_by net c.net) then Some c else None

abbrev pub copied_in : NetlistView → Option CopyPart → Option Copied
copied_in net None = None
copied_in net (Some c) = if_driven net (record { net = c.net; inverted = c.inverted })

abbrev pub driven_copy : NetlistView → Process → Option Copied
driven_copy net p = copied_in net (copying (body_of p))

-- a net that is copied starts with a value at which the reset holds
abbrev pub held_by : Asked → Option ℕ → Bool
held_by asked None = false
held_by asked (Some value) = is_asked asked value

abbrev pub starts_held : NetlistView → Standing → Bool
starts_held net s = s.copied && (nat_lt s.net (length net.types) && held_by s.asked (slice_get net.starts s.net))

-- ---- the kinds of processes

abbrev pub kind_in : NetlistView → Process → ProcessKind
kind_in net p = kind_view (clocking net.wide net.inputs (body_of p)) (events (body_of p))

abbrev pub all_kinds : NetlistView → List ProcessKind
all_kinds net = map (kind_in net) net.processes

-- ---- what is seen of a net

abbrev pub sight_of_copy : Standing → Option Copied → Sight
sight_of_copy s None = Ends (Made s.net)
sight_of_copy s (Some c) =
    Copies (record { net = c.net; asked = asked_through s.asked c.inverted; copied = true })

-- Of a combinational process: a copied net that starts so changes at once.
abbrev pub sight_of_logic : NetlistView → Standing → Option Copied → Sight
sight_of_logic net s copied = if starts_held net s then Ends (Starts s.net) else sight_of_copy s copied

-- A register is reset by this net. Where no process drives that, it is how the register starts that isn't calm.
abbrev pub end_of_register : NetlistView → Standing → (reset : ℕ) → End
end_of_register net s reset =
    if is_none (driven_by net reset) && starts_held net s then Starts s.net else Register s.net reset

abbrev pub end_of_clocked : NetlistView → Standing → (reset : Option ℕ) → End
end_of_clocked net s None = Nothing
end_of_clocked net s (Some reset) = end_of_register net s reset

-- nothing of one whose process is neither, which has a fault of its own
abbrev pub sight_of_kind : NetlistView → Standing → Process → ProcessKind → Sight
sight_of_kind net s p k.Combinational = sight_of_logic net s (driven_copy net p)
sight_of_kind net s p (k.Clocked c) = Ends (end_of_clocked net s c.reset)
sight_of_kind net s p k.Mixed = Ends Nothing

abbrev pub sight_of_process : NetlistView → Standing → Option Process → Sight
sight_of_process net s None = Ends Nothing
sight_of_process net s (Some p) = sight_of_kind net s p (kind_in net p)

-- nor of one with several sources
abbrev pub sight_of_driver : NetlistView → Standing → Option ℕ → Sight
sight_of_driver net s None = Ends Nothing
sight_of_driver net s (Some q) = sight_of_process net s (slice_get net.processes q)

abbrev pub look : NetlistView → Standing → Sight
look net s = sight_of_driver net s (sole_driver net s.net)

-- ---- the walk down copies

abbrev pub end_or : (walk : Standing → End) → Sight → End
end_or walk (Ends end) = end
end_or walk (Copies s) = walk s

-- in so many steps; a walk with more of them than there are processes goes round
abbrev pub walk_copies : NetlistView → (steps : ℕ) → Standing → End
walk_copies net zero s = Circle s.net
walk_copies net (suc steps) s = end_or (walk_copies net steps) (look net s)

abbrev pub end_of : NetlistView → Standing → End
end_of net s = walk_copies net (length net.processes) s
