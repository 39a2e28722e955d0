-- How a circle is told: its processes, and the nets on the way from each to the next; or its nets, each of which looks
-- at the next.
use Rattle.std.specs.Prelude.{ℕ, List, [], ◌∷◌, ◌++◌, find, flat_map, map, slice_get, Option, Some, None, codes}
use Rattle.rtl_net.specs.Names.{net_name, process_name}
use Rattle.rtl_net.specs.Nets.{NetlistView}
use Rattle.rtl_net.specs.declared.process.Process.{Process}
use Rattle.rtl_body_facts.specs.Paths.{driven}
use Rattle.rtl_body_facts.specs.Reading.{is_in}
use Rattle.rtlsim_listing.specs.Reports.{CircleView, Processes, Nets}

-- the first of these nets that is one of the others
abbrev pub first_among : (others : List ℕ) → (nets : List ℕ) → Option ℕ
first_among others nets = find (λ n. is_in n others) nets

-- the lowest net to which a process is sensitive and that another drives
abbrev pub link_net : (process next : Option Process) → Option ℕ
link_net (Some p) (Some q) = first_among (driven q.drives.items) p.wakes.items
link_net _ _ = None

abbrev pub name_of_net : NetlistView → Option ℕ → List ℕ
name_of_net net None = []
name_of_net net (Some n) = net_name net n

-- a process of a loop, and the net on the way to it from the next
abbrev pub step_text : NetlistView → (process next : ℕ) → List ℕ
step_text net process next =
    process_name net process ++ codes " <- "
    ++ name_of_net net (link_net (slice_get net.processes process) (slice_get net.processes next)) ++ codes " <- "

abbrev pub first_or : (other : ℕ) → List ℕ → ℕ
first_or other [] = other
first_or other (process ∷ processes) = process

-- these processes of a loop, the last with the net on the way from the first, and the first once more
abbrev pub round_text : NetlistView → (first : ℕ) → List ℕ → List ℕ
round_text net first [] = process_name net first
round_text net first (process ∷ processes) =
    step_text net process (first_or first processes) ++ round_text net first processes

abbrev pub loop_text : NetlistView → List ℕ → List ℕ
loop_text net [] = []
loop_text net (process ∷ processes) = round_text net process (process ∷ processes)

-- ---- nets

-- a net that looks at the next
abbrev pub look_text : NetlistView → (n : ℕ) → List ℕ
look_text net n = net_name net n ++ codes " <- "

-- each, and the first once more
abbrev pub nets_text : NetlistView → List ℕ → List ℕ
nets_text net [] = []
nets_text net (n ∷ nets) = flat_map (look_text net) (n ∷ nets) ++ net_name net n

-- ---- either

abbrev pub circle_text : NetlistView → CircleView → List ℕ
circle_text net (Processes processes) = loop_text net processes
circle_text net (Nets nets) = nets_text net nets

-- the nets of a circle of nets
abbrev pub nets_round : NetlistView → CircleView → List (List ℕ)
nets_round net (Processes processes) = []
nets_round net (Nets nets) = map (net_name net) nets
