-- The levels of an accepted netlist as a graph in Graphviz's language: a column for each level, with its processes;
-- those without a level, which are registers, in a column of their own before them; and an arrow to each process with a
-- level from each that drives what it is sensitive to, with the signal's name. Names stand between quotes as they are:
-- none has a quote or a backslash in it.
use Rattle.std.specs.Prelude.{ℕ, zero, suc, ◌+◌, ◌==◌, ◌&&◌, nat_lt, Bool, false, if◌then◌else◌, List, [], ◌∷◌, ◌++◌, length, position, bytes_eq, slice_get, slice_index, slice_index_or, Option, Some, None, codes, decimal}
use Rattle.rtl_check.specs.declared.judging.Judgement.{Judgement}
use Rattle.rtl_check.specs.declared.judging.Judgement.TheVariants.{ByProcesses, ByNets, Faulty}
use Rattle.rtlsim_listing.specs.CheckText.{greatest_level, rejection_text}
use Rattle.rtlsim_listing.specs.NetText.{lines}
use Rattle.rtlsim_listing.specs.Reports.{process_of}
use Rattle.rtl_model.specs.nets.FlatNetlist.{flat_sources}
use Rattle.rtl_model.specs.simulation.Netlist.{Source}
use Rattle.rtl_net.specs.declared.process.Process.{Process}
use Rattle.rtl_net.specs.Names.{net_name, process_name}
use Rattle.rtl_net.specs.Nets.{NetlistView, flat}

-- ---- the name of a vector's elements

abbrev pub opens : List ℕ → Bool
opens [] = false
opens (byte ∷ bytes) = byte == 40

abbrev pub is_last : Option ℕ → (length : ℕ) → Bool
is_last None n = false
is_last (Some at) n = at + 1 == n

-- `(`, and then a `)` at the end alone
abbrev pub is_index : List ℕ → Bool
is_index text = opens text && is_last (position (λ byte. byte == 41) text) (length text)

-- a net's name up to the index that it ends with, if it does
abbrev pub without_index : List ℕ → List ℕ
without_index [] = []
without_index (byte ∷ bytes) = if is_index (byte ∷ bytes) then [] else byte ∷ without_index bytes

-- ---- arrows

abbrev pub arrow : NetlistView → (from to n : ℕ) → List ℕ
arrow net from to n =
    codes "    \"" ++ process_name net from ++ codes "\" -> \""
    ++ process_name net to ++ codes "\" [label=\"" ++ without_index (net_name net n)
    ++ codes "\"];\n"

-- the process of a net's first driver; drivers stand before idle ports
abbrev pub driver_of : List Source → Option ℕ
driver_of [] = None
driver_of (source ∷ sources) = process_of source

abbrev pub driver_in : NetlistView → (n : ℕ) → Option ℕ
driver_in net n = if nat_lt n (length net.types) then driver_of (flat_sources (flat net) n) else None

abbrev pub arrow_from : NetlistView → (from : Option ℕ) → (to n : ℕ) → List ℕ
arrow_from net None to n = []
arrow_from net (Some from) to n = arrow net from to n

-- to a process by a net: from the one that drives the net, if there is one
abbrev pub arrow_by : NetlistView → (to n : ℕ) → List ℕ
arrow_by net to n = arrow_from net (driver_of (flat_sources (flat net) n)) to n

-- by the net before this place among these
abbrev pub arrow_before : NetlistView → (to : ℕ) → (nets : List ℕ) → (place : ℕ) → List ℕ
arrow_before net to nets zero = []
arrow_before net to nets (suc place) = arrow_by net to (slice_index nets place)

-- by the net at this place, unless it is the same line again
abbrev pub next_arrow : NetlistView → (to : ℕ) → (nets : List ℕ) → (place : ℕ) → List ℕ
next_arrow net to nets place =
    if bytes_eq (arrow_by net to (slice_index nets place)) (arrow_before net to nets place) then []
    else arrow_by net to (slice_index nets place)

abbrev pub arrows_by : NetlistView → (to : ℕ) → (nets : List ℕ) → List ℕ
arrows_by net to nets = lines (next_arrow net to nets) (length nets)

-- the nets that a process is sensitive to
abbrev pub wakes_of : Option Process → List ℕ
wakes_of None = []
wakes_of (Some process) = process.wakes.items

abbrev pub arrows_to : NetlistView → (to : ℕ) → List ℕ
arrows_to net to = arrows_by net to (wakes_of (slice_get net.processes to))

-- ---- processes

abbrev pub register_text : NetlistView → (p : ℕ) → List ℕ
register_text net p = codes "    { rank=source; \"" ++ process_name net p ++ codes "\" [peripheries=2]; }\n"

abbrev pub node_text : NetlistView → (p level : ℕ) → List ℕ
node_text net p level =
    codes "    { rank=same; \"level " ++ decimal level ++ codes "\"; \"" ++ process_name net p ++ codes "\"; }\n"

-- in the column of its level, with the arrows to it
abbrev pub leveled_text : NetlistView → (p level : ℕ) → List ℕ
leveled_text net p level = node_text net p level ++ arrows_to net p

-- what has no level is a register
abbrev pub process_text : NetlistView → (p : ℕ) → (level : Option ℕ) → List ℕ
process_text net p None = register_text net p
process_text net p (Some level) = leveled_text net p level

abbrev pub process_lines : NetlistView → (levels : List (Option ℕ)) → (p : ℕ) → List ℕ
process_lines net levels p = process_text net p (slice_index_or levels p None)

-- ---- the graph

abbrev pub next_column : (before : ℕ) → List ℕ
next_column before =
    codes "    \"level " ++ decimal before ++ codes "\" -> \"level " ++ decimal (before + 1) ++ codes "\";\n"

-- the head of a level's column, behind that of the one before it
abbrev pub column_text : (before : ℕ) → List ℕ
column_text before = if before == 0 then codes "    \"level 1\";\n" else next_column before

abbrev pub graph_begin : List ℕ
graph_begin =
    codes
    "digraph levels {\n    rankdir=LR;\n    node [shape=plaintext, fontname=Helvetica, fontsize=11];\n    edge [style=invis];\n"

abbrev pub graph_middle : List ℕ
graph_middle = codes "    node [shape=box];\n    edge [style=solid, fontname=Helvetica, fontsize=9];\n"

abbrev pub columns_text : (levels : ℕ) → List ℕ
columns_text levels = graph_begin ++ lines column_text levels ++ graph_middle

abbrev pub graph_text : NetlistView → (levels : List (Option ℕ)) → List ℕ
graph_text net levels =
    columns_text (greatest_level levels) ++ lines (process_lines net levels) (length levels) ++ codes "}\n"

-- the graph of a netlist that the checker accepts, and the faults of another
abbrev pub dot_text : NetlistView → Judgement → List ℕ
dot_text net (ByProcesses report) = graph_text net report.levels.items
dot_text net (ByNets report) = graph_text net report.levels.items
dot_text net (Faulty faults) = rejection_text net faults.items
