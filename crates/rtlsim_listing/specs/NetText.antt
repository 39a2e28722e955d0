-- What is printed of a netlist: how many nets and processes it has, a line for each net, and a line for each process.
use Rattle.std.specs.Prelude.{ℕ, Bool, true, false, List, [], ◌∷◌, ◌++◌, length, flat_map, slice_index, slice_index_or, codes, decimal}
use Rattle.std.specs.List.{range_with_len}
use Rattle.vhdl_values.specs.Scalar.{letter_of, value_of_code}
use Rattle.rtl_model.specs.bodies.Types.{ElementType, nine_valued, enumeration}
use Rattle.rtl_model.specs.nets.FlatNetlist.{flat_sources}
use Rattle.rtl_model.specs.simulation.Netlist.{Source, Driver, Idle}
use Rattle.rtl_body_facts.specs.Reading.{is_in}
use Rattle.rtl_net.specs.Nets.{NetlistView, flat}
use Rattle.rtl_net.specs.Names.{net_name, process_name}

-- the lines of so many numbers, from 0
abbrev pub lines : (line : (number : ℕ) → List ℕ) → (count : ℕ) → List ℕ
lines line count = flat_map line (range_with_len 0 count)

-- ---- nets

-- the character of one of the nine values, or the position of a literal
abbrev pub start_text : ElementType → (value : ℕ) → List ℕ
start_text nine_valued value = letter_of (value_of_code value) ∷ []
start_text (enumeration literals) value = decimal value

-- a driver by its process, or an idle port
abbrev pub source_text : Source → List ℕ
source_text (Driver process place) = decimal process
source_text (Idle value) = codes "idle"

-- the sources, with a space between
abbrev pub driven_text : List Source → List ℕ
driven_text [] = codes "none"
driven_text (s ∷ ss) = source_text s ++ flat_map (λ t. codes " " ++ source_text t) ss

abbrev pub sources_text : (is_input : Bool) → List Source → List ℕ
sources_text true sources = codes "in"
sources_text false sources = driven_text sources

-- its number, its name, what it starts with, and its sources
abbrev pub net_line : NetlistView → (n : ℕ) → List ℕ
net_line net n =
    decimal n ++ codes " " ++ net_name net n ++ codes " "
    ++ start_text (slice_index_or net.types n nine_valued) (slice_index net.starts n) ++ codes " "
    ++ sources_text (is_in n net.inputs) (flat_sources (flat net) n) ++ codes "\n"

-- ---- processes

abbrev pub process_line : NetlistView → (p : ℕ) → List ℕ
process_line net p = codes "process " ++ decimal p ++ codes " " ++ process_name net p ++ codes "\n"

-- ---- the netlist

abbrev pub counts_text : (nets processes : ℕ) → List ℕ
counts_text nets processes = codes "nets " ++ decimal nets ++ codes "\nprocesses " ++ decimal processes ++ codes "\n"

abbrev pub net_text : NetlistView → List ℕ
net_text net =
    counts_text (length net.types) (length net.processes)
    ++ lines (net_line net) (length net.types) ++ lines (process_line net) (length net.processes)
