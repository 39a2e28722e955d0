-- Processes whose variables are kept by registers: behind its drivers a process gets one for each element that is kept,
-- in order of declaration and from the left, which starts with the element's initial value (IEEE 1076-2008, 6.4.2.4).
use Rattle.std.specs.Prelude.{ℕ, suc, ◌+◌, Bool, ◌==◌, if◌then◌else◌, List, [], ◌∷◌, ◌++◌, length, map, flat_map, slice_index, slice_index_or}
use Rattle.std.specs.List.{list_any, range_with_len}
use Rattle.rtl_model.specs.bodies.Types.{ElementType, nine_valued}
use Rattle.rtl_model.specs.nets.FlatNetlist.{FlatDriver, FlatVariable, FlatProcess, element_starts, element_types}
use Rattle.rtl_variable_registers.specs.Bodies.{is_register, keeps_element, KeptVariable, kept_body}

-- of these variables, whose elements are numbered from here on, those with an element that is kept
abbrev pub kept_among : (keeps : ℕ → Bool) → (first : ℕ) → List FlatVariable → List KeptVariable
kept_among keeps first [] = []
kept_among keeps first (v ∷ vs) =
    let es = range_with_len first (length v.starts) in
    let rest = kept_among keeps (first + length v.starts) vs in
    if list_any keeps es then record { type_of = v.type_of; elements = es } ∷ rest else rest

abbrev pub kept_variables : FlatProcess → List KeptVariable
kept_variables p = kept_among (keeps_element p.body) 0 p.variables

abbrev pub kept_elements : FlatProcess → List ℕ
kept_elements p = flat_map (λ (v : KeptVariable). v.elements) (kept_variables p)

-- the place of this number in a list, from 0
abbrev pub rank_in : List ℕ → ℕ → ℕ
rank_in [] e = 0
rank_in (d ∷ ds) e = if d == e then 0 else suc (rank_in ds e)

-- what the elements that are kept start with, and their types
abbrev pub kept_starts : FlatProcess → List ℕ
kept_starts p = map (slice_index (element_starts p.variables)) (kept_elements p)

abbrev pub kept_types : FlatProcess → List ElementType
kept_types p = map (λ e. slice_index_or (element_types p.variables) e nine_valued) (kept_elements p)

-- drivers of the nets from this one on, which start so
abbrev pub drivers_from : (net : ℕ) → (starts : List ℕ) → List FlatDriver
drivers_from net [] = []
drivers_from net (v ∷ vs) = record { net = net; start = v } ∷ drivers_from (suc net) vs

-- the process of a register, whose elements that are kept have the nets from this one on
abbrev pub with_nets : (first : ℕ) → FlatProcess → FlatProcess
with_nets first p =
    let rank = rank_in (kept_elements p) in
    record {
      drivers = p.drivers ++ drivers_from first (kept_starts p);
      wakes = p.wakes;
      variables = p.variables;
      body = kept_body (λ e. first + rank e) (λ e. length p.drivers + rank e) (element_starts p.variables)
          (kept_variables p) p.body;
    }

-- what is no register stays as it is
abbrev pub kept_process : (first : ℕ) → FlatProcess → FlatProcess
kept_process first p = if is_register p.body then with_nets first p else p
