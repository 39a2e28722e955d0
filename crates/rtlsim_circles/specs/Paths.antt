-- The path of a netlist that is judged by nets: the lowest process of the greatest level, the net that this comes from,
-- and from net to net what each looks at, down to level 1.
use Rattle.std.specs.Prelude.{ℕ, zero, suc, ◌==◌, Bool, false, List, [], ◌∷◌, ◌++◌, length, flat_map, position, slice_index_or, Option, Some, None, codes}
use Rattle.rtl_check.specs.declared.judging.Judgement.{Judgement}
use Rattle.rtl_check.specs.declared.judging.Judgement.TheVariants.{ByProcesses, ByNets, Faulty}
use Rattle.rtl_check.specs.declared.reporting.NetReport.{NetReport}
use Rattle.rtl_net.specs.Names.{net_name, process_name}
use Rattle.rtl_net.specs.Nets.{NetlistView}
use Rattle.rtlsim_listing.specs.CheckText.{greatest_level}

abbrev pub is_level : (level : ℕ) → Option ℕ → Bool
is_level level None = false
is_level level (Some other) = other == level

-- the lowest process of the greatest level
abbrev pub highest : (levels : List (Option ℕ)) → Option ℕ
highest levels = position (is_level (greatest_level levels)) levels

-- a net, and so many steps down from it
abbrev pub down : (steps : ℕ) → (looks : List (Option ℕ)) → Option ℕ → List ℕ
down zero looks n = []
down (suc steps) looks None = []
down (suc steps) looks (Some n) = n ∷ down steps looks (slice_index_or looks n None)

abbrev pub step_text : NetlistView → (n : ℕ) → List ℕ
step_text net n = codes " <- " ++ net_name net n

-- no net is passed twice, so there are no more steps than nets
abbrev pub steps_text : NetlistView → (looks : List (Option ℕ)) → (steps : ℕ) → (from : Option ℕ) → List ℕ
steps_text net looks steps from = flat_map (step_text net) (down steps looks from)

abbrev pub path_from : NetlistView → NetReport → (highest : Option ℕ) → List ℕ
path_from net r None = []
path_from net r (Some p) =
    codes "path " ++ process_name net p
    ++ steps_text net r.looks.items (length r.looks.items) (slice_index_or r.from.items p None) ++ codes "\n"

-- nothing of a netlist that isn't judged by nets
abbrev pub path_text : NetlistView → Judgement → List ℕ
path_text net (ByProcesses report) = []
path_text net (ByNets report) = path_from net report (highest report.levels.items)
path_text net (Faulty faults) = []
