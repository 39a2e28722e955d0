-- The elements of a process's variables, in order of their numbers.
use Rattle.std.specs.Prelude.{ℕ, suc, Bool, true, false, List, [], ◌∷◌, ◌++◌, length, map}
use Rattle.std.specs.List.{range_with_len}
use Rattle.rtl_net.specs.declared.process.Variable.{Variable}
use Rattle.rtl_check.specs.declared.fault.CheckFault.{CheckFault}
use Rattle.rtl_check.specs.declared.variables.VariableElement.{VariableElement}

-- how many elements each variable has
abbrev pub widths : List Variable → List ℕ
widths variables = map (λ (v : Variable). length v.starts.items) variables

abbrev pub place_in : (variable place : ℕ) → VariableElement
place_in variable place = record { variable = variable; place = place }

-- of variables with these widths, the first of which has this number
abbrev pub places_from : (first : ℕ) → (widths : List ℕ) → List VariableElement
places_from first [] = []
places_from first (w ∷ ws) = map (place_in first) (range_with_len 0 w) ++ places_from (suc first) ws

-- a fault that is there or not
abbrev pub added_if : Bool → CheckFault → List CheckFault
added_if true fault = fault ∷ []
added_if false fault = []
