-- What names with values say: each sets its input at 0, where the simulation stops. What has no name and value is a
-- bad line.
use Rattle.std.specs.Prelude.{ℕ, suc, List, [], ◌∷◌, Option, Some, None, Result, Ok, Err}
use Rattle.std.specs.Borrow.{Bor}
use Rattle.fault_rules.specs.declared.stimuli.StimRule.{StimRule}
use Rattle.fault_rules.specs.declared.stimuli.StimRule.TheVariants.{BadLine}
use Rattle.rtl_stim_lines.specs.declared.faults.StimFault.{StimFault}
use Rattle.rtl_stim_lines.specs.Inputs.{Input, input_named}
use Rattle.rtl_stim_lines.specs.Reading.{Said, Schedule, nothing_said, set_input, in_line}

-- a name and a value, if they are there
abbrev pub Pair : Type 0
Pair = Option (List ℕ × List ℕ)

-- what is said once a pair is said too, or what is wrong with it
abbrev pub after_pair : List Input → Said → Pair → Result Said StimRule
after_pair inputs said None = Err BadLine
after_pair inputs said (Some sides) = set_input inputs said (input_named inputs sides.0) 0 sides.1

-- the same of the pair of this number, unless a pair before it was bad
abbrev pub one_more_pair : List Input → (number : ℕ) → Pair → Result Said StimFault → Result Said StimFault
one_more_pair inputs number pair (Err fault) = Err fault
one_more_pair inputs number pair (Ok said) = in_line number (after_pair inputs said pair)

-- what pairs say after what is said so far, or the first that is bad; the first pair has this number
abbrev pub after_pairs : List Input → (number : ℕ) → List Pair → Result Said StimFault → Result Said StimFault
after_pairs inputs number [] so_far = so_far
after_pairs inputs number (pair ∷ pairs) so_far =
    after_pairs inputs (suc number) pairs (one_more_pair inputs number pair so_far)

abbrev pub stopped_at_zero : Result Said StimFault → Result Schedule StimFault
stopped_at_zero (Err fault) = Err fault
stopped_at_zero (Ok said) = Ok (record { courses = said.courses; stop = 0 })

-- what pairs say of these inputs, or the first bad one by its place, from 1
abbrev pub schedule_of_pairs : List Input → List Pair → Result Schedule StimFault
schedule_of_pairs inputs pairs = stopped_at_zero (after_pairs inputs 1 pairs (Ok (nothing_said inputs)))

-- ---- in the code

-- both sides, as the code has them
abbrev pub pair_view : Option (Bor (List ℕ) × Bor (List ℕ)) → Pair
pair_view None = None
pair_view (Some p) = Some (p.0.now, p.1.now)
