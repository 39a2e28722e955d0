-- A bad pair among pairs.
use Rattle.std.proofs.Common.{◌≡◌, ℕ, suc, ◌<◌, List, [], ◌∷◌, length, map, drop, get_or, drop-cons, Ok, Err, refl, ap, ◌∙◌}
use Rattle.rtl_stim_lines.specs.declared.faults.StimFault.{StimFault}
use Rattle.rtl_stim_lines.specs.Inputs.{Input}
use Rattle.rtl_stim_lines.specs.Pairs.{Pair, after_pair, after_pairs}
use Rattle.rtl_stim_lines.specs.Reading.{Said, in_line}

stays_bad : (inputs : List Input) (number : ℕ) (pairs : List Pair) (fault : StimFault) → after_pairs inputs number pairs (Err fault) ≡ Err fault
stays_bad inputs number [] fault = refl
stays_bad inputs number (pair ∷ pairs) fault = stays_bad inputs (suc number) pairs fault

pub bad_pair : {X : Type 0} (view : X → Pair) (inputs : List Input) (number : ℕ) (xs : List X) (i : ℕ) (x : X) (said : Said) (fault : StimFault)
    → i < length xs → in_line number (after_pair inputs said (view (get_or xs i x))) ≡ Err fault
    → after_pairs inputs number (map view (drop i xs)) (Ok said) ≡ Err fault
bad_pair view inputs number xs i x said fault below says =
    ap (λ ys. after_pairs inputs number (map view ys) (Ok said)) (drop-cons xs i x below)
    ∙ ap (after_pairs inputs (suc number) (map view (drop (suc i) xs))) says
    ∙ stays_bad inputs (suc number) (map view (drop (suc i) xs)) fault
