-- What the steps of reading answer.
use Rattle.std.specs.Prelude.{◌≡◌, ◌≢◌, ℕ, List, [], ◌∷◌, Vec, Result, Ok, Err}
use Rattle.std.specs.Global.{Global}
use Rattle.rtl_net.specs.Nets.{NetlistView}
use Rattle.rtl_expect.specs.declared.expectation.Expectation.{Expectation as KeptExpectation}
use Rattle.rtl_expect.specs.declared.faults.ExpectFault.{ExpectFault}
use Rattle.rtl_expect.specs.declared.faults.ExpectFault.TheVariants.{NoMemory}
use Rattle.rtl_expect.specs.Expected.{Expectation, Positions}
use Rattle.rtl_expect.specs.Lines.{expectations_of, placed}
use Rattle.rtl_expect.specs.Watching.{AreInOrder, expectation_view, list_view}

-- these, placed one after another
abbrev pub all_placed : (so_far : List Expectation) → List Expectation → List Expectation
all_placed so_far [] = so_far
all_placed so_far (e ∷ es) = all_placed (placed e so_far) es

-- What a function answered is what is asked: it leaves these expectations where that is Ok. It refuses for want of
-- memory, or with that fault.
abbrev pub Leads : {B : Type 0} → Result (List Expectation) ExpectFault
    → (left : List Expectation) → Result B ExpectFault → Type 0
Leads asked left (Ok b) = asked ≡ Ok left
Leads asked left (Err fault) = fault ≢ NoMemory → asked ≡ Err fault

abbrev pub IsExpected : Result Expectation ExpectFault → Result KeptExpectation ExpectFault → Type 0
IsExpected asked (Ok e) = asked ≡ Ok (expectation_view e)
IsExpected asked (Err fault) = fault ≢ NoMemory → asked ≡ Err fault

abbrev pub AreListed : Positions → NetlistView → (text : List ℕ)
    → Result (Vec KeptExpectation Global) ExpectFault → Type 0
AreListed positions net text (Ok list) =
    (expectations_of positions net text ≡ Ok (list_view list)) × AreInOrder (list_view list)
AreListed positions net text (Err fault) = fault ≢ NoMemory → expectations_of positions net text ≡ Err fault
