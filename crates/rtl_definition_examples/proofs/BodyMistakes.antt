-- Wrong definitions of what bodies do break the laws.
use Rattle.std.proofs.Common.{◌≡◌, ℕ, List, get_or, refl, arith}
use Rattle.rtl_model.specs.nets.CoreNetlist.{core_netlist}
use Rattle.rtl_model.specs.simulation.Machine.{Solves}
use Rattle.rtl_definition_examples.specs.BodyMistakes.{latch, LatchWouldPass, DefaultWouldStay, TestWouldBeRising}

no_solution : (registers : ℕ → ℕ) (v : List ℕ) → Solves (core_netlist latch) (λ n. 2) registers v → ⊥
no_solution registers v s =
    let low : get_or v 1 0 ≡ 2 = s.on_inputs 1 refl in
    let e = s.on_combinational 0 0 (omega arith, refl) (omega arith) in
    let f = rw low at e in
    absurd cc

pub latch_would_pass : LatchWouldPass
latch_would_pass = record {
  right = refl;
  wrong = refl;
  is_fault = ((omega arith, refl), (0, omega arith, refl), refl);
  no_entry = refl;
  no_solution = no_solution;
}

pub default_would_stay : DefaultWouldStay
default_would_stay = record { right = refl; wrong = refl; law_fails = λ h. absurd cc }

pub test_would_be_rising : TestWouldBeRising
test_would_be_rising = record { right = refl; holds = refl; wrong_fails = refl; acts = refl; law_fails = λ h. let e = h refl in absurd cc }
