use Rattle.std.proofs.Common.{◌≡◌, Vec, Result, Ok, Err, sym, ap, ◌∙◌}
use Rattle.std.specs.Prelude.{IsErrAnd, option_map}
use Rattle.std.specs.Global.{Global}
use Rattle.rtl_expect.specs.declared.expected.Wanted.{Wanted}
use Rattle.rtl_expect.specs.Expected.{Expectation}
use Rattle.rtl_expect.specs.Reading.{IsExpected}
use Rattle.rtl_expect.specs.declared.expectation.Expectation.{Expectation as KeptExpectation}
use Rattle.rtl_expect.specs.declared.faults.ExpectFault.{ExpectFault}
use Rattle.rtl_expect.specs.declared.faults.ExpectFault.TheVariants.{NoMemory}
use Rattle.rtl_expect.proofs.Wanting.{few_wanted}
use Rattle.rtl_expect.proofs.reading.expectation_of.Goals as goal

pub value_wanted-requires : goal.value_wanted-requires
value_wanted-requires g c =
    let width = rw c.in-Some.is at c.in_ok-number.ensures.width in
    record { some = width.0; few = width.1 }

pub invariant_of-result : goal.invariant_of-result
invariant_of-result g c = record {
  few = few_wanted _ _ _ c.in-Some-2.wanted.items (rw c.in-Some.is at c.in_ok-number.ensures.width).1
      (sym c.in_ok-wanted.ensures ∙ ap (option_map (λ (v : Vec Wanted Global). v.items)) c.in-Some-2.is);
}

refused : (asked : Result Expectation ExpectFault) (r : Result KeptExpectation ExpectFault) → IsErrAnd r (λ f. f ≡ NoMemory) → IsExpected asked r
refused asked (Ok e) is = absurd is
refused asked (Err f) is = λ other. absurd (other is)

pub returns-in_err-number : goal.returns-in_err-number
returns-in_err-number g c = refused _ c.from_residual.result c.from_residual.ensures.1

pub returns-in_err-wanted : goal.returns-in_err-wanted
returns-in_err-wanted g c = refused _ c.from_residual-in_err-wanted.result c.from_residual-in_err-wanted.ensures.1
