use Rattle.std.proofs.lemmas.Result.{IfOk-weaker}
use Rattle.vhdl_parser_rules.specs.Expected.{expected_of}
use Rattle.rtlsim_command_faults.proofs.describing.told_read.Goals as goal

pub returns : goal.returns
returns c =
    IfOk-weaker c.told_of.result _ _
    (λ told is. (
      c.deref-2.result.now,
      expected_of c.in_ok-expected.expected,
      rw c.deref-2.ensures.value c.in-Ok.ensures.cuts,
      rw (c.deref-2.ensures.value) (rw c.deref.ensures.value at c.in_ok-expected.ensures),
      is,
    ))
    c.told_of.ensures
