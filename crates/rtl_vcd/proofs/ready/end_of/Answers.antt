use Rattle.std.proofs.Common.{length, ap, arith, length-append}
use Rattle.rtl_vcd_values.specs.Values.{code}
use Rattle.rtl_vcd_values.proofs.Digits.{code_short}
use Rattle.rtl_vcd.proofs.ready.end_of.Goals as goal

pub of-requires : goal.of-requires
of-requires c =
    omega (
      arith,
      code_short c.args.number c.requires,
      ap length c.new-ending.ensures,
      c.push_behind.ensures.len,
      ap length c.push_code.ensures.code,
      length-append c.push_behind.new.ending.items (code c.args.number),
      c.push.ensures.len,
      ap length c.deref.ensures.0,
    )
