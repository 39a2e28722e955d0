use Rattle.std.proofs.Common.{◌≡◌, ◌*◌, ◌-◌, ◌%◌, arith, length, map, refl, take}
use Rattle.std.proofs.lemmas.List.{take_all}
use Rattle.vhdl_values.specs.Scalar.{code_of}
use Rattle.vhdl_values.proofs.Aligned.{codes-aligned}
use Rattle.vhdl_values.proofs.Kept.{IsKept-seen}
use Rattle.vhdl_values.proofs.Coded.{write-part, write-rest, written-all, whole-part}
use Rattle.vhdl_values.proofs.vector.Vec9.write_codes.Goals as goal

pub loop-group-preserved : goal.loop-group-preserved
loop-group-preserved c =
    let h = IsKept-seen _ _ _ _ _ _ c.self.invariant c.self.view_is in
    let codes = codes-aligned c.args.self.now _ _ _ _ _ _ c.loop-group.group _ _ _ _ _ h (omega arith) (omega arith)
    c.to_be_bytes-first.ensures c.to_be_bytes-second.ensures c.to_be_bytes-third.ensures c.to_be_bytes-fourth.ensures c.codes_of_bytes-codes.ensures in
    write-part c.args.self.now c.loop-group.out _ _ (8 * c.loop-group.group) _ 8 _ c.copy_from_slice.ensures.after codes (omega arith) (omega arith) c.loop-group.invariant

pub returns-then-rest-gt0 : goal.returns-then-rest-gt0
returns-then-rest-gt0 c =
    let start : 8 * c.loop-group.group ≡ c.len-len.result - c.len-len.result % 8 = omega arith in
    let so_far : take (c.len-len.result - c.len-len.result % 8) c.loop-group.out ≡ map code_of (take (c.len-len.result - c.len-len.result % 8) c.args.self.now) = rw (← start) c.loop-group.invariant in
    write-rest c.args.self.now c.loop-group.out _ _ (c.len-len.result - c.len-len.result % 8) _ (c.len-len.result % 8) c.copy_from_slice-then-rest-gt0.ensures.after (whole-part c.args.self.now _ _ (c.len-len.result % 8) (c.len-len.result - c.len-len.result % 8) c.codes_at.ensures (omega arith)) (omega arith) refl (omega arith) so_far

pub returns-else-rest-gt0 : goal.returns-else-rest-gt0
returns-else-rest-gt0 c =
    let end : 8 * c.loop-group.group ≡ length c.args.self.now = omega arith in
    let all : take (length c.args.self.now) c.loop-group.out ≡ c.loop-group.out = take_all (length c.args.self.now) c.loop-group.out (omega arith) in
    rw (← all) (written-all c.args.self.now c.loop-group.out (8 * c.loop-group.group) end c.loop-group.invariant)
