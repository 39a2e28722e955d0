use Rattle.std.proofs.Common.{◌∙◌, ap, arith}
use Rattle.std.proofs.lemmas.List.{take_all}
use Rattle.vhdl_values.specs.Packed.{packed}
use Rattle.vhdl_values.proofs.Transposing.{from_be_bytes-packed, packed-none, packed-next}
use Rattle.vhdl_values.proofs.transposed.packed.Goals as goal

pub returns-then-codes-eq8 : goal.returns-then-codes-eq8
returns-then-codes-eq8 c = c.from_be_bytes.ensures ∙ from_be_bytes-packed c.args.codes.now c.if-codes-eq8.true

pub loop-code-init : goal.loop-code-init
loop-code-init c = packed-none

pub loop-code-preserved : goal.loop-code-preserved
loop-code-preserved c =
    packed-next c.args.codes.now c.loop-code.code-index c.loop-code.word c.beside-word.result c.loop-code-test.true c.requires (λ k. omega (arith, c.type_inv.codes k)) c.loop-code.invariant
    (rw c.from.ensures at c.beside-word.ensures)

pub returns : goal.returns
returns c = c.loop-code.invariant ∙ ap packed (take_all c.loop-code.code-index c.args.codes.now (omega arith))
