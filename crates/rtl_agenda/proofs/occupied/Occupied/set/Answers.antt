use Rattle.std.proofs.Common.{◌≡◌, ◌/◌, ◌%◌, get_or, sym, ap, ◌∙◌, arith}
use Rattle.std.specs.Prelude.{◌==◌}
use Rattle.std.specs.Int.{bit_at, w64}
use Rattle.std.proofs.lemmas.List.{get_or_default}
use Rattle.std.proofs.lemmas.Nat.Bits.{bit_at_set_same, bit_at_set_other, bit_at_clear_same, bit_at_clear_other}
use Rattle.rtl_agenda.proofs.Marks.{marked_same, marked_other}
use Rattle.rtl_agenda.proofs.occupied.Occupied.set.Goals as goal

pub returns-then-occupied-clause-at : goal.returns-then-occupied-clause-at
returns-then-occupied-clause-at c =
    marked_same c.args.self.now.words.items c.args.slot _ (omega (arith, c.requires)) c.args.occupied (ap (λ n. n == 1) (bit_at_set_same w64 c.index_mut.result.now (c.args.slot % 64) (omega arith)) ∙ sym c.if-occupied.true)

pub returns-then-occupied-clause-others : goal.returns-then-occupied-clause-others
returns-then-occupied-clause-others c =
    let was : get_or c.args.self.now.words.items (c.args.slot / 64) 0 ≡ c.index_mut.result.now = get_or_default c.args.self.now.words.items (c.args.slot / 64) 0 c.index_mut.result.now (omega (arith, c.requires)) ∙ sym c.index_mut.ensures.value in
    marked_other c.args.self.now.words.items c.args.slot _ (omega (arith, c.requires))
    (λ i within apart. bit_at_set_other w64 c.index_mut.result.now (c.args.slot % 64) (omega arith) i apart ∙ ap (λ n. bit_at n i) (sym was))

pub returns-else-occupied-clause-at : goal.returns-else-occupied-clause-at
returns-else-occupied-clause-at c =
    marked_same c.args.self.now.words.items c.args.slot _ (omega (arith, c.requires)) c.args.occupied (ap (λ n. n == 1) (bit_at_clear_same w64 c.index_mut-else-occupied.result.now (c.args.slot % 64) (omega arith)) ∙ sym c.if-occupied.false)

pub returns-else-occupied-clause-others : goal.returns-else-occupied-clause-others
returns-else-occupied-clause-others c =
    let was : get_or c.args.self.now.words.items (c.args.slot / 64) 0 ≡ c.index_mut-else-occupied.result.now = get_or_default c.args.self.now.words.items (c.args.slot / 64) 0 c.index_mut-else-occupied.result.now (omega (arith, c.requires)) ∙ sym c.index_mut-else-occupied.ensures.value in
    marked_other c.args.self.now.words.items c.args.slot _ (omega (arith, c.requires))
    (λ i within apart. bit_at_clear_other w64 c.index_mut-else-occupied.result.now (c.args.slot % 64) (omega arith) i within apart ∙ ap (λ n. bit_at n i) (sym was))
