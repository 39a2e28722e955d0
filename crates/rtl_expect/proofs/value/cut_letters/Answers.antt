use Rattle.std.proofs.Common.{◌≡◌, ◌<◌, ◌≤◌, ◌+◌, ◌-◌, true, Bool, List, ℕ, Some, length, take, ap, sym, ◌∙◌, arith}
use Rattle.std.specs.Prelude.{◌==◌}
use Rattle.std.specs.List.{list_all}
use Rattle.rtl_expect.proofs.Wanting.{cut_is}
use Rattle.rtl_expect.proofs.value.cut_letters.Goals as goal

pub returns-then-are_zeros : goal.returns-then-are_zeros
returns-then-are_zeros c =
    let letters = c.args.letters.now in
    let count = c.args.count in
    let enough : count ≤ length letters = omega (arith, c.if-letters-count.false) in
    let few : length letters < count + 4 = omega (arith, enough, c.if-surplus-ge4.false) in
    let zeros : list_all (λ letter. letter == 48) (take (length letters - count) letters) ≡ true =
    ap (list_all (λ letter. letter == 48)) (sym c.split_at.ensures.front) ∙ sym c.are_zeros.ensures ∙ c.if-are_zeros.true in
    ap (λ (cut : List ℕ). Some cut) c.split_at.ensures.back ∙ sym (cut_is count letters enough few zeros)
