use Rattle.std.proofs.Common.{◌≡◌, ◌∙◌, ap, sym, Some, ◌-◌, ◌^◌, length, refl}
use Rattle.vhdl_values.proofs.Kept.{IsKept-seen}
use Rattle.vhdl_values.proofs.Numbered.{good_where_full, bad_elsewhere, number_of-good}
use Rattle.vhdl_values.proofs.vector.Vec9.number.Goals as goal

pub returns-then-self-mask : goal.returns-then-self-mask
returns-then-self-mask c =
    let h = IsKept-seen _ _ _ _ _ _ c.self.invariant c.self.view_is in
    let full : c.self.inside.second ≡ 2 ^ length c.args.self.now - 1 = c.if-self-mask.true ∙ c.mask.ensures ∙ ap (λ n. 2 ^ n - 1) c.len.ensures.len in
    let good = good_where_full _ _ _ _ _ _ h full in
    rw good (ap Some (h.first ∙ sym (number_of-good c.args.self.now good)))

pub returns-else-self-mask : goal.returns-else-self-mask
returns-else-self-mask c =
    let h = IsKept-seen _ _ _ _ _ _ c.self.invariant c.self.view_is in
    let bad = bad_elsewhere _ _ _ _ _ _ h (λ full. c.if-self-mask.false (full ∙ sym (c.mask.ensures ∙ ap (λ n. 2 ^ n - 1) c.len.ensures.len))) in
    rw bad refl
