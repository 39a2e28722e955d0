use Rattle.std.proofs.Common.{◌≡◌, ℕ, ◌+◌, ◌-◌, ◌<◌, ◌≤◌, false, get_or, ap, sym, ◌∙◌, arith, ◌⊎◌, inl, inr}
use Rattle.std.proofs.lemmas.Bool.{cases_lt}
use Rattle.std.proofs.lemmas.List.Edits.{get_or-between, length-between}
use Rattle.rtl_net_groups.proofs.search.after_unmarked.Goals as goal

pub loop-place-preserved : goal.loop-place-preserved
loop-place-preserved c = record { later = omega arith; within = omega arith; unmarked = λ k low high. by k low high (cases_lt k c.loop-place.place) }
  where
    by : (k : ℕ) → c.args.from ≤ k → k < c.loop-place.place + 16 → (k < c.loop-place.place) ⊎ (c.loop-place.place ≤ k) → get_or c.args.marks.now k false ≡ false
    by k low high (inl less) = c.loop-place.invariant.unmarked k low less
    by k low high (inr behind) =
        let marks = c.args.marks.now in
        let place = c.loop-place.place in
        let at : k ≡ place + (k - place) = omega (arith, behind) in
        ap (λ (m : ℕ). get_or marks m false) at
        ∙ sym (get_or-between marks place (place + 16) (k - place) false (omega (arith, behind, high)))
        ∙ c.has_mark.ensures.none c.if-has_mark.false (k - place) (omega (arith, behind, high, c.loop-place-test.true, length-between marks place (place + 16) (omega arith)))
