use Rattle.std.proofs.Common.{◌≡◌, ℕ, ◌+◌, ◌<◌, ◌≤◌, ◌⊎◌, inl, inr, true, false, get_or, set, arith, ap, ◌∙◌}
use Rattle.std.proofs.lemmas.Bool.{cases_eq}
use Rattle.std.proofs.lemmas.List.{get_or-set_same, get_or-set_other, length-set}
use Rattle.rtl_net_groups.proofs.touched.mark_each.Goals as goal

-- a place out of the run isn't this one in it
apart : (first last place k : ℕ) → first ≤ place → place ≤ last → (k < first) ⊎ (last < k) → k ≡ place → ⊥
apart first last place k from to (inl before) e = omega (arith, before, e, from)
apart first last place k from to (inr behind) e = omega (arith, behind, e, to)

pub loop-place-init : goal.loop-place-init
loop-place-init c = record {
  last = get_or-set_same c.args.marks.now c.args.last true false c.requires.there;
  there = λ k low high. absurd (omega (arith, low, high));
  others = λ k out. get_or-set_other c.args.marks.now c.args.last k true false (apart c.args.first c.args.last c.args.last k c.requires.order (omega arith) out);
}

pub loop-place-preserved : goal.loop-place-preserved
loop-place-preserved c = record {
  last = get_or-set_other c.loop-place.marks c.loop-place.place c.args.last true false (λ e. omega (arith, e, c.loop-place-test.true)) ∙ c.loop-place.invariant.last;
  there = λ k low high. by k low high (cases_eq k c.loop-place.place);
  others = λ k out.
      get_or-set_other c.loop-place.marks c.loop-place.place k true false (apart c.args.first c.args.last c.loop-place.place k (omega arith) (omega (arith, c.loop-place-test.true)) out)
      ∙ c.loop-place.invariant.others k out;
}
  where
    by : (k : ℕ) → c.args.first ≤ k → k < c.loop-place.place + 1 → (k ≡ c.loop-place.place) ⊎ (k ≡ c.loop-place.place → ⊥)
        → get_or (set c.loop-place.marks c.loop-place.place true) k false ≡ true
    by k low high (inl is) =
        ap (λ (n : ℕ). get_or (set c.loop-place.marks c.loop-place.place true) n false) is
        ∙ get_or-set_same c.loop-place.marks c.loop-place.place true false
        (omega (arith, c.loop-place.auto.marks, length-set c.args.marks.now c.args.last true, c.requires.there, c.loop-place-test.true))
    by k low high (inr differ) =
        get_or-set_other c.loop-place.marks c.loop-place.place k true false differ ∙ c.loop-place.invariant.there k low (omega (arith, high, differ))

pub returns-clause-there : goal.returns-clause-there
returns-clause-there c = λ k low high. by k low high (cases_eq k c.args.last)
  where
    by : (k : ℕ) → c.args.first ≤ k → k ≤ c.args.last → (k ≡ c.args.last) ⊎ (k ≡ c.args.last → ⊥) → get_or c.loop-place.marks k false ≡ true
    by k low high (inl is) = ap (λ (n : ℕ). get_or c.loop-place.marks n false) is ∙ c.loop-place.invariant.last
    by k low high (inr differ) = c.loop-place.invariant.there k low (omega (arith, high, differ, c.loop-place-test.false))

pub returns-clause-others : goal.returns-clause-others
returns-clause-others c = c.loop-place.invariant.others
