use Rattle.std.proofs.Common.{◌≡◌, ℕ, zero, suc, ◌+◌, ◌<◌, Bool, true, false, ◌||◌, refl, sym, ap, ◌∙◌, arith}
use Rattle.std.specs.List.{list_any, range_with_len}
use Rattle.rtl_body_facts.specs.Reading.{is_in}
use Rattle.rtl_body_facts.proofs.EveryPath.{any_range_more}
use Rattle.rtl_outside_ranges.proofs.looked.any_in_run.Goals as goal

any_there : (f : ℕ → Bool) (a len i : ℕ) → i < len → f (a + i) ≡ true → list_any f (range_with_len a len) ≡ true
any_there f a zero i l t = absurd (omega (arith, l))
any_there f a (suc len) zero l t = let e : a ≡ a + 0 = omega arith in ap (λ b. b || list_any f (range_with_len (a + 1) len)) (ap f e ∙ t)
any_there f a (suc len) (suc i) l t =
    let e : a + 1 + i ≡ a + suc i = omega arith in
    ap (λ b. f a || b) (any_there f (a + 1) len i (omega (arith, l)) (ap f e ∙ t)) ∙ or_true (f a)
  where
    or_true : (b : Bool) → (b || true) ≡ true
    or_true true = refl
    or_true false = refl

pub loop-i-preserved : goal.loop-i-preserved
loop-i-preserved c =
    let l = c.loop-i in
    let f : ℕ → Bool = λ n. is_in n c.args.some.now in
    any_range_more f c.args.first l.i ∙ ap (λ b. b || f (c.args.first + l.i)) l.invariant ∙ sym c.contains_rising.ensures ∙ c.if-contains_rising.false

pub returns-then-contains_rising : goal.returns-then-contains_rising
returns-then-contains_rising c =
    let l = c.loop-i in
    sym (any_there (λ n. is_in n c.args.some.now) c.args.first c.args.len l.i c.loop-i-test.true (sym c.contains_rising.ensures ∙ c.if-contains_rising.true))
