-- Marks of chunks, as values change.
use Rattle.std.proofs.Common.{◌≡◌, ℕ, ◌+◌, ◌<◌, ◌≤◌, List, length, get_or, set, refl, sym, ◌∙◌, arith, ◌⊎◌, inl, inr}
use Rattle.std.proofs.lemmas.Bool.{cases_lt}
use Rattle.std.proofs.lemmas.List.{get_or-set_other}
use Rattle.rtl_net_groups.specs.Written.{IsWritten}
use Rattle.rtl_net_groups.specs.Touching.{Chunks, IsLeft, MarksRun, Touches}

-- values that stay
pub touches_same : (a : Chunks) (v w : List ℕ) → ((n : ℕ) → get_or v n 0 ≡ get_or w n 0) → Touches a a v w
touches_same a v w same = record { nets_stay = refl; kept = λ n l. l; others = λ n l. same n }

pub touches_none : (a : Chunks) (v : List ℕ) → Touches a a v v
touches_none a v = touches_same a v v (λ n. refl)

pub touches_then : (a b c : Chunks) (u v w : List ℕ) → Touches a b u v → Touches b c v w → Touches a c u w
touches_then a b c u v w s t = record {
  nets_stay = t.nets_stay ∙ s.nets_stay;
  kept = λ n l. s.kept n (t.kept n l);
  others = λ n l. s.others n (t.kept n l) ∙ t.others n l;
}

-- values that are written from a net on
pub touches_run : (a b : Chunks) (first : ℕ) (given v w : List ℕ) → IsWritten first given v w → MarksRun first (first + length given) a b → Touches a b v w
touches_run a b first given v w W M = record {
  nets_stay = M.nets_stay;
  kept = M.kept;
  others = λ n l. by n l (cases_lt n first) (cases_lt n (first + length given));
}
  where
    by : (n : ℕ) → IsLeft b n → (n < first) ⊎ (first ≤ n) → (n < first + length given) ⊎ (first + length given ≤ n) → get_or v n 0 ≡ get_or w n 0
    by n l (inl low) _ = sym (W.below n low)
    by n l (inr from) (inr past) = sym (W.behind n past)
    by n l (inr from) (inl less) = absurd (M.of_run n from less l)

-- the value of one net
pub touches_set : (a b : Chunks) (net value : ℕ) (v : List ℕ) → MarksRun net (net + 1) a b → Touches a b v (set v net value)
touches_set a b net value v M = record { nets_stay = M.nets_stay; kept = M.kept; others = λ n l. sym (get_or-set_other v net n value 0 (other n l)) }
  where
    other : (n : ℕ) → IsLeft b n → n ≡ net → ⊥
    other n l e = M.of_run n (omega (arith, e)) (omega (arith, e)) l
