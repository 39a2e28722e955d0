-- Marks of the nets that have an event.
use Rattle.std.proofs.Common.{◌≡◌, ℕ, ◌+◌, ◌<◌, ◌≤◌, List, length, get_or, refl, sym, ap, ◌∙◌, arith, ◌⊎◌, inl, inr}
use Rattle.std.proofs.lemmas.Bool.{cases_eq, cases_lt}
use Rattle.std.proofs.lemmas.List.{get_or_default, get_or_past}
use Rattle.rtl_net_groups.specs.Groups.{AreNetsOf, Grouping}
use Rattle.rtl_net_groups.specs.Touching.{Chunks, IsLeft, MarksRun, Touches}
use Rattle.rtl_model.proofs.simulation.Rows.{differs_event}
use Rattle.rtl_kernel.specs.values.TwoValues.{TwoValues, CoverEvents}

-- the nets of the first so many of these groups are marked
pub record AreTouched (g : Grouping) (groups : List ℕ) (many : ℕ) (before after : Chunks) : Type 0 where
  pub nets_stay : after.nets ≡ before.nets
  pub kept : (n : ℕ) → IsLeft after n → IsLeft before n
  pub marked : (k n : ℕ) → k < many → n < length g.of_net → get_or g.of_net n 0 ≡ get_or groups k 0 → IsLeft after n → ⊥

pub touched_none : (g : Grouping) (groups : List ℕ) (a : Chunks) → AreTouched g groups 0 a a
touched_none g groups a = record { nets_stay = refl; kept = λ n l. l; marked = λ k n lt there is l. absurd (omega (arith, lt)) }

pub touched_more : (g : Grouping) (groups : List ℕ) (many first end : ℕ) (before mid after : Chunks) → AreTouched g groups many before mid → MarksRun first end mid after
    → AreNetsOf g (get_or groups many 0) first end → AreTouched g groups (many + 1) before after
touched_more g groups many first end before mid after I M are = record {
  nets_stay = M.nets_stay ∙ I.nets_stay;
  kept = λ n l. I.kept n (M.kept n l);
  marked = λ k n lt there is l. by k n lt there is l (cases_eq k many);
}
  where
    by : (k n : ℕ) → k < many + 1 → n < length g.of_net → get_or g.of_net n 0 ≡ get_or groups k 0 → IsLeft after n → (k ≡ many) ⊎ (k ≡ many → ⊥) → ⊥
    by k n lt there is l (inl e) =
        let among = (are.each n there).0 (is ∙ ap (λ (j : ℕ). get_or groups j 0) e) in
        M.of_run n among.0 among.1 l
    by k n lt there is l (inr differ) = I.marked k n (omega (arith, lt, differ)) there is (M.kept n l)

-- where they are all whose nets may have an event
pub touches_events : (v : TwoValues) (groups : List ℕ) (many : ℕ) (before after : Chunks) → CoverEvents v groups → length groups ≤ many
    → length v.groups.of_net ≡ length v.current → length v.before ≡ length v.current → AreTouched v.groups groups many before after → Touches before after v.before v.current
touches_events v groups many before after C all each_net as_many A = record {
  nets_stay = A.nets_stay;
  kept = A.kept;
  others = λ n l. by n l (cases_eq (get_or v.before n 0) (get_or v.current n 0)) (cases_lt n (length v.current));
}
  where
    by : (n : ℕ) → IsLeft after n → (get_or v.before n 0 ≡ get_or v.current n 0) ⊎ (get_or v.before n 0 ≡ get_or v.current n 0 → ⊥)
        → (n < length v.current) ⊎ (length v.current ≤ n) → get_or v.before n 0 ≡ get_or v.current n 0
    by n l (inl e) _ = e
    by n l (inr differ) (inr past) = get_or_past v.before n 0 (omega (arith, past, as_many)) ∙ sym (get_or_past v.current n 0 past)
    by n l (inr differ) (inl there) =
        let (k, lt, is) = C.events n (differs_event v.before v.current n differ) in
        absurd (A.marked k n (omega (arith, lt, all)) (omega (arith, there, each_net)) (sym is ∙ sym (get_or_default groups k 0 _ lt)) l)
