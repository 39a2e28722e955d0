-- Marked processes that run, or that would leave nothing.
use Rattle.std.proofs.Common.{◌≡◌, ℕ, ◌+◌, ◌<◌, Bool, true, false, List, length, get_or, set, Option, None, sym, ap, subst, ◌∙◌, arith, ◌⊎◌, inl, inr}
use Rattle.std.proofs.lemmas.Bool.{cases_Bool, cases_eq}
use Rattle.std.proofs.lemmas.List.{get_or-set_same, get_or-set_other}
use Rattle.rtl_model.specs.simulation.Netlist.{Netlist, process, target, HasPlace}
use Rattle.rtl_model.specs.simulation.Machine.{entry_or}
use Rattle.rtl_model.proofs.simulation.Numbered.{Numbered}
use Rattle.rtl_net_groups.specs.NextMarks.{AreUnmarked}
use Rattle.rtl_levels.specs.Marks.{HasNoMark}
use Rattle.rtl_levels.specs.Steps.{AllTakeOver, AreRunning, HaveRun, IsDrivenByMarked}
use Rattle.rtl_levels.proofs.Settling.{one_process}

-- one more place that isn't marked
pub unmarked_more : (marks : List Bool) (i j : ℕ) → get_or marks i false ≡ false → AreUnmarked marks (i + 1) j → AreUnmarked marks i j
unmarked_more marks i j none more k low high = by (cases_eq k i)
  where
    by : (k ≡ i) ⊎ (k ≡ i → ⊥) → get_or marks k false ≡ false
    by (inl e) = ap (λ (m : ℕ). get_or marks m false) e ∙ none
    by (inr ne) = more k (omega (arith, low, ne)) high

-- no place is marked and isn't
pub clash : {b : Bool} → b ≡ true → b ≡ false → ⊥
clash h f = let t : true ≡ false = sym h ∙ f in cc

-- a mark that is taken off
pub fewer_marks : (marked : List Bool) (i : ℕ) → i < length marked → (p : ℕ) → get_or (set marked i false) p false ≡ true → (p ≡ i → ⊥) × (get_or marked p false ≡ true)
fewer_marks marked i there p h = by (cases_eq p i)
  where
    by : (p ≡ i) ⊎ (p ≡ i → ⊥) → (p ≡ i → ⊥) × (get_or marked p false ≡ true)
    by (inl e) = absurd (clash h (ap (λ (k : ℕ). get_or (set marked i false) k false) e ∙ get_or-set_same marked i false false there))
    by (inr ne) = (ne, sym (get_or-set_other marked i p false false ne) ∙ h)

-- what isn't marked stays so
pub stays_unmarked : (marked still : List Bool) → ((p : ℕ) → get_or still p false ≡ true → get_or marked p false ≡ true) → (p : ℕ) → get_or marked p false ≡ false → get_or still p false ≡ false
stays_unmarked marked still fewer p off = by (cases_Bool (get_or still p false))
  where
    by : (get_or still p false ≡ true) ⊎ (get_or still p false ≡ false) → get_or still p false ≡ false
    by (inl h) = absurd (clash (fewer p h) off)
    by (inr none) = none

module _ (net : Netlist) (before v : List ℕ) (first : List Bool) where
  -- at first
  pub none_runs : (ran : List Bool) (entries : ℕ → List (Option ℕ)) → HasNoMark ran → AreRunning net before v first first ran entries
  none_runs ran entries none = record { still = λ p h. h; fewer = λ p h. absurd (clash h (none p)); left = λ p h. absurd (clash h (none p)); asleep = λ p place h f. absurd (clash h f) }

  -- at last
  pub all_have_run : (marked ran : List Bool) (entries : ℕ → List (Option ℕ)) → HasNoMark marked → AreRunning net before v first marked ran entries → HaveRun net before v first ran entries
  all_have_run marked ran entries none R = record { fewer = R.fewer; left = R.left; asleep = λ p place h f. R.asleep p place h (none p) f }

  module _ (i : ℕ) (marked ran : List Bool) (entries : ℕ → List (Option ℕ)) (R : AreRunning net before v first marked ran entries) (there : i < length marked) where
    -- one would leave nothing
    pub one_sleeps : ((place : ℕ) → get_or ((process net i).effect before v) place None ≡ None) → AreRunning net before v first (set marked i false) ran entries
    one_sleeps nothing = record { still = λ p h. R.still p (fewer_marks marked i there p h).1; fewer = R.fewer; left = R.left; asleep = λ p place h f g. asleep p place h f g (cases_eq p i) }
      where
        asleep : (p place : ℕ) → get_or first p false ≡ true → get_or (set marked i false) p false ≡ false → get_or ran p false ≡ false → (p ≡ i) ⊎ (p ≡ i → ⊥)
            → get_or ((process net p).effect before v) place None ≡ None
        asleep p place h f g (inl e) = subst (λ (q : ℕ). get_or ((process net q).effect before v) place None ≡ None) (sym e) (nothing place)
        asleep p place h f g (inr ne) = R.asleep p place h (sym (get_or-set_other marked i p false false ne) ∙ f) g

    -- one runs, and the others' entries stay
    pub one_runs : (entries' : ℕ → List (Option ℕ)) → get_or marked i false ≡ true → i < length ran → entries' i ≡ (process net i).effect before v → ((p : ℕ) → (p ≡ i → ⊥) → entries' p ≡ entries p)
        → AreRunning net before v first (set marked i false) (set ran i true) entries'
    one_runs entries' mark room now others = record {
      still = λ p h. R.still p (fewer_marks marked i there p h).1;
      fewer = λ p h. fewer p h (cases_eq p i);
      left = λ p h. left p h (cases_eq p i);
      asleep = λ p place h f g. asleep p place h f g (cases_eq p i);
    }
      where
        fewer : (p : ℕ) → get_or (set ran i true) p false ≡ true → (p ≡ i) ⊎ (p ≡ i → ⊥) → get_or first p false ≡ true
        fewer p h (inl e) = R.still p (ap (λ (k : ℕ). get_or marked k false) e ∙ mark)
        fewer p h (inr ne) = R.fewer p (sym (get_or-set_other ran i p true false ne) ∙ h)

        left : (p : ℕ) → get_or (set ran i true) p false ≡ true → (p ≡ i) ⊎ (p ≡ i → ⊥) → entries' p ≡ (process net p).effect before v
        left p h (inl e) = subst (λ (q : ℕ). entries' q ≡ (process net q).effect before v) (sym e) now
        left p h (inr ne) = others p ne ∙ R.left p (sym (get_or-set_other ran i p true false ne) ∙ h)

        asleep : (p place : ℕ) → get_or first p false ≡ true → get_or (set marked i false) p false ≡ false → get_or (set ran i true) p false ≡ false → (p ≡ i) ⊎ (p ≡ i → ⊥)
            → get_or ((process net p).effect before v) place None ≡ None
        asleep p place h f g (inl e) = absurd (clash (ap (λ (k : ℕ). get_or (set ran i true) k false) e ∙ get_or-set_same ran i true false room) g)
        asleep p place h f g (inr ne) = R.asleep p place h (sym (get_or-set_other marked i p false false ne) ∙ f) (sym (get_or-set_other ran i p true false ne) ∙ g)

-- what is taken over of those that have run is what is taken over of all
pub with_asleep : (net : Netlist) → Numbered net → (before v w : List ℕ) (marked ran : List Bool) (entries : ℕ → List (Option ℕ)) → HaveRun net before v marked ran entries
    → AllTakeOver net ran entries v w → AllTakeOver net marked (λ p. (process net p).effect before v) v w
with_asleep net L before v w marked ran entries R T = record {
  each_net = T.each_net;
  on_targets = λ p place h has. by p place h has (cases_Bool (get_or ran p false));
  on_others = λ n free. T.on_others n (λ (p, place, h, has, t). free (p, place, R.fewer p h, has, t));
}
  where
    other : (p place : ℕ) → HasPlace net p place → get_or ran p false ≡ false → IsDrivenByMarked net ran (target net p place) → ⊥
    other p place has f (q, at, h, there, t) = let e = one_process net L q p at place there has t in let g = rw e at f in cc

    by : (p place : ℕ) → get_or marked p false ≡ true → HasPlace net p place → (get_or ran p false ≡ true) ⊎ (get_or ran p false ≡ false)
        → get_or w (target net p place) 0 ≡ entry_or (get_or ((process net p).effect before v) place None) (get_or v (target net p place) 0)
    by p place h has (inl t) =
        T.on_targets p place t has ∙ ap (λ (row : List (Option ℕ)). entry_or (get_or row place None) (get_or v (target net p place) 0)) (R.left p t)
    by p place h has (inr f) =
        T.on_others (target net p place) (other p place has f) ∙ sym (ap (λ (o : Option ℕ). entry_or o (get_or v (target net p place) 0)) (R.asleep p place h f))
