-- A report shows its levels by local facts.
use Rattle.std.proofs.Common.{◌≡◌, ℕ, zero, suc, ◌<◌, ◌≤◌, List, get_or, Option, Some, None, refl, sym, ap, ◌∙◌, subst, arith}
use Rattle.rtl_model.specs.simulation.Netlist.{Edge, IsCombinational, Netlist}
use Rattle.rtl_model.specs.simulation.Accepted.{Feeds}
use Rattle.rtl_model.specs.simulation.Levels.{ChainTo, IsLevel, Rises, ShowLevels}
use Rattle.rtl_model.specs.simulation.Report.{IsFrom, IsReport, LeadsDown, ShowReport}
use Rattle.rtl_model.specs.simulation.Laws.{LevelsAreShown, ReportsAreShown, ReportsLeadDown}
use Rattle.rtl_model.proofs.basics.Chains.{chain_below, no_circle}
use Rattle.rtl_model.proofs.simulation.Levels.{same_level}

module _ (net : Netlist) (levels from : List (Option ℕ)) (S : ShowLevels net levels from) where
  chain_of : (below q : ℕ) → IsCombinational net q → get_or levels q None ≡ Some (suc below) → ChainTo net q (suc below)
  chain_of zero q c e = c
  chain_of (suc below) q c e = let (p, is, feeds, l) = S.from_below q below c e in (p, chain_of below p feeds.feeder l, feeds)

  below_number : (f : ℕ → ℕ) → Rises net f → (n q : ℕ) → ChainTo net q n → n ≤ f q
  below_number f R = chain_below (Feeds net) (IsCombinational net) f R.along R.from_one

  number : Option ℕ → ℕ
  number None = 1
  number (Some v) = v

  rises : Rises net (λ p. number (get_or levels p None))
  unfolding number
  rises = record {
    from_one = λ p c. let (below, e) = S.each p c in rw e (omega arith);
    along = λ p q feeds. let (a, d) = S.each p feeds.feeder in let (b, e) = S.each q feeds.fed in rw (d, e) (S.rises p q (suc a) (suc b) feeds d e);
  }

  is_level : (p level : ℕ) → IsCombinational net p → get_or levels p None ≡ Some level → IsLevel net p level × ((f : ℕ → ℕ) → Rises net f → level ≤ f p)
  unfolding number
  is_level p level c e =
      let (below, d) = S.each p c in
      let same : level ≡ suc below = cc in
      let chain = chain_of below p c d in
      rw same (record { reached = chain; longest = λ n h. rw d at (below_number (λ q. number (get_or levels q None)) rises n p h) }, λ f R. below_number f R (suc below) p chain)

pub levels_are_shown : LevelsAreShown
levels_are_shown net levels from S = (is_level net levels from S, no_circle (Feeds net) (IsCombinational net) _ (rises net levels from S).along)

-- a report's levels and from satisfy the local facts
module _ (net : Netlist) (levels from : List (Option ℕ)) (clocks : List (ℕ × Edge)) (most : ℕ) (R : IsReport net levels from clocks most) where
  level_is : (p level : ℕ) → IsCombinational net p → get_or levels p None ≡ Some level → IsLevel net p level
  level_is p level c e =
      let (n, d, is) = R.levels_are.combinational p c in
      let same : level ≡ n = cc in
      rw same is

  -- what from says, at a level
  from_at : (q : ℕ) → IsCombinational net q → (o : Option ℕ) → get_or from q None ≡ o → IsFrom net q o
  from_at q c o e = subst (λ (o : Option ℕ). IsFrom net q o) e (R.from_combinational q c)

  below_is : (q below : ℕ) → IsCombinational net q → get_or levels q None ≡ Some (suc (suc below)) → (p : ℕ) × (get_or from q None ≡ Some p) × Feeds net p q × (get_or levels p None ≡ Some (suc below))
  below_is q below c e = go (get_or from q None) refl
    where
      at : (p n : ℕ) → get_or from q None ≡ Some p → IsLevel net q (suc n) → IsLevel net p n → Feeds net p q → (p : ℕ) × (get_or from q None ≡ Some p) × Feeds net p q × (get_or levels p None ≡ Some (suc below))
      at p n f is lower feeds =
          let same : n ≡ suc below = (let e = same_level net q (suc n) (suc (suc below)) is (level_is q (suc (suc below)) c e) in omega arith) in
          let (m, d, is') = R.levels_are.combinational p feeds.feeder in
          let same' : m ≡ n = same_level net p m n is' lower in
          (p, f, feeds, d ∙ ap (λ (k : ℕ). Some k) (same' ∙ same))

      go : (o : Option ℕ) → get_or from q None ≡ o → (p : ℕ) × (get_or from q None ≡ Some p) × Feeds net p q × (get_or levels p None ≡ Some (suc below))
      go None f = let l = same_level net q 1 (suc (suc below)) (from_at q c None f) (level_is q (suc (suc below)) c e) in absurd (omega arith)
      go (Some p) f = let (n, is, lower, feeds, least) = from_at q c (Some p) f in at p n f is lower feeds

  level_above : (p level : ℕ) → IsLevel net p level → IsCombinational net p → (below : ℕ) × (level ≡ suc below)
  level_above p zero is c = absurd is.reached
  level_above p (suc below) is c = (below, refl)

  shows : ShowLevels net levels from
  shows = record {
    each = λ p c.
        let (level, e, is) = R.levels_are.combinational p c in
        let (below, d) = level_above p level is c in
        (below, e ∙ ap (λ (k : ℕ). Some k) d);
    rises = λ p q a b feeds d e. rising p q a b feeds (level_is p a feeds.feeder d) (level_is q b feeds.fed e);
    from_below = below_is;
  }
    where
      rising : (p q a b : ℕ) → Feeds net p q → IsLevel net p a → IsLevel net q b → a < b
      rising p q zero b feeds x y = absurd x.reached
      rising p q (suc a) b feeds x y = let l = y.longest (suc (suc a)) (p, x.reached, feeds) in omega arith

  -- at level 1 there is no from: what it named would be lower
  none_at_one : (q : ℕ) → IsCombinational net q → get_or levels q None ≡ Some 1 → get_or from q None ≡ None
  none_at_one q c e = go (get_or from q None) refl
    where
      at : (p n : ℕ) → IsLevel net q (suc n) → IsLevel net p n → ⊥
      at p n is lower = let l = same_level net q (suc n) 1 is (level_is q 1 c e) in none p n (omega arith) lower
        where
          none : (p n : ℕ) → n ≡ 0 → IsLevel net p n → ⊥
          none p zero z lower = lower.reached
          none p (suc n) z lower = absurd (omega arith)

      go : (o : Option ℕ) → get_or from q None ≡ o → get_or from q None ≡ None
      go None f = f
      go (Some p) f = let (n, is, lower, feeds, least) = from_at q c (Some p) f in absurd (at p n is lower)

  leads_down : (level q : ℕ) → IsCombinational net q → get_or levels q None ≡ Some level → LeadsDown net from q level
  leads_down zero q c e = (level_is q zero c e).reached
  leads_down (suc zero) q c e = (c, none_at_one q c e)
  leads_down (suc (suc below)) q c e = let (p, f, feeds, d) = below_is q below c e in (p, f, feeds, leads_down (suc below) p feeds.feeder d)

  lowest : (q p below r : ℕ) → IsCombinational net q → get_or levels q None ≡ Some (suc below) → get_or from q None ≡ Some p → r < p → get_or levels r None ≡ Some below → Feeds net r q → ⊥
  lowest q p below r c e f l d feeds =
      let (n, is, lower, other, least) = from_at q c (Some p) f in
      let same : n ≡ below = (let k = same_level net q (suc n) (suc below) is (level_is q (suc below) c e) in omega arith) in
      least r l (subst (λ (k : ℕ). IsLevel net r k) (sym same) (level_is r below feeds.feeder d)) feeds

  shown : ShowReport net levels from clocks most
  shown = record {
    greatest = R.greatest;
    shown = shows;
    each_process = R.levels_are.each_process;
    clocked = R.levels_are.clocked;
    none_above = R.levels_are.none_above;
    met = R.levels_are.met;
    from_first = none_at_one;
    from_lowest = lowest;
    rest = R.rest;
  }

-- and what satisfies them is a report
module _ (net : Netlist) (levels from : List (Option ℕ)) (clocks : List (ℕ × Edge)) (most : ℕ) (S : ShowReport net levels from clocks most) where
  has_level : (p level : ℕ) → IsCombinational net p → get_or levels p None ≡ Some level → IsLevel net p level
  has_level p level c e = (is_level net levels from S.shown p level c e).0

  shown_from : (q below : ℕ) → IsCombinational net q → get_or levels q None ≡ Some (suc below) → (o : Option ℕ) → get_or from q None ≡ o → IsFrom net q o
  shown_from q zero c e None f = has_level q 1 c e
  shown_from q zero c e (Some p) f = let g = S.from_first q c e in cc
  shown_from q (suc below) c e None f = let (p, g, feeds, d) = S.shown.from_below q below c e in cc
  shown_from q (suc below) c e (Some p) f = at (S.shown.from_below q below c e)
    where
      lower : (r : ℕ) → r < p → IsLevel net r (suc below) → Feeds net r q → ⊥
      lower r l is feeds =
          let (k, d) = S.shown.each r feeds.feeder in
          let same = same_level net r (suc k) (suc below) (has_level r (suc k) feeds.feeder d) is in
          S.from_lowest q p (suc below) r c e f l (d ∙ ap (λ (n : ℕ). Some n) same) feeds

      at : (r : ℕ) × (get_or from q None ≡ Some r) × Feeds net r q × (get_or levels r None ≡ Some (suc below)) → IsFrom net q (Some p)
      at (r, g, feeds, d) =
          let same : r ≡ p = cc in
          (suc below, has_level q (suc (suc below)) c e, subst (λ (n : ℕ). IsLevel net n (suc below)) same (has_level r (suc below) feeds.feeder d), subst (λ (n : ℕ). Feeds net n q) same feeds, lower)

  reported : IsReport net levels from clocks most
  reported = record {
    greatest = S.greatest;
    levels_are = record {
      each_process = S.each_process;
      combinational = λ p c. let (below, e) = S.shown.each p c in (suc below, e, has_level p (suc below) c e);
      clocked = S.clocked;
      none_above = S.none_above;
      met = S.met;
    };
    from_combinational = λ q c. let (below, e) = S.shown.each q c in shown_from q below c e (get_or from q None) refl;
    rest = S.rest;
  }

pub reports_are_shown : ReportsAreShown
reports_are_shown net levels from clocks most = (shown net levels from clocks most, reported net levels from clocks most)

pub reports_lead_down : ReportsLeadDown
reports_lead_down net levels from clocks most R q level c e = leads_down net levels from clocks most R level q c e
