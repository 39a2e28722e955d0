-- The levels of a table, in the words of netlists.
use Rattle.std.proofs.Common.{◌≡◌, ◌≢◌, ℕ, suc, ◌<◌, ◌≤◌, [], ◌∷◌, List, get_or, Option, Some, None, sym, ap, subst, refl, ◌∙◌, arith}
use Rattle.std.specs.Prelude.{MatchOption, IfSome}
use Rattle.rtl_model.specs.simulation.Netlist.{Netlist, Edge, Combinational, Clocked, IsCombinational, IsClockedBy}
use Rattle.rtl_model.specs.simulation.Accepted as net
use Rattle.rtl_model.specs.simulation.Levels.{bound, ShowLevels}
use Rattle.rtl_model.specs.simulation.Report.{AreClocks, ShowReport}
use Rattle.rtl_check_levels.specs.Feeding.{Table, IsIn, Feeds, feeders_of}
use Rattle.rtl_check_levels.specs.declared.counting.Counting.TheVariants.{Each}
use Rattle.rtl_check_levels.specs.Levels.{AreLevels, IsHighest, level_of}
use Rattle.rtl_model.specs.basics.Chains.{IsRound}
use Rattle.rtl_check_levels.specs.Rounds as rounds
use Rattle.rtl_check_levels.specs.Rounds.{AreFed}
use Rattle.rtl_check_levels.specs.OfNets.{IsTableOf}

some_same : {a b : ℕ} → Some a ≡ Some b → a ≡ b
some_same e = cc

module _ (n : Netlist) (table : Table) (levels from : List (Option ℕ)) (greatest : ℕ) (t : IsTableOf n table) (h : AreLevels table levels from greatest) where
  -- what is known of a combinational process that has this level
  stands : (q below : ℕ) → IsCombinational n q → level_of levels q ≡ Some (suc below) → IsHighest Each (feeders_of table q) levels from below (get_or from q None)
  stands q below c e =
      let (level, is, (b, l, high)) = h.each q ((t.combinational q).1 c) in
      let same : level ≡ suc below = some_same (sym is ∙ e) in
      subst (λ (x : ℕ). IsHighest Each (feeders_of table q) levels from x (get_or from q None)) (omega arith) high

  has_level : (q : ℕ) → IsCombinational n q → (below : ℕ) × (level_of levels q ≡ Some (suc below))
  has_level q c = let (level, is, (b, l, high)) = h.each q ((t.combinational q).1 c) in (b, is ∙ ap Some l)

  not_combinational : (p clock : ℕ) (edge : Edge) → IsClockedBy n p clock edge → IsIn table p → ⊥
  not_combinational p clock edge (reset, is) i = let (l, c) = (t.combinational p).0 i in let k : Combinational ≡ Clocked clock edge reset = sym c ∙ is in cc

  fed_by : (p q : ℕ) → net.Feeds n p q → Feeds table p q
  fed_by p q f = (t.feeds p q).1 f

  rises : (p q a b : ℕ) → net.Feeds n p q → level_of levels p ≡ Some a → level_of levels q ≡ Some b → a < b
  rises p q a b f e k =
      let (below, is) = has_level q f.fed in
      let (x, at, l, low) = (stands q below f.fed is).each p (fed_by p q f) in
      let s : x ≡ a = some_same (sym at ∙ e) in
      let u : suc below ≡ b = some_same (sym is ∙ k) in
      omega arith

  from_below : (q below : ℕ) → IsCombinational n q → level_of levels q ≡ Some (suc (suc below))
      → (p : ℕ) × (get_or from q None ≡ Some p) × net.Feeds n p q × (level_of levels p ≡ Some (suc below))
  from_below q below c e = go (get_or from q None) refl (stands q (suc below) c e).met
    where
      go : (o : Option ℕ) → get_or from q None ≡ o → MatchOption o (suc below ≡ 0) (λ f. (suc below ≢ 0) × ((p : ℕ) × Feeds table p q × (level_of levels p ≡ Some (suc below)) × (Some p ≡ Some f)))
          → (p : ℕ) × (get_or from q None ≡ Some p) × net.Feeds n p q × (level_of levels p ≡ Some (suc below))
      go None is m = absurd (omega arith)
      go (Some f) is (some, (p, k, l, same)) = (p, is ∙ sym same, (t.feeds p q).0 k, l)

  from_first : (q : ℕ) → IsCombinational n q → level_of levels q ≡ Some 1 → get_or from q None ≡ None
  from_first q c e = go (get_or from q None) (stands q 0 c e).met
    where
      go : (o : Option ℕ) → MatchOption o (◌≡◌ {A = ℕ} 0 0) (λ f. (◌≢◌ {A = ℕ} 0 0) × ((p : ℕ) × Feeds table p q × (level_of levels p ≡ Some 0) × (Some p ≡ Some f))) → o ≡ None
      go None m = refl
      go (Some f) (some, m) = absurd (some refl)

  from_lowest : (q p below r : ℕ) → IsCombinational n q → level_of levels q ≡ Some (suc below) → get_or from q None ≡ Some p → r < p
      → level_of levels r ≡ Some below → net.Feeds n r q → ⊥
  from_lowest q p below r c e is l at f =
      let (b, k, m, low) = (stands q below c e).each r (fed_by r q f) in
      let s : b ≡ below = some_same (sym k ∙ at) in
      let o : p ≤ r = subst (λ (o : Option ℕ). IfSome o (λ x. x ≤ r)) is (low s) in
      omega arith

  pub shown_levels : ShowLevels n levels from
  shown_levels = record { each = has_level; rises = rises; from_below = from_below }

  pub shown : (net.IsByNets n → ⊥) → (clocks : List (ℕ × Edge)) → AreClocks n clocks → ShowReport n levels from clocks (bound n greatest)
  shown by_processes clocks k = record {
    greatest = greatest;
    shown = shown_levels;
    each_process = h.each_row ∙ t.each_process;
    clocked = λ p clock edge c. (h.others p (not_combinational p clock edge c)).0;
    none_above = h.none_above;
    met = h.met;
    from_first = from_first;
    from_lowest = from_lowest;
    rest = record {
      by_processes = by_processes;
      bound_is = refl;
      each_from = h.each_from ∙ t.each_process;
      from_clocked = λ p clock edge c. (h.others p (not_combinational p clock edge c)).1;
      clocks_are = k;
    };
  }

-- ---- loops

pub loop_of : (n : Netlist) (table : Table) → IsTableOf n table → (round : List ℕ) → rounds.IsRound table round → net.IsLoop n round
loop_of n table t [] h = h
loop_of n table t (p ∷ more) h = fed p more p h
  where
    fed : (x : ℕ) (xs : List ℕ) (first : ℕ) → AreFed table (x ∷ xs) first → IsRound (net.Feeds n) first (x ∷ xs)
    fed x [] first k = (t.feeds first x).0 k
    fed x (y ∷ ys) first (k, m) = ((t.feeds y x).0 k, fed y ys first m)
