-- What the table of a netlist's nets shows: levels of nets, and the lowest net of the level below that each looks at.
use Rattle.std.proofs.Common.{◌≡◌, ◌≢◌, ℕ, zero, suc, pred, ◌<◌, ◌≤◌, ◌⊎◌, inl, inr, true, false, List, [], ◌∷◌, length, get_or, Option, Some, None, refl, sym, ap, subst, ◌∙◌, arith, Contains}
use Rattle.std.specs.Prelude.{IfSome, MatchOption, unwrap_or}
use Rattle.std.proofs.lemmas.Bool.{cases_Bool, cases_lt}
use Rattle.std.proofs.lemmas.List.{get_or_past}
use Rattle.rtl_model.specs.simulation.Netlist.{Netlist}
use Rattle.rtl_model.specs.simulation.Accepted.{LooksAt}
use Rattle.rtl_model.specs.simulation.Elaborated.{IsWired}
use Rattle.rtl_model.specs.simulation.NetLevels.{IsDerived, IsLowest, IsNetLevel, ShowNetLevels}
use Rattle.rtl_model.proofs.basics.Chains.{one_length}
use Rattle.rtl_check_levels.specs.declared.counting.Counting.{Counting}
use Rattle.rtl_check_levels.specs.Feeding.{Table, Feeds, feeders_of, counts_in}
use Rattle.rtl_check_levels.specs.Levels.{AreLevelsBy, IsHighest, level_of, seen_of}
use Rattle.rtl_check_nets.specs.Rows.{IsNetTable, StandsFor, itself, behind}
use Rattle.rtl_check_nets.proofs.RowLevels as rows
use Rattle.rtl_check_nets.proofs.RowLevels.{some_same, looks_derived}

stands_there : (nets : ℕ) (table : Table) (m row : ℕ) → StandsFor nets table m row → m < nets
stands_there nets table m row (itself l) = l
stands_there nets table m row (behind hub p past feeds stands) = stands_there nets table m p stands

-- a net has one level
pub one_level : (net : Netlist) (n a b : ℕ) → IsNetLevel net n a → IsNetLevel net n b → a ≡ b
one_level net n a b g h = one_length (λ m n. LooksAt net n m) (IsDerived net) n a b g h

module _ (net : Netlist) (table : Table) (counting : Counting) (levels from : List (Option ℕ)) (greatest : ℕ) (W : IsWired net)
    (t : IsNetTable net table (counts_in counting)) (h : AreLevelsBy counting table levels from greatest)
    (ns : List ℕ) (many : length ns ≡ length net.start) (is : (n : ℕ) → n < length net.start → get_or ns n 0 ≡ unwrap_or (level_of levels n) 0) where
  there : (n : ℕ) → n < length net.start → n < length table
  there n l = let e = t.each_net in omega arith

  level_is : (n : ℕ) → n < length net.start → level_of levels n ≡ Some (get_or ns n 0)
  level_is n l = let (level, e, _) = h.each n (t.each_row n (there n l)) in e ∙ ap (λ (k : ℕ). Some k) (sym (is n l ∙ ap (λ (o : Option ℕ). unwrap_or o 0) e))

  number_is : (m level : ℕ) → m < length net.start → level_of levels m ≡ Some level → get_or ns m 0 ≡ level
  number_is m level l e = some_same (sym (level_is m l) ∙ e)

  -- a net that isn't derived has level 0 and no from
  rest : (n : ℕ) → n < length net.start → (IsDerived net n → ⊥) → (get_or ns n 0 ≡ 0) × (get_or from n None ≡ None)
  rest n l odd = go (cases_Bool (counts_in counting n))
    where
      none : (o : Option ℕ) → get_or from n None ≡ o
          → MatchOption o (get_or ns n 0 ≡ 0) (λ f. (get_or ns n 0 ≢ 0) × ((p : ℕ) × Contains (feeders_of table n) p × (level_of levels p ≡ Some (get_or ns n 0)) × (seen_of counting from p ≡ Some f)))
          → (get_or ns n 0 ≡ 0) × (get_or from n None ≡ None)
      none None e z = (z, e)
      none (Some f) e (ne, (p, feeds, at, seen)) = absurd (odd (t.unfed n p l feeds))

      go : (counts_in counting n ≡ true) ⊎ (counts_in counting n ≡ false) → (get_or ns n 0 ≡ 0) × (get_or from n None ≡ None)
      go (inl here) = absurd (odd ((t.counts n).0 here))
      go (inr off) = none (get_or from n None) refl (rows.uncounted net table counting levels from greatest W t h n (get_or ns n 0) (there n l) (level_is n l) off).met

  derived : (n : ℕ) → get_or ns n 0 ≢ 0 → IsDerived net n
  derived n some = go (cases_lt n (length net.start)) (cases_Bool (counts_in counting n))
    where
      go : (n < length net.start) ⊎ (length net.start ≤ n) → (counts_in counting n ≡ true) ⊎ (counts_in counting n ≡ false) → IsDerived net n
      go (inr past) c = absurd (some (get_or_past ns n 0 (let e = many in omega arith)))
      go (inl l) (inl here) = (t.counts n).0 here
      go (inl l) (inr off) = absurd (some (rest n l (λ d. let k : true ≡ false = sym ((t.counts n).1 d) ∙ off in cc)).0)

  stands_on : (n : ℕ) → (l : n < length net.start) → IsDerived net n
      → (below : ℕ) × (get_or ns n 0 ≡ suc below) × IsHighest counting (feeders_of table n) levels from below (get_or from n None)
  stands_on n l d = rows.counted net table counting levels from greatest W t h n (get_or ns n 0) (there n l) (level_is n l) d

  -- the net that is seen of those at the level below
  seen_below : (n below : ℕ) → n < length net.start → IsHighest counting (feeders_of table n) levels from (suc below) (get_or from n None)
      → (m : ℕ) × (get_or from n None ≡ Some m) × LooksAt net n m × (get_or ns m 0 ≡ suc below)
  seen_below n below l high = go (get_or from n None) refl high.met
    where
      go : (o : Option ℕ) → get_or from n None ≡ o
          → MatchOption o (suc below ≡ 0) (λ f. (suc below ≢ 0) × ((p : ℕ) × Contains (feeders_of table n) p × (level_of levels p ≡ Some (suc below)) × (seen_of counting from p ≡ Some f)))
          → (m : ℕ) × (get_or from n None ≡ Some m) × LooksAt net n m × (get_or ns m 0 ≡ suc below)
      go None e z = absurd (omega arith)
      go (Some f) e (ne, (p, feeds, at, seen)) =
          let (m, named, stands, has) = rows.seen_net net table counting levels from greatest W t h (suc p) p (suc below) (omega arith) (t.within p n feeds) at ne in
          let same : f ≡ m = some_same (sym seen ∙ named) in
          (m, e ∙ ap (λ (k : ℕ). Some k) same, (t.looks n m l).1 (p, feeds, stands), number_is m (suc below) (stands_there (length net.start) table m p stands) has)

  pub shown : ShowNetLevels net ns
  shown = record {
    rise = record { from_one = from_one; along = along };
    derived = derived;
    from_below = from_below;
  }
    where
      from_one : (n : ℕ) → IsDerived net n → 1 ≤ get_or ns n 0
      from_one n d = let (below, same, high) = stands_on n (rows.derived_there net table counting levels from greatest W t h n d) d in omega arith

      along : (m n : ℕ) → LooksAt net n m → get_or ns m 0 < get_or ns n 0
      along m n look =
          let d = looks_derived net n m look in
          let l = rows.derived_there net table counting levels from greatest W t h n d in
          let (row, feeds, stands) = (t.looks n m l).0 look in
          let (below, same, high) = stands_on n l d in
          let (b, named, low, _) = high.each row feeds in
          let (at, has, up, _) = rows.most net table counting levels from greatest W t h m row stands (t.within row n feeds) b named in
          let e = number_is m at (stands_there (length net.start) table m row stands) has in
          omega arith

      from_below : (n below : ℕ) → get_or ns n 0 ≡ suc (suc below) → (m : ℕ) × LooksAt net n m × (get_or ns m 0 ≡ suc below)
      from_below n below e =
          let d = derived n (λ z. let k : suc (suc below) ≡ 0 = sym e ∙ z in omega arith) in
          let l = rows.derived_there net table counting levels from greatest W t h n d in
          let (under, same, high) = stands_on n l d in
          let (m, _, look, at) = seen_below n below l (subst (λ (k : ℕ). IsHighest counting (feeders_of table n) levels from k (get_or from n None)) (omega arith) high) in
          (m, look, at)

  -- the lowest net of the level below that a net looks at
  pub lowest : ((n : ℕ) → IsNetLevel net n (get_or ns n 0)) → (n : ℕ) → n < length net.start
      → IsLowest net (λ m. LooksAt net n m) (pred (get_or ns n 0)) (get_or from n None)
  lowest level n l = go (get_or ns n 0) refl
    where
      go : (k : ℕ) → get_or ns n 0 ≡ k → IsLowest net (λ m. LooksAt net n m) (pred k) (get_or from n None)
      go zero e = (rest n l (λ d. let (below, same, high) = stands_on n l d in omega arith)).1
      go (suc zero) e =
          let d = derived n (λ z. omega arith) in
          let (below, same, high) = stands_on n l d in
          nothing (get_or from n None) (subst (λ (k : ℕ). IsHighest counting (feeders_of table n) levels from k (get_or from n None)) (omega arith) high).met
        where
          nothing : (o : Option ℕ) → MatchOption o (◌≡◌ {A = ℕ} 0 0) (λ f. (◌≢◌ {A = ℕ} 0 0) × ((p : ℕ) × Contains (feeders_of table n) p × (level_of levels p ≡ Some 0) × (seen_of counting from p ≡ Some f))) → o ≡ None
          nothing None z = refl
          nothing (Some f) m = absurd (m.0 refl)
      go (suc (suc below)) e =
          let d = derived n (λ z. omega arith) in
          let (under, same, found) = stands_on n l d in
          let high = subst (λ (k : ℕ). IsHighest counting (feeders_of table n) levels from k (get_or from n None)) (omega arith) found in
          let (m, at, look, has) = seen_below n below l high in
          subst (IsLowest net (λ m. LooksAt net n m) (suc below)) (sym at)
          (look, subst (IsNetLevel net m) has (level m), λ r under_m looks_r at_r. none high m at r under_m looks_r at_r)
        where
          none : IsHighest counting (feeders_of table n) levels from (suc below) (get_or from n None) → (m : ℕ) → get_or from n None ≡ Some m
              → (r : ℕ) → r < m → LooksAt net n r → IsNetLevel net r (suc below) → ⊥
          none high m at r under looks_r at_r =
              let (row, feeds, stands) = (t.looks n r l).0 looks_r in
              let (b, named, low, k) = high.each row feeds in
              let (level_r, has, up, j) = rows.most net table counting levels from greatest W t h r row stands (t.within row n feeds) b named in
              let e : get_or ns r 0 ≡ level_r = number_is r level_r (stands_there (length net.start) table r row stands) has in
              let f : get_or ns r 0 ≡ suc below = one_level net r (get_or ns r 0) (suc below) (level r) at_r in
              lower (get_or from n None) (seen_of counting from row) at (k (omega arith)) (j (omega arith) (λ z. omega arith))
              (let (s, seen, _, _) = rows.seen_net net table counting levels from greatest W t h (suc row) row b (omega arith) (t.within row n feeds) named (λ z. omega arith) in (s, seen))
            where
              lower : (o seen : Option ℕ) → o ≡ Some m → IfSome o (λ f. IfSome seen (λ s. f ≤ s)) → IfSome seen (λ s. s ≤ r) → ((s : ℕ) × (seen ≡ Some s)) → ⊥
              lower None seen e a b c = cc
              lower (Some f) None e a b (s, c) = cc
              lower (Some f) (Some s) e a b c = let same : f ≡ m = some_same e in omega arith
