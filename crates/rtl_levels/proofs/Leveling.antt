-- Levels of nets, taken from the processes that drive them.
use Rattle.std.proofs.Common.{◌≡◌, ◌≢◌, ℕ, zero, suc, ◌+◌, ◌<◌, ◌≤◌, List, [], ◌∷◌, ◌++◌, length, get_or, set, replicate, Option, Some, None, refl, sym, ap, subst, ◌∙◌, arith, ◌⊎◌, inl, inr, All, Contains, IsSome}
use Rattle.std.proofs.lemmas.Bool.{cases_eq, cases_lt}
use Rattle.std.proofs.lemmas.List.{get_or_default, get_or_past, get_or-replicate, get_or-set_other, get_or-set_same, length-map, length-replicate, length-set}
use Rattle.std.proofs.lemmas.List.Elements.{Contains-append_left, Contains-get_or, Contains-push, Contains-push_cases}
use Rattle.rtl_model.proofs.basics.Lists.{Contains-none}
use Rattle.rtl_model.specs.simulation.Netlist.{Netlist, Edge, process, target, HasPlace, IsCombinational, IsClockedBy}
use Rattle.rtl_model.specs.simulation.Accepted.{Feeds, IsAccepted, IsByNets, IsResetBy}
use Rattle.rtl_model.specs.simulation.Elaborated.{IsElaborated}
use Rattle.rtl_model.specs.simulation.Levels.{AreLevels, IsLevel}
use Rattle.rtl_model.proofs.simulation.Faultless.{faultless, kinds_below}
use Rattle.rtl_model.specs.simulation.NetLevels.{IsDerived}
use Rattle.rtl_model.proofs.simulation.Levels.{numbered, outer_resets}
use Rattle.rtl_kernel.specs.drivers.Transactions.{nets_of}
use Rattle.rtl_kernel.proofs.Updating.{net_at}
use Rattle.rtl_net.specs.declared.process.Driver.{Driver}
use Rattle.rtl_levels.specs.Scheduled.{GetLevel}
use Rattle.rtl_levels.specs.Visits.{AreNetLevels}
use Rattle.rtl_levels.proofs.Settling.{one_process}

some_same : {a b : ℕ} → Some a ≡ Some b → a ≡ b
some_same e = cc

pub all_same : {A : Type 0} (many n : ℕ) (a : A) → get_or (replicate many a) n a ≡ a
all_same many n a = by (cases_lt n many)
  where
    by : (n < many) ⊎ (many ≤ n) → get_or (replicate many a) n a ≡ a
    by (inl l) = get_or-replicate many n a a l
    by (inr past) = get_or_past (replicate many a) n a (rw length-replicate past)

-- what a process feeds is above it
level_above : (net : Netlist) (p q a b : ℕ) → Feeds net p q → IsLevel net p a → IsLevel net q b → a < b
level_above net p q zero b f x y = absurd x.reached
level_above net p q (suc n) b f x y = let h = y.longest (suc (suc n)) (p, x.reached, f) in omega arith

-- ---- the nets of one process

abbrev pub no_driver : Driver
no_driver = record { net = 0; start = 0 }

-- what is so of all drivers' nets is of each
pub net_among : (P : ℕ → Type 0) (drives : List Driver) (i : ℕ) → All P (nets_of drives) → i < length drives → P (get_or drives i no_driver).net
net_among P drives i all l = subst P (net_at drives i no_driver l) (all i 0 (rw length-map l))

pub get_none : (level : ℕ) (nets : List ℕ) → GetLevel [] level nets nets
get_none level nets = record { as_many = refl; given = λ n c. absurd (Contains-none n c); no_other = λ n. inl refl }

pub get_more : (ts : List ℕ) (n level : ℕ) (old now : List ℕ) → n < length now → GetLevel ts level old now → GetLevel (ts ++ n ∷ []) level old (set now n level)
get_more ts n level old now there G = record {
  as_many = length-set now n level ∙ G.as_many;
  given = λ m c. given m (Contains-push_cases ts n m c) (cases_eq m n);
  no_other = λ m. other m (cases_eq m n) (G.no_other m);
}
  where
    here : (m : ℕ) → m ≡ n → get_or (set now n level) m 0 ≡ level
    here m e = ap (λ (k : ℕ). get_or (set now n level) k 0) e ∙ get_or-set_same now n level 0 there

    given : (m : ℕ) → Contains ts m ⊎ (n ≡ m) → (m ≡ n) ⊎ (m ≡ n → ⊥) → get_or (set now n level) m 0 ≡ level
    given m _ (inl e) = here m e
    given m (inl c) (inr ne) = get_or-set_other now n m level 0 ne ∙ G.given m c
    given m (inr e) (inr ne) = absurd (ne (sym e))

    other : (m : ℕ) → (m ≡ n) ⊎ (m ≡ n → ⊥) → (get_or now m 0 ≡ get_or old m 0) ⊎ Contains ts m → (get_or (set now n level) m 0 ≡ get_or old m 0) ⊎ Contains (ts ++ n ∷ []) m
    other m (inl e) _ = inr (subst (λ (k : ℕ). Contains (ts ++ n ∷ []) k) (sym e) (Contains-push ts n))
    other m (inr ne) (inl same) = inl (get_or-set_other now n m level 0 ne ∙ same)
    other m (inr ne) (inr c) = inr (Contains-append_left ts (n ∷ []) m c)

-- ---- of all processes

-- a driver of p at this place drives the net n, and p has this level
pub record IsFromProcess (net : Netlist) (levels : List (Option ℕ)) (n level : ℕ) : Type 0 where
  pub p : ℕ
  pub place : ℕ
  pub drives : HasPlace net p place
  pub is : target net p place ≡ n
  pub has : get_or levels p None ≡ Some level

-- nets that the first so many processes drive have their levels, and all others 0
pub record AreLevelsTo (net : Netlist) (levels : List (Option ℕ)) (many : ℕ) (nets : List ℕ) : Type 0 where
  pub each_net : length nets ≡ length net.start
  pub each : (p place level : ℕ) → p < many → HasPlace net p place → get_or levels p None ≡ Some level → get_or nets (target net p place) 0 ≡ level
  pub no_other : (n : ℕ) → (get_or nets n 0 ≡ 0) ⊎ IsFromProcess net levels n (get_or nets n 0)

module _ (net : Netlist) (E : IsElaborated net) (A : IsAccepted net) (levels : List (Option ℕ)) where
  pub levels_none : (nets : List ℕ) → length nets ≡ length net.start → ((n : ℕ) → get_or nets n 0 ≡ 0) → AreLevelsTo net levels 0 nets
  levels_none nets each_net all = record { each_net = each_net; each = λ p place level l. absurd (omega (arith, l)); no_other = λ n. inl (all n) }

  module _ (i : ℕ) (nets : List ℕ) (T : AreLevelsTo net levels i nets) where
    pub levels_skip : get_or levels i None ≡ None → AreLevelsTo net levels (i + 1) nets
    levels_skip none = record { each_net = T.each_net; each = λ p place level l h e. by p place level l h e (cases_lt p i); no_other = T.no_other }
      where
        by : (p place level : ℕ) → p < i + 1 → HasPlace net p place → get_or levels p None ≡ Some level → (p < i) ⊎ (i ≤ p) → get_or nets (target net p place) 0 ≡ level
        by p place level l h e (inl less) = T.each p place level less h e
        by p place level l h e (inr le) = let is : p ≡ i = omega (arith, l, le) in let f = rw is at e in cc

    pub levels_more : (level : ℕ) → get_or levels i None ≡ Some level → (nets' : List ℕ) → GetLevel (process net i).drives level nets nets' → AreLevelsTo net levels (i + 1) nets'
    levels_more level some nets' G = record {
      each_net = G.as_many ∙ T.each_net;
      each = λ p place n l h e. each p place n l h e (cases_lt p i);
      no_other = λ n. other n (G.no_other n);
    }
      where
        driven : (n : ℕ) → Contains (process net i).drives n → (place : ℕ) × HasPlace net i place × (target net i place ≡ n)
        driven n (place, l, is) = (place, l, get_or_default (process net i).drives place 0 n l ∙ is)

        stays : (p place n : ℕ) → p < i → HasPlace net p place → get_or levels p None ≡ Some n
            → (get_or nets' (target net p place) 0 ≡ get_or nets (target net p place) 0) ⊎ Contains (process net i).drives (target net p place) → get_or nets' (target net p place) 0 ≡ n
        stays p place n less h e (inl same) = same ∙ T.each p place n less h e
        stays p place n less h e (inr c) =
            let (at, has, t) = driven (target net p place) c in
            let is : p ≡ i = one_process net (numbered net E A) i p at place has h t in
            absurd (omega (arith, is, less))

        each : (p place n : ℕ) → p < i + 1 → HasPlace net p place → get_or levels p None ≡ Some n → (p < i) ⊎ (i ≤ p) → get_or nets' (target net p place) 0 ≡ n
        each p place n l h e (inl less) = stays p place n less h e (G.no_other (target net p place))
        each p place n l h e (inr le) =
            let is : p ≡ i = omega (arith, l, le) in
            let at = subst (λ (q : ℕ). Contains (process net q).drives (target net p place)) is (Contains-get_or (process net p).drives place 0 h) in
            G.given (target net p place) at ∙ some_same (sym some ∙ ap (λ (q : ℕ). get_or levels q None) (sym is) ∙ e)

        kept : (n : ℕ) → get_or nets' n 0 ≡ get_or nets n 0 → (get_or nets n 0 ≡ 0) ⊎ IsFromProcess net levels n (get_or nets n 0) → (get_or nets' n 0 ≡ 0) ⊎ IsFromProcess net levels n (get_or nets' n 0)
        kept n same (inl none) = inl (same ∙ none)
        kept n same (inr f) = inr (subst (λ (x : ℕ). IsFromProcess net levels n x) (sym same) f)

        other : (n : ℕ) → (get_or nets' n 0 ≡ get_or nets n 0) ⊎ Contains (process net i).drives n → (get_or nets' n 0 ≡ 0) ⊎ IsFromProcess net levels n (get_or nets' n 0)
        other n (inl same) = kept n same (T.no_other n)
        other n (inr c) =
            let (place, h, t) = driven n c in
            inr (record { p = i; place = place; drives = h; is = t; has = some ∙ ap (λ (x : ℕ). Some x) (sym (G.given n c)) })

  module _ (greatest : ℕ) (V : AreLevels net levels greatest) where
    has_level : (p : ℕ) → IsSome (get_or levels p None) → IsCombinational net p
    has_level p some = by (cases_lt p (length levels))
      where
        kind : IsCombinational net p ⊎ ((clock : ℕ) × (edge : Edge) × IsClockedBy net p clock edge) → IsCombinational net p
        kind (inl c) = c
        kind (inr (clock, edge, is)) = let e = V.clocked p clock edge is in cc

        by : (p < length levels) ⊎ (length levels ≤ p) → IsCombinational net p
        by (inl l) = kind (kinds_below net (faultless net A) p (rw (← V.each_process) l))
        by (inr l) = let e = get_or_past levels p None l in cc

    module _ (many : ℕ) (done : length net.processes ≤ many) (nets : List ℕ) (T : AreLevelsTo net levels many nets) where
      level_is : (p place : ℕ) (c : IsCombinational net p) → HasPlace net p place → get_or nets (target net p place) 0 ≡ (V.combinational p c).0
      level_is p place c h = T.each p place (V.combinational p c).0 (omega (arith, c.0, done)) h (V.combinational p c).1

      from_one : (p place : ℕ) → IsCombinational net p → HasPlace net p place → 1 ≤ get_or nets (target net p place) 0
      from_one p place c h = rw (level_is p place c h) ((V.combinational p c).2.longest 1 c)

      rise : (p place n : ℕ) → IsCombinational net p → HasPlace net p place → Contains ((process net p).looks place) n → get_or nets n 0 < get_or nets (target net p place) 0
      rise p place n c h looks = by (T.no_other n)
        where
          by : (get_or nets n 0 ≡ 0) ⊎ IsFromProcess net levels n (get_or nets n 0) → get_or nets n 0 < get_or nets (target net p place) 0
          by (inl none) = let one = from_one p place c h in omega (arith, none, one)
          by (inr f) =
              let q = f.p in
              let cq = has_level q (rw (f.has) refl) in
              let wakes = (faultless net A).reads_wake p n c (E.bodies.looks_are_read p place n looks) in
              let feeds : Feeds net q p = record { feeder = cq; fed = c; place = f.place; drives = f.drives; wakes = subst (λ (m : ℕ). Contains (process net p).wakes m) (sym f.is) wakes } in
              let less = level_above net q p (V.combinational q cq).0 (V.combinational p c).0 feeds (V.combinational q cq).2 (V.combinational p c).2 in
              let low : get_or nets n 0 ≡ (V.combinational q cq).0 = some_same (sym f.has ∙ (V.combinational q cq).1) in
              let high = level_is p place c h in
              omega (arith, less, low, high)

      pub net_levels : (IsByNets net → ⊥) → AreNetLevels net nets
      net_levels by_processes = record {
        each_net = T.each_net;
        rise = record {
          from_one = λ n (p, place, h, t, d). subst (λ (m : ℕ). 1 ≤ get_or nets m 0) t (from_one p place (combinational p place d) h);
          along = λ m n l. subst (λ (k : ℕ). get_or nets m 0 < get_or nets k 0) l.net_is (along m l.driver l.place l.drives l.looks);
        };
        derived = λ n some. derived n some (T.no_other n);
      }
        where
          outer : (p place n : ℕ) → IsResetBy net p place n → ⊥
          outer p place n R = outer_resets net E by_processes p n R.0

          combinational : (p place : ℕ) → IsCombinational net p ⊎ ((n : ℕ) × IsResetBy net p place n) → IsCombinational net p
          combinational p place (inl c) = c
          combinational p place (inr (n, R)) = absurd (outer p place n R)

          along : (m p place : ℕ) → HasPlace net p place → (IsCombinational net p × Contains ((process net p).looks place) m) ⊎ IsResetBy net p place m → get_or nets m 0 < get_or nets (target net p place) 0
          along m p place h (inl (c, looks)) = rise p place m c h looks
          along m p place h (inr R) = absurd (outer p place m R)

          derived : (n : ℕ) → get_or nets n 0 ≢ 0 → (get_or nets n 0 ≡ 0) ⊎ IsFromProcess net levels n (get_or nets n 0) → IsDerived net n
          derived n some (inl none) = absurd (some none)
          derived n some (inr f) = (f.p, f.place, f.drives, f.is, inl (has_level f.p (rw (f.has) refl)))
