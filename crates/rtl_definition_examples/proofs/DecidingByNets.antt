-- A test of a netlist of which all is known: that these are its levels by nets.
use Rattle.std.proofs.Common.{◌≡◌, ◌≢◌, ℕ, zero, suc, ◌<◌, ◌≤◌, Bool, true, false, not, ◌&&◌, ◌||◌, ◌==◌, nat_lt, nat_le, cond, List, [], ◌∷◌, length, get_or, Option, Some, None, refl, sym, ap, ◌∙◌, subst, arith, ◌⊎◌, inl, inr, Contains, IsSome}
use Rattle.std.specs.List.{list_any}
use Rattle.std.specs.Option.{is_some}
use Rattle.std.proofs.lemmas.List.{get_or_past}
use Rattle.std.proofs.lemmas.List.Elements.{Contains-get_or}
use Rattle.std.proofs.lemmas.Bool.{and_parts, and_from, or_cases, not-true, eqb-true, ltb-true, leb-true, cases_Bool, cases_lt, cond-true, cond-false}
use Rattle.rtl_model.proofs.basics.Lists.{any_at, any_true, is_in, in_contains, contains_in, Contains-first, Contains-one, get_or_default}
use Rattle.rtl_model.proofs.basics.Chains.{one_length}
use Rattle.rtl_model.proofs.simulation.Faultless.{place_in_range}
use Rattle.rtl_model.proofs.simulation.NetLevels.{net_levels_are_shown}
use Rattle.rtl_model.specs.simulation.Netlist.{Netlist, Process, Reset, ProcessKind, Combinational, Clocked, Mixed, Edge, no_process, kind_reset, process, reset_entry, target, HasPlace, HasReset, IsCombinational, IsDriven}
use Rattle.rtl_model.specs.simulation.Accepted.{IsResetBy, LooksAt, HasNoNetLoop}
use Rattle.rtl_model.specs.simulation.NetLevels.{AreLevelsByNets, IsDerived, IsLevelByNets, IsNetLevel, MayActLater, ShowNetLevels}
use Rattle.rtl_definition_examples.proofs.Deciding.{all_below, below, all_in, contained}

abbrev is_driven : Netlist → ℕ → Bool
is_driven net n = list_any (λ (x : Process). is_in x.drives n) net.processes

-- whether a driver of such a process follows other nets, and which
abbrev follower : Netlist → ProcessKind → (place : ℕ) → Bool
follower net Combinational place = true
follower net (Clocked clock edge (Some r)) place = is_some (get_or r.entries place None) && is_driven net r.net
follower net (Clocked clock edge None) place = false
follower net Mixed place = false

abbrev followed : ProcessKind → (looks : List ℕ) → List ℕ
followed Combinational looks = looks
followed (Clocked clock edge (Some r)) looks = r.net ∷ []
followed (Clocked clock edge None) looks = []
followed Mixed looks = []

-- a driver's net has a level that is one more than the greatest of those followed, and else 0
abbrev level_fits : (nets : List ℕ) (level : ℕ) (others : List ℕ) → Bool
level_fits nets level others =
    nat_le 1 level && (all_in (λ m. nat_lt (get_or nets m 0) level) others && (level == 1 || list_any (λ m. suc (get_or nets m 0) == level) others))

abbrev driver_fits : Netlist → (nets : List ℕ) (p place : ℕ) → Bool
driver_fits net nets p place =
    cond (follower net (process net p).kind place)
    (level_fits nets (get_or nets (target net p place) 0) (followed (process net p).kind ((process net p).looks place)))
    (get_or nets (target net p place) 0 == 0)

abbrev process_fits : Netlist → (nets : List ℕ) (p : ℕ) → Bool
process_fits net nets p = all_below (driver_fits net nets p) (length (process net p).drives)

abbrev net_fits : Netlist → (nets : List ℕ) (n : ℕ) → Bool
net_fits net nets n = is_driven net n || get_or nets n 0 == 0

abbrev is_plain : ProcessKind → Bool
is_plain Combinational = true
is_plain (Clocked clock edge reset) = false
is_plain Mixed = false

abbrev is_later : Netlist → Process → Bool
is_later net x = is_plain x.kind || (is_some (kind_reset x.kind) && list_any (is_driven net) x.wakes)

abbrev option_fits : Netlist → (nets : List ℕ) → Process → Option ℕ → Bool
option_fits net nets x None = not (is_later net x)
option_fits net nets x (Some zero) = false
option_fits net nets x (Some (suc below)) =
    is_later net x && (all_in (λ n. nat_le (get_or nets n 0) below) x.wakes && (below == 0 || list_any (λ n. get_or nets n 0 == below) x.wakes))

abbrev nets_fit : Netlist → (nets : List ℕ) → Bool
nets_fit net nets = length nets == length net.start && (all_below (net_fits net nets) (length net.start) && all_below (process_fits net nets) (length net.processes))

-- the greatest of some levels
abbrev is_under : (greatest : ℕ) → Option ℕ → Bool
is_under greatest None = true
is_under greatest (Some v) = nat_le v greatest

abbrev is_just : (greatest : ℕ) → Option ℕ → Bool
is_just greatest None = false
is_just greatest (Some v) = v == greatest

abbrev is_greatest : (levels : List (Option ℕ)) (greatest : ℕ) → Bool
is_greatest levels greatest = all_in (is_under greatest) levels && (greatest == 0 || list_any (is_just greatest) levels)

abbrev pub levels_fit : Netlist → (levels : List (Option ℕ)) (nets : List ℕ) (greatest : ℕ) → Bool
levels_fit net levels nets greatest =
    (nets_fit net nets && is_greatest levels greatest)
    && (length levels == length net.processes && all_below (λ p. option_fits net nets (process net p) (get_or levels p None)) (length net.processes))

greatest_by : (levels : List (Option ℕ)) (greatest : ℕ) → is_greatest levels greatest ≡ true
    → ((p level : ℕ) → get_or levels p None ≡ Some level → level ≤ greatest) × (greatest ≢ 0 → (p : ℕ) × (get_or levels p None ≡ Some greatest))
greatest_by levels greatest T = (λ p level e. under p level e (cases_lt p (length levels)), λ h. just h (or_cases (greatest == 0) (list_any (is_just greatest) levels) halves.1))
  where
    halves : (all_in (is_under greatest) levels ≡ true) × ((greatest == 0 || list_any (is_just greatest) levels) ≡ true)
    halves = and_parts (all_in (is_under greatest) levels) (greatest == 0 || list_any (is_just greatest) levels) T

    under : (p level : ℕ) → get_or levels p None ≡ Some level → (p < length levels) ⊎ (length levels ≤ p) → level ≤ greatest
    under p level e (inl l) =
        let t = contained (is_under greatest) levels (get_or levels p None) halves.0 (Contains-get_or levels p None l) in
        leb-true level greatest (ap (is_under greatest) (sym e) ∙ t)
    under p level e (inr l) = let f = get_or_past levels p None l in cc

    value : (o : Option ℕ) → is_just greatest o ≡ true → o ≡ Some greatest
    value None t = cc
    value (Some v) t = ap (λ (n : ℕ). Some n) (eqb-true v greatest t)

    just : greatest ≢ 0 → ((greatest == 0) ≡ true) ⊎ (list_any (is_just greatest) levels ≡ true) → (p : ℕ) × (get_or levels p None ≡ Some greatest)
    just h (inl z) = absurd (h (eqb-true greatest 0 z))
    just h (inr any) = let (o, (k, l, at), t) = any_at (is_just greatest) levels any in (k, get_or_default levels k None o l ∙ at ∙ value o t)

module _ (net : Netlist) where
  driven_if : (n : ℕ) → is_driven net n ≡ true → IsDriven net n
  driven_if n e =
      let (x, (p, l, at), t) = any_at (λ (x : Process). is_in x.drives n) net.processes e in
      let is : process net p ≡ x = get_or_default net.processes p no_process x l ∙ at in
      let (place, h, d) = in_contains x.drives n t in
      (p, place, subst (λ (y : Process). place < length y.drives) (sym is) h, subst (λ (y : Process). get_or y.drives place 0 ≡ n) (sym is) (get_or_default x.drives place 0 n h ∙ d))

  if_driven : (n : ℕ) → IsDriven net n → is_driven net n ≡ true
  if_driven n (p, place, h, t) =
      any_true (λ (x : Process). is_in x.drives n) net.processes (process net p) (Contains-get_or net.processes p no_process (place_in_range net p place h))
      (contains_in (process net p).drives n (subst (λ (m : ℕ). Contains (process net p).drives m) t (Contains-get_or (process net p).drives place 0 h)))

  module _ (p place : ℕ) where
    if_reset : (m : ℕ) → IsResetBy net p place m → (follower net (process net p).kind place ≡ true) × Contains (followed (process net p).kind ((process net p).looks place)) m
    if_reset m (((r, has, at), driven), some) = go (process net p).kind has some
      where
        go : (k : ProcessKind) → kind_reset k ≡ Some r → IsSome (reset_entry (kind_reset k) place) → (follower net k place ≡ true) × Contains (followed k ((process net p).looks place)) m
        go (Clocked clock edge (Some x)) e s =
            let same : x.net ≡ m = cc in (
              and_from _ _ s (if_driven x.net (subst (λ (j : ℕ). IsDriven net j) (sym same) driven)),
              subst (λ (j : ℕ). Contains (x.net ∷ []) j) same (Contains-first x.net []),
            )
        go (Clocked clock edge None) e s = cc
        go Combinational e s = cc
        go Mixed e s = cc

    if_looks : (m : ℕ) → (IsCombinational net p × Contains ((process net p).looks place) m) ⊎ IsResetBy net p place m
        → (follower net (process net p).kind place ≡ true) × Contains (followed (process net p).kind ((process net p).looks place)) m
    if_looks m (inl (c, looks)) = (ap (λ (k : ProcessKind). follower net k place) c.1, subst (λ (k : ProcessKind). Contains (followed k ((process net p).looks place)) m) (sym c.1) looks)
    if_looks m (inr reset) = if_reset m reset

    if_derived : IsCombinational net p ⊎ ((m : ℕ) × IsResetBy net p place m) → follower net (process net p).kind place ≡ true
    if_derived (inl c) = ap (λ (k : ProcessKind). follower net k place) c.1
    if_derived (inr (m, reset)) = (if_reset m reset).0

    reset_if : (clock : ℕ) (edge : Edge) (r : Reset) → (process net p).kind ≡ Clocked clock edge (Some r) → follower net (Clocked clock edge (Some r)) place ≡ true → IsResetBy net p place r.net
    reset_if clock edge r e f =
        let (some, driven) = and_parts (is_some (get_or r.entries place None)) (is_driven net r.net) f in
        (((r, ap kind_reset e, refl), driven_if r.net driven), subst (λ (k : ProcessKind). IsSome (reset_entry (kind_reset k) place)) (sym e) some)

    derived_if : HasPlace net p place → follower net (process net p).kind place ≡ true → IsCombinational net p ⊎ ((m : ℕ) × IsResetBy net p place m)
    derived_if h = go (process net p).kind refl
      where
        go : (k : ProcessKind) → (process net p).kind ≡ k → follower net k place ≡ true → IsCombinational net p ⊎ ((m : ℕ) × IsResetBy net p place m)
        go Combinational e f = inl (place_in_range net p place h, e)
        go (Clocked clock edge (Some r)) e f = inr (r.net, reset_if clock edge r e f)
        go (Clocked clock edge None) e f = cc
        go Mixed e f = cc

    looks_if : (m : ℕ) → HasPlace net p place → follower net (process net p).kind place ≡ true → Contains (followed (process net p).kind ((process net p).looks place)) m
        → (IsCombinational net p × Contains ((process net p).looks place) m) ⊎ IsResetBy net p place m
    looks_if m h = go (process net p).kind refl
      where
        go : (k : ProcessKind) → (process net p).kind ≡ k → follower net k place ≡ true → Contains (followed k ((process net p).looks place)) m → (IsCombinational net p × Contains ((process net p).looks place) m) ⊎ IsResetBy net p place m
        go Combinational e f c = inl ((place_in_range net p place h, e), c)
        go (Clocked clock edge (Some r)) e f c = inr (subst (λ (j : ℕ). IsResetBy net p place j) (Contains-one r.net m c) (reset_if clock edge r e f))
        go (Clocked clock edge None) e f c = cc
        go Mixed e f c = cc

module _ (net : Netlist) (nets : List ℕ) (T : nets_fit net nets ≡ true) where
  abbrev level : ℕ → ℕ
  level n = get_or nets n 0

  long : length nets ≡ length net.start
  long = eqb-true _ _ (and_parts (length nets == length net.start) (all_below (net_fits net nets) (length net.start) && all_below (process_fits net nets) (length net.processes)) T).0

  halves : (all_below (net_fits net nets) (length net.start) ≡ true) × (all_below (process_fits net nets) (length net.processes) ≡ true)
  halves = and_parts (all_below (net_fits net nets) (length net.start)) (all_below (process_fits net nets) (length net.processes)) (and_parts (length nets == length net.start) (all_below (net_fits net nets) (length net.start) && all_below (process_fits net nets) (length net.processes)) T).1

  driver_at : (p place : ℕ) → HasPlace net p place → driver_fits net nets p place ≡ true
  driver_at p place h = below (driver_fits net nets p) (length (process net p).drives) place (below (process_fits net nets) (length net.processes) p halves.1 (place_in_range net p place h)) h

  others : (p place : ℕ) → List ℕ
  others p place = followed (process net p).kind ((process net p).looks place)

  follower_at : (p place : ℕ) → HasPlace net p place → follower net (process net p).kind place ≡ true
      → (1 ≤ level (target net p place)) × (all_in (λ m. nat_lt (level m) (level (target net p place))) (others p place) ≡ true)
      × ((level (target net p place) == 1 || list_any (λ m. suc (level m) == level (target net p place)) (others p place)) ≡ true)
  unfolding others
  follower_at p place h f =
      let fits = sym (cond-true _ _ _ f) ∙ driver_at p place h in
      let (a, b) = and_parts (nat_le 1 (level (target net p place))) (all_in (λ m. nat_lt (level m) (level (target net p place))) (others p place) && (level (target net p place) == 1 || list_any (λ m. suc (level m) == level (target net p place)) (others p place))) fits in
      let (c, d) = and_parts (all_in (λ m. nat_lt (level m) (level (target net p place))) (others p place)) (level (target net p place) == 1 || list_any (λ m. suc (level m) == level (target net p place)) (others p place)) b in
      (leb-true 1 (level (target net p place)) a, c, d)

  -- what has a level is driven, and follows others
  record Drives (n : ℕ) : Type 0 where
    p : ℕ
    place : ℕ
    has : HasPlace net p place
    is : target net p place ≡ n
    follows : follower net (process net p).kind place ≡ true

  drives : (n : ℕ) → level n ≢ 0 → Drives n
  drives n some = by_net (cases_lt n (length net.start))
    where
      by_driver : IsDriven net n → Drives n
      by_driver (p, place, h, t) = go (cases_Bool (follower net (process net p).kind place))
        where
          go : (follower net (process net p).kind place ≡ true) ⊎ (follower net (process net p).kind place ≡ false) → Drives n
          go (inl f) = record { p = p; place = place; has = h; is = t; follows = f }
          go (inr f) = absurd (some (ap level (sym t) ∙ eqb-true _ _ (sym (cond-false _ _ _ f) ∙ driver_at p place h)))

      by_net : (n < length net.start) ⊎ (length net.start ≤ n) → Drives n
      by_net (inr l) = absurd (some (get_or_past nets n 0 (omega (arith, long))))
      by_net (inl l) = go (or_cases (is_driven net n) (level n == 0) (below (net_fits net nets) (length net.start) n halves.0 l))
        where
          go : (is_driven net n ≡ true) ⊎ ((level n == 0) ≡ true) → Drives n
          go (inl d) = by_driver (driven_if net n d)
          go (inr z) = absurd (some (eqb-true _ _ z))

  shows : ShowNetLevels net nets
  unfolding others
  shows = record {
    rise = record {
      from_one = λ n (p, place, h, t, k). subst (λ (j : ℕ). 1 ≤ level j) t (follower_at p place h (if_derived net p place k)).0;
      along = λ m n l.
          let (f, c) = if_looks net l.driver l.place m l.looks in
          let low = contained (λ j. nat_lt (level j) (level (target net l.driver l.place))) (others l.driver l.place) m (follower_at l.driver l.place l.drives f).1 c in
          subst (λ (j : ℕ). level m < level j) l.net_is (ltb-true (level m) (level (target net l.driver l.place)) low);
    };
    derived = λ n some. let d = drives n some in (d.p, d.place, d.has, d.is, derived_if net d.p d.place d.has d.follows);
    from_below = from_below;
  }
    where
      from_below : (n under : ℕ) → level n ≡ suc (suc under) → (m : ℕ) × LooksAt net n m × (level m ≡ suc under)
      from_below n under e = go d.p d.place d.has d.is d.follows
        where
          d : Drives n
          d = drives n (λ z. omega arith)

          go : (p place : ℕ) → HasPlace net p place → target net p place ≡ n → follower net (process net p).kind place ≡ true → (m : ℕ) × LooksAt net n m × (level m ≡ suc under)
          go p place h t f = at (or_cases (level (target net p place) == 1) (list_any (λ m. suc (level m) == level (target net p place)) (others p place)) (follower_at p place h f).2)
            where
              at : ((level (target net p place) == 1) ≡ true) ⊎ (list_any (λ m. suc (level m) == level (target net p place)) (others p place) ≡ true) → (m : ℕ) × LooksAt net n m × (level m ≡ suc under)
              at (inl one) = let k = eqb-true _ _ one in let same = ap level t in absurd (omega arith)
              at (inr any) =
                  let (m, c, s) = any_at (λ m. suc (level m) == level (target net p place)) (others p place) any in
                  let k = eqb-true _ _ s in
                  let same = ap level t in
                  (m, record { driver = p; place = place; drives = h; net_is = t; looks = looks_if net p place m h f c }, omega arith)

  pub no_net_loop : HasNoNetLoop net
  no_net_loop = (net_levels_are_shown net nets).1 shows

  is_level : (n : ℕ) → IsNetLevel net n (level n)
  is_level = (net_levels_are_shown net nets).0.1 shows

  if_later : (p : ℕ) → MayActLater net p → is_later net (process net p) ≡ true
  if_later p (inl c) = ap (λ (k : ProcessKind). is_plain k || (is_some (kind_reset k) && list_any (is_driven net) (process net p).wakes)) c.1
  if_later p (inr ((reset, has), (n, w, driven))) = go (cases_Bool (is_plain (process net p).kind))
    where
      both : (is_some (kind_reset (process net p).kind) && list_any (is_driven net) (process net p).wakes) ≡ true
      both = and_from _ _ (ap is_some has) (any_true (is_driven net) (process net p).wakes n w (if_driven net n driven))

      go : (is_plain (process net p).kind ≡ true) ⊎ (is_plain (process net p).kind ≡ false) → is_later net (process net p) ≡ true
      go (inl e) = ap (λ b. b || (is_some (kind_reset (process net p).kind) && list_any (is_driven net) (process net p).wakes)) e
      go (inr e) = ap (λ b. b || (is_some (kind_reset (process net p).kind) && list_any (is_driven net) (process net p).wakes)) e ∙ both

  later_if : (p : ℕ) → p < length net.processes → is_later net (process net p) ≡ true → MayActLater net p
  later_if p l t = go (or_cases (is_plain (process net p).kind) (is_some (kind_reset (process net p).kind) && list_any (is_driven net) (process net p).wakes) t)
    where
      plain : (k : ProcessKind) → (process net p).kind ≡ k → is_plain k ≡ true → MayActLater net p
      plain Combinational e s = inl (l, e)
      plain (Clocked clock edge reset) e s = cc
      plain Mixed e s = cc

      reset : (o : Option Reset) → kind_reset (process net p).kind ≡ o → is_some o ≡ true → (r : Reset) × HasReset net p r
      reset None e s = cc
      reset (Some r) e s = (r, e)

      go : (is_plain (process net p).kind ≡ true) ⊎ ((is_some (kind_reset (process net p).kind) && list_any (is_driven net) (process net p).wakes) ≡ true) → MayActLater net p
      go (inl s) = plain (process net p).kind refl s
      go (inr s) =
          let (some, any) = and_parts (is_some (kind_reset (process net p).kind)) (list_any (is_driven net) (process net p).wakes) s in
          let (n, c, driven) = any_at (is_driven net) (process net p).wakes any in
          inr (reset (kind_reset (process net p).kind) refl some, (n, c, driven_if net n driven))

  option_is : (p : ℕ) → p < length net.processes → (o : Option ℕ) → option_fits net nets (process net p) o ≡ true → IsLevelByNets net p o
  option_is p l None t = λ later. let e = if_later p later in let f = not-true (is_later net (process net p)) t in cc
  option_is p l (Some zero) t = cc
  option_is p l (Some (suc under)) t =
      let (a, b) = and_parts (is_later net (process net p)) (all_in (λ n. nat_le (level n) under) (process net p).wakes && (under == 0 || list_any (λ n. level n == under) (process net p).wakes)) t in
      let (c, d) = and_parts (all_in (λ n. nat_le (level n) under) (process net p).wakes) (under == 0 || list_any (λ n. level n == under) (process net p).wakes) b in (
        later_if p l a,
        record {
          none_above = λ n other w is.
              let same = one_length (λ m n. LooksAt net n m) (IsDerived net) n (level n) other (is_level n) is in
              let le = leb-true (level n) under (contained (λ n. nat_le (level n) under) (process net p).wakes n c w) in
              omega arith;
          met = λ h. woken h (or_cases (under == 0) (list_any (λ n. level n == under) (process net p).wakes) d);
        },
      )
    where
      woken : under ≢ 0 → ((under == 0) ≡ true) ⊎ (list_any (λ n. level n == under) (process net p).wakes ≡ true) → (n : ℕ) × Contains (process net p).wakes n × IsNetLevel net n under
      woken h (inl z) = absurd (h (eqb-true _ _ z))
      woken h (inr any) =
          let (n, c, t) = any_at (λ n. level n == under) (process net p).wakes any in
          (n, c, subst (λ (k : ℕ). IsNetLevel net n k) (eqb-true _ _ t) (is_level n))

pub levels_by : (net : Netlist) (levels : List (Option ℕ)) (nets : List ℕ) (greatest : ℕ) → levels_fit net levels nets greatest ≡ true → AreLevelsByNets net levels nets greatest
levels_by net levels nets greatest T =
    let (first, b) = and_parts (nets_fit net nets && is_greatest levels greatest) (length levels == length net.processes && all_below (λ p. option_fits net nets (process net p) (get_or levels p None)) (length net.processes)) T in
    let (a, g) = and_parts (nets_fit net nets) (is_greatest levels greatest) first in
    let (c, d) = and_parts (length levels == length net.processes) (all_below (λ p. option_fits net nets (process net p) (get_or levels p None)) (length net.processes)) b in
    record {
      each_net = long net nets a;
      of_nets = λ n l. is_level net nets a n;
      each_process = eqb-true _ _ c;
      of_processes = λ p l. option_is net nets a p l (get_or levels p None) (below (λ p. option_fits net nets (process net p) (get_or levels p None)) (length net.processes) p d l);
      none_above = (greatest_by levels greatest g).0;
      met = (greatest_by levels greatest g).1;
    }
