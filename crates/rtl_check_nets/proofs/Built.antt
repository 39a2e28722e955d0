-- How the table of nets is built: its rows, one step at a time.
use Rattle.std.proofs.Common.{◌≡◌, ◌≢◌, ℕ, zero, suc, ◌+◌, ◌^◌, ◌<◌, ◌≤◌, ◌⊎◌, inl, inr, Bool, true, false, cond, ◌||◌, ◌==◌, List, [], ◌∷◌, ◌++◌, length, get_or, replicate, map, append_assoc, nat_lt, Option, Some, None, refl, sym, ap, subst, ◌∙◌, arith, Contains, All}
use Rattle.smallvec.specs.SmallVec.{SmallVec}
use Rattle.std.specs.Prelude.{IsSome, if◌then◌else◌}
use Rattle.std.proofs.lemmas.Bool.{cases_lt, cases_eq, cases_Bool, ltb-true, eqb-true, eq-eqb}
use Rattle.std.proofs.lemmas.List.{length_push}
use Rattle.rtl_looks.specs.declared.hubs.Look.{Look}
use Rattle.rtl_looks.specs.declared.hubs.Look.TheVariants as l
use Rattle.rtl_net.specs.declared.process.Driver.{Driver}
use Rattle.rtl_looks.specs.Denoting.{IsBelow, InOrderFrom, AreInOrder, look_at}
use Rattle.rtl_looks.specs.declared.hubs.Hub.{Hub}
use Rattle.rtl_check_levels.specs.Feeding.{Table, IsIn, feeders_of, listed}
use Rattle.rtl_check_nets.specs.declared.table.NetTable.{NetTable}
use Rattle.rtl_check_nets.specs.Building.{rows_at, fed_by, counts_at, hub_feeders, AddsDriver, AddsDrivers, AddsHubs, AddsRegisters, none, more}
use Rattle.rtl_body_facts.specs.Reading.{is_in}
use Rattle.rtl_body_facts.proofs.Members.{in_append}

-- ---- rows, one more at a time

pub none_feed : (rows : Table) (v : SmallVec ℕ) → v.items ≡ [] → ((row : ℕ) → feeders_of rows row ≡ []) → (row : ℕ) → feeders_of (rows ++ Some v ∷ []) row ≡ []
none_feed [] v e h zero = e
none_feed [] v e h (suc row) = refl
none_feed (x ∷ xs) v e h zero = h 0
none_feed (x ∷ xs) v e h (suc row) = none_feed xs v e (λ k. h (suc k)) row

pub all_in : (rows : Table) (v : SmallVec ℕ) → ((row : ℕ) → row < length rows → IsIn rows row) → (row : ℕ) → row < length (rows ++ Some v ∷ []) → IsIn (rows ++ Some v ∷ []) row
all_in [] v h zero k = refl
all_in [] v h (suc row) k = absurd (omega arith)
all_in (x ∷ xs) v h zero k = h 0 (omega arith)
all_in (x ∷ xs) v h (suc row) k = all_in xs v (λ r m. h (suc r) (omega arith)) row (omega arith)

pub none_counts : (n row : ℕ) → get_or (replicate {A = Bool} n false) row false ≡ false
none_counts zero row = refl
none_counts (suc n) zero = refl
none_counts (suc n) (suc row) = none_counts n row

-- ---- hubs

one_row : (r : ℕ) → r < 2 ^ 64 → All (λ r. r < 2 ^ 64) (r ∷ [])
one_row r l zero d h = l
one_row r l (suc k) d h = absurd (omega arith)

-- rows of looks that hubs in order have are small
pub few_rows : (nets number : ℕ) (look : Look) → IsBelow number look → nets + number ≤ 2 ^ 64 → nets < 2 ^ 64 → All (λ r. r < 2 ^ 64) (rows_at nets look)
few_rows nets number (l.Net net) below few one = go (cases_Bool (nat_lt net nets))
  where
    go : (nat_lt net nets ≡ true) ⊎ (nat_lt net nets ≡ false) → All (λ r. r < 2 ^ 64) (rows_at nets (l.Net net))
    go (inl e) = subst (λ (b : Bool). All (λ r. r < 2 ^ 64) (if b then (net ∷ []) else [])) (sym e) (one_row net (let k = ltb-true net nets e in omega arith))
    go (inr e) = subst (λ (b : Bool). All (λ r. r < 2 ^ 64) (if b then (net ∷ []) else [])) (sym e) (λ k d h. absurd (omega arith))
few_rows nets number (l.Hub hub) below few one = one_row (nets + hub) (omega arith)

-- ---- drivers, one after another

module _ (nets : ℕ) (looks : List (Option Look)) where
  pub still_each : (place : ℕ) (ds : List Driver) (old new : NetTable) → AddsDrivers nets looks place ds old new
      → (length new.rows.items ≡ length old.rows.items) × (length new.counts.items ≡ length old.counts.items)
  still_each place _ old new (none p t) = (refl, refl)
  still_each place _ old new (more p d ds o next n a rest) = let (e, f) = still_each (place + 1) ds next new rest in (e ∙ a.each, f ∙ a.each_count)

  pub still_there : (place : ℕ) (ds : List Driver) (old new : NetTable) → AddsDrivers nets looks place ds old new → (row : ℕ) → IsIn old.rows.items row → IsIn new.rows.items row
  still_there place _ old new (none p t) row i = i
  still_there place _ old new (more p d ds o next n a rest) row i = still_there (place + 1) ds next new rest row (go (cases_eq row d.net))
    where
      go : (row ≡ d.net) ⊎ (row ≢ d.net) → IsIn next.rows.items row
      go (inl same) = subst (IsIn next.rows.items) (sym same) a.there
      go (inr apart) = subst (λ (r : Option (SmallVec ℕ)). IsSome r) (sym (a.others row apart)) i

  -- a net that none of them drives
  pub untouched : (place : ℕ) (ds : List Driver) (old new : NetTable) → AddsDrivers nets looks place ds old new
      → (n : ℕ) → ((k : ℕ) (d : Driver) → k < length ds → (get_or ds k d).net ≡ n → ⊥)
      → (get_or new.rows.items n None ≡ get_or old.rows.items n None) × (counts_at new n ≡ counts_at old n)
  untouched place _ old new (none p t) n other = (refl, refl)
  untouched place _ old new (more p d ds o next m a rest) n other =
      let apart : n ≢ d.net = λ e. other 0 d (omega arith) (sym e) in
      let (e, f) = untouched (place + 1) ds next new rest n (λ k x h s. other (suc k) x (omega arith) s) in
      (e ∙ a.others n apart, f ∙ a.other_counts n apart)

  -- a net that one of them drives, and none behind it
  pub touched : (place : ℕ) (ds : List Driver) (old new : NetTable) → AddsDrivers nets looks place ds old new
      → (k : ℕ) (d : Driver) → k < length ds → ((j : ℕ) (x : Driver) → k < j → j < length ds → (get_or ds j x).net ≡ (get_or ds k d).net → ⊥)
      → IsIn new.rows.items (get_or ds k d).net × (feeders_of new.rows.items (get_or ds k d).net ≡ fed_by nets (look_at looks (place + k))) × (counts_at new (get_or ds k d).net ≡ true)
  touched place _ old new (none p t) k d h only = absurd (omega arith)
  touched place _ old new (more p x ds o next m a rest) zero d h only =
      let (e, f) = untouched (place + 1) ds next new rest x.net (λ j y i s. only (suc j) y (omega arith) (omega arith) s) in
      let here : place ≡ place + 0 = omega arith in (
        subst (λ (r : Option (SmallVec ℕ)). IsSome r) (sym e) a.there,
        ap listed e ∙ a.fed ∙ ap (λ (i : ℕ). fed_by nets (look_at looks i)) here,
        f ∙ a.counts,
      )
  touched place _ old new (more p x ds o next m a rest) (suc k) d h only =
      let (i, e, f) = touched (place + 1) ds next new rest k d (omega arith) (λ j y g u s. only (suc j) y (omega arith) (omega arith) s) in
      let here : place + 1 + k ≡ place + suc k = omega arith in
      (i, e ∙ ap (λ (i : ℕ). fed_by nets (look_at looks i)) here, f)

-- ---- registers, one more at a time

pub no_registers : (nets reset : ℕ) (t : NetTable) → AddsRegisters nets reset [] t t
no_registers nets reset t = record {
  each = refl;
  each_count = refl;
  there = λ row i. i;
  fed = λ n e. absurd cc;
  counts = λ n e. absurd cc;
  others = λ n e. refl;
  other_counts = λ n e. refl;
}

pub register_more : (nets reset x : ℕ) (these : List ℕ) (old mid new : NetTable) → AddsRegisters nets reset these old mid → AddsDriver nets x (Some (l.Net reset)) mid new
    → AddsRegisters nets reset (these ++ x ∷ []) old new
register_more nets reset x these old mid new a d = record {
  each = d.each ∙ a.each;
  each_count = d.each_count ∙ a.each_count;
  there = λ row i. there row i (cases_eq row x);
  fed = λ n e. fed n (cases_eq n x) (sym (in_append n these (x ∷ [])) ∙ e);
  counts = λ n e. counts n (cases_eq n x) (sym (in_append n these (x ∷ [])) ∙ e);
  others = λ n e. let (lacking, apart) = neither n (sym (in_append n these (x ∷ [])) ∙ e) in ap listed (d.others n apart) ∙ a.others n lacking;
  other_counts = λ n e. let (lacking, apart) = neither n (sym (in_append n these (x ∷ [])) ∙ e) in d.other_counts n apart ∙ a.other_counts n lacking;
}
  where
    there : (row : ℕ) → IsIn old.rows.items row → (row ≡ x) ⊎ (row ≢ x) → IsIn new.rows.items row
    there row i (inl same) = subst (IsIn new.rows.items) (sym same) d.there
    there row i (inr apart) = subst (λ (r : Option (SmallVec ℕ)). IsSome r) (sym (d.others row apart)) (a.there row i)

    earlier : (n : ℕ) → n ≢ x → (is_in n these || (x == n || false)) ≡ true → is_in n these ≡ true
    earlier n apart e = go (is_in n these) (x == n) refl e
      where
        go : (b c : Bool) → (x == n) ≡ c → (b || (c || false)) ≡ true → b ≡ true
        go true c f t = refl
        go false true f t = absurd (apart (sym (eqb-true x n f)))
        go false false f t = t

    fed : (n : ℕ) → (n ≡ x) ⊎ (n ≢ x) → (is_in n these || (x == n || false)) ≡ true → feeders_of new.rows.items n ≡ fed_by nets (Some (l.Net reset))
    fed n (inl same) e = ap (feeders_of new.rows.items) same ∙ d.fed
    fed n (inr apart) e = ap listed (d.others n apart) ∙ a.fed n (earlier n apart e)

    counts : (n : ℕ) → (n ≡ x) ⊎ (n ≢ x) → (is_in n these || (x == n || false)) ≡ true → counts_at new n ≡ true
    counts n (inl same) e = ap (counts_at new) same ∙ d.counts
    counts n (inr apart) e = d.other_counts n apart ∙ a.counts n (earlier n apart e)

    neither : (n : ℕ) → (is_in n these || (x == n || false)) ≡ false → (is_in n these ≡ false) × (n ≢ x)
    neither n e = go (is_in n these) (x == n) refl refl e
      where
        go : (b c : Bool) → is_in n these ≡ b → (x == n) ≡ c → (b || (c || false)) ≡ false → (is_in n these ≡ false) × (n ≢ x)
        go true c f g t = absurd cc
        go false true f g t = absurd cc
        go false false f g t = (f, λ s. let k : true ≡ false = sym (eq-eqb x n (sym s)) ∙ g in cc)

-- ---- hubs, one more at a time

module _ (nets : ℕ) where
  paired : (hubs : List Hub) (rows : Table) (hub : Hub) (v : SmallVec ℕ) → length rows ≡ length hubs → v.items ≡ hub_feeders nets hub
      → ((k : ℕ) (h : Hub) → get_or (map Some hubs) k None ≡ Some h → IsIn rows k × (feeders_of rows k ≡ hub_feeders nets h))
      → (k : ℕ) (h : Hub) → get_or (map Some (hubs ++ hub ∷ [])) k None ≡ Some h → IsIn (rows ++ Some v ∷ []) k × (feeders_of (rows ++ Some v ∷ []) k ≡ hub_feeders nets h)
  paired [] [] hub v n e f zero h is = let s : hub ≡ h = one_hub is in (refl, e ∙ ap (hub_feeders nets) s)
    where
      one_hub : {a b : Hub} → Some a ≡ Some b → a ≡ b
      one_hub e = cc
  paired [] [] hub v n e f (suc k) h is = absurd cc
  paired [] (x ∷ xs) hub v n e f k h is = absurd (omega arith)
  paired (y ∷ ys) [] hub v n e f k h is = absurd (omega arith)
  paired (y ∷ ys) (x ∷ xs) hub v n e f zero h is = f 0 h is
  paired (y ∷ ys) (x ∷ xs) hub v n e f (suc k) h is = paired ys xs hub v (omega arith) e (λ j g s. f (suc j) g s) k h is

  pub hub_more : (hubs : List Hub) (hub : Hub) (v : SmallVec ℕ) (old mid new : NetTable) → AddsHubs nets hubs old mid → v.items ≡ hub_feeders nets hub
      → new.rows.items ≡ mid.rows.items ++ Some v ∷ [] → new.counts ≡ mid.counts → AddsHubs nets (hubs ++ hub ∷ []) old new
  hub_more hubs hub v old mid new a e grown same = record {
    rows = a.rows ++ Some v ∷ [];
    are = grown ∙ ap (λ (xs : Table). xs ++ Some v ∷ []) a.are ∙ append_assoc old.rows.items a.rows (Some v ∷ []);
    each = (let k = length_push a.rows (Some v) in let j = length_push hubs hub in let n = a.each in omega arith);
    fed = paired hubs a.rows hub v a.each e a.fed;
    counts = same ∙ a.counts;
  }

in_order : (number : ℕ) (hubs : List Hub) → InOrderFrom number hubs → (k : ℕ) (d : Hub) → k < length hubs → IsBelow (number + k) (get_or hubs k d).left × IsBelow (number + k) (get_or hubs k d).right
in_order number [] o k d h = absurd (omega arith)
in_order number (x ∷ xs) (a, b, o) zero d h = (subst (λ (n : ℕ). IsBelow n x.left) same a, subst (λ (n : ℕ). IsBelow n x.right) same b)
  where
    same : number ≡ number + 0
    same = omega arith
in_order number (x ∷ xs) (a, b, o) (suc k) d h =
    let same : number + 1 + k ≡ number + suc k = omega arith in
    subst (λ (n : ℕ). IsBelow n (get_or xs k d).left × IsBelow n (get_or xs k d).right) same (in_order (number + 1) xs o k d (omega arith))

pub hub_below : (hubs : List Hub) → AreInOrder hubs → (k : ℕ) (d : Hub) → k < length hubs → IsBelow k (get_or hubs k d).left × IsBelow k (get_or hubs k d).right
hub_below hubs o k d h =
    let same : 0 + k ≡ k = omega arith in
    subst (λ (n : ℕ). IsBelow n (get_or hubs k d).left × IsBelow n (get_or hubs k d).right) same (in_order 0 hubs o k d h)
