-- Signals by scope: what a stable sort gives, what is among them, and that they stand in order.
use Rattle.std.proofs.Common.{◌≡◌, ℕ, zero, suc, ◌+◌, ◌<◌, ◌≤◌, ◌⊎◌, inl, inr, Bool, true, false, ◌==◌, cond, List, [], ◌∷◌, ◌++◌, length, map, flat_map, get_or, filter, All, AllPairs, Contains, refl, sym, ap, ◌∙◌, subst, arith}
use Rattle.std.specs.Prelude.{not, ◌&&◌}
use Rattle.std.specs.Cmp.{ranks}
use Rattle.std.specs.Ordering.{is_lt, nat_cmp, MatchOrdering}
use Rattle.std.specs.declared.cmp.Ordering.{Ordering}
use Rattle.std.specs.declared.cmp.Ordering.TheVariants.{Less, Equal, Greater}
use Rattle.std.specs.List.{range_with_len}
use Rattle.std.specs.List.Sorted.{IsNonDecreasingBy, IsStableByKey}
use Rattle.std.proofs.lemmas.Bool.{cases_eq, eq-eqb}
use Rattle.std.proofs.lemmas.Bool.Decides.{nat_tests}
use Rattle.std.proofs.lemmas.List.Elements.{All-nil, All-cons, All-head, All-tail, All-append, All-filter, All-contains, All-weaker, Contains-append_left, Contains-append_right, filter-append, filter_agree, filter_passes}
use Rattle.std.proofs.lemmas.List.Kept.{AllPairs-cons, AllPairs-filter}
use Rattle.rtl_net.specs.declared.signal.Signal.{Signal}
use Rattle.rtl_net.specs.Nets.{SignalView, signal_view}
use Rattle.rtl_net.specs.Elaborated.{ComesBefore}
use Rattle.rtl_keeping.specs.Kept.{by_scope}

abbrev pub in_scope : List SignalView → (k : ℕ) → List SignalView
in_scope ss k = filter (λ (s : SignalView). s.scope == k) ss

-- those of so many scopes from this one on
abbrev pub from_scope : List SignalView → (a n : ℕ) → List SignalView
from_scope ss a n = flat_map (in_scope ss) (range_with_len a n)

-- ---- what is among them

pub all_from : (P : SignalView → Type 0) (ss : List SignalView) (a n : ℕ) → All P ss → All P (from_scope ss a n)
all_from P ss a zero h = All-nil P
all_from P ss a (suc n) h = All-append P (in_scope ss a) (from_scope ss (a + 1) n) (All-filter (λ (s : SignalView). s.scope == a) P ss h) (all_from P ss (a + 1) n h)

-- of scopes from this one on
pub scopes_from : (ss : List SignalView) (a n : ℕ) → All (λ (s : SignalView). a ≤ s.scope) (from_scope ss a n)
scopes_from ss a zero = All-nil (λ (s : SignalView). a ≤ s.scope)
scopes_from ss a (suc n) =
    All-append (λ (s : SignalView). a ≤ s.scope) (in_scope ss a) (from_scope ss (a + 1) n)
    (All-weaker (λ (s : SignalView). (s.scope == a) ≡ true) (λ (s : SignalView). a ≤ s.scope) (λ s h. grind (arith, nat_tests, h)) (in_scope ss a) (filter_passes (λ (s : SignalView). s.scope == a) ss))
    (All-weaker (λ (s : SignalView). a + 1 ≤ s.scope) (λ (s : SignalView). a ≤ s.scope) (λ s h. omega (arith, h)) (from_scope ss (a + 1) n) (scopes_from ss (a + 1) n))

none_contained : {X : Type 0} (x : X) → Contains [] x → ⊥
none_contained x (k, l, is) = absurd (omega (arith, l))

first_or_later : {X : Type 0} (y : X) (xs : List X) (x : X) → Contains (y ∷ xs) x → (y ≡ x) ⊎ Contains xs x
first_or_later y xs x (zero, l, is) = inl is
first_or_later y xs x (suc k, l, is) = inr (k, omega (arith, l), is)

contained_filter : (p : SignalView → Bool) (ss : List SignalView) (s : SignalView) → Contains ss s → p s ≡ true → Contains (filter p ss) s
contained_filter p [] s c h = absurd (none_contained s c)
contained_filter p (x ∷ ss) s c h = by (p x) refl (first_or_later x ss s c) (λ d. contained_filter p ss s d h)
  where
    by : (b : Bool) → p x ≡ b → (x ≡ s) ⊎ Contains ss s → (Contains ss s → Contains (filter p ss) s) → Contains (cond b (x ∷ filter p ss) (filter p ss)) s
    by true e (inl same) more = (0, omega arith, same)
    by true e (inr d) more = Contains-append_right (x ∷ []) (filter p ss) s (more d)
    by false e (inl same) more = let t = sym e ∙ ap p same ∙ h in absurd cc
    by false e (inr d) more = more d

pub contained_from : (ss : List SignalView) (s : SignalView) (a n : ℕ) → Contains ss s → a ≤ s.scope → s.scope < a + n → Contains (from_scope ss a n) s
contained_from ss s a zero c l m = absurd (omega (arith, l, m))
contained_from ss s a (suc n) c l m = by (cases_eq s.scope a) (λ g. contained_from ss s (a + 1) n c g (omega (arith, m)))
  where
    by : (s.scope ≡ a) ⊎ (s.scope ≡ a → ⊥) → (a + 1 ≤ s.scope → Contains (from_scope ss (a + 1) n) s) → Contains (in_scope ss a ++ from_scope ss (a + 1) n) s
    by (inl e) more = Contains-append_left (in_scope ss a) (from_scope ss (a + 1) n) s (contained_filter (λ (x : SignalView). x.scope == a) ss s c (eq-eqb s.scope a e))
    by (inr other) more = Contains-append_right (in_scope ss a) (from_scope ss (a + 1) n) s (more (grind (arith, l, other)))

-- ---- in order

pairs_append : {X : Type 0} (R : X → X → Type 0) (xs ys : List X) → AllPairs R xs → AllPairs R ys → All (λ x. All (R x) ys) xs → AllPairs R (xs ++ ys)
pairs_append R [] ys h g c = g
pairs_append {X} R (x ∷ xs) ys h g c =
    AllPairs-cons R x (xs ++ ys)
    (All-append (R x) xs ys (λ k d l. h 0 (suc k) d (omega arith) (omega (arith, l))) (All-head (λ z. All (R z) ys) x xs c))
    (pairs_append R xs ys (λ i j d lt l. h (suc i) (suc j) d (omega (arith, lt)) (omega (arith, l))) g (All-tail (λ z. All (R z) ys) x xs c))

-- signals in order, and others that are no ports behind them
module _ (old more : List SignalView) (order : AllPairs ComesBefore old) (inner : All (λ (s : SignalView). s.port ≡ false) more) where
  -- t is of the same scope and no port
  behind : (a : ℕ) (s t : SignalView) → (s.scope == a) ≡ true → ((t.scope == a) ≡ true) × (t.port ≡ false) → ComesBefore s t
  behind a s t e (f, none) = inr (grind (arith, nat_tests, e, f), λ is. (let both = sym none ∙ is in absurd cc))

  others : (a : ℕ) → All (λ (t : SignalView). ((t.scope == a) ≡ true) × (t.port ≡ false)) (in_scope more a)
  others a = λ k d l. (filter_passes (λ (t : SignalView). t.scope == a) more k d l, All-filter (λ (t : SignalView). t.scope == a) (λ (s : SignalView). s.port ≡ false) more inner k d l)

  one_scope : (a : ℕ) → AllPairs ComesBefore (in_scope (old ++ more) a)
  one_scope a =
      subst (AllPairs ComesBefore) (sym (filter-append (λ (t : SignalView). t.scope == a) old more))
      (pairs_append ComesBefore (in_scope old a) (in_scope more a)
      (AllPairs-filter ComesBefore (λ (t : SignalView). t.scope == a) old order)
      (λ i j d lt l. behind a (get_or (in_scope more a) i d) (get_or (in_scope more a) j d) ((others a i d (omega (arith, lt, l))).0) (others a j d l))
      (All-weaker (λ (s : SignalView). (s.scope == a) ≡ true) (λ (s : SignalView). All (ComesBefore s) (in_scope more a))
      (λ s e. All-weaker (λ (t : SignalView). ((t.scope == a) ≡ true) × (t.port ≡ false)) (ComesBefore s) (λ t f. behind a s t e f) (in_scope more a) (others a))
      (in_scope old a) (filter_passes (λ (t : SignalView). t.scope == a) old)))

  pub in_order_from : (a n : ℕ) → AllPairs ComesBefore (from_scope (old ++ more) a n)
  in_order_from a zero = λ i j d lt l. absurd (omega (arith, l))
  in_order_from a (suc n) =
      pairs_append ComesBefore (in_scope (old ++ more) a) (from_scope (old ++ more) (a + 1) n) (one_scope a) (in_order_from (a + 1) n)
      (All-weaker (λ (s : SignalView). (s.scope == a) ≡ true) (λ (s : SignalView). All (ComesBefore s) (from_scope (old ++ more) (a + 1) n))
      (λ s e. All-weaker (λ (t : SignalView). a + 1 ≤ t.scope) (ComesBefore s) (λ t l. inl (grind (arith, nat_tests, e, l))) (from_scope (old ++ more) (a + 1) n) (scopes_from (old ++ more) (a + 1) n))
      (in_scope (old ++ more) a) (filter_passes (λ (t : SignalView). t.scope == a) (old ++ more)))

-- ---- sorted

-- all of these scopes, rising
abbrev pub StandRising : (a n : ℕ) → List SignalView → Type 0
StandRising a n [] = Unit {0}
StandRising a n (s ∷ ss) = (a ≤ s.scope) × (s.scope < a + n) × All (λ (t : SignalView). s.scope ≤ t.scope) ss × StandRising a n ss

-- a first signal of no later scope is none of those
without : (s : SignalView) (ss : List SignalView) (a n : ℕ) → s.scope < a → from_scope (s ∷ ss) a n ≡ from_scope ss a n
without s ss a zero l = refl
without s ss a (suc n) l =
    let other : (s.scope == a) ≡ false = grind (arith, nat_tests, l) in
    λ i. cond (other i) (s ∷ in_scope ss a) (in_scope ss a) ++ without s ss (a + 1) n (omega (arith, l)) i

none_in : (ss : List SignalView) (a : ℕ) → All (λ (s : SignalView). a + 1 ≤ s.scope) ss → in_scope ss a ≡ []
none_in [] a h = refl
none_in (s ∷ ss) a h =
    let l = All-head (λ (t : SignalView). a + 1 ≤ t.scope) s ss h in
    let other : (s.scope == a) ≡ false = grind (arith, nat_tests, l) in
    ap (λ b. cond b (s ∷ in_scope ss a) (in_scope ss a)) other ∙ none_in ss a (All-tail (λ (t : SignalView). a + 1 ≤ t.scope) s ss h)

none_of : (a n : ℕ) → from_scope [] a n ≡ []
none_of a zero = refl
none_of a (suc n) = none_of (a + 1) n

later_rising : (a n : ℕ) (ss : List SignalView) → StandRising a (suc n) ss → All (λ (t : SignalView). a + 1 ≤ t.scope) ss → StandRising (a + 1) n ss
later_rising a n [] h l = tt
later_rising a n (s ∷ ss) h l =
    (All-head (λ (t : SignalView). a + 1 ≤ t.scope) s ss l, omega (arith, h.1), h.2, later_rising a n ss h.3 (All-tail (λ (t : SignalView). a + 1 ≤ t.scope) s ss l))

pub rising_whole : (n a : ℕ) (ss : List SignalView) → StandRising a n ss → from_scope ss a n ≡ ss
rising_whole zero a [] h = refl
rising_whole zero a (s ∷ ss) h = absurd (omega (arith, h.0, h.1))
rising_whole (suc n) a [] h = none_of (a + 1) n
rising_whole (suc n) a (s ∷ ss) h = by (cases_eq s.scope a) (rising_whole (suc n) a ss h.3) (λ g. rising_whole n (a + 1) (s ∷ ss) g)
  where
    by : (s.scope ≡ a) ⊎ (s.scope ≡ a → ⊥) → in_scope ss a ++ from_scope ss (a + 1) n ≡ ss → (StandRising (a + 1) n (s ∷ ss) → from_scope (s ∷ ss) (a + 1) n ≡ s ∷ ss)
        → cond (s.scope == a) (s ∷ in_scope ss a) (in_scope ss a) ++ from_scope (s ∷ ss) (a + 1) n ≡ s ∷ ss
    by (inl e) rest later =
        (λ i. cond (eq-eqb s.scope a e i) (s ∷ in_scope ss a) (in_scope ss a) ++ without s ss (a + 1) n (omega (arith, e)) i) ∙ ap (λ ts. s ∷ ts) rest
    by (inr other) rest later =
        let l : a + 1 ≤ s.scope = grind (arith, h.0, other) in
        let all : All (λ (t : SignalView). a + 1 ≤ t.scope) (s ∷ ss) =
        All-cons (λ (t : SignalView). a + 1 ≤ t.scope) s ss l (All-weaker (λ (t : SignalView). s.scope ≤ t.scope) (λ (t : SignalView). a + 1 ≤ t.scope) (λ t m. omega (arith, m, l)) ss h.2) in
        ap (λ us. us ++ from_scope (s ∷ ss) (a + 1) n) (none_in (s ∷ ss) a all) ∙ later (later_rising a n (s ∷ ss) h all)

-- ---- a stable sort

ties_are : (a b : ℕ) → not (is_lt (nat_cmp a b)) && not (is_lt (nat_cmp b a)) ≡ (b == a)
ties_are a b = by (nat_cmp a b) (ranks a b) (nat_cmp b a) (ranks b a)
  where
    by : (o : Ordering) → MatchOrdering o (a < b) (a ≡ b) (b < a) → (u : Ordering) → MatchOrdering u (b < a) (b ≡ a) (a < b) → not (is_lt o) && not (is_lt u) ≡ (b == a)
    by Less h u g = grind (arith, nat_tests, h)
    by Equal h Less g = absurd (omega (arith, h, g))
    by Equal h Equal g = grind (arith, nat_tests, h)
    by Equal h Greater g = absurd (omega (arith, h, g))
    by Greater h Less g = grind (arith, nat_tests, h)
    by Greater h Equal g = absurd (omega (arith, h, g))
    by Greater h Greater g = absurd (omega (arith, h, g))

view_in : (k : ℕ) (list : List Signal) → map signal_view (filter (λ (s : Signal). s.scope == k) list) ≡ in_scope (map signal_view list) k
view_in k [] = refl
view_in k (s ∷ ss) = by (s.scope == k) (view_in k ss)
  where
    by : (b : Bool) → map signal_view (filter (λ (t : Signal). t.scope == k) ss) ≡ in_scope (map signal_view ss) k
        → map signal_view (cond b (s ∷ filter (λ (t : Signal). t.scope == k) ss) (filter (λ (t : Signal). t.scope == k) ss)) ≡ cond b (signal_view s ∷ in_scope (map signal_view ss) k) (in_scope (map signal_view ss) k)
    by true is = ap (λ ts. signal_view s ∷ ts) is
    by false is = is

each_later : (k : ℕ) (list : List Signal) → ((i : ℕ) (d : Signal) → i < length list → k ≤ (get_or list i d).scope) → All (λ (t : SignalView). k ≤ t.scope) (map signal_view list)
each_later k [] h = All-nil (λ (t : SignalView). k ≤ t.scope)
each_later k (s ∷ ss) h = All-cons (λ (t : SignalView). k ≤ t.scope) (signal_view s) (map signal_view ss) (h 0 s (omega arith)) (each_later k ss (λ i d l. h (suc i) d (omega (arith, l))))

rising_sorted : (n : ℕ) (list : List Signal) → IsNonDecreasingBy (λ (s : Signal). s.scope) list → All (λ (s : SignalView). s.scope < n) (map signal_view list) → StandRising 0 n (map signal_view list)
rising_sorted n [] up h = tt
rising_sorted n (s ∷ ss) up h = (
  omega arith,
  (let l = All-head (λ (t : SignalView). t.scope < n) (signal_view s) (map signal_view ss) h in omega (arith, l)),
  each_later s.scope ss (λ i d l. up 0 (suc i) d (omega arith) (omega (arith, l))),
  rising_sorted n ss (λ i j d le l. up (suc i) (suc j) d (omega (arith, le)) (omega (arith, l))) (All-tail (λ (t : SignalView). t.scope < n) (signal_view s) (map signal_view ss) h),
)

same_from : (ss ts : List SignalView) → ((k : ℕ) → in_scope ss k ≡ in_scope ts k) → (a n : ℕ) → from_scope ss a n ≡ from_scope ts a n
same_from ss ts h a zero = refl
same_from ss ts h a (suc n) = λ i. h a i ++ same_from ss ts h (a + 1) n i

module _ (old new : List Signal) (long : length new ≡ length old) (up : IsNonDecreasingBy (λ (s : Signal). s.scope) new) (stable : IsStableByKey (λ (s : Signal). s.scope) nat_cmp old new) where
  same_in : (s : Signal) (k : ℕ) → in_scope (map signal_view new) k ≡ in_scope (map signal_view old) k
  same_in s k =
      let own = λ (list : List Signal). filter_agree (λ (t : Signal). t.scope == k) (λ (t : Signal). not (is_lt (nat_cmp k t.scope)) && not (is_lt (nat_cmp t.scope k))) (λ t. sym (ties_are k t.scope)) list in
      sym (view_in k new) ∙ ap (map signal_view) (own new ∙ stable (record s { scope = k }) ∙ sym (own old)) ∙ view_in k old

  -- all of the sorted list are of these scopes, as each stands in the old one
  scopes_kept : (s : Signal) (n : ℕ) → All (λ (t : SignalView). t.scope < n) (map signal_view old) → (x : SignalView) → Contains (map signal_view new) x → x.scope < n
  scopes_kept s n h x c =
      let there : Contains (in_scope (map signal_view old) x.scope) x =
      subst (λ ts. Contains ts x) (same_in s x.scope) (contained_filter (λ (t : SignalView). t.scope == x.scope) (map signal_view new) x c (eq-eqb x.scope x.scope refl)) in
      All-contains (λ (t : SignalView). t.scope < n) (in_scope (map signal_view old) x.scope) x (All-filter (λ (t : SignalView). t.scope == x.scope) (λ (t : SignalView). t.scope < n) (map signal_view old) h) there

  pub sorted_by_scope : (n : ℕ) → All (λ (s : SignalView). s.scope < n) (map signal_view old) → map signal_view new ≡ by_scope n (map signal_view old)
  sorted_by_scope n h = by new refl
    where
      by : (list : List Signal) → new ≡ list → map signal_view new ≡ by_scope n (map signal_view old)
      by [] e = ap (map signal_view) e ∙ none e
        where
          none : new ≡ [] → [] ≡ by_scope n (map signal_view old)
          none e = sym (empty old (sym long ∙ ap length e))
            where
              empty : (list : List Signal) → length list ≡ 0 → by_scope n (map signal_view list) ≡ []
              empty [] z = none_of 0 n
              empty (s ∷ ss) z = absurd (omega (arith, z))
      by (s ∷ ss) e =
          let within : All (λ (t : SignalView). t.scope < n) (map signal_view new) = all_of (map signal_view new) (scopes_kept s n h) in
          sym (rising_whole n 0 (map signal_view new) (rising_sorted n new up within)) ∙ same_from (map signal_view new) (map signal_view old) (same_in s) 0 n
        where
          all_of : (xs : List SignalView) → ((x : SignalView) → Contains xs x → x.scope < n) → All (λ (t : SignalView). t.scope < n) xs
          all_of [] k = All-nil (λ (t : SignalView). t.scope < n)
          all_of (x ∷ xs) k = All-cons (λ (t : SignalView). t.scope < n) x xs (k x (0, omega arith, refl)) (all_of xs (λ y c. k y (Contains-append_right (x ∷ []) xs y c)))
