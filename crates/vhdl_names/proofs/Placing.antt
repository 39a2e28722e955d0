-- The architectures of a file, each placed as that of its entity.
use Rattle.std.proofs.Common.{◌≡◌, ℕ, zero, suc, ◌+◌, arith, Bool, true, false, cond, not, ◌||◌, List, [], ◌∷◌, ◌++◌, map, set, length, Option, Some, None, refl, ap, sym, ◌∙◌, true≢false, zero-add}
use Rattle.std.specs.Prelude.{bytes_eq, find, slice_get, replicate, if◌then◌else◌}
use Rattle.std.specs.List.{enumerate_from}
use Rattle.std.proofs.lemmas.Slice.Eq.{bytes_eq-Decides}
use Rattle.vhdl_tree.specs.Tree as t
use Rattle.vhdl_tree.specs.Tree.{ContextItem, DesignUnit, LibraryUnit}
use Rattle.vhdl_names_rules.specs.units.Units as u
use Rattle.vhdl_names_rules.specs.Rules.{◌>>=◌, each, if_any}
use Rattle.vhdl_names_rules.specs.Visibility.{Name, is_among, are_distinct}
use Rattle.vhdl_names_rules.specs.Interfaces.{EntityView, entity_named}
use Rattle.vhdl_names_rules.specs.Files.{architecture, architectures_of, described_names}
use Rattle.vhdl_names_rules.proofs.laws.Rules.{comes, both, not_true, neither, some_is}
use Rattle.vhdl_names_units.specs.Lists.{in_turn}
use Rattle.vhdl_names_units.proofs.Lists.{bound}
use Rattle.vhdl_names.specs.steps.Outlines.{keyed}
use Rattle.vhdl_names.specs.steps.Architectures.{own, with_described, with_unit}
use Rattle.vhdl_names.proofs.Filing.{found_keyed, each_same}
use Rattle.vhdl_names.proofs.Tabling.{names_in}

abbrev Placed : Type 0
Placed = List ContextItem × t.Architecture

abbrev text : Placed → Name
text a = a.1.entity.text

-- ---- entities by name

record At (es : List EntityView) (n : Name) (i k : ℕ) (e : EntityView) : Type 0 where
  pub place : ℕ
  pub is : k ≡ i + place
  pub at : slice_get es place ≡ Some e
  pub same : bytes_eq n e.name ≡ true

found_at : (es : List EntityView) (n : Name) (i k : ℕ) (e : EntityView) → find (λ x. bytes_eq n x.1.name) (enumerate_from i es) ≡ Some (k, e) → At es n i k e
found_at [] n i k e h = absurd cc
found_at (x ∷ es) n i k e h = go (bytes_eq n x.name) refl h (found_at es n (i + 1) k e)
  where
    go : (b : Bool) → bytes_eq n x.name ≡ b → cond b (Some (i, x)) (find (λ x. bytes_eq n x.1.name) (enumerate_from (i + 1) es)) ≡ Some (k, e)
        → (find (λ x. bytes_eq n x.1.name) (enumerate_from (i + 1) es) ≡ Some (k, e) → At es n (i + 1) k e) → At (x ∷ es) n i k e
    go true q h more =
        let p : (i, x) ≡ (k, e) = some_is (i, x) (k, e) h in
        let s : i ≡ k = ap (λ (y : ℕ × EntityView). y.0) p in
        let v : x ≡ e = ap (λ (y : ℕ × EntityView). y.1) p in
        record { place = 0; is = omega (arith, s); at = ap Some v; same = ap (λ (y : EntityView). bytes_eq n y.name) (sym v) ∙ q }
    go false q h more =
        let m = more h in
        let s = m.is in
        record { place = suc m.place; is = omega (arith, s); at = m.at; same = m.same }

none_at : (es : List EntityView) (n : Name) (i : ℕ) → find (λ x. bytes_eq n x.1.name) (enumerate_from i es) ≡ None → (j : ℕ) (e : EntityView) → slice_get es j ≡ Some e
    → bytes_eq n e.name ≡ false
none_at [] n i h j e at = absurd cc
none_at (x ∷ es) n i h j e at = go (bytes_eq n x.name) refl h (none_at es n (i + 1)) j at
  where
    go : (b : Bool) → bytes_eq n x.name ≡ b → cond b (Some (i, x)) (find (λ x. bytes_eq n x.1.name) (enumerate_from (i + 1) es)) ≡ None
        → (find (λ x. bytes_eq n x.1.name) (enumerate_from (i + 1) es) ≡ None → (j : ℕ) (e : EntityView) → slice_get es j ≡ Some e → bytes_eq n e.name ≡ false)
        → (j : ℕ) → slice_get (x ∷ es) j ≡ Some e → bytes_eq n e.name ≡ false
    go true q h more j at = absurd cc
    go false q h more zero at = ap (λ (y : EntityView). bytes_eq n y.name) (sym (some_is x e at)) ∙ q
    go false q h more (suc j) at = more h j e at

or_right : (a b : Bool) → b ≡ true → (a || b) ≡ true
or_right true b h = refl
or_right false b h = h

named_at : (es : List EntityView) (k : ℕ) (e : EntityView) → slice_get es k ≡ Some e → is_among e.name (names_in es) ≡ true
named_at [] k e h = absurd cc
named_at (d ∷ es) zero e h =
    ap (λ (d : EntityView). bytes_eq e.name d.name || is_among e.name (names_in es)) (some_is d e h)
    ∙ ap (λ b. b || is_among e.name (names_in es)) ((bytes_eq-Decides e.name e.name).1 refl)
named_at (d ∷ es) (suc k) e h = or_right (bytes_eq e.name d.name) (is_among e.name (names_in es)) (named_at es k e h)

-- two entities of one name are one
unique_at : (es : List EntityView) → are_distinct (names_in es) ≡ true → (j k : ℕ) (d e : EntityView) → slice_get es j ≡ Some d → slice_get es k ≡ Some e → d.name ≡ e.name → d ≡ e
unique_at [] h j k d e p q s = absurd cc
unique_at (x ∷ es) h zero zero d e p q s = sym (some_is x d p) ∙ some_is x e q
unique_at (x ∷ es) h zero (suc k) d e p q s =
    let b = both (not (is_among x.name (names_in es))) (are_distinct (names_in es)) h in
    absurd (true≢false (sym (named_at es k e q) ∙ ap (λ n. is_among n (names_in es)) (sym s ∙ ap (λ (y : EntityView). y.name) (sym (some_is x d p)))
    ∙ not_true (is_among x.name (names_in es)) b.0))
unique_at (x ∷ es) h (suc j) zero d e p q s =
    let b = both (not (is_among x.name (names_in es))) (are_distinct (names_in es)) h in
    absurd (true≢false (sym (named_at es j d p) ∙ ap (λ n. is_among n (names_in es)) (s ∙ ap (λ (y : EntityView). y.name) (sym (some_is x e q)))
    ∙ not_true (is_among x.name (names_in es)) b.0))
unique_at (x ∷ es) h (suc j) (suc k) d e p q s =
    unique_at es (both (not (is_among x.name (names_in es))) (are_distinct (names_in es)) h).1 j k d e p q s

-- ---- what stands at the place of an entity

module _ (f : EntityView → Option u.Architecture) (y : Option u.Architecture) (n : Name) where
  abbrev pub instead : EntityView → Option u.Architecture
  instead d = if bytes_eq n d.name then y else f d

  others : (es : List EntityView) → is_among n (names_in es) ≡ false → map f es ≡ map instead es
  others [] h = refl
  others (e ∷ es) h =
      let k = neither (bytes_eq n e.name) (is_among n (names_in es)) h in
      ap (λ b. (if b then y else f e) ∷ map f es) (sym k.0) ∙ ap (λ l. instead e ∷ l) (others es k.1)

  set_at : (es : List EntityView) (k : ℕ) (e : EntityView) → slice_get es k ≡ Some e → bytes_eq n e.name ≡ true → are_distinct (names_in es) ≡ true
      → set (map f es) k y ≡ map instead es
  set_at [] k e at q d = absurd cc
  set_at (x ∷ es) zero e at q d =
      let b = both (not (is_among x.name (names_in es))) (are_distinct (names_in es)) d in
      let here : bytes_eq n x.name ≡ true = ap (λ (x : EntityView). bytes_eq n x.name) (some_is x e at) ∙ q in
      ap (λ b. (if b then y else f x) ∷ map f es) (sym here)
      ∙ ap (λ l. instead x ∷ l) (others es (ap (λ m. is_among m (names_in es)) ((bytes_eq-Decides n x.name).0 here) ∙ not_true (is_among x.name (names_in es)) b.0))
  set_at (x ∷ es) (suc k) e at q d =
      go (bytes_eq n x.name) refl (set_at es k e at q (both (not (is_among x.name (names_in es))) (are_distinct (names_in es)) d).1)
    where
      b : (not (is_among x.name (names_in es)) ≡ true) × (are_distinct (names_in es) ≡ true)
      b = both (not (is_among x.name (names_in es))) (are_distinct (names_in es)) d

      go : (c : Bool) → bytes_eq n x.name ≡ c → set (map f es) k y ≡ map instead es → f x ∷ set (map f es) k y ≡ instead x ∷ map instead es
      go true r rest =
          absurd (true≢false (sym (named_at es k e at)
          ∙ ap (λ m. is_among m (names_in es)) (sym ((bytes_eq-Decides n e.name).0 q) ∙ (bytes_eq-Decides n x.name).0 r) ∙ not_true (is_among x.name (names_in es)) b.0))
      go false r rest = ap (λ c. (if c then y else f x) ∷ set (map f es) k y) (sym r) ∙ ap (λ l. instead x ∷ l) rest

-- ---- architecture by architecture

each_at : {A B : Type 0} (g h : A → Option B) (xs : List A) → ((j : ℕ) (x : A) → slice_get xs j ≡ Some x → g x ≡ h x) → each g xs ≡ each h xs
each_at g h [] same = refl
each_at g h (x ∷ xs) same =
    ap (λ o. o >>= λ y. each g xs >>= λ ys. Some (y ∷ ys)) (same zero x refl)
    ∙ ap (λ o. h x >>= λ y. o >>= λ ys. Some (y ∷ ys)) (each_at g h xs (λ j z at. same (suc j) z at))

each_some : {A B : Type 0} (f : A → B) (xs : List A) → each (λ x. Some (f x)) xs ≡ Some (map f xs)
each_some f [] = refl
each_some f (x ∷ xs) = ap (λ o. o >>= λ ys. Some (f x ∷ ys)) (each_some f xs)

not_found : (n : Name) (as' : List Placed) → is_among n (map text as') ≡ false → find (λ a. bytes_eq n a.1.entity.text) as' ≡ None
not_found n [] h = refl
not_found n (a ∷ as') h =
    let k = neither (bytes_eq n a.1.entity.text) (is_among n (map text as')) h in
    ap (λ b. cond b (Some a) (find (λ a. bytes_eq n a.1.entity.text) as')) k.0 ∙ not_found n as' k.1

turned : (m n : Name) (b : Bool) → bytes_eq m n ≡ b → bytes_eq n m ≡ b
turned m n true h = (bytes_eq-Decides n m).1 (sym ((bytes_eq-Decides m n).0 h))
turned m n false h = go (bytes_eq n m) refl
  where
    go : (c : Bool) → bytes_eq n m ≡ c → bytes_eq n m ≡ false
    go true e = absurd (true≢false (sym ((bytes_eq-Decides m n).1 (sym ((bytes_eq-Decides n m).0 e))) ∙ h))
    go false e = e

module _ (es : List EntityView) (distinct : are_distinct (names_in es) ≡ true) where
  -- an entity's architecture, or what stands there
  abbrev own_or : EntityView → Option u.Architecture → Option Placed → Option (Option u.Architecture)
  own_or e o None = Some o
  own_or e o (Some p) = architecture es e p.0 p.1 >>= λ y. Some (Some y)

  abbrev one : (EntityView → Option u.Architecture) → List Placed → EntityView → Option (Option u.Architecture)
  one f as' e = own_or e (f e) (find (λ a. bytes_eq e.name a.1.entity.text) as')

  placed : (as' : List Placed) → are_distinct (map text as') ≡ true → (f : EntityView → Option u.Architecture) (os : List (Option u.Architecture))
      → in_turn (with_described es) (map f es) as' ≡ Some os → each (one f as') es ≡ Some os
  placed [] d f os h = each_some f es ∙ h
  placed (a ∷ as') d f os h =
      go (entity_named es (text a)) refl h (placed as' (both (not (is_among (text a) (map text as'))) (are_distinct (map text as')) d).1)
    where
      b : (not (is_among (text a) (map text as')) ≡ true) × (are_distinct (map text as') ≡ true)
      b = both (not (is_among (text a) (map text as'))) (are_distinct (map text as')) d

      put : Option (ℕ × EntityView) → Option (List (Option u.Architecture))
      put None = Some (map f es)
      put (Some (k, e)) = architecture es e a.0 a.1 >>= λ x. Some (set (map f es) k (Some x))

      skip : (j : ℕ) (e : EntityView) → bytes_eq (text a) e.name ≡ false → one f (a ∷ as') e ≡ one f as' e
      skip j e h = ap (λ c. own_or e (f e) (cond c (Some a) (find (λ a. bytes_eq e.name a.1.entity.text) as'))) (turned (text a) e.name false h)

      point : (x : u.Architecture) (k : ℕ) (e : EntityView) → slice_get es k ≡ Some e → bytes_eq (text a) e.name ≡ true → architecture es e a.0 a.1 ≡ Some x
          → (j : ℕ) (v : EntityView) → slice_get es j ≡ Some v → one f (a ∷ as') v ≡ one (instead f (Some x) (text a)) as' v
      point x k e at same is j v there = by (bytes_eq (text a) v.name) refl
        where
          by : (c : Bool) → bytes_eq (text a) v.name ≡ c → one f (a ∷ as') v ≡ own_or v (if bytes_eq (text a) v.name then Some x else f v) (find (λ a. bytes_eq v.name a.1.entity.text) as')
          by true q =
              let n : v.name ≡ text a = sym ((bytes_eq-Decides (text a) v.name).0 q) in
              let one_entity : v ≡ e = unique_at es distinct j k v e there at (n ∙ (bytes_eq-Decides (text a) e.name).0 same) in
              ap (λ c. own_or v (f v) (cond c (Some a) (find (λ a. bytes_eq v.name a.1.entity.text) as'))) (turned (text a) v.name true q)
              ∙ ap (λ o. o >>= λ y. let r : Option (Option u.Architecture) = Some (Some y) in r) (ap (λ w. architecture es w a.0 a.1) one_entity ∙ is)
              ∙ ap (λ c. own_or v (if c then Some x else f v) None) (sym q)
              ∙ ap (own_or v (if bytes_eq (text a) v.name then Some x else f v))
              (sym (not_found v.name as' (ap (λ m. is_among m (map text as')) n ∙ not_true (is_among (text a) (map text as')) b.0)))
          by false q =
              skip j v q ∙ ap (λ c. own_or v (if c then Some x else f v) (find (λ a. bytes_eq v.name a.1.entity.text) as')) (sym q)

      go : (o : Option (ℕ × EntityView)) → entity_named es (text a) ≡ o → (put o >>= λ os. in_turn (with_described es) os as') ≡ Some os
          → ((f : EntityView → Option u.Architecture) (os : List (Option u.Architecture)) → in_turn (with_described es) (map f es) as' ≡ Some os → each (one f as') es ≡ Some os)
          → each (one f (a ∷ as')) es ≡ Some os
      go None q h rest = each_at (one f (a ∷ as')) (one f as') es (λ j e at. skip j e (none_at es (text a) 0 q j e at)) ∙ rest f os h
      go (Some (k, e)) q h rest =
          let c = comes (architecture es e a.0 a.1 >>= λ x. let r : Option (List (Option u.Architecture)) = Some (set (map f es) k (Some x)) in r) (λ os. in_turn (with_described es) os as') os h in
          let x = comes (architecture es e a.0 a.1) (λ x. let r : Option (List (Option u.Architecture)) = Some (set (map f es) k (Some x)) in r) c.value c.is in
          let p = found_at es (text a) 0 k e q in
          let there : k ≡ p.place = p.is ∙ zero-add p.place in
          let now : c.value ≡ map (instead f (Some x.value) (text a)) es =
          sym (some_is (set (map f es) k (Some x.value)) c.value x.rest) ∙ ap (λ k. set (map f es) k (Some x.value)) there
          ∙ set_at f (Some x.value) (text a) es p.place e p.at p.same distinct in
          each_at (one f (a ∷ as')) (one (instead f (Some x.value) (text a)) as') es (point x.value p.place e p.at p.same x.is)
          ∙ rest (instead f (Some x.value) (text a)) os (ap (λ l. in_turn (with_described es) l as') (sym now) ∙ c.rest)

  -- ---- unit by unit

  alone : (os : List (Option u.Architecture)) (ds : List DesignUnit) → in_turn (with_unit es) os ds ≡ in_turn (with_described es) os (architectures_of ds)
  alone os [] = refl
  alone os (d ∷ ds) = go d.context d.unit (λ ps. alone ps ds)
    where
      go : (items : List ContextItem) (x : LibraryUnit) → ((ps : List (Option u.Architecture)) → in_turn (with_unit es) ps ds ≡ in_turn (with_described es) ps (architectures_of ds))
          → in_turn (with_unit es) os (record { context = items; unit = x } ∷ ds) ≡ in_turn (with_described es) os (architectures_of (record { context = items; unit = x } ∷ ds))
      go items (t.LibraryUnit.entity e) more = more os
      go items (t.architecture a) more =
          bound (with_described es os (items, a)) (λ ps. in_turn (with_unit es) ps ds) (λ ps. in_turn (with_described es) ps (architectures_of ds)) more

  none_of_each : (es : List EntityView) → replicate (length es) None ≡ map (λ (e : EntityView). let o : Option u.Architecture = None in o) es
  none_of_each [] = refl
  none_of_each (e ∷ es) = ap (λ l. None ∷ l) (none_of_each es)

  own_is : (as' : List Placed) (e : EntityView) → own es (map keyed as') e ≡ one (λ e. None) as' e
  own_is as' e = ap (if_any (λ p. architecture es e p.0 p.1)) (found_keyed e.name as') ∙ by (find (λ a. bytes_eq e.name a.1.entity.text) as')
    where
      by : (o : Option Placed) → if_any (λ p. architecture es e p.0 p.1) o ≡ own_or e None o
      by None = refl
      by (Some p) = refl

  pub all_placed : (ds : List DesignUnit) → are_distinct (described_names ds) ≡ true → (os : List (Option u.Architecture))
      → in_turn (with_unit es) (replicate (length es) None) ds ≡ Some os → each (own es (map keyed (architectures_of ds))) es ≡ Some os
  all_placed ds d os h =
      each_same (own es (map keyed (architectures_of ds))) (one (λ e. None) (architectures_of ds)) (own_is (architectures_of ds)) es
      ∙ placed (architectures_of ds) d (λ e. None) os
      (ap (λ l. in_turn (with_described es) l (architectures_of ds)) (sym (none_of_each es)) ∙ sym (alone (replicate (length es) None) ds) ∙ h)

abbrev none : (A : Type 0) → Option A
none A = None

pub one_more_none : (k : ℕ) → replicate k (none u.Architecture) ++ none u.Architecture ∷ [] ≡ replicate (k + 1) (none u.Architecture)
one_more_none k = nones k ∙ ap (λ n. replicate n (none u.Architecture)) (let s : suc k ≡ k + 1 = omega arith in s)
  where
    nones : (k : ℕ) → replicate k (none u.Architecture) ++ none u.Architecture ∷ [] ≡ replicate (suc k) (none u.Architecture)
    nones zero = refl
    nones (suc k) = ap (λ l. none u.Architecture ∷ l) (nones k)
