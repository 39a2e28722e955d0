-- The signal that a net was declared as an element of, and the element's name.
use Rattle.std.proofs.Common.{◌≡◌, ℕ, zero, suc, ◌+◌, ◌-◌, ◌<◌, ◌≤◌, Bool, true, false, cond, ◌==◌, List, [], ◌∷◌, ◌++◌, length, map, Option, Some, None, All, refl, sym, ap, ◌∙◌, subst, arith, codes, decimal, ◌⊎◌, inl, inr, append_assoc}
use Rattle.std.specs.Prelude.{pos, nat_abs, ◌-ℤ◌, filter, flat_map, slice_get, option_map, is_none}
use Rattle.std.specs.List.{AllZip, range_with_len}
use Rattle.std.proofs.lemmas.Bool.{cases_lt, eqb-true, eq-eqb, le-leb, lt-leb, lt-ltb}
use Rattle.std.proofs.lemmas.List.Elements.{All-head, All-tail, All-weaker}
use Rattle.vhdl_tree.specs.declared.operator.Direction.{Direction}
use Rattle.vhdl_tree.specs.declared.operator.Direction.TheVariants.{To, Downto}
use Rattle.rtl_net.specs.Nets.{ScopeView, SignalView, NetlistView}
use Rattle.rtl_net.specs.Names.{Element, place_in, element_or, element_from, path, index_at, index_suffix, name_of_element, signal_name, element_name, net_name}
use Rattle.vhdl_expand_rules.specs.Integers.{extent}
use Rattle.vhdl_expand_rules.specs.Kinds.{ObjectKind, vector, size}
use Rattle.vhdl_expand_rules.specs.Tree.{Object}
use Rattle.vhdl_expand_rules.specs.laws.Trees.{IsKind}
use Rattle.vhdl_expand_rules.proofs.laws.Places.{extent-downto}
use Rattle.vhdl_elab_rules.specs.Numbering.{object_nets, own_size, own_sizes}
use Rattle.vhdl_elab_rules.specs.Names.{element_text, object_names}
use Rattle.vhdl_elab_rules.specs.laws.Signals.{kind_view}
use Rattle.vhdl_elab_rules.proofs.Segments.{run-append}
use Rattle.vhdl_elab_rules.proofs.laws.Nets.{own-nets, own-is_size, actual-is_none}
use Rattle.vhdl_elab_rules.proofs.laws.Typed.{zip_append, zip_weaker}
use Rattle.vhdl_elab_rules.proofs.Placed.{HasKind, IsBelow, JoinedTo, object-below}
use Rattle.vhdl_elab_rules.proofs.Objects.{object_signal, object_signals}

-- ---- the first signal with a net

module _ (scopes : List ScopeView) where
  -- among these signals the first one with the net names it so
  abbrev pub FoundAs : List SignalView → (net : ℕ) → (name : List ℕ) → Type 0
  FoundAs [] n name = ⊥
  FoundAs (s ∷ ss) n name = ((k : ℕ) × (place_in s.nets n ≡ Some k) × (name_of_element scopes s k ≡ name)) ⊎ ((place_in s.nets n ≡ None) × FoundAs ss n name)

  pub found-more : (ss ts : List SignalView) (n : ℕ) (name : List ℕ) → FoundAs ss n name → FoundAs (ss ++ ts) n name
  found-more [] ts n name h = absurd h
  found-more (s ∷ ss) ts n name (inl h) = inl h
  found-more (s ∷ ss) ts n name (inr h) = inr (h.0, found-more ss ts n name h.1)

  -- none of these has the net
  pub found-behind : (ss ts : List SignalView) (n : ℕ) (name : List ℕ) → All (λ (s : SignalView). place_in s.nets n ≡ None) ss → FoundAs ts n name → FoundAs (ss ++ ts) n name
  found-behind [] ts n name h g = g
  found-behind (s ∷ ss) ts n name h g = inr (All-head (λ (t : SignalView). place_in t.nets n ≡ None) s ss h, found-behind ss ts n name (All-tail (λ (t : SignalView). place_in t.nets n ≡ None) s ss h) g)

  -- so an element is found, whose name it is
  record ElementIs (ss : List SignalView) (number n : ℕ) (name : List ℕ) : Type 0 where
    nth : ℕ
    place : ℕ
    signal : SignalView
    is : element_from number ss n ≡ Some (record { signal = number + nth; place = place })
    at : slice_get ss nth ≡ Some signal
    named : name_of_element scopes signal place ≡ name

  element-is : (ss : List SignalView) (number n : ℕ) (name : List ℕ) → FoundAs ss n name → ElementIs ss number n name
  element-is [] number n name h = absurd h
  element-is (s ∷ ss) number n name (inl (k, at, named)) = record {
    nth = 0;
    place = k;
    signal = s;
    is = ap (λ (o : Option ℕ). element_or number o (element_from (suc number) ss n)) at ∙ ap (λ m. Some (record { signal = m; place = k })) (none number);
    at = refl;
    named = named;
  }
    where
      none : (m : ℕ) → m ≡ m + 0
      none m = omega arith
  element-is (s ∷ ss) number n name (inr (miss, h)) =
      let e = element-is ss (suc number) n name h in
      record {
        nth = suc e.nth;
        place = e.place;
        signal = e.signal;
        is = ap (λ (o : Option ℕ). element_or number o (element_from (suc number) ss n)) miss ∙ e.is ∙ ap (λ m. Some (record { signal = m; place = e.place })) (further number e.nth);
        at = e.at;
        named = e.named;
      }
    where
      further : (m j : ℕ) → suc m + j ≡ m + suc j
      further m j = omega arith

pub found-element : (scopes : List ScopeView) (ss : List SignalView) (n : ℕ) (name : List ℕ) → FoundAs scopes ss n name → (e : Element) × (element_from 0 ss n ≡ Some e)
found-element scopes ss n name h = let e = element-is scopes ss 0 n name h in (record { signal = 0 + e.nth; place = e.place }, e.is)

pub found-name : (net : NetlistView) (n : ℕ) (name : List ℕ) → FoundAs net.scopes net.signals n name → net_name net n ≡ name
found-name net n name h =
    let e = element-is net.scopes net.signals 0 n name h in
    ap (element_name net) e.is ∙ ap (signal_name net.scopes e.place) (ap (slice_get net.signals) (none e.nth) ∙ e.at) ∙ e.named
  where
    none : (j : ℕ) → 0 + j ≡ j
    none j = omega arith

-- ---- places

miss-one : (m n : ℕ) (later : Option ℕ) → m < n → cond (m == n) (Some 0) (option_map suc later) ≡ option_map suc later
miss-one m n later l = by (m == n) refl
  where
    by : (b : Bool) → (m == n) ≡ b → cond b (Some 0) (option_map suc later) ≡ option_map suc later
    by false e = refl
    by true e = absurd (let s : m ≡ n = eqb-true m n e in omega (arith, s, l))

hit-one : (m : ℕ) (later : Option ℕ) → cond (m == m) (Some 0) (option_map suc later) ≡ Some 0
hit-one m later = ap (λ (b : Bool). cond b (Some 0) (option_map suc later)) (eq-eqb m m refl)

pub not-in : (ns : List ℕ) (n : ℕ) → All (IsBelow n) ns → place_in ns n ≡ None
not-in [] n h = refl
not-in (m ∷ ns) n h = miss-one m n (place_in ns n) (All-head (IsBelow n) m ns h) ∙ ap (option_map suc) (not-in ns n (All-tail (IsBelow n) m ns h))

pub in-run : (k first count : ℕ) → k < count → place_in (range_with_len first count) (first + k) ≡ Some k
in-run k first zero l = absurd (omega (arith, l))
in-run zero first (suc n) l =
    ap (λ m. cond (first == m) (Some 0) (option_map suc (place_in (range_with_len (first + 1) n) m))) (none first) ∙ hit-one first (place_in (range_with_len (first + 1) n) first)
  where
    none : (m : ℕ) → m + 0 ≡ m
    none m = omega arith
in-run (suc k) first (suc n) l =
    let e : first + suc k ≡ first + 1 + k = omega arith in
    miss-one first (first + suc k) (place_in (range_with_len (first + 1) n) (first + suc k)) (omega arith)
    ∙ ap (λ m. option_map suc (place_in (range_with_len (first + 1) n) m)) e ∙ ap (option_map suc) (in-run k (first + 1) n (omega (arith, l)))

-- ---- the texts of elements

pub grouped : (a b c d : List ℕ) → ((a ++ b) ++ c) ++ d ≡ a ++ (b ++ (c ++ d))
grouped a b c d = ap (λ (x : List ℕ). x ++ d) (append_assoc a b c) ∙ append_assoc a (b ++ c) d ∙ ap (λ (x : List ℕ). a ++ x) (append_assoc b c d)

up-index : (l r k : ℕ) → l ≤ r → index_at l r k ≡ l + k
up-index l r k h = ap (λ (b : Bool). cond b (l + k) (l - k)) (le-leb l r h)

down-index : (l r k : ℕ) → r < l → index_at l r k ≡ l - k
down-index l r k h = ap (λ (b : Bool). cond b (l + k) (l - k)) (lt-leb l r h)

no-extent : (d : Direction) (l r : ℕ) → (extent d (pos l) (pos r) ≡ 0) → 1 ≤ extent d (pos l) (pos r) → ⊥
no-extent d l r z h = let one : 1 ≤ 0 = subst (λ n. 1 ≤ n) z h in omega (arith, one)

index-to : (l r k : ℕ) → 1 ≤ extent To (pos l) (pos r) → index_at l r k ≡ l + k
index-to l r k h = by (cases_lt r l)
  where
    by : (r < l) ⊎ (l ≤ r) → index_at l r k ≡ l + k
    by (inl null) = absurd (no-extent To l r (ap (λ (t : Bool). cond t 0 (nat_abs (pos l -ℤ pos r) + 1)) (lt-ltb r l null)) h)
    by (inr le) = up-index l r k le

as-it-is : (n : ℕ) → n + 0 ≡ n - 0
as-it-is n = omega arith

index-downto : (l r k : ℕ) → 1 ≤ extent Downto (pos l) (pos r) → k < extent Downto (pos l) (pos r) → index_at l r k ≡ l - k
index-downto l r k h below = by (cases_lt l r) (cases_lt r l)
  where
    by : (l < r) ⊎ (r ≤ l) → (r < l) ⊎ (l ≤ r) → index_at l r k ≡ l - k
    by (inl null) c = absurd (no-extent Downto l r (ap (λ (t : Bool). cond t 0 (nat_abs (pos l -ℤ pos r) + 1)) (lt-ltb l r null)) h)
    by (inr ge) (inl lt) = down-index l r k lt
    by (inr ge) (inr le) =
        let e : extent Downto (pos l) (pos r) ≡ suc (l - r) = extent-downto l r ge in
        let first : k ≡ 0 = omega (arith, e, below, le, ge) in
        up-index l r k le ∙ ap (λ n. l + n) first ∙ as-it-is l ∙ ap (λ n. l - n) (sym first)

same-index : (l : ℕ) (d : Direction) (r k : ℕ) → 1 ≤ extent d (pos l) (pos r) → k < extent d (pos l) (pos r)
    → index_suffix (kind_view (vector (record { left = l; direction = d; right = r }))) k ≡ element_text (vector (record { left = l; direction = d; right = r })) k
same-index l To r k some below = ap (λ n. codes "(" ++ (decimal n ++ codes ")")) (index-to l r k some)
same-index l Downto r k some below = ap (λ n. codes "(" ++ (decimal n ++ codes ")")) (index-downto l r k some below)

pub same-suffix : (q : ObjectKind) (k : ℕ) → IsKind q → k < size q → index_suffix (kind_view q) k ≡ element_text q k
same-suffix (vector b) k h l = same-index b.left b.direction b.right k h.0 l
same-suffix _ k h l = refl

-- ---- the objects of an instance

-- the names of the nets that these objects have of their own
abbrev pub names_of : (path : List ℕ) → List Object → List (List ℕ)
names_of path os = flat_map (object_names path) (filter (λ (o : Object). is_none o.actual) os)

own-first : (path : List ℕ) (o : Object) (os : List Object) → o.actual ≡ None → names_of path (o ∷ os) ≡ object_names path o ++ names_of path os
own-first path o os e = ap (λ (a : Option (List ℕ)). flat_map (object_names path) (cond (is_none a) (o ∷ filter (λ (x : Object). is_none x.actual) os) (filter (λ (x : Object). is_none x.actual) os))) e

joined-first : (path : List ℕ) (o : Object) (os : List Object) (es : List ℕ) → o.actual ≡ Some es → names_of path (o ∷ os) ≡ names_of path os
joined-first path o os es e = ap (λ (a : Option (List ℕ)). flat_map (object_names path) (cond (is_none a) (o ∷ filter (λ (x : Object). is_none x.actual) os) (filter (λ (x : Object). is_none x.actual) os))) e

-- a fact of each number of a run and what stands there
pub run-weaker : {A : Type 0} (R S : ℕ → A → Type 0) (first count : ℕ) (ys : List A) → ((n : ℕ) (y : A) → first ≤ n → R n y → S n y) → AllZip R (range_with_len first count) ys → AllZip S (range_with_len first count) ys
run-weaker {A} R S first zero [] go h = tt
run-weaker {A} R S first zero (y ∷ ys) go h = elim h [ ]
run-weaker {A} R S first (suc n) [] go h = elim h [ ]
run-weaker {A} R S first (suc n) (y ∷ ys) go h =
    (go first y (omega arith) h.0, run-weaker R S (first + 1) n ys (λ m z l. go m z (omega (arith, l))) h.1)

module _ (scopes : List ScopeView) (scope : ℕ) where
  -- the elements of an object with a net of its own, from this place on
  own-found : (o : Object) (first k count : ℕ) (ns : List ℕ) → IsKind o.kind → k + count ≡ size o.kind → ns ≡ range_with_len first (size o.kind)
      → AllZip (λ n name. FoundAs scopes (object_signal scope ns o ∷ []) n name) (range_with_len (first + k) count)
      (map (λ place. path scopes scope ++ (codes "." ++ (o.name ++ element_text o.kind place))) (range_with_len k count))
  own-found o first k zero ns kind e is = tt
  own-found o first k (suc count) ns kind e is =
      let below : k < size o.kind = omega (arith, e) in
      let next : first + (k + 1) ≡ first + k + 1 = omega arith in (
        inl (
          k,
          ap (λ (ms : List ℕ). place_in ms (first + k)) is ∙ in-run k first (size o.kind) below,
          grouped (path scopes scope) (codes ".") o.name (index_suffix (kind_view o.kind) k)
              ∙ ap (λ (t : List ℕ). path scopes scope ++ (codes "." ++ (o.name ++ t))) (same-suffix o.kind k kind below),
        ),
        subst (λ m. AllZip (λ n name. FoundAs scopes (object_signal scope ns o ∷ []) n name) (range_with_len m count)
            (map (λ place. path scopes scope ++ (codes "." ++ (o.name ++ element_text o.kind place))) (range_with_len (k + 1) count))) next
            (own-found o first (k + 1) count ns kind (omega (arith, e)) is),
      )

  object-found : (o : Object) (os : List Object) (above : List ℕ) (first : ℕ) → HasKind o → All (IsBelow first) above → JoinedTo (length above) o
      → AllZip (FoundAs scopes (object_signals scope above (first + own_size o) os)) (range_with_len (first + own_size o) (own_sizes os)) (names_of (path scopes scope) os)
      → AllZip (FoundAs scopes (object_signals scope above first (o ∷ os))) (range_with_len first (own_sizes (o ∷ os))) (names_of (path scopes scope) (o ∷ os))
  object-found o os above first kind b j rest = by o.actual refl
    where
      none : (n : ℕ) → 0 + n ≡ n
      none n = omega arith

      s : SignalView
      s = object_signal scope (object_nets above first o) o

      later : List SignalView
      later = object_signals scope above (first + own_size o) os

      mine : All (IsBelow (first + own_size o)) s.nets
      mine = object-below above first o b j

      behind : AllZip (FoundAs scopes (s ∷ later)) (range_with_len (first + own_size o) (own_sizes os)) (names_of (path scopes scope) os)
      behind = run-weaker (FoundAs scopes later) (FoundAs scopes (s ∷ later)) (first + own_size o) (own_sizes os) (names_of (path scopes scope) os)
          (λ n name l h. inr (not-in s.nets n (All-weaker (IsBelow (first + own_size o)) (IsBelow n) (λ k m. omega (arith, m, l)) s.nets mine), h)) rest

      by : (a : Option (List ℕ)) → o.actual ≡ a → AllZip (FoundAs scopes (s ∷ later)) (range_with_len first (own_size o + own_sizes os)) (names_of (path scopes scope) (o ∷ os))
      by (Some es) e =
          let none : own_size o ≡ 0 = actual-is_none o es e in
          let at : first + own_size o ≡ first = omega (arith, none) in
          let all : own_sizes os ≡ own_size o + own_sizes os = omega (arith, none) in
          subst (λ (names : List (List ℕ)). AllZip (FoundAs scopes (s ∷ later)) (range_with_len first (own_size o + own_sizes os)) names) (sym (joined-first (path scopes scope) o os es e))
          (subst (λ m. AllZip (FoundAs scopes (s ∷ later)) (range_with_len first m) (names_of (path scopes scope) os)) all
          (subst (λ m. AllZip (FoundAs scopes (s ∷ later)) (range_with_len m (own_sizes os)) (names_of (path scopes scope) os)) at behind))
      by None e =
          let sized : size o.kind ≡ own_size o = sym (own-is_size o e) in
          let own : AllZip (FoundAs scopes (s ∷ [])) (range_with_len (first + 0) (size o.kind)) (object_names (path scopes scope) o) =
          own-found o first 0 (size o.kind) (object_nets above first o) kind (none (size o.kind)) (own-nets above first o e) in
          let front : AllZip (FoundAs scopes (s ∷ later)) (range_with_len (first + 0) (size o.kind)) (object_names (path scopes scope) o) =
          zip_weaker (FoundAs scopes (s ∷ [])) (FoundAs scopes (s ∷ later)) (λ n name h. found-more scopes (s ∷ []) later n name h) (range_with_len (first + 0) (size o.kind)) (object_names (path scopes scope) o) own in
          let at : first + 0 ≡ first = omega arith in
          subst (λ (names : List (List ℕ)). AllZip (FoundAs scopes (s ∷ later)) (range_with_len first (own_size o + own_sizes os)) names) (sym (own-first (path scopes scope) o os e))
          (subst (λ (ns : List ℕ). AllZip (FoundAs scopes (s ∷ later)) ns (object_names (path scopes scope) o ++ names_of (path scopes scope) os)) (run-append first (own_size o) (own_sizes os))
          (zip_append (FoundAs scopes (s ∷ later)) (range_with_len first (own_size o)) (object_names (path scopes scope) o) (range_with_len (first + own_size o) (own_sizes os)) (names_of (path scopes scope) os)
          (subst (λ m. AllZip (FoundAs scopes (s ∷ later)) (range_with_len first m) (object_names (path scopes scope) o)) sized
          (subst (λ m. AllZip (FoundAs scopes (s ∷ later)) (range_with_len m (size o.kind)) (object_names (path scopes scope) o)) at front)) behind))

  -- the own nets of objects have their names
  pub objects-found : (os : List Object) (above : List ℕ) (first : ℕ) → All HasKind os → All (IsBelow first) above → All (JoinedTo (length above)) os
      → AllZip (FoundAs scopes (object_signals scope above first os)) (range_with_len first (own_sizes os)) (names_of (path scopes scope) os)
  objects-found [] above first kinds b j = tt
  objects-found (o ∷ os) above first kinds b j =
      object-found o os above first (All-head HasKind o os kinds) b (All-head (JoinedTo (length above)) o os j)
      (objects-found os above (first + own_size o) (All-tail HasKind o os kinds) (All-weaker (IsBelow first) (IsBelow (first + own_size o)) (λ k l. omega (arith, l)) above b) (All-tail (JoinedTo (length above)) o os j))
