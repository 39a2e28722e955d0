-- Conditions are taken apart, and an edge is taken from among them.
use Rattle.std.proofs.Common.{◌≡◌, ℕ, zero, suc, ◌+◌, ◌<◌, ◌≤◌, Bool, true, false, not, List, [], ◌∷◌, ◌++◌, map, reverse, length, get_or, take, Option, Some, None, refl, ap, sym, ◌∙◌, append_assoc, arith}
use Rattle.std.specs.Prelude.{IsTrue, Ok, Err, is_some, option_map}
use Rattle.std.specs.List.{flat_map, remove, list_any, sum_by}
use Rattle.std.specs.Option.{option_or}
use Rattle.std.proofs.lemmas.Grind.{flat_map-append}
use Rattle.std.proofs.lemmas.List.{append-nil, reverse-append, get_or_read, take_more, take_all}
use Rattle.std.proofs.lemmas.List.Sums.{sum_by_push}
use Rattle.vhdl_values.specs.declared.kinds.Edge.{Edge as EdgeKind}
use Rattle.vhdl_values.specs.declared.kinds.Logic.TheVariants.{And}
use Rattle.vhdl_names_trees.specs.declared.test.Test.{Test as CodeTest}
use Rattle.vhdl_names_rules.specs.units.Expressions as u
use Rattle.vhdl_names_rules.specs.units.Expressions.{SignalPart, Test}
use Rattle.vhdl_names_trees.specs.views.Tests.{test_view}
use Rattle.vhdl_names_trees.specs.views.Parted.{parted, is_call, event_of}
use Rattle.vhdl_names_rules.specs.Rules.{◌>>=◌, then_some}
use Rattle.vhdl_names_rules.proofs.laws.Rules.{comes, some_is}
use Rattle.vhdl_names_rules.specs.Edges.{Edge, edge, conditions, looks_for_event, taken, start_of, level_of, begun, gated, with_none, edge_alone, waited_level, waited_edge}
use Rattle.vhdl_names_registers.specs.Looking.{level_kind, has_beside}
use Rattle.vhdl_names_registers.specs.Taking.{is_start, edge_taken, all_joined, gated_taken}
use Rattle.vhdl_names_registers.proofs.Gating.{level_edge}

-- ---- what `and` joins

-- how many conditions and operators a test has
abbrev pub size : Test → ℕ
size (u.Test.both op t r) = suc (size t + size r)
size _ = 1

abbrev pub size_of : CodeTest → ℕ
size_of t = size (test_view t)

abbrev pub conditions_of : CodeTest → List Test
conditions_of t = conditions (test_view t)

both_parts : (t r s : Test) → Ok (r, s) ≡ parted t → t ≡ u.Test.both And r s
both_parts (u.Test.both And t q) r s h = let k : (r, s) ≡ (t, q) = cc in ap (λ (p : Test × Test). u.Test.both And p.0 p.1) (sym k)
both_parts _ r s h = absurd cc

one_part : (t r : Test) → Err r ≡ parted t → (conditions t ≡ r ∷ []) × (0 < size t)
one_part (u.Test.both And t q) r h = absurd cc
one_part t r h = (cc, omega arith)

-- what is left, and what is found from the end
abbrev pub all_of : List CodeTest → List CodeTest → List Test
all_of left all = flat_map conditions_of left ++ map test_view (reverse all)

pub all_of_one : (x : CodeTest) → conditions_of x ≡ all_of (x ∷ []) []
all_of_one x = sym (append-nil (conditions_of x ++ []) ∙ append-nil (conditions_of x))

conditions_push : (xs : List CodeTest) (x : CodeTest) → flat_map conditions_of (xs ++ x ∷ []) ≡ flat_map conditions_of xs ++ conditions_of x
conditions_push xs x = flat_map-append conditions_of xs (x ∷ []) ∙ ap (λ (ts : List Test). flat_map conditions_of xs ++ ts) (append-nil (conditions_of x))

module _ (left : List CodeTest) (next first second : CodeTest) where
  abbrev with_both : List CodeTest
  with_both = (left ++ first ∷ []) ++ second ∷ []

  pub both_left : Ok (test_view first, test_view second) ≡ parted (test_view next) → flat_map conditions_of (left ++ next ∷ []) ≡ flat_map conditions_of with_both
  both_left h =
      conditions_push left next
      ∙ (ap (λ (t : Test). flat_map conditions_of left ++ conditions t) (both_parts (test_view next) (test_view first) (test_view second) h)
      ∙ (sym (append_assoc (flat_map conditions_of left) (conditions_of first) (conditions_of second))
      ∙ sym (conditions_push (left ++ first ∷ []) second ∙ ap (λ (ts : List Test). ts ++ conditions_of second) (conditions_push left first))))

  pub both_smaller : Ok (test_view first, test_view second) ≡ parted (test_view next) → sum_by size_of with_both < sum_by size_of (left ++ next ∷ [])
  both_smaller h =
      let parts = ap size (both_parts (test_view next) (test_view first) (test_view second) h) in
      omega (arith, sum_by_push size_of left next, sum_by_push size_of (left ++ first ∷ []) second, sum_by_push size_of left first, parts)

module _ (left : List CodeTest) (next found : CodeTest) where
  pub one_left : (all : List CodeTest) → Err (test_view found) ≡ parted (test_view next) → all_of (left ++ next ∷ []) all ≡ all_of left (all ++ found ∷ [])
  one_left all h =
      ap (λ (ts : List Test). ts ++ map test_view (reverse all)) (conditions_push left next)
      ∙ (append_assoc (flat_map conditions_of left) (conditions_of next) (map test_view (reverse all))
      ∙ (ap (λ (ts : List Test). flat_map conditions_of left ++ (ts ++ map test_view (reverse all))) (one_part (test_view next) (test_view found) h).0
      ∙ sym (ap (λ (ts : List CodeTest). flat_map conditions_of left ++ map test_view ts) (reverse-append all (found ∷ [])))))

  pub one_smaller : Err (test_view found) ≡ parted (test_view next) → sum_by size_of left < sum_by size_of (left ++ next ∷ [])
  one_smaller h = let some = (one_part (test_view next) (test_view found) h).1 in omega (arith, sum_by_push size_of left next, some)

-- ---- the first in which something is found

module _ {A : Type 0} (found : Test → Option A) where
  neither : (o : Option A) (p q : Option (A × List Test)) (f : A → A × List Test) (g : A × List Test → A × List Test) → option_or (option_map f o) (option_map g p) ≡ None
      → (o ≡ None) × (p ≡ None)
  neither None None q f g h = (refl, refl)
  neither None (Some r) q f g h = absurd cc
  neither (Some a) p q f g h = absurd cc

  none_more : (xs : List CodeTest) (x : CodeTest) → taken found (map test_view xs) ≡ None → found (test_view x) ≡ None → taken found (map test_view (xs ++ x ∷ [])) ≡ None
  none_more [] x h e = ap (λ (o : Option A). option_or (option_map (λ a. (a, [])) o) None) e
  none_more (y ∷ ys) x h e =
      let k = neither (found (test_view y)) (taken found (map test_view ys)) None (λ a. (a, map test_view ys)) (λ r. (r.0, test_view y ∷ r.1)) h in
      ap (λ (o : Option A). option_or (option_map (λ a. (a, map test_view (ys ++ x ∷ []))) o) (option_map (λ r. (r.0, test_view y ∷ r.1)) (taken found (map test_view (ys ++ x ∷ []))))) k.0
      ∙ ap (option_map (λ r. (r.0, test_view y ∷ r.1))) (none_more ys x k.1 e)

  pub taken_at : (xs : List CodeTest) (i : ℕ) (x : CodeTest) (a : A) → i < length xs → x ≡ get_or xs i x → taken found (map test_view (take i xs)) ≡ None → found (test_view x) ≡ Some a
      → Some (a, map test_view (remove xs i)) ≡ taken found (map test_view xs)
  taken_at [] i x a lt is none e = absurd (omega arith)
  taken_at (y ∷ ys) zero x a lt is none e =
      sym (ap (λ (o : Option A). option_or (option_map (λ a. (a, map test_view ys)) o) (option_map (λ r. (r.0, test_view y ∷ r.1)) (taken found (map test_view ys))))
      (ap (λ (t : CodeTest). found (test_view t)) (sym is) ∙ e))
  taken_at (y ∷ ys) (suc i) x a lt is none e =
      let k = neither (found (test_view y)) (taken found (map test_view (take i ys))) None (λ a. (a, map test_view (take i ys))) (λ r. (r.0, test_view y ∷ r.1)) none in
      ap (option_map (λ r. (r.0, test_view y ∷ r.1))) (taken_at ys i x a (omega arith) is k.1 e)
      ∙ sym (ap (λ (o : Option A). option_or (option_map (λ a. (a, map test_view ys)) o) (option_map (λ r. (r.0, test_view y ∷ r.1)) (taken found (map test_view ys)))) k.0)

  pub none_below : (xs : List CodeTest) (i : ℕ) (x : CodeTest) → i < length xs → x ≡ get_or xs i x → taken found (map test_view (take i xs)) ≡ None → found (test_view x) ≡ None
      → taken found (map test_view (take (i + 1) xs)) ≡ None
  none_below xs i x lt is none e =
      ap (λ (ys : List CodeTest). taken found (map test_view ys)) (take_more xs i x lt ∙ ap (λ (y : CodeTest). take i xs ++ y ∷ []) (sym is)) ∙ none_more (take i xs) x none e

  pub none_found : (xs : List CodeTest) (i : ℕ) → length xs ≤ i → taken found (map test_view (take i xs)) ≡ None → None ≡ taken found (map test_view xs)
  none_found xs i le none = sym none ∙ ap (λ (ys : List CodeTest). taken found (map test_view ys)) (take_all i xs le)

-- ---- with what an edge begins

starts : (t : Test) → is_start t ≡ true → start_of t ≡ Some t
starts (u.edge kind p) h = refl
starts (u.event p) h = refl
starts _ h = absurd cc

-- what is removed begins it as what was looked at does
pub start_taken : (xs : List CodeTest) (i : ℕ) (x r : CodeTest) → i < length xs → x ≡ get_or xs i x → r ≡ get_or xs i r → taken start_of (map test_view (take i xs)) ≡ None
    → is_start (test_view x) ≡ true → Some (test_view r, map test_view (remove xs i)) ≡ taken start_of (map test_view xs)
start_taken xs i x r lt is removed none start =
    let same : x ≡ r = get_or_read xs i x lt is r ∙ sym removed in
    taken_at start_of xs i r (test_view r) lt removed none (starts (test_view r) (ap (λ (t : CodeTest). is_start (test_view t)) (sym same) ∙ start))

pub no_start : (t : Test) → is_start t ≡ false → start_of t ≡ None
no_start (u.edge kind p) h = absurd cc
no_start (u.event p) h = absurd cc
no_start _ h = refl

pub has_level : (p : SignalPart) (t : Test) (kind : EdgeKind) → Some kind ≡ level_kind (Some p) t → level_of p t ≡ Some (edge kind p)
has_level p t kind h = by (level_of p t) refl h
  where
    by : (o : Option Edge) → level_of p t ≡ o → Some kind ≡ option_map (λ (e : Edge). e.kind) o → level_of p t ≡ Some (edge kind p)
    by None is k = absurd cc
    by (Some e) is k = is ∙ ap Some (level_edge p t e is ∙ ap (λ (kind : EdgeKind). edge kind p) (sym (some_is kind e.kind k)))

pub no_level_kind : (p : SignalPart) (t : Test) → None ≡ level_kind (Some p) t → level_of p t ≡ None
no_level_kind p t h = by (level_of p t) refl h
  where
    by : (o : Option Edge) → level_of p t ≡ o → None ≡ option_map (λ (e : Edge). e.kind) o → level_of p t ≡ None
    by None is k = is
    by (Some e) is k = absurd cc

abbrev pub begun_by : Option (Test × List Test) → Option (Edge × List Test)
begun_by first = first >>= λ first. begun first.0 first.1

pub begins_event : (t : Test) (ts : List Test) (p : SignalPart) → Some p ≡ event_of t → begun t ts ≡ taken (level_of p) ts
begins_event (u.event q) ts p h = ap (λ (p : SignalPart). taken (level_of p) ts) (sym (some_is p q h))
begins_event _ ts p h = absurd cc

pub begins_none : (t : Test) (ts : List Test) → is_call t ≡ false → None ≡ event_of t → begun t ts ≡ None
begins_none (u.edge kind p) ts h k = absurd cc
begins_none (u.event p) ts h k = absurd cc
begins_none _ ts h k = refl

-- ---- the edge taken is the one that is gated

gated_by : (ts : List Test) → gated ts ≡ (edge_taken ts >>= λ found. then_some (not (list_any looks_for_event found.1)) found)
gated_by ts = by (taken start_of ts)
  where
    by : (o : Option (Test × List Test))
        → (o >>= λ first. begun first.0 first.1 >>= λ found. then_some (not (list_any looks_for_event found.1)) found)
        ≡ ((o >>= λ first. begun first.0 first.1) >>= λ found. then_some (not (list_any looks_for_event found.1)) found)
    by None = refl
    by (Some first) = refl

pub gated_is_taken : (ts : List Test) (g : Edge × List Test) → gated ts ≡ Some g → edge_taken ts ≡ Some g
gated_is_taken ts g h =
    let k = comes (edge_taken ts) (λ found. then_some (not (list_any looks_for_event found.1)) found) g (sym (gated_by ts) ∙ h) in
    k.is ∙ kept (not (list_any looks_for_event k.value.1)) k.value k.rest
  where
    kept : (b : Bool) (f : Edge × List Test) → then_some b f ≡ Some g → Some f ≡ Some g
    kept true f e = e
    kept false f e = absurd cc

pub alone_is_taken : (t : Test) (e : Edge) → Some e ≡ edge_alone t → edge_taken (conditions t) ≡ Some (e, [])
alone_is_taken t e h =
    let k = comes (gated (conditions t)) with_none e (sym h) in
    gated_is_taken (conditions t) k.value k.is ∙ only k.value k.rest
  where
    only : (g : Edge × List Test) → with_none g ≡ Some e → Some g ≡ Some (e, [])
    only (f, []) k = ap (λ (f : Edge). Some (f, [])) (some_is f e k)
    only (f, t ∷ ts) k = absurd cc

-- a wait for an edge, and else for a level
pub waits_for_level : (t : Test) → is_some (edge_alone t) ≡ false → waited_level t ≡ waited_edge t
waits_for_level t h = by (edge_alone t) h
  where
    by : (o : Option Edge) → is_some o ≡ false → waited_level t ≡ option_or o (waited_level t)
    by None h = refl
    by (Some e) h = absurd cc

-- what is taken there is told alone
pub waits_for_edge : (t : Test) (o : Option (Edge × List Test)) → is_some (edge_alone t) ≡ true → o ≡ edge_taken (conditions t) → option_map (λ (g : Edge × List Test). g.0) o ≡ waited_edge t
waits_for_edge t o h is = by (edge_alone t) refl h
  where
    by : (a : Option Edge) → a ≡ edge_alone t → is_some a ≡ true → option_map (λ (g : Edge × List Test). g.0) o ≡ option_or a (waited_level t)
    by None e h = absurd cc
    by (Some e) k h = ap (option_map (λ (g : Edge × List Test). g.0)) (is ∙ alone_is_taken t e k)

pub only_first : {A B C : Type 0} (f : A → B) (c : C) (o : Option A) → option_map f o ≡ option_map (λ (g : B × C). g.0) (option_map (λ (a : A). (f a, c)) o)
only_first f c None = refl
only_first f c (Some a) = refl

-- the edge taken, and those beside it as one
pub gate_is_taken : (ts all : List Test) (e : Edge) (gate : Test) → Some (e, all) ≡ edge_taken ts → Some gate ≡ all_joined all → Some (e, gate) ≡ gated_taken ts
gate_is_taken ts all e gate h k =
    ap (option_map (λ (t : Test). (e, t))) k
    ∙ ap (λ (o : Option (Edge × List Test)). o >>= λ g. option_map (λ (t : Test). (g.0, t)) (all_joined g.1)) h

-- a gated edge, and those beside it
pub record Beside (ts : List Test) : Type 0 where
  pub found : Edge
  pub first : Test
  pub others : List Test
  pub is : gated ts ≡ Some (found, first ∷ others)

pub beside : (ts : List Test) → IsTrue (has_beside (gated ts)) → Beside ts
beside ts h = by (gated ts) refl h
  where
    by : (o : Option (Edge × List Test)) → gated ts ≡ o → IsTrue (has_beside o) → Beside ts
    by None is k = absurd cc
    by (Some (e, [])) is k = absurd cc
    by (Some (e, t ∷ rest)) is k = record { found = e; first = t; others = rest; is = is }

pub taken_is_some : (ts : List Test) → IsTrue (has_beside (gated ts)) → is_some (edge_taken ts) ≡ true
taken_is_some ts h = let k = beside ts h in ap is_some (gated_is_taken ts (k.found, k.first ∷ k.others) k.is)

pub joined_is_some : (ts all : List Test) (e : Edge) → IsTrue (has_beside (gated ts)) → Some (e, all) ≡ edge_taken ts → is_some (all_joined all) ≡ true
joined_is_some ts all e h is =
    let k = beside ts h in
    let g : Edge × List Test = (k.found, k.first ∷ k.others) in
    ap (λ (g : Edge × List Test). is_some (all_joined g.1)) (some_is (e, all) g (is ∙ gated_is_taken ts g k.is))
