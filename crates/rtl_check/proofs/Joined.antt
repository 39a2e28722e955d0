-- Lists of faults, one after another.
use Rattle.std.proofs.Common.{◌≡◌, ℕ, zero, suc, ◌+◌, ◌<◌, ◌≤◌, Bool, true, false, ◌&&◌, ◌||◌, ◌==◌, nat_lt, nat_le, List, [], ◌∷◌, ◌++◌, length, get_or, map, refl, sym, ap, subst, ◌∙◌, arith, ◌⊎◌, inl, inr, Contains, append_assoc, append-nil}
use Rattle.std.specs.Prelude.{IsTrue}
use Rattle.std.specs.List.{AllPairs}
use Rattle.std.proofs.lemmas.Bool.{cases_Bool, or_cases, and_parts, and_from, ltb-true, lt-ltb, eqb-true, eq-eqb, leb-true, le-leb, cases_lt, cases_order, le-ltb, lt-leb, ne_eqb}
use Rattle.std.proofs.lemmas.List.{get_or_default, map-append}
use Rattle.std.proofs.lemmas.List.Elements.{Contains-append_left, Contains-append_right, Contains-append_cases}
use Rattle.rtl_model.specs.basics.Lists.{IsLess}
use Rattle.rtl_model.specs.simulation.Netlist.{Netlist}
use Rattle.rtl_model.specs.simulation.Accepted as f
use Rattle.rtl_model.specs.simulation.Accepted.{Fault, IsFault}
use Rattle.rtl_model.specs.simulation.Faults.{fault_number, fault_place, fault_key, is_no_loop, AreFaultsOf, AreFaultsButLoops}
use Rattle.rtl_model.proofs.basics.Lists.{Contains-none}
use Rattle.rtl_check.specs.declared.fault.CheckFault.{CheckFault}
use Rattle.rtl_check.specs.Views.{fault_view}
use Rattle.rtl_check.specs.Listing.{first_named, is_of_number, below_place, one_place, up_to, AddsFaults}

-- ---- pairs of two lists

contains_at : {X : Type 0} (xs : List X) (i : ℕ) (d : X) → i < length xs → Contains xs (get_or xs i d)
contains_at xs i d l = (i, l, get_or_default xs i (get_or xs i d) d l)

in_front : {X : Type 0} (xs ys : List X) (i : ℕ) (d : X) → i < length xs → get_or (xs ++ ys) i d ≡ get_or xs i d
in_front [] ys i d l = absurd (omega arith)
in_front (x ∷ xs) ys zero d l = refl
in_front (x ∷ xs) ys (suc i) d l = in_front xs ys i d (omega arith)

-- the place in the second list
behind : {X : Type 0} (xs ys : List X) (i : ℕ) (d : X) → length xs ≤ i → i < length (xs ++ ys)
    → (k : ℕ) × (k < length ys) × (i ≡ length xs + k) × (get_or (xs ++ ys) i d ≡ get_or ys k d)
behind [] ys i d l m = (i, m, omega arith, refl)
behind (x ∷ xs) ys zero d l m = absurd (omega arith)
behind (x ∷ xs) ys (suc i) d l m = let (k, n, e, is) = behind xs ys i d (omega arith) (omega arith) in (k, n, omega arith, is)

pub pairs_append : {X : Type 0} (R : X → X → Type 0) (xs ys : List X) → AllPairs R xs → AllPairs R ys
    → ((x y : X) → Contains xs x → Contains ys y → R x y) → AllPairs R (xs ++ ys)
pairs_append {X} R xs ys a b across i j d l m = go (cases_lt j (length xs)) (cases_lt i (length xs))
  where
    go : (j < length xs) ⊎ (length xs ≤ j) → (i < length xs) ⊎ (length xs ≤ i) → R (get_or (xs ++ ys) i d) (get_or (xs ++ ys) j d)
    go (inl n) o =
        let k : i < length xs = omega arith in
        subst (λ (x : X). R x (get_or (xs ++ ys) j d)) (sym (in_front xs ys i d k)) (subst (λ (y : X). R (get_or xs i d) y) (sym (in_front xs ys j d n)) (a i j d l n))
    go (inr n) (inl o) =
        let (k, r, e, is) = behind xs ys j d n m in
        subst (λ (x : X). R x (get_or (xs ++ ys) j d)) (sym (in_front xs ys i d o))
        (subst (λ (y : X). R (get_or xs i d) y) (sym is) (across (get_or xs i d) (get_or ys k d) (contains_at xs i d o) (contains_at ys k d r)))
    go (inr n) (inr o) =
        let (k, r, e, is) = behind xs ys j d n m in
        let (h, s, g, at) = behind xs ys i d o (omega arith) in
        subst (λ (x : X). R x (get_or (xs ++ ys) j d)) (sym at) (subst (λ (y : X). R (get_or ys h d) y) (sym is) (b h k d (omega arith) r))

-- ---- the faults of one kind, and behind them those of another

module _ (net : Netlist) where
  pub joined : (a b c : Fault → Bool) (xs ys : List Fault) → AreFaultsOf net a xs → AreFaultsOf net b ys → ((x : Fault) → c x ≡ (a x || b x))
      → ((x y : Fault) → a x ≡ true → b y ≡ true → IsLess (fault_key x) (fault_key y)) → AreFaultsOf net c (xs ++ ys)
  joined a b c xs ys p q both less = record {
    are = λ x. (to x, from x);
    rise = pairs_append (λ x y. IsLess (fault_key x) (fault_key y)) xs ys p.rise q.rise (λ x y h k. less x y ((p.are x).0 h).1 ((q.are y).0 k).1);
  }
    where
      left : (x : Fault) → a x ≡ true → c x ≡ true
      left x e = both x ∙ ap (λ (t : Bool). t || b x) e

      right : (s t : Bool) → t ≡ true → (s || t) ≡ true
      right true t e = refl
      right false t e = e

      to : (x : Fault) → Contains (xs ++ ys) x → IsFault net x × IsTrue (c x)
      to x h = go (Contains-append_cases xs ys x h)
        where
          go : Contains xs x ⊎ Contains ys x → IsFault net x × IsTrue (c x)
          go (inl k) = let (is, t) = (p.are x).0 k in (is, left x t)
          go (inr k) = let (is, t) = (q.are x).0 k in (is, both x ∙ right (a x) (b x) t)

      from : (x : Fault) → IsFault net x × IsTrue (c x) → Contains (xs ++ ys) x
      from x (is, t) = go (or_cases (a x) (b x) (sym (both x) ∙ t))
        where
          go : (a x ≡ true) ⊎ (b x ≡ true) → Contains (xs ++ ys) x
          go (inl e) = Contains-append_left xs ys x ((p.are x).1 (is, e))
          go (inr e) = Contains-append_right xs ys x ((q.are x).1 (is, e))

  -- no faults of a kind
  pub no_faults : (a : Fault → Bool) → ((x : Fault) → IsFault net x → a x ≡ true → ⊥) → AreFaultsOf net a []
  no_faults a none = record {
    are = λ x. ((λ h. absurd (Contains-none x h)), λ (is, t). absurd (none x is t));
    rise = λ i j d l m. absurd (omega arith);
  }

  -- the same faults by another name
  pub renamed : (a b : Fault → Bool) (xs : List Fault) → ((x : Fault) → IsFault net x → a x ≡ b x) → AreFaultsOf net a xs → AreFaultsOf net b xs
  renamed a b xs same p = record {
    are = λ x. ((λ h. let (is, t) = (p.are x).0 h in (is, sym (same x is) ∙ t)), λ (is, t). (p.are x).1 (is, same x is ∙ t));
    rise = p.rise;
  }

  -- one fault
  pub one_fault : (a : Fault → Bool) (x : Fault) → IsFault net x → a x ≡ true → ((y : Fault) → IsFault net y → a y ≡ true → y ≡ x) → AreFaultsOf net a (x ∷ [])
  one_fault a x is t only = record {
    are = λ y. (to y, λ (h, e). (0, arith_one, sym (only y h e)));
    rise = λ i j d l m. absurd (omega arith);
  }
    where
      arith_one : 0 < 1
      arith_one = omega arith

      to : (y : Fault) → Contains (x ∷ []) y → IsFault net y × IsTrue (a y)
      to y (zero, l, e) = (subst (IsFault net) e is, subst (λ (z : Fault). a z ≡ true) e t)
      to y (suc k, l, e) = absurd (omega arith)

-- ---- places

has_place : (x : Fault) → (fault_number x ≡ 8 → ⊥) → 0 < length (fault_place x)
has_place (f.Loop ps) other = absurd (other refl)
has_place _ other = omega arith

first_less : (xs ys : List ℕ) → 0 < length xs → get_or xs 0 0 < get_or ys 0 0 → IsLess xs ys
first_less [] ys l m = absurd (omega arith)
first_less (x ∷ xs) [] l m = absurd (omega arith)
first_less (x ∷ xs) (y ∷ ys) l m = inl m

below_then_at : (k p : ℕ) → (k ≡ 8 → ⊥) → (x y : Fault) → below_place k p x ≡ true → one_place k p y ≡ true → IsLess (fault_key x) (fault_key y)
below_then_at k p other x y s t =
    let (a, b) = and_parts (is_of_number k x) (nat_lt (first_named x) p) s in
    let (c, d) = and_parts (is_of_number k y) (first_named y == p) t in
    let e = eqb-true (fault_number x) k a in
    let g = eqb-true (fault_number y) k c in
    let l = ltb-true (first_named x) p b in
    let h = eqb-true (first_named y) p d in
    inr (e ∙ sym g, first_less (fault_place x) (fault_place y) (has_place x (λ i. other (sym e ∙ i))) (omega arith))

pub lt_next : (a p : ℕ) → nat_lt a (p + 1) ≡ (nat_lt a p || (a == p))
lt_next a p = go (cases_order a p)
  where
    values : (r s t : Bool) → nat_lt a (p + 1) ≡ r → nat_lt a p ≡ s → (a == p) ≡ t → r ≡ (s || t) → nat_lt a (p + 1) ≡ (nat_lt a p || (a == p))
    values r s t e g h is = e ∙ (is ∙ (ap (λ (b : Bool). b || t) (sym g) ∙ ap (λ (b : Bool). nat_lt a p || b) (sym h)))

    go : (a ≡ p) ⊎ ((a < p) ⊎ (p < a)) → nat_lt a (p + 1) ≡ (nat_lt a p || (a == p))
    go (inl e) = values true false true (lt-ltb a (p + 1) (omega arith)) (le-ltb a p (omega arith)) (eq-eqb a p e) refl
    go (inr (inl l)) = values true true (a == p) (lt-ltb a (p + 1) (omega arith)) (lt-ltb a p l) refl refl
    go (inr (inr l)) = values false false false (le-ltb a (p + 1) (omega arith)) (le-ltb a p (omega arith)) (ne_eqb a p (λ e. below_itself l e)) refl
      where
        below_itself : p < a → a ≡ p → ⊥
        below_itself l e = omega arith

le_next : (a j : ℕ) → nat_le a (suc j) ≡ (nat_le a j || (a == suc j))
le_next a j = go (cases_order a (suc j))
  where
    values : (r s t : Bool) → nat_le a (suc j) ≡ r → nat_le a j ≡ s → (a == suc j) ≡ t → r ≡ (s || t) → nat_le a (suc j) ≡ (nat_le a j || (a == suc j))
    values r s t e g h is = e ∙ (is ∙ (ap (λ (b : Bool). b || t) (sym g) ∙ ap (λ (b : Bool). nat_le a j || b) (sym h)))

    go : (a ≡ suc j) ⊎ ((a < suc j) ⊎ (suc j < a)) → nat_le a (suc j) ≡ (nat_le a j || (a == suc j))
    go (inl e) = values true false true (le-leb a (suc j) (omega arith)) (lt-leb a j (omega arith)) (eq-eqb a (suc j) e) refl
    go (inr (inl l)) = values true true (a == suc j) (le-leb a (suc j) (omega arith)) (le-leb a j (omega arith)) refl refl
    go (inr (inr l)) = values false false false (lt-leb a (suc j) l) (lt-leb a j (omega arith)) (ne_eqb a (suc j) (λ e. below_itself l e)) refl
      where
        below_itself : suc j < a → a ≡ suc j → ⊥
        below_itself l e = omega arith

next_place : (k p : ℕ) (x : Fault) → below_place k (p + 1) x ≡ (below_place k p x || one_place k p x)
next_place k p x = ap (λ (b : Bool). is_of_number k x && b) (lt_next (first_named x) p) ∙ spread (is_of_number k x) (nat_lt (first_named x) p) (first_named x == p)
  where
    spread : (a b c : Bool) → (a && (b || c)) ≡ ((a && b) || (a && c))
    spread true b c = refl
    spread false b c = refl

pub adds_on : (net : Netlist) (a b c : Fault → Bool) (old mid new : List CheckFault) → AddsFaults net a old mid → AddsFaults net b mid new → ((x : Fault) → c x ≡ (a x || b x))
    → ((x y : Fault) → a x ≡ true → b y ≡ true → IsLess (fault_key x) (fault_key y)) → AddsFaults net c old new
adds_on net a b c old mid new p q both less = record {
  added = p.added ++ q.added;
  is = q.is ∙ (ap (λ (xs : List CheckFault). xs ++ q.added) p.is ∙ append_assoc old p.added q.added);
  are = subst (AreFaultsOf net c) (sym (map-append fault_view p.added q.added)) (joined net a b c (map fault_view p.added) (map fault_view q.added) p.are q.are both less);
}

pub adds_place : (net : Netlist) (k p : ℕ) (old mid new : List CheckFault) → (k ≡ 8 → ⊥) → AddsFaults net (below_place k p) old mid → AddsFaults net (one_place k p) mid new → AddsFaults net (below_place k (p + 1)) old new
adds_place net k p old mid new other a b = adds_on net (below_place k p) (one_place k p) (below_place k (p + 1)) old mid new a b (next_place k p) (below_then_at k p other)

none_below : (k : ℕ) (x : Fault) → below_place k 0 x ≡ true → ⊥
none_below k x e = let (a, b) = and_parts (is_of_number k x) (nat_lt (first_named x) 0) e in let l = ltb-true (first_named x) 0 b in omega arith

pub adds_nothing : (net : Netlist) (a : Fault → Bool) (old : List CheckFault) → ((x : Fault) → IsFault net x → a x ≡ true → ⊥) → AddsFaults net a old old
adds_nothing net a old none = record { added = []; is = sym (append-nil old); are = no_faults net a none }

pub adds_first : (net : Netlist) (k : ℕ) (old : List CheckFault) → AddsFaults net (below_place k 0) old old
adds_first net k old = adds_nothing net (below_place k 0) old (λ x is e. none_below k x e)

-- all of a number, where none names more
pub adds_all : (net : Netlist) (k p : ℕ) (old new : List CheckFault) → ((x : Fault) → IsFault net x → fault_number x ≡ k → first_named x < p)
    → AddsFaults net (below_place k p) old new → AddsFaults net (is_of_number k) old new
adds_all net k p old new bounded h = record { added = h.added; is = h.is; are = renamed net (below_place k p) (is_of_number k) (map fault_view h.added) same h.are }
  where
    same : (x : Fault) → IsFault net x → below_place k p x ≡ is_of_number k x
    same x is = go (cases_Bool (is_of_number k x))
      where
        go : (is_of_number k x ≡ true) ⊎ (is_of_number k x ≡ false) → below_place k p x ≡ is_of_number k x
        go (inl e) = and_from (is_of_number k x) (nat_lt (first_named x) p) e (lt-ltb (first_named x) p (bounded x is (eqb-true (fault_number x) k e))) ∙ sym e
        go (inr e) = ap (λ (b : Bool). b && nat_lt (first_named x) p) e ∙ sym e

pub adds_one : (net : Netlist) (a : Fault → Bool) (old new : List CheckFault) (x : CheckFault) → new ≡ old ++ x ∷ [] → IsFault net (fault_view x) → a (fault_view x) ≡ true
    → ((y : Fault) → IsFault net y → a y ≡ true → y ≡ fault_view x) → AddsFaults net a old new
adds_one net a old new x e is t only = record { added = x ∷ []; is = e; are = one_fault net a (fault_view x) is t only }

-- ---- one number after another

number_then : (j k : ℕ) → j < k → (x y : Fault) → up_to j x ≡ true → is_of_number k y ≡ true → IsLess (fault_key x) (fault_key y)
number_then j k l x y s t =
    let a = leb-true (fault_number x) j s in
    let b = eqb-true (fault_number y) k t in
    inl (omega arith)

pub adds_number : (net : Netlist) (j : ℕ) (old mid new : List CheckFault) → AddsFaults net (up_to j) old mid → AddsFaults net (is_of_number (suc j)) mid new → AddsFaults net (up_to (suc j)) old new
adds_number net j old mid new a b = adds_on net (up_to j) (is_of_number (suc j)) (up_to (suc j)) old mid new a b next (number_then j (suc j) (omega arith))
  where
    next : (x : Fault) → up_to (suc j) x ≡ (up_to j x || is_of_number (suc j) x)
    next x = le_next (fault_number x) j

-- the faults but loops are those up to 7, and then those of 9
pub all_but_loops : (net : Netlist) (mid new : List CheckFault) → AddsFaults net (up_to 7) [] mid → AddsFaults net (is_of_number 9) mid new → AreFaultsButLoops net (map fault_view new)
all_but_loops net mid new a b = subst (λ (xs : List CheckFault). AreFaultsOf net is_no_loop (map fault_view xs)) (sym h.is) h.are
  where
    each : (x : Fault) → is_no_loop x ≡ (up_to 7 x || is_of_number 9 x)
    each (f.Loop ps) = refl
    each _ = refl

    h : AddsFaults net is_no_loop [] new
    h = adds_on net (up_to 7) (is_of_number 9) is_no_loop [] mid new a b each (number_then 7 9 (omega arith))

pub none_up_to : (net : Netlist) → AddsFaults net (up_to 0) [] []
none_up_to net = adds_nothing net (up_to 0) [] none
  where
    none : (x : Fault) → IsFault net x → up_to 0 x ≡ true → ⊥
    none (f.Loop ps) is e = absurd cc
    none _ is e = absurd cc

pub no_loops : (k : ℕ) → k ≡ 8 → k < 8 → ⊥
no_loops k e l = omega arith
