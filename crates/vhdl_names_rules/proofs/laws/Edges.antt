-- What holds of conditions holds of an edge among them, and of those beside it.
use Rattle.std.proofs.Common.{◌≡◌, ℕ, Bool, true, false, not, List, [], ◌∷◌, ◌++◌, Option, Some, None, refl, ap, subst}
use Rattle.std.specs.Prelude.{option_map}
use Rattle.std.specs.List.{list_any, AllByRecursion}
use Rattle.std.specs.Option.{option_or}
use Rattle.vhdl_values.specs.declared.kinds.Edge.{Edge as EdgeKind}
use Rattle.vhdl_values.specs.declared.kinds.Logic.TheVariants.{And}
use Rattle.vhdl_names_rules.specs.units.Expressions as u
use Rattle.vhdl_names_rules.specs.units.Expressions.{SignalPart, Test}
use Rattle.vhdl_names_rules.specs.units.Bytes.{place_bytes, test_bytes}
use Rattle.vhdl_names_rules.specs.Rules.{◌>>=◌, then_some}
use Rattle.vhdl_names_rules.specs.Edges.{Edge, edge, edge_to, conditions, looks_for_event, level, same_place, taken, start_of, level_of, begun, gated, with_none, edge_alone, waited_level, waited_edge}
use Rattle.vhdl_names_rules.specs.sound.Expressions.{Inside, edge_fits, test_fits}
use Rattle.vhdl_names_rules.proofs.laws.Rules.{comes, both, some_is}
use Rattle.vhdl_names_rules.proofs.kept.Keeping.{mapped}

-- ---- lists

pub all_of_both : {A : Type 0} (Q : A → Type 0) (xs ys : List A) → AllByRecursion Q xs → AllByRecursion Q ys → AllByRecursion Q (xs ++ ys)
all_of_both Q [] ys h g = g
all_of_both Q (x ∷ xs) ys h g = (h.0, all_of_both Q xs ys h.1 g)

pub all_of_first : {A : Type 0} (Q : A → Type 0) (xs ys : List A) → AllByRecursion Q (xs ++ ys) → AllByRecursion Q xs
all_of_first Q [] ys h = tt
all_of_first Q (x ∷ xs) ys h = (h.0, all_of_first Q xs ys h.1)

pub all_of_second : {A : Type 0} (Q : A → Type 0) (xs ys : List A) → AllByRecursion Q (xs ++ ys) → AllByRecursion Q ys
all_of_second Q [] ys h = h
all_of_second Q (x ∷ xs) ys h = all_of_second Q xs ys h.1

-- ---- what is taken of a list

-- what is found in one of a list, and the others
taken_has : {A : Type 0} (found : Test → Option A) (Q : Test → Type 0) (R : A → Type 0) → ((t : Test) (a : A) → Q t → found t ≡ Some a → R a)
    → (ts : List Test) (r : A × List Test) → AllByRecursion Q ts → taken found ts ≡ Some r → R r.0 × AllByRecursion Q r.1
taken_has found Q R one [] r h e = absurd cc
taken_has {A} found Q R one (t ∷ ts) r h e = by (found t) (taken found ts) (λ a. one t a h.0) (λ q. taken_has found Q R one ts q h.1) e
  where
    by : (o : Option A) (p : Option (A × List Test)) → ((a : A) → o ≡ Some a → R a) → ((q : A × List Test) → p ≡ Some q → R q.0 × AllByRecursion Q q.1)
        → option_or (option_map (λ a. (a, ts)) o) (option_map (λ q. (q.0, t ∷ q.1)) p) ≡ Some r → R r.0 × AllByRecursion Q r.1
    by (Some a) p here there e = subst (λ (q : A × List Test). R q.0 × AllByRecursion Q q.1) (some_is (a, ts) r e) (here a refl, h.1)
    by None (Some q) here there e = let k = there q refl in subst (λ (q : A × List Test). R q.0 × AllByRecursion Q q.1) (some_is (q.0, t ∷ q.1) r e) (k.0, (h.0, k.1))
    by None None here there e = absurd cc

start_is : (t x : Test) → start_of t ≡ Some x → t ≡ x
start_is (u.edge kind p) x e = some_is (u.edge kind p) x e
start_is (u.event p) x e = some_is (u.event p) x e
start_is _ x e = absurd cc

-- the edge to a level of a signal has that signal's place
level_place : (p : SignalPart) (t : Test) (e : Edge) → level_of p t ≡ Some e → p ≡ e.place
level_place p t e h = by (level t) h
  where
    kept : (b : Bool) (f : Edge) → then_some b f ≡ Some e → f ≡ e
    kept true f h = some_is f e h
    kept false f h = absurd cc

    by : (o : Option Edge) → (o >>= λ f. then_some (same_place p f.place) (edge f.kind p)) ≡ Some e → p ≡ e.place
    by (Some f) h = ap (λ (f : Edge). f.place) (kept (same_place p f.place) (edge f.kind p) h)
    by None h = absurd cc

-- ---- an edge among conditions

module _ (Q : Test → Type 0) (E : SignalPart → Type 0) (of_both : (t r : Test) → Q (u.Test.both And t r) → Q t × Q r)
    (of_edge : (kind : EdgeKind) (p : SignalPart) → Q (u.edge kind p) → E p) (of_event : (p : SignalPart) → Q (u.event p) → E p) where
  pub conditions_have : (t : Test) → Q t → AllByRecursion Q (conditions t)
  conditions_have (u.Test.both And t r) h =
      let k = of_both t r h in
      all_of_both Q (conditions t) (conditions r) (conditions_have t k.0) (conditions_have r k.1)
  conditions_have t h = (h, tt)

  begun_has : (t : Test) (ts : List Test) (g : Edge × List Test) → Q t → AllByRecursion Q ts → begun t ts ≡ Some g → E g.0.place × AllByRecursion Q g.1
  begun_has (u.edge kind p) ts g h k e = subst (λ (g : Edge × List Test). E g.0.place × AllByRecursion Q g.1) (some_is (edge kind p, ts) g e) (of_edge kind p h, k)
  begun_has (u.event p) ts g h k e = taken_has (level_of p) Q (λ f. E f.place) (λ t f _ is. subst E (level_place p t f is) (of_event p h)) ts g k e
  begun_has _ ts g h k e = absurd cc

  pub gated_has : (ts : List Test) (g : Edge × List Test) → AllByRecursion Q ts → gated ts ≡ Some g → E g.0.place × AllByRecursion Q g.1
  gated_has ts g h e =
      let first = comes (taken start_of ts) _ g e in
      let found = comes (begun first.value.0 first.value.1) _ g first.rest in
      let k = taken_has start_of Q Q (λ t x q is. subst Q (start_is t x is) q) ts first.value h first.is in
      subst (λ (g : Edge × List Test). E g.0.place × AllByRecursion Q g.1) (kept (not (list_any looks_for_event found.value.1)) found.value found.rest)
      (begun_has first.value.0 first.value.1 found.value k.0 k.1 found.is)
    where
      kept : (b : Bool) (f : Edge × List Test) → then_some b f ≡ Some g → f ≡ g
      kept true f h = some_is f g h
      kept false f h = absurd cc

  pub alone_has : (t : Test) (f : Edge) → Q t → edge_alone t ≡ Some f → E f.place
  alone_has t f h e =
      let g = comes (gated (conditions t)) with_none f e in
      subst (λ (f : Edge). E f.place) (only g.value f g.rest) (gated_has (conditions t) g.value (conditions_have t h) g.is).0
    where
      only : (g : Edge × List Test) (f : Edge) → with_none g ≡ Some f → g.0 ≡ f
      only (g, []) f e = some_is g f e
      only (g, t ∷ ts) f e = absurd cc

  pub waited_has : (t : Test) (f : Edge) → Q t → ((f : Edge) → waited_level t ≡ Some f → E f.place) → waited_edge t ≡ Some f → E f.place
  waited_has t f h of_level e = by (edge_alone t) (λ g. alone_has t g h) e
    where
      by : (o : Option Edge) → ((g : Edge) → o ≡ Some g → E g.place) → option_or o (waited_level t) ≡ Some f → E f.place
      by (Some g) here e = here f e
      by None here e = of_level f e

-- ---- what fits, and what stands in the text

module _ (i : Inside) where
  abbrev Fits : Test → Type 0
  Fits t = test_fits i t ≡ true

  abbrev EdgeFits : SignalPart → Type 0
  EdgeFits p = edge_fits i p ≡ true

  pub conditions_fit : (t : Test) → test_fits i t ≡ true → AllByRecursion (λ t. test_fits i t ≡ true) (conditions t)
  conditions_fit = conditions_have Fits EdgeFits (λ t r. both (test_fits i t) (test_fits i r)) (λ kind p h. h) (λ p h. h)

  pub gated_fits : (ts : List Test) (g : Edge × List Test) → AllByRecursion (λ t. test_fits i t ≡ true) ts → gated ts ≡ Some g
      → (edge_fits i g.0.place ≡ true) × AllByRecursion (λ t. test_fits i t ≡ true) g.1
  gated_fits = gated_has Fits EdgeFits (λ t r. both (test_fits i t) (test_fits i r)) (λ kind p h. h) (λ p h. h)

  -- where that of a level does
  pub waited_fits : (t : Test) (f : Edge) → test_fits i t ≡ true → ((f : Edge) → waited_level t ≡ Some f → edge_fits i f.place ≡ true) → waited_edge t ≡ Some f
      → edge_fits i f.place ≡ true
  waited_fits = waited_has Fits EdgeFits (λ t r. both (test_fits i t) (test_fits i r)) (λ kind p h. h) (λ p h. h)

module _ (P : ℕ → Type 0) where
  abbrev Holds : Test → Type 0
  Holds t = AllByRecursion P (test_bytes t)

  abbrev PlaceHolds : SignalPart → Type 0
  PlaceHolds p = AllByRecursion P (place_bytes p)

  both_hold : (t r : Test) → Holds (u.Test.both And t r) → Holds t × Holds r
  both_hold t r h = (all_of_first P (test_bytes t) (test_bytes r) h, all_of_second P (test_bytes t) (test_bytes r) h)

  pub conditions_hold : (t : Test) → AllByRecursion P (test_bytes t) → AllByRecursion (λ t. AllByRecursion P (test_bytes t)) (conditions t)
  conditions_hold = conditions_have Holds PlaceHolds both_hold (λ kind p h. h) (λ p h. h)

  pub gated_holds : (ts : List Test) (g : Edge × List Test) → AllByRecursion (λ t. AllByRecursion P (test_bytes t)) ts → gated ts ≡ Some g
      → AllByRecursion P (place_bytes g.0.place) × AllByRecursion (λ t. AllByRecursion P (test_bytes t)) g.1
  gated_holds = gated_has Holds PlaceHolds both_hold (λ kind p h. h) (λ p h. h)

  level_holds : (t : Test) (f : Edge) → Holds t → level t ≡ Some f → PlaceHolds f.place
  level_holds (u.alike at (u.Value.elements (u.of_signal p)) (u.Value.elements (u.character v))) f h e =
      let m = mapped (λ kind. edge kind p) (edge_to v) f e in
      subst (λ (f : Edge). PlaceHolds f.place) m.is (all_of_first P (place_bytes p) [] h.1)
  level_holds _ f h e = absurd cc

  pub waited_holds : (t : Test) (f : Edge) → AllByRecursion P (test_bytes t) → waited_edge t ≡ Some f → AllByRecursion P (place_bytes f.place)
  waited_holds t f h e = waited_has Holds PlaceHolds both_hold (λ kind p h. h) (λ p h. h) t f h of_level e
    where
      given_place : (g f : Edge) (b : Bool) → PlaceHolds g.place → then_some b g ≡ Some f → PlaceHolds f.place
      given_place g f true k e = subst (λ (f : Edge). PlaceHolds f.place) (some_is g f e) k
      given_place g f false k e = absurd cc

      of_level : (f : Edge) → waited_level t ≡ Some f → PlaceHolds f.place
      of_level f e =
          let l = comes (level t) _ f e in
          given_place l.value f _ (level_holds t l.value h l.is) l.rest
