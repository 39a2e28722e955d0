-- The stored variables of one process, as a list.
use Rattle.std.proofs.Common.{◌≡◌, ℕ, ◌+◌, ◌<◌, ◌≤◌, Bool, true, false, ◌&&◌, ◌||◌, ◌==◌, nat_lt, List, [], ◌∷◌, ◌++◌, length, get_or, map, refl, sym, ap, subst, ◌∙◌, arith, ◌⊎◌, inl, inr, Option, Some, None, append-nil}
use Rattle.std.specs.Prelude.{IsTrue}
use Rattle.std.specs.List.{range_with_len}
use Rattle.std.proofs.lemmas.List.FromFn.{get_or-map-range_with_len}
use Rattle.std.proofs.lemmas.Bool.{cases_Bool, and_parts, and_from, ltb-true, lt-ltb, eqb-true, eq-eqb}
use Rattle.rtl_model.specs.basics.Lists.{IsLess}
use Rattle.rtl_model.specs.bodies.Body.{Stmts}
use Rattle.rtl_model.specs.bodies.Stored.{stores_element}
use Rattle.rtl_model.specs.nets.CoreNetlist.{stores_one}
use Rattle.rtl_model.specs.simulation.Netlist as m
use Rattle.rtl_model.specs.simulation.Netlist.{process}
use Rattle.rtl_model.specs.simulation.Accepted as f
use Rattle.rtl_model.specs.simulation.Accepted.{Fault, IsFault}
use Rattle.rtl_model.specs.simulation.Faults.{fault_key}
use Rattle.rtl_net.specs.declared.process.Process.{Process}
use Rattle.rtl_net.specs.Nets.{NetlistView, body_of}
use Rattle.rtl_check.specs.declared.fault.CheckFault.{CheckFault}
use Rattle.rtl_check.specs.declared.fault.CheckFault.TheVariants as c
use Rattle.rtl_check.specs.declared.variables.VariableElement.{VariableElement}
use Rattle.rtl_net.specs.Core.{core}
use Rattle.rtl_check.specs.Views.{fault_view}
use Rattle.rtl_check.specs.Listing.{one_place, AddsFaults}
use Rattle.rtl_check.specs.Places.{widths, places_from, added_if}
use Rattle.rtl_check.proofs.Joined.{adds_on, adds_nothing, adds_one, lt_next, renamed}
use Rattle.rtl_process_kinds.proofs.Processes.{process_is}
use Rattle.rtl_check.proofs.Elements.{number_of, number_is, number_below, number_order, one_number, place_at, IsBefore}

-- what is stored, by the numbers of its elements: those below a bound, and this very one
abbrev pub below_number : (bound : ℕ) → Option ℕ → Bool
below_number bound None = false
below_number bound (Some e) = nat_lt e bound

abbrev pub is_number : (e : ℕ) → Option ℕ → Bool
is_number e None = false
is_number e (Some i) = i == e

abbrev pub fault_element : (ws : List ℕ) → Fault → Option ℕ
fault_element ws (f.StoredVariable q variable place) = number_of ws variable place
fault_element ws _ = None

abbrev pub elements_below : (ws : List ℕ) → (p bound : ℕ) → Fault → Bool
elements_below ws p bound x = one_place 9 p x && below_number bound (fault_element ws x)

abbrev pub one_element : (ws : List ℕ) → (p e : ℕ) → Fault → Bool
one_element ws p e x = one_place 9 p x && is_number e (fault_element ws x)

at_stored : (p : ℕ) (x : Fault) → one_place 9 p x ≡ true → (v t : ℕ) × (x ≡ f.StoredVariable p v t)
at_stored p (f.StoredVariable q v t) e = (v, t, ap (λ (i : ℕ). f.StoredVariable i v t) (eqb-true q p e))
at_stored p _ e = absurd cc

below_has : (bound : ℕ) (o : Option ℕ) → below_number bound o ≡ true → (e : ℕ) × (o ≡ Some e) × (e < bound)
below_has bound None h = absurd cc
below_has bound (Some e) h = (e, refl, ltb-true e bound h)

is_has : (e : ℕ) (o : Option ℕ) → is_number e o ≡ true → o ≡ Some e
is_has e None h = absurd cc
is_has e (Some i) h = ap Some (eqb-true i e h)

module _ (ws : List ℕ) (p : ℕ) where
  next_element : (e : ℕ) (x : Fault) → elements_below ws p (e + 1) x ≡ (elements_below ws p e x || one_element ws p e x)
  next_element e x = ap (λ (b : Bool). one_place 9 p x && b) (go (fault_element ws x)) ∙ spread (one_place 9 p x) (below_number e (fault_element ws x)) (is_number e (fault_element ws x))
    where
      go : (o : Option ℕ) → below_number (e + 1) o ≡ (below_number e o || is_number e o)
      go None = refl
      go (Some i) = lt_next i e

      spread : (a b c : Bool) → (a && (b || c)) ≡ ((a && b) || (a && c))
      spread true b c = refl
      spread false b c = refl

  element_order : (e : ℕ) (x y : Fault) → elements_below ws p e x ≡ true → one_element ws p e y ≡ true → IsLess (fault_key x) (fault_key y)
  element_order e x y s t =
      let (a, b) = and_parts (one_place 9 p x) (below_number e (fault_element ws x)) s in
      let (g, h) = and_parts (one_place 9 p y) (is_number e (fault_element ws y)) t in
      let (v, place, same) = at_stored p x a in
      let (v', place', same') = at_stored p y g in
      let (i, is, l) = below_has e (number_of ws v place) (sym (ap (λ (z : Fault). below_number e (fault_element ws z)) same) ∙ b) in
      let at = is_has e (number_of ws v' place') (sym (ap (λ (z : Fault). is_number e (fault_element ws z)) same') ∙ h) in
      subst (λ (z : Fault). IsLess (fault_key z) (fault_key y)) (sym same)
      (subst (λ (z : Fault). IsLess (9 ∷ p ∷ v ∷ place ∷ []) (fault_key z)) (sym same') (inr (refl, inr (refl, go v place v' place' (number_order ws v place v' place' i e is at l)))))
    where
      go : (v t v' t' : ℕ) → IsBefore v t v' t' → IsLess (v ∷ t ∷ []) (v' ∷ t' ∷ [])
      go v t v' t' (inl l) = inl l
      go v t v' t' (inr (e, l)) = inr (e, inl l)

module _ (net : NetlistView) (p : ℕ) (x : Process) (there : p < length net.processes) (at : x ≡ get_or net.processes p x) where
  stores_are : (v t : ℕ) → (process (core net) p).stores v t ≡ stores_one (body_of x) (number_of (widths x.variables.items) v t)
  stores_are v t =
      ap (λ (q : m.Process). q.stores v t) (process_is net p x there at) ∙ ap (stores_one (body_of x)) (number_is x.variables.items v t)

  pub elements_first : (old : List CheckFault) → AddsFaults (core net) (elements_below (widths x.variables.items) p 0) old old
  elements_first old = adds_nothing (core net) (elements_below (widths x.variables.items) p 0) old none
    where
      none : (y : Fault) → IsFault (core net) y → elements_below (widths x.variables.items) p 0 y ≡ true → ⊥
      none y is t =
          let (a, b) = and_parts (one_place 9 p y) (below_number 0 (fault_element (widths x.variables.items) y)) t in
          let (e, same, l) = below_has 0 (fault_element (widths x.variables.items) y) b in
          omega arith

  stored_number : (y : Fault) (e : ℕ) → IsFault (core net) y → one_element (widths x.variables.items) p e y ≡ true → IsTrue (stores_element e (body_of x))
  stored_number y e is t =
      let (a, b) = and_parts (one_place 9 p y) (is_number e (fault_element (widths x.variables.items) y)) t in
      let (v, place, same) = at_stored p y a in
      let h = is_has e (number_of (widths x.variables.items) v place) (sym (ap (λ (z : Fault). is_number e (fault_element (widths x.variables.items) z)) same) ∙ b) in
      let stored : (process (core net) p).stores v place ≡ true = subst (IsFault (core net)) same is in
      sym (stores_are v place ∙ ap (stores_one (body_of x)) h) ∙ stored

  pub element_skipped : (e : ℕ) (old new : List CheckFault) → stores_element e (body_of x) ≡ false → AddsFaults (core net) (elements_below (widths x.variables.items) p e) old new
      → AddsFaults (core net) (elements_below (widths x.variables.items) p (e + 1)) old new
  element_skipped e old new no_more h =
      adds_on (core net) (elements_below (widths x.variables.items) p e) (one_element (widths x.variables.items) p e) (elements_below (widths x.variables.items) p (e + 1)) old new new h
      (adds_nothing (core net) (one_element (widths x.variables.items) p e) new (λ y is t. let k : true ≡ false = sym (stored_number y e is t) ∙ no_more in cc))
      (next_element (widths x.variables.items) p e) (element_order (widths x.variables.items) p e)

  pub element_stored : (e : ℕ) (d : VariableElement) (old mid new : List CheckFault) → e < length (places_from 0 (widths x.variables.items)) → stores_element e (body_of x) ≡ true
      → new ≡ mid ++ c.StoredVariable p (get_or (places_from 0 (widths x.variables.items)) e d).variable (get_or (places_from 0 (widths x.variables.items)) e d).place ∷ []
      → AddsFaults (core net) (elements_below (widths x.variables.items) p e) old mid → AddsFaults (core net) (elements_below (widths x.variables.items) p (e + 1)) old new
  element_stored e d old mid new l stored grown h =
      adds_on (core net) (elements_below ws p e) (one_element ws p e) (elements_below ws p (e + 1)) old mid new h
      (adds_one (core net) (one_element ws p e) mid new (c.StoredVariable p pl.variable pl.place) grown
      (stores_are pl.variable pl.place ∙ (ap (stores_one (body_of x)) number ∙ stored))
      (and_from (one_place 9 p (f.StoredVariable p pl.variable pl.place)) (is_number e (number_of ws pl.variable pl.place)) (eq-eqb p p refl) (ap (is_number e) number ∙ eq-eqb e e refl))
      only)
      (next_element ws p e) (element_order ws p e)
    where
      ws : List ℕ
      ws = widths x.variables.items

      pl : VariableElement
      pl = get_or (places_from 0 (widths x.variables.items)) e d

      number : number_of ws pl.variable pl.place ≡ Some e
      number = go (place_at (widths x.variables.items) 0 e d l)
        where
          none : (v : ℕ) → 0 + v ≡ v
          none v = omega arith

          go : (v : ℕ) × (pl.variable ≡ 0 + v) × (number_of ws v pl.place ≡ Some e) → number_of ws pl.variable pl.place ≡ Some e
          go (v, var, num) = ap (λ (i : ℕ). number_of ws i pl.place) (var ∙ none v) ∙ num

      only : (y : Fault) → IsFault (core net) y → one_element ws p e y ≡ true → y ≡ f.StoredVariable p pl.variable pl.place
      only y is t =
          let (a, b) = and_parts (one_place 9 p y) (is_number e (fault_element ws y)) t in
          let (v, place, same) = at_stored p y a in
          let h = is_has e (number_of ws v place) (sym (ap (λ (z : Fault). is_number e (fault_element ws z)) same) ∙ b) in
          let (i, j) = one_number ws v place pl.variable pl.place e h number in
          same ∙ (ap (λ (k : ℕ). f.StoredVariable p k place) i ∙ ap (f.StoredVariable p pl.variable) j)

  -- an element more, stored or not
  pub element_done : (e : ℕ) (d : VariableElement) (old mid new : List CheckFault) → e < length (places_from 0 (widths x.variables.items))
      → new ≡ mid ++ added_if (stores_element e (body_of x)) (c.StoredVariable p (get_or (places_from 0 (widths x.variables.items)) e d).variable (get_or (places_from 0 (widths x.variables.items)) e d).place)
      → AddsFaults (core net) (elements_below (widths x.variables.items) p e) old mid → AddsFaults (core net) (elements_below (widths x.variables.items) p (e + 1)) old new
  element_done e d old mid new l grown h = go (cases_Bool (stores_element e (body_of x)))
    where
      ws : List ℕ
      ws = widths x.variables.items

      fault : CheckFault
      fault = c.StoredVariable p (get_or (places_from 0 (widths x.variables.items)) e d).variable (get_or (places_from 0 (widths x.variables.items)) e d).place

      go : (stores_element e (body_of x) ≡ true) ⊎ (stores_element e (body_of x) ≡ false) → AddsFaults (core net) (elements_below ws p (e + 1)) old new
      go (inl t) = element_stored e d old mid new l t (grown ∙ ap (λ (b : Bool). mid ++ added_if b fault) t) h
      go (inr t) =
          let same : new ≡ mid = grown ∙ (ap (λ (b : Bool). mid ++ added_if b fault) t ∙ append-nil mid) in
          subst (λ (xs : List CheckFault). AddsFaults (core net) (elements_below ws p (e + 1)) old xs) (sym same) (element_skipped e old mid t h)

  -- all elements
  pub elements_all : (e : ℕ) (old new : List CheckFault) → length (places_from 0 (widths x.variables.items)) ≤ e → AddsFaults (core net) (elements_below (widths x.variables.items) p e) old new
      → AddsFaults (core net) (one_place 9 p) old new
  elements_all e old new l h = record { added = h.added; is = h.is; are = renamed (core net) (elements_below ws p e) (one_place 9 p) (map fault_view h.added) same h.are }
    where
      ws : List ℕ
      ws = widths x.variables.items

      below : (o : Option ℕ) → IsTrue (stores_one (body_of x) o) → ((i : ℕ) → o ≡ Some i → i < e) → below_number e o ≡ true
      below None s small = absurd cc
      below (Some i) s small = lt-ltb i e (small i refl)

      same : (y : Fault) → IsFault (core net) y → elements_below ws p e y ≡ one_place 9 p y
      same y is = go (cases_Bool (one_place 9 p y))
        where
          go : (one_place 9 p y ≡ true) ⊎ (one_place 9 p y ≡ false) → elements_below ws p e y ≡ one_place 9 p y
          go (inr t) = ap (λ (b : Bool). b && below_number e (fault_element ws y)) t ∙ sym t
          go (inl t) =
              let (v, place, at_y) = at_stored p y t in
              let stored : (process (core net) p).stores v place ≡ true = subst (IsFault (core net)) at_y is in
              let b = below (number_of ws v place) (sym (stores_are v place) ∙ stored) (λ i n. let m = number_below ws 0 v place i n in omega arith) in
              and_from (one_place 9 p y) (below_number e (fault_element ws y)) t (ap (λ (z : Fault). below_number e (fault_element ws z)) at_y ∙ b) ∙ sym t

-- of elements that are looked at all at once, this one
pub stored_here : (body : Stmts) (many e : ℕ) (b : Bool) (stored : List Bool) → stored ≡ map (λ k. stores_element k body) (range_with_len 0 many) → e < many
    → b ≡ get_or stored e b → b ≡ stores_element e body
stored_here body many e b stored is l at =
    at ∙ (ap (λ (bs : List Bool). get_or bs e b) is ∙ get_or-map-range_with_len (λ k. stores_element k body) 0 many e e b l (none e))
  where
    none : (i : ℕ) → 0 + i ≡ i
    none i = omega arith
