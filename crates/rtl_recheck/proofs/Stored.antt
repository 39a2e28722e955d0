-- The variable elements of a process, and whether it stores one.
use Rattle.std.proofs.Common.{◌≡◌, ℕ, suc, ◌+◌, ◌<◌, true, false, List, [], ◌∷◌, ◌++◌, length, get_or, take, map, refl, sym, ap, subst, ◌∙◌, ◌⊎◌, inl, inr, arith, Option, Some, None}
use Rattle.std.specs.List.{range_with_len}
use Rattle.std.proofs.lemmas.Bool.{cases_Bool}
use Rattle.std.proofs.lemmas.List.{length-append, length-map, map-append, take_more}
use Rattle.std.proofs.lemmas.List.FromFn.{length-map-range_with_len}
use Rattle.rtl_model.specs.bodies.Stored.{stores_element}
use Rattle.rtl_model.specs.nets.CoreNetlist.{stores_one}
use Rattle.rtl_model.specs.simulation.Netlist as m
use Rattle.rtl_net.specs.declared.process.Process.{Process}
use Rattle.rtl_net.specs.declared.process.Variable.{Variable}
use Rattle.rtl_net.specs.Nets.{NetlistView, process_view, variable_view, body_of}
use Rattle.rtl_net.specs.Elaborated.{IsNet}
use Rattle.rtl_model.specs.nets.FlatNetlist.{ProcessInRange, VariableInRange}
use Rattle.rtl_model.proofs.basics.Lists.{get_or-map_within}
use Rattle.std.specs.Prelude.{All}
use Rattle.rtl_check.specs.declared.variables.VariableElement.{VariableElement}
use Rattle.rtl_net.specs.Core.{core}
use Rattle.rtl_check.specs.Places.{widths, place_in, places_from}
use Rattle.rtl_process_kinds.proofs.Processes.{process_is}
use Rattle.rtl_check.proofs.Elements.{number_of, number_is, number_below, place_at}
use Rattle.rtl_recheck.specs.Kept.{HasFew, StoresNone, StoresNothing}

places_more : (first : ℕ) (ws : List ℕ) (w : ℕ) → length (places_from first (ws ++ w ∷ [])) ≡ length (places_from first ws) + w
places_more first [] w =
    let a = length-append (map (place_in first) (range_with_len 0 w)) (places_from (suc first) []) in
    let b = length-map-range_with_len (place_in first) 0 w in
    omega arith
places_more first (v ∷ ws) w =
    let a = length-append (map (place_in first) (range_with_len 0 v)) (places_from (suc first) (ws ++ w ∷ [])) in
    let b = length-append (map (place_in first) (range_with_len 0 v)) (places_from (suc first) ws) in
    let c = places_more (suc first) ws w in
    omega arith

-- one variable more
pub variable_more : (vs : List Variable) (i : ℕ) (x : Variable) → i < length vs → x ≡ get_or vs i x
    → length (places_from 0 (widths (take (i + 1) vs))) ≡ length (places_from 0 (widths (take i vs))) + length x.starts.items
variable_more vs i x l e =
    ap (λ (ys : List Variable). length (places_from 0 (widths ys))) (take_more vs i x l ∙ ap (λ (y : Variable). take i vs ++ y ∷ []) (sym e))
    ∙ (ap (λ (ws : List ℕ). length (places_from 0 ws)) (map-append (λ (v : Variable). length v.starts.items) (take i vs) (x ∷ []))
    ∙ places_more 0 (widths (take i vs)) (length x.starts.items))

module _ (net : NetlistView) (p : ℕ) (x : Process) (there : p < length net.processes) (at : x ≡ get_or net.processes p x) where
  stores_are : (v t : ℕ) → (m.process (core net) p).stores v t ≡ stores_one (body_of x) (number_of (widths x.variables.items) v t)
  stores_are v t =
      ap (λ (q : m.Process). q.stores v t) (process_is net p x there at) ∙ ap (stores_one (body_of x)) (number_is x.variables.items v t)

  pub none_to : StoresNone (body_of x) (length (places_from 0 (widths x.variables.items))) → StoresNothing (core net) p
  none_to h v t is = go (number_of (widths x.variables.items) v t) refl (sym (stores_are v t) ∙ is)
    where
      go : (o : Option ℕ) → number_of (widths x.variables.items) v t ≡ o → stores_one (body_of x) o ≡ true → ⊥
      go None e s = cc
      go (Some i) e s = let k : true ≡ false = sym s ∙ h i (number_below (widths x.variables.items) 0 v t i e) in cc

  pub none_from : StoresNothing (core net) p → StoresNone (body_of x) (length (places_from 0 (widths x.variables.items)))
  none_from none e l = go (cases_Bool (stores_element e (body_of x))) (place_at (widths x.variables.items) 0 e first l)
    where
      first : VariableElement
      first = place_in 0 0

      go : (stores_element e (body_of x) ≡ true) ⊎ (stores_element e (body_of x) ≡ false)
          → (v : ℕ) × ((get_or (places_from 0 (widths x.variables.items)) e first).variable ≡ 0 + v)
          × (number_of (widths x.variables.items) v (get_or (places_from 0 (widths x.variables.items)) e first).place ≡ Some e) → stores_element e (body_of x) ≡ false
      go (inl t) (v, var, num) =
          let place = (get_or (places_from 0 (widths x.variables.items)) e first).place in
          absurd (none v place (stores_are v place ∙ (ap (stores_one (body_of x)) num ∙ t)))
      go (inr t) w = t

  -- a vector has 64 elements at most
  pub few : IsNet net → All HasFew x.variables.items
  few elaborated v d l =
      let same : get_or (map process_view net.processes) p (process_view x) ≡ process_view x = get_or-map_within process_view net.processes p x (process_view x) there ∙ ap process_view (sym at) in
      let in_range : ProcessInRange net.types (get_or (map process_view net.processes) p (process_view x)) = elaborated.in_range.processes p (process_view x) (rw (length-map net.processes process_view) there) in
      let variables = (subst (ProcessInRange net.types) same in_range).variables in
      let one : VariableInRange (get_or (map variable_view x.variables.items) v (variable_view d)) = variables v (variable_view d) (rw (length-map x.variables.items variable_view) l) in
      (subst VariableInRange (get_or-map_within variable_view x.variables.items v d (variable_view d) l) one).width.1
