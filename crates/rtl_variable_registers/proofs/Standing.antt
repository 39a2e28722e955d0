-- The nets that there were have the sources that they had, each process its number, and each kept element a net.
use Rattle.std.proofs.Common.{◌≡◌, ℕ, zero, suc, ◌+◌, ◌<◌, List, [], ◌∷◌, ◌++◌, length, flat_map, take, slice_index, slice_index_or, refl, ap, ◌∙◌, subst, arith, All, Contains}
use Rattle.std.specs.Option.{option_map}
use Rattle.std.proofs.lemmas.List.{length-append, take_at}
use Rattle.std.proofs.lemmas.List.Elements.{All-head, All-tail, All-contains}
use Rattle.std.proofs.lemmas.Option.{slice_get-map, get_or_from_slice_get}
use Rattle.rtl_model.specs.bodies.Types.{ElementType}
use Rattle.rtl_model.specs.nets.FlatNetlist.{FlatProcess, ProcessInRange, element_starts, no_flat_process, process_at}
use Rattle.rtl_model.proofs.basics.Lists.{Contains-none}
use Rattle.rtl_variable_registers.specs.Laws.{EachStandsWhereItDid}
use Rattle.rtl_variable_registers.specs.Nets.{kept_processes}
use Rattle.rtl_variable_registers.specs.Processes.{kept_elements, kept_starts, rank_in, drivers_from, kept_process}
use Rattle.rtl_variable_registers.proofs.Connected.{same_sources, new_source, new_start}
use Rattle.rtl_variable_registers.proofs.InRange.{at_place}
use Rattle.rtl_variable_registers.proofs.Staying.{drivers_are, wakes_stay}
use Rattle.rtl_variable_registers.proofs.Tables.{place_within}

each_process : (first : ℕ) (ps : List FlatProcess) (k : ℕ) → k < length ps
    → slice_index_or (kept_processes first ps) k no_flat_process ≡ kept_process (first + length (flat_map kept_elements (take k ps))) (slice_index_or ps k no_flat_process)
each_process first [] k l = absurd (omega arith)
each_process first (p ∷ ps) zero l = let s : first ≡ first + 0 = omega arith in ap (λ n. kept_process n p) s
each_process first (p ∷ ps) (suc k) l =
    let s : first + length (kept_elements p) + length (flat_map kept_elements (take k ps)) ≡ first + length (kept_elements p ++ flat_map kept_elements (take k ps)) =
    omega (arith, length-append (kept_elements p) (flat_map kept_elements (take k ps))) in
    each_process (first + length (kept_elements p)) ps k (omega arith) ∙ ap (λ n. kept_process n (slice_index_or ps k no_flat_process)) s

-- what a kept element starts with
pub start_of : (p : FlatProcess) (e : ℕ) → Contains (kept_elements p) e → slice_index (kept_starts p) (rank_in (kept_elements p) e) ≡ slice_index (element_starts p.variables) e
start_of p e c =
    let k = rank_in (kept_elements p) e in
    get_or_from_slice_get (kept_starts p) k (slice_index (element_starts p.variables) e) 0
    (slice_get-map (slice_index (element_starts p.variables)) (kept_elements p) k ∙ ap (option_map (slice_index (element_starts p.variables))) (at_place (kept_elements p) e c))

old_wakes : (types : List ElementType) (first : ℕ) (ps : List FlatProcess) → All (ProcessInRange types) ps → (k n : ℕ) → Contains (slice_index_or (kept_processes first ps) k no_flat_process).wakes n
    → n < length types
old_wakes types first [] h k n c = absurd (Contains-none n c)
old_wakes types first (p ∷ ps) h zero n c =
    All-contains (λ w. w < length types) p.wakes n (All-head (ProcessInRange types) p ps h).wakes (subst (λ ns. Contains ns n) (wakes_stay first p) c)
old_wakes types first (p ∷ ps) h (suc k) n c = old_wakes types (first + length (kept_elements p)) ps (All-tail (ProcessInRange types) p ps h) k n c

pub stands_where_it_did : EachStandsWhereItDid
stands_where_it_did net r = record {
  sources = same_sources net r;
  processes = each_process (length net.types) net.processes;
  drivers = λ first p. ap (take (length p.drivers)) (drivers_are first p) ∙ take_at p.drivers (drivers_from first (kept_starts p)) (length p.drivers) refl;
  wakes = wakes_stay;
  wakes_below = old_wakes net.types (length net.types) net.processes r.processes;
  elements = λ k e l c.
      let p = process_at net k in
      let w = place_within (kept_elements p) e c in
      record { start = new_start net r k (rank_in (kept_elements p) e) l w ∙ start_of p e c; source = new_source net r k (rank_in (kept_elements p) e) l w };
}
