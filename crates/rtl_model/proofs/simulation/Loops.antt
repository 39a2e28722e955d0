-- Without loops, every combinational process has a level.
use Rattle.std.proofs.Common.{◌≡◌, ℕ, ◌<◌, ◌≤◌, List, length, get_or, map, Option, Some, None, refl, ap, ◌∙◌, arith, ◌⊎◌, inl, inr}
use Rattle.std.specs.List.{range_with_len}
use Rattle.std.proofs.lemmas.List.{get_or_past}
use Rattle.std.proofs.lemmas.List.FromFn.{length-map-range_with_len}
use Rattle.std.proofs.lemmas.Bool.{cases_lt}
use Rattle.rtl_model.specs.simulation.Netlist.{Edge, IsClockedBy, IsCombinational, Netlist}
use Rattle.rtl_model.specs.simulation.Accepted.{Feeds, HasNoLoop}
use Rattle.rtl_model.specs.simulation.Levels.{IsLevel}
use Rattle.rtl_model.specs.simulation.Laws.{LevelsExist}
use Rattle.rtl_model.proofs.simulation.Order.{get_or-rows}
use Rattle.rtl_model.proofs.basics.Chains.{IsFinite, longest_chain}
use Rattle.rtl_model.proofs.basics.Options.{greatest_of, none_above, met}
use Rattle.rtl_model.proofs.simulation.Decisions.{is_combinational, is_fed}

-- processes along what feeds what
processes_finite : (net : Netlist) → IsFinite (Feeds net) (IsCombinational net) (length net.processes)
processes_finite net = record {
  begins = λ p q f. f.fed;
  below = λ p c. c.0;
  begins_or_not = is_combinational net;
  precedes_or_not = is_fed net;
}

level_exists : (net : Netlist) (A : HasNoLoop net) (p : ℕ) → IsCombinational net p → (level : ℕ) × IsLevel net p level
level_exists net A p c =
    let (n, L) = longest_chain (Feeds net) (IsCombinational net) (length net.processes) (processes_finite net) A p in
    let one : 1 ≤ n = L.longest 1 c in
    (n, record { reached = L.reached (λ z. omega arith); longest = L.longest })

abbrev level_option : (net : Netlist) (A : HasNoLoop net) (p : ℕ) → IsCombinational net p ⊎ (IsCombinational net p → ⊥) → Option ℕ
level_option net A p (inl c) = Some (level_exists net A p c).0
level_option net A p (inr none) = None

levels_of : (net : Netlist) → HasNoLoop net → List (Option ℕ)
levels_of net A = map (λ (p : ℕ). level_option net A p (is_combinational net p)) (range_with_len 0 (length net.processes))

levels_at : (net : Netlist) (A : HasNoLoop net) (p : ℕ) → p < length net.processes → get_or (levels_of net A) p None ≡ level_option net A p (is_combinational net p)
unfolding levels_of
levels_at net A p l = get_or-rows (λ (q : ℕ). level_option net A q (is_combinational net q)) (length net.processes) p None l

pub levels_exist : LevelsExist
unfolding levels_of
levels_exist net A = (
  levels_of net A,
  greatest_of (levels_of net A),
  record {
    each_process = length-map-range_with_len _ 0 (length net.processes);
    combinational = λ p c. comb p c (is_combinational net p) refl;
    clocked = λ p clock edge is. clocked p clock edge is (cases_lt p (length net.processes)) (is_combinational net p) refl;
    none_above = none_above (levels_of net A);
    met = met (levels_of net A);
  },
)
  where
    comb : (p : ℕ) → IsCombinational net p → (d : IsCombinational net p ⊎ (IsCombinational net p → ⊥)) → is_combinational net p ≡ d → (level : ℕ) × (get_or (levels_of net A) p None ≡ Some level) × IsLevel net p level
    comb p c (inl h) e = ((level_exists net A p h).0, levels_at net A p c.0 ∙ ap (level_option net A p) e, (level_exists net A p h).1)
    comb p c (inr none) e = absurd (none c)

    clocked : (p clock : ℕ) (edge : Edge) → IsClockedBy net p clock edge → (p < length net.processes) ⊎ (length net.processes ≤ p) → (d : IsCombinational net p ⊎ (IsCombinational net p → ⊥)) → is_combinational net p ≡ d → get_or (levels_of net A) p None ≡ None
    clocked p clock edge is (inl l) (inl h) e = let k = h.1 in let j = is.1 in cc
    clocked p clock edge is (inl l) (inr none) e = levels_at net A p l ∙ ap (level_option net A p) e
    clocked p clock edge is (inr l) d e = get_or_past (levels_of net A) p None (rw length-map-range_with_len l)
