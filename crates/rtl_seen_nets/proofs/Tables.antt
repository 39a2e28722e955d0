-- What was found for the drivers of all processes.
use Rattle.std.proofs.Common.{◌≡◌, ℕ, zero, suc, ◌+◌, ◌<◌, ◌≤◌, Bool, true, List, [], ◌∷◌, ◌++◌, length, get_or, map, take, Option, Some, None, refl, sym, ap, ◌∙◌, arith}
use Rattle.std.proofs.lemmas.List.{take_all, map_more, map_push}
use Rattle.std.proofs.lemmas.Bool.Decides.{nat_tests}
use Rattle.std.specs.Global.{Global}
use Rattle.std.specs.Prelude.{nat_lt, if◌then◌else◌, slice_get, Vec}
use Rattle.rtl_model.specs.bodies.Looks.{looked_nets}
use Rattle.rtl_model.specs.nets.FlatNetlist.{flat_sources}
use Rattle.rtl_model.specs.simulation.Netlist.{Source, Driver, Idle}
use Rattle.rtl_net.specs.declared.process.Process.{Process}
use Rattle.rtl_net.specs.Nets.{NetlistView, flat, body_of}
use Rattle.rtl_seen_nets.specs.Behind.{lowest_at, found_in, found_by}
use Rattle.rtl_seen_nets.specs.Drivers.{looked_in, looked_by, seen_among}
use Rattle.rtl_seen_nets.specs.Lowest.{lowest}

abbrev pub by-places : Vec (Option ℕ) Global → ℕ → Option ℕ
by-places places place = lowest_at places.items place

abbrev at-of : Option (ℕ → Option ℕ) → (place : ℕ) → Option ℕ
at-of None place = None
at-of (Some places) place = places place

found-is : (found : List (Vec (Option ℕ) Global)) (p place : ℕ) → found_in (slice_get found p) place ≡ at-of (slice_get (map by-places found) p) place
found-is [] p place = refl
found-is (places ∷ found) zero place = refl
found-is (places ∷ found) (suc p) place = found-is found p place

module _ (wanted : List Bool) where
  abbrev pub of-process : Process → ℕ → Option ℕ
  of-process x place = lowest wanted (looked_nets (body_of x) place)

  process-is : (processes : List Process) (p place : ℕ) → at-of (slice_get (map of-process processes) p) place ≡ lowest wanted (looked_in (slice_get processes p) place)
  process-is [] p place = refl
  process-is (x ∷ processes) zero place = refl
  process-is (x ∷ processes) (suc p) place = process-is processes p place

  pub goes_on : (processes : List Process) (i : ℕ) (found new : List (Vec (Option ℕ) Global)) (places : Vec (Option ℕ) Global) (d : Process) → map by-places found ≡ map of-process (take i processes) → i < length processes
      → ((place : ℕ) → by-places places place ≡ of-process (get_or processes i d) place) → new ≡ found ++ places ∷ [] → map by-places new ≡ map of-process (take (i + 1) processes)
  goes_on processes i found new places d so l is n =
      ap (map by-places) n ∙ (map_push by-places found places ∙ ((λ j. so j ++ (λ place. is place j) ∷ []) ∙ sym (map_more of-process processes i d l)))

  pub ends : (processes : List Process) (i : ℕ) (found : List (Vec (Option ℕ) Global)) → map by-places found ≡ map of-process (take i processes) → length processes ≤ i
      → (p place : ℕ) → found_in (slice_get found p) place ≡ lowest wanted (looked_in (slice_get processes p) place)
  ends processes i found so l p place =
      found-is found p place ∙ (ap (λ (fs : List (ℕ → Option ℕ)). at-of (slice_get fs p) place) (so ∙ ap (map of-process) (take_all i processes l)) ∙ process-is processes p place)

  module _ (net : NetlistView) (found : List (Vec (Option ℕ) Global)) (are : (p place : ℕ) → found_in (slice_get found p) place ≡ lowest wanted (looked_in (slice_get net.processes p) place)) where
    by-source : (sources : List Source) → found_by found sources ≡ lowest wanted (looked_by net sources)
    by-source [] = refl
    by-source (Driver p place ∷ sources) = are p place
    by-source (Idle start ∷ sources) = refl

    pub net-is : (n : ℕ) → n < length net.types → found_by found (flat_sources (flat net) n) ≡ seen_among net wanted n
    net-is n l =
        let there : nat_lt n (length net.types) ≡ true = grind (arith, nat_tests, l) in
        by-source (flat_sources (flat net) n) ∙ sym (ap (λ (b : Bool). lowest wanted (if b then looked_by net (flat_sources (flat net) n) else [])) there)
