-- Cuts whose nets are there, and processes whose drivers are one cut.
use Rattle.std.proofs.Common.{◌≡◌, ℕ, zero, suc, ◌+◌, ◌-◌, ◌<◌, ◌≤◌, All, List, [], ◌∷◌, length, get_or, refl, sym, ap, ◌∙◌, arith, append-nil}
use Rattle.std.specs.List.{range_with_len, flat_map}
use Rattle.std.proofs.lemmas.List.{ext_get_or, length-map}
use Rattle.std.proofs.lemmas.List.FromFn.{length-range_with_len, get_or-range_with_len}
use Rattle.rtl_net_groups.specs.declared.cuts.Cut.{Cut}
use Rattle.rtl_net_groups.specs.Cuts as cutting
use Rattle.rtl_net_groups.specs.Groups.{Grouping}
use Rattle.rtl_net.specs.Nets.{NetlistView}
use Rattle.rtl_net.specs.declared.process.Process.{Process}
use Rattle.rtl_kernel.specs.drivers.DriverCuts.{IsCutThere, AreCutsThere, AreDriverCuts}
use Rattle.rtl_kernel.specs.drivers.Transactions.{all_targets, nets_of, targets_of}

-- the nets of a process's drivers are there where those of all are
targets_within : (limit : ℕ) (ps : List Process) → All (λ (q : Process). All (λ (n : ℕ). n < limit) (nets_of q.drives.items)) ps
    → (p : ℕ) → p < length ps → All (λ (n : ℕ). n < limit) (targets_of ps p)
targets_within limit [] all p l = absurd (omega arith)
targets_within limit (q ∷ ps) all zero l = all 0 q (omega arith)
targets_within limit (q ∷ ps) all (suc p) l = targets_within limit ps (λ k d m. all (suc k) d (omega (arith, m))) p (omega (arith, l))

cut_within : (of_net targets : List ℕ) (cut : Cut) → cutting.IsCut of_net targets cut → (limit : ℕ) → All (λ (n : ℕ). n < limit) targets
    → cut.net + cut.len ≤ limit
cut_within of_net targets cut C limit all =
    let last = cut.len - 1 in
    let l : last < cut.len = omega (arith, C.some) in
    let is = C.nets last l in
    let below = all (cut.place + last) 0 (omega (arith, l, C.there)) in
    omega (arith, is, below, l)

module _ (net : NetlistView) (groups : Grouping) where
  pub cut_there : (targets : List ℕ) (cuts : List Cut) (numbers : List ℕ) → AreCutsThere net groups targets cuts numbers
      → (j : ℕ) → j < length cuts → IsCutThere net groups (get_or cuts j cutting.no_cut)
  cut_there targets cuts numbers A j l =
      let C = A.are_cuts.are_cuts j cutting.no_cut l in
      record { some = C.some; there = cut_within groups.of_net targets (get_or cuts j cutting.no_cut) C (length net.types) A.there; in_group = C.in_group }

  pub cuts_there : (c : cutting.Cutting) → All (λ (p : Process). All (λ n. n < length net.types) (nets_of p.drives.items)) net.processes
      → cutting.AreCutsOf groups.of_net (all_targets net.processes) c → AreDriverCuts net groups c
  cuts_there c all A = record {
    each_process = A.each_process ∙ length-map net.processes _;
    each = λ p l. record { there = targets_within (length net.types) net.processes all p l; are_cuts = A.each p (rw length-map l) };
  }

-- ---- one cut

one_cut : (cuts : List Cut) → length cuts ≡ 1 → cuts ≡ get_or cuts 0 cutting.no_cut ∷ []
one_cut [] one = absurd (omega (arith, one))
one_cut (cut ∷ []) one = refl
one_cut (cut ∷ other ∷ cuts) one = absurd (omega (arith, one))

module _ (of_net targets : List ℕ) (cuts : List Cut) (numbers : List ℕ) (A : cutting.AreCuts of_net targets cuts numbers) (one : length cuts ≡ 1) where
  abbrev cut : Cut
  cut = get_or cuts 0 cutting.no_cut

  is_cut : cutting.IsCut of_net targets (get_or cuts 0 cutting.no_cut)
  is_cut = A.are_cuts 0 cutting.no_cut (omega (arith, one))

  places : range_with_len cut.place cut.len ≡ range_with_len 0 (length targets)
  places = sym (append-nil (range_with_len cut.place cut.len)) ∙ sym (ap (flat_map cutting.places_of) (one_cut cuts one)) ∙ A.each_place

  pub len_is : cut.len ≡ length targets
  len_is = sym (length-range_with_len cut.place cut.len) ∙ ap length places ∙ length-range_with_len 0 (length targets)

  pub place_is : cut.place ≡ 0
  place_is =
      let some = is_cut.some in
      let long = len_is in
      let here = get_or-range_with_len cut.place cut.len 0 0 some in
      let there = get_or-range_with_len 0 (length targets) 0 0 (omega (arith, some, long)) in
      omega (arith, sym here ∙ ap (λ (ps : List ℕ). get_or ps 0 0) places ∙ there)

  net_is : (k : ℕ) → k < length targets → get_or targets k 0 ≡ cut.net + k
  net_is k l =
      let first = place_is in
      let long = len_is in
      let at : k ≡ cut.place + k = omega (arith, first) in
      ap (λ (p : ℕ). get_or targets p 0) at ∙ is_cut.nets k (omega (arith, l, long))

  -- its nets stand one behind the other
  pub whole_targets : targets ≡ range_with_len cut.net (length targets)
  whole_targets =
      ext_get_or 0 targets (range_with_len cut.net (length targets)) (sym (length-range_with_len cut.net (length targets)))
      (λ k l. net_is k l ∙ sym (get_or-range_with_len cut.net (length targets) k 0 l))

  -- and all are there
  pub whole_within : (limit : ℕ) → All (λ (n : ℕ). n < limit) targets → cut.net + length targets ≤ limit
  whole_within limit all = rw (← len_is) (cut_within of_net targets cut is_cut limit all)
