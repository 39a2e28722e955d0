-- Each driver is listed once among the sources of its net.
use Rattle.std.proofs.Common.{◌≡◌, ℕ, zero, suc, ◌+◌, ◌<◌, Bool, true, false, cond, ◌&&◌, ◌==◌, List, [], ◌∷◌, ◌++◌, map, Some, refl, sym, ap, ◌∙◌, arith}
use Rattle.std.specs.Prelude.{slice_get, slice_index_or, count_by}
use Rattle.std.proofs.lemmas.List.Sums.{sum_by-append, sum_by-cons}
use Rattle.std.proofs.lemmas.List.FromFn.{get_or-map-range_with_len}
use Rattle.std.proofs.lemmas.Bool.{eq-eqb, ne_eqb}
use Rattle.std.proofs.lemmas.Option.{slice_get-get_or}
use Rattle.rtl_model.specs.nets.FlatNetlist.{FlatProcess, no_flat_process, process_at, targets, drivers_of, all_drivers_of}
use Rattle.rtl_model.specs.simulation.Netlist.{Source, Driver, Idle}
use Rattle.rtl_model.proofs.nets.Sources.{source_is_driver}
use Rattle.vhdl_elab_rules.specs.Wiring.{idle_values, flat_net}
use Rattle.vhdl_elab_rules.specs.laws.Sources.{is_driver, EachSourceIsListed, EachIdlePortIsListed}

abbrev one : Bool → ℕ
one b = cond b 1 0

count-append : (p k : ℕ) (xs ys : List Source) → count_by (is_driver p k) (xs ++ ys) ≡ count_by (is_driver p k) xs + count_by (is_driver p k) ys
count-append p k xs ys = sum_by-append (λ s. one (is_driver p k s)) xs ys

no-idle : (p k : ℕ) (vs : List ℕ) → count_by (is_driver p k) (map Idle vs) ≡ 0
no-idle p k [] = refl
no-idle p k (v ∷ vs) = sum_by-cons (λ s. one (is_driver p k s)) (Idle v) (map Idle vs) ∙ ap (λ m. 0 + m) (no-idle p k vs)

same-number : (n : ℕ) → (n == n) ≡ true
same-number n = eq-eqb n n refl

-- ---- the drivers of one process

step-is : (n q k : ℕ) (net : ℕ) (nets : List ℕ) (p place : ℕ) → count_by (is_driver p place) (drivers_of n q k (net ∷ nets))
    ≡ cond (net == n) (one ((q == p) && (k == place))) 0 + count_by (is_driver p place) (drivers_of n q (suc k) nets)
step-is n q k net nets p place = go (net == n)
  where
    go : (b : Bool) → count_by (is_driver p place) (cond b (Driver q k ∷ drivers_of n q (suc k) nets) (drivers_of n q (suc k) nets))
        ≡ cond b (one ((q == p) && (k == place))) 0 + count_by (is_driver p place) (drivers_of n q (suc k) nets)
    go true = sum_by-cons (λ s. one (is_driver p place s)) (Driver q k) (drivers_of n q (suc k) nets)
    go false = omega arith

-- of another process, or at a later place
others : (n q k : ℕ) (nets : List ℕ) (p place : ℕ) → ((j : ℕ) → ((q == p) && (k + j == place)) ≡ false) → count_by (is_driver p place) (drivers_of n q k nets) ≡ 0
others n q k [] p place h = refl
others n q k (net ∷ nets) p place h =
    let first : ((q == p) && (k == place)) ≡ false = ap (λ i. (q == p) && (i == place)) (let e : k ≡ k + 0 = omega arith in e) ∙ h 0 in
    let rest : count_by (is_driver p place) (drivers_of n q (suc k) nets) ≡ 0 =
    others n q (suc k) nets p place (λ j. ap (λ i. (q == p) && (i == place)) (let e : suc k + j ≡ k + suc j = omega arith in e) ∙ h (suc j)) in
    step-is n q k net nets p place
    ∙ ap (λ (b : Bool). cond (net == n) (one b) 0 + count_by (is_driver p place) (drivers_of n q (suc k) nets)) first
    ∙ ap (λ m. cond (net == n) 0 0 + m) rest ∙ same (net == n)
  where
    same : (b : Bool) → cond b 0 0 + 0 ≡ 0
    same true = refl
    same false = refl

not-both : (b : Bool) → (b && false) ≡ false
not-both true = refl
not-both false = refl

later : (q p k place : ℕ) → place < k → (j : ℕ) → ((q == p) && (k + j == place)) ≡ false
later q p k place h j =
    let ne : (k + j ≡ place → ⊥) = λ e. omega (arith, e, h) in
    ap (λ (b : Bool). (q == p) && b) (ne_eqb (k + j) place ne) ∙ not-both (q == p)

another : (q p k place : ℕ) → (q ≡ p → ⊥) → (j : ℕ) → ((q == p) && (k + j == place)) ≡ false
another q p k place h j = ap (λ (b : Bool). b && (k + j == place)) (ne_eqb q p h)

-- at its place
in-process : (n p k : ℕ) (nets : List ℕ) (i : ℕ) → slice_get nets i ≡ Some n → count_by (is_driver p (k + i)) (drivers_of n p k nets) ≡ 1
in-process n p k [] i h = absurd cc
in-process n p k (net ∷ nets) zero h =
    let is : net ≡ n = cc in
    let at : k + 0 ≡ k = omega arith in
    ap (λ i. count_by (is_driver p i) (drivers_of n p k (net ∷ nets))) at
    ∙ step-is n p k net nets p k
    ∙ ap (λ (b : Bool). cond b (one ((p == p) && (k == k))) 0 + count_by (is_driver p k) (drivers_of n p (suc k) nets)) (eq-eqb net n is)
    ∙ ap (λ (b : Bool). one (b && (k == k)) + count_by (is_driver p k) (drivers_of n p (suc k) nets)) (same-number p)
    ∙ ap (λ (b : Bool). one b + count_by (is_driver p k) (drivers_of n p (suc k) nets)) (same-number k)
    ∙ ap (λ m. 1 + m) (others n p (suc k) nets p k (later p p (suc k) k (omega arith)))
in-process n p k (net ∷ nets) (suc i) h =
    let at : k + suc i ≡ suc k + i = omega arith in
    let first : (k == k + suc i) ≡ false = ne_eqb k (k + suc i) (λ e. omega (arith, e)) in
    step-is n p k net nets p (k + suc i)
    ∙ ap (λ (b : Bool). cond (net == n) (one ((p == p) && b)) 0 + count_by (is_driver p (k + suc i)) (drivers_of n p (suc k) nets)) first
    ∙ ap (λ (b : Bool). cond (net == n) (one b) 0 + count_by (is_driver p (k + suc i)) (drivers_of n p (suc k) nets)) (not-both (p == p))
    ∙ ap (λ m. cond (net == n) 0 0 + count_by (is_driver p m) (drivers_of n p (suc k) nets)) at
    ∙ ap (λ m. cond (net == n) 0 0 + m) (in-process n p (suc k) nets i h) ∙ same (net == n)
  where
    same : (b : Bool) → cond b 0 0 + 1 ≡ 1
    same true = refl
    same false = refl

-- ---- the drivers of all processes

none-add : (m : ℕ) → 0 + m ≡ m
none-add m = omega arith

in-later : (n q : ℕ) (ps : List FlatProcess) (p place : ℕ) → p < q → count_by (is_driver p place) (all_drivers_of n q ps) ≡ 0
in-later n q [] p place h = refl
in-later n q (x ∷ xs) p place h =
    count-append p place (drivers_of n q 0 (targets x)) (all_drivers_of n (suc q) xs)
    ∙ ap (λ m. m + count_by (is_driver p place) (all_drivers_of n (suc q) xs)) (others n q 0 (targets x) p place (another q p 0 place (λ e. omega (arith, e, h))))
    ∙ none-add (count_by (is_driver p place) (all_drivers_of n (suc q) xs)) ∙ in-later n (suc q) xs p place (omega (arith, h))

in-all : (n q : ℕ) (ps : List FlatProcess) (i place : ℕ) → slice_get (targets (slice_index_or ps i no_flat_process)) place ≡ Some n
    → count_by (is_driver (q + i) place) (all_drivers_of n q ps) ≡ 1
in-all n q [] i place h = absurd cc
in-all n q (x ∷ xs) zero place h =
    let at : q + 0 ≡ q = omega arith in
    let from : 0 + place ≡ place = omega arith in
    ap (λ p. count_by (is_driver p place) (all_drivers_of n q (x ∷ xs))) at
    ∙ count-append q place (drivers_of n q 0 (targets x)) (all_drivers_of n (suc q) xs)
    ∙ ap (λ m. count_by (is_driver q m) (drivers_of n q 0 (targets x)) + count_by (is_driver q place) (all_drivers_of n (suc q) xs)) (sym from)
    ∙ ap (λ m. m + count_by (is_driver q place) (all_drivers_of n (suc q) xs)) (in-process n q 0 (targets x) place h)
    ∙ ap (λ m. 1 + m) (in-later n (suc q) xs q place (omega arith))
in-all n q (x ∷ xs) (suc i) place h =
    let at : q + suc i ≡ suc q + i = omega arith in
    count-append (q + suc i) place (drivers_of n q 0 (targets x)) (all_drivers_of n (suc q) xs)
    ∙ ap (λ m. m + count_by (is_driver (q + suc i) place) (all_drivers_of n (suc q) xs)) (others n q 0 (targets x) (q + suc i) place (another q (q + suc i) 0 place (λ e. omega (arith, e))))
    ∙ none-add (count_by (is_driver (q + suc i) place) (all_drivers_of n (suc q) xs)) ∙ ap (λ p. count_by (is_driver p place) (all_drivers_of n (suc q) xs)) at
    ∙ in-all n (suc q) xs i place h

pub sources-are-listed : EachSourceIsListed
sources-are-listed net = record {
  once = λ n p place h.
      let start : 0 + p ≡ p = omega arith in
      count-append p place (all_drivers_of n 0 net.processes) (map Idle (slice_index_or net.idle n []))
      ∙ ap (λ m. count_by (is_driver p place) (all_drivers_of n 0 net.processes) + m) (no-idle p place (slice_index_or net.idle n []))
      ∙ ap (λ m. count_by (is_driver m place) (all_drivers_of n 0 net.processes) + 0) (sym start)
      ∙ ap (λ m. m + 0) (in-all n 0 net.processes p place h);
  drives_it = λ n p place h.
      let r = source_is_driver net n p place h in
      slice_get-get_or (targets (process_at net p)) place 0 r.0 ∙ ap Some r.1;
}

pub idle-ports-are-listed : EachIdlePortIsListed
unfolding flat_net
idle-ports-are-listed d n h = get_or-map-range_with_len (idle_values d) 0 d.nets n n [] h (omega arith)
