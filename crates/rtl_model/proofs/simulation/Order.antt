-- The Runs of one cycle end in one state, whatever their order.
use Rattle.std.proofs.Common.{subst, ◌≤◌, ◌≡◌, ℕ, zero, suc, ◌<◌, Bool, true, false, cond, List, [], ◌∷◌, length, get_or, map, Option, refl, sym, ap, ◌∙◌, arith, set, ◌⊎◌, inl, inr}
use Rattle.std.specs.List.{range_with_len}
use Rattle.std.proofs.lemmas.List.{length-set, get_or-set_same, get_or-set_other, get_or_past}
use Rattle.std.proofs.lemmas.List.FromFn.{length-map-range_with_len, get_or-map-range_with_len, fill_by_all}
use Rattle.std.proofs.lemmas.Bool.{cases_lt, cases_eq, cond-false, false_from_ne_true}
use Rattle.rtl_model.specs.simulation.Netlist.{Netlist, process}
use Rattle.rtl_model.specs.simulation.Cycle.{over, after_run, State}
use Rattle.rtl_model.specs.simulation.Moments.{HasNoneToRun, HasRun, Runs}
use Rattle.rtl_model.specs.simulation.Laws.{OrderIsFree}

abbrev pub waits : State → ℕ → Bool
waits s p = get_or s.waiting p false

-- process p's transactions after all Runs that are left
abbrev pub row_after : Netlist → State → ℕ → List (Option ℕ)
row_after net s p = cond (waits s p) (over ((process net p).effect s.before s.now) (get_or s.pending p [])) (get_or s.pending p [])

-- the state after all Runs that are left
abbrev pub finished : Netlist → State → State
finished net s = record s { pending = map (row_after net s) (range_with_len 0 (length s.pending)); waiting = map (λ (p : ℕ). false) (range_with_len 0 (length s.waiting)) }

pub get_or-rows : {X : Type 0} (f : ℕ → X) (n p : ℕ) (d : X) → p < n → get_or (map f (range_with_len 0 n)) p d ≡ f p
get_or-rows f n p d h = get_or-map-range_with_len f 0 n p p d h (omega arith)

same_tables : {X : Type 0} (f g : ℕ → X) (n m : ℕ) (d : X) → n ≡ m → ((p : ℕ) → p < n → f p ≡ g p) → map f (range_with_len 0 n) ≡ map g (range_with_len 0 m)
same_tables f g n m d e h = fill_by_all g (map f (range_with_len 0 n)) m d (length-map-range_with_len f 0 n ∙ e) (λ k l. get_or-rows f n k d (omega arith) ∙ h k (omega arith))

pub waits_in : (todo : List Bool) (p : ℕ) → get_or todo p false ≡ true → p < length todo
waits_in [] p h = cc
waits_in (b ∷ todo) zero h = omega arith
waits_in (b ∷ todo) (suc p) h = let k : p < length todo = waits_in todo p h in omega arith

-- a row of pend, after the Runs left, over any effects
abbrev row_of : (ℕ → List (Option ℕ)) → List Bool → List (List (Option ℕ)) → ℕ → List (Option ℕ)
row_of e todo pend p = cond (get_or todo p false) (over (e p) (get_or pend p [])) (get_or pend p [])

row_same : (e : ℕ → List (Option ℕ)) (todo : List Bool) (pend : List (List (Option ℕ))) (p : ℕ) → get_or todo p false ≡ true → p < length pend
    → row_of e (set todo p false) (set pend p (over (e p) (get_or pend p []))) p ≡ row_of e todo pend p
row_same e todo pend p h l =
    let k : p < length todo = waits_in todo p h in
    rw (get_or-set_same todo p false false k, get_or-set_same pend p (over (e p) (get_or pend p [])) [] l, h) refl

row_other : (e : ℕ → List (Option ℕ)) (todo : List Bool) (pend : List (List (Option ℕ))) (p q : ℕ) (x : List (Option ℕ)) → (q ≡ p → ⊥)
    → row_of e (set todo p false) (set pend p x) q ≡ row_of e todo pend q
row_other e todo pend p q x n = rw (get_or-set_other todo p q false false n, get_or-set_other pend p q x [] n) refl

row_ran : (net : Netlist) (p : ℕ) (s : State) → waits s p ≡ true → (q : ℕ) → q < length s.pending → row_after net (after_run net p s) q ≡ row_after net s q
row_ran net p s h q l =
    let e : ℕ → List (Option ℕ) = λ r. (process net r).effect s.before s.now in
    let x : List (Option ℕ) = over (e p) (get_or s.pending p []) in
    go e x (cases_eq q p)
  where
    go : (e : ℕ → List (Option ℕ)) (x : List (Option ℕ)) → (q ≡ p) ⊎ (q ≡ p → ⊥) → row_of e (set s.waiting p false) (set s.pending p (over (e p) (get_or s.pending p []))) q ≡ row_of e s.waiting s.pending q
    go e x (inl r) = let k : p < length s.pending = omega arith in rw r (row_same e s.waiting s.pending p h k)
    go e x (inr n) = row_other e s.waiting s.pending p q (over (e p) (get_or s.pending p [])) n

finished_ran : (net : Netlist) (p : ℕ) (s : State) → waits s p ≡ true → finished net (after_run net p s) ≡ finished net s
finished_ran net p s h =
    let rows = same_tables (row_after net (after_run net p s)) (row_after net s) (length (after_run net p s).pending) (length s.pending) [] (length-set s.pending p _) (λ q l. row_ran net p s h q (rw length-set at l)) in
    let marks = ap (λ (n : ℕ). map (λ (q : ℕ). false) (range_with_len 0 n)) (length-set s.waiting p false) in
    λ i. record { before = s.before; now = s.now; drivers = s.drivers; pending = rows i; waiting = marks i }

finished_none : (net : Netlist) (s : State) → HasNoneToRun s → finished net s ≡ s
finished_none net s h =
    let rows = sym (fill_by_all (row_after net s) s.pending (length s.pending) [] refl (λ k l. sym (cond-false (waits s k) _ _ (false_from_ne_true (waits s k) (h k))))) in
    let marks = sym (fill_by_all (λ (q : ℕ). false) s.waiting (length s.waiting) false refl (λ k l. false_from_ne_true (waits s k) (h k))) in
    λ i. record { before = s.before; now = s.now; drivers = s.drivers; pending = rows i; waiting = marks i }

pub finished_done : (net : Netlist) (s : State) → HasNoneToRun (finished net s)
finished_done net s p r = go (cases_lt p (length s.waiting))
  where
    go : (p < length s.waiting) ⊎ (length s.waiting ≤ p) → ⊥
    go (inl l) = let e = get_or-rows (λ (q : ℕ). false) (length s.waiting) p false l in cc
    go (inr l) = let e = get_or_past (finished net s).waiting p false (rw length-map-range_with_len l) in cc

pub Runs-finished : (net : Netlist) (order : List ℕ) (s t : State) → Runs net order s t → t ≡ finished net s
Runs-finished net [] s t r = r.1 ∙ sym (finished_none net s r.0)
Runs-finished net (p ∷ order) s t r = Runs-finished net order (after_run net p s) t r.1 ∙ finished_ran net p s r.0

pub Runs-done : (net : Netlist) (order : List ℕ) (s t : State) → Runs net order s t → HasNoneToRun t
Runs-done net order s t r = subst (λ (u : State). HasNoneToRun u) (sym (Runs-finished net order s t r)) (finished_done net s)

pub HasRun-finished : (net : Netlist) (s t : State) → HasRun net s t → t ≡ finished net s
HasRun-finished net s t (order, r) = Runs-finished net order s t r

pub HasRun-done : (net : Netlist) (s t : State) → HasRun net s t → HasNoneToRun t
HasRun-done net s t (order, r) = Runs-done net order s t r

pub order_is_free : OrderIsFree
order_is_free net s t u r q = HasRun-finished net s t r ∙ sym (HasRun-finished net s u q)
