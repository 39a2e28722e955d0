-- Rows of drivers and transactions, cut to the drivers that a process had.
use Rattle.std.proofs.Common.{◌≡◌, ℕ, zero, suc, ◌<◌, ◌≤◌, Bool, ◌||◌, List, [], ◌∷◌, length, map, take, slice_index_or, slice_set, Option, Some, None, unwrap_or, ◌+◌, refl, sym, ap, ◌∙◌, arith, Contains}
use Rattle.std.specs.List.{list_any, range_with_len}
use Rattle.std.proofs.lemmas.List.{get_or-take, length-take-le, take-map, same_lists}
use Rattle.std.proofs.lemmas.List.FromFn.{length-map-range_with_len, get_or-map-range_with_len}
use Rattle.rtl_model.specs.nets.FlatNetlist.{FlatProcess, no_flat_process}
use Rattle.rtl_model.specs.simulation.Cycle.{over, driver_values, all_driver_values, none_pending}
use Rattle.rtl_model.specs.simulation.Machine.{entry_or}
use Rattle.rtl_model.proofs.basics.Lists.{Contains-first}
use Rattle.rtl_variable_registers.specs.Beside.{old_rows}
use Rattle.rtl_variable_registers.specs.Nets.{kept_processes}
use Rattle.rtl_variable_registers.specs.Processes.{kept_elements, drivers_from}
use Rattle.rtl_variable_registers.proofs.Putting.{Contains-more}
use Rattle.rtl_variable_registers.proofs.Values.{on_both}

abbrev pub drivers_at : List FlatProcess → ℕ → ℕ
drivers_at ps k = length (slice_index_or ps k no_flat_process).drivers

-- ---- one row

pub unwrap_is : (o : Option ℕ) (v : ℕ) → unwrap_or o v ≡ entry_or o v
unwrap_is None v = refl
unwrap_is (Some w) v = refl

pub length-drivers_from : (n : ℕ) (vs : List ℕ) → length (drivers_from n vs) ≡ length vs
length-drivers_from n [] = refl
length-drivers_from n (v ∷ vs) = ap suc (length-drivers_from (suc n) vs)

take_none : {X : Type 0} (n : ℕ) → [] ≡ take {A = X} n []
take_none zero = refl
take_none (suc n) = refl

pub take_over : (n : ℕ) (xs ys : List (Option ℕ)) → take n (over xs ys) ≡ over (take n xs) (take n ys)
take_over zero xs ys = refl
take_over (suc n) [] ys = refl
take_over (suc n) (x ∷ xs) [] = refl
take_over (suc n) (Some v ∷ xs) (y ∷ ys) = ap (λ zs. Some v ∷ zs) (take_over n xs ys)
take_over (suc n) (None ∷ xs) (y ∷ ys) = ap (λ zs. y ∷ zs) (take_over n xs ys)

take_driven : (n : ℕ) (xs : List (Option ℕ)) (ys : List ℕ) → driver_values (take n xs) (take n ys) ≡ take n (driver_values xs ys)
take_driven zero xs ys = refl
take_driven (suc n) [] ys = refl
take_driven (suc n) (x ∷ xs) [] = refl
take_driven (suc n) (Some v ∷ xs) (y ∷ ys) = ap (λ zs. v ∷ zs) (take_driven n xs ys)
take_driven (suc n) (None ∷ xs) (y ∷ ys) = ap (λ zs. y ∷ zs) (take_driven n xs ys)

pub nothing_taken : (n k : ℕ) (xs : List (Option ℕ)) → slice_index_or xs k None ≡ None → slice_index_or (take n xs) k None ≡ None
nothing_taken zero k xs h = refl
nothing_taken (suc n) k [] h = refl
nothing_taken (suc n) zero (x ∷ xs) h = h
nothing_taken (suc n) (suc k) (x ∷ xs) h = nothing_taken n k xs h

-- ---- all rows

pub as_many_processes : (first : ℕ) (ps : List FlatProcess) → length (kept_processes first ps) ≡ length ps
as_many_processes first [] = refl
as_many_processes first (p ∷ ps) = ap suc (as_many_processes (first + length (kept_elements p)) ps)

pub old_rows_at : {X : Type 0} (ps : List FlatProcess) (rows : List (List X)) (k : ℕ) → slice_index_or (old_rows ps rows) k [] ≡ take (drivers_at ps k) (slice_index_or rows k [])
old_rows_at [] rows k = refl
old_rows_at (p ∷ ps) [] k = take_none (drivers_at (p ∷ ps) k)
old_rows_at (p ∷ ps) (row ∷ rows) zero = refl
old_rows_at (p ∷ ps) (row ∷ rows) (suc k) = old_rows_at ps rows k

pub old_rows_set : {X : Type 0} (ps : List FlatProcess) (rows : List (List X)) (k : ℕ) (row : List X) → slice_set (old_rows ps rows) k (take (drivers_at ps k) row) ≡ old_rows ps (slice_set rows k row)
old_rows_set [] rows k row = refl
old_rows_set (p ∷ ps) [] k row = refl
old_rows_set (p ∷ ps) (x ∷ rows) zero row = refl
old_rows_set (p ∷ ps) (x ∷ rows) (suc k) row = ap (λ zs. take (length p.drivers) x ∷ zs) (old_rows_set ps rows k row)

pub old_rows_driven : (ps : List FlatProcess) (pending : List (List (Option ℕ))) (rows : List (List ℕ))
    → all_driver_values (old_rows ps pending) (old_rows ps rows) ≡ old_rows ps (all_driver_values pending rows)
old_rows_driven [] pending rows = refl
old_rows_driven (p ∷ ps) [] rows = refl
old_rows_driven (p ∷ ps) (a ∷ pending) [] = refl
old_rows_driven (p ∷ ps) (a ∷ pending) (row ∷ rows) = on_both (λ x (xs : List (List ℕ)). x ∷ xs) (take_driven (length p.drivers) a row) (old_rows_driven ps pending rows)

pub old_rows_none : (ps : List FlatProcess) (pending : List (List (Option ℕ))) → none_pending (old_rows ps pending) ≡ old_rows ps (none_pending pending)
old_rows_none [] pending = refl
old_rows_none (p ∷ ps) [] = refl
old_rows_none (p ∷ ps) (a ∷ pending) =
    on_both (λ x (xs : List (List (Option ℕ))). x ∷ xs) (sym (take-map {Y = Option ℕ} (λ x. None) (length p.drivers) a)) (old_rows_none ps pending)

-- ---- tables and tests

pub map_taken : {X : Type 0} (m k : ℕ) (f g : ℕ → X) → m ≤ k → ((n : ℕ) → n < m → f n ≡ g n) → map f (range_with_len 0 m) ≡ take m (map g (range_with_len 0 k))
map_taken m k f g l h =
    let short = length-map-range_with_len f 0 m in
    let long = length-map-range_with_len g 0 k in
    let taken : length (take m (map g (range_with_len 0 k))) ≡ m = length-take-le m (map g (range_with_len 0 k)) (omega arith) in
    same_lists (map f (range_with_len 0 m)) (take m (map g (range_with_len 0 k))) (short ∙ sym taken)
    (λ n d b. let c : n < m = omega arith in
    get_or-map-range_with_len f 0 m n n d c (omega arith) ∙ h n c
    ∙ sym (get_or-take m (map g (range_with_len 0 k)) n d c ∙ get_or-map-range_with_len g 0 k n n d (omega arith) (omega arith)))

pub any_same : (f g : ℕ → Bool) (xs : List ℕ) → ((x : ℕ) → Contains xs x → f x ≡ g x) → list_any f xs ≡ list_any g xs
any_same f g [] h = refl
any_same f g (x ∷ xs) h = on_both (λ a b. a || b) (h x (Contains-first x xs)) (any_same f g xs (λ y c. h y (Contains-more x xs y c)))
