-- The resolution of one value and of several.
use Rattle.std.proofs.Common.{◌≡◌, ℕ, ◌+◌, ◌<◌, List, [], ◌∷◌, ◌++◌, length, get_or, map, refl, sym, ap, ◌∙◌, arith}
use Rattle.std.specs.Prelude.{slice_index}
use Rattle.std.specs.List.{range_with_len}
use Rattle.std.proofs.lemmas.List.FromFn.{map-range_with_len_more}
use Rattle.vhdl_values.specs.declared.scalar.Nine.{Nine}
use Rattle.vhdl_values.specs.Scalar.{code_of, value_of_code}
use Rattle.vhdl_values.specs.Resolution.{resolved}
use Rattle.rtl_model.specs.nets.CoreNetlist.{core_resolve}
use Rattle.smallvec.specs.SmallVec.{SmallVec}
use Rattle.vhdl_connect.specs.Held.{items_at, start_with}
use Rattle.vhdl_connect.proofs.Holding.{shown_there}

pub several_resolve : (vs : List ℕ) (r : Nine) (code : ℕ) → 0 < length vs → (length vs ≡ 1 → ⊥) → r ≡ resolved (map value_of_code vs) → code ≡ code_of r → code ≡ core_resolve vs
several_resolve [] r code some h e k = absurd (omega (arith, some))
several_resolve (v ∷ []) r code some h e k = absurd (h refl)
several_resolve (v ∷ w ∷ vs) r code some h e k = k ∙ ap code_of e

-- ---- one net more

pub starts_next : (defaults : List ℕ) (table : List (SmallVec ℕ)) (k : ℕ) (v : SmallVec ℕ) (vs : List ℕ) (s : ℕ) (so_far : List ℕ) → k < length table
    → vs ≡ (get_or table k v).items → s ≡ start_with (slice_index defaults k) vs
    → so_far ≡ map (λ n. start_with (slice_index defaults n) (items_at table n)) (range_with_len 0 k)
    → so_far ++ s ∷ [] ≡ map (λ n. start_with (slice_index defaults n) (items_at table n)) (range_with_len 0 (k + 1))
starts_next defaults table k v vs s so_far l e h before =
    let f : ℕ → ℕ = λ n. start_with (slice_index defaults n) (items_at table n) in
    let zero : k ≡ 0 + k = omega arith in
    (λ i. before i ++ h i ∷ []) ∙ ap (λ us. map f (range_with_len 0 k) ++ start_with (slice_index defaults k) us ∷ []) (e ∙ shown_there table k v l)
    ∙ ap (λ n. map f (range_with_len 0 k) ++ f n ∷ []) zero ∙ sym (map-range_with_len_more f 0 k (0 + k) refl)
