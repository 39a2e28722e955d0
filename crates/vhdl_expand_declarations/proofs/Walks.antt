-- Going on from step to step, each of which may be refused, over a list and over lists of several parts.
use Rattle.std.proofs.Common.{◌≡◌, ℕ, zero, suc, ◌+◌, ◌<◌, ◌≤◌, List, [], ◌∷◌, ◌++◌, length, map, get_or, drop, add-one, Some, Ok, Err, refl, sym, ap, ◌∙◌, subst, arith}
use Rattle.std.specs.Prelude.{flat_map, slice_get}
use Rattle.std.proofs.lemmas.Option.{same_Some}
use Rattle.vhdl_expand_rules.specs.Elab.{Elab, ◌>>=◌, Told}
use Rattle.vhdl_expand_rules.proofs.Items.{next_left, none_left}
use Rattle.vhdl_expand_declarations.specs.Stepwise.{stepwise}
use Rattle.vhdl_expand_rules.proofs.Chains.{err_first}

module _ {S X : Type 0} (step : S → X → Elab S) where
  pub walk_behind : (s : S) (xs ys : List X) → stepwise step s (xs ++ ys) ≡ stepwise step s xs >>= λ t. stepwise step t ys
  walk_behind s [] ys = refl
  walk_behind s (x ∷ xs) ys = go (step s x) (λ t. walk_behind t xs ys)
    where
      go : (r : Elab S) → ((t : S) → stepwise step t (xs ++ ys) ≡ stepwise step t xs >>= λ u. stepwise step u ys) → (r >>= λ t. stepwise step t (xs ++ ys)) ≡ (r >>= λ t. stepwise step t xs) >>= λ t. stepwise step t ys
      go (Ok t) h = h t
      go (Err p) h = refl

  -- ---- a list of which each element is seen as one step

  module _ {Y : Type 0} (v : Y → X) where
    pub one_goes : (total : Elab S) (now new : S) (ys : List Y) (i : ℕ) (y : Y) → i < length ys → y ≡ get_or ys i y
        → total ≡ stepwise step now (map v (drop i ys)) → step now (v y) ≡ Ok new → total ≡ stepwise step new (map v (drop (i + 1) ys))
    one_goes total now new ys i y below is so_far h =
        so_far ∙ ap (λ zs. stepwise step now (map v zs)) (next_left ys i y below is) ∙ ap (λ r. r >>= λ t. stepwise step t (map v (drop (i + 1) ys))) h

    pub one_stops : {told : Told} → (total : Elab S) (now : S) (ys : List Y) (i : ℕ) (y : Y) → i < length ys → y ≡ get_or ys i y
        → total ≡ stepwise step now (map v (drop i ys)) → (step now (v y)) ≡ Err told → total ≡ Err told
    one_stops {told} total now ys i y below is so_far h =
        subst (λ (r : Elab S). r ≡ Err told) (sym (so_far ∙ ap (λ zs. stepwise step now (map v zs)) (next_left ys i y below is)))
        (err_first (step now (v y)) (λ t. stepwise step t (map v (drop (i + 1) ys))) h)

    -- the first of them
    pub first_stops : {told : Told} → (s : S) (ys : List Y) (y : Y) → slice_get ys 0 ≡ Some y → step s (v y) ≡ Err told → stepwise step s (map v ys) ≡ Err told
    first_stops s [] y is h = absurd cc
    first_stops {told} s (z ∷ ys) y is h = err_first (step s (v z)) (λ t. stepwise step t (map v ys)) (subst (λ (x : Y). step s (v x) ≡ Err told) (sym (same_Some z y is)) h)

    pub one_ends : (total : Elab S) (now : S) (ys : List Y) (i : ℕ) → length ys ≤ i → total ≡ stepwise step now (map v (drop i ys)) → total ≡ Ok now
    one_ends total now ys i h so_far = so_far ∙ ap (λ zs. stepwise step now (map v zs)) (none_left ys i h)

  -- ---- a list of which each element is seen as several steps

  module _ {Y : Type 0} (v : Y → List X) where
    pub all_go : (total : Elab S) (now new : S) (ys : List Y) (i : ℕ) (y : Y) → i < length ys → y ≡ get_or ys i y
        → total ≡ stepwise step now (flat_map v (drop i ys)) → stepwise step now (v y) ≡ Ok new → total ≡ stepwise step new (flat_map v (drop (i + 1) ys))
    all_go total now new ys i y below is so_far h =
        so_far ∙ ap (λ zs. stepwise step now (flat_map v zs)) (next_left ys i y below is) ∙ walk_behind now (v y) (flat_map v (drop (i + 1) ys))
        ∙ ap (λ r. r >>= λ t. stepwise step t (flat_map v (drop (i + 1) ys))) h

    pub all_stop : {told : Told} → (total : Elab S) (now : S) (ys : List Y) (i : ℕ) (y : Y) → i < length ys → y ≡ get_or ys i y
        → total ≡ stepwise step now (flat_map v (drop i ys)) → (stepwise step now (v y)) ≡ Err told → total ≡ Err told
    all_stop {told} total now ys i y below is so_far h =
        subst (λ (r : Elab S). r ≡ Err told)
        (sym (so_far ∙ ap (λ zs. stepwise step now (flat_map v zs)) (next_left ys i y below is) ∙ walk_behind now (v y) (flat_map v (drop (i + 1) ys))))
        (err_first (stepwise step now (v y)) (λ t. stepwise step t (flat_map v (drop (i + 1) ys))) h)

    pub all_end : (total : Elab S) (now : S) (ys : List Y) (i : ℕ) → length ys ≤ i → total ≡ stepwise step now (flat_map v (drop i ys)) → total ≡ Ok now
    all_end total now ys i h so_far = so_far ∙ ap (λ zs. stepwise step now (flat_map v zs)) (none_left ys i h)

  -- ---- the same step for each element

  module _ {Y : Type 0} (x : X) where
    same-left : (ys : List Y) (i : ℕ) → i < length ys → map (λ (y : Y). x) (drop i ys) ≡ x ∷ map (λ (y : Y). x) (drop (suc i) ys)
    same-left [] i h = absurd (omega arith)
    same-left (y ∷ ys) zero h = refl
    same-left (y ∷ ys) (suc i) h = same-left ys i (omega arith)

    pub same_goes : (total : Elab S) (now new : S) (ys : List Y) (i : ℕ) → i < length ys → total ≡ stepwise step now (map (λ (y : Y). x) (drop i ys))
        → step now x ≡ Ok new → total ≡ stepwise step new (map (λ (y : Y). x) (drop (i + 1) ys))
    same_goes total now new ys i below so_far h =
        so_far ∙ ap (stepwise step now) (same-left ys i below) ∙ ap (λ r. r >>= λ t. stepwise step t (map (λ (y : Y). x) (drop (suc i) ys))) h
        ∙ ap (λ j. stepwise step new (map (λ (y : Y). x) (drop j ys))) (sym (add-one i))

    pub same_stops : {told : Told} → (total : Elab S) (now : S) (ys : List Y) (i : ℕ) → i < length ys → total ≡ stepwise step now (map (λ (y : Y). x) (drop i ys))
        → (step now x) ≡ Err told → total ≡ Err told
    same_stops {told} total now ys i below so_far h =
        subst (λ (r : Elab S). r ≡ Err told) (sym (so_far ∙ ap (stepwise step now) (same-left ys i below)))
        (err_first (step now x) (λ t. stepwise step t (map (λ (y : Y). x) (drop (suc i) ys))) h)
