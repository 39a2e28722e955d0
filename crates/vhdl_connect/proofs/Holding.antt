-- How the table of what sources hold is filled.
use Rattle.std.proofs.Common.{◌≡◌, ℕ, zero, suc, ◌+◌, ◌<◌, ◌≤◌, ◌⊎◌, inl, inr, ◌==◌, if◌then◌else◌, List, [], ◌∷◌, ◌++◌, length, get_or, set, take, map, slice_index_or, refl, sym, ap, ◌∙◌, arith, get_or-set_same, get_or-set_other, length-set, eq-eqb, ne_eqb}
use Rattle.std.specs.Prelude.{flat_map}
use Rattle.std.proofs.lemmas.Bool.{cases_eq}
use Rattle.std.proofs.lemmas.List.{append_assoc, append-nil, take_more, flat_map_more, length-map, map-set}
use Rattle.smallvec.specs.SmallVec.{SmallVec}
use Rattle.vhdl_connect.specs.Held.{at_net, items_at, Holds}
use Rattle.vhdl_connect_processes.proofs.Lists.{take_whole}

pub holds_same : (f g : ℕ → List ℕ) (table : List (SmallVec ℕ)) → ((n : ℕ) → f n ≡ g n) → Holds f table → Holds g table
holds_same f g table e h = record { each = λ n l. h.each n l ∙ e n }

abbrev listed : SmallVec ℕ → List ℕ
listed v = v.items

-- ---- one value more

item-set : (table : List (SmallVec ℕ)) (k n : ℕ) (v : SmallVec ℕ) → k < length table → items_at (set table k v) n ≡ (if k == n then v.items else items_at table n)
item-set table k n v l = ap (λ ys. slice_index_or ys n []) (map-set listed table k v) ∙ go (cases_eq k n)
  where
    go : (k ≡ n) ⊎ (k ≡ n → ⊥) → slice_index_or (set (map listed table) k v.items) n [] ≡ (if k == n then v.items else items_at table n)
    go (inl e) =
        ap (λ m. slice_index_or (set (map listed table) k v.items) m []) (sym e) ∙ get_or-set_same (map listed table) k v.items [] (omega (arith, l, length-map table listed))
        ∙ sym (ap (λ b. if b then v.items else items_at table n) (eq-eqb k n e))
    go (inr other) =
        get_or-set_other (map listed table) k n v.items [] (λ e. other (sym e)) ∙ sym (ap (λ b. if b then v.items else items_at table n) (ne_eqb k n other))

pub value_there : (f : ℕ → List ℕ) (table : List (SmallVec ℕ)) (k x : ℕ) (v : SmallVec ℕ) → k < length table → v.items ≡ items_at table k ++ x ∷ [] → Holds f table
    → Holds (λ n. f n ++ at_net k x n) (set table k v)
value_there f table k x v l e h = record { each = λ n m. item-set table k n v l ∙ go n (omega (arith, m, length-set table k v)) (cases_eq k n) }
  where
    go : (n : ℕ) → n < length table → (k ≡ n) ⊎ (k ≡ n → ⊥) → (if k == n then v.items else items_at table n) ≡ f n ++ at_net k x n
    go n m (inl same) =
        ap (λ b. if b then v.items else items_at table n) (eq-eqb k n same) ∙ e ∙ ap (λ j. items_at table j ++ x ∷ []) same ∙ ap (λ vs. vs ++ x ∷ []) (h.each n m)
        ∙ sym (ap (λ b. f n ++ (if b then x ∷ [] else [])) (eq-eqb k n same))
    go n m (inr other) =
        ap (λ b. if b then v.items else items_at table n) (ne_eqb k n other) ∙ h.each n m ∙ sym (append-nil (f n))
        ∙ sym (ap (λ b. f n ++ (if b then x ∷ [] else [])) (ne_eqb k n other))

pub value_behind : (f : ℕ → List ℕ) (table : List (SmallVec ℕ)) (k x : ℕ) → length table ≤ k → Holds f table → Holds (λ n. f n ++ at_net k x n) table
value_behind f table k x l h = record { each = λ n m. h.each n m ∙ sym (append-nil (f n)) ∙ sym (ap (λ b. f n ++ (if b then x ∷ [] else [])) (ne_eqb k n (λ e. absurd (omega (arith, e, l, m))))) }

-- the element that was written, as the table shows it
pub shown_there : (table : List (SmallVec ℕ)) (k : ℕ) (d : SmallVec ℕ) → k < length table → (get_or table k d).items ≡ items_at table k
shown_there [] k d l = absurd (omega (arith, l))
shown_there (v ∷ vs) zero d l = refl
shown_there (v ∷ vs) (suc k) d l = shown_there vs k d (omega (arith, l))

-- ---- one after another

module _ {X : Type 0} (g : X → ℕ → List ℕ) (f : ℕ → List ℕ) (xs : List X) where
  pub next_hold : (i : ℕ) (x d : X) (table : List (SmallVec ℕ)) → i < length xs → x ≡ get_or xs i d → Holds (λ n. (f n ++ flat_map (λ y. g y n) (take i xs)) ++ g x n) table
      → Holds (λ n. f n ++ flat_map (λ y. g y n) (take (i + 1) xs)) table
  next_hold i x d table l is h =
      holds_same _ _ table
      (λ n. append_assoc (f n) (flat_map (λ y. g y n) (take i xs)) (g x n)
      ∙ ap (λ vs. f n ++ vs) (flat_map_more (λ y. g y n) [] (take i xs) x ∙ ap (flat_map (λ y. g y n)) (ap (λ y. take i xs ++ y ∷ []) is ∙ sym (take_more xs i d l)))) h

  pub all_hold : (i : ℕ) (table : List (SmallVec ℕ)) → length xs ≤ i → Holds (λ n. f n ++ flat_map (λ y. g y n) (take i xs)) table → Holds (λ n. f n ++ flat_map (λ y. g y n) xs) table
  all_hold i table l h = holds_same _ _ table (λ n. ap (λ ys. f n ++ flat_map (λ y. g y n) ys) (take_whole xs i l)) h

  pub none_hold : (table : List (SmallVec ℕ)) → Holds f table → Holds (λ n. f n ++ []) table
  none_hold table h = holds_same f _ table (λ n. sym (append-nil (f n))) h

-- ---- none

pub nothing_more : (table : List (SmallVec ℕ)) (v : SmallVec ℕ) → v.items ≡ [] → Holds (λ n. []) table → Holds (λ n. []) (table ++ v ∷ [])
nothing_more table v e h = record { each = go table h.each }
  where
    go : (t : List (SmallVec ℕ)) → ((n : ℕ) → n < length t → items_at t n ≡ []) → (n : ℕ) → n < length (t ++ v ∷ []) → items_at (t ++ v ∷ []) n ≡ []
    go [] k zero l = e
    go [] k (suc n) l = absurd (omega (arith, l))
    go (w ∷ ws) k zero l = k 0 (omega arith)
    go (w ∷ ws) k (suc n) l = go ws (λ m j. k (suc m) (omega (arith, j))) n (omega (arith, l))
