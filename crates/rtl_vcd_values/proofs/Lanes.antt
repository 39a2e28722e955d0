-- Values as characters, lane by lane.
use Rattle.std.proofs.Common.{◌≡◌, ℕ, Bool, true, cond, List, [], ◌∷◌, map, get_or, take, Fits, w8, refl, ap, ◌∙◌}
use Rattle.std.specs.Prelude.{◌==◌}
use Rattle.std.proofs.lemmas.Bool.{agree_below, agree_below_at, eqb-true}
use Rattle.std.proofs.lemmas.Simd.{map-map, chunk-fits}
use lib.Lanes.{Each1, sel_l, top}

chosen_maps : (m : ℕ → Bool) (g h : ℕ → ℕ) (vs : List ℕ) → sel_l (map m vs) (map g vs) (map h vs) ≡ map (λ v. cond (m v) (g v) (h v)) vs
chosen_maps m g h [] = refl
chosen_maps m g h (v ∷ vs) = ap (λ r. cond (m v) (g v) (h v) ∷ r) (chosen_maps m g h vs)

-- lanes chosen from two vectors that were computed lane by lane from vs
pub chosen : (m : ℕ → Bool) (g h : ℕ → ℕ) (vs : List ℕ) {ms : List Bool} {xs ys : List ℕ} → ms ≡ map m vs → xs ≡ map g vs → ys ≡ map h vs
    → sel_l ms xs ys ≡ map (λ v. cond (m v) (g v) (h v)) vs
chosen m g h vs p q r = rw (p, q, r) (chosen_maps m g h vs)

-- the tops of such a vector
pub tops : (f : ℕ → ℕ) (vs : List ℕ) {xs : List ℕ} → xs ≡ map f vs → map (top 7) xs ≡ map (λ v. top 7 (f v)) vs
tops f vs e = ap (map (top 7)) e ∙ map-map (top 7) f vs

as_said : (f g : ℕ → ℕ) → agree_below (λ v. f v == g v) (λ _. true) 256 ≡ true → (vs : List ℕ) → Each1 (Fits w8) vs → map f vs ≡ map g vs
as_said f g all [] fit = refl
as_said f g all (v ∷ vs) (fits, rest) =
    let same = eqb-true (f v) (g v) (agree_below_at (λ v. f v == g v) (λ _. true) 256 v all fits.fits) in
    ap (λ x. x ∷ map f vs) same ∙ ap (λ xs. g v ∷ xs) (as_said f g all vs rest)

-- lanes that are computed as is said
pub lanes_said : (n : ℕ) (f g : ℕ → ℕ) (values : List ℕ) → ((k : ℕ) → Fits w8 (get_or values k 0)) → {xs : List ℕ} → xs ≡ map f (take n values)
    → agree_below (λ v. f v == g v) (λ _. true) 256 ≡ true → xs ≡ map g (take n values)
lanes_said n f g values fits e all = e ∙ as_said f g all (take n values) (chunk-fits w8 0 n values fits)
