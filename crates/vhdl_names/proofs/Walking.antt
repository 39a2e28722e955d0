-- Entries of a table one after another, by their places.
use Rattle.std.proofs.Common.{◌≡◌, ℕ, zero, suc, ◌+◌, ◌≤◌, List, [], ◌∷◌, map, length, drop, Option, Some, None, ap, ◌∙◌, arith}
use Rattle.std.specs.Prelude.{slice_get}
use Rattle.std.proofs.lemmas.List.{length-map, drop_all}
use Rattle.vhdl_names_rules.specs.Rules.{◌>>=◌}
use Rattle.vhdl_names_units.specs.Lists.{in_turn}

module _ {A B E : Type 0} (f : A → B → Option A) (view : E → B) where
  drop_at : (es : List E) (i : ℕ) (e : E) → slice_get es i ≡ Some e → drop i (map view es) ≡ view e ∷ drop (suc i) (map view es)
  drop_at [] i e h = cc
  drop_at (x ∷ xs) zero e h = let same : x ≡ e = cc in ap (λ y. view y ∷ map view xs) same
  drop_at (x ∷ xs) (suc i) e h = drop_at xs i e h

  pub fails : (x : A) (es : List E) (i : ℕ) (e : E) → slice_get es i ≡ Some e → f x (view e) ≡ None → in_turn f x (drop i (map view es)) ≡ None
  fails x es i e at h = ap (in_turn f x) (drop_at es i e at) ∙ ap (λ o. o >>= λ z. in_turn f z (drop (suc i) (map view es))) h

  pub goes : (x y : A) (es : List E) (i : ℕ) (e : E) → slice_get es i ≡ Some e → f x (view e) ≡ Some y
      → in_turn f x (drop i (map view es)) ≡ in_turn f y (drop (i + 1) (map view es))
  goes x y es i e at h =
      let s : suc i ≡ i + 1 = omega arith in
      ap (in_turn f x) (drop_at es i e at) ∙ ap (λ o. o >>= λ z. in_turn f z (drop (suc i) (map view es))) h
      ∙ ap (λ k. in_turn f y (drop k (map view es))) s

  pub ends : (x : A) (es : List E) (i : ℕ) → length es ≤ i → in_turn f x (drop i (map view es)) ≡ Some x
  ends x es i le =
      let size = length-map es view in
      ap (in_turn f x) (drop_all i (map view es) (omega (arith, size, le)))
