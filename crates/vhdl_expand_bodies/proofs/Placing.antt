-- One more thing behind those that are placed.
use Rattle.std.proofs.Common.{◌≡◌, ℕ, zero, suc, ◌+◌, List, [], ◌∷◌, ◌++◌, map, take, Some, sym, ap, ◌∙◌, subst, arith}
use Rattle.std.specs.Prelude.{slice_get}
use Rattle.std.proofs.lemmas.Option.{same_Some}
use Rattle.vhdl_expand_rules.specs.Kinds.{size}
use Rattle.vhdl_expand_rules.specs.Site.{elements_count}
use Rattle.vhdl_expand_rules.proofs.laws.Names.{count-cons}
use Rattle.vhdl_expand_bodies.specs.declared.site.Placed.{Placed}
use Rattle.vhdl_expand_bodies.specs.Sites.{ArePlaced, IsSitePlaced, placed_kind}

-- what holds of each thing and those before it holds with one more, if it holds of that one
one-more : {A B : Type 0} (f : A → B) (P : List B → A → Type 0) (xs : List A) (x : A)
    → ((k : ℕ) (y : A) → slice_get xs k ≡ Some y → P (take k (map f xs)) y) → P (map f xs) x
    → (k : ℕ) (y : A) → slice_get (xs ++ x ∷ []) k ≡ Some y → P (take k (map f (xs ++ x ∷ []))) y
one-more f P [] x each last zero y h = subst (P []) (same_Some x y h) last
one-more f P [] x each last (suc k) y h = absurd cc
one-more f P (z ∷ xs) x each last zero y h = each zero y h
one-more f P (z ∷ xs) x each last (suc k) y h = one-more f (λ before w. P (f z ∷ before) w) xs x (λ j w g. each (suc j) w g) last k y h

pub placed_more : (ps qs : List Placed) (p : Placed) → qs ≡ ps ++ p ∷ [] → ArePlaced ps → IsSitePlaced (map placed_kind ps) p → ArePlaced qs
placed_more ps qs p e each last = subst (λ (rs : List Placed). ArePlaced rs) (sym e) (one-more placed_kind IsSitePlaced ps p each last)

counted : (ps : List Placed) (p : Placed) → elements_count (map placed_kind (ps ++ p ∷ [])) ≡ elements_count (map placed_kind ps) + size (placed_kind p)
counted [] p = let e : elements_count (placed_kind p ∷ []) ≡ size (placed_kind p) + 0 = count-cons (placed_kind p) [] in omega arith
counted (q ∷ ps) p =
    let e : elements_count (map placed_kind (q ∷ (ps ++ p ∷ []))) ≡ size (placed_kind q) + elements_count (map placed_kind (ps ++ p ∷ [])) = count-cons (placed_kind q) (map placed_kind (ps ++ p ∷ [])) in
    let d : elements_count (map placed_kind (q ∷ ps)) ≡ size (placed_kind q) + elements_count (map placed_kind ps) = count-cons (placed_kind q) (map placed_kind ps) in
    let h : elements_count (map placed_kind (ps ++ p ∷ [])) ≡ elements_count (map placed_kind ps) + size (placed_kind p) = counted ps p in
    omega arith

pub counted_more : (ps qs : List Placed) (p : Placed) → qs ≡ ps ++ p ∷ [] → elements_count (map placed_kind qs) ≡ elements_count (map placed_kind ps) + size (placed_kind p)
counted_more ps qs p e = ap (λ (rs : List Placed). elements_count (map placed_kind rs)) e ∙ counted ps p

pub nothing_placed : ArePlaced []
nothing_placed k p h = absurd cc
