-- What an assignment puts at places, and at elements: the same, told by places or by elements.
use Rattle.std.proofs.Common.{◌≡◌, ℕ, zero, suc, ◌<◌, Bool, true, false, ◌==◌, List, [], ◌∷◌, Option, Some, None, unwrap_or}
use Rattle.std.proofs.Common.{length, drop, map, slice_index, slice_index_or, slice_set, refl, sym, ap, ◌∙◌, arith, ◌⊎◌, inl, inr, Contains}
use Rattle.std.proofs.lemmas.Bool.{eq-eqb, eqb-true, cases_eq}
use Rattle.std.proofs.lemmas.List.{get_or-set_same, get_or-set_other, length-set}
use Rattle.rtl_model.specs.basics.Valuations.{or_else}
use Rattle.rtl_model.specs.bodies.Variables.{values_put}
use Rattle.rtl_model.specs.bodies.Effect.{entries, one_entry}
use Rattle.rtl_model.proofs.basics.Lists.{Contains-first, Contains-none}

pub eqb_other : (a b : ℕ) → (a ≡ b → ⊥) → a == b ≡ false
eqb_other a b n = go (a == b) refl
  where
    go : (t : Bool) → a == b ≡ t → t ≡ false
    go true e = absurd (n (eqb-true a b e))
    go false e = refl

pub Contains-more : {X : Type 0} (y : X) (xs : List X) (x : X) → Contains xs x → Contains (y ∷ xs) x
Contains-more y xs x (k, l, e) = (suc k, omega arith, e)

-- an element's value after an assignment is its entry, and without one its old value
pub put_is_entry : (es values old : List ℕ) (e : ℕ) → e < length old
    → slice_index (values_put es values old) e ≡ unwrap_or (entries es values e) (slice_index old e)
put_is_entry [] values old e l = refl
put_is_entry (d ∷ es) values old e l =
    put_is_entry es (drop 1 values) (slice_set old d (slice_index values 0)) e (omega (arith, length-set old d (slice_index values 0)))
    ∙ go (entries es (drop 1 values) e) (cases_eq d e)
  where
    x : ℕ
    x = slice_index values 0

    go : (o : Option ℕ) → (d ≡ e) ⊎ (d ≡ e → ⊥)
        → unwrap_or o (slice_index (slice_set old d (slice_index values 0)) e) ≡ unwrap_or (or_else o (one_entry d (slice_index values 0) e)) (slice_index old e)
    go (Some v) h = refl
    go None (inl s) = rw (eq-eqb d e s) (rw s (get_or-set_same old e (slice_index values 0) 0 l))
    go None (inr n) = rw (eqb_other d e n) (get_or-set_other old d e (slice_index values 0) 0 (λ s. n (sym s)))

-- places that are told by elements, one place for each
pub entry_at_place : (f : ℕ → ℕ) (es values : List ℕ) (e : ℕ) → ((d : ℕ) → Contains es d → f d ≡ f e → d ≡ e)
    → entries (map f es) values (f e) ≡ entries es values e
entry_at_place f [] values e h = refl
entry_at_place f (d ∷ es) values e h = go (entry_at_place f es (drop 1 values) e (λ c k. h c (Contains-more d es c k))) (cases_eq d e)
  where
    go : entries (map f es) (drop 1 values) (f e) ≡ entries es (drop 1 values) e
        → (d ≡ e) ⊎ (d ≡ e → ⊥) → entries (map f (d ∷ es)) values (f e) ≡ entries (d ∷ es) values e
    go rest (inl s) = rw rest (rw (eq-eqb (f d) (f e) (ap f s), eq-eqb d e s))
    go rest (inr n) = rw rest (rw (eqb_other (f d) (f e) (λ s. n (h d (Contains-first d es) s)), eqb_other d e n))

-- no place of these, no entry
pub no_entry : (ps values : List ℕ) (q : ℕ) → ((p : ℕ) → Contains ps p → p ≡ q → ⊥) → entries ps values q ≡ None
no_entry [] values q h = refl
no_entry (p ∷ ps) values q h =
    rw (no_entry ps (drop 1 values) q (λ c k. h c (Contains-more p ps c k))) (rw (eqb_other p q (h p (Contains-first p ps))))

-- where the values are told by the elements too, an element has its own, or none
pub own_or_none : (g : ℕ → ℕ) (es : List ℕ) (e : ℕ) → (entries es (map g es) e ≡ None) ⊎ (entries es (map g es) e ≡ Some (g e))
own_or_none g [] e = inl refl
own_or_none g (d ∷ es) e = go (own_or_none g es e) (cases_eq d e)
  where
    go : (entries es (map g es) e ≡ None) ⊎ (entries es (map g es) e ≡ Some (g e)) → (d ≡ e) ⊎ (d ≡ e → ⊥)
        → (entries (d ∷ es) (map g (d ∷ es)) e ≡ None) ⊎ (entries (d ∷ es) (map g (d ∷ es)) e ≡ Some (g e))
    go (inr h) k = inr (rw h)
    go (inl h) (inl s) = inr (rw h (rw (eq-eqb d e s) (ap (λ (n : ℕ). Some (g n)) s)))
    go (inl h) (inr n) = inl (rw h (rw (eqb_other d e n)))

-- and one that is among them has it
pub entry_of_own : (g : ℕ → ℕ) (es : List ℕ) (e : ℕ) → Contains es e → entries es (map g es) e ≡ Some (g e)
entry_of_own g [] e c = absurd (Contains-none e c)
entry_of_own g (d ∷ es) e (k, l, at) = go (λ c. entry_of_own g es e c) k l at
  where
    first : d ≡ e → (entries es (map g es) e ≡ None) ⊎ (entries es (map g es) e ≡ Some (g e)) → entries (d ∷ es) (map g (d ∷ es)) e ≡ Some (g e)
    first s (inl h) = rw h (rw (eq-eqb d e s) (ap (λ (n : ℕ). Some (g n)) s))
    first s (inr h) = rw h

    go : (Contains es e → entries es (map g es) e ≡ Some (g e)) → (k : ℕ) → k < suc (length es) → slice_index_or (d ∷ es) k e ≡ e → entries (d ∷ es) (map g (d ∷ es)) e ≡ Some (g e)
    go rest zero l at = first at (own_or_none g es e)
    go rest (suc k) l at = rw (rest (k, omega arith, at))
