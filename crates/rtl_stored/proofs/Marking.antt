-- What becomes of marks where one of them is changed.
use Rattle.std.proofs.Common.{◌≡◌, ℕ, zero, suc, ◌+◌, ◌<◌, ◌≤◌, ◌==◌, Bool, true, false, not, ◌&&◌, ◌||◌, List, [], ◌∷◌, length, get_or, take, refl, sym, ap, ◌∙◌, subst, arith, ◌⊎◌, inl, inr}
use Rattle.std.proofs.Math.ListN.{set, length-set}
use Rattle.std.proofs.lemmas.Bool.{cases_eq, cases_lt, eq-eqb, ne_eqb}
use Rattle.std.proofs.lemmas.List.{get_or-set_same, get_or-set_other, get_or_past}
use Rattle.rtl_body_facts.specs.Reading.{is_in}
use Rattle.rtl_body_facts.proofs.Anys.{or_none, and_not}
use Rattle.rtl_body_facts.proofs.EveryPath.{any_more}
use Rattle.rtl_stored.specs.declared.marks.Mark.{Mark}
use Rattle.rtl_stored.specs.Walks.{no_element, is_assigned, is_stored, Released}

-- ---- one mark

-- an element that isn't assigned is there
pub there : (marks : List Mark) (e : ℕ) → is_assigned marks e ≡ false → e < length marks
there marks e none = go (cases_lt e (length marks))
  where
    go : (e < length marks) ⊎ (length marks ≤ e) → e < length marks
    go (inl l) = l
    go (inr l) = let all : true ≡ false = sym (ap (λ (m : Mark). m.assigned) (get_or_past marks e no_element l)) ∙ none in absurd cc

-- a part of a mark at an element, where the mark of x is changed
module _ (part : Mark → Bool) (old : List Mark) (x : ℕ) (mark : Mark) where
  changed : x < length old → (e : ℕ) → x ≡ e → part (get_or (set old x mark) e no_element) ≡ part mark
  changed l e is = subst (λ (i : ℕ). part (get_or (set old x mark) i no_element) ≡ part mark) is (ap part (get_or-set_same old x mark no_element l))

  kept : (e : ℕ) → (x ≡ e → ⊥) → part (get_or (set old x mark) e no_element) ≡ part (get_or old e no_element)
  kept e other = ap part (get_or-set_other old x e mark no_element (λ i. other (sym i)))

pub none_more : (p a : Bool) → p ≡ (p || (not a && false))
none_more true a = refl
none_more false true = refl
none_more false false = refl

-- ---- an element is assigned no more

pub released_more : (xs : List ℕ) (i x : ℕ) (old mid new : List Mark) (b : Bool) → i < length xs → x ≡ get_or xs i x → x < length mid → b ≡ is_stored mid x
    → new ≡ set mid x (record { assigned = false; stored = b }) → Released (take i xs) old mid → Released (take (i + 1) xs) old new
released_more xs i x old mid new b l at in_range was is h = record {
  same_length = ap length is ∙ (length-set mid x mark ∙ h.same_length);
  stored = λ e. ap (λ (ms : List Mark). is_stored ms e) is ∙ (stored e (cases_eq x e) ∙ h.stored e);
  assigned = λ e. ap (λ (ms : List Mark). is_assigned ms e) is ∙ (assigned e (cases_eq x e)
      ∙ ap (λ (c : Bool). is_assigned old e && not c) (sym (any_more (λ m. m == e) xs i x l at)));
}
  where
    mark : Mark
    mark = record { assigned = false; stored = b }

    stored : (e : ℕ) → (x ≡ e) ⊎ (x ≡ e → ⊥) → is_stored (set mid x mark) e ≡ is_stored mid e
    stored e (inl same) = changed (λ m. m.stored) mid x mark in_range e same ∙ (was ∙ ap (is_stored mid) same)
    stored e (inr other) = kept (λ m. m.stored) mid x mark e other

    no_more : (a k n : Bool) → n ≡ true → false ≡ (a && not (k || n))
    no_more a true n e = and_not a
    no_more a false n e = and_not a ∙ ap (λ (c : Bool). a && not c) (sym e)

    as_was : (a k n : Bool) → n ≡ false → (a && not k) ≡ (a && not (k || n))
    as_was a k n e = ap (λ (c : Bool). a && not c) (or_none k ∙ ap (λ (c : Bool). k || c) (sym e))

    assigned : (e : ℕ) → (x ≡ e) ⊎ (x ≡ e → ⊥) → is_assigned (set mid x mark) e ≡ (is_assigned old e && not (is_in e (take i xs) || (x == e)))
    assigned e (inl same) =
        changed (λ m. m.assigned) mid x mark in_range e same ∙ no_more (is_assigned old e) (is_in e (take i xs)) (x == e) (eq-eqb x e same)
    assigned e (inr other) =
        kept (λ m. m.assigned) mid x mark e other ∙ (h.assigned e ∙ as_was (is_assigned old e) (is_in e (take i xs)) (x == e) (ne_eqb x e other))

-- an element of a list is in it
pub in_at : (xs : List ℕ) (i : ℕ) → i < length xs → is_in (get_or xs i 0) xs ≡ true
in_at [] i l = absurd (omega arith)
in_at (x ∷ xs) zero l = ap (λ (b : Bool). b || is_in x xs) (eq-eqb x x refl)
in_at (x ∷ xs) (suc i) l = go (x == get_or xs i 0) (in_at xs i (omega arith))
  where
    go : (b : Bool) → is_in (get_or xs i 0) xs ≡ true → (b || is_in (get_or xs i 0) xs) ≡ true
    go true h = refl
    go false h = h
