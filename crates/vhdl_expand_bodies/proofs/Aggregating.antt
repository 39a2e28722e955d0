-- The elements of an aggregate, as a loop comes to them.
use Rattle.std.proofs.Common.{◌≡◌, ℕ, ◌+◌, ◌<◌, ◌≤◌, Bool, true, false, List, [], ◌∷◌, ◌++◌, length, map, get_or, drop, Option, Ok, Err, refl, sym, ap, ◌∙◌}
use Rattle.std.specs.Prelude.{ℤ}
use Rattle.std.proofs.lemmas.List.{append-nil, append_assoc}
use Rattle.vhdl_names_trees.specs.declared.vector.VectorElement.{VectorElement}
use Rattle.vhdl_names_trees.specs.declared.vector.VectorElement.TheVariants as v
use Rattle.vhdl_names_trees.specs.views.Integers.{index_view}
use Rattle.vhdl_names_trees.specs.views.Vectors.{vector_view, elements_view}
use Rattle.rtl_model.specs.bodies.Body as bodies
use Rattle.rtl_model.specs.bodies.Fits.{width}
use Rattle.vhdl_expand_rules.specs.Elab.{Elab, ◌>>=◌, Told, same_length}
use Rattle.vhdl_expand_rules.specs.Aggregates.{Placed, next, chosen, others, chosen_indexes}
use Rattle.vhdl_expand_rules.specs.Site.{Site}
use Rattle.vhdl_expand_rules.specs.Expressions.{vector, elements}
use Rattle.vhdl_expand_rules.proofs.Items.{next_left, none_left}
use Rattle.vhdl_expand_rules.proofs.Steps.{given}
use Rattle.vhdl_expand_bodies.specs.steps.Vectors as steps
use Rattle.vhdl_expand_operands.proofs.Several.{behind}

-- behind it stands no element that is read
abbrev pub is_last : VectorElement → Bool
is_last (v.Others x) = true
is_last _ = false

-- ---- a part, and what is done with it

module _ (q : List ℤ → Elab (List Placed)) where
  -- an element, and those behind it
  abbrev more : Placed × List ℤ → Elab (List Placed)
  more p = q p.1 >>= λ rest. given (p.0 ∷ rest)

  next-by : (taken : List ℤ) (r : Elab bodies.Expr) → (r >>= λ e. q taken >>= λ rest. given (next e ∷ rest)) ≡ ((r >>= λ e. given (next e, taken)) >>= more)
  next-by taken (Ok e) = refl
  next-by taken (Err told) = refl

  chosen-by : (at : ℕ) (taken : List ℤ) (r : Elab (List ℤ)) (s : Elab bodies.Expr)
      → (r >>= λ is. s >>= λ e. same_length at (width e) 1 >>= λ _. q (taken ++ is) >>= λ rest. given (chosen is e ∷ rest))
      ≡ ((r >>= λ is. (s >>= λ e. same_length at (width e) 1 >>= λ _. given e) >>= λ e. given (chosen is e, taken ++ is)) >>= more)
  chosen-by at taken (Err told) s = refl
  chosen-by at taken (Ok is) (Err told) = refl
  chosen-by at taken (Ok is) (Ok e) = by (same_length at (width e) 1)
    where
      by : (u : Elab (Unit {0})) → (u >>= λ _. q (taken ++ is) >>= λ rest. given (chosen is e ∷ rest))
          ≡ (((u >>= λ _. given e) >>= λ d. given (chosen is d, taken ++ is)) >>= more)
      by (Ok t) = refl
      by (Err told) = refl

others-by : (at : ℕ) (taken : List ℤ) (r : Elab bodies.Expr)
    → (r >>= λ e. same_length at (width e) 1 >>= λ _. given (others e ∷ []))
    ≡ (((r >>= λ e. same_length at (width e) 1 >>= λ _. given e) >>= λ e. given (others e, taken)) >>= λ (p : Placed × List ℤ). given (p.0 ∷ []))
others-by at taken (Err told) = refl
others-by at taken (Ok e) = by (same_length at (width e) 1)
  where
    by : (u : Elab (Unit {0})) → (u >>= λ _. given (others e ∷ []))
        ≡ (((u >>= λ _. given e) >>= λ d. given (others d, taken)) >>= λ (p : Placed × List ℤ). given (p.0 ∷ []))
    by (Ok t) = refl
    by (Err told) = refl

module _ (here : Site) (at : ℕ) (all : Option (List ℤ)) where
  abbrev behind-it : List VectorElement → Placed × List ℤ → Elab (List Placed)
  behind-it xs p = elements here at all p.1 (elements_view xs) >>= λ rest. given (p.0 ∷ rest)

  element-first : (taken : List ℤ) (x : VectorElement) (xs : List VectorElement) → is_last x ≡ false
      → elements here at all taken (elements_view (x ∷ xs)) ≡ (steps.placed here at all taken x >>= behind-it xs)
  unfolding elements
  element-first taken (v.Next y) xs h = next-by (λ js. elements here at all js (elements_view xs)) taken (vector here (vector_view y))
  element-first taken (v.Chosen cs y) xs h =
      chosen-by (λ js. elements here at all js (elements_view xs)) at taken (chosen_indexes here.integers all taken (map index_view cs.items)) (vector here (vector_view y))
  element-first taken (v.Others y) xs h = absurd cc

  element-last : (taken : List ℤ) (x : VectorElement) (xs : List VectorElement) → is_last x ≡ true
      → elements here at all taken (elements_view (x ∷ xs)) ≡ (steps.placed here at all taken x >>= λ p. given (p.0 ∷ []))
  unfolding elements
  element-last taken (v.Next y) xs h = absurd cc
  element-last taken (v.Chosen cs y) xs h = absurd cc
  element-last taken (v.Others y) xs h = others-by at taken (vector here (vector_view y))

  element-fails : {told : Told} (taken : List ℤ) (x : VectorElement) (xs : List VectorElement) → steps.placed here at all taken x ≡ Err told
      → elements here at all taken (elements_view (x ∷ xs)) ≡ Err told
  element-fails {told} taken x xs h = by (is_last x) refl
    where
      by : (t : Bool) → is_last x ≡ t → elements here at all taken (elements_view (x ∷ xs)) ≡ Err told
      by true e = element-last taken x xs e ∙ ap (λ r. r >>= λ p. given (p.0 ∷ [])) h
      by false e = element-first taken x xs e ∙ ap (λ r. r >>= behind-it xs) h

  -- ---- a loop

  module _ (total : Elab (List Placed)) (made : List Placed) (taken : List ℤ) (xs : List VectorElement) (i : ℕ) (so_far : total ≡ behind made (elements here at all taken (elements_view (drop i xs)))) where
    left-on : (x : VectorElement) → i < length xs → x ≡ get_or xs i x → total ≡ behind made (elements here at all taken (elements_view (x ∷ drop (i + 1) xs)))
    left-on x below is = so_far ∙ ap (λ ys. behind made (elements here at all taken (elements_view ys))) (next_left xs i x below is)

    pub elements_go : (x : VectorElement) (p : Placed × List ℤ) → i < length xs → x ≡ get_or xs i x → is_last x ≡ false → steps.placed here at all taken x ≡ Ok p
        → total ≡ behind (made ++ p.0 ∷ []) (elements here at all p.1 (elements_view (drop (i + 1) xs)))
    elements_go x p below is last h =
        left-on x below is ∙ ap (behind made) (element-first taken x (drop (i + 1) xs) last ∙ ap (λ r. r >>= behind-it (drop (i + 1) xs)) h)
        ∙ go (elements here at all p.1 (elements_view (drop (i + 1) xs)))
      where
        go : (r : Elab (List Placed)) → behind made (r >>= λ rest. given (p.0 ∷ rest)) ≡ behind (made ++ p.0 ∷ []) r
        go (Ok rest) = ap given (sym (append_assoc made (p.0 ∷ []) rest))
        go (Err told) = refl

    pub elements_last : (x : VectorElement) (p : Placed × List ℤ) → i < length xs → x ≡ get_or xs i x → is_last x ≡ true → steps.placed here at all taken x ≡ Ok p
        → total ≡ Ok (made ++ p.0 ∷ [])
    elements_last x p below is last h =
        left-on x below is ∙ ap (behind made) (element-last taken x (drop (i + 1) xs) last ∙ ap (λ r. r >>= λ p. given (p.0 ∷ [])) h)

    pub elements_stop : {told : Told} (x : VectorElement) → i < length xs → x ≡ get_or xs i x → steps.placed here at all taken x ≡ Err told → total ≡ Err told
    elements_stop x below is h = left-on x below is ∙ ap (behind made) (element-fails taken x (drop (i + 1) xs) h)

    pub elements_end : length xs ≤ i → total ≡ Ok made
    unfolding elements
    elements_end past = so_far ∙ ap (λ ys. behind made (elements here at all taken (elements_view ys))) (none_left xs i past) ∙ ap given (append-nil made)
