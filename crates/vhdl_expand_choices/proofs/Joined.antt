-- Lists that several things give, joined; and what a loop puts behind others.
use Rattle.std.proofs.Common.{◌≡◌, ℕ, ◌+◌, ◌<◌, List, [], ◌∷◌, ◌++◌, length, map, get_or, drop, Ok, Err, refl, sym, ap, ◌∙◌}
use Rattle.std.specs.Prelude.{flat_map}
use Rattle.std.proofs.lemmas.List.{append-nil, append_assoc}
use Rattle.vhdl_names_units.specs.views.Sequential.{Chosen}
use Rattle.vhdl_expand_rules.specs.Elab.{Elab, ◌>>=◌, each, Told}
use Rattle.vhdl_expand_rules.specs.Integers.{Integers}
use Rattle.vhdl_expand_rules.specs.Computed.{Span}
use Rattle.vhdl_expand_rules.specs.Statements.{choice_spans, choices_spans}
use Rattle.vhdl_expand_rules.proofs.Steps.{given}
use Rattle.vhdl_expand_rules.proofs.Items.{next_left}
use Rattle.vhdl_expand_operands.proofs.Several.{behind}
use Rattle.vhdl_expand_choices.specs.Views.{all_choices}

abbrev pub joined : {A B : Type 0} → (A → Elab (List B)) → List A → Elab (List B)
joined f xs = each f xs >>= λ ss. given (flat_map (λ ys. ys) ss)

pub joined_cons : {A B : Type 0} (f : A → Elab (List B)) (x : A) (xs : List A) → joined f (x ∷ xs) ≡ (f x >>= λ ys. behind ys (joined f xs))
joined_cons {A} {B} f x xs = go (f x) (each f xs)
  where
    go : (r : Elab (List B)) (q : Elab (List (List B))) → ((r >>= λ y. q >>= λ ys. given (y ∷ ys)) >>= λ ss. given (flat_map (λ ys. ys) ss)) ≡ (r >>= λ ys. behind ys (q >>= λ ss. given (flat_map (λ ys. ys) ss)))
    go (Ok y) (Ok ys) = refl
    go (Ok y) (Err p) = refl
    go (Err p) q = refl

-- behind two lists, one after the other
behind-twice : {B : Type 0} (xs ys : List B) (r : Elab (List B)) → behind xs (behind ys r) ≡ behind (xs ++ ys) r
behind-twice xs ys (Ok zs) = ap given (sym (append_assoc xs ys zs))
behind-twice xs ys (Err p) = refl

pub joined_append : {A B : Type 0} (f : A → Elab (List B)) (xs ys : List A) → joined f (xs ++ ys) ≡ (joined f xs >>= λ s. behind s (joined f ys))
joined_append {A} {B} f [] ys = none (joined f ys)
  where
    none : (r : Elab (List B)) → r ≡ behind [] r
    none (Ok zs) = refl
    none (Err p) = refl
joined_append {A} {B} f (x ∷ xs) ys =
    joined_cons f x (xs ++ ys) ∙ ap (λ q. f x >>= λ zs. behind zs q) (joined_append f xs ys)
    ∙ go (f x) (joined f xs) (joined f ys) ∙ ap (λ q. q >>= λ s. behind s (joined f ys)) (sym (joined_cons f x xs))
  where
    go : (r q t : Elab (List B)) → (r >>= λ zs. behind zs (q >>= λ s. behind s t)) ≡ ((r >>= λ zs. behind zs q) >>= λ s. behind s t)
    go (Ok zs) (Ok s) t = behind-twice zs s t
    go (Ok zs) (Err p) t = refl
    go (Err p) q t = refl

-- ---- a loop that puts what each gives behind what is there

module _ {A B X : Type 0} (f : A → Elab (List B)) (v : X → A) (total : Elab (List B)) (now : List B) (xs : List X) (i : ℕ) (x : X)
    (below : i < length xs) (is : x ≡ get_or xs i x) (so_far : total ≡ behind now (joined f (map v (drop i xs)))) where
  next : total ≡ behind now (f (v x) >>= λ ys. behind ys (joined f (map v (drop (i + 1) xs))))
  next = so_far ∙ ap (λ zs. behind now (joined f (map v zs))) (next_left xs i x below is) ∙ ap (behind now) (joined_cons f (v x) (map v (drop (i + 1) xs)))

  pub joined_goes : (new : List B) → behind now (f (v x)) ≡ Ok new → total ≡ behind new (joined f (map v (drop (i + 1) xs)))
  joined_goes new h = next ∙ go (f (v x)) (joined f (map v (drop (i + 1) xs))) h
    where
      go : (r q : Elab (List B)) → behind now r ≡ Ok new → behind now (r >>= λ ys. behind ys q) ≡ behind new q
      go (Ok ys) q k = behind-twice now ys q ∙ ap (λ (m : Elab (List B)). m >>= λ zs. behind zs q) k
      go (Err p) q k = absurd cc

  pub joined_stops : {told : Told} → behind now (f (v x)) ≡ Err told → total ≡ Err told
  joined_stops {told} h = next ∙ go (f (v x)) (joined f (map v (drop (i + 1) xs))) h
    where
      go : (r q : Elab (List B)) → behind now r ≡ Err told → behind now (r >>= λ ys. behind ys q) ≡ Err told
      go (Ok ys) q k = absurd cc
      go (Err p) q k = k

pub joined_ends : {A B X : Type 0} (f : A → Elab (List B)) (v : X → A) (total : Elab (List B)) (now : List B) (left : List X) → left ≡ [] → total ≡ behind now (joined f (map v left)) → total ≡ Ok now
joined_ends f v total now left h so_far = so_far ∙ ap (λ zs. behind now (joined f (map v zs))) h ∙ ap given (append-nil now)

-- ---- of alternatives

pub of_alternatives : (here : Integers) (among : Span) (gs : List Chosen) → choices_spans here among (all_choices gs) ≡ joined (λ (g : Chosen). choices_spans here among g.choices) gs
of_alternatives here among [] = refl
of_alternatives here among (g ∷ gs) =
    joined_append (choice_spans here among) g.choices (all_choices gs)
    ∙ ap (λ q. choices_spans here among g.choices >>= λ s. behind s q) (of_alternatives here among gs)
    ∙ sym (joined_cons (λ (h : Chosen). choices_spans here among h.choices) g gs)
