-- What the variables have behind `recalled`, and the entries of `remembered`.
use Rattle.std.proofs.Common.{◌≡◌, ℕ, ◌<◌, List, [], ◌∷◌, Option, Some, None, unwrap_or, length, map, flat_map, drop, slice_index, slice_set}
use Rattle.std.proofs.Common.{refl, ap, ◌∙◌, arith, ◌⊎◌, inl, inr, Contains}
use Rattle.std.proofs.lemmas.List.{length-set}
use Rattle.std.proofs.lemmas.List.Elements.{Contains-append_left, Contains-append_right, Contains-append_cases}
use Rattle.rtl_model.specs.basics.Valuations.{or_else}
use Rattle.rtl_model.specs.bodies.Effect.{entries, effect}
use Rattle.rtl_model.specs.bodies.Types.{limit_of}
use Rattle.rtl_model.specs.bodies.Values.{Seen, value_of}
use Rattle.rtl_model.specs.bodies.Variables.{values_put, variables_after}
use Rattle.rtl_model.proofs.basics.Lists.{Contains-none, Contains-first, Contains-one}
use Rattle.rtl_variable_registers.specs.Bodies.{KeptVariable, of_nets, variable_value, recalled, remembered}
use Rattle.rtl_variable_registers.proofs.Putting.{Contains-more, put_is_entry, entry_at_place, no_entry, own_or_none, entry_of_own}
use Rattle.rtl_variable_registers.proofs.Values.{FitTogether, nets_value, elements_value}

abbrev pub all_elements : List KeptVariable → List ℕ
all_elements vs = flat_map (λ (v : KeptVariable). v.elements) vs

pub length-values_put : (es values old : List ℕ) → length (values_put es values old) ≡ length old
length-values_put [] values old = refl
length-values_put (e ∷ es) values old = length-values_put es (drop 1 values) (slice_set old e (slice_index values 0)) ∙ length-set old e (slice_index values 0)

pub in_mapped : (f : ℕ → ℕ) (es : List ℕ) (q : ℕ) → Contains (map f es) q → (e : ℕ) × Contains es e × (f e ≡ q)
in_mapped f [] q c = absurd (Contains-none q c)
in_mapped f (e ∷ es) q c = go (λ k. in_mapped f es q k) (Contains-append_cases (f e ∷ []) (map f es) q c)
  where
    go : (Contains (map f es) q → (d : ℕ) × Contains es d × (f d ≡ q)) → Contains (f e ∷ []) q ⊎ Contains (map f es) q → (d : ℕ) × Contains (e ∷ es) d × (f d ≡ q)
    go rest (inl h) = (e, Contains-first e es, Contains-one (f e) q h)
    go rest (inr h) = let (d, k, at) = rest h in (d, Contains-more e es d k, at)

-- each of these variables is of its type, and its elements' values in this table are so
pub record IsHeld (values : ℕ → ℕ) (v : KeptVariable) : Type 0 where
  pub fit : FitTogether v.type_of v.elements
  pub below : (e : ℕ) → Contains v.elements e → values e < limit_of v.type_of

abbrev pub AreHeld : (values : ℕ → ℕ) → List KeptVariable → Type 0
AreHeld values [] = Unit {0}
AreHeld values (v ∷ vs) = IsHeld values v × AreHeld values vs

module _ (net place : ℕ → ℕ) where
  abbrev at_net : Seen → ℕ → ℕ
  at_net seen e = slice_index seen.now (net e)

  -- ---- recalled

  -- what a set gives an element is its net's value, or nothing
  given : (seen : Seen) (v : KeptVariable) → IsHeld (at_net seen) v → (e : ℕ) → e < length seen.variables
      → slice_index (values_put v.elements (value_of seen (of_nets v.type_of (map net v.elements))) seen.variables) e
      ≡ unwrap_or (entries v.elements (map (at_net seen) v.elements) e) (slice_index seen.variables e)
  given seen v h e l =
      ap (λ (values : List ℕ). slice_index (values_put v.elements values seen.variables) e) (nets_value seen net v.type_of v.elements h.fit h.below)
      ∙ put_is_entry v.elements (map (at_net seen) v.elements) seen.variables e l

  pub length-recalled : (vs : List KeptVariable) (seen : Seen) → length (variables_after seen (recalled net place vs)) ≡ length seen.variables
  length-recalled [] seen = refl
  length-recalled (v ∷ vs) seen =
      let values = value_of seen (of_nets v.type_of (map net v.elements)) in
      length-recalled vs (record seen { variables = values_put v.elements values seen.variables }) ∙ length-values_put v.elements values seen.variables

  -- an element that has its net's value keeps it
  recalled_keeps : (vs : List KeptVariable) (seen : Seen) → AreHeld (at_net seen) vs → (e : ℕ) → e < length seen.variables
      → slice_index seen.variables e ≡ at_net seen e → slice_index (variables_after seen (recalled net place vs)) e ≡ at_net seen e
  recalled_keeps [] seen h e l k = k
  recalled_keeps (v ∷ vs) seen h e l k =
      let values = value_of seen (of_nets v.type_of (map net v.elements)) in
      recalled_keeps vs (record seen { variables = values_put v.elements values seen.variables }) h.1 e (omega (arith, length-values_put v.elements values seen.variables))
      (given seen v h.0 e l ∙ go (own_or_none (at_net seen) v.elements e))
    where
      go : (entries v.elements (map (at_net seen) v.elements) e ≡ None) ⊎ (entries v.elements (map (at_net seen) v.elements) e ≡ Some (at_net seen e))
          → unwrap_or (entries v.elements (map (at_net seen) v.elements) e) (slice_index seen.variables e) ≡ at_net seen e
      go (inl n) = ap (λ (o : Option ℕ). unwrap_or o (slice_index seen.variables e)) n ∙ k
      go (inr s) = ap (λ (o : Option ℕ). unwrap_or o (slice_index seen.variables e)) s

  pub recalled_gives : (vs : List KeptVariable) (seen : Seen) → AreHeld (at_net seen) vs → (e : ℕ) → e < length seen.variables
      → Contains (all_elements vs) e → slice_index (variables_after seen (recalled net place vs)) e ≡ at_net seen e
  recalled_gives [] seen h e l c = absurd (Contains-none e c)
  recalled_gives (v ∷ vs) seen h e l c =
      let values = value_of seen (of_nets v.type_of (map net v.elements)) in
      let more : e < length (values_put v.elements values seen.variables) = omega (arith, length-values_put v.elements values seen.variables) in
      go (λ k. recalled_keeps vs (record seen { variables = values_put v.elements values seen.variables }) h.1 e more (given seen v h.0 e l ∙ ap (λ (o : Option ℕ). unwrap_or o (slice_index seen.variables e)) (entry_of_own (at_net seen) v.elements e k)))
      (λ k. recalled_gives vs (record seen { variables = values_put v.elements values seen.variables }) h.1 e more k)
      (Contains-append_cases v.elements (all_elements vs) e c)
    where
      go : {A B C : Type 0} → (A → C) → (B → C) → A ⊎ B → C
      go f g (inl a) = f a
      go f g (inr b) = g b

  pub recalled_drives_none : (vs : List KeptVariable) (seen : Seen) (q : ℕ) → effect seen (recalled net place vs) q ≡ None
  recalled_drives_none [] seen q = refl
  recalled_drives_none (v ∷ vs) seen q =
      ap (λ (o : Option ℕ). or_else o None)
      (recalled_drives_none vs (record seen { variables = values_put v.elements (value_of seen (of_nets v.type_of (map net v.elements))) seen.variables }) q)

  -- ---- remembered

  of_place : (es values : List ℕ) (e : ℕ) → ((d : ℕ) → Contains es d → place d ≡ place e → d ≡ e)
      → entries (map place es) values (place e) ≡ entries es values e
  of_place es values e h = entry_at_place place es values e h

  pub remembered_drives_none : (vs : List KeptVariable) (seen : Seen) (q : ℕ) → ((e : ℕ) → Contains (all_elements vs) e → place e ≡ q → ⊥)
      → effect seen (remembered net place vs) q ≡ None
  remembered_drives_none [] seen q h = refl
  remembered_drives_none (v ∷ vs) seen q h =
      rw (remembered_drives_none vs seen q (λ e c. h e (Contains-append_right v.elements (all_elements vs) e c)))
      (no_entry (map place v.elements) (value_of seen (variable_value v.type_of v.elements)) q
      (λ p c s. let (e, k, at) = in_mapped place v.elements p c in h e (Contains-append_left v.elements (all_elements vs) e k) (at ∙ s)))

  one_entry_at : (seen : Seen) (v : KeptVariable) → IsHeld (slice_index seen.variables) v → (e : ℕ) → ((d : ℕ) → Contains v.elements d → place d ≡ place e → d ≡ e)
      → entries (map place v.elements) (value_of seen (variable_value v.type_of v.elements)) (place e) ≡ entries v.elements (map (slice_index seen.variables) v.elements) e
  one_entry_at seen v h e apart =
      of_place v.elements (value_of seen (variable_value v.type_of v.elements)) e apart
      ∙ ap (λ (values : List ℕ). entries v.elements values e) (elements_value seen v.type_of v.elements h.fit h.below)

  remembered_or_none : (vs : List KeptVariable) (seen : Seen) → AreHeld (slice_index seen.variables) vs → (e : ℕ) → ((d : ℕ) → Contains (all_elements vs) d → place d ≡ place e → d ≡ e)
      → (effect seen (remembered net place vs) (place e) ≡ None) ⊎ (effect seen (remembered net place vs) (place e) ≡ Some (slice_index seen.variables e))
  remembered_or_none [] seen h e apart = inl refl
  remembered_or_none (v ∷ vs) seen h e apart =
      go (one_entry_at seen v h.0 e (λ d c. apart d (Contains-append_left v.elements (all_elements vs) d c)))
      (remembered_or_none vs seen h.1 e (λ d c. apart d (Contains-append_right v.elements (all_elements vs) d c)))
      (own_or_none (slice_index seen.variables) v.elements e)
    where
      go : entries (map place v.elements) (value_of seen (variable_value v.type_of v.elements)) (place e) ≡ entries v.elements (map (slice_index seen.variables) v.elements) e
          → (effect seen (remembered net place vs) (place e) ≡ None) ⊎ (effect seen (remembered net place vs) (place e) ≡ Some (slice_index seen.variables e))
          → (entries v.elements (map (slice_index seen.variables) v.elements) e ≡ None) ⊎ (entries v.elements (map (slice_index seen.variables) v.elements) e ≡ Some (slice_index seen.variables e))
          → (effect seen (remembered net place (v ∷ vs)) (place e) ≡ None) ⊎ (effect seen (remembered net place (v ∷ vs)) (place e) ≡ Some (slice_index seen.variables e))
      go s (inr b) k = inr (rw b)
      go s (inl a) (inl n) = inl (rw a (s ∙ n))
      go s (inl a) (inr k) = inr (rw a (s ∙ k))

  pub remembered_gives : (vs : List KeptVariable) (seen : Seen) → AreHeld (slice_index seen.variables) vs → (e : ℕ) → ((d : ℕ) → Contains (all_elements vs) d → place d ≡ place e → d ≡ e)
      → Contains (all_elements vs) e → effect seen (remembered net place vs) (place e) ≡ Some (slice_index seen.variables e)
  remembered_gives [] seen h e apart c = absurd (Contains-none e c)
  remembered_gives (v ∷ vs) seen h e apart c =
      go (remembered_or_none vs seen h.1 e (λ d k. apart d (Contains-append_right v.elements (all_elements vs) d k)))
      (λ k. remembered_gives vs seen h.1 e (λ d i. apart d (Contains-append_right v.elements (all_elements vs) d i)) k)
      (λ k. one_entry_at seen v h.0 e (λ d i. apart d (Contains-append_left v.elements (all_elements vs) d i)) ∙ entry_of_own (slice_index seen.variables) v.elements e k)
      (Contains-append_cases v.elements (all_elements vs) e c)
    where
      go : (effect seen (remembered net place vs) (place e) ≡ None) ⊎ (effect seen (remembered net place vs) (place e) ≡ Some (slice_index seen.variables e))
          → (Contains (all_elements vs) e → effect seen (remembered net place vs) (place e) ≡ Some (slice_index seen.variables e))
          → (Contains v.elements e → entries (map place v.elements) (value_of seen (variable_value v.type_of v.elements)) (place e) ≡ Some (slice_index seen.variables e))
          → Contains v.elements e ⊎ Contains (all_elements vs) e → effect seen (remembered net place (v ∷ vs)) (place e) ≡ Some (slice_index seen.variables e)
      go (inr b) rest first c = rw b
      go (inl a) rest first (inl k) = rw a (first k)
      go (inl a) rest first (inr k) = rw (rest k)
