-- Elements have nets of their types, start with values of them, and are of nine values where they are ports.
use Rattle.std.proofs.Common.{◌≡◌, ℕ, ◌+◌, ◌<◌, true, List, [], ◌∷◌, ◌++◌, length, map, replicate, Some, All, refl, sym, ap, ◌∙◌, subst, arith, append_assoc}
use Rattle.std.specs.Prelude.{slice_get, slice_index_or, flat_map}
use Rattle.std.specs.List.{AllZip, range_with_len}
use Rattle.std.proofs.lemmas.List.{length-append, length-replicate}
use Rattle.std.proofs.lemmas.List.Elements.{All-nil, All-append, All-map, All-weaker, All-head, All-tail, All-get_or}
use Rattle.std.proofs.lemmas.List.FromFn.{length-range_with_len, get_or-range_with_len}
use Rattle.rtl_model.specs.bodies.Types.{ElementType, nine_valued, limit_of, HasType}
use Rattle.vhdl_expand_rules.specs.Kinds.{size, element_type}
use Rattle.vhdl_expand_rules.specs.Tree.{Role, Object}
use Rattle.vhdl_expand_rules.specs.laws.Lengths.{ObjectFits}
use Rattle.vhdl_expand_rules.specs.laws.Trees.{object_types, object_roles, is_port, ObjectIsSound}
use Rattle.vhdl_expand_rules.proofs.laws.Names.{get-past, get-before, get-replicate}
use Rattle.vhdl_elab_rules.specs.Numbering.{Placed}
use Rattle.vhdl_elab_rules.specs.Wiring.{Element, element_of, elements_from, elements_of}
use Rattle.vhdl_elab_rules.proofs.laws.Typed.{zip_read}
use Rattle.vhdl_elab_rules.proofs.laws.Walk.{PlacedIsSound}

pub record ElementIsSound (types : List ElementType) (e : Element) : Type 0 where
  pub typed : HasType types e.type e.net
  pub start : e.start < limit_of e.type
  pub ports_are_nine : is_port e.role ≡ true → e.type ≡ nine_valued
  pub resolved_are_nine : e.is_resolved ≡ true → e.type ≡ nine_valued

pub run-below : (n : ℕ) → All (λ k. k < n) (range_with_len 0 n)
run-below n k d h =
    let len : length (range_with_len 0 n) ≡ n = length-range_with_len 0 n in
    let is : slice_index_or (range_with_len 0 n) k d ≡ 0 + k = get_or-range_with_len 0 n k d (omega (arith, h, len)) in
    omega (arith, is, h, len)

-- what stands at a place of a block behind others
block-at : {A : Type 0} (front rest : List A) (n : ℕ) (x : A) (k : ℕ) → k < n → slice_get (front ++ (replicate n x ++ rest)) (length front + k) ≡ Some x
block-at front rest n x k l = get-past front (replicate n x ++ rest) k ∙ get-before (replicate n x) rest k x (get-replicate n x k l)

module _ (types : List ElementType) (p : Placed) (zip : AllZip (HasType types) (object_types p.objects) p.nets) where
  sound-from : (os outer : List Object) (front : List ElementType) (first : ℕ) → object_types p.objects ≡ front ++ object_types os → length front ≡ first → All (ObjectIsSound outer) os → All ObjectFits os
      → All (ElementIsSound types) (elements_from p first os)
  sound-from [] outer front first e l h fit = All-nil (ElementIsSound types)
  sound-from (o ∷ os) outer front first e l h fit =
      let sound = All-head (ObjectIsSound outer) o os h in
      let block : List ElementType = replicate (size o.kind) (element_type o.kind) in
      All-append (ElementIsSound types) (map (λ k. element_of p o (first + k) k) (range_with_len 0 (size o.kind))) (elements_from p (first + size o.kind) os)
      (All-map (ElementIsSound types) (λ k. element_of p o (first + k) k) (range_with_len 0 (size o.kind))
      (All-weaker (λ k. k < size o.kind) (λ k. ElementIsSound types (element_of p o (first + k) k)) (λ k below. record {
        typed = zip_read (HasType types) (object_types p.objects) p.nets (first + k) (element_type o.kind) zip
            (ap (λ (ts : List ElementType). slice_get ts (first + k)) e ∙ ap (λ n. slice_get (front ++ (block ++ object_types os)) (n + k)) (sym l)
            ∙ block-at front (object_types os) (size o.kind) (element_type o.kind) k below);
        start = All-get_or (λ v. v < limit_of (element_type o.kind)) o.starts k 0 (subst (λ n. k < n) (sym (All-head ObjectFits o os fit).starts) below) sound.starts;
        ports_are_nine = sound.ports_are_nine;
        resolved_are_nine = sound.resolved_are_nine;
      }) (range_with_len 0 (size o.kind)) (run-below (size o.kind))))
      (sound-from os outer (front ++ block) (first + size o.kind) (e ∙ sym (append_assoc front block (object_types os)))
      (length-append front block ∙ ap (λ n. n + length block) l ∙ ap (λ n. first + n) (length-replicate (size o.kind) (element_type o.kind))) (All-tail (ObjectIsSound outer) o os h) (All-tail ObjectFits o os fit))

pub elements-sound : (types : List ElementType) (p : Placed) → PlacedIsSound types p → All (ElementIsSound types) (elements_of p)
elements-sound types p h = sound-from types p h.nets p.objects h.outer [] 0 refl refl h.sound h.fits

pub all-flat : {A B : Type 0} (P : B → Type 0) (f : A → List B) (xs : List A) → All (λ x. All P (f x)) xs → All P (flat_map f xs)
all-flat P f [] h = All-nil P
all-flat P f (x ∷ xs) h = All-append P (f x) (flat_map f xs) (All-head (λ y. All P (f y)) x xs h) (all-flat P f xs (All-tail (λ y. All P (f y)) x xs h))

-- a fact of the role and the net of each element
abbrev pub RoleAndNet : (Role → ℕ → Type 0) → Element → Type 0
RoleAndNet R e = R e.role e.net

module _ (R : Role → ℕ → Type 0) (p : Placed) (zip : AllZip R (object_roles p.objects) p.nets) where
  roles-from : (os : List Object) (front : List Role) (first : ℕ) → object_roles p.objects ≡ front ++ object_roles os → length front ≡ first → All (RoleAndNet R) (elements_from p first os)
  roles-from [] front first e l = All-nil (RoleAndNet R)
  roles-from (o ∷ os) front first e l =
      let block : List Role = replicate (size o.kind) o.role in
      All-append (RoleAndNet R) (map (λ k. element_of p o (first + k) k) (range_with_len 0 (size o.kind))) (elements_from p (first + size o.kind) os)
      (All-map (RoleAndNet R) (λ k. element_of p o (first + k) k) (range_with_len 0 (size o.kind))
      (All-weaker (λ k. k < size o.kind) (λ k. RoleAndNet R (element_of p o (first + k) k))
      (λ k below. zip_read R (object_roles p.objects) p.nets (first + k) o.role zip
      (ap (λ (ts : List Role). slice_get ts (first + k)) e ∙ ap (λ n. slice_get (front ++ (block ++ object_roles os)) (n + k)) (sym l) ∙ block-at front (object_roles os) (size o.kind) o.role k below))
      (range_with_len 0 (size o.kind)) (run-below (size o.kind))))
      (roles-from os (front ++ block) (first + size o.kind) (e ∙ sym (append_assoc front block (object_roles os)))
      (length-append front block ∙ ap (λ n. n + length block) l ∙ ap (λ n. first + n) (length-replicate (size o.kind) o.role)))

pub elements-roles : (R : Role → ℕ → Type 0) (p : Placed) → AllZip R (object_roles p.objects) p.nets → All (λ (e : Element). R e.role e.net) (elements_of p)
elements-roles R p zip = roles-from R p zip p.objects [] 0 refl refl
