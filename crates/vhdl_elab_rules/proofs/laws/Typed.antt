-- Nets have the types of the elements that they are nets of.
use Rattle.std.proofs.Common.{◌≡◌, ℕ, zero, suc, ◌+◌, ◌<◌, Bool, true, false, cond, List, [], ◌∷◌, ◌++◌, length, map, replicate, Option, Some, None, All, refl, sym, ap, ◌∙◌, subst, arith, append_assoc}
use Rattle.std.specs.Prelude.{slice_get, slice_index, filter, is_none}
use Rattle.std.specs.List.{AllZip, range_with_len}
use Rattle.std.proofs.lemmas.Option.{same_Some}
use Rattle.std.proofs.lemmas.List.{length-append, length-replicate, map-append, get_or-append-add}
use Rattle.std.proofs.lemmas.List.Elements.{All-nil, All-append, All-replicate, All-head, All-tail, filter-append}
use Rattle.rtl_model.specs.bodies.Types.{ElementType, limit_of, IsByte, HasType}
use Rattle.vhdl_expand_rules.specs.Kinds.{ObjectKind, enumeration, size, element_type}
use Rattle.vhdl_expand_rules.specs.Tree.{Object}
use Rattle.vhdl_expand_rules.specs.laws.Lengths.{ObjectFits}
use Rattle.vhdl_expand_rules.specs.laws.Trees.{IsKind, object_types, ObjectIsSound}
use Rattle.vhdl_expand_rules.proofs.laws.Names.{get-past, get-before}
use Rattle.vhdl_elab_rules.specs.Numbering.{object_nets, own_size, element_nets, own_sizes, Placed}
use Rattle.vhdl_elab_rules.specs.Wiring.{Element, element_of, elements_from, defaults_of}
use Rattle.vhdl_elab_rules.proofs.laws.Nets.{own-nets, actual-nets, own-is_size, actual-is_none}

-- ---- pairs of elements

pub zip_append : {A B : Type 0} (R : A → B → Type 0) (xs : List A) (ys : List B) (vs : List A) (ws : List B) → AllZip R xs ys → AllZip R vs ws → AllZip R (xs ++ vs) (ys ++ ws)
zip_append {A} {B} R [] [] vs ws h g = g
zip_append {A} {B} R [] (y ∷ ys) vs ws h g = elim h [ ]
zip_append {A} {B} R (x ∷ xs) [] vs ws h g = elim h [ ]
zip_append {A} {B} R (x ∷ xs) (y ∷ ys) vs ws h g = (h.0, zip_append R xs ys vs ws h.1 g)

pub zip_weaker : {A B : Type 0} (R S : A → B → Type 0) → ((x : A) (y : B) → R x y → S x y) → (xs : List A) (ys : List B) → AllZip R xs ys → AllZip S xs ys
zip_weaker {A} {B} R S go [] [] h = tt
zip_weaker {A} {B} R S go [] (y ∷ ys) h = elim h [ ]
zip_weaker {A} {B} R S go (x ∷ xs) [] h = elim h [ ]
zip_weaker {A} {B} R S go (x ∷ xs) (y ∷ ys) h = (go x y h.0, zip_weaker R S go xs ys h.1)

pub zip_read : {A : Type 0} (R : A → ℕ → Type 0) (xs : List A) (ys : List ℕ) (k : ℕ) (x : A) → AllZip R xs ys → slice_get xs k ≡ Some x → R x (slice_index ys k)
zip_read {A} R [] ys k x h e = absurd cc
zip_read {A} R (a ∷ xs) [] k x h e = elim h [ ]
zip_read {A} R (a ∷ xs) (y ∷ ys) zero x h e = subst (λ (b : A). R b y) (same_Some a x e) h.0
zip_read {A} R (a ∷ xs) (y ∷ ys) (suc k) x h e = zip_read R xs ys k x h.1 e

pub zip_lengths : {A B : Type 0} (R : A → B → Type 0) (xs : List A) (ys : List B) → AllZip R xs ys → length xs ≡ length ys
zip_lengths {A} {B} R [] [] h = refl
zip_lengths {A} {B} R [] (y ∷ ys) h = elim h [ ]
zip_lengths {A} {B} R (x ∷ xs) [] h = elim h [ ]
zip_lengths {A} {B} R (x ∷ xs) (y ∷ ys) h = ap suc (zip_lengths R xs ys h.1)

-- a value of its type
abbrev pub IsBelow : ElementType → ℕ → Type 0
IsBelow t v = v < limit_of t

-- ---- what an object has of its own

abbrev pub own_of : {A : Type 0} → Option (List ℕ) → List A → List A
own_of None xs = xs
own_of (Some es) xs = []

abbrev pub object_own : Object → List ElementType
object_own o = own_of o.actual (replicate (size o.kind) (element_type o.kind))

abbrev pub own_types : List Object → List ElementType
own_types [] = []
own_types (o ∷ os) = object_own o ++ own_types os

abbrev pub own_starts : List Object → List ℕ
own_starts [] = []
own_starts (o ∷ os) = own_of o.actual o.starts ++ own_starts os

length-own : (o : Object) → length (object_own o) ≡ own_size o
length-own o = by o.actual refl
  where
    by : (a : Option (List ℕ)) → o.actual ≡ a → length (object_own o) ≡ own_size o
    by None e =
        ap (λ (a : Option (List ℕ)). length (own_of a (replicate (size o.kind) (element_type o.kind)))) e ∙ length-replicate (size o.kind) (element_type o.kind) ∙ sym (own-is_size o e)
    by (Some es) e = ap (λ (a : Option (List ℕ)). length (own_of a (replicate (size o.kind) (element_type o.kind)))) e ∙ sym (actual-is_none o es e)

pub length-own_types : (os : List Object) → length (own_types os) ≡ own_sizes os
length-own_types [] = refl
length-own_types (o ∷ os) = length-append (object_own o) (own_types os) ∙ ap (λ n. n + length (own_types os)) (length-own o) ∙ ap (λ n. own_size o + n) (length-own_types os)

-- ---- the fields of own elements

abbrev own : Element → Bool
own e = e.is_own

all-own : {A : Type 0} (f : Element → A) (g : ℕ → Element) (ks : List ℕ) → ((k : ℕ) → own (g k) ≡ true) → map f (filter own (map g ks)) ≡ map (λ k. f (g k)) ks
all-own f g [] h = refl
all-own f g (k ∷ ks) h = ap (λ (b : Bool). map f (cond b (g k ∷ filter own (map g ks)) (filter own (map g ks)))) (h k) ∙ ap (λ xs. f (g k) ∷ xs) (all-own f g ks h)

none-own : (g : ℕ → Element) (ks : List ℕ) → ((k : ℕ) → own (g k) ≡ false) → filter own (map g ks) ≡ []
none-own g [] h = refl
none-own g (k ∷ ks) h = ap (λ (b : Bool). cond b (g k ∷ filter own (map g ks)) (filter own (map g ks))) (h k) ∙ none-own g ks h

constant-run : (t : ElementType) (a n : ℕ) → map (λ k. t) (range_with_len a n) ≡ replicate n t
constant-run t a zero = refl
constant-run t a (suc n) = ap (λ ts. t ∷ ts) (constant-run t (a + 1) n)

read-run : (front xs : List ℕ) (a : ℕ) → length front ≡ a → map (slice_index (front ++ xs)) (range_with_len a (length xs)) ≡ xs
read-run front [] a h = refl
read-run front (x ∷ xs) a h =
    let first : slice_index (front ++ x ∷ xs) a ≡ x = ap (slice_index (front ++ x ∷ xs)) (sym h ∙ plus-none (length front)) ∙ at front 0 in
    ap (λ y. y ∷ map (slice_index (front ++ x ∷ xs)) (range_with_len (a + 1) (length xs))) first
    ∙ ap (λ (zs : List ℕ). x ∷ map (slice_index zs) (range_with_len (a + 1) (length xs))) (sym (append_assoc front (x ∷ []) xs))
    ∙ ap (λ ys. x ∷ ys) (read-run (front ++ x ∷ []) xs (a + 1) (length-append front (x ∷ []) ∙ ap (λ n. n + 1) h))
  where
    plus-none : (n : ℕ) → n ≡ n + 0
    plus-none n = omega arith

    at : (front : List ℕ) (n : ℕ) → slice_index (front ++ x ∷ xs) (length front + 0) ≡ x
    at front n = get_or-append-add front (x ∷ xs) 0 0

-- a field of the own elements of an object, whose values from the left are these
own-field : {A : Type 0} (f : Element → A) (p : Placed) (start : ℕ) (o : Object) (xs : List A) → map (λ k. f (element_of p o (start + k) k)) (range_with_len 0 (size o.kind)) ≡ xs
    → map f (filter own (map (λ k. element_of p o (start + k) k) (range_with_len 0 (size o.kind)))) ≡ own_of o.actual xs
own-field {A} f p start o xs h = by o.actual refl
  where
    by : (a : Option (List ℕ)) → o.actual ≡ a → map f (filter own (map (λ k. element_of p o (start + k) k) (range_with_len 0 (size o.kind)))) ≡ own_of o.actual xs
    by None e = all-own f (λ k. element_of p o (start + k) k) (range_with_len 0 (size o.kind)) (λ k. ap is_none e) ∙ h ∙ ap (λ (a : Option (List ℕ)). own_of a xs) (sym e)
    by (Some es) e = ap (map f) (none-own (λ k. element_of p o (start + k) k) (range_with_len 0 (size o.kind)) (λ k. ap is_none e)) ∙ ap (λ (a : Option (List ℕ)). own_of a xs) (sym e)

pub own-types-from : (os : List Object) (p : Placed) (start : ℕ) → map (λ (e : Element). e.type) (filter own (elements_from p start os)) ≡ own_types os
own-types-from [] p start = refl
own-types-from (o ∷ os) p start =
    let mine : List Element = map (λ k. element_of p o (start + k) k) (range_with_len 0 (size o.kind)) in
    let theirs : List Element = elements_from p (start + size o.kind) os in
    ap (map (λ (e : Element). e.type)) (filter-append own mine theirs) ∙ map-append (λ (e : Element). e.type) (filter own mine) (filter own theirs)
    ∙ ap (λ (ts : List ElementType). ts ++ map (λ (e : Element). e.type) (filter own theirs))
    (own-field (λ (e : Element). e.type) p start o (replicate (size o.kind) (element_type o.kind)) (constant-run (element_type o.kind) 0 (size o.kind)))
    ∙ ap (λ (ts : List ElementType). object_own o ++ ts) (own-types-from os p (start + size o.kind))

pub own-starts-from : (os : List Object) (p : Placed) (start : ℕ) → All ObjectFits os → map (λ (e : Element). e.start) (filter own (elements_from p start os)) ≡ own_starts os
own-starts-from [] p start fit = refl
own-starts-from (o ∷ os) p start fit =
    let mine : List Element = map (λ k. element_of p o (start + k) k) (range_with_len 0 (size o.kind)) in
    let theirs : List Element = elements_from p (start + size o.kind) os in
    let starts : map (slice_index o.starts) (range_with_len 0 (size o.kind)) ≡ o.starts =
    ap (λ n. map (slice_index o.starts) (range_with_len 0 n)) (sym (All-head ObjectFits o os fit).starts) ∙ read-run [] o.starts 0 refl in
    ap (map (λ (e : Element). e.start)) (filter-append own mine theirs) ∙ map-append (λ (e : Element). e.start) (filter own mine) (filter own theirs)
    ∙ ap (λ (ts : List ℕ). ts ++ map (λ (e : Element). e.start) (filter own theirs)) (own-field (λ (e : Element). e.start) p start o o.starts starts)
    ∙ ap (λ (ts : List ℕ). own_of o.actual o.starts ++ ts) (own-starts-from os p (start + size o.kind) (All-tail ObjectFits o os fit))

-- ---- bytes, and values of types

kind-byte : (k : ObjectKind) → IsKind k → IsByte (element_type k)
kind-byte (enumeration n) h = h.1
kind-byte _ h = omega arith

own-bytes : (o : Object) → IsKind o.kind → All IsByte (object_own o)
own-bytes o h = by o.actual
  where
    by : (a : Option (List ℕ)) → All IsByte (own_of a (replicate (size o.kind) (element_type o.kind)))
    by None = All-replicate IsByte (size o.kind) (element_type o.kind) (kind-byte o.kind h)
    by (Some es) = All-nil IsByte

pub types-bytes : (above os : List Object) → All (ObjectIsSound above) os → All IsByte (own_types os)
types-bytes above [] h = All-nil IsByte
types-bytes above (o ∷ os) h =
    All-append IsByte (object_own o) (own_types os) (own-bytes o (All-head (ObjectIsSound above) o os h).kind) (types-bytes above os (All-tail (ObjectIsSound above) o os h))

below-type : (t : ElementType) (n : ℕ) (vs : List ℕ) → length vs ≡ n → All (λ v. v < limit_of t) vs → AllZip IsBelow (replicate n t) vs
below-type t zero [] l h = tt
below-type t (suc n) (v ∷ vs) l h = (All-head (λ x. x < limit_of t) v vs h, below-type t n vs (omega (arith, l)) (All-tail (λ x. x < limit_of t) v vs h))
below-type t _ _ l h = absurd (omega (arith, l))

pub starts-below : (above os : List Object) → All (ObjectIsSound above) os → All ObjectFits os → AllZip IsBelow (own_types os) (own_starts os)
starts-below above [] h fit = tt
starts-below above (o ∷ os) h fit =
    zip_append IsBelow (object_own o) (own_of o.actual o.starts) (own_types os) (own_starts os) (by o.actual) (starts-below above os (All-tail (ObjectIsSound above) o os h) (All-tail ObjectFits o os fit))
  where
    by : (a : Option (List ℕ)) → AllZip IsBelow (own_of a (replicate (size o.kind) (element_type o.kind))) (own_of a o.starts)
    by None = below-type (element_type o.kind) (size o.kind) o.starts (All-head ObjectFits o os fit).starts (All-head (ObjectIsSound above) o os h).starts
    by (Some es) = tt

pub defaults-below : (above os : List Object) → All (ObjectIsSound above) os → All ObjectFits os → AllZip IsBelow (object_types os) (defaults_of os)
defaults-below above [] h fit = tt
defaults-below above (o ∷ os) h fit =
    zip_append IsBelow (replicate (size o.kind) (element_type o.kind)) o.starts (object_types os) (defaults_of os)
    (below-type (element_type o.kind) (size o.kind) o.starts (All-head ObjectFits o os fit).starts (All-head (ObjectIsSound above) o os h).starts)
    (defaults-below above os (All-tail (ObjectIsSound above) o os h) (All-tail ObjectFits o os fit))

-- ---- the nets of an instance

pub more-types : (types more ts : List ElementType) (ns : List ℕ) → AllZip (HasType types) ts ns → AllZip (HasType (types ++ more)) ts ns
more-types types more ts ns h = zip_weaker (HasType types) (HasType (types ++ more)) (λ t n k. get-before types more n t k) ts ns h

run-typed : (n : ℕ) (t : ElementType) (types rest : List ElementType) (first : ℕ) → length types ≡ first → AllZip (HasType (types ++ (replicate n t ++ rest))) (replicate n t) (range_with_len first n)
run-typed zero t types rest first l = tt
run-typed (suc n) t types rest first l =
    let ts : List ElementType = replicate n t ++ rest in
    let at : first ≡ length types + 0 = sym l ∙ plus-none (length types) in (
      ap (slice_get (types ++ t ∷ ts)) at ∙ get-past types (t ∷ ts) 0,
      subst (λ (us : List ElementType). AllZip (HasType us) (replicate n t) (range_with_len (first + 1) n)) (append_assoc types (t ∷ []) ts)
          (run-typed n t (types ++ t ∷ []) rest (first + 1) (length-append types (t ∷ []) ∙ ap (λ m. m + 1) l)),
    )
  where
    plus-none : (n : ℕ) → n ≡ n + 0
    plus-none n = omega arith

joined-typed : (n : ℕ) (t : ElementType) (types ts : List ElementType) (above es : List ℕ) → AllZip (HasType types) ts above → All (HasType ts t) es → length es ≡ n
    → AllZip (HasType types) (replicate n t) (map (slice_index above) es)
joined-typed zero t types ts above [] z h l = tt
joined-typed (suc n) t types ts above (e ∷ es) z h l =
    (zip_read (HasType types) ts above e t z (All-head (HasType ts t) e es h), joined-typed n t types ts above es z (All-tail (HasType ts t) e es h) (omega (arith, l)))
joined-typed _ t types ts above _ z h l = absurd (omega (arith, l))

-- an instance's elements have nets of their types, where those above have
pub nets-typed : (os outer : List Object) (above : List ℕ) (types : List ElementType) (first : ℕ) → All (ObjectIsSound outer) os → All ObjectFits os → AllZip (HasType types) (object_types outer) above
    → length types ≡ first → AllZip (HasType (types ++ own_types os)) (object_types os) (element_nets above first os)
nets-typed [] outer above types first h fit z l = tt
nets-typed (o ∷ os) outer above types first h fit z l =
    let n : ℕ = size o.kind in
    let t : ElementType = element_type o.kind in
    let sound = All-head (ObjectIsSound outer) o os h in
    let rest = nets-typed os outer above (types ++ object_own o) (first + own_size o) (All-tail (ObjectIsSound outer) o os h) (All-tail ObjectFits o os fit)
    (more-types types (object_own o) (object_types outer) above z) (length-append types (object_own o) ∙ ap (λ m. m + length (object_own o)) l ∙ ap (λ m. first + m) (length-own o)) in
    zip_append (HasType (types ++ own_types (o ∷ os))) (replicate n t) (object_nets above first o) (object_types os) (element_nets above (first + own_size o) os)
    (by o.actual refl sound (All-head ObjectFits o os fit))
    (subst (λ (us : List ElementType). AllZip (HasType us) (object_types os) (element_nets above (first + own_size o) os)) (append_assoc types (object_own o) (own_types os)) rest)
  where
    by : (a : Option (List ℕ)) → o.actual ≡ a → ObjectIsSound outer o → ObjectFits o
        → AllZip (HasType (types ++ own_types (o ∷ os))) (replicate (size o.kind) (element_type o.kind)) (object_nets above first o)
    by None e sound fits =
        subst (λ (ns : List ℕ). AllZip (HasType (types ++ own_types (o ∷ os))) (replicate (size o.kind) (element_type o.kind)) ns) (sym (own-nets above first o e))
        (subst (λ (a : Option (List ℕ)). AllZip (HasType (types ++ (own_of a (replicate (size o.kind) (element_type o.kind)) ++ own_types os))) (replicate (size o.kind) (element_type o.kind)) (range_with_len first (size o.kind))) (sym e)
        (run-typed (size o.kind) (element_type o.kind) types (own_types os) first l))
    by (Some es) e sound fits =
        subst (λ (ns : List ℕ). AllZip (HasType (types ++ own_types (o ∷ os))) (replicate (size o.kind) (element_type o.kind)) ns) (sym (actual-nets above first o es e))
        (more-types types (own_types (o ∷ os)) (replicate (size o.kind) (element_type o.kind)) (map (slice_index above) es)
        (joined-typed (size o.kind) (element_type o.kind) types (object_types outer) above es z (sound.actual es e) (fits.actual es e)))
