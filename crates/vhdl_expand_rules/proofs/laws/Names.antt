-- The elements of a name: each is there, and of the type of what is declared.
use Rattle.std.proofs.Common.{◌≡◌, ℕ, zero, suc, ◌+◌, ◌<◌, ◌≤◌, List, [], ◌∷◌, ◌++◌, length, map, replicate, take, Option, Some, None, Ok, All, refl, sym, ap, ◌∙◌, subst, arith}
use Rattle.std.specs.Prelude.{slice_get}
use Rattle.std.specs.List.{AllZip, range_with_len}
use Rattle.std.proofs.lemmas.Option.{same_Some}
use Rattle.std.proofs.lemmas.List.{length-append, length-map, length-replicate}
use Rattle.std.proofs.lemmas.List.Elements.{All-cons, All-nil, All-weaker, All-map}
use Rattle.std.proofs.lemmas.List.FromFn.{length-range_with_len}
use Rattle.std.proofs.lemmas.List.Sums.{sum_by-cons}
use Rattle.rtl_model.specs.bodies.Types.{ElementType, enumeration, HasType}
use Rattle.rtl_model.specs.bodies.Fits.{IsWidth}
use Rattle.vhdl_names_rules.specs.units.Expressions as u
use Rattle.vhdl_names_rules.specs.units.Expressions.{Signal, Part}
use Rattle.vhdl_names_rules.specs.units.Units as units
use Rattle.vhdl_names_rules.specs.units.Units.{Form}
use Rattle.vhdl_names_rules.specs.sound.Expressions as sound
use Rattle.vhdl_names_rules.specs.sound.Expressions.{Inside, Shape, static_fits, range_fits, shape_of, part_shape, port_form, place_shape}
use Rattle.vhdl_expand_rules.specs.declared.fault.ElabProblem.{ElabProblem}
use Rattle.vhdl_expand_rules.specs.declared.fault.ElabProblem.TheVariants.{Index}
use Rattle.vhdl_expand_rules.specs.Elab.{item_or}
use Rattle.vhdl_expand_rules.specs.Integers as integers
use Rattle.vhdl_expand_rules.specs.Integers.{Integers}
use Rattle.vhdl_expand_rules.specs.Kinds.{ObjectKind, one, vector, enumeration, integer, boolean, number_size, size, element_type, place_of, places}
use Rattle.vhdl_expand_rules.specs.Site.{Site, elements_count, part_elements, signal_elements, variable_elements}
use Rattle.vhdl_expand_rules.specs.laws.Sites.{IsOf, IsSite, kinds_types, scope_at}
use Rattle.vhdl_expand_rules.specs.laws.Expressions.{HasShape, type_of, IsName, EachNameFits}
use Rattle.vhdl_expand_rules.proofs.Steps.{given, ok, bound}
use Rattle.vhdl_expand_rules.proofs.Options.{step, given_some}
use Rattle.vhdl_expand_rules.proofs.Digits.{integral, size_width}
use Rattle.vhdl_expand_rules.proofs.laws.Places.{run-within, place_below, slice_within}

-- ---- shapes

pub is_width : (s : Shape) (n : ℕ) → HasShape s n → IsWidth n
is_width sound.vector n h = h
is_width sound.number n h = h
is_width _ n h = (omega (arith, h), omega (arith, h))

pub width-le : (m n : ℕ) → 1 ≤ m → m ≤ n → IsWidth n → IsWidth m
width-le m n a b h = let c : n ≤ 64 = h.1 in (a, omega (arith, b, c))

pub was_found : {A : Type 0} (problem : ElabProblem) (at : ℕ) (o : Option A) (x : A) → item_or problem at o ≡ given x → o ≡ Some x
was_found problem at None x h = absurd cc
was_found problem at (Some y) x h = ap Some (ok y x h)

-- ---- places of a part

pub record PartPlaces (kind : ObjectKind) (s : Shape) (ps : List ℕ) : Type 0 where
  pub below : All (λ p. p < size kind) ps
  pub width : HasShape s (length ps)
  pub type_is : type_of s ≡ element_type kind

one-place : (n p : ℕ) → p < n → All (λ q. q < n) (p ∷ [])
one-place n p h = All-cons (λ q. q < n) p [] h (All-nil (λ q. q < n))

pub whole : (f : Form) (kind : ObjectKind) → IsOf f kind → PartPlaces kind (shape_of f) (range_with_len 0 (size kind))
whole units.element one h = record { below = one-place 1 0 (omega arith); width = refl; type_is = refl }
whole (units.vector r) (vector b) h =
    let n : ℕ = size (vector b) in
    let some : 1 ≤ n = h.0 in
    let w = run-within n 0 n n n refl refl some (omega arith) in
    record { below = w.below; width = subst IsWidth (sym (length-range_with_len 0 n)) h; type_is = refl }
whole (units.Form.number s) (integer r) h =
    let n : ℕ = number_size r in
    let width = size_width r (integral r h) in
    let w = run-within n 0 n n n refl refl width.0 (omega arith) in
    record { below = w.below; width = subst IsWidth (sym (length-range_with_len 0 n)) width; type_is = refl }
whole units.boolean boolean h = record { below = one-place 1 0 (omega arith); width = refl; type_is = refl }
whole (units.enumeration m) (enumeration n) h = record { below = one-place 1 0 (omega arith); width = refl; type_is = ap enumeration h.0 }
whole _ _ h = elim h [ ]

pub part_places : (i : Inside) (here : Integers) (at : ℕ) (f : Form) (kind : ObjectKind) (part : Part) (s : Shape) (ps : List ℕ)
    → IsOf f kind → part_shape i f part ≡ Some s → places here at kind part ≡ Ok ps → PartPlaces kind s ps
unfolding places
part_places i here at f kind u.whole s ps h e g =
    subst (PartPlaces kind s) (ok (range_with_len 0 (size kind)) ps g)
    (subst (λ (x : Shape). PartPlaces kind x (range_with_len 0 (size kind))) (same_Some (shape_of f) s e) (whole f kind h))
part_places i here at (units.vector r) (vector b) (u.Part.element x) s ps h e g =
    let j = bound (integers.integer here at x) _ ps g in
    let p = bound (place_of b at j.x) _ ps j.then_gave in
    subst (PartPlaces (vector b) s) (ok (p.x ∷ []) ps p.then_gave)
    (subst (λ (y : Shape). PartPlaces (vector b) y (p.x ∷ [])) (given_some (static_fits i x) sound.one s e).1
    (record { below = one-place (size (vector b)) p.x (place_below b at j.x p.x p.gave); width = refl; type_is = refl }))
part_places i here at (units.vector r) (vector b) (u.slice x) s ps h e g =
    let l = bound (integers.integer here at x.left) _ ps g in
    let m = bound (integers.integer here at x.right) _ ps l.then_gave in
    let w = slice_within b at x.direction l.x m.x ps m.then_gave in
    subst (λ (y : Shape). PartPlaces (vector b) y ps) (given_some (range_fits i x) sound.vector s e).1
    (record { below = w.below; width = width-le (length ps) (size (vector b)) w.some w.most h; type_is = refl })
part_places i here at units.element kind (u.Part.element x) s ps h e g = absurd cc
part_places i here at units.element kind (u.slice x) s ps h e g = absurd cc
part_places i here at (units.Form.number r) kind (u.Part.element x) s ps h e g = absurd cc
part_places i here at (units.Form.number r) kind (u.slice x) s ps h e g = absurd cc
part_places i here at units.boolean kind (u.Part.element x) s ps h e g = absurd cc
part_places i here at units.boolean kind (u.slice x) s ps h e g = absurd cc
part_places i here at (units.enumeration m) kind (u.Part.element x) s ps h e g = absurd cc
part_places i here at (units.enumeration m) kind (u.slice x) s ps h e g = absurd cc
part_places i here at _ _ _ s ps h e g = elim h [ ]

-- ---- the types of elements

pub get-past : {A : Type 0} (front xs : List A) (k : ℕ) → slice_get (front ++ xs) (length front + k) ≡ slice_get xs k
get-past [] xs k = ap (slice_get xs) (let e : 0 + k ≡ k = omega arith in e)
get-past (x ∷ front) xs k =
    ap (slice_get (x ∷ (front ++ xs))) (let e : suc (length front) + k ≡ suc (length front + k) = omega arith in e) ∙ get-past front xs k

pub get-before : {A : Type 0} (xs rest : List A) (k : ℕ) (x : A) → slice_get xs k ≡ Some x → slice_get (xs ++ rest) k ≡ Some x
get-before [] rest k x h = absurd cc
get-before (y ∷ xs) rest zero x h = h
get-before (y ∷ xs) rest (suc k) x h = get-before xs rest k x h

pub get-replicate : {A : Type 0} (n : ℕ) (x : A) (k : ℕ) → k < n → slice_get (replicate n x) k ≡ Some x
get-replicate zero x k h = absurd (omega (arith, h))
get-replicate (suc n) x zero h = refl
get-replicate (suc n) x (suc k) h = get-replicate n x k (omega (arith, h))

pub count-cons : (k : ObjectKind) (ks : List ObjectKind) → elements_count (k ∷ ks) ≡ size k + elements_count ks
count-cons k ks = sum_by-cons (λ n. n) (size k) (map size ks)

pub length-types : (ks : List ObjectKind) → length (kinds_types ks) ≡ elements_count ks
length-types [] = refl
length-types (k ∷ ks) =
    length-append (replicate (size k) (element_type k)) (kinds_types ks) ∙ ap (λ n. n + length (kinds_types ks)) (length-replicate (size k) (element_type k))
    ∙ ap (λ n. size k + n) (length-types ks) ∙ sym (count-cons k ks)

pub type_at : (kinds : List ObjectKind) (k : ℕ) (kind : ObjectKind) (p : ℕ) → slice_get kinds k ≡ Some kind → p < size kind
    → HasType (kinds_types kinds) (element_type kind) (elements_count (take k kinds) + p)
type_at [] k kind p h l = absurd cc
type_at (q ∷ kinds) zero kind p h l =
    let same : q ≡ kind = same_Some q kind h in
    ap (slice_get (kinds_types (q ∷ kinds))) (let e : 0 + p ≡ p = omega arith in e)
    ∙ subst (λ (x : ObjectKind). slice_get (replicate (size x) (element_type x) ++ kinds_types kinds) p ≡ Some (element_type kind)) (sym same)
    (get-before (replicate (size kind) (element_type kind)) (kinds_types kinds) p (element_type kind) (get-replicate (size kind) (element_type kind) p l))
type_at (q ∷ kinds) (suc k) kind p h l =
    let front : List ElementType = replicate (size q) (element_type q) in
    let len : length front ≡ size q = length-replicate (size q) (element_type q) in
    let c : ℕ = elements_count (take k kinds) in
    let here : elements_count (q ∷ take k kinds) + p ≡ length front + (c + p) =
    ap (λ n. n + p) (count-cons q (take k kinds)) ∙ plus-assoc (size q) c p ∙ ap (λ n. n + (c + p)) (sym len) in
    ap (slice_get (front ++ kinds_types kinds)) here ∙ get-past front (kinds_types kinds) (c + p) ∙ type_at kinds k kind p h l
  where
    plus-assoc : (a b c : ℕ) → a + b + c ≡ a + (b + c)
    plus-assoc a b c = omega arith

-- ---- names

pub zip_at : {A B : Type 0} (R : A → B → Type 0) (xs : List A) (ys : List B) (k : ℕ) (x : A) (y : B) → AllZip R xs ys → slice_get xs k ≡ Some x → slice_get ys k ≡ Some y → R x y
zip_at {A} {B} R [] ys k x y h e g = absurd cc
zip_at {A} {B} R (a ∷ xs) [] k x y h e g = absurd cc
zip_at {A} {B} R (a ∷ xs) (b ∷ ys) zero x y h e g = subst (λ (c : A). R c y) (same_Some a x e) (subst (λ (c : B). R a c) (same_Some b y g) h.0)
zip_at {A} {B} R (a ∷ xs) (b ∷ ys) (suc k) x y h e g = zip_at R xs ys k x y h.1 e g

pub zip_push : {A B : Type 0} (R : A → B → Type 0) (xs : List A) (ys : List B) (x : A) (y : B) → AllZip R xs ys → R x y → AllZip R (xs ++ x ∷ []) (ys ++ y ∷ [])
zip_push {A} {B} R [] [] x y h g = (g, tt)
zip_push {A} {B} R [] (b ∷ ys) x y h g = elim h [ ]
zip_push {A} {B} R (a ∷ xs) [] x y h g = elim h [ ]
zip_push {A} {B} R (a ∷ xs) (b ∷ ys) x y h g = (h.0, zip_push R xs ys x y h.1 g)

-- where the elements of these kinds stand among these types
abbrev Stand : (types : List ElementType) (from : ℕ) (kinds : List ObjectKind) → Type 0
Stand types from kinds = (n : ℕ) (t : ElementType) → HasType (kinds_types kinds) t n → HasType types t (from + n)

record PartElements (types : List ElementType) (s : Shape) (es : List ℕ) : Type 0 where
  width : HasShape s (length es)
  typed : All (HasType types (type_of s)) es

part-elements : (types : List ElementType) (i : Inside) (here : Integers) (at from : ℕ) (forms : List Form) (kinds : List ObjectKind) (n : ℕ) (part : Part) (f : Form) (s : Shape) (es : List ℕ)
    → AllZip IsOf forms kinds → Stand types from kinds → slice_get forms n ≡ Some f → part_shape i f part ≡ Some s → part_elements here at from kinds n part ≡ Ok es
    → PartElements types s es
part-elements types i here at from forms kinds n part f s es h stand e g m =
    let kind = bound (item_or Index at (slice_get kinds n)) _ es m in
    let ps = bound (places here at kind.x part) _ es kind.then_gave in
    let there : slice_get kinds n ≡ Some kind.x = was_found Index at (slice_get kinds n) kind.x kind.gave in
    let of : PartPlaces kind.x s ps.x = part_places i here at f kind.x part s ps.x (zip_at IsOf forms kinds n f kind.x h e there) g ps.gave in
    let c : ℕ = elements_count (take n kinds) in
    subst (PartElements types s) (ok (map (λ p. from + c + p) ps.x) es ps.then_gave) (record {
      width = subst (HasShape s) (sym (length-map ps.x (λ p. from + c + p))) of.width;
      typed = All-map (HasType types (type_of s)) (λ p. from + c + p) ps.x
          (All-weaker (λ p. p < size kind.x) (λ p. HasType types (type_of s) (from + c + p))
          (λ p l. subst (λ (t : ElementType). HasType types t (from + c + p)) (sym of.type_is)
          (subst (HasType types (element_type kind.x)) (plus-assoc from c p) (stand (c + p) (element_type kind.x) (type_at kinds n kind.x p there l)))) ps.x of.below);
    })
  where
    plus-assoc : (a b c : ℕ) → a + (b + c) ≡ a + b + c
    plus-assoc a b c = omega arith

pub name_fits : (i : Inside) (here : Site) (at : ℕ) (x : Signal) (part : Part) (s : Shape) (es : List ℕ) → IsSite i here → place_shape i (record { at = at; signal = x; part = part }) ≡ Some s → signal_elements here at x part ≡ Ok es
    → IsName here s es
unfolding signal_elements
name_fits i here at (u.port n) part s es h e g =
    let f = step (slice_get (map port_form i.ports) n) _ s e in
    let types : List ElementType = (scope_at here).nets in
    let w = part-elements types i here.integers at 0 (map port_form i.ports) here.ports n part f.x s es h.ports
    (λ m t k. ap (slice_get types) (let z : 0 + m ≡ m = omega arith in z) ∙ get-before (kinds_types here.ports) (kinds_types here.signals) m t k) f.gave f.then_gave g in
    record { width = w.width; typed = w.typed }
name_fits i here at (u.Signal.signal n) part s es h e g =
    let f = step (slice_get i.signals n) _ s e in
    let types : List ElementType = (scope_at here).nets in
    let w = part-elements types i here.integers at (elements_count here.ports) i.signals here.signals n part f.x s es h.signals
    (λ m t k. ap (λ (c : ℕ). slice_get types (c + m)) (sym (length-types here.ports)) ∙ get-past (kinds_types here.ports) (kinds_types here.signals) m ∙ k) f.gave f.then_gave g in
    record { width = w.width; typed = w.typed }

pub each-name-fits : EachNameFits
each-name-fits i here p s es h e g = name_fits i here p.at p.signal p.part s es h e g

-- of a variable
pub record IsVariable (here : Site) (s : Shape) (es : List ℕ) : Type 0 where
  pub width : HasShape s (length es)
  pub typed : All (HasType (kinds_types here.variables) (type_of s)) es

pub variable_fits : (i : Inside) (here : Site) (at n : ℕ) (part : Part) (f : Form) (s : Shape) (es : List ℕ) → IsSite i here → slice_get i.variables n ≡ Some f → part_shape i f part ≡ Some s
    → variable_elements here at n part ≡ Ok es → IsVariable here s es
unfolding variable_elements
variable_fits i here at n part f s es h e g m =
    let types : List ElementType = kinds_types here.variables in
    let w = part-elements types i here.integers at 0 i.variables here.variables n part f s es h.variables
    (λ j t k. ap (slice_get types) (let z : 0 + j ≡ j = omega arith in z) ∙ k) e g m in
    record { width = w.width; typed = w.typed }
