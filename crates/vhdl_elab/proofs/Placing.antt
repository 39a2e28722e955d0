-- An instance that is added to what is numbered, and what the tables get of it.
use Rattle.std.proofs.Common.{◌≡◌, ℕ, zero, suc, ◌+◌, Bool, true, false, cond, List, [], ◌∷◌, ◌++◌, length, map, replicate, Option, Some, None, refl, sym, ap, ◌∙◌, subst, arith}
use Rattle.std.specs.Prelude.{filter, flat_map, slice_index, is_none}
use Rattle.std.specs.List.{AllZip, range_with_len, enumerate_from}
use Rattle.std.proofs.lemmas.List.{append_assoc, append-nil, map-append, length-append, length-map}
use Rattle.std.proofs.lemmas.List.Elements.{filter-append}
use Rattle.std.proofs.lemmas.Simd.{map-map}
use Rattle.rtl_net.specs.Nets.{scope_view, signal_view, type_of}
use Rattle.vhdl_expand_rules.specs.Kinds.{size, element_type}
use Rattle.vhdl_expand_rules.specs.Tree.{Object}
use Rattle.vhdl_elab_rules.specs.Names.{scope_of, signals_of, signals_from}
use Rattle.vhdl_elab_rules.specs.Numbering.{Placed, Numbered, own_size, own_sizes, with_placed}
use Rattle.vhdl_elab_rules.specs.Wiring.{Element, element_of, elements_from, elements_of, own_elements, is_top}
use Rattle.vhdl_elab_rules.specs.laws.Scopes.{scope_views}
use Rattle.vhdl_elab_rules.specs.Shown.{signal_shown}
use Rattle.vhdl_connect.specs.declared.uses.Use.{Use}
use Rattle.vhdl_connect.specs.Uses as uses
use Rattle.vhdl_elab.specs.declared.made.Made.{Made}
use Rattle.vhdl_elab.specs.Made.{element_view, static_of, statics_of, use_of, uses_of, IsLocated, IsMade}
use Rattle.vhdl_elab.specs.Adding.{if_own, own_types, own_starts, statics_from, elements_count}

-- ---- one more

flat-push : {X Y : Type 0} (f : X → List Y) (xs : List X) (x : X) → flat_map f (xs ++ x ∷ []) ≡ flat_map f xs ++ f x
flat-push f [] x = append-nil (f x)
flat-push f (y ∷ ys) x = ap (λ zs. f y ++ zs) (flat-push f ys x) ∙ sym (append_assoc (f y) (flat_map f ys) (f x))

numbered-push : {X : Type 0} (n k : ℕ) (xs : List X) (x : X) → n + length xs ≡ k → enumerate_from n (xs ++ x ∷ []) ≡ enumerate_from n xs ++ (k, x) ∷ []
numbered-push n k [] x h = ap (λ m. (m, x) ∷ []) (let e : n ≡ k = omega (arith, h) in e)
numbered-push n k (y ∷ ys) x h = ap (λ zs. (n, y) ∷ zs) (numbered-push (n + 1) k ys x (let e : n + 1 + length ys ≡ k = omega (arith, h) in e))

-- ---- runs

map-shift : {X : Type 0} (f g : ℕ → X) (first j n : ℕ) → ((k : ℕ) → f k ≡ g (first + k)) → map f (range_with_len j n) ≡ map g (range_with_len (first + j) n)
map-shift f g first j zero h = refl
map-shift f g first j (suc n) h =
    (λ i. h j i ∷ map f (range_with_len (j + 1) n))
    ∙ ap (λ xs. g (first + j) ∷ xs) (map-shift f g first (j + 1) n h ∙ ap (λ m. map g (range_with_len m n)) (let e : first + (j + 1) ≡ first + j + 1 = omega arith in e))

range-split : (a n m : ℕ) → range_with_len a (n + m) ≡ range_with_len a n ++ range_with_len (a + n) m
range-split a zero m = (λ i. range_with_len ((let e : a ≡ a + 0 = omega arith in e) i) ((let e : 0 + m ≡ m = omega arith in e) i))
range-split a (suc n) m =
    ap (λ k. range_with_len a k) (let e : suc n + m ≡ suc (n + m) = omega arith in e)
    ∙ ap (λ xs. a ∷ xs) (range-split (a + 1) n m ∙ ap (λ k. range_with_len (a + 1) n ++ range_with_len k m) (let e : a + 1 + n ≡ a + suc n = omega arith in e))

map-const : {X : Type 0} (x : X) (a n : ℕ) → map (λ k. x) (range_with_len a n) ≡ replicate n x
map-const x a zero = refl
map-const x a (suc n) = ap (λ xs. x ∷ xs) (map-const x (a + 1) n)

-- ---- elements

abbrev element_at : Placed → Object → (first k : ℕ) → Element
element_at p o first k = element_of p o (first + k) k

statics-from : (p : Placed) (first : ℕ) (os : List Object) → map (static_of (is_top p)) (elements_from p first os) ≡ statics_from (is_top p) p.nets first os
statics-from p first [] = refl
statics-from p first (o ∷ os) =
    map-append (static_of (is_top p)) (map (element_at p o first) (range_with_len 0 (size o.kind))) (elements_from p (first + size o.kind) os)
    ∙ (λ i. map-map (static_of (is_top p)) (element_at p o first) (range_with_len 0 (size o.kind)) i ++ statics-from p (first + size o.kind) os i)

abbrev use_at : Placed → ℕ → Use
use_at p = uses.use_of p.driven p.read

uses-of-object : (p : Placed) (first : ℕ) (o : Object) → map use_of (map (element_at p o first) (range_with_len 0 (size o.kind))) ≡ map (use_at p) (range_with_len first (size o.kind))
uses-of-object p first o =
    map-map use_of (element_at p o first) (range_with_len 0 (size o.kind))
    ∙ map-shift (λ k. use_of (element_at p o first k)) (use_at p) first 0 (size o.kind) (λ k. refl)
    ∙ ap (λ m. map (use_at p) (range_with_len m (size o.kind))) (let e : first + 0 ≡ first = omega arith in e)

uses-from : (p : Placed) (first : ℕ) (os : List Object) → map use_of (elements_from p first os) ≡ map (use_at p) (range_with_len first (elements_count os))
uses-from p first [] = refl
uses-from p first (o ∷ os) =
    let n = size o.kind in
    map-append use_of (map (element_at p o first) (range_with_len 0 n)) (elements_from p (first + n) os)
    ∙ (λ i. uses-of-object p first o i ++ uses-from p (first + n) os i)
    ∙ sym (ap (map (use_at p)) (range-split first n (elements_count os)) ∙ map-append (use_at p) (range_with_len first n) (range_with_len (first + n) (elements_count os)))

-- ---- nets of their own

abbrev own : Element → Bool
own e = e.is_own

filter-same : {X : Type 0} (f : X → Element) (b : Bool) (xs : List X) → ((x : X) → (f x).is_own ≡ b) → filter own (map f xs) ≡ (cond b (map f xs) [])
filter-same f true [] h = refl
filter-same f false [] h = refl
filter-same f true (x ∷ xs) h = ap (λ b. cond b (f x ∷ filter own (map f xs)) (filter own (map f xs))) (h x) ∙ ap (λ ys. f x ∷ ys) (filter-same f true xs h)
filter-same f false (x ∷ xs) h = ap (λ b. cond b (f x ∷ filter own (map f xs)) (filter own (map f xs))) (h x) ∙ filter-same f false xs h

module _ {Y : Type 0} (part : Element → Y) (found : Object → List Y)
    (each : (p : Placed) (o : Object) (first : ℕ) → map part (map (element_at p o first) (range_with_len 0 (size o.kind))) ≡ found o) where
  own-object : (p : Placed) (o : Object) (first : ℕ) (a : Option (List ℕ)) → o.actual ≡ a
      → map part (filter own (map (element_at p o first) (range_with_len 0 (size o.kind)))) ≡ if_own (record o { actual = a }) (found o)
  own-object p o first None h = ap (map part) (filter-same (element_at p o first) true (range_with_len 0 (size o.kind)) (λ k. ap is_none h)) ∙ each p o first
  own-object p o first (Some es) h = ap (map part) (filter-same (element_at p o first) false (range_with_len 0 (size o.kind)) (λ k. ap is_none h))

  own-from : (p : Placed) (first : ℕ) (os : List Object) → map part (filter own (elements_from p first os)) ≡ flat_map (λ o. if_own o (found o)) os
  own-from p first [] = refl
  own-from p first (o ∷ os) =
      let here = map (element_at p o first) (range_with_len 0 (size o.kind)) in
      ap (map part) (filter-append own here (elements_from p (first + size o.kind) os))
      ∙ map-append part (filter own here) (filter own (elements_from p (first + size o.kind) os))
      ∙ (λ i. own-object p o first o.actual refl i ++ own-from p (first + size o.kind) os i)

types-from : (p : Placed) (os : List Object) → map (λ (e : Element). e.type) (filter own (elements_from p 0 os)) ≡ flat_map own_types os
types-from p os =
    own-from (λ (e : Element). e.type) (λ o. replicate (size o.kind) (element_type o.kind))
    (λ q o first. map-map (λ (e : Element). e.type) (element_at q o first) (range_with_len 0 (size o.kind)) ∙ map-const (element_type o.kind) 0 (size o.kind)) p 0 os

starts-from : (p : Placed) (os : List Object) → map (λ (e : Element). e.start) (filter own (elements_from p 0 os)) ≡ flat_map own_starts os
starts-from p os =
    own-from (λ (e : Element). e.start) (λ o. map (slice_index o.starts) (range_with_len 0 (size o.kind)))
    (λ q o first. map-map (λ (e : Element). e.start) (element_at q o first) (range_with_len 0 (size o.kind))) p 0 os

length-replicated : {X : Type 0} (n : ℕ) (x : X) → length (replicate n x) ≡ n
length-replicated zero x = refl
length-replicated (suc n) x = ap suc (length-replicated n x)

own-count : (o : Object) (a : Option (List ℕ)) → length (own_types (record o { actual = a })) ≡ own_size (record o { actual = a })
own-count o None = length-replicated (size o.kind) (element_type o.kind)
own-count o (Some es) = refl

pub types-count : (os : List Object) → length (flat_map own_types os) ≡ own_sizes os
types-count [] = refl
types-count (o ∷ os) = length-append (own_types o) (flat_map own_types os) ∙ (λ i. own-count o o.actual i + types-count os i)

-- ---- all

module _ (d : Numbered) (p : Placed) where
  own-more : {Y : Type 0} (part : Element → Y) → map part (own_elements (with_placed p d)) ≡ map part (own_elements d) ++ map part (filter own (elements_of p))
  own-more part =
      ap (λ es. map part (filter own es)) (flat-push elements_of d.instances p)
      ∙ ap (map part) (filter-append own (flat_map elements_of d.instances) (elements_of p))
      ∙ map-append part (filter own (flat_map elements_of d.instances)) (filter own (elements_of p))

  signals-more : map signal_shown (flat_map signals_of (enumerate_from 0 (d.instances ++ p ∷ [])))
      ≡ map signal_shown (flat_map signals_of (enumerate_from 0 d.instances)) ++ map signal_shown (signals_from (length d.instances) p.nets 0 p.objects)
  signals-more =
      ap (λ xs. map signal_shown (flat_map signals_of xs)) (numbered-push 0 (length d.instances) d.instances p (let e : 0 + length d.instances ≡ length d.instances = omega arith in e))
      ∙ ap (map signal_shown) (flat-push signals_of (enumerate_from 0 d.instances) (length d.instances, p))
      ∙ map-append signal_shown (flat_map signals_of (enumerate_from 0 d.instances)) (signals_from (length d.instances) p.nets 0 p.objects)

  scopes-more : scope_views (map scope_of (d.instances ++ p ∷ [])) ≡ scope_views (map scope_of d.instances) ++ record { label = p.label; parent = p.parent } ∷ []
  scopes-more = ap scope_views (map-append scope_of d.instances (p ∷ [])) ∙ map-append (λ s. record { label = s.label; parent = s.parent }) (map scope_of d.instances) (scope_of p ∷ [])

  -- b is a with what the instance adds
  pub placed_made : (a b : Made) → IsMade d a
      → map scope_view b.scopes.items ≡ map scope_view a.scopes.items ++ record { label = p.label; parent = p.parent } ∷ []
      → map signal_view b.signals.items ≡ map signal_view a.signals.items ++ map signal_shown (signals_from (length d.instances) p.nets 0 p.objects)
      → b.processes.items ≡ a.processes.items
      → map type_of b.kinds.items ≡ map type_of a.kinds.items ++ flat_map own_types p.objects
      → b.defaults.items ≡ a.defaults.items ++ flat_map own_starts p.objects
      → map element_view b.elements.items ≡ map element_view a.elements.items ++ statics_from (is_top p) p.nets 0 p.objects
      → b.uses.items ≡ a.uses.items ++ map (use_at p) (range_with_len 0 (elements_count p.objects))
      → IsMade (with_placed p d) b
  placed_made a b h scopes signals processes kinds defaults elements uses = record {
    scopes = scopes ∙ ap (λ ss. ss ++ record { label = p.label; parent = p.parent } ∷ []) h.scopes ∙ sym scopes-more;
    signals =
        signals ∙ ap (λ ss. ss ++ map signal_shown (signals_from (length d.instances) p.nets 0 p.objects)) h.signals ∙ sym signals-more;
    processes = subst (λ ps. AllZip IsLocated d.processes ps) (sym processes) h.processes;
    kinds =
        kinds ∙ ap (λ ts. ts ++ flat_map own_types p.objects) h.kinds
        ∙ ap (λ ts. map (λ (e : Element). e.type) (own_elements d) ++ ts) (sym (types-from p p.objects)) ∙ sym (own-more (λ (e : Element). e.type));
    defaults =
        defaults ∙ ap (λ vs. vs ++ flat_map own_starts p.objects) h.defaults
        ∙ ap (λ vs. map (λ (e : Element). e.start) (own_elements d) ++ vs) (sym (starts-from p p.objects)) ∙ sym (own-more (λ (e : Element). e.start));
    nets =
        sym (length-map b.kinds.items type_of) ∙ ap length kinds ∙ length-append (map type_of a.kinds.items) (flat_map own_types p.objects)
        ∙ (λ i. (length-map a.kinds.items type_of ∙ h.nets) i + types-count p.objects i);
    elements =
        elements ∙ ap (λ es. es ++ statics_from (is_top p) p.nets 0 p.objects) h.elements
        ∙ ap (λ es. flat_map statics_of d.instances ++ es) (sym (statics-from p 0 p.objects)) ∙ sym (flat-push statics_of d.instances p);
    uses =
        uses ∙ ap (λ us. us ++ map (use_at p) (range_with_len 0 (elements_count p.objects))) h.uses
        ∙ ap (λ us. flat_map uses_of d.instances ++ us) (sym (uses-from p 0 p.objects)) ∙ sym (flat-push uses_of d.instances p);
  }
