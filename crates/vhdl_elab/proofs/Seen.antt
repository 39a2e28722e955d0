-- The table of elements and their uses, as the definitions see it.
use Rattle.std.proofs.Common.{◌≡◌, ℕ, suc, Bool, true, false, not, cond, ◌&&◌, ◌||◌, ◌==◌, if◌then◌else◌, List, [], ◌∷◌, ◌++◌, map, Option, Some, None, All, refl, sym, ap, ◌∙◌, arith, ne_eqb}
use Rattle.std.specs.Prelude.{nat_le, find, filter, flat_map, option_map, slice_index_or}
use Rattle.std.specs.List.{list_any, zip, AllByRecursion}
use Rattle.std.proofs.lemmas.Bool.{le-leb}
use Rattle.std.proofs.lemmas.Option.{same_Some}
use Rattle.std.proofs.lemmas.List.{map-append}
use Rattle.std.proofs.lemmas.List.Elements.{filter-append, All-head, All-tail}
use Rattle.std.proofs.lemmas.Simd.{map-map}
use Rattle.rtl_net.specs.declared.building.IdlePort.{IdlePort}
use Rattle.rtl_net.specs.Parts.{idle_at}
use Rattle.vhdl_elab_rules.specs.Numbering.{Placed}
use Rattle.vhdl_elab_rules.specs.Wiring as wiring
use Rattle.vhdl_elab_rules.specs.Wiring.{elements_of, is_input, is_output, is_top}
use Rattle.vhdl_elab_rules.specs.Limits as limits
use Rattle.vhdl_connect.specs.declared.uses.Use.{Use}
use Rattle.vhdl_connect.specs.Uses.{sources_of}
use Rattle.vhdl_elab.specs.declared.made.Element.{Element}
use Rattle.vhdl_elab.specs.Made.{Static, element_view, static_of, statics_of, use_of, uses_of}
use Rattle.vhdl_elab.specs.Tables.{Used, is_input_of_top, inputs_in, has_no_source, is_idle, idle_in, first_at, has_several, is_two_unresolved}

abbrev pub Seen : Type 0
Seen = Static × Use

abbrev pub seen : Used → Seen
seen x = (element_view x.0, x.1)

abbrev pub seen_as : (top : Bool) → wiring.Element → Seen
seen_as t e = (static_of t e, use_of e)

abbrev pub seen_of : Placed → List Seen
seen_of p = map (seen_as (is_top p)) (elements_of p)

-- ---- lists through a view

zip-shown : {A B C : Type 0} (f : A → B) (xs : List A) (ys : List C) → map (λ (x : A × C). (f x.0, x.1)) (zip xs ys) ≡ zip (map f xs) ys
zip-shown f [] ys = refl
zip-shown f (x ∷ xs) [] = refl
zip-shown f (x ∷ xs) (y ∷ ys) = ap (λ zs. (f x, y) ∷ zs) (zip-shown f xs ys)

zip-front : {W B C : Type 0} (f : W → B) (g : W → C) (ws : List W) (xs : List B) (ys : List C) → zip (map f ws ++ xs) (map g ws ++ ys) ≡ map (λ w. (f w, g w)) ws ++ zip xs ys
zip-front f g [] xs ys = refl
zip-front f g (w ∷ ws) xs ys = ap (λ zs. (f w, g w) ∷ zs) (zip-front f g ws xs ys)

zip-all : (ps : List Placed) → zip (flat_map statics_of ps) (flat_map uses_of ps) ≡ flat_map seen_of ps
zip-all [] = refl
zip-all (p ∷ ps) = zip-front (static_of (is_top p)) use_of (elements_of p) (flat_map statics_of ps) (flat_map uses_of ps) ∙ ap (λ zs. seen_of p ++ zs) (zip-all ps)

filter-shown : {A B : Type 0} (v : A → B) (p : B → Bool) (xs : List A) → map v (filter (λ x. p (v x)) xs) ≡ filter p (map v xs)
filter-shown v p [] = refl
filter-shown {A} {B} v p (x ∷ xs) = by (p (v x)) (filter-shown v p xs)
  where
    by : (t : Bool) → map v (filter (λ y. p (v y)) xs) ≡ filter p (map v xs)
        → map v (cond t (x ∷ filter (λ y. p (v y)) xs) (filter (λ y. p (v y)) xs)) ≡ cond t (v x ∷ filter p (map v xs)) (filter p (map v xs))
    by true h = ap (λ zs. v x ∷ zs) h
    by false h = h

-- ---- the first of several

or_else : Option ℕ → Option ℕ → Option ℕ
or_else (Some n) o = Some n
or_else None o = o

abbrev pub first_in : {A : Type 0} → (A → ℕ) → (A → Bool) → List A → Option ℕ
first_in f p xs = option_map f (find p xs)

first-append : {A : Type 0} (f : A → ℕ) (p : A → Bool) (xs ys : List A) → first_in f p (xs ++ ys) ≡ or_else (first_in f p xs) (first_in f p ys)
unfolding or_else
first-append f p [] ys = refl
first-append {A} f p (x ∷ xs) ys = by (p x) (first-append f p xs ys)
  where
    by : (t : Bool) → first_in f p (xs ++ ys) ≡ or_else (first_in f p xs) (first_in f p ys)
        → option_map f (cond t (Some x) (find p (xs ++ ys))) ≡ or_else (option_map f (cond t (Some x) (find p xs))) (first_in f p ys)
    by true h = refl
    by false h = h

first-shown : {A B : Type 0} (v : A → B) (f : B → ℕ) (p : B → Bool) (xs : List A) → first_in (λ x. f (v x)) (λ x. p (v x)) xs ≡ first_in f p (map v xs)
first-shown v f p [] = refl
first-shown {A} {B} v f p (x ∷ xs) = by (p (v x)) (first-shown v f p xs)
  where
    by : (t : Bool) → first_in (λ y. f (v y)) (λ y. p (v y)) xs ≡ first_in f p (map v xs)
        → option_map (λ y. f (v y)) (cond t (Some x) (find (λ y. p (v y)) xs)) ≡ option_map f (cond t (Some (v x)) (find p (map v xs)))
    by true h = refl
    by false h = h

abbrev at_seen : Seen → ℕ
at_seen s = s.0.at

abbrev pub at_in : wiring.Element → ℕ
at_in e = e.at

-- where an element is found, there is one
pub found-at : (q : wiring.Element → Bool) (es : List wiring.Element) (n : ℕ) → first_in at_in q es ≡ Some n → (list_any q es ≡ true) × (limits.first_at q es ≡ n)
found-at q [] n h = absurd cc
found-at q (e ∷ es) n h = by (q e) h (found-at q es n)
  where
    by : (t : Bool) → option_map at_in (cond t (Some e) (find q es)) ≡ Some n → (first_in at_in q es ≡ Some n → (list_any q es ≡ true) × (limits.first_at q es ≡ n))
        → ((t || list_any q es) ≡ true) × (limits.declared_at (cond t (Some e) (find q es)) ≡ n)
    by true h later = (refl, same_Some e.at n h)
    by false h later = later h

pub none-found : (q : wiring.Element → Bool) (es : List wiring.Element) → first_in at_in q es ≡ None → list_any q es ≡ false
none-found q [] h = refl
none-found q (e ∷ es) h = by (q e) h (none-found q es)
  where
    by : (t : Bool) → option_map at_in (cond t (Some e) (find q es)) ≡ None → (first_in at_in q es ≡ None → list_any q es ≡ false) → (t || list_any q es) ≡ false
    by true h later = absurd cc
    by false h later = later h

-- ---- the first of the elements of instances

module _ (p : Seen → Bool) (q : wiring.Element → Bool) where
  abbrev pub Agree : wiring.Element → Type 0
  Agree e = (top : Bool) → p (seen_as top e) ≡ q e

  first-part : (t : Bool) (xs : List wiring.Element) → All Agree xs → first_in at_seen p (map (seen_as t) xs) ≡ first_in at_in q xs
  first-part t [] h = refl
  first-part t (x ∷ xs) h =
      (λ i. option_map at_seen (cond (All-head Agree x xs h t i) (Some (seen_as t x)) (find p (map (seen_as t) xs)))) ∙ by (q x) (first-part t xs (All-tail Agree x xs h))
    where
      by : (b : Bool) → first_in at_seen p (map (seen_as t) xs) ≡ first_in at_in q xs
          → option_map at_seen (cond b (Some (seen_as t x)) (find p (map (seen_as t) xs))) ≡ option_map at_in (cond b (Some x) (find q xs))
      by true k = refl
      by false k = k

  first-all : (ps : List Placed) → AllByRecursion (λ (pl : Placed). All Agree (elements_of pl)) ps → first_in at_seen p (flat_map seen_of ps) ≡ first_in at_in q (flat_map elements_of ps)
  first-all [] h = refl
  first-all (pl ∷ ps) h =
      first-append at_seen p (seen_of pl) (flat_map seen_of ps) ∙ (λ i. or_else (first-part (is_top pl) (elements_of pl) h.0 i) (first-all ps h.1 i))
      ∙ sym (first-append at_in q (elements_of pl) (flat_map elements_of ps))

-- ---- what counts of sources say

several-is : (n : ℕ) → has_several (sources_of n) ≡ nat_le 2 n
several-is (suc (suc n)) = sym (le-leb 2 (suc (suc n)) (omega arith))
several-is _ = refl

none-is : (n : ℕ) → has_no_source (sources_of n) ≡ (n == 0)
none-is (suc (suc n)) = sym (ne_eqb (suc (suc n)) 0 (λ e. absurd (omega (arith, e))))
none-is _ = refl

and-swap : (a b : Bool) → (a && b) ≡ (b && a)
and-swap true true = refl
and-swap true false = refl
and-swap false true = refl
and-swap false false = refl

-- ---- the table

module _ (ps : List Placed) (es : List Element) (us : List Use) (elements : map element_view es ≡ flat_map statics_of ps) (uses : us ≡ flat_map uses_of ps) where
  pub seen-is : map seen (zip es us) ≡ flat_map seen_of ps
  seen-is = zip-shown element_view es us ∙ (λ i. zip (elements i) (uses i)) ∙ zip-all ps

  pub first-through : (p : Seen → Bool) (q : wiring.Element → Bool) → AllByRecursion (λ (pl : Placed). All (λ (e : wiring.Element). (top : Bool) → p (seen_as top e) ≡ q e) (elements_of pl)) ps
      → first_at (λ (x : Used). p (seen x)) (zip es us) ≡ first_in at_in q (flat_map elements_of ps)
  first-through p q h = first-shown seen at_seen p (zip es us) ∙ ap (first_in at_seen p) seen-is ∙ first-all p q ps h

  pub two-unresolved : first_at is_two_unresolved (zip es us) ≡ first_in at_in limits.is_two_unresolved (flat_map elements_of ps)
  two-unresolved = first-through two limits.is_two_unresolved (everywhere ps)
    where
      two : Seen → Bool
      two s = has_several s.1.sources && not s.0.is_resolved

      agree : (e : wiring.Element) (top : Bool) → two (seen_as top e) ≡ (not e.is_resolved && nat_le 2 e.sources)
      agree e top = and-swap (has_several (sources_of e.sources)) (not e.is_resolved) ∙ ap (λ b. not e.is_resolved && b) (several-is e.sources)

      everywhere : (qs : List Placed) → AllByRecursion (λ (pl : Placed). All (Agree two (λ (e : wiring.Element). not e.is_resolved && nat_le 2 e.sources)) (elements_of pl)) qs
      everywhere [] = tt
      everywhere (q ∷ qs) = ((λ k d l top. agree (slice_index_or (elements_of q) k d) top), everywhere qs)

-- ---- inputs

abbrev in_top : Static → Bool
in_top s = is_input s.role && s.is_top

abbrev net_seen : Static → ℕ
net_seen s = s.net

abbrev is_in : wiring.Element → Bool
is_in e = is_input e.role

abbrev net_in : wiring.Element → ℕ
net_in e = e.net

inputs-part : (t : Bool) (xs : List wiring.Element) → map net_seen (filter in_top (map (static_of t) xs)) ≡ cond t (map net_in (filter is_in xs)) []
inputs-part true [] = refl
inputs-part false [] = refl
inputs-part t (x ∷ xs) = by (is_input x.role) t (inputs-part t xs)
  where
    by : (r t : Bool) → map net_seen (filter in_top (map (static_of t) xs)) ≡ cond t (map net_in (filter is_in xs)) []
        → map net_seen (cond (r && t) (static_of t x ∷ filter in_top (map (static_of t) xs)) (filter in_top (map (static_of t) xs))) ≡ cond t (map net_in (cond r (x ∷ filter is_in xs) (filter is_in xs))) []
    by true true h = ap (λ ns. x.net ∷ ns) h
    by true false h = h
    by false true h = h
    by false false h = h

inputs-all : (ps : List Placed) → map net_seen (filter in_top (flat_map statics_of ps)) ≡ map net_in (filter is_in (flat_map elements_of (filter is_top ps)))
inputs-all [] = refl
inputs-all (p ∷ ps) =
    ap (map net_seen) (filter-append in_top (statics_of p) (flat_map statics_of ps)) ∙ map-append net_seen (filter in_top (statics_of p)) (filter in_top (flat_map statics_of ps))
    ∙ by (is_top p) (inputs-all ps)
  where
    by : (t : Bool) → map net_seen (filter in_top (flat_map statics_of ps)) ≡ map net_in (filter is_in (flat_map elements_of (filter is_top ps))) → map net_seen (filter in_top (map (static_of t) (elements_of p))) ++ map net_seen (filter in_top (flat_map statics_of ps))
        ≡ map net_in (filter is_in (flat_map elements_of (cond t (p ∷ filter is_top ps) (filter is_top ps))))
    by true h =
        (λ i. inputs-part true (elements_of p) i ++ h i) ∙ sym (map-append net_in (filter is_in (elements_of p)) (filter is_in (flat_map elements_of (filter is_top ps))))
        ∙ ap (map net_in) (sym (filter-append is_in (elements_of p) (flat_map elements_of (filter is_top ps))))
    by false h = λ i. inputs-part false (elements_of p) i ++ h i

pub inputs-are : (ps : List Placed) (es : List Element) → map element_view es ≡ flat_map statics_of ps → inputs_in es ≡ map net_in (filter is_in (flat_map elements_of (filter is_top ps)))
inputs-are ps es h =
    sym (map-map net_seen element_view (filter is_input_of_top es)) ∙ ap (map net_seen) (filter-shown element_view in_top es ∙ ap (filter in_top) h) ∙ inputs-all ps

-- ---- idle ports

idle-append : (xs ys : List IdlePort) (n : ℕ) → idle_at (xs ++ ys) n ≡ idle_at xs n ++ idle_at ys n
idle-append [] ys n = refl
idle-append (x ∷ xs) ys n = by (x.net == n) (idle-append xs ys n)
  where
    by : (t : Bool) → idle_at (xs ++ ys) n ≡ idle_at xs n ++ idle_at ys n → (if t then x.start ∷ idle_at (xs ++ ys) n else idle_at (xs ++ ys) n) ≡ (if t then x.start ∷ idle_at xs n else idle_at xs n) ++ idle_at ys n
    by true h = ap (λ vs. x.start ∷ vs) h
    by false h = h

abbrev idle_seen : Seen → Bool
idle_seen s = is_output s.0.role && has_no_source s.1.sources && not s.0.is_top

abbrev port_seen : Seen → IdlePort
port_seen s = record { net = s.0.net; start = s.0.start }

abbrev is_undriven : wiring.Element → Bool
is_undriven e = is_output e.role && e.sources == 0

abbrev start_in : wiring.Element → ℕ
start_in e = e.start

module _ (n : ℕ) where
  abbrev at_n : wiring.Element → Bool
  at_n e = e.net == n

  abbrev values : List wiring.Element → List ℕ
  values xs = map start_in (filter at_n xs)

  abbrev ports : List Seen → List ℕ
  ports ss = idle_at (map port_seen (filter idle_seen ss)) n

  idle-part : (t : Bool) (xs : List wiring.Element) → ports (map (seen_as t) xs) ≡ cond t [] (values (filter is_undriven xs))
  idle-part true [] = refl
  idle-part false [] = refl
  idle-part t (x ∷ xs) =
      by (is_output x.role) (has_no_source (sources_of x.sources)) t (idle-part t xs)
      ∙ ap (λ b. cond t [] (values (cond (is_output x.role && b) (x ∷ filter is_undriven xs) (filter is_undriven xs)))) (none-is x.sources)
    where
      by : (o s t : Bool) → ports (map (seen_as t) xs) ≡ cond t [] (values (filter is_undriven xs))
          → idle_at (map port_seen (cond (o && s && not t) (seen_as t x ∷ filter idle_seen (map (seen_as t) xs)) (filter idle_seen (map (seen_as t) xs)))) n
          ≡ cond t [] (values (cond (o && s) (x ∷ filter is_undriven xs) (filter is_undriven xs)))
      by true true true h = h
      by true true false h = here (x.net == n)
        where
          here : (b : Bool) → (if b then x.start ∷ ports (map (seen_as false) xs) else ports (map (seen_as false) xs))
              ≡ map start_in (cond b (x ∷ filter at_n (filter is_undriven xs)) (filter at_n (filter is_undriven xs)))
          here true = ap (λ vs. x.start ∷ vs) h
          here false = h
      by true false true h = h
      by true false false h = h
      by false true true h = h
      by false true false h = h
      by false false true h = h
      by false false false h = h

  idle-all : (ps : List Placed) → ports (flat_map seen_of ps) ≡ values (filter is_undriven (flat_map elements_of (filter (λ p. not (is_top p)) ps)))
  idle-all [] = refl
  idle-all (p ∷ ps) =
      ap (λ ss. idle_at (map port_seen ss) n) (filter-append idle_seen (seen_of p) (flat_map seen_of ps))
      ∙ ap (λ is. idle_at is n) (map-append port_seen (filter idle_seen (seen_of p)) (filter idle_seen (flat_map seen_of ps)))
      ∙ idle-append (map port_seen (filter idle_seen (seen_of p))) (map port_seen (filter idle_seen (flat_map seen_of ps))) n ∙ by (is_top p) (idle-all ps)
    where
      by : (t : Bool) → ports (flat_map seen_of ps) ≡ values (filter is_undriven (flat_map elements_of (filter (λ (q : Placed). not (is_top q)) ps)))
          → ports (map (seen_as t) (elements_of p)) ++ ports (flat_map seen_of ps)
          ≡ values (filter is_undriven (flat_map elements_of (cond (not t) (p ∷ filter (λ (q : Placed). not (is_top q)) ps) (filter (λ (q : Placed). not (is_top q)) ps))))
      by true h = λ i. idle-part true (elements_of p) i ++ h i
      by false h =
          (λ i. idle-part false (elements_of p) i ++ h i)
          ∙ sym (map-append start_in (filter at_n (filter is_undriven (elements_of p))) (filter at_n (filter is_undriven (flat_map elements_of (filter (λ (q : Placed). not (is_top q)) ps)))))
          ∙ ap (map start_in) (sym (filter-append at_n (filter is_undriven (elements_of p)) (filter is_undriven (flat_map elements_of (filter (λ (q : Placed). not (is_top q)) ps)))))
          ∙ ap (λ xs. values xs) (sym (filter-append is_undriven (elements_of p) (flat_map elements_of (filter (λ (q : Placed). not (is_top q)) ps))))

pub idle-are : (ps : List Placed) (es : List Element) (us : List Use) → map element_view es ≡ flat_map statics_of ps → us ≡ flat_map uses_of ps → (n : ℕ)
    → idle_at (idle_in (zip es us)) n ≡ values n (filter is_undriven (flat_map elements_of (filter (λ p. not (is_top p)) ps)))
idle-are ps es us h g n =
    ap (λ is. idle_at is n) (sym (map-map port_seen seen (filter is_idle (zip es us))) ∙ ap (map port_seen) (filter-shown seen idle_seen (zip es us)))
    ∙ ap (λ ss. ports n ss) (seen-is ps es us h g) ∙ idle-all n ps
