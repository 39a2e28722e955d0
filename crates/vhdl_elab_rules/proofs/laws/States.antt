-- Signals of an enumeration have nets of their own, each its own: a process drives such a net by one element alone.
use Rattle.std.proofs.Common.{◌≡◌, ℕ, zero, suc, ◌+◌, ◌-◌, ◌<◌, ◌≤◌, Bool, true, false, cond, not, ◌&&◌, ◌==◌, List, [], ◌∷◌, ◌++◌, length, map, replicate, Some, None, All, refl, sym, ap, ◌∙◌, subst, arith, ◌⊎◌, inl, inr}
use Rattle.std.specs.Prelude.{⊤, slice_get, slice_index, slice_index_or, count_by, nat_le}
use Rattle.std.specs.List.{range_with_len}
use Rattle.std.proofs.lemmas.Bool.{eq-eqb, ne_eqb, eqb-true, leb-false, cases_lt}
use Rattle.std.proofs.lemmas.Option.{same_Some}
use Rattle.std.proofs.lemmas.List.{length-replicate}
use Rattle.std.proofs.lemmas.List.Elements.{All-head, All-tail}
use Rattle.std.proofs.lemmas.List.FromFn.{length-map-range_with_len, get_or-map-range_with_len}
use Rattle.std.proofs.lemmas.List.Sums.{sum_by-append, sum_by-cons}
use Rattle.rtl_model.specs.bodies.Types.{ElementType, nine_valued, enumeration, HasType}
use Rattle.vhdl_expand_rules.specs.Kinds.{ObjectKind, size, element_type}
use Rattle.vhdl_expand_rules.specs.Kinds as k
use Rattle.vhdl_expand_rules.specs.Tree.{output, Object, Parts, no_parts, process, inner, objects_of}
use Rattle.vhdl_expand_rules.specs.laws.Lengths.{ObjectFits}
use Rattle.vhdl_expand_rules.specs.laws.Trees.{object_types, is_port, MayBeDriven, ObjectIsSound, PartsAreSound}
use Rattle.vhdl_expand_rules.proofs.laws.Names.{get-past}
use Rattle.vhdl_expand_rules.proofs.laws.Targets.{all_left, all_right}
use Rattle.vhdl_elab_rules.specs.Numbering.{object_nets, own_size, element_nets, actuals_of, driven_in, Placed}
use Rattle.vhdl_elab_rules.specs.Wiring.{Element, element_of, elements_from, elements_of}
use Rattle.vhdl_elab_rules.proofs.Segments.{get-left}
use Rattle.vhdl_elab_rules.proofs.laws.Nets.{nets-length, own-nets, own-is_size}
use Rattle.vhdl_elab_rules.proofs.laws.Elements.{ElementIsSound}
use Rattle.vhdl_elab_rules.proofs.laws.Typed.{zip_lengths, zip_read}
use Rattle.vhdl_elab_rules.proofs.laws.Walk.{PlacedIsSound}
use Rattle.vhdl_elab_rules.proofs.laws.Processes.{driven-type}

-- ---- the nets of elements of an enumeration rise

abbrev pub StatesRise : (low : ℕ) → List ElementType → (nets : List ℕ) → Type 0
StatesRise low [] ns = ⊤
StatesRise low (t ∷ ts) [] = ⊤
StatesRise low (nine_valued ∷ ts) (n ∷ ns) = StatesRise low ts ns
StatesRise low (enumeration c ∷ ts) (n ∷ ns) = (low ≤ n) × StatesRise (suc n) ts ns

states-lower : (a b : ℕ) (ts : List ElementType) (ns : List ℕ) → b ≤ a → StatesRise a ts ns → StatesRise b ts ns
states-lower a b (nine_valued ∷ ts) [] l h = tt
states-lower a b (nine_valued ∷ ts) (n ∷ ns) l h = states-lower a b ts ns l h
states-lower a b (enumeration c ∷ ts) (n ∷ ns) l h = let m : a ≤ n = h.0 in (omega (arith, m, l), h.1)
states-lower a b _ _ l h = tt

pub state-above : (ts : List ElementType) (ns : List ℕ) (low e c : ℕ) → length ts ≡ length ns → StatesRise low ts ns → slice_get ts e ≡ Some (enumeration c) → low ≤ slice_index ns e
state-above (t ∷ ts) [] low e c l h g = absurd (omega (arith, l))
state-above (enumeration d ∷ ts) (n ∷ ns) low zero c l h g = h.0
state-above (nine_valued ∷ ts) (n ∷ ns) low (suc e) c l h g = state-above ts ns low e c (omega (arith, l)) h g
state-above (enumeration d ∷ ts) (n ∷ ns) low (suc e) c l h g =
    let m : low ≤ n = h.0 in
    let more : suc n ≤ slice_index ns e = state-above ts ns (suc n) e c (omega (arith, l)) h.1 g in
    omega (arith, m, more)
state-above _ _ low _ c l h g = absurd cc

pub state-once : (ts : List ElementType) (ns : List ℕ) (low e f c d : ℕ) → length ts ≡ length ns → StatesRise low ts ns → slice_get ts e ≡ Some (enumeration c) → slice_get ts f ≡ Some (enumeration d)
    → slice_index ns e ≡ slice_index ns f → e ≡ f
state-once (t ∷ ts) [] low e f c d l h g k same = absurd (omega (arith, l))
state-once (t ∷ ts) (n ∷ ns) low zero zero c d l h g k same = refl
state-once (enumeration b ∷ ts) (n ∷ ns) low zero (suc f) c d l h g k same = absurd (let m : suc n ≤ slice_index ns f = state-above ts ns (suc n) f d (omega (arith, l)) h.1 k in omega (arith, m, same))
state-once (enumeration b ∷ ts) (n ∷ ns) low (suc e) zero c d l h g k same = absurd (let m : suc n ≤ slice_index ns e = state-above ts ns (suc n) e c (omega (arith, l)) h.1 g in omega (arith, m, same))
state-once (nine_valued ∷ ts) (n ∷ ns) low (suc e) (suc f) c d l h g k same = ap suc (state-once ts ns low e f c d (omega (arith, l)) h g k same)
state-once (enumeration b ∷ ts) (n ∷ ns) low (suc e) (suc f) c d l h g k same = ap suc (state-once ts ns (suc n) e f c d (omega (arith, l)) h.1 g k same)
state-once _ _ low _ _ c d l h g k same = absurd cc

nine-block : (n low : ℕ) (xs ns : List ℕ) (ts : List ElementType) → length xs ≡ n → StatesRise low ts ns → StatesRise low (replicate n nine_valued ++ ts) (xs ++ ns)
nine-block zero low [] ns ts l h = h
nine-block (suc n) low (x ∷ xs) ns ts l h = nine-block n low xs ns ts (omega (arith, l)) h
nine-block _ low _ ns ts l h = absurd (omega (arith, l))

-- an object of an enumeration is no port, and so has a net of its own
alone : (outer : List Object) (o : Object) (c : ℕ) → ObjectIsSound outer o → element_type o.kind ≡ enumeration c → o.actual ≡ None
alone outer o c h e = by (is_port o.role) refl
  where
    by : (t : Bool) → is_port o.role ≡ t → o.actual ≡ None
    by true p = absurd (let q = h.ports_are_nine p in cc)
    by false p = h.signals_have_none p

pub states-rise : (os outer : List Object) (above : List ℕ) (first : ℕ) → All (ObjectIsSound outer) os → All ObjectFits os → StatesRise first (object_types os) (element_nets above first os)
states-rise [] outer above first h fit = tt
states-rise (o ∷ os) outer above first h fit =
    by o.kind refl (nets-length above first o (All-head ObjectFits o os fit)) (states-rise os outer above (first + own_size o) (All-tail (ObjectIsSound outer) o os h) (All-tail ObjectFits o os fit))
  where
    more : (n : ℕ) → first ≤ first + n
    more n = omega arith

    by : (q : ObjectKind) → o.kind ≡ q → length (object_nets above first o) ≡ size o.kind → StatesRise (first + own_size o) (object_types os) (element_nets above (first + own_size o) os)
        → StatesRise first (replicate (size o.kind) (element_type o.kind) ++ object_types os) (object_nets above first o ++ element_nets above (first + own_size o) os)
    by (k.enumeration c) e l r =
        let none : o.actual ≡ None = alone outer o c (All-head (ObjectIsSound outer) o os h) (ap element_type e) in
        let ns : List ℕ = element_nets above (first + own_size o) os in
        let next : first + own_size o ≡ suc first = ap (λ m. first + m) (own-is_size o none ∙ ap size e) ∙ plus-one first in
        let rest : StatesRise (suc first) (object_types os) ns = subst (λ m. StatesRise m (object_types os) ns) next r in
        let nets : object_nets above first o ≡ first ∷ [] = own-nets above first o none ∙ ap (λ (q : ObjectKind). range_with_len first (size q)) e in
        subst (λ (xs : List ℕ). StatesRise first (replicate (size o.kind) (element_type o.kind) ++ object_types os) (xs ++ ns)) (sym nets)
        (subst (λ (q : ObjectKind). StatesRise first (replicate (size q) (element_type q) ++ object_types os) (first ∷ ns)) (sym e) (omega arith, rest))
      where
        plus-one : (n : ℕ) → n + 1 ≡ suc n
        plus-one n = omega arith
    by _ e l r =
        subst (λ (t : ElementType). StatesRise first (replicate (size o.kind) t ++ object_types os) (object_nets above first o ++ element_nets above (first + own_size o) os)) (sym (ap element_type e))
        (nine-block (size o.kind) first (object_nets above first o) (element_nets above (first + own_size o) os) (object_types os) l
        (states-lower (first + own_size o) first (object_types os) (element_nets above (first + own_size o) os) (more (own_size o)) r))

-- ---- hits: how many of these drivers are of this net

abbrev one-if : Bool → ℕ
one-if t = cond t 1 0

abbrev pub hits : (n : ℕ) (nets drives : List ℕ) → ℕ
hits n nets [] = 0
hits n nets (e ∷ es) = one-if (slice_index nets e == n) + hits n nets es

-- of the processes that stand in an instance itself
abbrev pub level_hits : (n : ℕ) → Placed → Parts → ℕ
level_hits n round no_parts = 0
level_hits n round (process p rest) = hits n round.nets p.drives + level_hits n round rest
level_hits n round (inner label i rest) = level_hits n round rest

abbrev Misses : ℕ → List ℕ → ℕ → Type 0
Misses n nets e = slice_index nets e ≡ n → ⊥

pub no-hits : (n : ℕ) (nets drives : List ℕ) → All (Misses n nets) drives → hits n nets drives ≡ 0
no-hits n nets [] h = refl
no-hits n nets (e ∷ es) h =
    ap (λ (t : Bool). one-if t + hits n nets es) (ne_eqb (slice_index nets e) n (All-head (Misses n nets) e es h)) ∙ ap (λ m. 0 + m) (no-hits n nets es (All-tail (Misses n nets) e es h))

pub level-none : (n : ℕ) (round : Placed) (ps : Parts) → PartsAreSound round.objects ps → ((e : ℕ) → MayBeDriven round.objects e → Misses n round.nets e) → level_hits n round ps ≡ 0
level-none n round no_parts h go = refl
level-none n round (process p rest) h go =
    ap (λ m. m + level_hits n round rest) (no-hits n round.nets p.drives (λ k d l. go (slice_index_or p.drives k d) (h.0.drives k d l))) ∙ ap (λ m. 0 + m) (level-none n round rest h.1 go)
level-none n round (inner label i rest) h go = level-none n round rest h.1 go

-- an element that is driven and has this net
abbrev Hit : ℕ → Placed → ℕ → Type 0
Hit n round e = MayBeDriven round.objects e × (slice_index round.nets e ≡ n)

some-hit : (n : ℕ) (round : Placed) (drives : List ℕ) → All (MayBeDriven round.objects) drives → (hits n round.nets drives ≡ 0) ⊎ ((e : ℕ) × Hit n round e)
some-hit n round [] h = inl refl
some-hit n round (e ∷ es) h = by (slice_index round.nets e == n) refl (some-hit n round es (All-tail (MayBeDriven round.objects) e es h))
  where
    by : (t : Bool) → (slice_index round.nets e == n) ≡ t → (hits n round.nets es ≡ 0) ⊎ ((f : ℕ) × Hit n round f) → (one-if t + hits n round.nets es ≡ 0) ⊎ ((f : ℕ) × Hit n round f)
    by true s r = inr (e, (All-head (MayBeDriven round.objects) e es h, eqb-true (slice_index round.nets e) n s))
    by false s (inl z) = inl (ap (λ m. 0 + m) z)
    by false s (inr f) = inr f

level-some : (n : ℕ) (round : Placed) (ps : Parts) → PartsAreSound round.objects ps → (level_hits n round ps ≡ 0) ⊎ ((e : ℕ) × Hit n round e)
level-some n round no_parts h = inl refl
level-some n round (process p rest) h = by (some-hit n round p.drives h.0.drives) (level-some n round rest h.1)
  where
    by : (hits n round.nets p.drives ≡ 0) ⊎ ((e : ℕ) × Hit n round e) → (level_hits n round rest ≡ 0) ⊎ ((e : ℕ) × Hit n round e) → (hits n round.nets p.drives + level_hits n round rest ≡ 0) ⊎ ((e : ℕ) × Hit n round e)
    by (inl z) (inl y) = inl (ap (λ m. m + level_hits n round rest) z ∙ ap (λ m. 0 + m) y)
    by (inr e) r = inr e
    by (inl z) (inr e) = inr e
level-some n round (inner label i rest) h = level-some n round rest h.1

-- ---- sources of an element

abbrev counted : (e : ℕ) → List ℕ → ℕ
counted e es = count_by (λ d. d == e) es

-- the elements with a net are few, where they are this one alone
hits-few : (n e : ℕ) (nets drives : List ℕ) → All (λ d. slice_index nets d ≡ n → d ≡ e) drives → hits n nets drives ≤ counted e drives
hits-few n e nets [] h = omega arith
hits-few n e nets (d ∷ ds) h =
    let rest = hits-few n e nets ds (All-tail (λ x. slice_index nets x ≡ n → x ≡ e) d ds h) in
    subst (λ m. hits n nets (d ∷ ds) ≤ m) (sym (sum_by-cons (λ x. one-if (x == e)) d ds)) (by (slice_index nets d == n) refl rest)
  where
    by : (t : Bool) → (slice_index nets d == n) ≡ t → hits n nets ds ≤ counted e ds → one-if t + hits n nets ds ≤ one-if (d == e) + counted e ds
    by false s r = omega (arith, r)
    by true s r =
        let same : (d == e) ≡ true = eq-eqb d e (All-head (λ x. slice_index nets x ≡ n → x ≡ e) d ds h (eqb-true (slice_index nets d) n s)) in
        subst (λ (t : Bool). 1 + hits n nets ds ≤ one-if t + counted e ds) (sym same) (omega (arith, r))

counted-append : (e : ℕ) (xs ys : List ℕ) → counted e (xs ++ ys) ≡ counted e xs + counted e ys
counted-append e xs ys = sum_by-append (λ d. one-if (d == e)) xs ys

level-few : (n e : ℕ) (round : Placed) (ps : Parts) → PartsAreSound round.objects ps → ((d : ℕ) → MayBeDriven round.objects d → slice_index round.nets d ≡ n → d ≡ e) → level_hits n round ps ≤ counted e (driven_in ps)
level-few n e round no_parts h go = omega arith
level-few n e round (process p rest) h go =
    let a = hits-few n e round.nets p.drives (λ k d l. go (slice_index_or p.drives k d) (h.0.drives k d l)) in
    let b = level-few n e round rest h.1 go in
    subst (λ m. level_hits n round (process p rest) ≤ m) (sym (counted-append e p.drives (driven_in rest))) (omega (arith, a, b))
level-few n e round (inner label i rest) h go =
    let b = level-few n e round rest h.1 go in
    subst (λ m. level_hits n round rest ≤ m) (sym (counted-append e (actuals_of output (objects_of i)) (driven_in rest))) (omega (arith, b))

-- the element of this number, with what holds of all
record TheElement (P : Element → Type 0) (p : Placed) (t : ElementType) (number : ℕ) : Type 0 where
  element : Element
  holds : P element
  type_is : element.type ≡ t
  sources : element.sources ≡ counted number p.driven

the-element : (P : Element → Type 0) (p : Placed) (os : List Object) (first j : ℕ) (t : ElementType) → All P (elements_from p first os) → slice_get (object_types os) j ≡ Some t → TheElement P p t (first + j)
the-element P p [] first j t h g = absurd cc
the-element P p (o ∷ os) first j t h g =
    by (cases_lt j (size o.kind)) (λ l e. the-element P p os (first + size o.kind) (j - size o.kind) t (all_right P mine theirs h) e)
  where
    mine : List Element
    mine = map (λ k. element_of p o (first + k) k) (range_with_len 0 (size o.kind))

    theirs : List Element
    theirs = elements_from p (first + size o.kind) os

    block : List ElementType
    block = replicate (size o.kind) (element_type o.kind)

    len : length block ≡ size o.kind
    len = length-replicate (size o.kind) (element_type o.kind)

    none : (n : ℕ) → 0 + n ≡ n
    none n = omega arith

    replicated : (n : ℕ) (s : ElementType) (i : ℕ) → slice_get (replicate n s) i ≡ Some t → s ≡ t
    replicated zero s i e = absurd cc
    replicated (suc n) s zero e = same_Some s t e
    replicated (suc n) s (suc i) e = replicated n s i e

    by : (j < size o.kind) ⊎ (size o.kind ≤ j) → (size o.kind ≤ j → slice_get (object_types os) (j - size o.kind) ≡ Some t → TheElement P p t (first + size o.kind + (j - size o.kind))) → TheElement P p t (first + j)
    by (inl l) go =
        let f : ℕ → Element = λ k. element_of p o (first + k) k in
        let there : j < length mine = subst (λ m. j < m) (sym (length-map-range_with_len f 0 (size o.kind))) l in
        record {
          element = element_of p o (first + j) j;
          holds = subst P (get_or-map-range_with_len f 0 (size o.kind) j j (f j) l (none j)) (all_left P mine theirs h j (f j) there);
          type_is = replicated (size o.kind) (element_type o.kind) j (sym (get-left block (object_types os) j (subst (λ m. j < m) (sym len) l)) ∙ g);
          sources = refl;
        }
    by (inr l) go =
        let at : j ≡ length block + (j - size o.kind) = omega (arith, l, len) in
        let e : slice_get (object_types os) (j - size o.kind) ≡ Some t = sym (get-past block (object_types os) (j - size o.kind)) ∙ ap (slice_get (block ++ object_types os)) (sym at) ∙ g in
        let number : first + size o.kind + (j - size o.kind) ≡ first + j = omega (arith, l) in
        subst (TheElement P p t) number (go l e)

-- ---- an unresolved element has one source at most

abbrev pub NotTwo : Element → Type 0
NotTwo e = (not e.is_resolved && nat_le 2 e.sources) ≡ false

abbrev pub Tame : Placed → Type 0
Tame p = All NotTwo (elements_of p)

at-most-one : (types : List ElementType) (e : Element) (c : ℕ) → ElementIsSound types e → NotTwo e → e.type ≡ enumeration c → e.sources ≤ 1
at-most-one types e c s h t = by e.is_resolved refl h
  where
    by : (r : Bool) → e.is_resolved ≡ r → (not r && nat_le 2 e.sources) ≡ false → e.sources ≤ 1
    by true q g = absurd (let n = s.resolved_are_nine q in cc)
    by false q g = let l : e.sources < 2 = leb-false 2 e.sources g in omega (arith, l)

pub unshared : (types : List ElementType) (p : Placed) (parts : Parts) (first n c : ℕ) → PlacedIsSound types p → StatesRise first (object_types p.objects) p.nets → All (ElementIsSound types) (elements_of p) → Tame p
    → p.driven ≡ driven_in parts → PartsAreSound p.objects parts → HasType types (enumeration c) n → level_hits n p parts ≤ 1
unshared types p parts first n c h rise elements tame driven sound typed = by (level-some n p parts sound)
  where
    state : (e : ℕ) → Hit n p e → slice_get (object_types p.objects) e ≡ Some (enumeration c)
    state e w =
        let t = driven-type p.objects e w.0 in
        let k : HasType types t.0 n = subst (HasType types t.0) w.1 (zip_read (HasType types) (object_types p.objects) p.nets e t.0 h.nets t.1) in
        t.1 ∙ ap Some (same_Some t.0 (enumeration c) (sym k ∙ typed))

    by : (level_hits n p parts ≡ 0) ⊎ ((e : ℕ) × Hit n p e) → level_hits n p parts ≤ 1
    by (inl z) = omega (arith, z)
    by (inr w) =
        let e : ℕ = w.0 in
        let el = the-element (λ (x : Element). ElementIsSound types x × NotTwo x) p p.objects 0 e (enumeration c) (λ j d l. (elements j d l, tame j d l)) (state e w.1) in
        let few = level-few n e p parts sound
        (λ d m same. state-once (object_types p.objects) p.nets first d e c c (zip_lengths (HasType types) (object_types p.objects) p.nets h.nets) rise (state d (m, same)) (state e w.1) (same ∙ sym w.1.1)) in
        let most : el.element.sources ≤ 1 = at-most-one types el.element c el.holds.0 el.holds.1 el.type_is in
        let is : el.element.sources ≡ counted e (driven_in parts) = el.sources ∙ ap (λ m. counted m p.driven) (none e) ∙ ap (counted e) driven in
        omega (arith, few, most, is)
      where
        none : (n : ℕ) → 0 + n ≡ n
        none n = omega arith
