-- The elements of a name are among those of its longest static prefix, in each turn of the loops round it.
use Rattle.std.proofs.Common.{◌≡◌, ℕ, ◌+◌, ◌<◌, Bool, true, false, cond, List, [], ◌∷◌, length, map, take, Ok, Err, All, refl, sym, ap, ◌∙◌, subst, arith}
use Rattle.std.specs.Prelude.{ℤ, pos, neg_ℤ, nat_abs, slice_get, slice_index_or, Contains}
use Rattle.std.specs.List.{range_with_len}
use Rattle.std.proofs.lemmas.Bool.{and_parts}
use Rattle.std.proofs.lemmas.List.Elements.{All-cons, All-nil, All-map, All-weaker, All-contains_itself}
use Rattle.std.proofs.lemmas.List.FromFn.{length-range_with_len, get_or-range_with_len, length-map-range_with_len, get_or-map-range_with_len}
use Rattle.vhdl_names_rules.specs.units.Expressions as u
use Rattle.vhdl_names_rules.specs.units.Expressions.{Static, Signal, Part, SignalPart}
use Rattle.vhdl_expand_rules.specs.declared.fault.ElabProblem.TheVariants.{Index}
use Rattle.vhdl_expand_rules.specs.Elab.{Elab, ◌>>=◌, item_or}
use Rattle.vhdl_expand_rules.specs.Integers.{Integers, checked_integer, integer_operation, sliced_bound, known_range, integer}
use Rattle.vhdl_expand_rules.specs.Kinds.{ObjectKind, one, vector, enumeration, size, place_of, slice_places, places}
use Rattle.vhdl_expand_rules.specs.Site.{Site, elements_count, part_elements, signal_elements, place_elements}
use Rattle.vhdl_names_rules.specs.Names.{is_static}
use Rattle.vhdl_expand_rules.specs.Prefixes.{is_static_part, prefix}
use Rattle.vhdl_expand_rules.proofs.Steps.{given, ok, bound}
use Rattle.vhdl_expand_rules.proofs.laws.Places.{place_below, slice_within}

-- ---- places are below sizes

one-place : (n p : ℕ) → p < n → All (λ q. q < n) (p ∷ [])
one-place n p h = All-cons (λ q. q < n) p [] h (All-nil (λ q. q < n))

run-below : (n : ℕ) → All (λ q. q < n) (range_with_len 0 n)
run-below n k d h =
    let l : length (range_with_len 0 n) ≡ n = length-range_with_len 0 n in
    let is : slice_index_or (range_with_len 0 n) k d ≡ 0 + k = get_or-range_with_len 0 n k d (omega (arith, h, l)) in
    omega (arith, is, h, l)

pub places_below : (here : Integers) (at : ℕ) (kind : ObjectKind) (part : Part) (ps : List ℕ) → places here at kind part ≡ Ok ps → All (λ p. p < size kind) ps
unfolding places
places_below here at kind u.whole ps h = subst (All (λ p. p < size kind)) (ok (range_with_len 0 (size kind)) ps h) (run-below (size kind))
places_below here at (vector b) (u.Part.element x) ps h =
    let j = bound (integer here at x) _ ps h in
    let p = bound (place_of b at j.x) _ ps j.then_gave in
    subst (All (λ q. q < size (vector b))) (ok (p.x ∷ []) ps p.then_gave) (one-place (size (vector b)) p.x (place_below b at j.x p.x p.gave))
places_below here at (vector b) (u.slice x) ps h =
    let l = bound (integer here at x.left) _ ps h in
    let m = bound (integer here at x.right) _ ps l.then_gave in
    (slice_within b at x.direction l.x m.x ps m.then_gave).below
places_below here at _ _ ps h = absurd cc

-- ---- what is static is the same in each turn

abbrev turned : Integers → List ℤ → Integers
turned here loops = record here { loops = loops }

-- the site of a statement within loops, in a process with these variables
abbrev pub within : Site → List ℤ → List ObjectKind → Site
within here loops variables = record here { integers = turned here.integers loops; variables = variables }

static-same : (here : Integers) (at : ℕ) (loops : List ℤ) (s : Static) → is_static s ≡ true → integer (turned here loops) at s ≡ integer here at s
unfolding integer
static-same here at loops (u.loop_parameter k) h = absurd cc
static-same here at loops (u.Static.negated sign s) h = ap (λ (r : Elab ℤ). r >>= λ x. checked_integer sign (neg_ℤ x)) (static-same here sign loops s h)
static-same here at loops (u.absolute sign s) h = ap (λ (r : Elab ℤ). r >>= λ x. checked_integer sign (pos (nat_abs x))) (static-same here sign loops s h)
static-same here at loops (u.slice_bound place b k s d t) h =
    let both = and_parts (is_static s) (is_static t) h in
    ap (λ (r : Elab ℤ). known_range place here.ranges k >>= λ w. r >>= λ x. integer (turned here loops) place t >>= λ y.
    sliced_bound place b w (record { left = x; direction = d; right = y })) (static-same here place loops s both.0)
    ∙ ap (λ (r : Elab ℤ). known_range place here.ranges k >>= λ w. integer here place s >>= λ x. r >>= λ y.
    sliced_bound place b w (record { left = x; direction = d; right = y })) (static-same here place loops t both.1)
static-same here at loops (u.Static.binary sign op s t) h =
    let both = and_parts (is_static s) (is_static t) h in
    ap (λ (r : Elab ℤ). r >>= λ x. integer (turned here loops) sign t >>= λ y. integer_operation sign op x y) (static-same here sign loops s both.0)
    ∙ ap (λ (r : Elab ℤ). integer here sign s >>= λ x. r >>= λ y. integer_operation sign op x y) (static-same here sign loops t both.1)
static-same here at loops _ h = refl

places-same : (here : Integers) (at : ℕ) (loops : List ℤ) (kind : ObjectKind) (part : Part) → is_static_part part ≡ true → places (turned here loops) at kind part ≡ places here at kind part
unfolding places
places-same here at loops (vector b) (u.Part.element s) h = ap (λ (r : Elab ℤ). r >>= λ i. place_of b at i >>= λ p. given (p ∷ [])) (static-same here at loops s h)
places-same here at loops (vector b) (u.slice r) h =
    let both = and_parts (is_static r.left) (is_static r.right) h in
    ap (λ (e : Elab ℤ). e >>= λ x. integer (turned here loops) at r.right >>= λ y. slice_places b at r.direction x y) (static-same here at loops r.left both.0)
    ∙ ap (λ (e : Elab ℤ). integer here at r.left >>= λ x. e >>= λ y. slice_places b at r.direction x y) (static-same here at loops r.right both.1)
places-same here at loops one (u.Part.element s) h = refl
places-same here at loops (enumeration n) (u.Part.element s) h = refl
places-same here at loops _ _ h = refl

-- ---- elements of a part, and of the whole

same_result : {A : Type 0} (r : Elab A) (x y : A) → r ≡ Ok x → r ≡ Ok y → x ≡ y
same_result r x y h g = ok x y (sym h ∙ g)

in-static : (here : Integers) (at : ℕ) (loops : List ℤ) (from : ℕ) (kinds : List ObjectKind) (k : ℕ) (part : Part) (es ds : List ℕ) → is_static_part part ≡ true
    → part_elements (turned here loops) at from kinds k part ≡ Ok es → part_elements here at from kinds k part ≡ Ok ds → All (Contains ds) es
in-static here at loops from kinds k part es ds s h g =
    subst (λ (xs : List ℕ). All (Contains ds) xs) (sym (same_result (part_elements here at from kinds k part) es ds (sym (by (item_or Index at (slice_get kinds k))) ∙ h) g)) (All-contains_itself ds)
  where
    by : (r : Elab ObjectKind) → (r >>= λ kind. places (turned here loops) at kind part >>= λ ps. given (map (λ p. from + elements_count (take k kinds) + p) ps))
        ≡ (r >>= λ kind. places here at kind part >>= λ ps. given (map (λ p. from + elements_count (take k kinds) + p) ps))
    by (Ok kind) = ap (λ (e : Elab (List ℕ)). e >>= λ ps. given (map (λ p. from + elements_count (take k kinds) + p) ps)) (places-same here at loops kind part s)
    by (Err told) = refl

in-whole : (here here' : Integers) (at from : ℕ) (kinds : List ObjectKind) (k : ℕ) (part : Part) (es ds : List ℕ) → part_elements here' at from kinds k part ≡ Ok es → part_elements here at from kinds k u.whole ≡ Ok ds
    → All (Contains ds) es
unfolding places
in-whole here here' at from kinds k part es ds h g =
    let f : ℕ → ℕ = λ p. from + elements_count (take k kinds) + p in
    let kind = bound (item_or Index at (slice_get kinds k)) _ es h in
    let ps = bound (places here' at kind.x part) _ es kind.then_gave in
    let same = bound (item_or Index at (slice_get kinds k)) _ ds g in
    let n : ℕ = size same.x in
    let is : kind.x ≡ same.x = same_result (item_or Index at (slice_get kinds k)) kind.x same.x kind.gave same.gave in
    let below : All (λ p. p < n) ps.x = subst (λ (x : ObjectKind). All (λ p. p < size x) ps.x) is (places_below here' at kind.x part ps.x ps.gave) in
    subst (λ (xs : List ℕ). All (Contains xs) es) (ok (map f (range_with_len 0 n)) ds same.then_gave)
    (subst (λ (xs : List ℕ). All (Contains (map f (range_with_len 0 n))) xs) (ok (map f ps.x) es ps.then_gave)
    (All-map (Contains (map f (range_with_len 0 n))) f ps.x
    (All-weaker (λ p. p < n) (λ p. Contains (map f (range_with_len 0 n)) (f p)) (λ p l. there f n p l) ps.x below)))
  where
    there : (f : ℕ → ℕ) (n p : ℕ) → p < n → Contains (map f (range_with_len 0 n)) (f p)
    there f n p l = (p, subst (λ m. p < m) (sym (length-map-range_with_len f 0 n)) l, get_or-map-range_with_len f 0 n p p (f p) l (let z : 0 + p ≡ p = omega arith in z))

signal-in : (here : Site) (at : ℕ) (loops : List ℤ) (vs : List ObjectKind) (x : Signal) (part : Part) (t : Bool) (es ds : List ℕ) → is_static_part part ≡ t
    → signal_elements (within here loops vs) at x part ≡ Ok es → signal_elements here at x (cond t part u.whole) ≡ Ok ds → All (Contains ds) es
unfolding signal_elements
signal-in here at loops vs (u.port k) part true es ds s h g = in-static here.integers at loops 0 here.ports k part es ds s h g
signal-in here at loops vs (u.Signal.signal k) part true es ds s h g = in-static here.integers at loops (elements_count here.ports) here.signals k part es ds s h g
signal-in here at loops vs (u.port k) part false es ds s h g = in-whole here.integers (turned here.integers loops) at 0 here.ports k part es ds h g
signal-in here at loops vs (u.Signal.signal k) part false es ds s h g = in-whole here.integers (turned here.integers loops) at (elements_count here.ports) here.signals k part es ds h g

prefix-is : (p : SignalPart) → prefix p ≡ record { at = p.at; signal = p.signal; part = cond (is_static_part p.part) p.part u.whole }
prefix-is p = by (is_static_part p.part)
  where
    by : (t : Bool) → cond t p (record p { part = u.whole }) ≡ record { at = p.at; signal = p.signal; part = cond t p.part u.whole }
    by true = refl
    by false = refl

pub name_in_prefix : (here : Site) (loops : List ℤ) (vs : List ObjectKind) (p : SignalPart) (es ds : List ℕ) → place_elements (within here loops vs) p ≡ Ok es → place_elements here (prefix p) ≡ Ok ds → All (Contains ds) es
name_in_prefix here loops vs p es ds h g =
    signal-in here p.at loops vs p.signal p.part (is_static_part p.part) es ds refl h (sym (ap (place_elements here) (prefix-is p)) ∙ g)
