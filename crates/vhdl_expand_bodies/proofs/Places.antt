-- The places of a part lie within what it is a part of.
use Rattle.std.proofs.Common.{◌≡◌, ℕ, zero, suc, ◌+◌, ◌^◌, ◌<◌, ◌≤◌, List, [], ◌∷◌, length, map, take, drop, drop-cons, add-one, Ok, refl, sym, ap, ◌∙◌, subst, arith}
use Rattle.std.specs.Borrow.{Bor}
use Rattle.std.specs.Prelude.{nat_le, slice_get, slice_index_or, Option, None, Some, option_map}
use Rattle.std.specs.Slice.{IsItemAt}
use Rattle.std.specs.List.{range_with_len}
use Rattle.std.proofs.lemmas.Bool.{leb-true}
use Rattle.std.proofs.lemmas.List.FromFn.{length-range_with_len, get_or-range_with_len}
use Rattle.std.proofs.lemmas.Option.{same_Some, slice_get-map, slice_get_past}
use Rattle.vhdl_values.specs.declared.scalar.Nine.{Nine}
use Rattle.vhdl_values.specs.declared.scalar.Nine.TheVariants.{X}
use Rattle.rtl_model.specs.bodies.Fits.{IsWidth}
use Rattle.vhdl_names_rules.specs.units.Expressions as u
use Rattle.vhdl_names_rules.specs.units.Expressions.{Static, Part}
use Rattle.vhdl_expand_rules.specs.declared.fault.ElabProblem.TheVariants.{Index, TooWide}
use Rattle.vhdl_expand_rules.specs.Elab.{◌>>=◌, unless}
use Rattle.vhdl_expand_rules.specs.Integers.{Integers, integer, natural}
use Rattle.vhdl_expand_rules.specs.Kinds.{ObjectKind, vector, bounds_size, size, place_of, places, size_of}
use Rattle.vhdl_expand_rules.specs.Elab.{item_or as found_kind}
use Rattle.vhdl_expand_rules.specs.Site.{Site, Constant, elements_count, part_elements, constant_values, the_element}
use Rattle.vhdl_expand_rules.proofs.Steps.{given, ok, bound, kept}
use Rattle.vhdl_expand_rules.proofs.laws.Names.{count-cons}
use Rattle.vhdl_expand_rules.proofs.laws.Places.{Within, place_below, slice_within}
use Rattle.vhdl_expand_operands.proofs.Several.{there}
use Rattle.vhdl_expand_bodies.specs.declared.site.Placed.{Placed}
use Rattle.vhdl_expand_bodies.specs.Sites.{IsSitePlaced, placed_kind}

-- ---- runs

-- a range with a number in it is of one first number and one length
range-first : (a n f len : ℕ) → range_with_len a (suc n) ≡ range_with_len f len → a ≡ f
range-first a n f zero h = absurd cc
range-first a n f (suc len) h = cc

range-length : (a n f len : ℕ) → range_with_len a n ≡ range_with_len f len → n ≡ len
range-length a n f len h = sym (length-range_with_len a n) ∙ ap length h ∙ length-range_with_len f len

abbrev Fits : (f len most : ℕ) → Type 0
Fits f len most = (1 ≤ len) × (f + len ≤ most)

run-fits : (f len most : ℕ) → Within most (range_with_len f len) → Fits f len most
run-fits f zero most w = absurd (let some : 1 ≤ 0 = w.some in omega (arith, some))
run-fits f (suc k) most w =
    let long : length (range_with_len f (suc k)) ≡ suc k = length-range_with_len f (suc k) in
    let is : slice_index_or (range_with_len f (suc k)) k 0 ≡ f + k = get_or-range_with_len f (suc k) k 0 (omega arith) in
    let last : slice_index_or (range_with_len f (suc k)) k 0 < most = w.below k 0 (omega (arith, long)) in
    (omega arith, omega (arith, is, last))

-- ---- any part

one-short : (p f len most : ℕ) → p < most → p ∷ [] ≡ range_with_len f len → Fits f len most
one-short p f len most h e =
    let a = range-first p 0 f len e in
    let b = range-length p 1 f len e in
    (omega arith, omega arith)

whole-short : (n f len : ℕ) → 1 ≤ n → range_with_len 0 n ≡ range_with_len f len → Fits f len n
whole-short zero f len h e = absurd (omega arith)
whole-short (suc n) f len h e =
    let a = range-first 0 n f len e in
    let b = range-length 0 (suc n) f len e in
    (omega arith, omega arith)

pub places-short : (here : Integers) (at : ℕ) (kind : ObjectKind) (part : Part) (f len : ℕ) → 1 ≤ size kind → places here at kind part ≡ Ok (range_with_len f len) → Fits f len (size kind)
unfolding places
places-short here at kind u.whole f len h e = whole-short (size kind) f len h (ok (range_with_len 0 (size kind)) (range_with_len f len) e)
places-short here at (vector b) (u.Part.element s) f len h e =
    let i = bound (integer here at s) _ _ e in
    let p = bound (place_of b at i.x) _ _ i.then_gave in
    one-short p.x f len (bounds_size b) (place_below b at i.x p.x p.gave) (ok (p.x ∷ []) (range_with_len f len) p.then_gave)
places-short here at (vector b) (u.slice r) f len h e =
    let x = bound (integer here at r.left) _ _ e in
    let y = bound (integer here at r.right) _ _ x.then_gave in
    run-fits f len (bounds_size b) (slice_within b at r.direction x.x y.x (range_with_len f len) y.then_gave)
places-short here at _ _ f len h e = absurd cc

-- ---- of one thing among several

map-add : (m f len : ℕ) → map (λ q. m + q) (range_with_len f len) ≡ range_with_len (m + f) len
map-add m f zero = refl
map-add m f (suc len) =
    let e : m + (f + 1) ≡ m + f + 1 = omega arith in
    ap (λ xs. (m + f) ∷ xs) (map-add m (f + 1) len ∙ ap (λ a. range_with_len a len) e)

pub part-given : (here : Integers) (at from : ℕ) (ps : List Placed) (k : ℕ) (part : Part) (p : Placed) (f len : ℕ) → slice_get ps k ≡ Some p
    → IsSitePlaced (take k (map placed_kind ps)) p → places here at (placed_kind p) part ≡ Ok (range_with_len f len)
    → part_elements here at from (map placed_kind ps) k part ≡ Ok (range_with_len (from + p.first + f) len)
part-given here at from ps k part p f len there placed h =
    let kinds = map placed_kind ps in
    ap (λ o. found_kind Index at o >>= λ kind. places here at kind part >>= λ xs. given (map (λ q. from + elements_count (take k kinds) + q) xs))
    (slice_get-map placed_kind ps k ∙ ap (option_map placed_kind) there)
    ∙ ap (λ r. r >>= λ xs. given (map (λ q. from + elements_count (take k kinds) + q) xs)) h
    ∙ ap given (map-add (from + elements_count (take k kinds)) f len)
    ∙ ap (λ m. given (range_with_len (from + m + f) len)) (sym placed.first)

-- its elements are some of all
among : (ps : List Placed) (k : ℕ) (p : Placed) → slice_get ps k ≡ Some p → elements_count (take k (map placed_kind ps)) + size (placed_kind p) ≤ elements_count (map placed_kind ps)
among [] k p h = absurd cc
among (q ∷ ps) zero p h =
    let all : elements_count (map placed_kind (q ∷ ps)) ≡ size (placed_kind q) + elements_count (map placed_kind ps) = count-cons (placed_kind q) (map placed_kind ps) in
    let same : size (placed_kind q) ≡ size (placed_kind p) = ap (λ (x : Placed). size (placed_kind x)) (same_Some q p h) in
    omega (arith, all, same)
among (q ∷ ps) (suc k) p h =
    let all : elements_count (map placed_kind (q ∷ ps)) ≡ size (placed_kind q) + elements_count (map placed_kind ps) = count-cons (placed_kind q) (map placed_kind ps) in
    let some : elements_count (placed_kind q ∷ take k (map placed_kind ps)) ≡ size (placed_kind q) + elements_count (take k (map placed_kind ps)) = count-cons (placed_kind q) (take k (map placed_kind ps)) in
    let rest : elements_count (take k (map placed_kind ps)) + size (placed_kind p) ≤ elements_count (map placed_kind ps) = among ps k p h in
    omega (arith, all, some, rest)

pub part-fits : (here : Integers) (at from : ℕ) (ps : List Placed) (k : ℕ) (part : Part) (p : Placed) (f len : ℕ) → from + elements_count (map placed_kind ps) < 2 ^ 32
    → slice_get ps k ≡ Some p → IsSitePlaced (take k (map placed_kind ps)) p → places here at (placed_kind p) part ≡ Ok (range_with_len f len) → IsWidth len × (from + p.first + f < 2 ^ 32)
part-fits here at from ps k part p f len few there placed h =
    let fits = places-short here at (placed_kind p) part f len placed.width.0 h in
    let within = among ps k p there in
    ((fits.0, omega (arith, fits.0, fits.1, placed.width.1)), omega (arith, few, fits.0, fits.1, placed.first, within))

-- ---- the values of a constant

values-there : (vs : List Nine) (f len : ℕ) → f + len ≤ length vs → map (λ p. slice_index_or vs p X) (range_with_len f len) ≡ take len (drop f vs)
values-there vs f zero h = refl
values-there vs f (suc len) h =
    let here : f < length vs = omega arith in
    ap (λ xs. slice_index_or vs f X ∷ xs) (values-there vs (f + 1) len (omega arith))
    ∙ ap (λ j. slice_index_or vs f X ∷ take len (drop j vs)) (add-one f)
    ∙ ap (take (suc len)) (sym (drop-cons vs f X here))

pub constant-given : (here : Site) (at k : ℕ) (part : Part) (c : Constant) (f len : ℕ) → slice_get here.constants k ≡ Some c → f + len ≤ length c.values
    → places here.integers at c.kind part ≡ Ok (range_with_len f len) → constant_values here at k part ≡ Ok (take len (drop f c.values))
unfolding constant_values
constant-given here at k part c f len there h e =
    ap (λ o. found_kind Index at o >>= λ c. places here.integers at c.kind part >>= λ ps. given (map (λ p. slice_index_or c.values p X) ps)) there
    ∙ ap (λ r. r >>= λ ps. given (map (λ p. slice_index_or c.values p X) ps)) e
    ∙ ap given (values-there c.values f len h)

-- ---- sizes

pub size_fits : (here : Integers) (at : ℕ) (s : Static) (n : ℕ) → size_of here at s ≡ Ok n → IsWidth n
unfolding size_of
size_fits here at s n h =
    let m = bound (natural here at s) _ n h in
    let some = bound (unless Index at (nat_le 1 m.x)) _ n m.then_gave in
    let room = bound (unless TooWide at (nat_le m.x 64)) _ n some.then_gave in
    let e : m.x ≡ n = ok m.x n room.then_gave in
    let low : 1 ≤ m.x = leb-true 1 m.x (kept Index at (nat_le 1 m.x) some.x some.gave) in
    let high : m.x ≤ 64 = leb-true m.x 64 (kept TooWide at (nat_le m.x 64) room.x room.gave) in
    (omega arith, omega arith)

pub elements-length : (f len : ℕ) (ns : List ℕ) → given (range_with_len f len) ≡ Ok ns → length ns ≡ len
elements-length f len ns h = ap length (sym (ok (range_with_len f len) ns h)) ∙ length-range_with_len f len

-- what is lent, as contracts see it
pub seen_item : {X Y : Type 0} (v : X → Y) (xs : List X) (k : ℕ) (r : Option (Bor X)) → IsItemAt xs k r → option_map (λ (b : Bor X). v b.now) r ≡ slice_get (map v xs) k
seen_item v xs k None h = sym (slice_get-map v xs k ∙ ap (option_map v) (slice_get_past xs k h.3))
seen_item v xs k (Some b) h = sym (slice_get-map v xs k ∙ ap (option_map v) (there xs k b.now h.3.0 (h.3.1 b.now)))

pub item_there : {X : Type 0} (xs : List X) (k : ℕ) (r : Option (Bor X)) (b : Bor X) → IsItemAt xs k r → r ≡ Some b → slice_get xs k ≡ Some b.now
item_there {X} xs k r b h e =
    let found = subst (λ (o : Option (Bor X)). IsItemAt xs k o) e h in
    there xs k b.now found.3.0 (found.3.1 b.now)

-- ---- one element

pub one_element : (at f len : ℕ) → 1 ≤ len → the_element at (given (range_with_len f len)) ≡ Ok f
one_element at f zero some = absurd (omega arith)
one_element at f (suc len) some = refl
