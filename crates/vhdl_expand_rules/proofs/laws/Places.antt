-- The places of a part lie within what is declared: indices and slices of vectors.
use Rattle.std.proofs.Common.{◌≡◌, ℕ, zero, suc, ◌+◌, ◌-◌, ◌<◌, ◌≤◌, Bool, true, false, cond, not, ◌&&◌, List, length, Ok, Err, All, refl, sym, ap, ◌∙◌, subst, arith}
use Rattle.std.specs.Prelude.{ℤ, pos, negsuc, ◌-ℤ◌, neg_ℤ, nat_abs, int_le, slice_index_or}
use Rattle.std.specs.List.{range_with_len}
use Rattle.std.proofs.lemmas.Int.{ints}
use Rattle.std.proofs.lemmas.Bool.{and_parts, leb-true, ltb-false, le-ltb, not-true}
use Rattle.std.proofs.lemmas.List.FromFn.{length-range_with_len, get_or-range_with_len}
use Rattle.vhdl_tree.specs.declared.operator.Direction.{Direction}
use Rattle.vhdl_tree.specs.declared.operator.Direction.TheVariants.{To, Downto}
use Rattle.vhdl_expand_rules.specs.declared.fault.ElabProblem.TheVariants.{Index}
use Rattle.vhdl_expand_rules.specs.Elab.{Told, unless}
use Rattle.vhdl_expand_rules.specs.Integers.{is_null, extent, is_same_direction}
use Rattle.vhdl_expand_rules.specs.Kinds.{Bounds, bounds_size, place_of, slice_places}
use Rattle.vhdl_expand_rules.proofs.Steps.{given, ok, bound, kept}

abbrev bounds : (left : ℕ) → Direction → (right : ℕ) → Bounds
bounds left d right = record { left = left; direction = d; right = right }

when : {A : Type 0} (test : Bool) (x y : A) (told : Told) → cond test (given x) (Err told) ≡ given y → (test ≡ true) × (x ≡ y)
when true x y told h = (refl, ok x y h)
when false x y told h = absurd cc

-- ---- how far numbers are apart

abs-negated : (n : ℕ) → nat_abs (neg_ℤ (pos n)) ≡ n
abs-negated zero = refl
abs-negated (suc n) = refl

apart-down : (m n : ℕ) → n ≤ m → nat_abs (pos m -ℤ pos n) ≡ m - n
apart-down m n h = ap nat_abs (let e : pos m -ℤ pos n ≡ pos (m - n) = omega (arith, ints, h) in e)

apart-up : (m n : ℕ) → m ≤ n → nat_abs (pos m -ℤ pos n) ≡ n - m
apart-up m n h = ap nat_abs (let e : pos m -ℤ pos n ≡ neg_ℤ (pos (n - m)) = omega (arith, ints, h) in e) ∙ abs-negated (n - m)

plus-one : (n : ℕ) → n + 1 ≡ suc n
plus-one n = omega arith

pub extent-to : (m n : ℕ) → m ≤ n → extent To (pos m) (pos n) ≡ suc (n - m)
extent-to m n h =
    ap (λ (t : Bool). cond t 0 (nat_abs (pos m -ℤ pos n) + 1)) (le-ltb n m h) ∙ ap (λ k. k + 1) (apart-up m n h) ∙ plus-one (n - m)

pub extent-downto : (m n : ℕ) → n ≤ m → extent Downto (pos m) (pos n) ≡ suc (m - n)
extent-downto m n h =
    ap (λ (t : Bool). cond t 0 (nat_abs (pos m -ℤ pos n) + 1)) (le-ltb m n h) ∙ ap (λ k. k + 1) (apart-down m n h) ∙ plus-one (m - n)

-- ---- one place

-- a number within these, and how far it is from the left
place-from : (low high left : ℕ) (i : ℤ) (p : ℕ) (told : Told) → cond (int_le (pos low) i && int_le i (pos high)) (given (nat_abs (i -ℤ pos left))) (Err told) ≡ Ok p
    → (n : ℕ) × (i ≡ pos n) × (low ≤ n) × (n ≤ high) × (nat_abs (pos n -ℤ pos left) ≡ p)
place-from low high left (negsuc k) p told h = absurd cc
place-from low high left (pos n) p told h =
    let w = when (int_le (pos low) (pos n) && int_le (pos n) (pos high)) (nat_abs (pos n -ℤ pos left)) p told h in
    let both = and_parts (int_le (pos low) (pos n)) (int_le (pos n) (pos high)) w.0 in
    (n, refl, leb-true low n both.0, leb-true n high both.1, w.1)

place-to : (at l r : ℕ) (i : ℤ) (p : ℕ) → place_of (bounds l To r) at i ≡ Ok p → (n : ℕ) × (i ≡ pos n) × (l ≤ n) × (n ≤ r) × (p ≡ n - l)
place-to at l r i p h = let w = place-from l r l i p (Index, at) h in (w.0, w.1, w.2, w.3, sym w.4 ∙ apart-down w.0 l w.2)

place-downto : (at l r : ℕ) (i : ℤ) (p : ℕ) → place_of (bounds l Downto r) at i ≡ Ok p → (n : ℕ) × (i ≡ pos n) × (r ≤ n) × (n ≤ l) × (p ≡ l - n)
place-downto at l r i p h = let w = place-from r l l i p (Index, at) h in (w.0, w.1, w.2, w.3, sym w.4 ∙ apart-up w.0 l w.3)

below_by : (p size k : ℕ) → size ≡ suc k → p ≤ k → p < size
below_by p size k e h = omega (arith, e, h)

place-below : (at l : ℕ) (d : Direction) (r : ℕ) (i : ℤ) (p : ℕ) → place_of (bounds l d r) at i ≡ Ok p → p < bounds_size (bounds l d r)
place-below at l To r i p h =
    let w = place-to at l r i p h in
    let a : l ≤ w.0 = w.2 in let b : w.0 ≤ r = w.3 in let e : p ≡ w.0 - l = w.4 in
    below_by p (bounds_size (bounds l To r)) (r - l) (extent-to l r (omega (arith, a, b))) (omega (arith, a, b, e))
place-below at l Downto r i p h =
    let w = place-downto at l r i p h in
    let a : r ≤ w.0 = w.2 in let b : w.0 ≤ l = w.3 in let e : p ≡ l - w.0 = w.4 in
    below_by p (bounds_size (bounds l Downto r)) (l - r) (extent-downto l r (omega (arith, a, b))) (omega (arith, a, b, e))

pub place_below : (b : Bounds) (at : ℕ) (i : ℤ) (p : ℕ) → place_of b at i ≡ Ok p → p < bounds_size b
place_below b at i p h = place-below at b.left b.direction b.right i p h

-- ---- a run of places

pub record Within (size : ℕ) (ps : List ℕ) : Type 0 where
  pub below : All (λ p. p < size) ps
  pub some : 1 ≤ length ps
  pub most : length ps ≤ size

pub run-within : (size first len m n : ℕ) → size ≡ m → len ≡ n → 1 ≤ n → first + n ≤ m → Within size (range_with_len first len)
run-within size first len m n s e some most =
    let l : length (range_with_len first len) ≡ len = length-range_with_len first len in
    record {
      below = λ k d h.
          let is : slice_index_or (range_with_len first len) k d ≡ first + k = get_or-range_with_len first len k d (omega (arith, h, l)) in
          omega (arith, is, h, l, s, e, most);
      some = omega (arith, l, e, some);
      most = omega (arith, l, s, e, most);
    }

-- ---- slices

some-numbers : (d : Direction) (x y : ℤ) (m n : ℕ) → x ≡ pos m → y ≡ pos n → not (is_null d x y) ≡ true → is_null d (pos m) (pos n) ≡ false
some-numbers d x y m n p q h = not-true (is_null d (pos m) (pos n)) (sym (ap (λ (z : ℤ). not (is_null d z y)) p ∙ ap (λ (z : ℤ). not (is_null d (pos m) z)) q) ∙ h)

extent-is : (d : Direction) (x y : ℤ) (m n k count : ℕ) → x ≡ pos m → y ≡ pos n → extent d (pos m) (pos n) ≡ suc k → k ≡ count → extent d x y ≡ suc count
extent-is d x y m n k count p q e same = ap (λ (z : ℤ). extent d z y) p ∙ ap (extent d (pos m)) q ∙ e ∙ ap suc same

-- from one place to another
between : (at l r : ℕ) (d : Direction) (x y : ℤ) (p q : ℕ) → not (is_null d x y) ≡ true → place_of (bounds l d r) at x ≡ Ok p → place_of (bounds l d r) at y ≡ Ok q
    → (p ≤ q) × (extent d x y ≡ suc (q - p))
between at l r To x y p q some h k =
    let m = place-to at l r x p h in
    let n = place-to at l r y q k in
    let le : m.0 ≤ n.0 = ltb-false n.0 m.0 (some-numbers To x y m.0 n.0 m.1 n.1 some) in
    (omega (arith, m.4, n.4, m.2, le), extent-is To x y m.0 n.0 (n.0 - m.0) (q - p) m.1 n.1 (extent-to m.0 n.0 le) (omega (arith, m.4, n.4, m.2, le)))
between at l r Downto x y p q some h k =
    let m = place-downto at l r x p h in
    let n = place-downto at l r y q k in
    let le : n.0 ≤ m.0 = ltb-false m.0 n.0 (some-numbers Downto x y m.0 n.0 m.1 n.1 some) in
    (omega (arith, m.4, n.4, m.3, le), extent-is Downto x y m.0 n.0 (m.0 - n.0) (q - p) m.1 n.1 (extent-downto m.0 n.0 le) (omega (arith, m.4, n.4, m.3, le)))

same-direction : (c d : Direction) → is_same_direction c d ≡ true → c ≡ d
same-direction To To h = refl
same-direction Downto Downto h = refl
same-direction _ _ h = absurd cc

-- what a slice keeps to
record Slice (b : Bounds) (at : ℕ) (d : Direction) (x y : ℤ) (ps : List ℕ) : Type 0 where
  same : is_same_direction b.direction d ≡ true
  some : not (is_null d x y) ≡ true
  first : ℕ
  begins : place_of b at x ≡ Ok first
  last : ℕ
  ends : place_of b at y ≡ Ok last
  is : range_with_len first (extent d x y) ≡ ps

slice-of : (b : Bounds) (at : ℕ) (d : Direction) (x y : ℤ) (ps : List ℕ) → slice_places b at d x y ≡ Ok ps → Slice b at d x y ps
slice-of b at d x y ps h =
    let same = bound (unless Index at (is_same_direction b.direction d)) _ ps h in
    let some = bound (unless Index at (not (is_null d x y))) _ ps same.then_gave in
    let first = bound (place_of b at x) _ ps some.then_gave in
    let last = bound (place_of b at y) _ ps first.then_gave in
    record {
      same = kept Index at (is_same_direction b.direction d) same.x same.gave;
      some = kept Index at (not (is_null d x y)) some.x some.gave;
      first = first.x;
      begins = first.gave;
      last = last.x;
      ends = last.gave;
      is = ok (range_with_len first.x (extent d x y)) ps last.then_gave;
    }

pub slice_within : (b : Bounds) (at : ℕ) (d : Direction) (x y : ℤ) (ps : List ℕ) → slice_places b at d x y ≡ Ok ps → Within (bounds_size b) ps
slice_within b at d x y ps h =
    let s = slice-of b at d x y ps h in
    let e = same-direction b.direction d s.same in
    let w = between at b.left b.right b.direction x y s.first s.last (subst (λ (c : Direction). not (is_null c x y) ≡ true) (sym e) s.some) s.begins s.ends in
    let last : s.last < bounds_size b = place_below b at y s.last s.ends in
    subst (Within (bounds_size b)) s.is (run-within (bounds_size b) s.first (extent d x y) (bounds_size b) (suc (s.last - s.first)) refl
    (ap (λ (c : Direction). extent c x y) (sym e) ∙ w.1) (omega arith) (omega (arith, w.0, last)))
