-- Counts of a region, declaration by declaration.
use Rattle.std.proofs.Common.{◌≡◌, ℕ, zero, suc, ◌+◌, ◌-◌, ◌<◌, ◌≤◌, Bool, List, [], ◌∷◌, ◌++◌, map, length, take, Option, Some, None, Vec, Global, refl, sym, ap, subst, ◌∙◌, append_assoc, arith}
use Rattle.std.specs.Prelude.{slice_get, if◌then◌else◌, is_some, option_map, count_by}
use Rattle.std.specs.Map.{values_of}
use Rattle.std.proofs.lemmas.List.{length-map}
use Rattle.std.proofs.lemmas.List.Sums.{count_by-le-length, sum_by_push}
use Rattle.vhdl_names_rules.specs.Visibility as visibility
use Rattle.vhdl_names_rules.specs.Visibility.{Name, Declared}
use Rattle.vhdl_names_sight.specs.declared.meaning.Entry.{Entry}
use Rattle.vhdl_names_sight.specs.Views.{entry_of, entry_view}
use Rattle.vhdl_names_declarations.specs.declared.counts.Counts.{Counts}
use Rattle.vhdl_names_declarations.specs.Counts.{AreCounts, AreSmall, counted}

-- what is seen of a thing is there if it is
pub some_seen : {A B : Type 0} (view : A → B) (o : Option A) → is_some o ≡ is_some (option_map view o)
some_seen view None = refl
some_seen view (Some x) = refl

-- one declaration more
counts_last : (c : Counts) (ds : List Declared) (d : Declared) → AreCounts c ds → AreCounts (counted c d) (ds ++ d ∷ [])
counts_last c ds d h = record {
  generics = more (λ e. visibility.is_generic e.meaning) c.generics h.generics;
  ports = more (λ e. visibility.is_port e.meaning) c.ports h.ports;
  integers = more (λ e. visibility.is_integer_constant e.meaning) c.integers h.integers;
  constants = more (λ e. visibility.is_constant e.meaning) c.constants h.constants;
  signals = more (λ e. visibility.is_signal e.meaning) c.signals h.signals;
  variables = more (λ e. visibility.is_variable e.meaning) c.variables h.variables;
  enumerations = more (λ e. visibility.is_enumeration_type e.meaning) c.enumerations h.enumerations;
  ranges = more (λ e. is_some e.range) c.ranges h.ranges;
}
  where
    more : (has : Declared → Bool) (n : ℕ) → n ≡ count_by has ds → n + (if has d then 1 else 0) ≡ count_by has (ds ++ d ∷ [])
    more has n e = ap (λ k. k + (if has d then 1 else 0)) e ∙ sym (sum_by_push (λ x. if has x then 1 else 0) ds d)

-- what stands up to a place, and the declaration there
one_more : (es : List (Vec ℕ Global × Entry)) (i : ℕ) (e : Entry) → slice_get (values_of es) i ≡ Some e →
    (n : Name) × (take (suc i) (map entry_view es) ≡ take i (map entry_view es) ++ entry_of n e ∷ [])
one_more [] i e h = absurd cc
one_more (x ∷ es) zero e h = let same : x.1 ≡ e = cc in (x.0.items, ap (λ y. entry_of x.0.items y ∷ []) same)
one_more (x ∷ es) (suc i) e h = let rest = one_more es i e h in (rest.0, ap (λ l. entry_view x ∷ l) rest.1)

pub counted_more : (before : List Declared) (c x : Counts) (es : List (Vec ℕ Global × Entry)) (i : ℕ) (e : Entry) → slice_get (values_of es) i ≡ Some e →
    ((n : Name) → x ≡ counted c (entry_of n e)) → AreCounts c (before ++ take i (map entry_view es)) → AreCounts x (before ++ take (i + 1) (map entry_view es))
counted_more before c x es i e is by h =
    let ds = map entry_view es in
    let next : suc i ≡ i + 1 = omega arith in
    let one = one_more es i e is in
    let d = entry_of one.0 e in
    subst (AreCounts x) (append_assoc before (take i ds) (d ∷ []) ∙ ap (λ l. before ++ l) (sym one.1) ∙ ap (λ k. before ++ take k ds) next)
    (subst (λ y. AreCounts y ((before ++ take i ds) ++ d ∷ [])) (sym (by one.0)) (counts_last c (before ++ take i ds) d h))

-- what counts declarations is less than what they are fewer than
pub small_counts : (c : Counts) (ds : List Declared) (n : ℕ) → length ds < n → AreCounts c ds → AreSmall c n
small_counts c ds n small h = record {
  generics = below (λ e. visibility.is_generic e.meaning) c.generics h.generics;
  ports = below (λ e. visibility.is_port e.meaning) c.ports h.ports;
  integers = below (λ e. visibility.is_integer_constant e.meaning) c.integers h.integers;
  constants = below (λ e. visibility.is_constant e.meaning) c.constants h.constants;
  signals = below (λ e. visibility.is_signal e.meaning) c.signals h.signals;
  variables = below (λ e. visibility.is_variable e.meaning) c.variables h.variables;
  enumerations = below (λ e. visibility.is_enumeration_type e.meaning) c.enumerations h.enumerations;
  ranges = below (λ e. is_some e.range) c.ranges h.ranges;
}
  where
    below : (has : Declared → Bool) (k : ℕ) → k ≡ count_by has ds → k < n
    below has k e = let p = count_by-le-length has ds in omega (arith, p, e, small)

-- what is less than one number is less than a greater one
pub smaller : (c : Counts) (m n : ℕ) → m ≤ n → AreSmall c m → AreSmall c n
smaller c m n le h = record {
  generics = let p = h.generics in omega (arith, p, le);
  ports = let p = h.ports in omega (arith, p, le);
  integers = let p = h.integers in omega (arith, p, le);
  constants = let p = h.constants in omega (arith, p, le);
  signals = let p = h.signals in omega (arith, p, le);
  variables = let p = h.variables in omega (arith, p, le);
  enumerations = let p = h.enumerations in omega (arith, p, le);
  ranges = let p = h.ranges in omega (arith, p, le);
}

taken_le : {A : Type 0} (n : ℕ) (xs : List A) → length (take n xs) ≤ length xs
taken_le zero xs = omega arith
taken_le (suc n) [] = omega arith
taken_le (suc n) (x ∷ xs) = let h = taken_le n xs in omega (arith, h)

-- the same of what a region and a place in another have
pub taken_size : (es : List (Vec ℕ Global × Entry)) (i : ℕ) → length (take i (map entry_view es)) ≤ length es
taken_size es i =
    let p = taken_le i (map entry_view es) in
    let q = length-map es entry_view in
    omega (arith, p, q)
