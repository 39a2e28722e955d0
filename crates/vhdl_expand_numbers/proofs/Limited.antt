-- What lies within limits lies within the integers.
use Rattle.std.proofs.Common.{◌≡◌, Bool, true, false, cond, refl, arith}
use Rattle.std.specs.Prelude.{ℤ, pos, negsuc, int_le}
use Rattle.std.proofs.lemmas.Int.{ints}
use Rattle.std.proofs.lemmas.Bool.{and_parts, and_from}
use Rattle.vhdl_expand_rules.specs.Computed.{Span, span, integers, has, covers, held_in, minimum, cut_to}

le-along : (x y z : ℤ) → int_le x y ≡ true → int_le y z ≡ true → int_le x z ≡ true
le-along x y z h k = grind (arith, ints)

module _ (a b : ℤ) (h : has integers a ≡ true) (k : has integers b ≡ true) where
  has-between : (x : ℤ) → int_le a x ≡ true → int_le x b ≡ true → has integers x ≡ true
  has-between x low high =
      let p = and_parts (int_le (negsuc 2147483647) a) (int_le a (pos 2147483647)) h in
      let q = and_parts (int_le (negsuc 2147483647) b) (int_le b (pos 2147483647)) k in
      and_from (int_le (negsuc 2147483647) x) (int_le x (pos 2147483647)) (le-along (negsuc 2147483647) a x p.0 low) (le-along x b (pos 2147483647) high q.1)

  within-one : (x : ℤ) → has (span a b) x ≡ true → has integers x ≡ true
  within-one x e = let ends = and_parts (int_le a x) (int_le x b) e in has-between x ends.0 ends.1

  pub within_covered : (s : Span) → covers (span a b) s ≡ true → covers integers s ≡ true
  within_covered s e =
      let ends = and_parts (has (span a b) s.least) (has (span a b) s.greatest) e in
      and_from (has integers s.least) (has integers s.greatest) (within-one s.least ends.0) (within-one s.greatest ends.1)

  held-has : (x : ℤ) → has integers (held_in (span a b) x) ≡ true
  held-has x = by (minimum b x) (below (int_le b x) refl) (int_le a (minimum b x)) refl
    where
      by : (m : ℤ) → int_le m b ≡ true → (t : Bool) → int_le a m ≡ t → has integers (cond t m a) ≡ true
      by m high true low = has-between m low high
      by m high false low = h

      below : (t : Bool) → int_le b x ≡ t → int_le (cond t b x) b ≡ true
      below true e = grind (arith, ints)
      below false e = grind (arith, ints)

  pub cut_within : (s : Span) → covers integers (cut_to (span a b) s) ≡ true
  cut_within s =
      and_from (has integers (held_in (span a b) s.least)) (has integers (held_in (span a b) s.greatest)) (held-has s.least) (held-has s.greatest)
