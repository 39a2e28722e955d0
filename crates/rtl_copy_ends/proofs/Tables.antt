-- A table of many steps by two of fewer.
use Rattle.std.proofs.Common.{◌≡◌, ℕ, ◌+◌, ◌<◌, List, length, map, refl, sym, ap, subst, ◌∙◌, arith}
use Rattle.std.specs.Prelude.{All, slice_index}
use Rattle.std.proofs.lemmas.List.{length-map, get_or-map}
use Rattle.std.proofs.lemmas.List.Elements.{All-get_or, All-from_get_or}
use Rattle.rtl_copy_ends.specs.Steps.{after, IsEach, AreAfter}
use Rattle.rtl_copy_ends.proofs.Stepping.{after-add, after-stays}

pub in-none : (steps places : List ℕ) (many : ℕ) → many ≡ 0 → IsEach (length steps) places → AreAfter steps many places
in-none steps places many none is = record { places = is.many; each = λ p l. is.each p l ∙ ap (λ (n : ℕ). after (slice_index steps) n p) (sym none) }

pub in-one : (steps : List ℕ) → AreAfter steps 1 steps
in-one steps = record { places = refl; each = λ p l. refl }

module _ (steps : List ℕ) (within : All (λ p. p < length steps) steps) where
  stays : (p : ℕ) → p < length steps → slice_index steps p < length steps
  stays p l = All-get_or (λ q. q < length steps) steps p 0 l within

  pub far-within : (first : List ℕ) (a : ℕ) → AreAfter steps a first → All (λ p. p < length steps) first
  far-within first a is = All-from_get_or (λ p. p < length steps) first 0 (λ i l.
      let inside : i < length steps = (let e = is.places in omega arith) in
      subst (λ (q : ℕ). q < length steps) (sym (is.each i inside)) (after-stays (slice_index steps) (length steps) stays a i inside))

  further : (first second : List ℕ) (a b : ℕ) → AreAfter steps a first → AreAfter steps b second → AreAfter steps (a + b) (map (slice_index second) first)
  further first second a b of_first of_second = record {
    places = length-map first (slice_index second) ∙ of_first.places;
    each = λ p l.
        let inside : p < length first = (let e = of_first.places in omega arith) in
        get_or-map (slice_index second) first p 0 0 inside
        ∙ (ap (slice_index second) (of_first.each p l)
        ∙ (of_second.each (after (slice_index steps) a p) (after-stays (slice_index steps) (length steps) stays a p l)
        ∙ sym (after-add (slice_index steps) a b p)));
  }

  pub joined-are : (first second both : List ℕ) (a b many : ℕ) → AreAfter steps a first → AreAfter steps b second → both ≡ map (slice_index second) first → a + b ≡ many → AreAfter steps many both
  joined-are first second both a b many of_first of_second is sum =
      subst (λ (n : ℕ). AreAfter steps n both) sum (subst (λ (xs : List ℕ). AreAfter steps (a + b) xs) (sym is) (further first second a b of_first of_second))
