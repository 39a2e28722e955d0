-- What is refused of an aggregate is told where it starts, or at a byte of its choices.
use Rattle.std.proofs.Common.{ℕ, ◌+◌, not, ◌==◌, List, [], ◌∷◌, ◌++◌, length, Option, Some, None, All}
use Rattle.std.specs.Prelude.{ℤ, pos, nat_le, int_le}
use Rattle.std.specs.List.{list_any}
use Rattle.std.proofs.lemmas.List.Elements.{All-head, All-tail}
use Rattle.rtl_model.specs.bodies.Body as bodies
use Rattle.vhdl_tree.specs.declared.operator.Direction.TheVariants.{To}
use Rattle.vhdl_names_rules.specs.units.Expressions as u
use Rattle.vhdl_names_rules.specs.units.Expressions.{Range, Index, index_start}
use Rattle.vhdl_names_rules.specs.units.Bytes.{if_any_bytes, static_bytes, range_bytes, index_bytes}
use Rattle.vhdl_expand_rules.specs.declared.fault.ElabProblem.TheVariants.{Length, StaticError, TooWide}
use Rattle.vhdl_expand_rules.specs.declared.fault.ElabProblem.TheVariants as problem
use Rattle.vhdl_expand_rules.specs.Elab.{Told, unless, item_or}
use Rattle.vhdl_expand_rules.specs.Integers.{IntegerRange, Integers, is_null, extent, integer}
use Rattle.vhdl_expand_rules.specs.Aggregates.{Placed, least_of, greatest_of, is_among, range_indexes, computed_range, given_indexes, serves, range_serves, choice_indexes, are_free, chosen_indexes, listed, left_over, joined_all, widths, filled_up, listed_values, placed_indexes, element_for, value_of, runs, elements_for, run_value, values_at, own_indexes, chosen_values, are_listed, composed}
use Rattle.vhdl_expand_rules.proofs.Tells.{Tells, At, tells_none, tells_refused, tells_then, tells_unless, tells_item, tells_all}
use Rattle.vhdl_expand_rules.proofs.laws.Targets.{all_left, all_right}
use Rattle.vhdl_expand_rules.proofs.laws.told.Static.{tells_chosen, integer_tells}

module _ (P : Told → Type 0) where
  -- ---- indexes

  indexes-tell : (at : ℕ) (r : IntegerRange) → At P at → Tells P (range_indexes at r)
  indexes-tell at r h =
      tells_then P (unless TooWide at (nat_le (extent r.direction r.left r.right) 64)) _
      (tells_unless P TooWide tt at (nat_le (extent r.direction r.left r.right) 64) h) (λ few. tells_none P _)

  pub computed_range_tells : (here : Integers) (at : ℕ) (r : Range) → At P at → All (At P) (range_bytes r) → Tells P (computed_range here at r)
  computed_range_tells here at r h k =
      tells_then P (integer here at r.left) _ (integer_tells P here at r.left h (all_left (At P) (static_bytes r.left) (static_bytes r.right) k)) (λ x.
      tells_then P (integer here at r.right) _ (integer_tells P here at r.right h (all_right (At P) (static_bytes r.left) (static_bytes r.right) k)) (λ y.
      tells_none P _))

  pub bounds_tell : (here : Integers) (at : ℕ) (r : Option Range) → At P at → All (At P) (if_any_bytes range_bytes r) → Tells P (given_indexes here at r)
  bounds_tell here at None h k = tells_none P None
  bounds_tell here at (Some r) h k =
      tells_then P (computed_range here at r) _ (computed_range_tells here at r h k) (λ range.
      tells_then P (range_indexes at range) _ (indexes-tell at range h) (λ is. tells_none P _))

  serves-tells : (at : ℕ) (all : Option (List ℤ)) (i : ℤ) → At P at → Tells P (serves at all i)
  serves-tells at (Some is) i h = tells_unless P problem.Index tt at (is_among is i) h
  serves-tells at None i h = tells_unless P StaticError tt at (int_le (pos 0) i) h

  range-serves : (at : ℕ) (all : Option (List ℤ)) (r : IntegerRange) → At P at → Tells P (range_serves at all r)
  range-serves at all r h =
      tells_then P (unless problem.Index at (not (is_null r.direction r.left r.right))) _
      (tells_unless P problem.Index tt at (not (is_null r.direction r.left r.right)) h) (λ some.
      tells_then P (serves at all r.left) _ (serves-tells at all r.left h) (λ left. serves-tells at all r.right h))

  choice-tells : (here : Integers) (all : Option (List ℤ)) (c : Index) → All (At P) (index_bytes c) → Tells P (choice_indexes here all c)
  choice-tells here all (u.index at s) k =
      let own : At P at = All-head (At P) at (static_bytes s) k in
      tells_then P (integer here at s) _ (integer_tells P here at s own (All-tail (At P) at (static_bytes s) k)) (λ i.
      tells_then P (serves at all i) _ (serves-tells at all i own) (λ served. tells_none P _))
  choice-tells here all (u.indexes at r) k =
      let own : At P at = All-head (At P) at (range_bytes r) k in
      tells_then P (computed_range here at r) _ (computed_range_tells here at r own (All-tail (At P) at (range_bytes r) k)) (λ range.
      tells_then P (range_serves at all range) _ (range-serves at all range own) (λ served. indexes-tell at range own))

  pub index_stands : (c : Index) → All (At P) (index_bytes c) → At P (index_start c)
  index_stands (u.index at s) k = All-head (At P) at (static_bytes s) k
  index_stands (u.indexes at r) k = All-head (At P) at (range_bytes r) k

  free-tells : (at : ℕ) (taken is : List ℤ) → At P at → Tells P (are_free at taken is)
  free-tells at taken is h =
      tells_then P (unless problem.Index at (not (list_any (is_among taken) is))) _
      (tells_unless P problem.Index tt at (not (list_any (is_among taken) is)) h) (λ free.
      tells_unless P TooWide tt at (nat_le (length taken + length is) 64) h)

  pub chosen_tells : (here : Integers) (all : Option (List ℤ)) (taken : List ℤ) (cs : List Index) → All (λ c. All (At P) (index_bytes c)) cs
      → Tells P (chosen_indexes here all taken cs)
  chosen_tells here all taken [] k = tells_none P []
  chosen_tells here all taken (c ∷ cs) k =
      let own = All-head (λ y. All (At P) (index_bytes y)) c cs k in
      tells_then P (choice_indexes here all c) _ (choice-tells here all c own) (λ is.
      tells_then P (are_free (index_start c) taken is) _ (free-tells (index_start c) taken is (index_stands c own)) (λ free.
      tells_then P (chosen_indexes here all (taken ++ is) cs) _ (chosen_tells here all (taken ++ is) cs (All-tail (λ y. All (At P) (index_bytes y)) c cs k)) (λ rest.
      tells_none P _)))

  -- ---- values

  joined-tells : (at : ℕ) (es : List bodies.Expr) → At P at → Tells P (joined_all at es)
  joined-tells at [] h = tells_refused P problem.Index tt at h
  joined-tells at (e ∷ es) h = tells_none P _

  filled-tells : (at needed : ℕ) (es : List bodies.Expr) (rest : Option bodies.Expr) → At P at → Tells P (filled_up at needed es rest)
  filled-tells at needed es None h = tells_chosen P (widths es == needed) _ _ (tells_none P es) (tells_refused P (Length (widths es) needed) tt at h)
  filled-tells at needed es (Some e) h =
      tells_chosen P (widths es == needed) _ _ (tells_none P es)
      (tells_then P (unless (Length (widths es) needed) at (nat_le (widths es) needed)) _
      (tells_unless P (Length (widths es) needed) tt at (nat_le (widths es) needed) h) (λ fits. tells_none P _))

  listed-tells : (at : ℕ) (all : Option (List ℤ)) (xs : List Placed) → At P at → Tells P (listed_values at all xs)
  listed-tells at (Some is) xs h = filled-tells at (length is) (listed xs) (left_over xs) h
  listed-tells at None xs h =
      tells_then P (unless TooWide at (nat_le (widths (listed xs)) 64)) _ (tells_unless P TooWide tt at (nat_le (widths (listed xs)) 64) h) (λ few. tells_none P _)

  values-tell : (at : ℕ) (is : List ℤ) (xs : List Placed) → At P at → Tells P (values_at at is xs)
  values-tell at is xs h =
      tells_then P (elements_for at is xs) _
      (tells_all P (λ i. item_or (Length (length (placed_indexes xs)) (length is)) at (element_for 0 xs i)) is
      (λ i. tells_item P (Length (length (placed_indexes xs)) (length is)) tt at (element_for 0 xs i) h)) (λ ks.
      tells_all P (run_value at xs) (runs ks) (λ r.
      tells_then P (item_or problem.Index at (value_of xs r.0)) _ (tells_item P problem.Index tt at (value_of xs r.0) h) (λ e. tells_none P _)))

  own-tells : (at : ℕ) (is : List ℤ) → At P at → Tells P (own_indexes at is)
  own-tells at [] h = tells_refused P problem.Index tt at h
  own-tells at (i ∷ is) h = indexes-tell at (record { left = least_of i is; direction = To; right = greatest_of i is }) h

  chosen-tells : (at : ℕ) (all : Option (List ℤ)) (xs : List Placed) → At P at → Tells P (chosen_values at all xs)
  chosen-tells at (Some is) xs h = values-tell at is xs h
  chosen-tells at None xs h = tells_then P (own_indexes at (placed_indexes xs)) _ (own-tells at (placed_indexes xs) h) (λ is. values-tell at is xs h)

  pub composed_tells : (at : ℕ) (all : Option (List ℤ)) (xs : List Placed) → At P at → Tells P (composed at all xs)
  composed_tells at all xs h =
      tells_then P _ _ (tells_chosen P (are_listed xs) _ _ (listed-tells at all xs h) (chosen-tells at all xs h)) (λ es. joined-tells at es h)
