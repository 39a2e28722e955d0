-- Expanded aggregates (IEEE 1076-2008, 9.3.3): which value each index has, and their values from the left, joined.
-- Neighbours that one element of the text is for are filled with it.
use Rattle.std.specs.Prelude.{ℕ, suc, ◌+◌, ◌-◌, Bool, true, false, not, ◌&&◌, ◌==◌, nat_le, if◌then◌else◌, List, [], ◌∷◌, ◌++◌, length, map, sum, Option, Some, None, ℤ, pos, int_le, int_lt, Ok}
use Rattle.std.specs.List.{list_any}
use Rattle.vhdl_tree.specs.declared.operator.Direction.TheVariants.{To}
use Rattle.vhdl_names_rules.specs.units.Expressions as u
use Rattle.vhdl_names_rules.specs.units.Expressions.{Range, Index, index_start}
use Rattle.rtl_model.specs.bodies.Body as bodies
use Rattle.rtl_model.specs.bodies.Fits.{width}
use Rattle.vhdl_expand_rules.specs.declared.fault.ElabProblem.TheVariants as problem
use Rattle.vhdl_expand_rules.specs.Elab.{Elab, ◌>>=◌, ◌>>◌, refused, unless, item_or, each}
use Rattle.vhdl_expand_rules.specs.Integers.{IntegerRange, Integers, integer, is_null, extent, numbers_from}

-- ---- indexes

abbrev pub are_same : ℤ → ℤ → Bool
are_same x y = int_le x y && int_le y x

abbrev pub is_among : List ℤ → ℤ → Bool
is_among is i = list_any (are_same i) is

-- those of a range, 64 at most
abbrev pub range_indexes : (at : ℕ) → IntegerRange → Elab (List ℤ)
range_indexes at r = do
  unless problem.TooWide at (nat_le (extent r.direction r.left r.right) 64)
  Ok (numbers_from r.direction r.left (extent r.direction r.left r.right))

abbrev pub computed_range : Integers → (at : ℕ) → Range → Elab IntegerRange
computed_range here at r = do
  x ← integer here at r.left
  y ← integer here at r.right
  Ok (record { left = x; direction = r.direction; right = y })

-- of what an aggregate is given to, from the left; a free one has its own
abbrev pub given_indexes : Integers → (at : ℕ) → Option Range → Elab (Option (List ℤ))
given_indexes here at None = Ok None
given_indexes here at (Some r) = do
  range ← computed_range here at r
  is ← range_indexes at range
  Ok (Some is)

-- an index lies within those that are given, and a free one is natural
abbrev pub serves : (at : ℕ) → Option (List ℤ) → ℤ → Elab (Unit {0})
serves at (Some is) i = unless problem.Index at (is_among is i)
serves at None i = unless problem.StaticError at (int_le (pos 0) i)

-- a null range would serve in an aggregate of no elements alone (9.3.3.3)
abbrev pub range_serves : (at : ℕ) → Option (List ℤ) → IntegerRange → Elab (Unit {0})
range_serves at all r = do
  unless problem.Index at (not (is_null r.direction r.left r.right))
  serves at all r.left
  serves at all r.right

-- of one choice
abbrev pub choice_indexes : Integers → Option (List ℤ) → Index → Elab (List ℤ)
choice_indexes here all (u.index at s) = do
  i ← integer here at s
  serves at all i
  Ok (i ∷ [])
choice_indexes here all (u.indexes at r) = do
  range ← computed_range here at r
  range_serves at all range
  range_indexes at range

-- none of them is taken, and together they are 64 at most
abbrev pub are_free : (at : ℕ) → (taken is : List ℤ) → Elab (Unit {0})
are_free at taken is = do
  unless problem.Index at (not (list_any (is_among taken) is))
  unless problem.TooWide at (nat_le (length taken + length is) 64)

-- of some choices
abbrev pub chosen_indexes : Integers → Option (List ℤ) → (taken : List ℤ) → List Index → Elab (List ℤ)
chosen_indexes here all taken [] = Ok []
chosen_indexes here all taken (c ∷ cs) = do
  is ← choice_indexes here all c
  are_free (index_start c) taken is
  rest ← chosen_indexes here all (taken ++ is) cs
  Ok (is ++ rest)

-- ---- elements

-- an expanded element: the next from the left, one for each of these indexes, or for each that is left
pub data Placed : Type 0 where
  next : bodies.Expr → Placed
  chosen : List ℤ → bodies.Expr → Placed
  others : bodies.Expr → Placed

-- those that are listed, and that for what is left
abbrev pub listed : List Placed → List bodies.Expr
listed (next e ∷ xs) = e ∷ listed xs
listed _ = []

abbrev pub left_over : List Placed → Option bodies.Expr
left_over [] = None
left_over (others e ∷ xs) = Some e
left_over (x ∷ xs) = left_over xs

-- ---- values, joined from the left

abbrev pub joined_from : bodies.Expr → List bodies.Expr → bodies.Expr
joined_from d [] = d
joined_from d (e ∷ es) = joined_from (bodies.Expr.binary bodies.joined d e) es

-- there is one at least, in units that names have passed
abbrev pub joined_all : (at : ℕ) → List bodies.Expr → Elab bodies.Expr
joined_all at [] = refused problem.Index at
joined_all at (e ∷ es) = Ok (joined_from e es)

-- so many times one value
abbrev pub repeated : ℕ → bodies.Expr → bodies.Expr
repeated n e = if n == 1 then e else bodies.filled n e

-- ---- listed elements

abbrev pub widths : List bodies.Expr → ℕ
widths es = sum (map width es)

-- as many as there are indexes: what is left is others'
abbrev pub filled_up : (at needed : ℕ) → List bodies.Expr → Option bodies.Expr → Elab (List bodies.Expr)
filled_up at needed es rest = if widths es == needed then Ok es else by rest
  where
    by : Option bodies.Expr → Elab (List bodies.Expr)
    by None = refused (problem.Length (widths es) needed) at
    by (Some e) = do
      unless (problem.Length (widths es) needed) at (nat_le (widths es) needed)
      Ok (es ++ repeated (needed - widths es) e ∷ [])

-- a free one has at most 64
abbrev pub listed_values : (at : ℕ) → Option (List ℤ) → List Placed → Elab (List bodies.Expr)
listed_values at (Some is) xs = filled_up at (length is) (listed xs) (left_over xs)
listed_values at None xs = do
  unless problem.TooWide at (nat_le (widths (listed xs)) 64)
  Ok (listed xs)

-- ---- chosen elements

abbrev pub placed_indexes : List Placed → List ℤ
placed_indexes (chosen is e ∷ xs) = is ++ placed_indexes xs
placed_indexes _ = []

-- which element, by its number from here on, an index has
abbrev pub element_for : ℕ → List Placed → ℤ → Option ℕ
element_for k [] i = None
element_for k (next e ∷ xs) i = None
element_for k (chosen is e ∷ xs) i = if is_among is i then Some k else element_for (suc k) xs i
element_for k (others e ∷ xs) i = Some k

-- the value of that element
abbrev pub value_of : List Placed → ℕ → Option bodies.Expr
value_of [] k = None
value_of (x ∷ xs) k = if k == 0 then by x else value_of xs (k - 1)
  where
    by : Placed → Option bodies.Expr
    by (next e) = None
    by (chosen is e) = Some e
    by (others e) = Some e

-- neighbours of one number: the number, and how many they are
abbrev pub run_before : ℕ → List (ℕ × ℕ) → List (ℕ × ℕ)
run_before k [] = (k, 1) ∷ []
run_before k ((j, n) ∷ rest) = if k == j then (j, suc n) ∷ rest else (k, 1) ∷ ((j, n) ∷ rest)

abbrev pub runs : List ℕ → List (ℕ × ℕ)
runs [] = []
runs (k ∷ ks) = run_before k (runs ks)

-- which element each index has; one that no element is for is told where the aggregate starts
abbrev pub elements_for : (at : ℕ) → List ℤ → List Placed → Elab (List ℕ)
elements_for at is xs =
    each (λ i. item_or (problem.Length (length (placed_indexes xs)) (length is)) at (element_for 0 xs i)) is

abbrev pub run_value : (at : ℕ) → List Placed → ℕ × ℕ → Elab bodies.Expr
run_value at xs r = do
  e ← item_or problem.Index at (value_of xs r.0)
  Ok (repeated r.1 e)

abbrev pub values_at : (at : ℕ) → List ℤ → List Placed → Elab (List bodies.Expr)
values_at at is xs = do
  ks ← elements_for at is xs
  each (run_value at xs) (runs ks)

-- the least of some indexes, and the greatest
abbrev pub least_of : ℤ → List ℤ → ℤ
least_of i [] = i
least_of i (j ∷ js) = least_of (if int_lt j i then j else i) js

abbrev pub greatest_of : ℤ → List ℤ → ℤ
greatest_of i [] = i
greatest_of i (j ∷ js) = greatest_of (if int_lt i j then j else i) js

-- those of a free one: from the least on the left to the greatest
abbrev pub own_indexes : (at : ℕ) → List ℤ → Elab (List ℤ)
own_indexes at [] = refused problem.Index at
own_indexes at (i ∷ is) =
    range_indexes at (record { left = least_of i is; direction = To; right = greatest_of i is })

abbrev pub chosen_values : (at : ℕ) → Option (List ℤ) → List Placed → Elab (List bodies.Expr)
chosen_values at (Some is) xs = values_at at is xs
chosen_values at None xs = do
  is ← own_indexes at (placed_indexes xs)
  values_at at is xs

-- ---- the whole

-- elements are listed where the first is, or is for all
abbrev pub are_listed : List Placed → Bool
are_listed (chosen is e ∷ xs) = false
are_listed _ = true

abbrev pub composed : (at : ℕ) → Option (List ℤ) → List Placed → Elab bodies.Expr
composed at all xs = do
  es ← if are_listed xs then listed_values at all xs else chosen_values at all xs
  joined_all at es
