-- Rows are as long as their spacing says, and what all that they lie in have, each row has.
use Rattle.std.proofs.Common.{◌≡◌, ℕ, zero, suc, ◌+◌, ◌-◌, ◌*◌, ◌/◌, ◌<◌, ◌≤◌, Bool, true, false, cond, nat_le, List, [], ◌∷◌, Option, Some, None, length, take, drop, replicate}
use Rattle.std.proofs.Common.{refl, sym, ◌∙◌, subst, ap, arith, All, length-take, length-drop, get_or, get_or-take, get_or-drop, div-mul-le_self, mul-le-mul_right}
use Rattle.std.specs.Prelude.{slice_get, option_and_then, unwrap_or}
use Rattle.std.specs.List.{list_any}
use Rattle.std.proofs.lemmas.Bool.{leb-true, le-leb}
use Rattle.std.proofs.lemmas.Nat.{le-div}
use Rattle.std.proofs.lemmas.List.{length-replicate}
use Rattle.std.proofs.lemmas.Option.{slice_get-get_or, slice_get_past}
use Rattle.std.proofs.lemmas.List.Elements.{All-head, All-tail}
use Rattle.std.proofs.lemmas.List.FromFn.{length-map-range_with_len, get_or-map-range_with_len}
use Rattle.vhdl_values.specs.declared.scalar.Nine.{Nine}
use Rattle.vhdl_numbers.specs.Counts.{natural_of}
use Rattle.rtl_model.specs.bodies.Rows.{Spacing, row, row_count, all_rows, row_at}
use Rattle.rtl_model.specs.bodies.Values.{targets_at}
use Rattle.rtl_model.proofs.basics.Lists.{get_or_default, none_contained, all_none}

-- ---- a row lies within what rows lie in, and no other does

pub row_within : (spacing : Spacing) (elements k : ℕ) → k < row_count spacing elements → k * spacing.step + spacing.len ≤ elements
row_within spacing elements k below = go (nat_le spacing.len elements) refl below
  where
    go : (b : Bool) → nat_le spacing.len elements ≡ b → k < cond b ((elements - spacing.len) / spacing.step + 1) 0 → k * spacing.step + spacing.len ≤ elements
    go true is l =
        let most : k ≤ (elements - spacing.len) / spacing.step = omega arith in
        omega (arith, leb-true spacing.len elements is, mul-le-mul_right spacing.step most, div-mul-le_self (elements - spacing.len) spacing.step)
    go false is l = absurd (omega arith)

pub row_there : (spacing : Spacing) (elements k : ℕ) → 0 < spacing.step → k * spacing.step + spacing.len ≤ elements → k < row_count spacing elements
row_there spacing elements k some within =
    let most : k ≤ (elements - spacing.len) / spacing.step = le-div k (elements - spacing.len) spacing.step some (omega (arith, within)) in
    go (nat_le spacing.len elements) (le-leb spacing.len elements (omega (arith, within))) most
  where
    go : (b : Bool) → b ≡ true → k ≤ (elements - spacing.len) / spacing.step → k < cond b ((elements - spacing.len) / spacing.step + 1) 0
    go true is most = omega arith
    go false is most = absurd cc

module _ {X : Type 0} where
  -- what all have, a part has
  pub all-part : (P : X → Type 0) (vs : List X) (first len : ℕ) → All P vs → All P (take len (drop first vs))
  all-part P vs first len h k d l =
      let within = rw (length-take, length-drop) at l in
      subst P (sym (get_or-take len (drop first vs) k d (omega (arith, within)) ∙ get_or-drop first vs k d)) (h (first + k) d (omega (arith, within)))

  -- ---- a row with a number

  pub slice_get-all : (Q : List X → Type 0) (rows : List (List X)) (n : ℕ) (r : List X) → slice_get rows n ≡ Some r → All Q rows → Q r
  slice_get-all Q [] n r e h = absurd cc
  slice_get-all Q (s ∷ rows) zero r e h = subst Q (let same : s ≡ r = cc in same) (All-head Q s rows h)
  slice_get-all Q (s ∷ rows) (suc n) r e h = slice_get-all Q rows n r e (All-tail Q s rows h)

  -- or so many fillers where there is none
  pub length-at : (len : ℕ) (rows : List (List X)) (x : X) (number : Option ℕ) → All (λ r. length r ≡ len) rows
      → length (unwrap_or (option_and_then (slice_get rows) number) (replicate len x)) ≡ len
  length-at len rows x None h = length-replicate len x
  length-at len [] x (Some n) h = length-replicate len x
  length-at len (r ∷ rows) x (Some zero) h = All-head (λ r. length r ≡ len) r rows h
  length-at len (r ∷ rows) x (Some (suc n)) h = length-at len rows x (Some n) (All-tail (λ r. length r ≡ len) r rows h)

  -- ---- rows of a list

  module _ (spacing : Spacing) (vs : List X) where
    length-row : (k : ℕ) → k < row_count spacing (length vs) → length (row spacing vs k) ≡ spacing.len
    length-row k below = rw (length-take, length-drop) (omega (arith, row_within spacing (length vs) k below))

    pub length-all : length (all_rows spacing vs) ≡ row_count spacing (length vs)
    length-all = length-map-range_with_len (row spacing vs) 0 (row_count spacing (length vs))

    pub at_row : (k : ℕ) (d : List X) → k < row_count spacing (length vs) → get_or (all_rows spacing vs) k d ≡ row spacing vs k
    at_row k d below = get_or-map-range_with_len (row spacing vs) 0 (row_count spacing (length vs)) k k d below (omega arith)

    each_row : (Q : List X → Type 0) → ((k : ℕ) → k < row_count spacing (length vs) → Q (row spacing vs k)) → All Q (all_rows spacing vs)
    each_row Q h k d l =
        let below : k < row_count spacing (length vs) = omega (arith, l, length-all) in
        subst Q (sym (at_row k d below)) (h k below)

    pub length-all_rows : All (λ r. length r ≡ spacing.len) (all_rows spacing vs)
    length-all_rows = each_row (λ r. length r ≡ spacing.len) length-row

    pub all-all_rows : (P : X → Type 0) → All P vs → All (All P) (all_rows spacing vs)
    all-all_rows P h = each_row (All P) (λ k below. all-part P vs (k * spacing.step) spacing.len h)

    -- the row of an index that names one, and of one that names none
    pub row_at-some : (index : List Nine) (k : ℕ) → natural_of index ≡ Some k → k < row_count spacing (length vs) → row_at spacing vs index ≡ Some (row spacing vs k)
    row_at-some index k named below =
        ap (option_and_then (slice_get (all_rows spacing vs))) named ∙ slice_get-get_or (all_rows spacing vs) k (row spacing vs k) (omega (arith, below, length-all))
        ∙ ap (λ (r : List X). Some r) (at_row k (row spacing vs k) below)

    pub row_at-none : (index : List Nine) → ((k : ℕ) → natural_of index ≡ Some k → row_count spacing (length vs) ≤ k) → row_at spacing vs index ≡ None
    row_at-none index past = go (natural_of index) past
      where
        go : (o : Option ℕ) → ((k : ℕ) → o ≡ Some k → row_count spacing (length vs) ≤ k) → option_and_then (slice_get (all_rows spacing vs)) o ≡ None
        go None past = refl
        go (Some k) past = slice_get_past (all_rows spacing vs) k (omega (arith, past k refl, length-all))

-- ---- what an assignment to the row at an index assigns to

pub all-targets : (P : ℕ → Type 0) (spacing : Spacing) (rows : List ℕ) (index : List Nine) → All P rows → All P (targets_at rows (row_at spacing rows index))
all-targets P spacing rows index h = by (natural_of index)
  where
    of_row : (o : Option (List ℕ)) → ((r : List ℕ) → o ≡ Some r → All P r) → All P (targets_at rows o)
    of_row None each = h
    of_row (Some r) each = each r refl

    by : (number : Option ℕ) → All P (targets_at rows (option_and_then (slice_get (all_rows spacing rows)) number))
    by None = h
    by (Some n) = of_row (slice_get (all_rows spacing rows) n) (λ r e. slice_get-all (All P) (all_rows spacing rows) n r e (all-all_rows spacing rows P h))

pub none-targets : (f : ℕ → Bool) (spacing : Spacing) (rows : List ℕ) (index : List Nine) → list_any f rows ≡ false → list_any f (targets_at rows (row_at spacing rows index)) ≡ false
none-targets f spacing rows index none =
    all_none f (targets_at rows (row_at spacing rows index)) 0 (λ k l. all-targets (λ t. f t ≡ false) spacing rows index each k 0 l)
  where
    each : All (λ t. f t ≡ false) rows
    each k d l = none_contained f rows (get_or rows k d) none (k, l, get_or_default rows k (get_or rows k d) d l)
