-- Values and tests are the same in two runs that see the same where these look.
use Rattle.std.proofs.Common.{◌≡◌, ℕ, zero, suc, ◌*◌, not, ◌==◌, List, [], ◌∷◌, ◌++◌, All}
use Rattle.std.specs.Prelude.{⊤, slice_get, option_and_then, unwrap_or}
use Rattle.std.specs.List.{range_with_len}
use Rattle.std.proofs.lemmas.List.{length-replicate}
use Rattle.std.proofs.Common.{Option, Some, None, ◌-◌, ◌%◌, min, sym, subst, length, take, drop, map, replicate, slice_index, slice_index_or, refl, ap, ◌∙◌, Contains, arith}
use Rattle.std.proofs.lemmas.List.Elements.{Contains-append_left, Contains-append_right, All-head, All-tail}
use Rattle.vhdl_values.specs.declared.scalar.Nine.{Nine}
use Rattle.vhdl_values.specs.declared.scalar.Nine.TheVariants.{X, Zero}
use Rattle.vhdl_values.specs.declared.kinds.Counted.{Counted}
use Rattle.vhdl_values.specs.declared.kinds.Counted.TheVariants.{Resize, ResizeSigned, Shift}
use Rattle.vhdl_values.specs.declared.kinds.Shift.{Shift as Shifting}
use Rattle.vhdl_values.specs.declared.kinds.Shift.TheVariants.{Left, Right, RightSigned, RotateLeft}
use Rattle.vhdl_values.specs.declared.kinds.Edge.TheVariants.{Rising, Falling}
use Rattle.vhdl_values.specs.Scalar.{code_of, value_of_code, is_same, is_true}
use Rattle.vhdl_values.specs.Edges.{has_edge}
use Rattle.vhdl_values.specs.Logic.{zip_with, logic_of, not_of}
use Rattle.vhdl_values.specs.Arithmetic.{sum_of, difference_of, product_of}
use Rattle.vhdl_values.specs.Relations.{compares, compares_number}
use Rattle.vhdl_values.specs.Shifts.{leftmost, shifted_of, counted_of}
use Rattle.vhdl_values.proofs.Lengths.{length-zip_with, length-sum_of, length-difference_of, length-product_of}
use Rattle.vhdl_numbers.specs.Converted as numbers
use Rattle.vhdl_numbers.specs.Operators.{signed_of}
use Rattle.vhdl_numbers.specs.Counts.{natural_of, shifted_by}
use Rattle.vhdl_numbers.proofs.Lengths.{length-converted, length-signed_of, length-shifted_by}
use Rattle.rtl_model.specs.bodies.Body.{Operator, logical, joined, plus, minus, times, signed, Expr, signal, variable, constant}
use Rattle.rtl_model.specs.bodies.Body.{inverse, filled, binary, counted, shifted, converted, chosen}
use Rattle.rtl_model.specs.bodies.Rows.{Spacing, row, row_count, all_rows, row_at}
use Rattle.rtl_model.specs.bodies.Body.{Value, elements, position, position_of, position_in}
use Rattle.rtl_model.specs.bodies.Body.{Test, condition, decided, equal, unequal, level, compared, compared_to}
use Rattle.rtl_model.specs.bodies.Body.{rising, falling, event, negated, combined}
use Rattle.rtl_model.specs.bodies.Values.{Seen, element_at, chosen_of, elements_of, value_of}
use Rattle.rtl_model.specs.bodies.Tests.{same, truth, is_met}
use Rattle.rtl_model.specs.bodies.Assigns.{element}
use Rattle.rtl_model.specs.bodies.Fits.{operated_width}
use Rattle.rtl_model.specs.bodies.Looks.{Sight, net_now, net_before, seen_at, Looks, whole, chosen_looks, expr_looks, value_looks, test_looks}
use Rattle.rtl_model.proofs.basics.Lists.{Contains-first}
use Rattle.rtl_model.proofs.bodies.Rows.{length-at, length-all_rows}

on_both : {A B C : Type 0} (f : A → B → C) {a a' : A} {b b' : B} → a ≡ a' → b ≡ b' → f a b ≡ f a' b'
on_both f p q i = f (p i) (q i)

module _ (a b : Seen) where
  -- ---- where two runs see the same

  pub record Agree (sights : List Sight) : Type 0 where
    pub at : (sight : Sight) → Contains sights sight → seen_at a sight ≡ seen_at b sight

  pub agree_left : (ls rs : List Sight) → Agree (ls ++ rs) → Agree ls
  agree_left ls rs h = record { at = λ s c. h.at s (Contains-append_left ls rs s c) }

  pub agree_right : (ls rs : List Sight) → Agree (ls ++ rs) → Agree rs
  agree_right ls rs h = record { at = λ s c. h.at s (Contains-append_right ls rs s c) }

  -- as long as these looks, and element by element the same where the runs agree on what it looks at
  pub data Alike {X : Type 0} : List (List Sight) → List X → List X → Type 0 where
    none : Alike [] [] []
    more : {ls : List Sight} {looks : List (List Sight)} {x y : X} {xs ys : List X} → (Agree ls → x ≡ y) → Alike looks xs ys → Alike (ls ∷ looks) (x ∷ xs) (y ∷ ys)

  pub alike_map : {X Y : Type 0} (f : X → Y) {looks : List (List Sight)} {xs ys : List X} → Alike looks xs ys → Alike looks (map f xs) (map f ys)
  alike_map f none = none
  alike_map f (more e h) = more (λ g. ap f (e g)) (alike_map f h)

  alike_append : {X : Type 0} {ls rs : List (List Sight)} {xs ys us vs : List X} → Alike ls xs ys → Alike rs us vs → Alike (ls ++ rs) (xs ++ us) (ys ++ vs)
  alike_append none k = k
  alike_append (more e h) k = more e (alike_append h k)

  alike_side : (f : Nine → Nine → Nine) {ls rs : List (List Sight)} {xs ys us vs : List Nine} → Alike ls xs ys → Alike rs us vs → Alike (zip_with (λ l r. l ++ r) ls rs) (zip_with f xs us) (zip_with f ys vs)
  alike_side f none k = none
  alike_side f (more e h) none = none
  alike_side f (more {ls = l} e h) (more {ls = r} d k) = more (λ g. on_both f (e (agree_left l r g)) (d (agree_right l r g))) (alike_side f h k)

  pub alike_replicate : {X : Type 0} (n : ℕ) (ls : List Sight) (x y : X) → (Agree ls → x ≡ y) → Alike (replicate n ls) (replicate n x) (replicate n y)
  alike_replicate zero ls x y e = none
  alike_replicate (suc n) ls x y e = more e (alike_replicate n ls x y e)

  pub alike_drop : {X : Type 0} (n : ℕ) {looks : List (List Sight)} {xs ys : List X} → Alike looks xs ys → Alike (drop n looks) (drop n xs) (drop n ys)
  alike_drop zero h = h
  alike_drop (suc n) none = none
  alike_drop (suc n) (more e h) = alike_drop n h

  alike_take : {X : Type 0} (n : ℕ) {looks : List (List Sight)} {xs ys : List X} → Alike looks xs ys → Alike (take n looks) (take n xs) (take n ys)
  alike_take zero h = none
  alike_take (suc n) none = none
  alike_take (suc n) (more e h) = more e (alike_take n h)

  alike_each : (n : ℕ) (ls : List Sight) (xs ys : List Nine) → length xs ≡ n → length ys ≡ n → (Agree ls → xs ≡ ys) → Alike (replicate n ls) xs ys
  alike_each zero ls [] [] p q e = none
  alike_each (suc n) ls (x ∷ xs) (y ∷ ys) p q e = more (λ g. ap (λ (l : List Nine). slice_index_or l 0 x) (e g)) (alike_each n ls xs ys (omega arith) (omega arith) (λ g. ap (λ (l : List Nine). drop 1 l) (e g)))
  alike_each _ ls _ _ p q e = absurd (omega arith)

  alike_same : (looks : List (List Sight)) (xs : List Nine) → length xs ≡ length looks → Alike looks xs xs
  alike_same [] [] e = none
  alike_same (l ∷ looks) (x ∷ xs) e = more (λ g. refl) (alike_same looks xs (omega arith))
  alike_same _ _ e = absurd (omega arith)

  left_length : {X : Type 0} {looks : List (List Sight)} {xs ys : List X} → Alike looks xs ys → length xs ≡ length looks
  left_length none = refl
  left_length (more e h) = ap suc (left_length h)

  right_length : {X : Type 0} {looks : List (List Sight)} {xs ys : List X} → Alike looks xs ys → length ys ≡ length looks
  right_length none = refl
  right_length (more e h) = ap suc (right_length h)

  alike_leftmost : {ls : List (List Sight)} {xs ys : List Nine} → Alike ls xs ys → Agree (leftmost [] ls) → leftmost Zero xs ≡ leftmost Zero ys
  alike_leftmost none g = refl
  alike_leftmost (more e h) g = e g

  alike_shifted : (by : Shifting) (count : ℕ) {ls : List (List Sight)} {xs ys : List Nine} → Alike ls xs ys → Alike (shifted_of [] by count ls) (shifted_of Zero by count xs) (shifted_of Zero by count ys)
  alike_shifted Left count h = alike_drop count (alike_append h (alike_replicate count [] Zero Zero (λ g. refl)))
  alike_shifted Right count {ls} h = rw (left_length h, right_length h) (alike_take (length ls) (alike_append (alike_replicate count [] Zero Zero (λ g. refl)) h))
  alike_shifted RightSigned count {ls} {xs} {ys} h =
      rw (left_length h, right_length h) (alike_take (length ls) (alike_append (alike_replicate count (leftmost [] ls) (leftmost Zero xs) (leftmost Zero ys) (alike_leftmost h)) h))
  alike_shifted RotateLeft count {ls} h = rw (left_length h, right_length h) (alike_append (alike_drop (count % length ls) h) (alike_take (count % length ls) h))

  alike_counted : (op : Counted) (count : ℕ) {ls : List (List Sight)} {xs ys : List Nine} → Alike ls xs ys → Alike (counted_of [] op count ls) (counted_of Zero op count xs) (counted_of Zero op count ys)
  alike_counted Resize count {ls} h = rw (left_length h, right_length h) (alike_append (alike_replicate (count - length ls) [] Zero Zero (λ g. refl)) (alike_drop (length ls - count) h))
  alike_counted ResizeSigned count {ls} {xs} {ys} h =
      rw (left_length h, right_length h)
      (alike_append (alike_replicate (count - (min count (length ls) - 1)) (leftmost [] ls) (leftmost Zero xs) (leftmost Zero ys) (alike_leftmost h)) (alike_drop (length ls - (min count (length ls) - 1)) h))
  alike_counted (Shift by) count h = alike_shifted by count h

  pub alike_whole : {X : Type 0} {looks : List (List Sight)} {xs ys : List X} → Alike looks xs ys → Agree (whole looks) → xs ≡ ys
  alike_whole none g = refl
  alike_whole (more {ls = l} {looks = ms} e h) g = on_both (λ x xs. x ∷ xs) (e (agree_left l (whole ms) g)) (alike_whole h (agree_right l (whole ms) g))

  pub alike_first : {X : Type 0} (d : X) {looks : List (List Sight)} {xs ys : List X} → Alike looks xs ys → Agree (slice_index_or looks 0 []) → slice_index_or xs 0 d ≡ slice_index_or ys 0 d
  alike_first d none g = refl
  alike_first d (more e h) g = e g

  operated : (op : Operator) (f : List Nine → List Nine → List Nine) → ((c d : List Nine) → length (f c d) ≡ operated_width op (length c) (length d)) → {ls rs : List (List Sight)} {xs ys us vs : List Nine} → Alike ls xs ys → Alike rs us vs
      → Alike (replicate (operated_width op (length ls) (length rs)) (whole ls ++ whole rs)) (f xs us) (f ys vs)
  operated op f long {ls} {rs} {xs} {ys} {us} {vs} h k =
      alike_each (operated_width op (length ls) (length rs)) (whole ls ++ whole rs) (f xs us) (f ys vs)
      (long xs us ∙ on_both (operated_width op) (left_length h) (left_length k))
      (long ys vs ∙ on_both (operated_width op) (right_length h) (right_length k))
      (λ g. on_both f (alike_whole h (agree_left (whole ls) (whole rs) g)) (alike_whole k (agree_right (whole ls) (whole rs) g)))

  -- ---- rows

  -- the same of rows, one by one
  data AlikeRows {X : Type 0} : List (List (List Sight)) → List (List X) → List (List X) → Type 0 where
    no_rows : AlikeRows [] [] []
    next_row : {ls : List (List Sight)} {looks : List (List (List Sight))} {x y : List X} {xs ys : List (List X)} → Alike ls x y → AlikeRows looks xs ys → AlikeRows (ls ∷ looks) (x ∷ xs) (y ∷ ys)

  -- what looks at more than it needs
  alike_left : (ls rs : List (List Sight)) {xs ys : List Nine} → length ls ≡ length rs → Alike ls xs ys → Alike (zip_with (λ l r. l ++ r) ls rs) xs ys
  alike_left [] rs e none = none
  alike_left (l ∷ ls) [] e h = absurd (omega arith)
  alike_left (l ∷ ls) (r ∷ rs) e (more d h) = more (λ g. d (agree_left l r g)) (alike_left ls rs (omega arith) h)

  alike_right : (ls rs : List (List Sight)) {xs ys : List Nine} → length ls ≡ length rs → Alike rs xs ys → Alike (zip_with (λ l r. l ++ r) ls rs) xs ys
  alike_right [] [] e none = none
  alike_right [] (r ∷ rs) e h = absurd (omega arith)
  alike_right (l ∷ ls) [] e h = absurd (omega arith)
  alike_right (l ∷ ls) (r ∷ rs) e (more d h) = more (λ g. d (agree_right l r g)) (alike_right ls rs (omega arith) h)

  -- rows of alike lists, whichever
  alike_rows : {X : Type 0} (spacing : Spacing) (ns : List ℕ) {ls : List (List Sight)} {xs ys : List X} → Alike ls xs ys → AlikeRows (map (row spacing ls) ns) (map (row spacing xs) ns) (map (row spacing ys) ns)
  alike_rows spacing [] h = no_rows
  alike_rows spacing (n ∷ ns) h = next_row (alike_take spacing.len (alike_drop (n * spacing.step) h)) (alike_rows spacing ns h)

  alike_all : {X : Type 0} (spacing : Spacing) {ls : List (List Sight)} {xs ys : List X} → Alike ls xs ys → AlikeRows (all_rows spacing ls) (all_rows spacing xs) (all_rows spacing ys)
  alike_all spacing {ls} h = rw (left_length h, right_length h) (alike_rows spacing (range_with_len 0 (row_count spacing (length ls))) h)

  length-chosen_looks : (index : List Sight) (len : ℕ) (rows : List (List (List Sight))) → All (λ r. length r ≡ len) rows → length (chosen_looks index len rows) ≡ len
  length-chosen_looks index len [] h = length-replicate len index
  length-chosen_looks index len (r ∷ rows) h =
      let here = All-head (λ r. length r ≡ len) r rows h in
      length-zip_with (λ l r. l ++ r) r (chosen_looks index len rows) (here ∙ sym (length-chosen_looks index len rows (All-tail (λ r. length r ≡ len) r rows h))) ∙ here

  as_long : (index : List Sight) (len : ℕ) (r : List (List Sight)) (rows : List (List (List Sight))) → All (λ r. length r ≡ len) (r ∷ rows) → length r ≡ length (chosen_looks index len rows)
  as_long index len r rows h = All-head (λ r. length r ≡ len) r rows h ∙ sym (length-chosen_looks index len rows (All-tail (λ r. length r ≡ len) r rows h))

  -- the row of one number
  alike_row : (index : List Sight) (len n : ℕ) {looks : List (List (List Sight))} {xs ys : List (List Nine)} → All (λ r. length r ≡ len) looks → AlikeRows looks xs ys
      → Alike (chosen_looks index len looks) (unwrap_or (slice_get xs n) (replicate len X)) (unwrap_or (slice_get ys n) (replicate len X))
  alike_row index len n long no_rows = alike_replicate len index X X (λ g. refl)
  alike_row index len zero long (next_row {ls = r} {looks = rows} h k) = alike_left r (chosen_looks index len rows) (as_long index len r rows long) h
  alike_row index len (suc n) long (next_row {ls = r} {looks = rows} h k) = alike_right r (chosen_looks index len rows) (as_long index len r rows long) (alike_row index len n (All-tail (λ r. length r ≡ len) r rows long) k)

  -- each of these looks at all that the index looks at
  abbrev Reach : List Sight → List (List Sight) → Type 0
  Reach index [] = ⊤
  Reach index (l ∷ looks) = (Agree l → Agree index) × Reach index looks

  reach_replicate : (n : ℕ) (index : List Sight) → Reach index (replicate n index)
  reach_replicate zero index = tt
  reach_replicate (suc n) index = (λ g. g, reach_replicate n index)

  reach_side : (index : List Sight) (ls rs : List (List Sight)) → Reach index rs → Reach index (zip_with (λ l r. l ++ r) ls rs)
  reach_side index [] rs h = tt
  reach_side index (l ∷ ls) [] h = tt
  reach_side index (l ∷ ls) (r ∷ rs) h = (λ g. h.0 (agree_right l r g), reach_side index ls rs h.1)

  reach_chosen : (index : List Sight) (len : ℕ) (rows : List (List (List Sight))) → Reach index (chosen_looks index len rows)
  reach_chosen index len [] = reach_replicate len index
  reach_chosen index len (r ∷ rows) = reach_side index r (chosen_looks index len rows) (reach_chosen index len rows)

  alike_head : {X : Type 0} {l : List Sight} {looks : List (List Sight)} {x y : X} {xs ys : List X} → Alike (l ∷ looks) (x ∷ xs) (y ∷ ys) → Agree l → x ≡ y
  alike_head (more e h) = e

  alike_tail : {X : Type 0} {l : List Sight} {looks : List (List Sight)} {x y : X} {xs ys : List X} → Alike (l ∷ looks) (x ∷ xs) (y ∷ ys) → Alike looks xs ys
  alike_tail (more e h) = h

  -- so the index may be taken for the same
  alike_under : (index : List Sight) (looks : List (List Sight)) (xs ys : List Nine) → length xs ≡ length looks → length ys ≡ length looks → Reach index looks → (Agree index → Alike looks xs ys) → Alike looks xs ys
  alike_under index [] [] [] p q r a = none
  alike_under index (l ∷ looks) (x ∷ xs) (y ∷ ys) p q r a =
      more (λ g. alike_head (a (r.0 g)) g) (alike_under index looks xs ys (omega arith) (omega arith) r.1 (λ g. alike_tail (a g)))
  alike_under index _ _ _ p q r a = absurd (omega arith)

  -- the row of any index
  alike_at : (index : List Sight) (len : ℕ) (number : Option ℕ) {looks : List (List (List Sight))} {xs ys : List (List Nine)} → All (λ r. length r ≡ len) looks → AlikeRows looks xs ys
      → Alike (chosen_looks index len looks) (unwrap_or (option_and_then (slice_get xs) number) (replicate len X)) (unwrap_or (option_and_then (slice_get ys) number) (replicate len X))
  alike_at index len None {looks} long h = alike_same (chosen_looks index len looks) (replicate len X) (length-replicate len X ∙ sym (length-chosen_looks index len looks long))
  alike_at index len (Some n) long h = alike_row index len n long h

  alike_chosen : (index : List Sight) (spacing : Spacing) (i j : List Nine) {ls : List (List Sight)} {xs ys : List Nine} → (Agree index → i ≡ j) → Alike ls xs ys
      → Alike (chosen_looks index spacing.len (all_rows spacing ls)) (chosen_of spacing.len (row_at spacing xs i)) (chosen_of spacing.len (row_at spacing ys j))
  alike_chosen index spacing i j {ls} {xs} {ys} e h =
      let long = length-all_rows spacing ls in
      let all = length-chosen_looks index spacing.len (all_rows spacing ls) long in
      alike_under index (chosen_looks index spacing.len (all_rows spacing ls)) _ _
      (length-at spacing.len (all_rows spacing xs) X (natural_of i) (length-all_rows spacing xs) ∙ sym all)
      (length-at spacing.len (all_rows spacing ys) X (natural_of j) (length-all_rows spacing ys) ∙ sym all)
      (reach_chosen index spacing.len (all_rows spacing ls))
      (λ g. subst (λ (k : List Nine). Alike (chosen_looks index spacing.len (all_rows spacing ls)) (chosen_of spacing.len (row_at spacing xs i)) (chosen_of spacing.len (row_at spacing ys k))) (e g)
      (alike_at index spacing.len (natural_of i) long (alike_all spacing h)))

  -- ---- values and tests

  module _ (looks : Looks) (v w : List ℕ) (known : (e : ℕ) → Agree (looks (element e)) → slice_index v e ≡ slice_index w e) where
    abbrev x : Seen
    x = record a { variables = v }

    abbrev y : Seen
    y = record b { variables = w }

    nets_alike : (ns : List ℕ) → Alike (map (λ n. net_now n ∷ []) ns) (map (element_at x.now) ns) (map (element_at y.now) ns)
    nets_alike [] = none
    nets_alike (n ∷ ns) = more (λ g. ap value_of_code (g.at (net_now n) (Contains-first (net_now n) []))) (nets_alike ns)

    elements_alike : (es : List ℕ) → Alike (map (λ e. looks (element e)) es) (map (element_at x.variables) es) (map (element_at y.variables) es)
    elements_alike [] = none
    elements_alike (e ∷ es) = more (λ g. ap value_of_code (known e g)) (elements_alike es)

    constants_alike : (vs : List Nine) → Alike (map (λ v. []) vs) vs vs
    constants_alike [] = none
    constants_alike (v ∷ vs) = more (λ g. refl) (constants_alike vs)

    pub expr_alike : (e : Expr) → Alike (expr_looks looks e) (elements_of x e) (elements_of y e)
    expr_alike (signal nets) = nets_alike nets
    expr_alike (variable es) = elements_alike es
    expr_alike (constant values) = constants_alike values
    expr_alike (inverse e) = alike_map not_of (expr_alike e)
    expr_alike (filled len e) = alike_replicate len _ _ _ (alike_first X (expr_alike e))
    expr_alike (binary (logical op) c e) = alike_side (logic_of op) (expr_alike c) (expr_alike e)
    expr_alike (binary joined c e) = alike_append (expr_alike c) (expr_alike e)
    expr_alike (binary plus c e) = operated plus sum_of length-sum_of (expr_alike c) (expr_alike e)
    expr_alike (binary minus c e) = operated minus difference_of length-difference_of (expr_alike c) (expr_alike e)
    expr_alike (binary times c e) = operated times product_of length-product_of (expr_alike c) (expr_alike e)
    expr_alike (binary (signed op) c e) = operated (signed op) (signed_of op) (length-signed_of op) (expr_alike c) (expr_alike e)
    expr_alike (counted op count e) = alike_counted op count (expr_alike e)
    expr_alike (shifted by count e) =
        let h = expr_alike count in
        let k = expr_alike e in
        alike_each (length (expr_looks looks e)) (whole (expr_looks looks count) ++ whole (expr_looks looks e)) _ _
        (length-shifted_by by (elements_of x count) (elements_of x e) ∙ left_length k)
        (length-shifted_by by (elements_of y count) (elements_of y e) ∙ right_length k)
        (λ g. on_both (shifted_by by) (alike_whole h (agree_left (whole (expr_looks looks count)) (whole (expr_looks looks e)) g)) (alike_whole k (agree_right (whole (expr_looks looks count)) (whole (expr_looks looks e)) g)))
    expr_alike (converted by e) =
        let h = expr_alike e in
        alike_each (length (expr_looks looks e)) (whole (expr_looks looks e)) _ _
        (length-converted by (elements_of x e) ∙ left_length h) (length-converted by (elements_of y e) ∙ right_length h)
        (λ g. ap (numbers.converted by) (alike_whole h g))
    expr_alike (chosen index spacing rows) =
        alike_chosen (whole (expr_looks looks index)) spacing (elements_of x index) (elements_of y index) (alike_whole (expr_alike index)) (expr_alike rows)

    pub value_alike : (c : Value) → Alike (value_looks looks c) (value_of x c) (value_of y c)
    value_alike (elements e) = alike_map code_of (expr_alike e)
    value_alike (position n) = more (λ g. refl) none
    value_alike (position_of net) = more (λ g. g.at (net_now net) (Contains-first (net_now net) [])) none
    value_alike (position_in e) = more (known e) none

    both_alike : {C : Type 0} (f : List ℕ → List ℕ → C) (v w : Value) → Agree (whole (value_looks looks v) ++ whole (value_looks looks w)) → f (value_of x v) (value_of x w) ≡ f (value_of y v) (value_of y w)
    both_alike f v w g =
        on_both f (alike_whole (value_alike v) (agree_left (whole (value_looks looks v)) (whole (value_looks looks w)) g)) (alike_whole (value_alike w) (agree_right (whole (value_looks looks v)) (whole (value_looks looks w)) g))

    event_alike : {C : Type 0} (f : ℕ → ℕ → C) (net : ℕ) → Agree (net_before net ∷ net_now net ∷ []) → f (slice_index x.before net) (slice_index x.now net) ≡ f (slice_index y.before net) (slice_index y.now net)
    event_alike f net g = on_both f (g.at (net_before net) (Contains-first (net_before net) (net_now net ∷ []))) (g.at (net_now net) (1, omega arith, refl))

    pub test_alike : (t : Test) → Agree (test_looks looks t) → is_met x t ≡ is_met y t
    test_alike (condition e) g = ap (λ (vs : List Nine). is_true (slice_index_or vs 0 X)) (alike_whole (expr_alike e) g)
    test_alike (decided c) g = refl
    test_alike (equal v w) g = both_alike same v w g
    test_alike (unequal v w) g = both_alike (λ p q. not (same p q)) v w g
    test_alike (level plain net v) g = ap (λ (n : ℕ). is_same (value_of_code n) v) (g.at (net_now net) (Contains-first (net_now net) []))
    test_alike (compared op c e) g =
        on_both (compares op) (alike_whole (expr_alike c) (agree_left (whole (expr_looks looks c)) (whole (expr_looks looks e)) g)) (alike_whole (expr_alike e) (agree_right (whole (expr_looks looks c)) (whole (expr_looks looks e)) g))
    test_alike (compared_to op e m) g = ap (λ (vs : List Nine). compares_number op vs m) (alike_whole (expr_alike e) g)
    test_alike (rising net) g = event_alike (λ p q. has_edge Rising (value_of_code p) (value_of_code q)) net g
    test_alike (falling net) g = event_alike (λ p q. has_edge Falling (value_of_code p) (value_of_code q)) net g
    test_alike (event net) g = event_alike (λ p q. not (p == q)) net g
    test_alike (negated t) g = ap not (test_alike t g)
    test_alike (combined op s t) g =
        on_both (truth op) (test_alike s (agree_left (test_looks looks s) (test_looks looks t) g)) (test_alike t (agree_right (test_looks looks s) (test_looks looks t) g))
