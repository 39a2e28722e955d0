-- The looks of a value's elements.
use Rattle.std.proofs.Common.{◌≡◌, ℕ, zero, suc, ◌+◌, ◌-◌, ◌*◌, ◌%◌, ◌<◌, ◌≤◌, min, List, [], ◌∷◌, ◌++◌, length, get_or, take, drop, map, replicate, Option, None, refl, sym, ap, ◌∙◌, subst, add-one, arith, drop-cons}
use Rattle.std.proofs.lemmas.List.{take_more, take_all, append-nil}
use Rattle.std.proofs.lemmas.List.Concat.{flat_map-append}
use Rattle.vhdl_values.specs.declared.kinds.Counted.{Counted}
use Rattle.vhdl_values.specs.declared.kinds.Counted.TheVariants.{Resize, ResizeSigned, Shift}
use Rattle.vhdl_values.specs.declared.kinds.Shift.{Shift as Shifting}
use Rattle.vhdl_values.specs.declared.kinds.Shift.TheVariants.{Left, Right, RightSigned, RotateLeft}
use Rattle.vhdl_values.specs.Logic.{zip_with}
use Rattle.vhdl_values.specs.Shifts.{shifted_right, rotated_left, leftmost, shifted_of, counted_of}
use Rattle.rtl_model.specs.bodies.Rows.{Spacing, row, row_count, all_rows}
use Rattle.rtl_model.specs.bodies.Looks.{Sight, whole, chosen_looks}
use Rattle.rtl_model.proofs.bodies.Rows.{length-all, at_row}
use Rattle.rtl_looks.specs.declared.hubs.Look.{Look}
use Rattle.rtl_looks.specs.declared.hubs.Hub.{Hub}
use Rattle.rtl_looks.specs.Denoting.{AreInOrder, Grows, Denotes, DenoteEach, none, more}
use Rattle.rtl_looks.specs.Evaluating.{Joins, JoinsAll, Combines, Chooses}
use Rattle.rtl_looks.proofs.Joining.{later, grows_none, grows_then, nothing}

abbrev pub beside : List (List Sight) → List (List Sight) → List (List Sight)
beside = zip_with (λ l r. l ++ r)

module _ {hubs : List Hub} where
  pub order_of : {looks : List (Option Look)} {sights : List (List Sight)} → DenoteEach hubs looks sights → AreInOrder hubs
  order_of (none order) = order
  order_of (more d h) = d.order

  pub same_length : {looks : List (Option Look)} {sights : List (List Sight)} → DenoteEach hubs looks sights → length looks ≡ length sights
  same_length (none order) = refl
  same_length (more d h) = ap suc (same_length h)

  pub denotes_at : (k : ℕ) {looks : List (Option Look)} {sights : List (List Sight)} → DenoteEach hubs looks sights → Denotes hubs (get_or looks k None) (get_or sights k [])
  denotes_at k (none order) = nothing order
  denotes_at zero (more d h) = d
  denotes_at (suc k) (more d h) = denotes_at k h

  pub each_append : {ls rs : List (Option Look)} {xs ys : List (List Sight)} → DenoteEach hubs ls xs → DenoteEach hubs rs ys → DenoteEach hubs (ls ++ rs) (xs ++ ys)
  each_append (none order) k = k
  each_append (more d h) k = more d (each_append h k)

  pub each_push : {ls : List (Option Look)} {xs : List (List Sight)} {look : Option Look} {sights : List Sight} → DenoteEach hubs ls xs → Denotes hubs look sights
      → DenoteEach hubs (ls ++ look ∷ []) (xs ++ sights ∷ [])
  each_push h d = each_append h (more d (none d.order))

  pub each_replicate : (n : ℕ) {look : Option Look} {sights : List Sight} → Denotes hubs look sights → DenoteEach hubs (replicate n look) (replicate n sights)
  each_replicate zero d = none d.order
  each_replicate (suc n) d = more d (each_replicate n d)

  each_drop : (n : ℕ) {ls : List (Option Look)} {xs : List (List Sight)} → DenoteEach hubs ls xs → DenoteEach hubs (drop n ls) (drop n xs)
  each_drop zero h = h
  each_drop (suc n) (none order) = none order
  each_drop (suc n) (more d h) = each_drop n h

  each_take : (n : ℕ) {ls : List (Option Look)} {xs : List (List Sight)} → DenoteEach hubs ls xs → DenoteEach hubs (take n ls) (take n xs)
  each_take zero h = none (order_of h)
  each_take (suc n) (none order) = none order
  each_take (suc n) (more d h) = more d (each_take n h)

  sign_denotes : {ls : List (Option Look)} {xs : List (List Sight)} → DenoteEach hubs ls xs → Denotes hubs (leftmost None ls) (leftmost [] xs)
  sign_denotes (none order) = nothing order
  sign_denotes (more d h) = d

  each_right : (count : ℕ) {look : Option Look} {sights : List Sight} {ls : List (Option Look)} {xs : List (List Sight)} → Denotes hubs look sights → DenoteEach hubs ls xs
      → DenoteEach hubs (shifted_right look count ls) (shifted_right sights count xs)
  each_right count {look} {sights} {ls} {xs} d h =
      subst (λ (n : ℕ). DenoteEach hubs (shifted_right look count ls) (take n (replicate count sights ++ xs))) (same_length h)
      (each_take (length ls) (each_append (each_replicate count d) h))

  each_shifted : (by : Shifting) (count : ℕ) {ls : List (Option Look)} {xs : List (List Sight)} → DenoteEach hubs ls xs
      → DenoteEach hubs (shifted_of None by count ls) (shifted_of [] by count xs)
  each_shifted Left count h = each_drop count (each_append h (each_replicate count (nothing (order_of h))))
  each_shifted Right count h = each_right count (nothing (order_of h)) h
  each_shifted RightSigned count h = each_right count (sign_denotes h) h
  each_shifted RotateLeft count {ls} {xs} h =
      subst (λ (n : ℕ). DenoteEach hubs (rotated_left count ls) (drop (count % n) xs ++ take (count % n) xs)) (same_length h)
      (each_append (each_drop (count % length ls) h) (each_take (count % length ls) h))

  pub each_counted : (op : Counted) (count : ℕ) {ls : List (Option Look)} {xs : List (List Sight)} → DenoteEach hubs ls xs
      → DenoteEach hubs (counted_of None op count ls) (counted_of [] op count xs)
  each_counted Resize count {ls} {xs} h =
      subst (λ (n : ℕ). DenoteEach hubs (counted_of None Resize count ls) (replicate (count - n) [] ++ drop (n - count) xs)) (same_length h)
      (each_append (each_replicate (count - length ls) (nothing (order_of h))) (each_drop (length ls - count) h))
  each_counted ResizeSigned count {ls} {xs} h =
      subst
      (λ (n : ℕ). DenoteEach hubs (counted_of None ResizeSigned count ls)
      (replicate (count - (min count n - 1)) (leftmost [] xs) ++ drop (n - (min count n - 1)) xs)) (same_length h)
      (each_append (each_replicate (count - (min count (length ls) - 1)) (sign_denotes h)) (each_drop (length ls - (min count (length ls) - 1)) h))
  each_counted (Shift by) count h = each_shifted by count h

  pub each_map : {X : Type 0} (f : X → Option Look) (g : X → List Sight) → AreInOrder hubs → ((x : X) → Denotes hubs (f x) (g x)) → (xs : List X)
      → DenoteEach hubs (map f xs) (map g xs)
  each_map f g order d [] = none order
  each_map f g order d (x ∷ xs) = more (d x) (each_map f g order d xs)

pub each_later : {old new : List Hub} {looks : List (Option Look)} {sights : List (List Sight)} → Grows old new → AreInOrder new → DenoteEach old looks sights → DenoteEach new looks sights
each_later g order (none o) = none order
each_later g order (more d h) = more (later g order d) (each_later g order h)

-- ---- all joined, one after another

whole_more : (sights : List (List Sight)) (i : ℕ) → i < length sights → whole (take i sights) ++ get_or sights i [] ≡ whole (take (i + 1) sights)
whole_more sights i l =
    sym (ap whole (take_more sights i [] l) ∙ (flat_map-append (λ s. s) (take i sights) (get_or sights i [] ∷ []) ∙ ap (λ (s : List Sight). whole (take i sights) ++ s) (append-nil (get_or sights i []))))

-- the first so many of these looks are joined
pub record JoinsSome (old new : List Hub) (looks : List (Option Look)) (i : ℕ) (joined : Option Look) : Type 0 where
  pub grows : Grows old new
  pub denotes : (sights : List (List Sight)) → DenoteEach old looks sights → Denotes new joined (whole (take i sights))

pub joins_none : (hubs : List Hub) (looks : List (Option Look)) → JoinsSome hubs hubs looks 0 None
joins_none hubs looks = record { grows = grows_none hubs; denotes = λ sights h. nothing (order_of h) }

pub joins_more : {old mid new : List Hub} {looks : List (Option Look)} {i : ℕ} {before joined : Option Look} (look : Option Look) → i < length looks → look ≡ get_or looks i None
    → JoinsSome old mid looks i before → Joins mid new before look joined → JoinsSome old new looks (i + 1) joined
joins_more {old} {mid} {new} {looks} {i} {before} {joined} look l is h j = record {
  grows = grows_then h.grows j.grows;
  denotes = λ sights each.
      let so_far = h.denotes sights each in
      let one : Denotes old look (get_or sights i []) = subst (λ (o : Option Look). Denotes old o (get_or sights i [])) (sym is) (denotes_at i each) in
      subst (λ (s : List Sight). Denotes new joined s) (whole_more sights i (subst (λ (n : ℕ). i < n) (same_length each) l))
      (j.denotes (whole (take i sights)) (get_or sights i []) so_far (later h.grows so_far.order one));
}

pub joins_all : {old new : List Hub} {looks : List (Option Look)} {i : ℕ} {joined : Option Look} → length looks ≤ i → JoinsSome old new looks i joined → JoinsAll old new looks joined
joins_all {old} {new} {looks} {i} {joined} l h = record {
  grows = h.grows;
  denotes = λ sights each.
      subst (λ (s : List (List Sight)). Denotes new joined (whole s)) (take_all i sights (subst (λ (n : ℕ). n ≤ i) (same_length each) l)) (h.denotes sights each);
}

-- ---- side by side

zip_more : (i : ℕ) (ls rs : List (List Sight)) → i < length ls → i < length rs
    → beside (take i ls) (take i rs) ++ (get_or ls i [] ++ get_or rs i []) ∷ [] ≡ beside (take (suc i) ls) (take (suc i) rs)
zip_more i [] rs p q = absurd (omega arith)
zip_more i (x ∷ xs) [] p q = absurd (omega arith)
zip_more zero (x ∷ xs) (y ∷ ys) p q = refl
zip_more (suc i) (x ∷ xs) (y ∷ ys) p q = ap (λ (l : List (List Sight)). (x ++ y) ∷ l) (zip_more i xs ys (omega arith) (omega arith))

zip_all : (i : ℕ) (ls rs : List (List Sight)) → min (length ls) (length rs) ≤ i → beside (take i ls) (take i rs) ≡ beside ls rs
zip_all i [] rs l = go i
  where
    go : (i : ℕ) → beside (take i []) (take i rs) ≡ []
    go zero = refl
    go (suc i) = refl
zip_all zero (x ∷ xs) [] l = refl
zip_all (suc i) (x ∷ xs) [] l = refl
zip_all zero (x ∷ xs) (y ∷ ys) l = absurd (omega arith)
zip_all (suc i) (x ∷ xs) (y ∷ ys) l = ap (λ (l : List (List Sight)). (x ++ y) ∷ l) (zip_all i xs ys (omega arith))

-- the first so many of two values' elements
pub record Besides (old new : List Hub) (left right : List (Option Look)) (i : ℕ) (looks : List (Option Look)) : Type 0 where
  pub grows : Grows old new
  pub each : (ls rs : List (List Sight)) → DenoteEach old left ls → DenoteEach old right rs → DenoteEach new looks (beside (take i ls) (take i rs))

pub besides_none : (hubs : List Hub) (left right : List (Option Look)) → Besides hubs hubs left right 0 []
besides_none hubs left right = record { grows = grows_none hubs; each = λ ls rs a b. none (order_of a) }

pub besides_more : {old mid new : List Hub} {left right looks : List (Option Look)} {i : ℕ} {joined : Option Look} (l r : Option Look) → i < length left → i < length right
    → l ≡ get_or left i None → r ≡ get_or right i None → Besides old mid left right i looks → Joins mid new l r joined → Besides old new left right (i + 1) (looks ++ joined ∷ [])
besides_more {old} {mid} {new} {left} {right} {looks} {i} {joined} l r p q is_l is_r h j = record {
  grows = grows_then h.grows j.grows;
  each = λ ls rs a b.
      let so_far = h.each ls rs a b in
      let dl : Denotes old l (get_or ls i []) = subst (λ (o : Option Look). Denotes old o (get_or ls i [])) (sym is_l) (denotes_at i a) in
      let dr : Denotes old r (get_or rs i []) = subst (λ (o : Option Look). Denotes old o (get_or rs i [])) (sym is_r) (denotes_at i b) in
      let order = order_of so_far in
      let d = j.denotes (get_or ls i []) (get_or rs i []) (later h.grows order dl) (later h.grows order dr) in
      let long_l = same_length a in
      let long_r = same_length b in
      subst (λ (s : List (List Sight)). DenoteEach new (looks ++ joined ∷ []) s) (zip_next ls rs (omega arith) (omega arith)) (each_push (each_later j.grows d.order so_far) d);
}
  where
    zip_next : (ls rs : List (List Sight)) → i < length ls → i < length rs → beside (take i ls) (take i rs) ++ (get_or ls i [] ++ get_or rs i []) ∷ [] ≡ beside (take (i + 1) ls) (take (i + 1) rs)
    zip_next ls rs a b = rw add-one (zip_more i ls rs a b)

pub besides_all : {old new : List Hub} {left right looks : List (Option Look)} {i : ℕ} → min (length left) (length right) ≤ i → Besides old new left right i looks
    → Combines beside old new left right looks
besides_all {old} {new} {left} {right} {looks} {i} l h = record {
  grows = h.grows;
  each = λ ls rs a b.
      let long_l = same_length a in
      let long_r = same_length b in
      subst (λ (s : List (List Sight)). DenoteEach new looks s) (zip_all i ls rs (omega arith)) (h.each ls rs a b);
}

-- ---- rows

rows_from : (spacing : Spacing) (rows : List (List Sight)) (k : ℕ) → k < row_count spacing (length rows)
    → drop k (all_rows spacing rows) ≡ row spacing rows k ∷ drop (k + 1) (all_rows spacing rows)
rows_from spacing rows k below =
    drop-cons (all_rows spacing rows) k [] (omega (arith, below, length-all spacing rows))
    ∙ (ap (λ (r : List (List Sight)). r ∷ drop (suc k) (all_rows spacing rows)) (at_row spacing rows k [] below)
    ∙ ap (λ (n : ℕ). row spacing rows k ∷ drop n (all_rows spacing rows)) (sym (add-one k)))

rows_past : (rows : List (List (List Sight))) (k : ℕ) → length rows ≤ k → drop k rows ≡ []
rows_past [] zero l = refl
rows_past [] (suc k) l = refl
rows_past (r ∷ rows) zero l = absurd (omega arith)
rows_past (r ∷ rows) (suc k) l = rows_past rows k (omega arith)

-- the elements of the row that an index chooses, as far as it is one from this one on
pub record ChoosesFrom (spacing : Spacing) (index : Option Look) (looks : List (Option Look)) (old new : List Hub) (left : ℕ) (columns : List (Option Look)) : Type 0 where
  pub grows : Grows old new
  pub each : (sights : List Sight) (rows : List (List Sight)) → Denotes old index sights → DenoteEach old looks rows
      → DenoteEach new columns (chosen_looks sights spacing.len (drop left (all_rows spacing rows)))

pub chooses_none : (spacing : Spacing) (hubs : List Hub) (index : Option Look) (looks : List (Option Look))
    → ChoosesFrom spacing index looks hubs hubs (row_count spacing (length looks)) (replicate spacing.len index)
chooses_none spacing hubs index looks = record {
  grows = grows_none hubs;
  each = λ sights rows d h.
      let past : length (all_rows spacing rows) ≤ row_count spacing (length looks) = (rw (same_length h) (let l = length-all spacing rows in omega arith)) in
      subst (λ (rs : List (List (List Sight))). DenoteEach hubs (replicate spacing.len index) (chosen_looks sights spacing.len rs)) (sym (rows_past (all_rows spacing rows) _ past))
      (each_replicate spacing.len d);
}

pub chooses_more : {old mid new : List Hub} {index : Option Look} {looks columns result : List (Option Look)} (spacing : Spacing) (k : ℕ) → k < row_count spacing (length looks)
    → ChoosesFrom spacing index looks old mid (k + 1) columns → Combines beside mid new (row spacing looks k) columns result → ChoosesFrom spacing index looks old new k result
chooses_more {old} {mid} {new} {index} {looks} {columns} {result} spacing k below h c = record {
  grows = grows_then h.grows c.grows;
  each = λ sights rows d e.
      let so_far = h.each sights rows d e in
      let part : DenoteEach old (row spacing looks k) (row spacing rows k) = each_take spacing.len (each_drop (k * spacing.step) e) in
      subst (λ (rs : List (List (List Sight))). DenoteEach new result (chosen_looks sights spacing.len rs))
      (sym (rows_from spacing rows k (subst (λ (n : ℕ). k < row_count spacing n) (same_length e) below)))
      (c.each (row spacing rows k) (chosen_looks sights spacing.len (drop (k + 1) (all_rows spacing rows))) (each_later h.grows (order_of so_far) part) so_far);
}

pub chooses_all : {old new : List Hub} {index : Option Look} {looks columns : List (Option Look)} (spacing : Spacing) → ChoosesFrom spacing index looks old new 0 columns → Chooses spacing index looks old new columns
chooses_all spacing h = record { grows = h.grows; each = h.each }
