-- Runs that see the same where a driver looks have the same entry for it.
use Rattle.std.proofs.Common.{◌≡◌, ℕ, Bool, true, false, cond, ◌==◌, List, [], ◌∷◌, ◌++◌, Option, Some, None}
use Rattle.std.proofs.Common.{length, drop, slice_index, slice_index_or, slice_set, refl, sym, ap, ◌∙◌, ◌⊎◌, inl, inr}
use Rattle.std.specs.Prelude.{flat_map, map, replicate, slice_get, option_and_then}
use Rattle.std.specs.List.{list_any}
use Rattle.std.proofs.Common.{zero, suc, subst}
use Rattle.vhdl_values.specs.declared.scalar.Nine.TheVariants.{X}
use Rattle.vhdl_values.specs.Scalar.{code_of}
use Rattle.vhdl_numbers.specs.Counts.{natural_of}
use Rattle.std.proofs.lemmas.Bool.{eqb-true}
use Rattle.std.proofs.lemmas.List.{get_or-set_other, length-set}
use Rattle.rtl_model.specs.basics.Valuations.{or_else}
use Rattle.rtl_model.specs.bodies.Body.{Stmt, null_of, assign, set, assign_at, set_at, if_of, case_of, Stmts, done, step}
use Rattle.rtl_model.specs.bodies.Body.{decided, Branches, no_else, otherwise, branch, Alternatives, others, alternative}
use Rattle.rtl_model.specs.bodies.Rows.{Spacing, all_rows, row_at}
use Rattle.rtl_model.specs.bodies.Values.{Seen, targets_at, given_at, elements_of, value_of}
use Rattle.rtl_model.specs.bodies.Tests.{same, is_met}
use Rattle.rtl_model.specs.bodies.Variables.{variables_after, branches_variables, alternatives_variables}
use Rattle.rtl_model.specs.bodies.Effect.{Entries, no_entries, later_over, effect, branches_effect, alternatives_effect}
use Rattle.rtl_model.specs.bodies.Assigns.{Target, driver, element}
use Rattle.rtl_model.specs.bodies.Looks.{Sight, element_kept, Looks, first_looks, whole, expr_looks, value_looks, test_looks}
use Rattle.rtl_model.specs.bodies.Looks.{replaced, put, put_rows, stmt_looks, body_looks, branches_look, alternatives_look}
use Rattle.rtl_model.specs.bodies.Laws.{EachLooks}
use Rattle.rtl_model.proofs.basics.Lists.{Contains-first}
use Rattle.rtl_model.proofs.bodies.Sequences.{or_else-none}
use Rattle.rtl_model.proofs.bodies.Agreeing.{Agree, agree_left, agree_right, Alike, alike_whole, alike_first, alike_drop, alike_map, alike_replicate, expr_alike, value_alike, test_alike}
use Rattle.rtl_model.proofs.bodies.DoneSoFar.{Done, held, sees, stmt_done, body_done, branches_done, alternatives_done, either_done, places_done, elements_done, held_none, held_next, place_done, element_done, held_places, other_element, set_same}

module _ (a b : Seen) where
  -- ---- what a part of a body may touch

  -- A target looks at the conditions round the part, or it is as it was before it.
  abbrev Touched : List Sight → (before after : List Sight) → (old new : Option ℕ) → Type 0
  Touched round before after old new = (Agree a b after → Agree a b round) ⊎ ((Agree a b after → Agree a b before) × (new ≡ old))

  record Touches (round : List Sight) (looks looks' : Looks) (d d' : Done) : Type 0 where
    as_many : length d'.variables ≡ length d.variables
    at : (t : Target) → Touched round (looks t) (looks' t) (held d t) (held d' t)

  touches_none : (round : List Sight) (looks : Looks) (d : Done) → Touches round looks looks d (record d { entered = later_over no_entries d.entered })
  touches_none round looks d = record { as_many = refl; at = λ t. inr (λ g. g, held_none d d.variables t) }

  touched_then : {round r0 r1 r2 : List Sight} {o0 o1 o2 : Option ℕ} → Touched round r0 r1 o0 o1 → Touched round r1 r2 o1 o2 → Touched round r0 r2 o0 o2
  touched_then h (inl c) = inl c
  touched_then (inl c) (inr k) = inl (λ g. c (k.0 g))
  touched_then (inr h) (inr k) = inr (λ g. h.0 (k.0 g), k.1 ∙ h.1)

  -- the same, where what is new is told in another way, by more conditions, or where the target looks at more
  touched_as : {round r0 r1 : List Sight} {o0 o1 o2 : Option ℕ} → o2 ≡ o1 → Touched round r0 r1 o0 o1 → Touched round r0 r1 o0 o2
  touched_as e (inl c) = inl c
  touched_as e (inr k) = inr (k.0, e ∙ k.1)

  touched_more : {round r0 r1 r2 : List Sight} {o0 o1 : Option ℕ} → (Agree a b r2 → Agree a b r1) → Touched round r0 r1 o0 o1 → Touched round r0 r2 o0 o1
  touched_more m (inl c) = inl (λ g. c (m g))
  touched_more m (inr k) = inr (λ g. k.0 (m g), k.1)

  touches_fewer : (round tests : List Sight) {looks looks' : Looks} {d d' : Done} → Touches (round ++ tests) looks looks' d d' → Touches round looks looks' d d'
  touches_fewer round tests {looks} {looks'} {d} {d'} h = record { as_many = h.as_many; at = λ t. go (h.at t) }
    where
      go : {r0 r1 : List Sight} {o0 o1 : Option ℕ} → Touched (round ++ tests) r0 r1 o0 o1 → Touched round r0 r1 o0 o1
      go (inl c) = inl (λ g. agree_left a b round tests (c g))
      go (inr k) = inr k

  touches_place : (round sights : List Sight) (looks : Looks) (p x : ℕ) (d : Done) → Touches round looks (replaced (driver p) (round ++ sights) looks) d (place_done p x d)
  touches_place round sights looks p x d = record { as_many = refl; at = at }
    where
      go : (q : ℕ) (same : Bool) → Touched round (looks (driver q)) (cond same (round ++ sights) (looks (driver q))) (d.entered q) (or_else (cond same (Some x) None) (d.entered q))
      go q true = inl (agree_left a b round sights)
      go q false = inr (λ g. g, refl)

      at : (t : Target) → Touched round (looks t) (replaced (driver p) (round ++ sights) looks t) (held d t) (held (place_done p x d) t)
      at (driver q) = go q (p == q)
      at (element e) = inr (λ g. g, refl)

  touches_element : (round sights : List Sight) (looks : Looks) (c x : ℕ) (d : Done) → Touches round looks (replaced (element c) (round ++ sights) looks) d (element_done c x d)
  touches_element round sights looks c x d = record { as_many = length-set d.variables c x; at = at }
    where
      go : (e : ℕ) (same : Bool) → c == e ≡ same → Touched round (looks (element e)) (cond same (round ++ sights) (looks (element e))) (Some (slice_index d.variables e)) (Some (slice_index (slice_set d.variables c x) e))
      go e true is = inl (agree_left a b round sights)
      go e false is = inr (λ g. g, ap (λ (n : ℕ). Some n) (get_or-set_other d.variables c e x 0 (other_element c e is)))

      at : (t : Target) → Touched round (looks t) (replaced (element c) (round ++ sights) looks t) (held d t) (held (element_done c x d) t)
      at (driver q) = inr (λ g. g, refl)
      at (element e) = go e (c == e) refl

  touches_places : (round : List Sight) (ps : List ℕ) (ls : List (List Sight)) (values : List ℕ) (looks : Looks) (d : Done) → Touches round looks (put driver round ps ls looks) d (places_done ps values d)
  touches_places round [] ls values looks d = touches_none round looks d
  touches_places round (p ∷ ps) ls values looks d =
      let first = touches_place round (slice_index_or ls 0 []) looks p (slice_index values 0) d in
      let rest = touches_places round ps (drop 1 ls) (drop 1 values) (replaced (driver p) (round ++ slice_index_or ls 0 []) looks) (place_done p (slice_index values 0) d) in
      record { as_many = refl; at = λ t. touched_as (held_places p ps values d t) (touched_then (first.at t) (rest.at t)) }

  touches_elements : (round : List Sight) (es : List ℕ) (ls : List (List Sight)) (values : List ℕ) (looks : Looks) (d : Done) → Touches round looks (put element round es ls looks) d (elements_done es values d)
  touches_elements round [] ls values looks d = touches_none round looks d
  touches_elements round (e ∷ es) ls values looks d =
      let first = touches_element round (slice_index_or ls 0 []) looks e (slice_index values 0) d in
      let rest = touches_elements round es (drop 1 ls) (drop 1 values) (replaced (element e) (round ++ slice_index_or ls 0 []) looks) (element_done e (slice_index values 0) d) in
      record { as_many = rest.as_many ∙ first.as_many; at = λ t. touched_then (first.at t) (rest.at t) }

  -- ---- rows: a target looks at what it would look at behind an assignment to any of them, or of X to all

  agree_row : (f : List ℕ → List Sight) (rows : List (List ℕ)) (n : ℕ) (row : List ℕ) → slice_get rows n ≡ Some row → Agree a b (flat_map f rows) → Agree a b (f row)
  agree_row f [] n row e g = absurd cc
  agree_row f (r ∷ rows) zero row e g = subst (λ (x : List ℕ). Agree a b (f x)) (let s : r ≡ row = cc in s) (agree_left a b (f r) (flat_map f rows) g)
  agree_row f (r ∷ rows) (suc n) row e g = agree_row f rows n row e (agree_right a b (f r) (flat_map f rows) g)

  module _ (at : ℕ → Target) (round : List Sight) (spacing : Spacing) (rows : List ℕ) (ls : List (List Sight)) (looks : Looks) (t : Target) where
    abbrev at_all : List Sight
    at_all = put at round rows (replicate (length rows) []) looks t

    abbrev at_each : List Sight
    at_each = flat_map (λ row. put at round row ls looks t) (all_rows spacing rows)

    agree_all : Agree a b (put_rows at round spacing rows ls looks t) → Agree a b at_all
    agree_all g = agree_left a b at_all at_each (agree_right a b (looks t) (at_all ++ at_each) g)

    agree_one : (n : ℕ) (row : List ℕ) → slice_get (all_rows spacing rows) n ≡ Some row → Agree a b (put_rows at round spacing rows ls looks t) → Agree a b (put at round row ls looks t)
    agree_one n row e g = agree_row (λ r. put at round r ls looks t) (all_rows spacing rows) n row e (agree_right a b at_all at_each (agree_right a b (looks t) (at_all ++ at_each) g))

  -- a row that an index chose, or none
  data Chosen (rows : List (List ℕ)) (o : Option (List ℕ)) : Type 0 where
    no_row : o ≡ None → Chosen rows o
    one_row : (n : ℕ) (row : List ℕ) → slice_get rows n ≡ Some row → o ≡ Some row → Chosen rows o

  chosen_row : (rows : List (List ℕ)) (p : Option ℕ) → Chosen rows (option_and_then (slice_get rows) p)
  chosen_row rows None = no_row refl
  chosen_row rows (Some n) = go (slice_get rows n) refl
    where
      go : (o : Option (List ℕ)) → slice_get rows n ≡ o → Chosen rows (slice_get rows n)
      go None e = no_row e
      go (Some row) e = one_row n row e e

  module _ (at : ℕ → Target) (putting : (places values : List ℕ) → Done → Done)
      (touching : (round : List Sight) (ps : List ℕ) (ls : List (List Sight)) (values : List ℕ) (looks : Looks) (d : Done) → Touches round looks (put at round ps ls looks) d (putting ps values d)) where
    touches_chosen : (round : List Sight) (spacing : Spacing) (rows : List ℕ) (ls : List (List Sight)) (o : Option (List ℕ)) → Chosen (all_rows spacing rows) o → (values : List ℕ) (looks : Looks) (d : Done)
        → Touches round looks (put_rows at round spacing rows ls looks) d (putting (targets_at rows o) (given_at rows o values) d)
    touches_chosen round spacing rows ls o (one_row n row e is) values looks d =
        let h = touching round row ls values looks d in
        rw is (record { as_many = h.as_many; at = λ t. touched_more (agree_one at round spacing rows ls looks t n row e) (h.at t) })
    touches_chosen round spacing rows ls o (no_row is) values looks d =
        let h = touching round rows (replicate (length rows) []) (replicate (length rows) (code_of X)) looks d in
        rw is (record { as_many = h.as_many; at = λ t. touched_more (agree_all at round spacing rows ls looks t) (h.at t) })

  -- one of two branches
  touches_either : (m : Bool) {round : List Sight} {looks l1 l2 : Looks} (f g : Entries) (v w : List ℕ) (d : Done)
      → Touches round looks l1 d (record { entered = later_over f d.entered; variables = v }) → Touches round looks l2 d (record { entered = later_over g d.entered; variables = w })
      → Touches round looks (λ t. l1 t ++ l2 t) d (either_done m f g v w d)
  touches_either true {l1 = l1} {l2 = l2} f g v w d h k = record { as_many = h.as_many; at = λ t. touched_more (agree_left a b (l1 t) (l2 t)) (h.at t) }
  touches_either false {l1 = l1} {l2 = l2} f g v w d h k = record { as_many = k.as_many; at = λ t. touched_more (agree_right a b (l1 t) (l2 t)) (k.at t) }

  module _ (x : Seen) where
    mutual
      stmt_touches : (s : Stmt) (round : List Sight) (looks : Looks) (d : Done) → Touches round looks (stmt_looks round looks s) d (stmt_done x s d)
      stmt_touches null_of round looks d = touches_none round looks d
      stmt_touches (assign places v) round looks d = touches_places round places (value_looks looks v) (value_of (sees x d) v) looks d
      stmt_touches (set es v) round looks d = touches_elements round es (value_looks looks v) (value_of (sees x d) v) looks d
      stmt_touches (assign_at index spacing places e) round looks d =
          touches_fewer round (whole (expr_looks looks index))
          (touches_chosen driver places_done touches_places (round ++ whole (expr_looks looks index)) spacing places (expr_looks looks e) _
          (chosen_row (all_rows spacing places) (natural_of (elements_of (sees x d) index))) (map code_of (elements_of (sees x d) e)) looks d)
      stmt_touches (set_at index spacing es e) round looks d =
          touches_fewer round (whole (expr_looks looks index))
          (touches_chosen element elements_done touches_elements (round ++ whole (expr_looks looks index)) spacing es (expr_looks looks e) _
          (chosen_row (all_rows spacing es) (natural_of (elements_of (sees x d) index))) (map code_of (elements_of (sees x d) e)) looks d)
      stmt_touches (if_of bs) round looks d = branches_touch bs round looks d
      stmt_touches (case_of v alts) round looks d =
          touches_fewer round (whole (value_looks looks v)) (alternatives_touch alts (value_of (sees x d) v) (round ++ whole (value_looks looks v)) looks d)

      body_touches : (s : Stmts) (round : List Sight) (looks : Looks) (d : Done) → Touches round looks (body_looks round looks s) d (body_done x s d)
      body_touches done round looks d = touches_none round looks d
      body_touches (step s rest) round looks d =
          let first = stmt_touches s round looks d in
          let later = body_touches rest round (stmt_looks round looks s) (stmt_done x s d) in
          record { as_many = later.as_many ∙ first.as_many; at = λ t. touched_as (held_next x s rest d t) (touched_then (first.at t) (later.at t)) }

      branches_touch : (bs : Branches) (round : List Sight) (looks : Looks) (d : Done) → Touches round looks (branches_look round looks bs) d (branches_done x bs d)
      branches_touch no_else round looks d = touches_none round looks d
      branches_touch (otherwise s) round looks d = body_touches s round looks d
      branches_touch (branch (decided true) s bs) round looks d = body_touches s round looks d
      branches_touch (branch (decided false) s bs) round looks d = branches_touch bs round looks d
      branches_touch (branch t s bs) round looks d =
          touches_fewer round (test_looks looks t) (touches_either (is_met (sees x d) t) (effect (sees x d) s) (branches_effect (sees x d) bs) (variables_after (sees x d) s) (branches_variables (sees x d) bs) d (body_touches s (round ++ test_looks looks t) looks d) (branches_touch bs (round ++ test_looks looks t) looks d))

      alternatives_touch : (alts : Alternatives) (value : List ℕ) (round : List Sight) (looks : Looks) (d : Done) → Touches round looks (alternatives_look round looks alts) d (alternatives_done x value alts d)
      alternatives_touch (others s) value round looks d = body_touches s round looks d
      alternatives_touch (alternative choices s alts) value round looks d = touches_either (list_any (same value) choices) (effect (sees x d) s) (alternatives_effect (sees x d) value alts) (variables_after (sees x d) s) (alternatives_variables (sees x d) value alts) d (body_touches s round looks d) (alternatives_touch alts value round looks d)

  -- ---- what is known of both runs

  record Known (looks : Looks) (d d' : Done) : Type 0 where
    as_many : length d.variables ≡ length d'.variables
    at : (t : Target) → Agree a b (looks t) → held d t ≡ held d' t

  of_elements : {looks : Looks} {d d' : Done} → Known looks d d' → (e : ℕ) → Agree a b (looks (element e)) → slice_index d.variables e ≡ slice_index d'.variables e
  of_elements K e g = let h = K.at (element e) g in cc

  known_place : (round sights : List Sight) {looks : Looks} {d d' : Done} (p x y : ℕ) → (Agree a b sights → x ≡ y) → Known looks d d' → Known (replaced (driver p) (round ++ sights) looks) (place_done p x d) (place_done p y d')
  known_place round sights {looks} {d} {d'} p x y e K = record { as_many = K.as_many; at = at }
    where
      go : (q : ℕ) (same : Bool) → Agree a b (cond same (round ++ sights) (looks (driver q))) → or_else (cond same (Some x) None) (d.entered q) ≡ or_else (cond same (Some y) None) (d'.entered q)
      go q true g = ap (λ (n : ℕ). Some n) (e (agree_right a b round sights g))
      go q false g = K.at (driver q) g

      at : (t : Target) → Agree a b (replaced (driver p) (round ++ sights) looks t) → held (place_done p x d) t ≡ held (place_done p y d') t
      at (driver q) g = go q (p == q) g
      at (element c) g = K.at (element c) g

  known_element : (round sights : List Sight) {looks : Looks} {d d' : Done} (c x y : ℕ) → (Agree a b sights → x ≡ y) → Known looks d d' → Known (replaced (element c) (round ++ sights) looks) (element_done c x d) (element_done c y d')
  known_element round sights {looks} {d} {d'} c x y e K = record { as_many = length-set d.variables c x ∙ K.as_many ∙ sym (length-set d'.variables c y); at = at }
    where
      go : (k : ℕ) (same : Bool) → c == k ≡ same → Agree a b (cond same (round ++ sights) (looks (element k))) → slice_index (slice_set d.variables c x) k ≡ slice_index (slice_set d'.variables c y) k
      go k true is g =
          let here : c ≡ k = eqb-true c k is in
          ap (λ (n : ℕ). slice_index (slice_set d.variables c x) n) (sym here) ∙ set_same d.variables d'.variables c x K.as_many
          ∙ ap (λ (n : ℕ). slice_index (slice_set d'.variables c n) c) (e (agree_right a b round sights g)) ∙ ap (λ (n : ℕ). slice_index (slice_set d'.variables c y) n) here
      go k false is g = get_or-set_other d.variables c k x 0 (other_element c k is) ∙ of_elements K k g ∙ sym (get_or-set_other d'.variables c k y 0 (other_element c k is))

      at : (t : Target) → Agree a b (replaced (element c) (round ++ sights) looks t) → held (element_done c x d) t ≡ held (element_done c y d') t
      at (driver q) g = K.at (driver q) g
      at (element k) g = ap (λ (n : ℕ). Some n) (go k (c == k) refl g)

  known_places : (round : List Sight) (ps : List ℕ) {ls : List (List Sight)} {xs ys : List ℕ} {looks : Looks} {d d' : Done} → Alike a b ls xs ys → Known looks d d' → Known (put driver round ps ls looks) (places_done ps xs d) (places_done ps ys d')
  known_places round [] {d = d} {d' = d'} h K = record { as_many = K.as_many; at = λ t g. held_none d d.variables t ∙ K.at t g ∙ sym (held_none d' d'.variables t) }
  known_places round (p ∷ ps) {ls} {xs} {ys} {looks} {d} {d'} h K =
      let more = known_places round ps (alike_drop a b 1 h) (known_place round (slice_index_or ls 0 []) p (slice_index xs 0) (slice_index ys 0) (alike_first a b 0 h) K) in
      record { as_many = more.as_many; at = λ t g. held_places p ps xs d t ∙ more.at t g ∙ sym (held_places p ps ys d' t) }

  known_elements : (round : List Sight) (es : List ℕ) {ls : List (List Sight)} {xs ys : List ℕ} {looks : Looks} {d d' : Done} → Alike a b ls xs ys → Known looks d d' → Known (put element round es ls looks) (elements_done es xs d) (elements_done es ys d')
  known_elements round [] {d = d} {d' = d'} h K = record { as_many = K.as_many; at = λ t g. held_none d d.variables t ∙ K.at t g ∙ sym (held_none d' d'.variables t) }
  known_elements round (e ∷ es) {ls} {xs} {ys} h K =
      let more = known_elements round es (alike_drop a b 1 h) (known_element round (slice_index_or ls 0 []) e (slice_index xs 0) (slice_index ys 0) (alike_first a b 0 h) K) in
      record { as_many = more.as_many; at = more.at }

  -- rows that an index chose in both runs
  module _ (at : ℕ → Target) (putting : (places values : List ℕ) → Done → Done)
      (touching : (round : List Sight) (ps : List ℕ) (ls : List (List Sight)) (values : List ℕ) (looks : Looks) (d : Done) → Touches round looks (put at round ps ls looks) d (putting ps values d))
      (knowing : (round : List Sight) (ps : List ℕ) (ls : List (List Sight)) (xs ys : List ℕ) (looks : Looks) (d d' : Done) → Alike a b ls xs ys → Known looks d d' → Known (put at round ps ls looks) (putting ps xs d) (putting ps ys d')) where
    known_same : (round : List Sight) (spacing : Spacing) (rows : List ℕ) (o : Option (List ℕ)) {ls : List (List Sight)} {xs ys : List ℕ} {looks : Looks} {d d' : Done} → Chosen (all_rows spacing rows) o → Alike a b ls xs ys → Known looks d d'
        → (t : Target) → Agree a b (put_rows at round spacing rows ls looks t) → held (putting (targets_at rows o) (given_at rows o xs) d) t ≡ held (putting (targets_at rows o) (given_at rows o ys) d') t
    known_same round spacing rows o {ls} {xs} {ys} {looks} {d} {d'} (one_row n row e is) h K t g =
        rw is ((knowing round row ls xs ys looks d d' h K).at t (agree_one at round spacing rows ls looks t n row e g))
    known_same round spacing rows o {ls} {xs} {ys} {looks} {d} {d'} (no_row is) h K t g =
        let n = length rows in
        rw is ((knowing round rows (replicate n []) (replicate n (code_of X)) (replicate n (code_of X)) looks d d' (alike_replicate a b n [] (code_of X) (code_of X) (λ g. refl)) K).at t (agree_all at round spacing rows ls looks t g))

    known_chosen : (round : List Sight) (spacing : Spacing) (rows : List ℕ) (o p : Option (List ℕ)) {ls : List (List Sight)} {xs ys : List ℕ} {looks : Looks} {d d' : Done} → Chosen (all_rows spacing rows) o → Chosen (all_rows spacing rows) p
        → (Agree a b round → o ≡ p) → Alike a b ls xs ys → Known looks d d' → Known (put_rows at round spacing rows ls looks) (putting (targets_at rows o) (given_at rows o xs) d) (putting (targets_at rows p) (given_at rows p ys) d')
    known_chosen round spacing rows o p {ls} {xs} {ys} {looks} {d} {d'} c c' e h K =
        let first = touches_chosen at putting touching round spacing rows ls o c xs looks d in
        let other = touches_chosen at putting touching round spacing rows ls p c' ys looks d' in
        record { as_many = first.as_many ∙ K.as_many ∙ sym other.as_many; at = λ t g. go t g (first.at t) (other.at t) }
      where
        alike : (t : Target) → Agree a b (put_rows at round spacing rows ls looks t) → o ≡ p → held (putting (targets_at rows o) (given_at rows o xs) d) t ≡ held (putting (targets_at rows p) (given_at rows p ys) d') t
        alike t g same = known_same round spacing rows o c h K t g ∙ ap (λ (q : Option (List ℕ)). held (putting (targets_at rows q) (given_at rows q ys) d') t) same

        go : (t : Target) → Agree a b (put_rows at round spacing rows ls looks t)
            → Touched round (looks t) (put_rows at round spacing rows ls looks t) (held d t) (held (putting (targets_at rows o) (given_at rows o xs) d) t)
            → Touched round (looks t) (put_rows at round spacing rows ls looks t) (held d' t) (held (putting (targets_at rows p) (given_at rows p ys) d') t)
            → held (putting (targets_at rows o) (given_at rows o xs) d) t ≡ held (putting (targets_at rows p) (given_at rows p ys) d') t
        go t g (inl f) k = alike t g (e (f g))
        go t g (inr f) (inl k) = alike t g (e (k g))
        go t g (inr f) (inr k) = f.1 ∙ K.at t (f.0 g) ∙ sym k.1

  -- where the conditions round two branches differ, neither run has touched the target
  apart : {round r r1 r2 : List Sight} {o o1 o' o2 : Option ℕ} → (Agree a b round → ⊥) → Touched round r r1 o o1 → Touched round r r2 o' o2 → (Agree a b r → o ≡ o') → Agree a b r1 → Agree a b r2 → o1 ≡ o2
  apart never (inl c) k K g g' = absurd (never (c g))
  apart never (inr h) (inl c) K g g' = absurd (never (c g'))
  apart never (inr h) (inr k) K g g' = h.1 ∙ K (h.0 g) ∙ sym k.1

  known_either : (m n : Bool) (round : List Sight) {looks l1 l2 : Looks} (f g f' g' : Entries) (v w v' w' : List ℕ) (d d' : Done) → (Agree a b round → m ≡ n) → Known looks d d'
      → Touches round looks l1 d (record { entered = later_over f d.entered; variables = v }) → Touches round looks l1 d' (record { entered = later_over f' d'.entered; variables = v' })
      → Touches round looks l2 d (record { entered = later_over g d.entered; variables = w }) → Touches round looks l2 d' (record { entered = later_over g' d'.entered; variables = w' })
      → Known l1 (record { entered = later_over f d.entered; variables = v }) (record { entered = later_over f' d'.entered; variables = v' })
      → Known l2 (record { entered = later_over g d.entered; variables = w }) (record { entered = later_over g' d'.entered; variables = w' })
      → Known (λ t. l1 t ++ l2 t) (either_done m f g v w d) (either_done n f' g' v' w' d')
  known_either true true round {l1 = l1} {l2 = l2} f g f' g' v w v' w' d d' e K h h' k k' A B = record { as_many = A.as_many; at = λ t s. A.at t (agree_left a b (l1 t) (l2 t) s) }
  known_either false false round {l1 = l1} {l2 = l2} f g f' g' v w v' w' d d' e K h h' k k' A B = record { as_many = B.as_many; at = λ t s. B.at t (agree_right a b (l1 t) (l2 t) s) }
  known_either true false round {l1 = l1} {l2 = l2} f g f' g' v w v' w' d d' e K h h' k k' A B = record {
    as_many = h.as_many ∙ K.as_many ∙ sym k'.as_many;
    at = λ t s. apart (λ r. let x = e r in cc) (h.at t) (k'.at t) (K.at t) (agree_left a b (l1 t) (l2 t) s) (agree_right a b (l1 t) (l2 t) s);
  }
  known_either false true round {l1 = l1} {l2 = l2} f g f' g' v w v' w' d d' e K h h' k k' A B = record {
    as_many = k.as_many ∙ K.as_many ∙ sym h'.as_many;
    at = λ t s. apart (λ r. let x = e r in cc) (k.at t) (h'.at t) (K.at t) (agree_right a b (l1 t) (l2 t) s) (agree_left a b (l1 t) (l2 t) s);
  }

  mutual
    stmt_known : (s : Stmt) (round : List Sight) (looks : Looks) (d d' : Done) → Known looks d d' → Known (stmt_looks round looks s) (stmt_done a s d) (stmt_done b s d')
    stmt_known null_of round looks d d' K = record { as_many = K.as_many; at = λ t g. held_none d d.variables t ∙ K.at t g ∙ sym (held_none d' d'.variables t) }
    stmt_known (assign places v) round looks d d' K = known_places round places (value_alike a b looks d.variables d'.variables (of_elements K) v) K
    stmt_known (set es v) round looks d d' K = known_elements round es (value_alike a b looks d.variables d'.variables (of_elements K) v) K
    stmt_known (assign_at index spacing places e) round looks d d' K =
        known_chosen driver places_done touches_places (λ r ps ls xs ys looks d d' h K. known_places r ps h K) (round ++ whole (expr_looks looks index)) spacing places _ _
        (chosen_row (all_rows spacing places) (natural_of (elements_of (sees a d) index))) (chosen_row (all_rows spacing places) (natural_of (elements_of (sees b d') index)))
        (λ g. ap (row_at spacing places) (alike_whole a b (expr_alike a b looks d.variables d'.variables (of_elements K) index) (agree_right a b round (whole (expr_looks looks index)) g)))
        (alike_map a b code_of (expr_alike a b looks d.variables d'.variables (of_elements K) e)) K
    stmt_known (set_at index spacing es e) round looks d d' K =
        known_chosen element elements_done touches_elements (λ r ps ls xs ys looks d d' h K. known_elements r ps h K) (round ++ whole (expr_looks looks index)) spacing es _ _
        (chosen_row (all_rows spacing es) (natural_of (elements_of (sees a d) index))) (chosen_row (all_rows spacing es) (natural_of (elements_of (sees b d') index)))
        (λ g. ap (row_at spacing es) (alike_whole a b (expr_alike a b looks d.variables d'.variables (of_elements K) index) (agree_right a b round (whole (expr_looks looks index)) g)))
        (alike_map a b code_of (expr_alike a b looks d.variables d'.variables (of_elements K) e)) K
    stmt_known (if_of bs) round looks d d' K = branches_known bs round looks d d' K
    stmt_known (case_of v alts) round looks d d' K =
        alternatives_known alts (value_of (sees a d) v) (value_of (sees b d') v) (round ++ whole (value_looks looks v)) looks d d'
        (λ g. alike_whole a b (value_alike a b looks d.variables d'.variables (of_elements K) v) (agree_right a b round (whole (value_looks looks v)) g)) K

    body_known : (s : Stmts) (round : List Sight) (looks : Looks) (d d' : Done) → Known looks d d' → Known (body_looks round looks s) (body_done a s d) (body_done b s d')
    body_known done round looks d d' K = record { as_many = K.as_many; at = λ t g. held_none d d.variables t ∙ K.at t g ∙ sym (held_none d' d'.variables t) }
    body_known (step s rest) round looks d d' K =
        let more = body_known rest round (stmt_looks round looks s) (stmt_done a s d) (stmt_done b s d') (stmt_known s round looks d d' K) in
        record { as_many = more.as_many; at = λ t g. held_next a s rest d t ∙ more.at t g ∙ sym (held_next b s rest d' t) }

    branches_known : (bs : Branches) (round : List Sight) (looks : Looks) (d d' : Done) → Known looks d d' → Known (branches_look round looks bs) (branches_done a bs d) (branches_done b bs d')
    branches_known no_else round looks d d' K = record { as_many = K.as_many; at = λ t g. held_none d d.variables t ∙ K.at t g ∙ sym (held_none d' d'.variables t) }
    branches_known (otherwise s) round looks d d' K = body_known s round looks d d' K
    branches_known (branch (decided true) s bs) round looks d d' K = body_known s round looks d d' K
    branches_known (branch (decided false) s bs) round looks d d' K = branches_known bs round looks d d' K
    branches_known (branch t s bs) round looks d d' K =
        let r = round ++ test_looks looks t in
        known_either (is_met (sees a d) t) (is_met (sees b d') t) r
        (effect (sees a d) s) (branches_effect (sees a d) bs) (effect (sees b d') s) (branches_effect (sees b d') bs)
        (variables_after (sees a d) s) (branches_variables (sees a d) bs) (variables_after (sees b d') s) (branches_variables (sees b d') bs)
        d d' (λ g. test_alike a b looks d.variables d'.variables (of_elements K) t (agree_right a b round (test_looks looks t) g)) K
        (body_touches a s r looks d) (body_touches b s r looks d') (branches_touch a bs r looks d) (branches_touch b bs r looks d')
        (body_known s r looks d d' K) (branches_known bs r looks d d' K)

    alternatives_known : (alts : Alternatives) (value value' : List ℕ) (round : List Sight) (looks : Looks) (d d' : Done) → (Agree a b round → value ≡ value') → Known looks d d'
        → Known (alternatives_look round looks alts) (alternatives_done a value alts d) (alternatives_done b value' alts d')
    alternatives_known (others s) value value' round looks d d' e K = body_known s round looks d d' K
    alternatives_known (alternative choices s alts) value value' round looks d d' e K =
        known_either (list_any (same value) choices) (list_any (same value') choices) round
        (effect (sees a d) s) (alternatives_effect (sees a d) value alts) (effect (sees b d') s) (alternatives_effect (sees b d') value' alts)
        (variables_after (sees a d) s) (alternatives_variables (sees a d) value alts) (variables_after (sees b d') s) (alternatives_variables (sees b d') value' alts)
        d d' (λ g. ap (λ (v : List ℕ). list_any (same v) choices) (e g)) K
        (body_touches a s round looks d) (body_touches b s round looks d') (alternatives_touch a alts value round looks d) (alternatives_touch b alts value' round looks d')
        (body_known s round looks d d' K) (alternatives_known alts value value' round looks d d' e K)

-- a run leaves as many variables as it began with
pub as_many_after : (seen : Seen) (s : Stmts) → length (variables_after seen s) ≡ length seen.variables
as_many_after seen s = (body_touches seen seen seen s [] first_looks (record { entered = no_entries; variables = seen.variables })).as_many

pub each_looks : EachLooks
each_looks body place a b l h =
    sym (or_else-none (effect a body place)) ∙ known.at (driver place) (record { at = h }) ∙ or_else-none (effect b body place)
  where
    start : (t : Target) → Agree a b (first_looks t) → held (record { entered = no_entries; variables = a.variables }) t ≡ held (record { entered = no_entries; variables = b.variables }) t
    start (driver p) g = refl
    start (element e) g = ap (λ (n : ℕ). Some n) (g.at (element_kept e) (Contains-first (element_kept e) []))

    known : Known a b (body_looks [] first_looks body) (body_done a body (record { entered = no_entries; variables = a.variables })) (body_done b body (record { entered = no_entries; variables = b.variables }))
    known = body_known a b body [] first_looks _ _ (record { as_many = l; at = start })
