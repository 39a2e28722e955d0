-- What a run has done so far, and what its drivers and elements have then.
use Rattle.std.proofs.Common.{◌≡◌, ℕ, ◌<◌, ◌≤◌, Bool, false, cond, ◌==◌, List, ◌∷◌, Option, Some}
use Rattle.std.proofs.Common.{length, drop, slice_index, slice_set, refl, sym, ◌∙◌, arith, ◌⊎◌, inl, inr}
use Rattle.std.proofs.lemmas.Bool.{eq-eqb, cases_lt}
use Rattle.std.proofs.lemmas.List.{get_or-set_same, get_or_past, length-set}
use Rattle.rtl_model.specs.bodies.Body.{Stmt, Stmts, step, Branches, Alternatives}
use Rattle.rtl_model.specs.bodies.Values.{Seen}
use Rattle.rtl_model.specs.bodies.Variables.{values_put, stmt_variables, variables_after, branches_variables, alternatives_variables, after_stmt}
use Rattle.rtl_model.specs.bodies.Effect.{Entries, no_entries, later_over, one_entry, entries, entries_if, stmt_effect, effect, branches_effect, alternatives_effect}
use Rattle.rtl_model.specs.bodies.Assigns.{Target, driver, element}
use Rattle.rtl_model.proofs.bodies.Sequences.{or_else-assoc}

pub record Done : Type 0 where
  pub entered : Entries
  pub variables : List ℕ

-- what a target has then
abbrev pub held : Done → Target → Option ℕ
held d (driver place) = d.entered place
held d (element e) = Some (slice_index d.variables e)

abbrev pub sees : Seen → Done → Seen
sees x d = record x { variables = d.variables }

abbrev pub stmt_done : Seen → Stmt → Done → Done
stmt_done x s d = record { entered = later_over (stmt_effect (sees x d) s) d.entered; variables = stmt_variables (sees x d) s }

abbrev pub body_done : Seen → Stmts → Done → Done
body_done x s d = record { entered = later_over (effect (sees x d) s) d.entered; variables = variables_after (sees x d) s }

abbrev pub branches_done : Seen → Branches → Done → Done
branches_done x bs d = record { entered = later_over (branches_effect (sees x d) bs) d.entered; variables = branches_variables (sees x d) bs }

abbrev pub alternatives_done : Seen → (value : List ℕ) → Alternatives → Done → Done
alternatives_done x value alts d = record { entered = later_over (alternatives_effect (sees x d) value alts) d.entered; variables = alternatives_variables (sees x d) value alts }

-- by the one or the other
abbrev pub either_done : Bool → (f g : Entries) → (v w : List ℕ) → Done → Done
either_done m f g v w d = record { entered = later_over (entries_if m f g) d.entered; variables = cond m v w }

abbrev pub places_done : (places values : List ℕ) → Done → Done
places_done ps values d = record d { entered = later_over (entries ps values) d.entered }

abbrev pub elements_done : (es values : List ℕ) → Done → Done
elements_done es values d = record { entered = later_over no_entries d.entered; variables = values_put es values d.variables }

pub held_none : (d : Done) (v : List ℕ) (t : Target) → held (record { entered = later_over no_entries d.entered; variables = v }) t ≡ held (record d { variables = v }) t
held_none d v (driver place) = refl
held_none d v (element e) = refl

pub held_next : (x : Seen) (s : Stmt) (rest : Stmts) (d : Done) (t : Target) → held (body_done x (step s rest) d) t ≡ held (body_done x rest (stmt_done x s d)) t
held_next x s rest d (driver place) = or_else-assoc (effect (after_stmt (sees x d) s) rest place) (stmt_effect (sees x d) s place) (d.entered place)
held_next x s rest d (element e) = refl

-- one place or element, and then the others
abbrev pub place_done : (p x : ℕ) → Done → Done
place_done p x d = record d { entered = later_over (one_entry p x) d.entered }

abbrev pub element_done : (e x : ℕ) → Done → Done
element_done e x d = record d { variables = slice_set d.variables e x }

pub held_places : (p : ℕ) (ps values : List ℕ) (d : Done) (t : Target) → held (places_done (p ∷ ps) values d) t ≡ held (places_done ps (drop 1 values) (place_done p (slice_index values 0) d)) t
held_places p ps values d (driver place) = or_else-assoc (entries ps (drop 1 values) place) (one_entry p (slice_index values 0) place) (d.entered place)
held_places p ps values d (element e) = refl

pub other_element : (d e : ℕ) → d == e ≡ false → e ≡ d → ⊥
other_element d e n s = let t = eq-eqb d e (sym s) in cc

pub set_same : (v w : List ℕ) (d x : ℕ) → length v ≡ length w → slice_index (slice_set v d x) d ≡ slice_index (slice_set w d x) d
set_same v w d x l = go (cases_lt d (length v))
  where
    go : (d < length v) ⊎ (length v ≤ d) → slice_index (slice_set v d x) d ≡ slice_index (slice_set w d x) d
    go (inl k) = get_or-set_same v d x 0 k ∙ sym (get_or-set_same w d x 0 (omega arith))
    go (inr k) = get_or_past (slice_set v d x) d 0 (omega (arith, length-set v d x)) ∙ sym (get_or_past (slice_set w d x) d 0 (omega (arith, length-set w d x)))
