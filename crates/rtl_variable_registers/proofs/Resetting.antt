-- What the branch of a reset does, whose variable assignments are told to the variables' nets.
use Rattle.std.proofs.Common.{◌≡◌, ℕ, ◌<◌, ◌≤◌, Bool, true, false, ◌||◌, ◌==◌, List, Option, Some, None, unwrap_or, length, map, slice_index}
use Rattle.std.proofs.Common.{refl, sym, ap, ◌∙◌, arith, Contains}
use Rattle.std.specs.List.{list_any}
use Rattle.std.proofs.lemmas.Bool.{and_parts}
use Rattle.rtl_model.specs.basics.Lists.{is_empty}
use Rattle.rtl_model.specs.basics.Valuations.{or_else}
use Rattle.rtl_model.specs.bodies.Assigns.{is_element, stmt_must_assign, must_assign}
use Rattle.rtl_model.specs.bodies.Body.{Stmt, null_of, assign, set, assign_at, set_at, if_of, case_of, Stmts, done, step, Value}
use Rattle.rtl_model.specs.bodies.Effect.{entries, effect}
use Rattle.rtl_model.specs.bodies.Leaves.{value_leaves}
use Rattle.rtl_model.specs.bodies.Values.{Seen, value_of}
use Rattle.rtl_model.specs.bodies.Variables.{variables_after, after_stmt}
use Rattle.rtl_model.proofs.basics.Lists.{is_nil, contains_in}
use Rattle.rtl_model.proofs.bodies.Sequences.{or_else-none}
use Rattle.rtl_variable_registers.specs.Bodies.{at_reset}
use Rattle.rtl_variable_registers.specs.Known.{with_constants}
use Rattle.rtl_variable_registers.proofs.Known.{are_constants}
use Rattle.rtl_variable_registers.proofs.Putting.{put_is_entry, entry_at_place, no_entry}
use Rattle.rtl_variable_registers.proofs.Recalling.{length-values_put, in_mapped}
use Rattle.rtl_variable_registers.proofs.Values.{on_both, value_same}

pub unwrapped : (a b : Option ℕ) (d : ℕ) → unwrap_or (or_else a b) d ≡ unwrap_or a (unwrap_or b d)
unwrapped None b d = refl
unwrapped (Some v) b d = refl

or_true : (b : Bool) → b || true ≡ true
or_true true = refl
or_true false = refl

pub or_left : (a b : Bool) → a ≡ true → a || b ≡ true
or_left a b h = rw h

pub or_right : (a b : Bool) → b ≡ true → a || b ≡ true
or_right a b h = rw h (or_true a)

-- the branch of a reset, with constants in the place of what is known
abbrev pub told : (net place : ℕ → ℕ) → Seen → Stmts → Stmts
told net place seen a = at_reset net place (with_constants seen a)

-- each place that a sequence of assignments assigns is below the number of drivers
abbrev pub AreBelow : (many : ℕ) → Stmts → Type 0
AreBelow many done = Unit {0}
AreBelow many (step (assign places v) rest) = ((q : ℕ) → Contains places q → q < many) × AreBelow many rest
AreBelow many (step s rest) = AreBelow many rest

module _ (many : ℕ) (net place : ℕ → ℕ) (IsKept : ℕ → Type 0) (above : (e : ℕ) → IsKept e → many ≤ place e)
    (apart : (d e : ℕ) → IsKept d → IsKept e → place d ≡ place e → d ≡ e) where
  -- the elements that are set are kept
  abbrev SetsKept : Stmts → Type 0
  SetsKept a = (e : ℕ) → must_assign (is_element e) a ≡ true → IsKept e

  set_kept : (es : List ℕ) (v : Value) (rest : Stmts) → SetsKept (step (set es v) rest) → (e : ℕ) → Contains es e → IsKept e
  set_kept es v rest h e c = h e (or_left (list_any (λ k. k == e) es) (must_assign (is_element e) rest) (contains_in es e c))

  rest_kept : (s : Stmt) (rest : Stmts) → SetsKept (step s rest) → SetsKept rest
  rest_kept s rest h e c = h e (or_right (stmt_must_assign (is_element e) s) (must_assign (is_element e) rest) c)

  -- the drivers that there were have the same entries
  pub same_entries : (a : Stmts) → are_constants a ≡ true → SetsKept a → (left other : Seen) (q : ℕ) → q < many
      → effect other (at_reset net place a) q ≡ effect left a q
  same_entries done g k left other q l = refl
  same_entries (step null_of rest) g k left other q l =
      ap (λ (o : Option ℕ). or_else o None) (same_entries rest g (rest_kept null_of rest k) left other q l)
  same_entries (step (assign ps v) rest) g k left other q l =
      let (c, d) = and_parts (is_empty (value_leaves v)) (are_constants rest) g in
      on_both or_else (same_entries rest d (rest_kept (assign ps v) rest k) left other q l)
      (ap (λ (values : List ℕ). entries ps values q) (value_same other left v (is_nil (value_leaves v) c)))
  same_entries (step (set es v) rest) g k left other q l =
      let (c, d) = and_parts (is_empty (value_leaves v)) (are_constants rest) g in
      on_both or_else (same_entries rest d (rest_kept (set es v) rest k) (after_stmt left (set es v)) other q l)
      (no_entry (map place es) (value_of other v) q (λ p i s. let (e, j, at) = in_mapped place es p i in let b = above e (set_kept es v rest k e j) in omega arith))
  same_entries (step (assign_at index spacing ps v) rest) g k left other q l = absurd cc
  same_entries (step (set_at index spacing es v) rest) g k left other q l = absurd cc
  same_entries (step (if_of bs) rest) g k left other q l = absurd cc
  same_entries (step (case_of v alts) rest) g k left other q l = absurd cc

  -- and the nets of what is kept get what the elements are left with
  pub kept_entries : (a : Stmts) → are_constants a ≡ true → SetsKept a → AreBelow many a → (left other : Seen) (e : ℕ) → IsKept e → e < length left.variables
      → unwrap_or (effect other (at_reset net place a) (place e)) (slice_index left.variables e) ≡ slice_index (variables_after left a) e
  kept_entries done g k b left other e i l = refl
  kept_entries (step null_of rest) g k b left other e i l =
      ap (λ (o : Option ℕ). unwrap_or o (slice_index left.variables e)) (or_else-none (effect other (at_reset net place rest) (place e)))
      ∙ kept_entries rest g (rest_kept null_of rest k) b left other e i l
  kept_entries (step (assign ps v) rest) g k b left other e i l =
      let (c, d) = and_parts (is_empty (value_leaves v)) (are_constants rest) g in
      let none = no_entry ps (value_of other v) (place e) (λ p j s. let t = b.0 p j in let u = above e i in omega arith) in
      ap (λ (o : Option ℕ). unwrap_or (or_else (effect other (at_reset net place rest) (place e)) o) (slice_index left.variables e)) none
      ∙ ap (λ (o : Option ℕ). unwrap_or o (slice_index left.variables e)) (or_else-none (effect other (at_reset net place rest) (place e)))
      ∙ kept_entries rest d (rest_kept (assign ps v) rest k) b.1 left other e i l
  kept_entries (step (set es v) rest) g k b left other e i l =
      let (c, d) = and_parts (is_empty (value_leaves v)) (are_constants rest) g in
      let old = slice_index left.variables e in
      let first = entry_at_place place es (value_of other v) e (λ n j s. apart n e (set_kept es v rest k n j) i s) in
      let same = ap (λ (values : List ℕ). entries es values e) (value_same other left v (is_nil (value_leaves v) c)) in
      unwrapped (effect other (at_reset net place rest) (place e)) (entries (map place es) (value_of other v) (place e)) old
      ∙ ap (λ (o : Option ℕ). unwrap_or (effect other (at_reset net place rest) (place e)) (unwrap_or o old)) (first ∙ same)
      ∙ ap (unwrap_or (effect other (at_reset net place rest) (place e))) (sym (put_is_entry es (value_of left v) left.variables e l))
      ∙ kept_entries rest d (rest_kept (set es v) rest k) b (after_stmt left (set es v)) other e i (omega (arith, length-values_put es (value_of left v) left.variables))
  kept_entries (step (assign_at index spacing ps v) rest) g k b left other e i l = absurd cc
  kept_entries (step (set_at index spacing es v) rest) g k b left other e i l = absurd cc
  kept_entries (step (if_of bs) rest) g k b left other e i l = absurd cc
  kept_entries (step (case_of v alts) rest) g k b left other e i l = absurd cc
