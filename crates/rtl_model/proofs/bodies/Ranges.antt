-- Each entry is that of a driver, and a value of its net's type; and variables keep their types.
use Rattle.std.proofs.Common.{◌≡◌, ℕ, zero, suc, ◌<◌, ◌≤◌, Bool, true, false, cond, ◌==◌, List, [], ◌∷◌, length, get_or, map, slice_get, slice_index, slice_set}
use Rattle.std.proofs.Common.{Option, Some, None, refl, sym, ◌∙◌, subst, arith, All, ◌⊎◌, inl, inr}
use Rattle.std.specs.Prelude.{option_and_then, replicate}
use Rattle.std.specs.List.{list_any}
use Rattle.std.proofs.lemmas.List.{length-map, length-replicate}
use Rattle.vhdl_values.specs.declared.scalar.Nine.TheVariants.{X}
use Rattle.vhdl_numbers.specs.Counts.{natural_of}
use Rattle.std.proofs.lemmas.Bool.{eqb-true, cases_eq, cases_lt}
use Rattle.std.proofs.lemmas.List.{get_or-set_same, get_or-set_other, get_or_past, length-set}
use Rattle.vhdl_values.specs.declared.scalar.Nine.{Nine}
use Rattle.vhdl_values.specs.Scalar.{code_of}
use Rattle.vhdl_values.proofs.Codes.{code_of_below}
use Rattle.rtl_model.specs.basics.Valuations.{or_else}
use Rattle.rtl_model.specs.bodies.Rows.{Spacing, all_rows, row_at}
use Rattle.rtl_model.specs.bodies.Body.{Expr, Value, elements, position, position_of, position_in}
use Rattle.rtl_model.specs.bodies.Body.{Stmt, null_of, assign, set, assign_at, set_at, if_of, case_of, Stmts, done, step}
use Rattle.rtl_model.specs.bodies.Body.{Branches, no_else, otherwise, branch, Alternatives, others, alternative}
use Rattle.rtl_model.specs.bodies.Values.{Seen, targets_at, given_at, elements_of, value_of}
use Rattle.rtl_model.specs.bodies.Tests.{same, is_met}
use Rattle.rtl_model.specs.bodies.Variables.{values_put, stmt_variables, variables_after, branches_variables, alternatives_variables, after_stmt}
use Rattle.rtl_model.specs.bodies.Effect.{Entries, no_entries, later_over, one_entry, entries, entries_if}
use Rattle.rtl_model.specs.bodies.Effect.{stmt_effect, effect, branches_effect, alternatives_effect}
use Rattle.rtl_model.specs.bodies.Types.{ElementType, nine_valued, enumeration, limit_of, HasType, KeepsTypes}
use Rattle.rtl_model.specs.bodies.Fits.{Scope, FitsExpr, FitsAs, DrivesType, FitsStmt, Fits, FitsBranches, FitsAlternatives, width, value_width}
use Rattle.rtl_model.specs.bodies.Laws.{SeesTypes, EntriesKeepTypes}
use Rattle.rtl_model.proofs.bodies.Rows.{slice_get-all, length-all_rows, all-all_rows}
use Rattle.rtl_model.proofs.bodies.Widths.{length-value_of, row_as_value}

-- ---- values

abbrev IsBelow : ℕ → List ℕ → Type 0
IsBelow limit values = (k : ℕ) → k < length values → slice_index values k < limit

codes_below : (vs : List Nine) → IsBelow 9 (map code_of vs)
codes_below [] k l = absurd (omega arith)
codes_below (v ∷ vs) zero l = code_of_below v
codes_below (v ∷ vs) (suc k) l = codes_below vs k (omega arith)

one_below : (limit v : ℕ) → v < limit → IsBelow limit (v ∷ [])
one_below limit v h zero l = h
one_below limit v h (suc k) l = absurd (omega arith)

module _ (scope : Scope) where
  of_value : (t : ElementType) (v : Value) (seen : Seen) → SeesTypes scope seen → FitsAs scope t v → IsBelow (limit_of t) (value_of seen v)
  of_value nine_valued (elements e) seen sees h = codes_below (elements_of seen e)
  of_value (enumeration n) (position k) seen sees h = one_below n k h
  of_value (enumeration n) (position_of net) seen sees h = one_below n _ (sees.nets net (enumeration n) h)
  of_value (enumeration n) (position_in element) seen sees h = one_below n _ (sees.variables element (enumeration n) h)
  of_value _ _ seen sees h = elim h [ ]

  -- ---- entries

  -- the driver at the place is there, and its net has this value
  record Suits (place value : ℕ) : Type 0 where
    net : ℕ
    type_is : ElementType
    target : slice_get scope.targets place ≡ Some net
    has_type : HasType scope.nets type_is net
    below : value < limit_of type_is

  record Kept (e : Entries) : Type 0 where
    each : (place value : ℕ) → e place ≡ Some value → Suits place value

  none : Kept no_entries
  none = record { each = λ place value h. absurd cc }

  both : (a b : Entries) → Kept a → Kept b → Kept (later_over a b)
  both a b h g = record { each = λ place value k. go place value (a place) refl k }
    where
      go : (place value : ℕ) (o : Option ℕ) → a place ≡ o → or_else o (b place) ≡ Some value → Suits place value
      go place value None e k = g.each place value k
      go place value (Some v) e k = h.each place value (e ∙ k)

  either : (t : Bool) (a b : Entries) → Kept a → Kept b → Kept (entries_if t a b)
  either true a b h g = record { each = λ place value k. h.each place value k }
  either false a b h g = record { each = λ place value k. g.each place value k }

  one : (p v : ℕ) → Suits p v → Kept (one_entry p v)
  one p v s = record { each = λ place value k. go place value (p == place) refl k }
    where
      go : (place value : ℕ) (t : Bool) → (p == place) ≡ t → cond t (Some v) None ≡ Some value → Suits place value
      go place value true e k =
          let a : p ≡ place = eqb-true p place e in
          let b : v ≡ value = cc in
          subst (λ (x : ℕ). Suits place x) b (subst (λ (x : ℕ). Suits x v) a s)
      go place value false e k = absurd cc

  suits : (t : ElementType) (p v : ℕ) → DrivesType scope t p → v < limit_of t → Suits p v
  suits t p v h l = record { net = h.0; type_is = t; target = h.1; has_type = h.2; below = l }

  of_target : (t : ElementType) (ps values : List ℕ) → length ps ≡ length values → All (DrivesType scope t) ps → IsBelow (limit_of t) values → Kept (entries ps values)
  of_target t [] values l h below = none
  of_target t (p ∷ ps) [] l h below = absurd (omega arith)
  of_target t (p ∷ ps) (v ∷ vs) l h below =
      both (entries ps vs) (one_entry p v)
      (of_target t ps vs (omega arith) (λ k d m. h (suc k) d (omega arith)) (λ k m. below (suc k) (omega arith)))
      (one p v (suits t p v (h 0 0 (omega arith)) (below 0 (omega arith))))

  -- ---- variables

  same_type : (s t : ElementType) (e : ℕ) → HasType scope.variables s e → HasType scope.variables t e → s ≡ t
  same_type s t e h g = cc

  one_put : (t : ElementType) (d v : ℕ) (old : List ℕ) → HasType scope.variables t d → v < limit_of t → KeepsTypes scope.variables old → KeepsTypes scope.variables (slice_set old d v)
  one_put t d v old typed below keeps e s h = go (cases_eq e d) (cases_lt d (length old))
    where
      go : (e ≡ d) ⊎ (e ≡ d → ⊥) → (d < length old) ⊎ (length old ≤ d) → slice_index (slice_set old d v) e < limit_of s
      go (inr other) l = rw (get_or-set_other old d e v 0 other) (keeps e s h)
      go (inl same) (inl l) =
          let k : t ≡ s = same_type t s d typed (subst (λ (x : ℕ). HasType scope.variables s x) same h) in
          rw (same, get_or-set_same old d v 0 l) (subst (λ (x : ElementType). v < limit_of x) k below)
      go (inl same) (inr l) =
          let p : get_or (slice_set old d v) e 0 ≡ 0 = get_or_past (slice_set old d v) e 0 (omega (arith, length-set old d v)) in
          let q : get_or old e 0 ≡ 0 = get_or_past old e 0 (omega arith) in
          let b = keeps e s h in
          omega arith

  puts : (t : ElementType) (es values old : List ℕ) → length es ≡ length values → All (HasType scope.variables t) es → IsBelow (limit_of t) values → KeepsTypes scope.variables old
      → KeepsTypes scope.variables (values_put es values old)
  puts t [] values old l h below keeps = keeps
  puts t (d ∷ ds) [] old l h below keeps = absurd (omega arith)
  puts t (d ∷ ds) (v ∷ vs) old l h below keeps =
      puts t ds vs (slice_set old d v) (omega arith) (λ k e m. h (suc k) e (omega arith)) (λ k m. below (suc k) (omega arith))
      (one_put t d v old (h 0 0 (omega arith)) (below 0 (omega arith)) keeps)

  -- ---- rows

  -- X's are values
  unknowns_below : (n : ℕ) → IsBelow 9 (replicate n (code_of X))
  unknowns_below zero k l = absurd (omega arith)
  unknowns_below (suc n) zero l = code_of_below X
  unknowns_below (suc n) (suc k) l = unknowns_below n k (omega arith)

  -- what is assigned to, and the values
  record Assigned (P : ℕ → Type 0) (targets values : List ℕ) : Type 0 where
    as_many : length targets ≡ length values
    typed : All P targets
    below : IsBelow 9 values

  unknowns : (P : ℕ → Type 0) (rows : List ℕ) → All P rows → Assigned P rows (replicate (length rows) (code_of X))
  unknowns P rows typed = record { as_many = sym (length-replicate (length rows) (code_of X)); typed = typed; below = unknowns_below (length rows) }

  of_row : (P : ℕ → Type 0) (spacing : Spacing) (rows values : List ℕ) (number : Option ℕ) → spacing.len ≡ length values → All P rows → IsBelow 9 values
      → Assigned P (targets_at rows (option_and_then (slice_get (all_rows spacing rows)) number)) (given_at rows (option_and_then (slice_get (all_rows spacing rows)) number) values)
  of_row P spacing rows values None long typed below = unknowns P rows typed
  of_row P spacing rows values (Some n) long typed below = go (slice_get (all_rows spacing rows) n) refl
    where
      go : (o : Option (List ℕ)) → slice_get (all_rows spacing rows) n ≡ o → Assigned P (targets_at rows o) (given_at rows o values)
      go None e = unknowns P rows typed
      go (Some row) e = record {
        as_many = slice_get-all (λ r. length r ≡ spacing.len) (all_rows spacing rows) n row e (length-all_rows spacing rows) ∙ long;
        typed = slice_get-all (All P) (all_rows spacing rows) n row e (all-all_rows spacing rows P typed);
        below = below;
      }

  -- the row at an index, from a value that fits
  at_index : (P : ℕ → Type 0) (seen : Seen) (index : Expr) (spacing : Spacing) (rows : List ℕ) (e : Expr) → spacing.len ≡ width e → FitsExpr scope e → All P rows
      → Assigned P (targets_at rows (row_at spacing rows (elements_of seen index))) (given_at rows (row_at spacing rows (elements_of seen index)) (map code_of (elements_of seen e)))
  at_index P seen index spacing rows e same fits typed =
      of_row P spacing rows (map code_of (elements_of seen e)) (natural_of (elements_of seen index)) (row_as_value scope seen spacing.len e same fits ∙ sym (length-map (elements_of seen e) code_of)) typed (codes_below (elements_of seen e))

  -- ---- statements

  record Fine (e : Entries) (values : List ℕ) : Type 0 where
    entries : Kept e
    variables : KeepsTypes scope.variables values

  chosen_fine : (t : Bool) (a b : Entries) (v w : List ℕ) → Fine a v → Fine b w → Fine (entries_if t a b) (cond t v w)
  chosen_fine true a b v w h g = record { entries = either true a b h.entries g.entries; variables = h.variables }
  chosen_fine false a b v w h g = record { entries = either false a b h.entries g.entries; variables = g.variables }

  mutual
    of_stmt : (s : Stmt) (seen : Seen) → SeesTypes scope seen → FitsStmt scope s → Fine (stmt_effect seen s) (stmt_variables seen s)
    of_stmt null_of seen sees h = record { entries = none; variables = sees.variables }
    of_stmt (assign places v) seen sees h = record {
      entries = of_target h.0 places (value_of seen v) (h.2 ∙ sym (length-value_of scope seen h.0 v h.1)) h.3 (of_value h.0 v seen sees h.1);
      variables = sees.variables;
    }
    of_stmt (set es v) seen sees h = record {
      entries = none;
      variables = puts h.0 es (value_of seen v) seen.variables (h.2 ∙ sym (length-value_of scope seen h.0 v h.1)) h.3 (of_value h.0 v seen sees h.1) sees.variables;
    }
    of_stmt (assign_at index spacing places e) seen sees h =
        let a = at_index (DrivesType scope nine_valued) seen index spacing places e h.3 h.2 h.4 in
        record { entries = of_target nine_valued _ _ a.as_many a.typed a.below; variables = sees.variables }
    of_stmt (set_at index spacing es e) seen sees h =
        let a = at_index (HasType scope.variables nine_valued) seen index spacing es e h.3 h.2 h.4 in
        record { entries = none; variables = puts nine_valued _ _ seen.variables a.as_many a.typed a.below sees.variables }
    of_stmt (if_of bs) seen sees h = of_branches bs seen sees h
    of_stmt (case_of v alts) seen sees h = of_alternatives h.0 (value_width v) alts (value_of seen v) seen sees h.2

    of_body : (s : Stmts) (seen : Seen) → SeesTypes scope seen → Fits scope s → Fine (effect seen s) (variables_after seen s)
    of_body done seen sees h = record { entries = none; variables = sees.variables }
    of_body (step s rest) seen sees h =
        let first = of_stmt s seen sees h.0 in
        let more = of_body rest (after_stmt seen s) (record { nets = sees.nets; variables = first.variables }) h.1 in
        record { entries = both (effect (after_stmt seen s) rest) (stmt_effect seen s) more.entries first.entries; variables = more.variables }

    of_branches : (bs : Branches) (seen : Seen) → SeesTypes scope seen → FitsBranches scope bs → Fine (branches_effect seen bs) (branches_variables seen bs)
    of_branches no_else seen sees h = record { entries = none; variables = sees.variables }
    of_branches (otherwise s) seen sees h = of_body s seen sees h
    of_branches (branch t s bs) seen sees h = chosen_fine (is_met seen t) (effect seen s) (branches_effect seen bs) _ _ (of_body s seen sees h.1) (of_branches bs seen sees h.2)

    of_alternatives : (t : ElementType) (len : ℕ) (alts : Alternatives) (v : List ℕ) (seen : Seen) → SeesTypes scope seen → FitsAlternatives scope t len alts
        → Fine (alternatives_effect seen v alts) (alternatives_variables seen v alts)
    of_alternatives t len (others s) v seen sees h = of_body s seen sees h
    of_alternatives t len (alternative choices s alts) v seen sees h =
        chosen_fine (list_any (same v) choices) (effect seen s) (alternatives_effect seen v alts) _ _ (of_body s seen sees h.1) (of_alternatives t len alts v seen sees h.2)

pub entries_keep_types : EntriesKeepTypes
entries_keep_types scope body seen fits sees =
    let f = of_body scope body seen sees fits in
    record {
      entries = λ place value h. let s = f.entries.each place value h in (s.net, s.type_is, s.target, s.has_type, s.below);
      variables = f.variables;
    }
