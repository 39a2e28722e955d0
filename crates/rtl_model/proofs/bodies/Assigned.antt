-- What is assigned on every path has an entry in each run.
use Rattle.std.proofs.Common.{◌≡◌, ℕ, Bool, true, false, List, [], ◌∷◌, Option, Some, None, refl, inl, inr, IsSome, IsTrue, slice_index, drop}
use Rattle.std.specs.List.{list_any}
use Rattle.std.proofs.lemmas.Bool.{or_cases, and_parts, eq-eqb}
use Rattle.rtl_model.specs.basics.Valuations.{or_else}
use Rattle.rtl_model.specs.bodies.Body.{Stmt, null_of, assign, set, assign_at, set_at, if_of, case_of, Stmts, done, step}
use Rattle.rtl_model.specs.bodies.Body.{Branches, no_else, otherwise, branch, Alternatives, others, alternative}
use Rattle.rtl_model.specs.bodies.Values.{Seen, value_of}
use Rattle.rtl_model.specs.bodies.Tests.{same, is_met}
use Rattle.rtl_model.specs.bodies.Variables.{after_stmt}
use Rattle.rtl_model.specs.bodies.Effect.{Entries, later_over, one_entry, entries, entries_if}
use Rattle.rtl_model.specs.bodies.Effect.{stmt_effect, effect, branches_effect, alternatives_effect}
use Rattle.rtl_model.specs.bodies.Assigns.{of_drivers, stmt_must_assign, must_assign, branches_must_assign, alternatives_must_assign}
use Rattle.rtl_model.specs.bodies.Laws.{EachRunAssigns}

or_else-left : (a b : Option ℕ) → IsSome a → IsSome (or_else a b)
or_else-left None b h = cc
or_else-left (Some v) b h = h

or_else-right : (a b : Option ℕ) → IsSome b → IsSome (or_else a b)
or_else-right None b h = h
or_else-right (Some v) b h = refl

module _ (these : ℕ → Bool) where
  -- an entry at one of these places
  record HasEntry (e : Entries) : Type 0 where
    place : ℕ
    is_one : IsTrue (these place)
    entry : IsSome (e place)

  earlier : (a b : Entries) → HasEntry b → HasEntry (later_over a b)
  earlier a b h = record { place = h.place; is_one = h.is_one; entry = or_else-right (a h.place) (b h.place) h.entry }

  later : (a b : Entries) → HasEntry a → HasEntry (later_over a b)
  later a b h = record { place = h.place; is_one = h.is_one; entry = or_else-left (a h.place) (b h.place) h.entry }

  either : (t : Bool) (a b : Entries) → HasEntry a → HasEntry b → HasEntry (entries_if t a b)
  either true a b h g = record { place = h.place; is_one = h.is_one; entry = h.entry }
  either false a b h g = record { place = g.place; is_one = g.is_one; entry = g.entry }

  own : (p v : ℕ) → IsTrue (these p) → HasEntry (one_entry p v)
  own p v h = record { place = p; is_one = h; entry = rw (eq-eqb p p refl) refl }

  of_places : (ps values : List ℕ) → list_any these ps ≡ true → HasEntry (entries ps values)
  of_places [] values h = absurd cc
  of_places (p ∷ ps) values h =
      elim (or_cases (these p) (list_any these ps) h) [
        | inl g ↦ earlier (entries ps (drop 1 values)) (one_entry p (slice_index values 0)) (own p (slice_index values 0) g)
        | inr g ↦ later (entries ps (drop 1 values)) (one_entry p (slice_index values 0)) (of_places ps (drop 1 values) g)
      ]

  no_element : (es : List ℕ) → list_any (λ e. false) es ≡ true → ⊥
  no_element [] h = cc
  no_element (e ∷ es) h = no_element es h

  mutual
    of_stmt : (s : Stmt) (seen : Seen) → stmt_must_assign (of_drivers these) s ≡ true → HasEntry (stmt_effect seen s)
    of_stmt null_of seen h = absurd cc
    of_stmt (assign places v) seen h = of_places places (value_of seen v) h
    of_stmt (set es v) seen h = absurd (no_element es h)
    of_stmt (assign_at index spacing places e) seen h = absurd cc
    of_stmt (set_at index spacing es e) seen h = absurd cc
    of_stmt (if_of bs) seen h = of_branches bs seen h
    of_stmt (case_of v alts) seen h = of_alternatives alts (value_of seen v) seen h

    of_body : (s : Stmts) (seen : Seen) → must_assign (of_drivers these) s ≡ true → HasEntry (effect seen s)
    of_body done seen h = absurd cc
    of_body (step s rest) seen h =
        elim (or_cases (stmt_must_assign (of_drivers these) s) (must_assign (of_drivers these) rest) h) [
          | inl g ↦ earlier (effect (after_stmt seen s) rest) (stmt_effect seen s) (of_stmt s seen g)
          | inr g ↦ later (effect (after_stmt seen s) rest) (stmt_effect seen s) (of_body rest (after_stmt seen s) g)
        ]

    of_branches : (bs : Branches) (seen : Seen) → branches_must_assign (of_drivers these) bs ≡ true → HasEntry (branches_effect seen bs)
    of_branches no_else seen h = absurd cc
    of_branches (otherwise s) seen h = of_body s seen h
    of_branches (branch t s bs) seen h =
        let g = and_parts (must_assign (of_drivers these) s) (branches_must_assign (of_drivers these) bs) h in
        either (is_met seen t) (effect seen s) (branches_effect seen bs) (of_body s seen g.0) (of_branches bs seen g.1)

    of_alternatives : (alts : Alternatives) (v : List ℕ) (seen : Seen) → alternatives_must_assign (of_drivers these) alts ≡ true
        → HasEntry (alternatives_effect seen v alts)
    of_alternatives (others s) v seen h = of_body s seen h
    of_alternatives (alternative choices s alts) v seen h =
        let g = and_parts (must_assign (of_drivers these) s) (alternatives_must_assign (of_drivers these) alts) h in
        either (list_any (same v) choices) (effect seen s) (alternatives_effect seen v alts) (of_body s seen g.0) (of_alternatives alts v seen g.1)

pub each_run_assigns : EachRunAssigns
each_run_assigns body these seen h =
    let e : HasEntry these (effect seen body) = of_body these body seen h in
    (e.place, e.is_one, e.entry)
