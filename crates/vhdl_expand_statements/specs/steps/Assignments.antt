-- Assignments, each one statement.
use Rattle.std.specs.Prelude.{ℕ, length, slice_get, Ok}
use Rattle.vhdl_names_rules.specs.units.Expressions.{Signal, Part, whole, SignalPart, Chosen}
use Rattle.vhdl_names_rules.specs.units.Statements.{Given}
use Rattle.rtl_model.specs.bodies.Body as bodies
use Rattle.vhdl_expand_rules.specs.Elab.{Elab, ◌>>=◌}
use Rattle.vhdl_expand_rules.specs.Expressions.{chosen_row}
use Rattle.vhdl_expand_rules.specs.Site.{Site, signal_kind, place_elements, signal_elements, variable_elements, signal_bounds, variable_bounds}
use Rattle.vhdl_expand_rules.specs.Statements.{given_to, elements_given}

module _ (here : Site) where
  abbrev pub assign : SignalPart → Given → Elab bodies.Stmt
  assign p g = do
    es ← place_elements here p
    v ← given_to here p.at (signal_kind here p.signal) (length es) g
    Ok (bodies.assign es v)

  abbrev pub set : (at : ℕ) → ℕ → Part → Given → Elab bodies.Stmt
  set at k part g = do
    es ← variable_elements here at k part
    v ← given_to here at (slice_get here.variables k) (length es) g
    Ok (bodies.set es v)

  -- to what a run chooses
  abbrev pub assign_in : (at : ℕ) → Signal → Chosen → Given → Elab bodies.Stmt
  assign_in at x c g = do
    es ← signal_elements here at x whole
    b ← signal_bounds here at x
    r ← chosen_row here at b c
    e ← elements_given here at r.spacing.len g
    Ok (bodies.assign_at r.index r.spacing es e)

  abbrev pub set_in : (at : ℕ) → ℕ → Chosen → Given → Elab bodies.Stmt
  set_in at k c g = do
    es ← variable_elements here at k whole
    b ← variable_bounds here at k
    r ← chosen_row here at b c
    e ← elements_given here at r.spacing.len g
    Ok (bodies.set_at r.index r.spacing es e)
