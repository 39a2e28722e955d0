-- A process of the tree by its parts, in the order in which they are made and paid.
use Rattle.std.specs.Prelude.{ℕ, List, Ok}
use Rattle.vhdl_names_rules.specs.units.Units as u
use Rattle.rtl_model.specs.bodies.Body.{Stmts}
use Rattle.vhdl_expand_rules.specs.Elab.{Elab, ◌>>=◌}
use Rattle.vhdl_expand_rules.specs.Tree as t
use Rattle.vhdl_expand_rules.specs.Tree.{Sensitivity, Variable}
use Rattle.vhdl_expand_rules.specs.Declarations.{ProcessVariables, no_variables, process_declarations}
use Rattle.vhdl_expand_rules.specs.Statements.{statements}
use Rattle.vhdl_expand_rules.specs.Expansion.{Spot, sensitivity}
use Rattle.vhdl_expand_rules.specs.Site.{Site}
use Rattle.vhdl_elab_rules.specs.Limits.{Counts}
use Rattle.vhdl_expand_tree.specs.Costs.{a_process, variables_costs, spent}
use Rattle.vhdl_expand_processes.specs.Driven.{drives_of}
use Rattle.vhdl_expand.specs.Unrolled.{statements_costs}

-- how many turns these costs have, and what is left of a budget when they are paid
abbrev pub turns_paid : (budget : Counts) → Elab Counts → Elab (ℕ × Counts)
turns_paid budget given = do
  c ← given
  rest ← spent 0 budget c
  Ok (c.turns, rest)

-- what a body does in a process
pub record Doing : Type 0 where
  pub drives : List ℕ
  pub sensitivity : Sensitivity
  pub turns : ℕ
  pub body : Stmts

-- where this is known, and what is left of a budget then
abbrev pub doing_steps : (budget : Counts) → Site → u.Process → Elab (Doing × Counts)
doing_steps budget here p = do
  ds ← drives_of here p.body
  on ← sensitivity here p.sensitivity p.body
  turned ← turns_paid budget (statements_costs here p.body)
  body ← statements here p.body
  Ok (record { drives = ds; sensitivity = on; turns = turned.0; body = body }, turned.1)

abbrev pub process_of : (prefix : List ℕ) → u.Process → List Variable → Doing → t.Process
process_of prefix p vs does = record {
  at = p.at;
  prefix = prefix;
  label = p.label;
  drives = does.drives;
  sensitivity = does.sensitivity;
  variables = vs;
  body = does.body;
  turns = does.turns;
}

-- a process with what it declares
abbrev pub made_with : (budget : Counts) → (prefix : List ℕ) → u.Process → ProcessVariables → Elab (t.Process × Counts)
made_with budget prefix p d = do
  does ← doing_steps budget d.site p
  Ok (process_of prefix p d.variables does.0, does.1)

unfoldable pub process_steps : (budget : Counts) → Spot → u.Process → Elab (t.Process × Counts)
process_steps budget here p = do
  unstarted ← spent p.at budget a_process
  d ← process_declarations (no_variables here.site) p.declarations
  unbodied ← spent p.at unstarted (variables_costs d.variables)
  made_with unbodied here.prefix p d
