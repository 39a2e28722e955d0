-- What is counted of a body before its loops are unrolled is what the unrolled body has.
use Rattle.std.specs.Prelude.{◌≡◌, ℕ, Ok}
use Rattle.vhdl_names_rules.specs.units.Statements as u
use Rattle.rtl_model.specs.bodies.Body as bodies
use Rattle.vhdl_expand_rules.specs.Site.{Site}
use Rattle.vhdl_expand_rules.specs.Statements.{statements, statements_turns}
use Rattle.vhdl_elab_rules.specs.Limits.{statements_count}
use Rattle.vhdl_expand_tree.specs.Costs.{no_costs}
use Rattle.vhdl_expand.specs.Unrolled.{statements_costs}

-- where a body is expanded, its loops have so many turns, and it costs these and as many statements as the expanded
-- body has
abbrev pub CountedAsUnrolled : Type 0
CountedAsUnrolled = (at : Site) (body : u.Statements) (x : bodies.Stmts) → statements at body ≡ Ok x
    → (n : ℕ) × ((statements_turns at body ≡ Ok n)
    × (statements_costs at body ≡ Ok (record no_costs { turns = n; statements = statements_count x })))
