-- A body that stands soundly in a unit is expanded to one that fits (IEEE 1076-2008, clause 10).
use Rattle.std.specs.Prelude.{◌≡◌, true, Ok}
use Rattle.rtl_model.specs.bodies.Body as bodies
use Rattle.rtl_model.specs.bodies.Fits.{Fits}
use Rattle.vhdl_names_rules.specs.units.Statements.{Statements}
use Rattle.vhdl_names_rules.specs.sound.Expressions.{Inside}
use Rattle.vhdl_names_rules.specs.sound.Statements.{statements_fit}
use Rattle.vhdl_expand_rules.specs.Site.{Site}
use Rattle.vhdl_expand_rules.specs.Statements.{statements}
use Rattle.vhdl_expand_rules.specs.laws.Sites.{IsSite, scope_at}

abbrev pub EachBodyFits : Type 0
EachBodyFits =
    (i : Inside) (here : Site) (s : Statements) (body : bodies.Stmts)
    → IsSite i here → statements_fit i s ≡ true → statements here s ≡ Ok body
    → Fits (scope_at here) body
