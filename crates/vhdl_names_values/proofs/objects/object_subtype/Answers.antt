use Rattle.std.proofs.Common.{◌≡◌}
use Rattle.vhdl_lexer.specs.declared.language.Language.TheVariants.{Profile, Wide}
use Rattle.vhdl_tree.specs.View as tree
use Rattle.vhdl_names_rules.proofs.Along.{gives_along}
use Rattle.vhdl_names_units.specs.views.Answers.{subtype_view}
use Rattle.vhdl_names_expressions.proofs.Breaking.{told_as}
use Rattle.std.proofs.Common.{sym}
use Rattle.vhdl_names_values.proofs.Indicated.{object_narrow, narrow_breaks}
use Rattle.vhdl_names_values.proofs.objects.object_subtype.Goals as goal

pub returns-in-Profile : goal.returns-in-Profile
returns-in-Profile c =
    let s = c.args.sight.now in
    let i = tree.subtype_view c.args.indication.now in
    let narrow : s.language ≡ Profile = rw (← c.sight.view_is) c.in-Profile.is in
    record {
      given = gives_along subtype_view _ _ _ (object_narrow s i narrow) c.subtype.ensures.given;
      told = told_as _ _ _ (sym (narrow_breaks s i narrow)) c.subtype.ensures.told;
    }

pub wide_subtype-requires : goal.wide_subtype-requires
wide_subtype-requires c =
    let s = c.args.sight.now in
    let wide : s.language ≡ Wide = rw (← c.sight.view_is) c.in-Wide.is in
    wide
