-- What contracts see of variables.
use Rattle.std.specs.Prelude.{◌≡◌, [], map, Ok}
use Rattle.rtl_model.specs.bodies.Fits.{IsWidth}
use Rattle.vhdl_names_rules.specs.units.Units as u
use Rattle.vhdl_expand_rules.specs.Declarations.{ProcessVariables, variable, with_variable}
use Rattle.vhdl_expand_rules.specs.Elab.{Elab, ◌>>=◌}
use Rattle.vhdl_expand_rules.specs.Kinds as kinds
use Rattle.vhdl_expand_rules.specs.Kinds.{size}
use Rattle.vhdl_expand_rules.specs.views.Kinds.{kind_view}
use Rattle.vhdl_expand_rules.specs.Site.{Site}
use Rattle.vhdl_expand_bodies.specs.Sites.{placed_kind}
use Rattle.vhdl_expand_bodies.specs.declared.site.Site as code_site
use Rattle.vhdl_expand_tree.specs.declared.tree.Variable.{Variable}
use Rattle.vhdl_expand_tree.specs.Views.{variable_view}
use Rattle.vhdl_expand_declarations.specs.Regions.{region_view, with_own}
use Rattle.vhdl_expand_declarations.specs.declared.declared.ProcessVariables as code

abbrev pub variable_kind : Variable → kinds.ObjectKind
variable_kind v = kind_view v.kind

-- it has from 1 to 64 elements
abbrev pub HasWidth : Variable → Type 0
HasWidth v = IsWidth (size (variable_kind v))

-- one more
abbrev pub next_variable : ProcessVariables → u.Object → Elab ProcessVariables
next_variable d o = do
  v ← variable d.site o
  Ok (with_variable d v)

-- it is no site of a process that declares something
pub record IsOuter (s : code_site.Site) : Type 0 where
  pub integers : s.integers.own_constants.now ≡ []
  pub constants : s.own_constants.now ≡ []
  pub ranges : s.integers.own_ranges.now ≡ []

-- of a process that stands at a site, with what it declares
abbrev pub variables_view : Site → code.ProcessVariables → ProcessVariables
variables_view here d = record {
  site = record (with_own here (region_view d.region)) { variables = map placed_kind d.layout.things.items };
  variables = map variable_view d.variables.items;
}
