use Rattle.std.proofs.Common.{arith, ◌≡◌, ◌≢◌, ◌+◌, ◌<◌, length, get_or, drop, map, [], ◌∷◌, None, ap, sym, ◌∙◌}
use Rattle.vhdl_names_rules.specs.declared.fault.NameFault.TheVariants.{NoMemory}
use Rattle.vhdl_names_rules.specs.Rules.{◌>>=◌}
use Rattle.vhdl_names_rules.specs.Visibility.{declare}
use Rattle.vhdl_names_sight.specs.Views.{region_view}
use Rattle.vhdl_names_declarations.specs.Entered.{ident, more}
use Rattle.vhdl_names_rules.specs.declared.operator.IntegerType.TheVariants.{Integer}
use Rattle.vhdl_names_packages.specs.declared.packages.Builtin.TheVariants.{Integers}
use Rattle.vhdl_names_packages.specs.declared.packages.Row.{Row}
use Rattle.vhdl_names_packages.specs.Rows.{row_view}
use Rattle.vhdl_names_rules.specs.declared.fault.NameProblem.TheVariants.{Twice}
use Rattle.vhdl_names_rules.specs.Interfaces.{declared_names}
use Rattle.vhdl_names_rules.specs.problems.Broken.{Tells, refused}
use Rattle.vhdl_names_declarations.proofs.Breaking.{twice_alone}
use Rattle.vhdl_names_declarations.proofs.Regions.{next_of, none_left}
use Rattle.vhdl_names_rules.proofs.Passing.{passed_on, told_by}
use Rattle.vhdl_names_packages.proofs.packages.add_rows.Goals as goal

-- what the check takes for a row that is not there
no_row : Row
no_row = record { name = record { ref_ptr = (0, 0); now = [] }; builtin = Integers Integer }

pub returns-in_err-declare_name-clause-given : goal.returns-in_err-declare_name-clause-given
unfolding no_row
returns-in_err-declare_name-clause-given c =
    let lt : c.loop-row.row-index < length c.args.rows.now = omega arith in
    let f : c.in_err-declare_name.field-0.0 ≢ NoMemory → more (region_view c.args.region.now) (map row_view c.args.rows.now) ≡ None =
    λ n. c.loop-row.invariant
    ∙ next_of row_view (region_view c.loop-row.region) c.args.rows.now c.loop-row.row-index no_row lt
    ∙ ap (λ o. o >>= λ r. more r (map row_view (drop (c.loop-row.row-index + 1) c.args.rows.now)))
    (ap (λ m. more (region_view c.loop-row.region) (declare (get_or c.args.rows.now c.loop-row.row-index no_row).name.now m ∷ [])) (sym c.meaning.ensures) ∙ c.in_err-declare_name.ensures.given n) in
    passed_on _ _ c.in_err-declare_name.field-0.0 _ c.from_residual.result c.from_residual.ensures.1 (λ e p. p) f

pub returns-clause-given : goal.returns-clause-given
returns-clause-given c =
    c.loop-row.invariant ∙ none_left row_view c.loop-row.region.entries c.args.rows.now c.loop-row.row-index (omega arith) c.names_are_apart-2.ensures

pub returns-in_err-declare_name-clause-told : goal.returns-in_err-declare_name-clause-told
unfolding no_row
returns-in_err-declare_name-clause-told c =
    let name = (get_or c.args.rows.now c.loop-row.row-index no_row).name.now in
    let f : Tells (refused Twice 0) c.in_err-declare_name.field-0.0 =
    twice_alone (declared_names (region_view c.loop-row.region)) (ident 0 name) c.in_err-declare_name.field-0.0 c.in_err-declare_name.ensures.told in
    told_by _ c.in_err-declare_name.field-0.0 _ c.from_residual.result c.from_residual.ensures.1 (λ e p. p) f
