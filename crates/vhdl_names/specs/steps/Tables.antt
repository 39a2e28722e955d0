-- What instances see of the entities of a file, entity by entity.
use Rattle.std.specs.Prelude.{List, [], ◌∷◌, ◌++◌, map, Option, Some}
use Rattle.vhdl_names_rules.specs.Rules.{◌>>=◌}
use Rattle.vhdl_names_rules.specs.Visibility.{Name}
use Rattle.vhdl_names_rules.specs.Interfaces.{EntityView}
use Rattle.vhdl_names_units.specs.Once.{names_view, one_name}
use Rattle.vhdl_names_instances.specs.Table.{Seen, seen, seens_view}
use Rattle.vhdl_names_instances.specs.declared.instances.InstanceEntities.{InstanceEntities}

pub record TableView : Type 0 where
  pub names : List Name
  pub formals : List Seen

abbrev pub table_view : InstanceEntities → TableView
table_view t = record { names = names_view t.names; formals = seens_view t.formals }

abbrev pub with_seen : TableView → EntityView → Option TableView
with_seen t e = one_name t.names e.name >>= λ ns. Some (record { names = ns; formals = t.formals ++ seen e ∷ [] })

abbrev pub no_table : TableView
no_table = record { names = []; formals = [] }

abbrev pub table_of : List EntityView → TableView
table_of es = record { names = map (λ (e : EntityView). e.name) es; formals = map seen es }
