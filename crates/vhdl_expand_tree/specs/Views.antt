-- What contracts see of the code's tree: the tree of the definitions. Where statements start, it leaves out.
use Rattle.std.specs.Prelude.{List, [], ◌∷◌, map, option_map, Vec}
use Rattle.std.specs.Global.{Global}
use Rattle.rtl_net.specs.Bodies.{statements_of}
use Rattle.vhdl_expand_rules.specs.views.Kinds.{kind_view}
use Rattle.vhdl_expand_rules.specs.Tree as tree
use Rattle.vhdl_expand_rules.specs.Expansion as expansion
use Rattle.vhdl_elab_rules.specs.Limits.{Counts}
use Rattle.vhdl_expand_tree.specs.declared.tree.Role.{Role}
use Rattle.vhdl_expand_tree.specs.declared.tree.Role.TheVariants as r
use Rattle.vhdl_expand_tree.specs.declared.tree.Object.{Object}
use Rattle.vhdl_expand_tree.specs.declared.tree.Variable.{Variable}
use Rattle.vhdl_expand_tree.specs.declared.tree.Sensitivity.{Sensitivity}
use Rattle.vhdl_expand_tree.specs.declared.tree.Sensitivity.TheVariants as s
use Rattle.vhdl_expand_tree.specs.declared.tree.Process.{Process}
use Rattle.vhdl_expand_tree.specs.declared.tree.Instance.{Instance}
use Rattle.vhdl_expand_tree.specs.declared.tree.InstancePart.{InstancePart}
use Rattle.vhdl_expand_tree.specs.declared.tree.InstancePart.TheVariants as p
use Rattle.vhdl_expand_tree.specs.declared.tree.InstancePart.TheBlock.{Row_of-InstancePart, end_of-InstancePart, more_of-InstancePart}
use Rattle.vhdl_expand_tree.specs.declared.tree.Design.{Design}
use Rattle.vhdl_expand_tree.specs.declared.budget.Budget.{Budget}

abbrev pub budget_view : Budget → Counts
budget_view b = record {
  processes = b.processes;
  instances = b.instances;
  nets = b.nets;
  turns = b.turns;
  statements = b.statements;
  variable_elements = b.variable_elements;
}

-- ---- objects and processes

abbrev pub role_view : Role → tree.Role
role_view r.Input = tree.input
role_view r.Output = tree.output
role_view r.Internal = tree.internal

abbrev pub object_view : Object → tree.Object
object_view o = record {
  at = o.at;
  name = o.name.items;
  role = role_view o.role;
  kind = kind_view o.kind;
  is_resolved = o.is_resolved;
  starts = o.starts.items;
  actual = option_map (λ v. v.items) o.actual;
}

abbrev pub variable_view : Variable → tree.Variable
variable_view v = record { name = v.name.items; kind = kind_view v.kind; starts = v.starts.items }

abbrev pub sensitivity_view : Sensitivity → tree.Sensitivity
sensitivity_view (s.Listed es) = tree.listed es.items
sensitivity_view (s.Every es) = tree.every es.items
sensitivity_view s.AsRead = tree.as_read

abbrev pub process_view : Process → tree.Process
process_view p = record {
  at = p.at;
  prefix = p.prefix.items;
  label = option_map (λ v. v.items) p.label;
  drives = p.drives.items;
  sensitivity = sensitivity_view p.sensitivity;
  variables = map variable_view p.variables.items;
  body = statements_of p.body.items;
  turns = p.turns;
}

-- ---- instances

abbrev mutual
  -- a part, before others
  pub part_before : tree.Parts → InstancePart → tree.Parts
  part_before rest (p.Process x) = tree.process (process_view x) rest
  part_before rest (p.Instance' label objects turns shape parts) =
      tree.inner label.items (tree.instance (map object_view objects.items) turns (parts_row parts)) rest

  pub parts_row : {n : _} → Row_of-InstancePart n → tree.Parts
  parts_row end_of-InstancePart = tree.no_parts
  parts_row (more_of-InstancePart x rest) = part_before (parts_row rest) x

-- the same of a list
abbrev pub parts_of : List InstancePart → tree.Parts
parts_of [] = tree.no_parts
parts_of (x ∷ xs) = part_before (parts_of xs) x

abbrev pub parts_view : Vec InstancePart Global → tree.Parts
parts_view v = parts_of v.items

abbrev pub objects_view : Vec Object Global → List tree.Object
objects_view v = map object_view v.items

abbrev pub instance_view : Instance → tree.Instance
instance_view i = tree.instance (objects_view i.objects) i.turns (parts_view i.parts)

abbrev pub design_view : Design → expansion.Design
design_view d = record { name = d.name.items; top = instance_view d.top }
