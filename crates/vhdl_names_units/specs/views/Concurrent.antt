-- Concurrent statements of the code.
use Rattle.std.specs.Prelude.{ℕ, List, [], ◌∷◌, map, option_map, Vec}
use Rattle.std.specs.Global.{Global}
use Rattle.vhdl_tree.specs.declared.expression.Identifier.{Identifier}
use Rattle.vhdl_names_rules.specs.units.Units as u
use Rattle.vhdl_names_trees.specs.views.Integers.{range_view}
use Rattle.vhdl_names_trees.specs.views.Vectors.{place_view}
use Rattle.vhdl_names_trees.specs.views.Tests.{static_test_view}
use Rattle.vhdl_names_units.specs.views.Actuals.{each_actual}
use Rattle.vhdl_names_units.specs.views.Sequential.{statements_of, statements_view}
use Rattle.vhdl_names_units.specs.views.Declarations.{declarations_view}
use Rattle.vhdl_names_units.specs.views.Answers.{fixed_view}
use Rattle.vhdl_names_units.specs.declared.concurrent.Sensitivity.{Sensitivity}
use Rattle.vhdl_names_units.specs.declared.concurrent.Sensitivity.TheVariants as e
use Rattle.vhdl_names_units.specs.declared.concurrent.Process.{Process}
use Rattle.vhdl_names_units.specs.declared.concurrent.Instance.{Instance}
use Rattle.vhdl_names_units.specs.declared.concurrent.Scheme.{Scheme}
use Rattle.vhdl_names_units.specs.declared.concurrent.Scheme.TheVariants as k
use Rattle.vhdl_names_units.specs.declared.concurrent.Concurrent.{Concurrent}
use Rattle.vhdl_names_units.specs.declared.concurrent.Concurrent.TheVariants as c
use Rattle.vhdl_names_units.specs.declared.concurrent.Concurrent.TheBlock.{Row_of-Concurrent, end_of-Concurrent, more_of-Concurrent}

abbrev pub text_of : Identifier → List ℕ
text_of i = i.text.items

abbrev pub sensitivity_view : Sensitivity → u.Sensitivity
sensitivity_view (e.Listed ps) = u.listed (map place_view ps.items)
sensitivity_view e.All = u.every
sensitivity_view e.AsRead = u.as_read

abbrev pub process_view : Process → u.Process
process_view p = record {
  at = p.at;
  label = option_map text_of p.label;
  declarations = declarations_view p.declarations;
  sensitivity = sensitivity_view p.sensitivity;
  body = statements_of (statements_view p.statements);
}

abbrev pub instance_view : Instance → u.Instance
instance_view i = record {
  at = i.label.at;
  label = i.label.text.items;
  unit = i.unit;
  generics = map (option_map fixed_view) (each_actual i.generics);
  ports = map (option_map place_view) (each_actual i.ports);
}

-- a generate of this label and body, whose scheme starts at this byte
abbrev pub generated : List ℕ → (at : ℕ) → u.Concurrents → Scheme → u.Concurrent
generated label at body (k.For r) = u.generate_for at label (range_view r) body
generated label at body (k.If t) = u.generate_if at label (static_test_view t) body

abbrev mutual
  pub concurrent_view : Concurrent → u.Concurrent
  concurrent_view (c.Process p) = u.process (process_view p)
  concurrent_view (c.Instance i) = u.instance (instance_view i)
  concurrent_view (c.Generate' label at scheme shape statements) =
      generated label.text.items at (concurrents_row statements) scheme

  pub concurrents_row : {m : _} → Row_of-Concurrent m → u.Concurrents
  concurrents_row end_of-Concurrent = u.no_concurrents
  concurrents_row (more_of-Concurrent x rest) = u.concurrent (concurrent_view x) (concurrents_row rest)

abbrev pub concurrents_of : List u.Concurrent → u.Concurrents
concurrents_of [] = u.no_concurrents
concurrents_of (x ∷ xs) = u.concurrent x (concurrents_of xs)

abbrev pub concurrents_view : Vec Concurrent Global → List u.Concurrent
concurrents_view v = map concurrent_view v.items

abbrev pub one_process : Process → u.Concurrent
one_process p = u.process (process_view p)
