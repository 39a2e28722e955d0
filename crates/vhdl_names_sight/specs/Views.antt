-- What contracts see of declarations.
use Rattle.std.specs.Prelude.{ℕ, List, map, option_map, Vec}
use Rattle.std.specs.Global.{Global}
use Rattle.indexmap.specs.IndexMap.{IndexMap}
use Rattle.vhdl_names_rules.specs.Visibility as visibility
use Rattle.vhdl_names_rules.specs.Visibility.{Name}
use Rattle.vhdl_names_rules.specs.views.Ranges.{declared_range_view}
use Rattle.vhdl_names_sight.specs.declared.meaning.Meaning.{Meaning}
use Rattle.vhdl_names_sight.specs.declared.meaning.Meaning.TheVariants as m
use Rattle.vhdl_names_sight.specs.declared.meaning.Entry.{Entry}
use Rattle.vhdl_names_sight.specs.declared.meaning.Declared.{Declared}

abbrev pub meaning_view : Meaning → visibility.Meaning
meaning_view (m.Generic k) = visibility.generic k
meaning_view (m.IntegerConstant k) = visibility.integer_constant k
meaning_view (m.GenerateParameter k) = visibility.generate_parameter k
meaning_view (m.LoopParameter k) = visibility.loop_parameter k
meaning_view (m.BooleanGeneric k) = visibility.boolean_generic k
meaning_view (m.BooleanConstant k) = visibility.boolean_constant k
meaning_view (m.BooleanLiteral b) = visibility.boolean_literal b
meaning_view (m.Port k mode type) = visibility.port k mode type
meaning_view (m.Signal k type) = visibility.signal k type
meaning_view (m.Variable k type) = visibility.variable k type
meaning_view (m.Constant k kind values) = visibility.constant k kind (option_map (λ vs. vs.items) values)
meaning_view (m.Literal number count position) = visibility.literal number count position
meaning_view (m.IntegerType w) = visibility.integer_type w
meaning_view m.BooleanType = visibility.boolean_type
meaning_view (m.ElementType r) = visibility.element_type r
meaning_view (m.VectorType kind r) = visibility.vector_type kind r
meaning_view (m.EnumerationType number count) = visibility.enumeration_type number count
meaning_view (m.Function f) = visibility.function f
meaning_view (m.Component k) = visibility.component k
meaning_view m.Label = visibility.label
meaning_view m.Unfinished = visibility.unfinished

-- what a name is declared to be
abbrev pub entry_of : Name → Entry → visibility.Declared
entry_of n e = record {
  name = n;
  meaning = meaning_view e.meaning;
  range = option_map declared_range_view e.range;
  is_global = e.is_global;
}

abbrev pub declared_view : Declared → visibility.Declared
declared_view d = entry_of d.name.items d.entry

abbrev pub entry_view : Vec ℕ Global × Entry → visibility.Declared
entry_view e = entry_of e.0.items e.1

abbrev pub region_view : {S : Type 0} → IndexMap (Vec ℕ Global) Entry S → List visibility.Declared
region_view r = map entry_view r.entries
