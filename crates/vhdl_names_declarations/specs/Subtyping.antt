-- What a subtype is declared to be, and what is analysed of it.
use Rattle.std.specs.Prelude.{ℕ, Bool, not, is_some, if◌then◌else◌, List, [], ◌∷◌, Option, Some, None}
use Rattle.vhdl_tree.specs.declared.operator.Direction.{Direction}
use Rattle.vhdl_tree.specs.Tree as t
use Rattle.vhdl_names_rules.specs.units.Units as u
use Rattle.vhdl_names_rules.specs.declared.fault.NameProblem.TheVariants.{LeftOut}
use Rattle.vhdl_names_rules.specs.Rules.{◌>>=◌, ◌>>◌, rule}
use Rattle.vhdl_names_rules.specs.Visibility.{Name, Sight, Meaning, Declared, Declares, declaration, declared_here}
use Rattle.vhdl_names_rules.specs.Subtypes as subtypes
use Rattle.vhdl_names_rules.specs.Subtypes.{integers_of, numbers_direction, form_range, form_direction}
use Rattle.vhdl_names_rules.specs.Declarations.{is_global, if_ranged, is_open, subtype_in, within_variables}
use Rattle.vhdl_names_rules.specs.problems.Broken.{Broken, nothing, ◌▸◌}
use Rattle.vhdl_names_rules.specs.problems.Declarations.{standing_twice, typed_subtype}
use Rattle.vhdl_names_rules.specs.problems.Subtypes as broken
use Rattle.vhdl_names_sight.specs.Views.{meaning_view}
use Rattle.vhdl_names_units.specs.declared.declaration.Declaration.{Declaration}
use Rattle.vhdl_names_units.specs.views.Declarations.{declaration_view}
use Rattle.vhdl_names_values.specs.Marking.{integers_with}
use Rattle.vhdl_names_declarations.specs.declared.counts.Counts.{Counts}
use Rattle.vhdl_names_declarations.specs.declared.subtypes.TypedSubtype.{TypedSubtype}
use Rattle.vhdl_names_declarations.specs.Settled.{range_from}

pub record Subtype : Type 0 where
  pub meaning : Meaning
  pub direction : Option Direction
  pub is_global : Bool
  pub analysed : List u.Declaration

abbrev pub analysed_view : Option Declaration → List u.Declaration
analysed_view None = []
analysed_view (Some d) = declaration_view d

abbrev pub subtype_view : TypedSubtype → Subtype
subtype_view s = record {
  meaning = meaning_view s.meaning;
  direction = s.direction;
  is_global = s.is_global;
  analysed = analysed_view s.analysed;
}

abbrev pub as_it_was : Sight → t.SubtypeDeclaration → Declared → Option Subtype
as_it_was sight d mark = Some (record {
  meaning = mark.meaning;
  direction = None;
  is_global = is_global sight d.subtype;
  analysed = [];
})

abbrev pub integers : Sight → u.Integers → t.SubtypeDeclaration → Declared → Option Subtype
integers sight base d mark = do
  s ← integers_with sight base d.subtype.constraint
  Some (record {
    meaning = mark.meaning;
    direction = numbers_direction mark s;
    is_global = is_global sight d.subtype;
    analysed = if_ranged (λ x. u.integer_subtype d.name.at s) (numbers_direction mark s);
  })

abbrev pub vector_subtype : (at : ℕ) → u.Form → List u.Declaration
vector_subtype at form = if_ranged (u.vector_subtype at) (form_range form)

abbrev pub constrained : Sight → t.SubtypeDeclaration → Declared → Option Subtype
constrained sight d mark = do
  s ← subtypes.subtype sight d.subtype
  Some (record {
    meaning = mark.meaning;
    direction = form_direction s.form;
    is_global = is_global sight d.subtype;
    analysed = vector_subtype d.name.at s.form;
  })

abbrev pub booleans : Sight → t.SubtypeDeclaration → Declared → Option Subtype
booleans sight d mark = rule LeftOut (not (is_some d.subtype.constraint)) >> as_it_was sight d mark

abbrev pub others : Sight → t.SubtypeDeclaration → Declared → Option Subtype
others sight d mark = if is_open mark d.subtype then as_it_was sight d mark else constrained sight d mark

abbrev pub by_class : Sight → t.SubtypeDeclaration → Declared → subtypes.TypeClass → Option Subtype
by_class sight d mark subtypes.integers = integers_of mark >>= λ base. integers sight base d mark
by_class sight d mark subtypes.booleans = booleans sight d mark
by_class sight d mark subtypes.others = others sight d mark

abbrev pub subtype : Sight → t.SubtypeDeclaration → Option Subtype
subtype sight d =
    declaration sight d.subtype.mark.text >>= λ mark. by_class sight d mark (subtypes.class_of mark.meaning)

-- the entry of its name, behind these counts
abbrev pub entered : Name → Subtype → Counts → Declared
entered n s c = record {
  name = n;
  meaning = s.meaning;
  range = range_from s.direction c.ranges;
  is_global = s.is_global;
}

-- which rules it breaks behind its mark
abbrev pub memory_alone : Broken
memory_alone = nothing

abbrev pub integers_break : Sight → t.SubtypeDeclaration → Broken
integers_break sight d = broken.integer_subtype sight d.subtype

abbrev pub booleans_break : t.SubtypeDeclaration → Broken
booleans_break d = broken.boolean_subtype d.subtype

abbrev pub constrained_break : Sight → t.SubtypeDeclaration → Broken
constrained_break sight d = broken.subtype sight d.subtype

abbrev pub others_break : Sight → t.SubtypeDeclaration → Declared → Broken
others_break sight d mark = if is_open mark d.subtype then nothing else constrained_break sight d

-- ---- of a process

abbrev pub of_process : Sight → t.SubtypeDeclaration → Option (Declares u.Declaration)
of_process sight d = subtype_in (within_variables sight (d.name ∷ [])) (declared_here sight) d

abbrev pub process_breaks : Sight → t.SubtypeDeclaration → Broken
process_breaks sight d =
    standing_twice sight.variables (d.name ∷ []) ▸ typed_subtype (within_variables sight (d.name ∷ [])) d
