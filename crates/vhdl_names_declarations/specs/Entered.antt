-- Declarations that enter a region, in which no name is declared twice (IEEE 1076-2008, 12.1).
use Rattle.std.specs.Prelude.{ℕ, List, ◌++◌, Option, Some}
use Rattle.vhdl_tree.specs.Tree.{Ident}
use Rattle.vhdl_names_rules.specs.declared.fault.NameProblem.TheVariants.{Twice}
use Rattle.vhdl_names_rules.specs.Rules.{◌>>=◌, ◌>>◌, rule}
use Rattle.vhdl_names_rules.specs.Visibility.{Name, Declared, Sight, Declares, are_distinct, with_declared, with_variables}
use Rattle.vhdl_names_rules.specs.Interfaces.{declared_names}

-- a name at a byte
abbrev pub ident : ℕ → Name → Ident
ident at n = record { at = at; text = n }

-- a region with further declarations
abbrev pub more : List Declared → List Declared → Option (List Declared)
more ds es = do
  rule Twice (are_distinct (declared_names (ds ++ es)))
  Some (ds ++ es)

-- what is in sight behind declarations of a region, or of a process, and what is analysed of them
abbrev pub entered : {A : Type 0} → Sight → Declares A → Option (Sight × List A)
entered sight x = do
  rule Twice (are_distinct (declared_names (sight.region ++ x.declared)))
  Some (with_declared sight x.declared, x.analysed)

abbrev pub entered_variables : {A : Type 0} → Sight → Declares A → Option (Sight × List A)
entered_variables sight x = do
  rule Twice (are_distinct (declared_names (sight.variables ++ x.declared)))
  Some (with_variables sight x.declared, x.analysed)

-- the same of what a declaration declares, or several
abbrev pub entering : {A B : Type 0} → (Sight → A → Option (Declares B)) → Sight → A → Option (Sight × List B)
entering declares sight d = declares sight d >>= entered sight

abbrev pub entering_variables : {A B : Type 0} → (Sight → A → Option (Declares B)) → Sight → A → Option (Sight × List B)
entering_variables declares sight d = declares sight d >>= entered_variables sight
