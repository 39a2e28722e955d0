-- Names that stand once, one after another.
use Rattle.std.specs.Prelude.{ℕ, not, List, [], ◌∷◌, ◌++◌, map, Option, Vec}
use Rattle.std.specs.Global.{Global}
use Rattle.indexmap.specs.IndexSet.{IndexSet}
use Rattle.vhdl_names_rules.specs.declared.fault.NameProblem.TheVariants.{Twice}
use Rattle.vhdl_names_rules.specs.Rules.{given_that}
use Rattle.vhdl_names_rules.specs.Visibility.{Name, is_among}

-- one more name, which none before it is
abbrev pub one_name : List Name → Name → Option (List Name)
one_name ns n = given_that Twice (not (is_among n ns)) (ns ++ n ∷ [])

abbrev pub names_view : {S : Type 0} → IndexSet (Vec ℕ Global) S → List Name
names_view s = map (λ (v : Vec ℕ Global). v.items) s.keys
