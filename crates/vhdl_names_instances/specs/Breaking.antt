-- Which rules parts of instances break, in the order in which the code comes to them.
use Rattle.std.specs.Prelude.{ℕ, Bool, not, ◌||◌, List, Option, bytes_eq, codes, slice_get}
use Rattle.std.specs.List.{position_from}
use Rattle.vhdl_tree.specs.Tree.{Ident, Association}
use Rattle.vhdl_names_rules.specs.declared.fault.NameProblem.TheVariants.{Undeclared, Twice, WrongKind}
use Rattle.vhdl_names_rules.specs.Visibility.{Name, is_among}
use Rattle.vhdl_names_rules.specs.Instances.{is_named}
use Rattle.vhdl_names_rules.specs.problems.Broken.{Broken, ◌▸◌, unless, lacking, where_given}
use Rattle.vhdl_names_rules.specs.problems.Instances.{architecture}
use Rattle.vhdl_names_rules.specs.problems.Places.{association_place}
use Rattle.vhdl_names_instances.specs.Table.{Seen}
use Rattle.vhdl_names_instances.specs.steps.Associations.{formal_at}

-- which formal one more association is for, which may stand behind a named one
abbrev pub one_association : List Name → ℕ → Bool → List Name → Association → Broken
one_association formals k behind taken a =
    unless WrongKind (association_place a) (not behind || is_named a)
    ▸ lacking WrongKind (association_place a) (formal_at formals k a.formal)
    ▸ where_given (formal_at formals k a.formal) (λ n.
    unless Undeclared (association_place a) (is_among n formals)
    ▸ unless Twice (association_place a) (not (is_among n taken)))

-- the entity of a number, which is named at this byte, and whose architecture may be named
abbrev pub with_architecture : List Seen → Option Ident → ℕ → ℕ → Broken
with_architecture seens a at k =
    lacking Undeclared at (slice_get seens k) ▸ where_given (slice_get seens k) (λ e. architecture a e.architecture)

-- work . entity ( architecture )
abbrev pub entity_of : List Name → List Seen → Ident → Ident → Option Ident → Broken
entity_of names seens library n a =
    unless Undeclared library.at (bytes_eq library.text (codes "work"))
    ▸ lacking Undeclared n.at (position_from (bytes_eq n.text) 0 names)
    ▸ where_given (position_from (bytes_eq n.text) 0 names) (with_architecture seens a n.at)
