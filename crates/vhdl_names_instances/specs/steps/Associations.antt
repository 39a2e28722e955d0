-- Associations in the order in which the code comes to them.
use Rattle.std.specs.Prelude.{ℕ, suc, Bool, false, not, ◌||◌, List, [], ◌∷◌, map, Option, Some, None, slice_get}
use Rattle.vhdl_tree.specs.Tree.{Ident, Expr, Association}
use Rattle.vhdl_names_rules.specs.declared.fault.NameProblem.TheVariants.{Undeclared, WrongKind}
use Rattle.vhdl_names_rules.specs.Rules.{◌>>=◌, ◌>>◌, rule}
use Rattle.vhdl_names_rules.specs.Visibility.{Name}
use Rattle.vhdl_names_rules.specs.Instances.{is_named, expression_of, actual_of}
pub use Rattle.vhdl_names_rules.specs.Visibility.{is_among}
pub use Rattle.vhdl_names_units.specs.Once.{one_name}

-- the name of the formal that an association at a place is for
abbrev pub formal_at : List Name → ℕ → Option Ident → Option Name
formal_at formals k (Some i) = Some i.text
formal_at formals k None = slice_get formals k

-- one more association, which may stand behind a named one
abbrev pub one_taken : List Name → ℕ → Bool → List Name → Association → Option (List Name)
one_taken formals k behind taken a = do
  rule WrongKind (not behind || is_named a)
  n ← formal_at formals k a.formal
  rule Undeclared (is_among n formals)
  one_name taken n

abbrev pub taking : List Name → ℕ → Bool → List Name → List Association → Option (List Name)
taking formals k behind taken [] = Some taken
taking formals k behind taken (a ∷ as') =
    one_taken formals k behind taken a >>= λ ns. taking formals (suc k) (is_named a) ns as'

abbrev pub all_taken : List Name → List Association → Option (List Name)
all_taken formals as' = taking formals 0 false [] as'

-- the actual of each formal
abbrev pub actuals : List Name → List Name → List Association → List (Option Expr)
actuals formals taken as' = map (λ n. actual_of n taken as') formals

-- the actual of the association at a place
abbrev pub actual_at : List Association → Option ℕ → Option Expr
actual_at as' o = o >>= λ i. slice_get as' i >>= λ a. expression_of a.actual
