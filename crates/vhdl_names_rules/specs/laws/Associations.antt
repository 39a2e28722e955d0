-- The laws of associations (IEEE 1076-2008, 6.5.7).
use Rattle.std.specs.Prelude.{◌≡◌, ℕ, List, length, slice_get, Option, Some, None}
use Rattle.vhdl_tree.specs.Tree.{Ident, Expr, Association}
use Rattle.vhdl_names_rules.specs.Visibility.{Name}
use Rattle.vhdl_names_rules.specs.Instances.{expression_of, associated}

-- The association at a place, with this formal part, is for the formal of this name: for the one that it names, or
-- without a name for the one of its place.
abbrev pub IsFor : List Name → ℕ → Option Ident → Name → Type 0
IsFor formals k (Some i) n = i.text ≡ n
IsFor formals k None n = slice_get formals k ≡ Some n

pub record AreForFormals (formals : List Name) (associations : List Association)
    (actuals : List (Option Expr)) : Type 0 where
  -- each association is for a formal of the list,
  pub each_for_one : (k : ℕ) (a : Association) → slice_get associations k ≡ Some a
      → (i : ℕ) × (n : Name) × (slice_get formals i ≡ Some n) × IsFor formals k a.formal n
  -- and no two are for the same.
  pub once : (j k : ℕ) (a b : Association) (n : Name)
      → slice_get associations j ≡ Some a → slice_get associations k ≡ Some b
      → IsFor formals j a.formal n → IsFor formals k b.formal n → j ≡ k
  -- There is an entry for each formal, in the formals' order:
  pub as_many : length actuals ≡ length formals
  -- the actual of its association,
  pub entry : (i k : ℕ) (n : Name) (a : Association) → slice_get formals i ≡ Some n → slice_get associations k ≡ Some a
      → IsFor formals k a.formal n → slice_get actuals i ≡ Some (expression_of a.actual)
  -- and none where no association is for it.
  pub no_entry : (i : ℕ) (n : Name) → slice_get formals i ≡ Some n
      → ((k : ℕ) (a : Association) → slice_get associations k ≡ Some a → IsFor formals k a.formal n → ⊥)
      → slice_get actuals i ≡ Some None

abbrev pub FormalsHaveActuals : Type 0
FormalsHaveActuals = (formals : List Name) (associations : List Association) (actuals : List (Option Expr))
    → associated formals associations ≡ Some actuals → AreForFormals formals associations actuals
