-- When a body fits its process and the nets: each net, place and element is there and has the type that is wanted of
-- it, and each length is one that a vector can have, and the one that is wanted of it.
use Rattle.std.specs.Prelude.{◌≡◌, ℕ, ◌+◌, ◌<◌, ◌≤◌, max, ⊤, All, List, length, slice_get, Some}
use Rattle.vhdl_values.specs.Shifts.{counted_length, IsCount}
use Rattle.vhdl_numbers.specs.Operators.{signed_length}
use Rattle.rtl_model.specs.bodies.Body.{Operator, logical, joined, plus, minus, times, signed, Expr, signal, variable, constant}
use Rattle.rtl_model.specs.bodies.Body.{inverse, filled, binary, counted, shifted, converted, chosen}
use Rattle.rtl_model.specs.bodies.Body.{Value, elements, position, position_of, position_in}
use Rattle.rtl_model.specs.bodies.Rows.{Spacing}
use Rattle.rtl_model.specs.bodies.Body.{Test, condition, decided, equal, unequal, level, compared, compared_to}
use Rattle.rtl_model.specs.bodies.Body.{rising, falling, event, negated, combined}
use Rattle.rtl_model.specs.bodies.Body.{Stmt, null_of, assign, set, assign_at, set_at, if_of, case_of, Stmts, done, step}
use Rattle.rtl_model.specs.bodies.Body.{Branches, no_else, otherwise, branch, Alternatives, others, alternative}
use Rattle.rtl_model.specs.bodies.Types.{ElementType, nine_valued, enumeration, limit_of, HasType}

-- ---- lengths

-- the length of an operator's result
abbrev pub operated_width : Operator → ℕ → ℕ → ℕ
operated_width (logical op) m n = m
operated_width joined m n = m + n
operated_width plus m n = max m n
operated_width minus m n = max m n
operated_width times m n = m + n
operated_width (signed op) m n = signed_length op m n

abbrev pub width : Expr → ℕ
width (signal nets) = length nets
width (variable es) = length es
width (constant values) = length values
width (inverse e) = width e
width (filled len e) = len
width (binary op d e) = operated_width op (width d) (width e)
width (counted op count e) = counted_length op count (width e)
width (shifted by count e) = width e
width (converted by e) = width e
width (chosen index spacing rows) = spacing.len

abbrev pub value_width : Value → ℕ
value_width (elements e) = width e
value_width (position n) = 1
value_width (position_of net) = 1
value_width (position_in element) = 1

-- a vector has 1 to 64 elements
abbrev pub IsWidth : ℕ → Type 0
IsWidth n = (1 ≤ n) × (n ≤ 64)

-- the operands of a logical operator are as long as each other
abbrev pub FitsOperands : Operator → ℕ → ℕ → Type 0
FitsOperands (logical op) m n = m ≡ n
FitsOperands _ m n = ⊤

-- rows that a vector can have, each of which begins behind the one before it
abbrev pub IsSpacing : Spacing → Type 0
IsSpacing spacing = IsWidth spacing.len × (1 ≤ spacing.step)

-- ---- the parts of a body

-- what a body stands in: the types of the nets and of the process's variable elements, and the nets of its drivers
pub record Scope : Type 0 where
  pub nets : List ElementType
  pub variables : List ElementType
  pub targets : List ℕ

module _ (scope : Scope) where
  -- what rows lie in: a name or a constant, however long it is
  abbrev pub HoldsRows : Expr → Type 0
  HoldsRows (signal nets) = All (HasType scope.nets nine_valued) nets
  HoldsRows (variable es) = All (HasType scope.variables nine_valued) es
  HoldsRows (constant values) = ⊤
  HoldsRows _ = ⊥

  abbrev pub FitsExpr : Expr → Type 0
  FitsExpr (signal nets) = IsWidth (length nets) × All (HasType scope.nets nine_valued) nets
  FitsExpr (variable es) = IsWidth (length es) × All (HasType scope.variables nine_valued) es
  FitsExpr (constant values) = IsWidth (length values)
  FitsExpr (inverse e) = FitsExpr e
  FitsExpr (filled len e) = IsWidth len × FitsExpr e × (width e ≡ 1)
  FitsExpr (binary op d e) =
      IsWidth (operated_width op (width d) (width e)) × FitsExpr d × FitsExpr e × FitsOperands op (width d) (width e)
  FitsExpr (counted op count e) = IsCount op count × FitsExpr e
  FitsExpr (shifted by count e) = FitsExpr count × FitsExpr e
  FitsExpr (converted by e) = FitsExpr e
  FitsExpr (chosen index spacing rows) =
      IsSpacing spacing × FitsExpr index × HoldsRows rows × (spacing.len ≤ width rows)

  -- the value's elements are of this type, or it is one of this enumeration's
  abbrev pub FitsAs : ElementType → Value → Type 0
  FitsAs nine_valued (elements e) = FitsExpr e
  FitsAs (enumeration literals) (position n) = n < literals
  FitsAs (enumeration literals) (position_of net) = HasType scope.nets (enumeration literals) net
  FitsAs (enumeration literals) (position_in element) = HasType scope.variables (enumeration literals) element
  FitsAs _ _ = ⊥

  -- both are of one type
  abbrev pub FitBoth : Value → Value → Type 0
  FitBoth v w = (t : ElementType) × FitsAs t v × FitsAs t w

  abbrev pub FitsTest : Test → Type 0
  FitsTest (condition e) = FitsExpr e × (width e ≡ 1)
  FitsTest (decided b) = ⊤
  FitsTest (equal v w) = FitBoth v w
  FitsTest (unequal v w) = FitBoth v w
  FitsTest (level plain net v) = HasType scope.nets nine_valued net
  FitsTest (compared op d e) = FitsExpr d × FitsExpr e
  FitsTest (compared_to op e n) = FitsExpr e
  FitsTest (rising net) = HasType scope.nets nine_valued net
  FitsTest (falling net) = HasType scope.nets nine_valued net
  FitsTest (event net) = HasType scope.nets nine_valued net
  FitsTest (negated t) = FitsTest t
  FitsTest (combined op s t) = FitsTest s × FitsTest t

  -- the driver at this place is there, and its net has this type
  abbrev pub DrivesType : ElementType → (place : ℕ) → Type 0
  DrivesType t place = (net : ℕ) × (slice_get scope.targets place ≡ Some net) × HasType scope.nets t net

  -- what is assigned to: as many as the value has elements, and of its type
  abbrev pub FitsTarget : (OfType : ElementType → ℕ → Type 0) → (target : List ℕ) → Value → Type 0
  FitsTarget OfType target v = (t : ElementType) × FitsAs t v × (length target ≡ value_width v) × All (OfType t) target

  -- the same of a row, whose elements are of the nine values, and there is one
  abbrev pub FitsTargetAt : (OfType : ElementType → ℕ → Type 0) → Expr → Spacing → (target : List ℕ) → Expr → Type 0
  FitsTargetAt OfType index spacing target e =
      IsSpacing spacing × FitsExpr index × FitsExpr e × (spacing.len ≡ width e) × All (OfType nine_valued) target
      × (spacing.len ≤ length target)

  -- a choice is as long as the value, and of its type
  abbrev pub FitsChoice : ElementType → (len : ℕ) → List ℕ → Type 0
  FitsChoice t len choice = (length choice ≡ len) × All (λ n. n < limit_of t) choice

  abbrev mutual
    pub FitsStmt : Stmt → Type 0
    FitsStmt null_of = ⊤
    FitsStmt (assign places v) = FitsTarget DrivesType places v
    FitsStmt (set es v) = FitsTarget (HasType scope.variables) es v
    FitsStmt (assign_at index spacing places e) = FitsTargetAt DrivesType index spacing places e
    FitsStmt (set_at index spacing es e) = FitsTargetAt (HasType scope.variables) index spacing es e
    FitsStmt (if_of bs) = FitsBranches bs
    FitsStmt (case_of v alts) = (t : ElementType) × FitsAs t v × FitsAlternatives t (value_width v) alts

    pub Fits : Stmts → Type 0
    Fits done = ⊤
    Fits (step s rest) = FitsStmt s × Fits rest

    pub FitsBranches : Branches → Type 0
    FitsBranches no_else = ⊤
    FitsBranches (otherwise s) = Fits s
    FitsBranches (branch t s bs) = FitsTest t × Fits s × FitsBranches bs

    pub FitsAlternatives : ElementType → (len : ℕ) → Alternatives → Type 0
    FitsAlternatives t len (others s) = Fits s
    FitsAlternatives t len (alternative choices s alts) =
        All (FitsChoice t len) choices × Fits s × FitsAlternatives t len alts
