-- Where a body leaves out an assignment: the first place in the text at which a path that takes none of it parts from
-- one that does. It's looked for in the first statement that assigns on some path and not on all, and there in the
-- first branch or alternative that doesn't on all.
use Rattle.std.specs.Prelude.{ℕ, ◌+◌, Bool, not, ◌&&◌, if◌then◌else◌, List, [], ◌∷◌, Option, Some, None}
use Rattle.rtl_model.specs.bodies.Assigns.{Target, must_assign, stmt_must_assign, stmt_assigns, stmts_assign}
use Rattle.rtl_model.specs.bodies.Body.{Stmts}
use Rattle.rtl_net.specs.Bodies.{statement_view, statements_row, statements_of}
use Rattle.rtl_net.specs.declared.body.Statement.{Statement}
use Rattle.rtl_net.specs.declared.body.Statement.TheVariants as s
use Rattle.rtl_net.specs.declared.body.Statement.TheBlock.{None', Some', Row_of-Statement, end_of-Statement, more_of-Statement, Row_of-Branch, end_of-Branch, more_of-Branch, Row_of-Alternative, end_of-Alternative, more_of-Alternative}
use Rattle.rtl_net.specs.declared.body.Branch.{Branch}
use Rattle.rtl_net.specs.declared.body.Alternative.{Alternative}
use Rattle.rtl_latches.specs.declared.omission.Omission.{Omission}
use Rattle.rtl_latches.specs.declared.omission.Omission.TheVariants as o

-- ---- whether an assignment of one of these targets stands in a part of a body, on whatever path

-- in a branch of an if, and in an alternative of a case
abbrev pub branch_assigns : (these : Target → Bool) → Branch → Bool
branch_assigns these b = stmts_assign these (statements_of b.statements.items)

abbrev pub alternative_assigns : (these : Target → Bool) → Alternative → Bool
alternative_assigns these b = stmts_assign these (statements_of b.statements.items)

-- ---- where it is left out

-- the byte of the source at which the statement starts
abbrev pub at_of : Omission → ℕ
at_of (o.NoElse at) = at
at_of (o.Branch at number) = at
at_of (o.Alternative at number) = at
at_of (o.Row at) = at

-- one of these is assigned on some path, and not on all
abbrev pub leaves_out : (these : Target → Bool) → Statement → Bool
leaves_out these x = stmt_assigns these (statement_view x) && not (stmt_must_assign these (statement_view x))

-- of a branch or an alternative that doesn't assign on all paths: what is found in it where it assigns on some, and
-- else itself
abbrev pub itself_or : (these : Target → Bool) → (itself : Omission)
    → Stmts → (within : Option Omission) → Option Omission
itself_or these itself xs within = if stmts_assign these xs then within else Some itself

abbrev mutual
  -- of an assignment to one of several rows, the assignment itself; of an if without an else, that no condition holds;
  -- else of its first branch, or of a case's first alternative, that doesn't assign on all paths. They are counted from
  -- 1, and the else and the others are the last.
  pub in_statement : (these : Target → Bool) → Statement → Option Omission
  in_statement these s.Null = None
  in_statement these (s.Assign places value) = None
  in_statement these (s.Set elements value) = None
  in_statement these (s.AssignAt at index spacing places value) = Some (o.Row at)
  in_statement these (s.SetAt at index spacing elements value) = Some (o.Row at)
  in_statement these (s.If' at shape branches None') = Some (o.NoElse at)
  in_statement these (s.If' at shape branches (Some' of_last last)) =
      in_branches these at
      (λ number. itself_or these (o.Branch at number) (statements_row last) (in_row these last)) 1 branches
  in_statement these (s.Case' at selector shape alternatives of_last last) =
      in_alternatives these at
      (λ number. itself_or these (o.Alternative at number) (statements_row last) (in_row these last)) 1 alternatives

  -- of a sequence, in its first statement that leaves the assignment out
  pub in_row : {n : _} → (these : Target → Bool) → Row_of-Statement n → Option Omission
  in_row these end_of-Statement = None
  in_row these (more_of-Statement x rest) = if leaves_out these x then in_statement these x else in_row these rest

  pub in_branches : {n : _} → (these : Target → Bool) → (at : ℕ)
      → (last : ℕ → Option Omission) → (number : ℕ) → Row_of-Branch n → Option Omission
  in_branches these at last number end_of-Branch = last number
  in_branches these at last number (more_of-Branch test shape xs rest) =
      if must_assign these (statements_row xs) then in_branches these at last (number + 1) rest
      else itself_or these (o.Branch at number) (statements_row xs) (in_row these xs)

  pub in_alternatives : {n : _} → (these : Target → Bool) → (at : ℕ)
      → (last : ℕ → Option Omission) → (number : ℕ) → Row_of-Alternative n → Option Omission
  in_alternatives these at last number end_of-Alternative = last number
  in_alternatives these at last number (more_of-Alternative choices shape xs rest) =
      if must_assign these (statements_row xs) then in_alternatives these at last (number + 1) rest
      else itself_or these (o.Alternative at number) (statements_row xs) (in_row these xs)

-- ---- the same of lists

abbrev pub omission_of : (these : Target → Bool) → List Statement → Option Omission
omission_of these [] = None
omission_of these (x ∷ xs) = if leaves_out these x then in_statement these x else omission_of these xs

abbrev pub part_omission : (these : Target → Bool) → (itself : Omission) → List Statement → Option Omission
part_omission these itself xs = itself_or these itself (statements_of xs) (omission_of these xs)

abbrev pub branches_omission : (these : Target → Bool) → (at : ℕ)
    → (last : ℕ → Option Omission) → (number : ℕ) → List Branch → Option Omission
branches_omission these at last number [] = last number
branches_omission these at last number (b ∷ bs) =
    if must_assign these (statements_of b.statements.items) then branches_omission these at last (number + 1) bs
    else part_omission these (o.Branch at number) b.statements.items

abbrev pub alternatives_omission : (these : Target → Bool) → (at : ℕ)
    → (last : ℕ → Option Omission) → (number : ℕ) → List Alternative → Option Omission
alternatives_omission these at last number [] = last number
alternatives_omission these at last number (b ∷ bs) =
    if must_assign these (statements_of b.statements.items) then alternatives_omission these at last (number + 1) bs
    else part_omission these (o.Alternative at number) b.statements.items
