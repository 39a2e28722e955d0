-- Variables that are registers. A variable of a process is elaborated once, with its process, and keeps its value from
-- one run of the process to the next (IEEE 1076-2008, 14.5.5, 11.3). Where a clocked process reads what the run before
-- left, the variable is a register. Its elements get nets and drivers, so that the process says so by signals: at the
-- edge the variable is given what its nets hold (10.6.2), and behind the branch they are given what it has (10.5.2.2).
use Rattle.std.specs.Prelude.{ℕ, Bool, true, ◌&&◌, ◌||◌, List, [], ◌∷◌, map, slice_index, is_some}
use Rattle.rtl_model.specs.bodies.Assigns.{is_element, must_assign}
use Rattle.rtl_model.specs.bodies.Body.{signal, variable, Value, elements, position_of, position_in}
use Rattle.rtl_model.specs.bodies.Body.{assign, set, if_of, Stmts, done, step, no_else, branch, followed_by}
use Rattle.rtl_model.specs.bodies.Kinds.{clocking}
use Rattle.rtl_model.specs.bodies.Stored.{stores_element}
use Rattle.rtl_model.specs.bodies.Types.{ElementType, nine_valued, enumeration}
use Rattle.rtl_variable_registers.specs.Known.{gives_constants, never_set, at_start, with_constants}

-- ---- registers

-- The branch of the reset: of one if without else and with two conditions the first branch, of two ifs without else and
-- with one condition each that of the second, else nothing.
abbrev pub reset_branch : Stmts → Stmts
reset_branch (step (if_of (branch r a (branch t s no_else))) done) = a
reset_branch (step (if_of (branch t s no_else)) (step (if_of (branch r a no_else)) done)) = a
reset_branch _ = done

-- the same, or one if without else and with one condition, with the branches of the reset and of the edge changed
abbrev pub with_branches : (reset edge : Stmts → Stmts) → Stmts → Stmts
with_branches reset edge (step (if_of (branch t s no_else)) done) = step (if_of (branch t (edge s) no_else)) done
with_branches reset edge (step (if_of (branch r a (branch t s no_else))) done) =
    step (if_of (branch r (reset a) (branch t (edge s) no_else))) done
with_branches reset edge (step (if_of (branch t s no_else)) (step (if_of (branch r a no_else)) done)) =
    step (if_of (branch t (edge s) no_else)) (step (if_of (branch r (reset a) no_else)) done)
with_branches reset edge body = body

-- a body, with nothing in the branch of its reset
abbrev pub without_reset : Stmts → Stmts
without_reset body = with_branches (λ a. done) (λ s. s) body

-- A clocked body of the wider language, but that its reset's branch may set variables to constants too, and look at
-- variables whose values are known. Any net may reset it.
abbrev pub is_register : Stmts → Bool
is_register body =
    is_some (clocking true [] (without_reset body)) && gives_constants (never_set body) (reset_branch body)

-- An element is kept that a register's body stores, but for what its reset looks at, where constants come to stand, or
-- that its reset sets. (Constants are given by no if, so a reset sets just what it sets on every path.)
abbrev pub keeps_element : Stmts → (e : ℕ) → Bool
keeps_element body e =
    is_register body && (stores_element e (without_reset body) || must_assign (is_element e) (reset_branch body))

-- ---- the body with registers

-- a variable that is kept: the type and the numbers of its elements
pub record KeptVariable : Type 0 where
  pub type_of : ElementType
  pub elements : List ℕ

-- the value of these nets, and of these elements of variables
abbrev pub of_nets : ElementType → List ℕ → Value
of_nets nine_valued ns = elements (signal ns)
of_nets (enumeration literals) ns = position_of (slice_index ns 0)

abbrev pub variable_value : ElementType → List ℕ → Value
variable_value nine_valued es = elements (variable es)
variable_value (enumeration literals) es = position_in (slice_index es 0)

-- the net, and the driver's place, of each element that is kept
module _ (net place : ℕ → ℕ) where
  -- each of these variables is given what its nets hold
  abbrev pub recalled : List KeptVariable → Stmts
  recalled [] = done
  recalled (v ∷ vs) = step (set v.elements (of_nets v.type_of (map net v.elements))) (recalled vs)

  -- the nets of each of these variables are given what it has
  abbrev pub remembered : List KeptVariable → Stmts
  remembered [] = done
  remembered (v ∷ vs) = step (assign (map place v.elements) (variable_value v.type_of v.elements)) (remembered vs)

  -- the branch at the edge
  abbrev pub at_edge : List KeptVariable → Stmts → Stmts
  at_edge vs s = followed_by (recalled vs) (followed_by s (remembered vs))

  -- the branch of the reset: what it sets are the variables' nets
  abbrev pub at_reset : Stmts → Stmts
  at_reset (step (set es v) rest) = step (assign (map place es) v) (at_reset rest)
  at_reset (step s rest) = step s (at_reset rest)
  at_reset done = done

  -- the body of a register, whose elements have these initial values
  abbrev pub kept_body : (starts : List ℕ) → List KeptVariable → Stmts → Stmts
  kept_body starts vs body = with_branches (λ a. at_reset (with_constants (at_start starts) a)) (at_edge vs) body
