-- What is looked up in bodies: what a body copies, and the values that a reset's test asks for.
use Rattle.std.specs.Prelude.{ℕ, Bool, true, false, List, [], ◌∷◌, Option, Some, None, option_map}
use Rattle.vhdl_values.specs.declared.scalar.Nine.{Nine}
use Rattle.vhdl_values.specs.declared.scalar.Nine.TheVariants.{Zero, One}
use Rattle.rtl_model.specs.bodies.Body.{Expr, signal, inverse, Value, elements, Test, level, Stmt, if_of, Stmts, branch}
use Rattle.rtl_model.specs.bodies.Copies.{CopyPart}
use Rattle.rtl_process_kinds.specs.ResetBranches.{last_in}
use Rattle.rtl_process_kinds.specs.declared.copies.Copied.{Copied}
use Rattle.rtl_process_kinds.specs.declared.copies.BodyCopy.{BodyCopy}
use Rattle.rtl_process_kinds.specs.declared.asked.Asked.{Asked}
use Rattle.rtl_process_kinds.specs.declared.asked.Asked.TheVariants as a

-- ---- copies

-- the one number of a list of one
abbrev pub only : List ℕ → Option ℕ
only (n ∷ []) = Some n
only _ = None

-- the net of an expression that is one element of a net
abbrev pub element_net : Expr → Option ℕ
element_net (signal nets) = only nets
element_net _ = None

abbrev pub taken : (inverted : Bool) → ℕ → Copied
taken inverted net = record { net = net; inverted = inverted }

-- the same of one that is that, or its `not`
abbrev pub copied_by : Expr → Option Copied
copied_by (inverse e) = option_map (taken true) (element_net e)
copied_by e = option_map (taken false) (element_net e)

abbrev pub copied_value : Value → Option Copied
copied_value (elements e) = copied_by e
copied_value _ = None

abbrev pub copy_view : BodyCopy → CopyPart
copy_view c = record { place = c.place; net = c.copied.net; inverted = c.copied.inverted }

-- ---- resets

abbrev pub asked_for : Nine → Option Asked
asked_for Zero = Some a.Zero
asked_for One = Some a.One
asked_for _ = None

abbrev pub asked_by_test : Test → Option Asked
asked_by_test (level plain net v) = asked_for v
asked_by_test _ = None

-- by the test of an if's first branch
abbrev pub asked_first : Stmt → Option Asked
asked_first (if_of (branch t s bs)) = asked_by_test t
asked_first _ = None

-- In a clocked body that has a reset, the reset's test is that of the last statement, which is an if.
abbrev pub asked_last : Stmts → Option Asked
asked_last body = last_in asked_first None body
