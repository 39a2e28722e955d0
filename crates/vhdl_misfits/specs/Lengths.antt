-- What tells which two lengths meet, by the token at the fault: elaboration marks a case or a selected assignment whose
-- choice is too long or too short, a logical operator, the target of an assignment, and what is declared with a value
-- (IEEE 1076-2008, 6.4.2.2, 9.2.2, 10.5, 10.9).
use Rattle.std.specs.Prelude.{ℕ, ◌==◌, ◌&&◌, Bool, if◌then◌else◌, List, [], ◌∷◌, drop, length, Option, Some, None}
use Rattle.std.specs.Borrow.{Bor}
use Rattle.vhdl_slips.specs.Parts.{begins, up_to}
use Rattle.vhdl_slips.specs.Words.{text_of_first}
use Rattle.vhdl_misfits.specs.Values.{is_sized}
use Rattle.vhdl_misfits.specs.Places.{at_depth, begins_declaration, begins_one_of, behind_name, is_target}
use Rattle.vhdl_misfits.specs.Sorts.{stand}
use Rattle.vhdl_misfits.specs.declared.sort.Sort.TheVariants as sort
use Rattle.vhdl_misfits.specs.declared.measure.TheConstants.{CHOICE, DECLARED, PRODUCT, SIDES, SIZED, SUM, TARGET}
use Rattle.vhdl_lexer.specs.declared.token.Token.{Token}
use Rattle.vhdl_lexer.specs.declared.token.TokenKind.TheVariants as k

-- what is said before the first length, before the second, and what a designer does about it
abbrev pub Measure : Type 0
Measure = List ℕ × List ℕ × List ℕ

-- in the code
abbrev pub measure_view : Bor (List ℕ) × Bor (List ℕ) × Bor (List ℕ) → Measure
measure_view said = (said.0.now, said.1.now, said.2.now)

-- the same, of a constant
abbrev pub measure_of : record { now : List ℕ } × record { now : List ℕ } × record { now : List ℕ } → Measure
measure_of said = (said.0.now, said.1.now, said.2.now)

-- a call alone whose second argument is a length
abbrev pub is_sized_call : (text : List ℕ) → List Token → Bool
is_sized_call text tokens = is_sized (text_of_first text tokens) && length (behind_name tokens) == 0

-- what stands from the first operator that computes on, in the first value, and in no index, argument or condition
abbrev pub computed : (value : List Token) → List Token
computed value = at_depth 0 (k.Comma ∷ k.When ∷ k.Star ∷ k.Plus ∷ k.Minus ∷ []) value

-- of what is assigned, these tokens standing behind the target
abbrev pub assigned : (text : List ℕ) → (value : List Token) → Measure
assigned text value =
    if is_sized_call text (drop 1 value) then measure_of SIZED
    else if begins k.Star (computed value) then measure_of PRODUCT
    else if begins_one_of (k.Plus ∷ k.Minus ∷ []) (computed value) then measure_of SUM else measure_of TARGET

abbrev pub named : (text : List ℕ) → List Token → Option Measure
named text tokens =
    if is_target tokens then Some (assigned text (up_to k.Semicolon (behind_name tokens)))
    else if begins_declaration tokens then Some (measure_of DECLARED) else None

abbrev pub measured : (text : List ℕ) → List Token → Option Measure
measured text tokens =
    if stand (sort.Selector ∷ []) tokens then Some (measure_of CHOICE)
    else if stand (sort.Logical ∷ []) tokens then Some (measure_of SIDES)
    else named text tokens
