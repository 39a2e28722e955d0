-- The loop in which a latch leaves the assignment out.
use Rattle.std.specs.Prelude.{◌-◌, if◌then◌else◌, List, length, drop, Option, Some, None}
use Rattle.rtl_latches.specs.Omissions.{at_of}
use Rattle.rtl_latches.specs.declared.omission.Omission.{Omission}
use Rattle.vhdl_lexer.specs.declared.token.Token.{Token}
use Rattle.vhdl_lexer.specs.declared.token.TokenKind.TheVariants as k
use Rattle.vhdl_misfits.specs.Places.{is_inside_loop}
use Rattle.vhdl_slips.specs.Parts.{behind_last, first_of}
use Rattle.vhdl_slips.specs.Words as words
use Rattle.vhdl_slips.specs.Words.{Read}

-- the last for of these tokens, if its loop goes on behind them
abbrev pub open_for : (before behind : List Token) → Option Token
open_for before behind =
    if is_inside_loop behind then first_of (drop (length before - 1 - length behind) before) else None

abbrev pub open_loop : (before : List Token) → Option Token
open_loop before = open_for before (behind_last k.For before)

-- of the tokens of a process
abbrev pub loop_of : (process : Read) → Option Omission → Option Token
loop_of process None = None
loop_of process (Some omission) = open_loop (words.before (at_of omission) process).tokens
