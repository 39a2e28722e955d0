use Rattle.std.proofs.Common.{◌≡◌, ◌≤◌, length}
use Rattle.vhdl_lexer.specs.Scan.{from_first_quote}
use Rattle.vhdl_lexer.proofs.literal.from_first_quote.Given as goal

abbrev pub invariant-loop-text : goal.invariant-loop-text
invariant-loop-text l = (from_first_quote l.text ≡ from_first_quote l.initial.text) × (length l.text ≤ length l.initial.text)

abbrev pub decreases-loop-text : goal.decreases-loop-text
decreases-loop-text l = length l.text
