use Rattle.std.proofs.Common.{◌≡◌, ◌≤◌, length}
use Rattle.vhdl_lexer.specs.Scan.{from_quote}
use Rattle.vhdl_lexer.proofs.literal.from_quote.Given as goal

abbrev pub invariant-loop-text : goal.invariant-loop-text
invariant-loop-text l = (from_quote l.text ≡ from_quote l.initial.text) × (length l.text ≤ length l.initial.text)

abbrev pub decreases-loop-text : goal.decreases-loop-text
decreases-loop-text l = length l.text
