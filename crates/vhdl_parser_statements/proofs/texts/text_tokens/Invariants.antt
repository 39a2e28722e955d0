use Rattle.std.proofs.Common.{◌≡◌, ◌-◌}
use Rattle.vhdl_tree.specs.View.{text_view}
use Rattle.vhdl_parser_statements.specs.reader.Texts.{text_tokens, text_from}
use Rattle.vhdl_parser_statements.proofs.texts.text_tokens.Given as goal

-- what is still to be read gives what was to be read
abbrev pub invariant-loop-turn : goal.invariant-loop-turn
invariant-loop-turn l = text_tokens l.levels l.fn.parser ≡ text_from l.levels (l._turn-end - l._turn) l.room l.last (text_view l.found) l.parser
