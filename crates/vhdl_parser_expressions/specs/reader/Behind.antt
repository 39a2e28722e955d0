-- Where the tokens behind what was read begin.
use Rattle.std.specs.Prelude.{ℕ, List, [], ◌∷◌}
use Rattle.vhdl_tree.specs.Lexeme.{Lexeme}

-- where the next token starts, if there is one
abbrev pub start : List Lexeme → ℕ
start [] = 0
start (l ∷ ts) = l.at
