-- Delimiters (IEEE 1076-2008, 15.3).
use Rattle.std.specs.Prelude.{◌≡◌, ℕ, ◌&&◌, ◌==◌, false, if◌then◌else◌, List, [], ◌∷◌, ◌++◌, Option, Some, None}
use Rattle.vhdl_lexer.specs.declared.token.TokenKind.{TokenKind}
use Rattle.vhdl_lexer.specs.declared.token.TokenKind.TheVariants as k
use Rattle.vhdl_lexer.specs.Bytes.{tick}
use Rattle.vhdl_lexer.specs.Literals.{may_open, closes}

-- `=>` `:=` `<=` `>=` `/=`
abbrev pub pair : ℕ → ℕ → Option TokenKind
pair b c =
    if b == 61 && c == 62 then Some k.Arrow else
    (if b == 58 && c == 61 then Some k.Assign else
    (if b == 60 && c == 61 then Some k.LessEqual else
    (if b == 62 && c == 61 then Some k.GreaterEqual else
    (if b == 47 && c == 61 then Some k.NotEqual else None))))

-- `&` `'` `(` `)` `*` `+` `,` `-` `.` `/` `:` `;` `<` `=` `>` `|`
abbrev pub single : ℕ → Option TokenKind
single b =
    if b == 38 then Some k.Ampersand else
    (if b == 39 then Some k.Tick else
    (if b == 40 then Some k.LeftParen else
    (if b == 41 then Some k.RightParen else
    (if b == 42 then Some k.Star else
    (if b == 43 then Some k.Plus else
    (if b == 44 then Some k.Comma else
    (if b == 45 then Some k.Minus else
    (if b == 46 then Some k.Dot else
    (if b == 47 then Some k.Slash else
    (if b == 58 then Some k.Colon else
    (if b == 59 then Some k.Semicolon else
    (if b == 60 then Some k.Less else
    (if b == 61 then Some k.Equal else
    (if b == 62 then Some k.Greater else
    (if b == 124 then Some k.Bar else None)))))))))))))))

-- the delimiter that a text is
abbrev pub delimiter : List ℕ → Option TokenKind
delimiter [] = None
delimiter (b ∷ []) = single b
delimiter (b ∷ c ∷ []) = pair b c
delimiter (b ∷ c ∷ d ∷ text) = None

-- the longest delimiter, where rest follows; a tick is one where it opens no character literal
abbrev pub IsDelimiter : Option TokenKind → TokenKind → List ℕ → List ℕ → Type 0
IsDelimiter before kind slice rest =
    (delimiter slice ≡ Some kind)
    × ((c : ℕ) (after : List ℕ) → rest ≡ c ∷ after → delimiter (slice ++ c ∷ []) ≡ None)
    × (slice ≡ tick ∷ [] → (may_open before && closes rest) ≡ false)
