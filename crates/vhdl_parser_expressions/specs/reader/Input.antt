-- What a parser reads from, and the steps that every rule is made of.
use Rattle.std.specs.Prelude.{◌≡◌, ◌≢◌, ℕ, zero, suc, Bool, true, false, ◌&&◌, if◌then◌else◌, List, [], ◌∷◌, ◌++◌, length, slice_index, Option, Some, None, Result, Ok, Err}
use Rattle.std.specs.Borrow.{Bor}
use Rattle.vhdl_lexer.specs.declared.language.Language.{Language}
use Rattle.vhdl_lexer.specs.declared.language.Language.TheVariants.{Profile, Wide}
use Rattle.vhdl_lexer.specs.declared.token.TokenKind.{TokenKind}
use Rattle.vhdl_lexer.specs.declared.token.TokenKind.TheVariants as k
use Rattle.vhdl_lexer.specs.declared.token.Token.{Token}
use Rattle.vhdl_parser_expressions.specs.declared.stop.Stop.{Stop}
use Rattle.vhdl_parser_expressions.specs.declared.stop.Stop.TheVariants.{Unexpected, EndOfFile, TooDeep, NoMemory}
use Rattle.vhdl_tree.specs.Lexeme.{Lexeme, same_kind, lexeme, lexemes}
use Rattle.vhdl_tree.specs.Tree.{Ident}

-- what was read and the tokens behind it, or why it stopped and the tokens where it stopped
abbrev pub Outcome : Type 0 → Type 0
Outcome A = Result (A × List Lexeme) (Stop × List Lexeme)

abbrev pub Parser : Type 0 → Type 0
Parser A = List Lexeme → Outcome A

abbrev pub and_then : {A B : Type 0} → Outcome A → (A → Parser B) → Outcome B
and_then (Ok p) f = f p.0 p.1
and_then (Err e) f = Err e

infixl 10 ◌>>=◌
abbrev pub ◌>>=◌ : {A B : Type 0} → Parser A → (A → Parser B) → Parser B
p >>= f = λ ts. and_then (p ts) f

infixl 10 ◌>>◌
abbrev pub ◌>>◌ : {A B : Type 0} → Parser A → Parser B → Parser B
p >> q = p >>= (λ _. q)

abbrev pub pure : {A : Type 0} → A → Parser A
pure a = λ ts. Ok (a, ts)

infixr 11 ◌<$>◌
abbrev pub ◌<$>◌ : {A B : Type 0} → (A → B) → Parser A → Parser B
f <$> p = p >>= (λ x. pure (f x))

-- what stops a reader at a token with which no rule goes on, or at the end
abbrev pub IsRefused : Stop → Type 0
IsRefused Unexpected = Unit {0}
IsRefused EndOfFile = Unit {0}
IsRefused TooDeep = ⊥
IsRefused NoMemory = ⊥

-- why no rule goes on here
unfoldable pub refusal : List Lexeme → Stop
refusal [] = EndOfFile
refusal (l ∷ ts) = Unexpected

abbrev pub refuse : {A : Type 0} → Parser A
refuse = λ ts. Err (refusal ts, ts)

abbrev pub too_deep : {A : Type 0} → Parser A
too_deep = λ ts. Err (TooDeep, ts)

unfoldable pub next_kind : List Lexeme → Option TokenKind
next_kind [] = None
next_kind (l ∷ ts) = Some l.kind

abbrev pub is_kind : TokenKind → Option TokenKind → Bool
is_kind kind None = false
is_kind kind (Some next) = same_kind next kind

-- whether the next token is of this kind
abbrev pub sees : TokenKind → List Lexeme → Bool
sees kind ts = is_kind kind (next_kind ts)

abbrev pub is_more : Option TokenKind → Bool
is_more None = false
is_more (Some kind) = true

unfoldable pub second_kind : List Lexeme → Option TokenKind
second_kind [] = None
second_kind (l ∷ ts) = next_kind ts

-- whether the next two tokens are of these kinds
abbrev pub sees_both : TokenKind → TokenKind → List Lexeme → Bool
sees_both first second ts = is_kind first (next_kind ts) && is_kind second (second_kind ts)

-- goes on by whether the next two tokens are of these kinds
abbrev pub test_both : {A : Type 0} → TokenKind → TokenKind → Parser A → Parser A → Parser A
test_both first second p q = λ ts. if sees_both first second ts then p ts else q ts

-- goes on by the kind of the next token
abbrev pub choose : {A : Type 0} → (Option TokenKind → Parser A) → Parser A
choose by = λ ts. by (next_kind ts) ts

-- goes on by whether the next token begins something
abbrev pub test : {A : Type 0} → (Option TokenKind → Bool) → Parser A → Parser A → Parser A
test begins p q = λ ts. if begins (next_kind ts) then p ts else q ts

-- goes on by whether the next token begins what only the wider language has
abbrev pub test_in : {A : Type 0} → Language → (Option TokenKind → Bool) → Parser A → Parser A → Parser A
test_in Profile begins p q = q
test_in Wide begins p q = test begins p q

-- the next token, which is of this kind
unfoldable pub token : TokenKind → Parser Lexeme
token k [] = Err (EndOfFile, [])
token k (l ∷ ts) = if same_kind l.kind k then Ok (l, ts) else Err (Unexpected, l ∷ ts)

-- where it starts
unfoldable pub expect : TokenKind → Parser ℕ
expect k = (λ l. l.at) <$> token k

unfoldable pub identifier : Parser Ident
identifier = (λ l. record { at = l.at; text = l.text }) <$> token k.Identifier

-- where it stands, and what stands between the ticks
unfoldable pub literal : Parser (ℕ × ℕ)
literal = (λ l. (l.at, slice_index l.text 1)) <$> token k.Character

-- where the token of another literal stands, and its bytes
unfoldable pub text : TokenKind → Parser (ℕ × List ℕ)
text kind = (λ l. (l.at, l.text)) <$> token kind

-- what a function that parses ensures: the outcome, seen by view, and the tokens that are left, unless memory fails
abbrev pub Reads : {X A : Type 0} → (X → A) → Outcome A → Result X Stop → List Lexeme → Type 0
Reads view outcome (Ok x) new = outcome ≡ Ok (view x, new)
Reads view outcome (Err e) new = e ≢ NoMemory → outcome ≡ Err (e, new)

-- what taking the first of these tokens gives, as lexemes of the source text
abbrev pub Takes : List ℕ → List Token → Parser Lexeme → Result (Token × Bor (List Token)) Stop → Type 0
Takes source tokens p (Ok r) = p (lexemes source tokens) ≡ Ok (lexeme source r.0, lexemes source r.1.now)
Takes source tokens p (Err e) = p (lexemes source tokens) ≡ Err (e, lexemes source tokens)

infixl 12 ◌<<◌
-- what was read, and behind it a token of this kind
abbrev pub ◌<<◌ : {A : Type 0} → Parser A → TokenKind → Parser A
p << kind = p >>= (λ x. expect kind >> pure x)

-- takes a token of this kind, if it comes next
unfoldable pub eat : TokenKind → Parser Bool
eat k = test (is_kind k) (expect k >> pure true) (pure false)

-- an item, if one begins
unfoldable pub optional : {A : Type 0} → (Option TokenKind → Bool) → Parser A → Parser (Option A)
optional begins item = test begins (Some <$> item) (pure None)

-- Items while one begins, after those found. The number bounds the turns, and each turn takes a token.
unfoldable pub many_from : {A : Type 0} → (Option TokenKind → Bool) → Parser A → ℕ → List A → Parser (List A)
many_from begins item zero found = pure found
many_from begins item (suc n) found = test begins (do x ← item; many_from begins item n (found ++ x ∷ [])) (pure found)

abbrev pub many : {A : Type 0} → (Option TokenKind → Bool) → Parser A → List A → Parser (List A)
many begins item found = λ ts. many_from begins item (length ts) found ts

-- item { separator item }
unfoldable pub separated : {A : Type 0} → TokenKind → Parser A → Parser (List A)
separated separator item = do
  first ← item
  many (is_kind separator) (expect separator >> item) (first ∷ [])

-- the level below, of so many
unfoldable pub below : ℕ → Parser ℕ
below zero = too_deep
below (suc n) = pure n

-- ( item ), by how many levels may be opened in it
abbrev pub in_parens : {A : Type 0} → (ℕ → Parser A) → ℕ → Parser A
in_parens item n = do
  expect k.LeftParen
  m ← below n
  item m << k.RightParen

-- what begins with a word that opens a level, by where that stands
abbrev pub opened : {A : Type 0} → TokenKind → (ℕ → ℕ → Parser A) → ℕ → Parser A
opened word rest n = do
  at ← expect word
  m ← below n
  rest m at
