-- How pieces, each of which says something of one token, spell tokens; and the pieces that productions have in common.
use Rattle.std.specs.Prelude.{◌≡◌, ℕ, Bool, true, false, Option, Some, None, List, [], ◌∷◌, ◌++◌, slice_index}
use Rattle.vhdl_lexer.specs.declared.token.TokenKind.{TokenKind}
use Rattle.vhdl_lexer.specs.declared.token.TokenKind.TheVariants as k
use Rattle.vhdl_tree.specs.Lexeme.{Lexeme}
use Rattle.vhdl_tree.specs.Tree.{Ident}

pub data Piece : Type 0 where
  -- a token of this kind
  some : TokenKind → Piece
  -- one that starts here
  one_at : TokenKind → ℕ → Piece
  -- the identifier that starts here and has these small letters
  word_at : ℕ → List ℕ → Piece
  -- the character literal that starts here, with this character between its ticks
  literal_at : ℕ → ℕ → Piece
  -- the token of this kind that starts here and has these bytes
  text_at : TokenKind → ℕ → List ℕ → Piece

abbrev pub Is : Piece → Lexeme → Type 0
Is (some kind) l = l.kind ≡ kind
Is (one_at kind at) l = (l.kind ≡ kind) × (l.at ≡ at)
Is (word_at at text) l = (l.kind ≡ k.Identifier) × (l.at ≡ at) × (l.text ≡ text)
Is (literal_at at code) l = (l.kind ≡ k.Character) × (l.at ≡ at) × (slice_index l.text 1 ≡ code)
Is (text_at kind at text) l = (l.kind ≡ kind) × (l.at ≡ at) × (l.text ≡ text)

-- the pieces are the tokens before rest, one by one
abbrev pub Spells : List Piece → List Lexeme → List Lexeme → Type 0
Spells [] ts rest = ts ≡ rest
Spells (p ∷ ps) [] rest = ⊥
Spells (p ∷ ps) (t ∷ ts) rest = Is p t × Spells ps ts rest

-- ---- pieces that productions have in common

-- id
abbrev pub spell_ident : Ident → List Piece
spell_ident i = word_at i.at i.text ∷ []

-- [ word ]
abbrev pub spell_word : TokenKind → Bool → List Piece
spell_word word true = some word ∷ []
spell_word word false = []

-- [ a ]
abbrev pub spell_option : {A : Type 0} → (A → List Piece) → Option A → List Piece
spell_option spell None = []
spell_option spell (Some x) = spell x

-- { a }
abbrev pub spell_each : {A : Type 0} → (A → List Piece) → List A → List Piece
spell_each spell [] = []
spell_each spell (x ∷ xs) = spell x ++ spell_each spell xs

-- a { separator a }
abbrev pub spell_list : {A : Type 0} → TokenKind → (A → List Piece) → List A → List Piece
spell_list separator spell [] = []
spell_list separator spell (x ∷ xs) = spell x ++ spell_each (λ y. some separator ∷ spell y) xs

-- id { , id }
abbrev pub spell_idents : List Ident → List Piece
spell_idents = spell_list k.Comma spell_ident

-- ---- what is well formed, part by part

-- any tree
abbrev pub IsAny : {A : Type 0} → A → Type 0
IsAny x = Unit {0}

abbrev pub IsEach : {A : Type 0} → (A → Type 0) → List A → Type 0
IsEach P [] = Unit {0}
IsEach P (x ∷ xs) = P x × IsEach P xs

-- at least one, and each is
abbrev pub IsList : {A : Type 0} → (A → Type 0) → List A → Type 0
IsList P [] = ⊥
IsList P (x ∷ xs) = P x × IsEach P xs

abbrev pub IsOption : {A : Type 0} → (A → Type 0) → Option A → Type 0
IsOption P None = Unit {0}
IsOption P (Some x) = P x
