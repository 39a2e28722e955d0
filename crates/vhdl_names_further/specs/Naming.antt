-- Names, by tokens: the name that stands at a byte, and what stands around it.
use Rattle.std.specs.Prelude.{ℕ, ◌==◌, ◌&&◌, Bool, true, false, if◌then◌else◌, List, [], ◌∷◌, slice_range}
use Rattle.std.specs.Str.{str_eq_ignore_ascii_case}
use Rattle.vhdl_lexer.specs.declared.token.Token.{Token}
use Rattle.vhdl_lexer.specs.declared.token.TokenKind.{TokenKind}
use Rattle.vhdl_lexer.specs.declared.token.TokenKind.TheVariants as k

-- the second of these tokens begins at this byte
abbrev pub is_around : (at : ℕ) → List Token → Bool
is_around at [] = false
is_around at (t ∷ []) = false
is_around at (t ∷ u ∷ ts) = u.start == at

-- the tokens from the one on that stands before the byte's; none where none does
abbrev pub around : (at : ℕ) → List Token → List Token
around at [] = []
around at (t ∷ ts) = if is_around at (t ∷ ts) then t ∷ ts else around at ts

-- the bytes of a token
abbrev pub text_of : (source : List ℕ) → Token → List ℕ
text_of source t = slice_range source t.start t.end

abbrev pub is_identifier : TokenKind → Bool
is_identifier k.Identifier = true
is_identifier _ = false

-- the name that the second of these tokens is; nothing where it's no identifier
abbrev pub name_of : (source : List ℕ) → List Token → List ℕ
name_of source [] = []
name_of source (t ∷ []) = []
name_of source (t ∷ u ∷ ts) = if is_identifier u.kind then text_of source u else []

abbrev pub is_arrow : TokenKind → Bool
is_arrow k.Arrow = true
is_arrow _ = false

abbrev pub name_at : (source : List ℕ) → List Token → (at : ℕ) → List ℕ
name_at source tokens at = name_of source (around at tokens)

-- `=>` stands behind the first of these tokens: it is a formal, a name of the entity that is instantiated, or a choice
abbrev pub is_before_arrow : List Token → Bool
is_before_arrow [] = false
is_before_arrow (t ∷ []) = false
is_before_arrow (t ∷ u ∷ ts) = is_arrow u.kind

-- the second of these tokens is one
abbrev pub is_formal : List Token → Bool
is_formal [] = false
is_formal (t ∷ ts) = is_before_arrow ts

abbrev pub gives_value : TokenKind → Bool
gives_value k.Arrow = true
gives_value k.Assign = true
gives_value _ = false

-- behind the first of these tokens a value begins, an actual or what something starts with: it is `=>` or `:=`
abbrev pub begins_value : List Token → Bool
begins_value [] = false
begins_value (t ∷ ts) = gives_value t.kind

-- the token is this name, in letters of either case
abbrev pub is_name : (source name : List ℕ) → Token → Bool
is_name source name t = is_identifier t.kind && str_eq_ignore_ascii_case (text_of source t) name
