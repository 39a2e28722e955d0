-- The units of a source, as its tokens show them without being read (IEEE 1076-2008, 3.2.1 and 3.3.1).
use Rattle.std.specs.Prelude.{ℕ, suc, ◌+◌, ◌&&◌, ◌||◌, ◌==◌, Bool, true, false, if◌then◌else◌, List, [], ◌∷◌, count_by}
use Rattle.vhdl_lexer.specs.Kinds.{is_end}
use Rattle.vhdl_lexer.specs.declared.token.Token.{Token}
use Rattle.vhdl_lexer.specs.declared.token.TokenKind.{TokenKind}
use Rattle.vhdl_lexer.specs.declared.token.TokenKind.TheVariants as k
use Rattle.vhdl_parser_further.specs.Kinds.{opens}
use Rattle.vhdl_tree.specs.Lexeme.{same_kind}

-- ---- their heads

-- tokens of these kinds stand in front
abbrev pub starts_with : List TokenKind → List Token → Bool
starts_with [] ts = true
starts_with (kind ∷ kinds) [] = false
starts_with (kind ∷ kinds) (t ∷ ts) = same_kind t.kind kind && starts_with kinds ts

-- architecture id of id is
unfoldable pub begins_architecture : List Token → Bool
begins_architecture ts = starts_with (k.Architecture ∷ k.Identifier ∷ k.Of ∷ k.Identifier ∷ k.Is ∷ []) ts

-- entity id is
unfoldable pub begins_entity : List Token → Bool
begins_entity ts = starts_with (k.Entity ∷ k.Identifier ∷ k.Is ∷ []) ts

abbrev pub begins_unit : List Token → Bool
begins_unit ts = begins_architecture ts || begins_entity ts

-- how many tokens stand before the next unit
abbrev pub before_unit : List Token → ℕ
before_unit [] = 0
before_unit (t ∷ ts) = if begins_unit (t ∷ ts) then 0 else suc (before_unit ts)

-- ---- their ends

-- how many statements and declarations with an `end` begin in these tokens
abbrev pub beginnings : (last : TokenKind) → List Token → ℕ
beginnings last [] = 0
beginnings last (t ∷ ts) = (if opens last t.kind then 1 else 0) + beginnings t.kind ts

abbrev pub ends : List Token → ℕ
ends ts = count_by (λ t. is_end t.kind) ts

-- The rest of a unit in which so many statements and declarations are open has an `end` for each of them, for each that
-- begins in it, and for the unit, and no other.
unfoldable pub is_balanced : (opened : ℕ) → (last : TokenKind) → List Token → Bool
is_balanced opened last ts = opened + 1 + beginnings last ts == ends ts
