-- Words and entities that are nearly named as what stands in the source.
use Rattle.std.specs.Prelude.{ℕ, ◌&&◌, ◌||◌, not, nat_le, Bool, false, if◌then◌else◌, List, [], ◌∷◌, drop, length, Option, Some, None}
use Rattle.std.specs.Str.{str_eq_ignore_ascii_case}
use Rattle.vhdl_slips.specs.Words.{Read, text_of, text_of_first}
use Rattle.vhdl_hints.specs.Hinted.{Hint, Meant, NearEntity, Nothing}
use Rattle.vhdl_parser_rules.specs.Near.{is_near}
use Rattle.vhdl_misfits.specs.Places.{begins_one_of}
use Rattle.vhdl_slips.specs.Parts.{first_of, has}
use Rattle.vhdl_lexer.specs.declared.token.Token.{Token}
use Rattle.vhdl_lexer.specs.declared.token.TokenKind.TheVariants as k
use Rattle.vhdl_tree.specs.Lexeme.{same_kind}

-- ---- a word that is nearly the same

-- the first of some words that is
abbrev pub meant_among : List (List ℕ) → (word : List ℕ) → Hint
meant_among [] word = Nothing
meant_among (w ∷ words) word = if is_near word w then Meant w else meant_among words word

-- a type, a call or a choice stands here: behind a colon, or the mode behind one, or before a parenthesis or an arrow
abbrev pub is_for_word : (last_two from : List Token) → Bool
is_for_word last_two tokens =
    has k.Colon last_two || begins_one_of (k.LeftParen ∷ k.Arrow ∷ []) (drop 1 tokens)

-- ---- an entity that is nearly the same

-- `entity NAME is`, of nearly this name, and not the same
abbrev pub begins_near : (text word : List ℕ) → List Token → Bool
begins_near text word (first ∷ second ∷ third ∷ ts) =
    same_kind first.kind k.Entity && same_kind third.kind k.Is && is_near word (text_of text second)
    && not (str_eq_ignore_ascii_case word (text_of text second))
begins_near text word _ = false

-- the name of the first of these tokens
abbrev pub near_entity : (text word : List ℕ) → List Token → Option Token
near_entity text word [] = None
near_entity text word (t ∷ ts) = if begins_near text word (t ∷ ts) then first_of ts else near_entity text word ts

-- an entity is named: behind a library or `of`, or before a map
abbrev pub is_of_instance : (last_two from : List Token) → Bool
is_of_instance last_two tokens =
    begins_one_of (k.Dot ∷ k.Of ∷ []) (drop 1 last_two) || begins_one_of (k.Port ∷ k.Generic ∷ []) (drop 1 tokens)

abbrev pub near_hint : Option Token → Hint
near_hint None = Nothing
near_hint (Some name) = NearEntity name

-- a name of three letters or more
abbrev pub misspelt : (source : Read) → (last_two from : List Token) → Hint
misspelt source last_two tokens =
    if is_of_instance last_two tokens && nat_le 3 (length (text_of_first source.text tokens)) then
    near_hint (near_entity source.text (text_of_first source.text tokens) source.tokens) else Nothing
