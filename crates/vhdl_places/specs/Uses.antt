-- How names are used, and what else is looked for among tokens. An identifier is a name in letters of either case.
use Rattle.std.specs.Prelude.{ℕ, ◌+◌, ◌-◌, ◌==◌, ◌&&◌, ◌||◌, not, nat_lt, Bool, false, if◌then◌else◌, List, [], ◌∷◌, drop, Option, codes}
use Rattle.std.specs.List.{list_any}
use Rattle.std.specs.Str.{str_eq_ignore_ascii_case}
use Rattle.vhdl_slips.specs.Parts.{begins, first_of}
use Rattle.vhdl_slips.specs.Words.{text_of}
use Rattle.vhdl_misfits.specs.Places.{behind_name}
use Rattle.vhdl_lexer.specs.Kinds.{is_one_of}
use Rattle.vhdl_lexer.specs.declared.token.Token.{Token}
use Rattle.vhdl_lexer.specs.declared.token.TokenKind.{TokenKind}
use Rattle.vhdl_lexer.specs.declared.token.TokenKind.TheVariants as k
use Rattle.vhdl_tree.specs.Lexeme.{same_kind}
use Rattle.vhdl_places.specs.declared.uses.Use.{Use}
use Rattle.vhdl_places.specs.declared.uses.Use.TheVariants.{Read, Assigned, Edge, AnyEdge, InnerEdge, Branch, Formal, Label, Declared, Entity, Architecture}

-- ---- at the front of some tokens

abbrev pub begins_word : (text word : List ℕ) → List Token → Bool
begins_word text word [] = false
begins_word text word (t ∷ ts) = same_kind t.kind k.Identifier && str_eq_ignore_ascii_case (text_of text t) word

-- one of these names
abbrev pub begins_name : (text : List ℕ) → (names : List (List ℕ)) → List Token → Bool
begins_name text names tokens = list_any (λ name. begins_word text name tokens) names

-- a target may stand behind such a token
abbrev pub leads : TokenKind → Bool
leads kind =
    is_one_of (k.Semicolon ∷ k.Begin ∷ k.Then ∷ k.Else ∷ k.Loop ∷ k.Generate ∷ k.Select ∷ k.Arrow ∷ k.Colon ∷ []) kind

-- a signal is assigned to by the name, before which a token of this kind stands
abbrev pub is_target : (last : TokenKind) → List Token → Bool
is_target last tokens = leads last && begins k.LessEqual (behind_name tokens)

-- `rising_edge(` or `falling_edge(`
abbrev pub calls_edge : (text : List ℕ) → List Token → Bool
calls_edge text tokens =
    (begins_word text (codes "rising_edge") tokens || begins_word text (codes "falling_edge") tokens)
    && begins k.LeftParen (drop 1 tokens)

-- `NAME'event`
abbrev pub asks_event : (text : List ℕ) → List Token → Bool
asks_event text tokens = begins k.Tick (drop 1 tokens) && begins_word text (codes "event") (drop 2 tokens)

abbrev pub tests_edge : (text : List ℕ) → List Token → Bool
tests_edge text tokens = calls_edge text tokens || asks_event text tokens

-- of one of these names
abbrev pub tests_edge_of : (text : List ℕ) → (names : List (List ℕ)) → List Token → Bool
tests_edge_of text names tokens =
    (calls_edge text tokens && begins_name text names (drop 2 tokens))
    || (asks_event text tokens && begins_name text names tokens)

-- ---- how deep a token stands: in so many components, processes, generates, loops, cases, and branches of ifs

-- an instance names a component behind a colon
abbrev pub opens : (last kind : TokenKind) → Bool
opens last kind =
    is_one_of (k.Component ∷ k.Process ∷ k.Generate ∷ k.Loop ∷ k.Case ∷ k.Then ∷ []) kind
    && not (same_kind last k.End || (same_kind last k.Colon && same_kind kind k.Component))

abbrev pub depth_behind : (depth : ℕ) → (last kind : TokenKind) → ℕ
depth_behind depth last kind =
    if is_one_of (k.End ∷ k.Elsif ∷ []) kind then depth - 1 else (if opens last kind then depth + 1 else depth)

-- ---- uses

-- one of these names is used so at the front of these tokens, which stand so deep behind a token of this kind
abbrev pub is_use : Use → (text : List ℕ) → (names : List (List ℕ))
    → (depth : ℕ) → (last : TokenKind) → List Token → Bool
is_use Read text names depth last tokens = begins_name text names tokens && not (is_target last tokens)
is_use Assigned text names depth last tokens = begins_name text names tokens && is_target last tokens
is_use Edge text names depth last tokens = tests_edge_of text names tokens
is_use AnyEdge text names depth last tokens = tests_edge text tokens
is_use InnerEdge text names depth last tokens = nat_lt 0 depth && tests_edge text tokens
is_use Branch text names depth last tokens = depth == 1 && same_kind last k.Semicolon && begins k.Else tokens
is_use Formal text names depth last tokens = begins_name text names tokens && begins k.Arrow (drop 1 tokens)
is_use Label text names depth last tokens = begins_name text names tokens && begins k.Colon (drop 1 tokens)
is_use Declared text names depth last tokens =
    (depth == 0 || same_kind last k.Component) && begins_name text names tokens
is_use Entity text names depth last tokens =
    begins k.Entity tokens && begins k.Is (drop 2 tokens) && begins_name text names (drop 1 tokens)
is_use Architecture text names depth last tokens =
    begins k.Architecture tokens && begins k.Of (drop 2 tokens) && begins_name text names (drop 3 tokens)

abbrev pub from_here : Use → (text : List ℕ) → (names : List (List ℕ))
    → (depth : ℕ) → (last : TokenKind) → List Token → List Token
from_here wanted text names depth last [] = []
from_here wanted text names depth last (t ∷ ts) =
    if is_use wanted text names depth last (t ∷ ts) then t ∷ ts
    else from_here wanted text names (depth_behind depth last t.kind) t.kind ts

-- what stands from the first on in these tokens, with which a statement may begin
abbrev pub from_use : Use → (text : List ℕ) → (names : List (List ℕ)) → List Token → List Token
from_use wanted text names tokens = from_here wanted text names 0 k.Semicolon tokens

abbrev pub first_use : Use → (text : List ℕ) → (names : List (List ℕ)) → List Token → Option Token
first_use wanted text names tokens = first_of (from_use wanted text names tokens)
