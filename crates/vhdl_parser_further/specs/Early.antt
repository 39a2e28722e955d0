-- What has to follow a `;`, for a statement or declaration to end with it. Where a fault is told at a `;`, that may
-- stand too early: so what follows goes on, up to a `;` behind which a statement or declaration begins.
use Rattle.std.specs.Prelude.{◌==◌, ◌&&◌, ◌||◌, not, Bool, true, false, if◌then◌else◌, List, [], ◌∷◌}
use Rattle.vhdl_lexer.specs.Kinds.{is_semicolon}
use Rattle.vhdl_lexer.specs.declared.token.Token.{Token}
use Rattle.vhdl_lexer.specs.declared.token.TokenKind.{TokenKind}
use Rattle.vhdl_parser_further.specs.Kinds.{assigns, declares, is_further, is_name, states}
use Rattle.vhdl_parser_further.specs.declared.place.Place.{Place}
use Rattle.vhdl_parser_further.specs.declared.sequel.Sequel.{Sequel}
use Rattle.vhdl_parser_further.specs.declared.sequel.Sequel.TheVariants as s

-- where a fault of this place is told at a token of this kind; a `;` with which a statement begins is one too many
abbrev pub sequel_at : Place → TokenKind → Sequel
sequel_at p kind =
    if not (is_semicolon kind) || p.innermost == p.read then s.Anything
    else (if not p.begun then s.Declaration else (if p.opened == 0 then s.Statement else s.Part))

-- the same, where these tokens are ahead
abbrev pub sequel_of : Place → (ahead : List Token) → Sequel
sequel_of p [] = s.Anything
sequel_of p (t ∷ ts) = sequel_at p t.kind

-- ---- what follows

-- it begins with such a word
abbrev pub begins_by_word : Sequel → TokenKind → Bool
begins_by_word s.Anything kind = true
begins_by_word s.Declaration kind = declares kind
begins_by_word s.Statement kind = states kind
begins_by_word s.Part kind = states kind || is_further kind

-- or with a name, and `<=`, `:=` or `:`; no declaration does
abbrev pub begins_by_name : Sequel → (kind following : TokenKind) → Bool
begins_by_name s.Declaration _ _ = false
begins_by_name sequel kind following = is_name kind && assigns following

-- it begins with these tokens
abbrev pub begins : Sequel → List Token → Bool
begins sequel [] = true
begins sequel (t ∷ []) = begins_by_word sequel t.kind
begins sequel (t ∷ u ∷ ts) = begins_by_word sequel t.kind || begins_by_name sequel t.kind u.kind
