-- The identifiers of a file that a text spells are words.
use Rattle.std.proofs.Common.{◌≡◌, ℕ, ◌+◌, ◌<◌, ◌≤◌, true, List, [], ◌∷◌, length, Option, Some, None, refl, ap, sym, ◌∙◌, subst, arith, inl, inr}
use Rattle.std.specs.Prelude.{◌-◌, drop, slice_range}
use Rattle.std.specs.List.{AllByRecursion}
use Rattle.std.specs.Char.{to_ascii_lowercase}
use Rattle.std.proofs.lemmas.List.{length-map, length-take, length-drop}
use Rattle.std.proofs.lemmas.Str.Ascii.{lowercase-lowercase}
use Rattle.vhdl_lexer.specs.declared.token.TokenKind.{TokenKind}
use Rattle.vhdl_lexer.specs.declared.token.TokenKind.TheVariants as k
use Rattle.vhdl_lexer.specs.declared.token.Token.{Token}
use Rattle.vhdl_lexer.specs.Cut.{IsElement, Cuts, AreWithin}
use Rattle.vhdl_tree.specs.Lexeme.{same_kind, Lexeme, text_of, lexeme, lexemes}
use Rattle.vhdl_tree.specs.Pieces as p
use Rattle.vhdl_tree.specs.Pieces.{Piece, Is, Spells}
use Rattle.vhdl_tree.specs.grammar.Units.{spell_file}
use Rattle.vhdl_names_rules.specs.sound.Named.{has_text}
use Rattle.vhdl_names_laws.specs.Words.{small, IsWord, PieceIsWord, AreWords}
use Rattle.vhdl_names_laws.specs.Laws.{SpelledFilesHaveWords}

-- an identifier is a word
abbrev LexemeIsWord : Lexeme → Type 0
LexemeIsWord l = l.kind ≡ k.Identifier → IsWord l.text

piece_is : (x : Piece) (l : Lexeme) → LexemeIsWord l → Is x l → PieceIsWord x
piece_is (p.word_at at text) l h g = subst IsWord g.2 (h g.0)
piece_is _ l h g = tt

spelled_words : (ps : List Piece) (ls : List Lexeme) → AllByRecursion LexemeIsWord ls → Spells ps ls [] → AreWords ps
spelled_words [] ls h g = tt
spelled_words (x ∷ ps) [] h g = absurd g
spelled_words (x ∷ ps) (l ∷ ls) h g = (piece_is x l h.0 g.0, spelled_words ps ls h.1 g.1)

-- ---- tokens

-- no lexical element is empty
pub is_some_text : (before : Option TokenKind) (kind : TokenKind) (slice rest : List ℕ) → IsElement before kind slice rest → 0 < length slice
is_some_text before kind (b ∷ slice) rest h = omega arith
is_some_text before kind [] rest (inl w) = absurd (cc (w.0))
is_some_text before kind [] rest (inr (inl n)) = absurd (cc (n.0))
is_some_text before kind [] rest (inr (inr (inl c))) = absurd (cc (c.1))
is_some_text before kind [] rest (inr (inr (inr (inl s)))) = absurd (cc (s.1))
is_some_text before kind [] rest (inr (inr (inr (inr (inl b))))) = absurd (cc (b.3))
is_some_text before kind [] rest (inr (inr (inr (inr (inr d))))) = absurd (cc (d.0))

some_text : (bs : List ℕ) → 0 < length bs → has_text bs ≡ true
some_text [] h = absurd (omega (arith, h))
some_text (b ∷ bs) h = refl

small_twice : (bs : List ℕ) → small (small bs) ≡ small bs
small_twice [] = refl
small_twice (b ∷ bs) = ap (λ c. c ∷ small (small bs)) (lowercase-lowercase b) ∙ ap (λ cs. to_ascii_lowercase b ∷ cs) (small_twice bs)

small_word : (bs : List ℕ) → 0 < length bs → IsWord (small bs)
small_word bs h =
    let l : length (small bs) ≡ length bs = length-map bs to_ascii_lowercase in
    record { some = some_text (small bs) (omega (arith, l, h)); is_small = small_twice bs }

slice_length : (source : List ℕ) (a b : ℕ) → a < b → b ≤ length source → 0 < length (slice_range source a b)
slice_length source a b h g =
    let t = length-take (b - a) (drop a source) in
    let d = length-drop a source in
    omega (arith, t, d, h, g)

identifier_text : (bytes : List ℕ) → text_of k.Identifier bytes ≡ small bytes
unfolding same_kind
identifier_text bytes = refl

lexeme_is : (source : List ℕ) (t : Token) → t.start < t.end → t.end ≤ length source → LexemeIsWord (lexeme source t)
unfolding lexeme
lexeme_is source t h g e =
    let bytes = slice_range source t.start t.end in
    subst IsWord (sym (ap (λ kind. text_of kind bytes) e ∙ identifier_text bytes)) (small_word bytes (slice_length source t.start t.end h g))

tokens_are : (ts : List Token) (source : List ℕ) (before : Option TokenKind) (at : ℕ) (text : List ℕ) → Cuts before at text ts → AreWithin source ts → AllByRecursion LexemeIsWord (lexemes source ts)
tokens_are [] source before at text c w = tt
tokens_are (t ∷ ts) source before at text c w =
    let n = c.1 in
    let s : 0 < length n.slice = is_some_text before t.kind n.slice c.0 n.form.0 in
    let e : t.end ≡ t.start + length n.slice = n.ends in
    (lexeme_is source t (omega (arith, s, e)) w.1, tokens_are ts source (Some t.kind) t.end c.0 c.2 w.2)

pub spelled_files_have_words : SpelledFilesHaveWords
spelled_files_have_words source tokens f cuts within spells =
    spelled_words (spell_file f) (lexemes source tokens) (tokens_are tokens source None 0 source cuts within) spells
