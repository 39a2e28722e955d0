-- The byte at which is told that a file breaks a rule is one at which a token of its text starts.
use Rattle.std.proofs.Common.{◌≡◌, ℕ, zero, ◌+◌, ◌<◌, ◌≤◌, List, [], ◌∷◌, ◌++◌, length, Option, Some, None, Contains, refl, ap, ◌∙◌, subst, arith}
use Rattle.std.specs.Prelude.{◌-◌}
use Rattle.std.specs.List.{AllByRecursion, flat_map}
use Rattle.std.proofs.lemmas.List.{length-append}
use Rattle.std.proofs.lemmas.List.Elements.{Contains-append_right}
use Rattle.vhdl_lexer.specs.declared.token.TokenKind.{TokenKind}
use Rattle.vhdl_lexer.specs.declared.token.Token.{Token}
use Rattle.vhdl_lexer.specs.Separators.{LeadsTo}
use Rattle.vhdl_lexer.specs.Cut.{Cuts}
use Rattle.vhdl_tree.specs.Lexeme.{Lexeme, lexeme, lexemes}
use Rattle.vhdl_tree.specs.Pieces as p
use Rattle.vhdl_tree.specs.Pieces.{Piece, Is, Spells}
use Rattle.vhdl_tree.specs.grammar.Units.{spell_file}
use Rattle.vhdl_names_laws.specs.Placed.{byte_of, bytes_of}
use Rattle.vhdl_names_laws.specs.Laws.{FaultsStandAtTokens, FaultsLieInTheText}
use Rattle.vhdl_names_laws.proofs.Spelled.{is_some_text}
use Rattle.vhdl_names_laws.proofs.placed.Told.{PieceStands, Stand}
use Rattle.vhdl_names_laws.proofs.placed.Files.{file_told}

-- ---- at a token

here : (at : ℕ) (rest : List ℕ) → Contains (at ∷ rest) at
here at rest = (zero, omega arith, refl)

piece_at : (x : Piece) (rest : List ℕ) → PieceStands (Contains (byte_of x ++ rest)) x
piece_at (p.some kind) rest = tt
piece_at (p.one_at kind at) rest = here at rest
piece_at (p.word_at at text) rest = here at rest
piece_at (p.literal_at at code) rest = here at rest
piece_at (p.text_at kind at text) rest = here at rest

piece_more : (P Q : ℕ → Type 0) → ((at : ℕ) → P at → Q at) → (x : Piece) → PieceStands P x → PieceStands Q x
piece_more P Q more (p.some kind) h = tt
piece_more P Q more (p.one_at kind at) h = more at h
piece_more P Q more (p.word_at at text) h = more at h
piece_more P Q more (p.literal_at at code) h = more at h
piece_more P Q more (p.text_at kind at text) h = more at h

more_stand : (P Q : ℕ → Type 0) → ((at : ℕ) → P at → Q at) → (ps : List Piece) → Stand P ps → Stand Q ps
more_stand P Q more [] h = tt
more_stand P Q more (x ∷ ps) h = (piece_more P Q more x h.0, more_stand P Q more ps h.1)

pub all_at : (ps : List Piece) → Stand (Contains (flat_map byte_of ps)) ps
all_at [] = tt
all_at (x ∷ ps) = (
  piece_at x (flat_map byte_of ps),
  more_stand (Contains (flat_map byte_of ps)) (Contains (byte_of x ++ flat_map byte_of ps)) (λ at h. Contains-append_right (byte_of x) (flat_map byte_of ps) at h) ps (all_at ps),
)

pub faults_stand_at_tokens : FaultsStandAtTokens
faults_stand_at_tokens language f well = (file_told (Contains (bytes_of f)) language f well (all_at (spell_file f))).is

-- ---- in the text

abbrev LiesBelow : ℕ → Lexeme → Type 0
LiesBelow n l = l.at < n

piece_lies : (n : ℕ) (x : Piece) (l : Lexeme) → l.at < n → Is x l → PieceStands (λ at. at < n) x
piece_lies n (p.some kind) l h g = tt
piece_lies n (p.one_at kind at) l h g = subst (λ at. at < n) g.1 h
piece_lies n (p.word_at at text) l h g = subst (λ at. at < n) g.1 h
piece_lies n (p.literal_at at code) l h g = subst (λ at. at < n) g.1 h
piece_lies n (p.text_at kind at text) l h g = subst (λ at. at < n) g.1 h

pub pieces_lie : (n : ℕ) (ps : List Piece) (ls : List Lexeme) → AllByRecursion (LiesBelow n) ls → Spells ps ls [] → Stand (λ at. at < n) ps
pieces_lie n [] ls h g = tt
pieces_lie n (x ∷ ps) [] h g = absurd g
pieces_lie n (x ∷ ps) (l ∷ ls) h g = (piece_lies n x l h.0 g.0, pieces_lie n ps ls h.1 g.1)

-- what separators lead to is no longer than the text
led_shorter : (pieces : List (List ℕ)) (text ahead : List ℕ) → LeadsTo pieces text ahead → length ahead ≤ length text
led_shorter [] text ahead h = let e : length text ≡ length ahead = ap length h in omega (arith, e)
led_shorter (piece ∷ pieces) text ahead (after, is, form, more) =
    let e : length text ≡ length piece + length after = ap length is ∙ length-append piece after in
    let l : length ahead ≤ length after = led_shorter pieces after ahead more in
    omega (arith, e, l)

-- each token starts before the end of the text
pub tokens_lie : (ts : List Token) (source : List ℕ) (n : ℕ) (before : Option TokenKind) (at : ℕ) (text : List ℕ) → at + length text ≡ n → Cuts before at text ts
    → AllByRecursion (LiesBelow n) (lexemes source ts)
unfolding lexeme
tokens_lie [] source n before at text e c = tt
tokens_lie (t ∷ ts) source n before at text e (rest, next, cuts) =
    let l : length (next.slice ++ rest) ≤ length text = led_shorter next.pieces text (next.slice ++ rest) next.led in
    let a : length (next.slice ++ rest) ≡ length next.slice + length rest = length-append next.slice rest in
    let s : 0 < length next.slice = is_some_text before t.kind next.slice rest next.form.0 in
    let begins : t.start ≡ at + (length text - length (next.slice ++ rest)) = next.starts in
    let ends : t.end ≡ t.start + length next.slice = next.ends in
    (omega (arith, l, a, s, begins, e), tokens_lie ts source n (Some t.kind) t.end rest (omega (arith, l, a, begins, ends, e)) cuts)

pub faults_lie_in_the_text : FaultsLieInTheText
faults_lie_in_the_text language source tokens f cuts spells well =
    (file_told (λ at. at < length source) language f well
    (pieces_lie (length source) (spell_file f) (lexemes source tokens) (tokens_lie tokens source (length source) None 0 source (omega arith) cuts) spells)).is
