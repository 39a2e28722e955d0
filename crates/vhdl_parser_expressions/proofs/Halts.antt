-- Tokens that may yet go on to a tree.
use Rattle.std.proofs.Common.{◌≡◌, List, [], ◌∷◌, ◌++◌, Err, refl, sym, ap, ◌∙◌, subst, append_assoc}
use Rattle.vhdl_tree.specs.Lexeme.{Lexeme}
use Rattle.vhdl_tree.specs.Pieces.{Piece, some, one_at, word_at, literal_at, text_at, Is, Spells}
use Rattle.vhdl_lexer.specs.declared.token.TokenKind.TheVariants as k
use Rattle.vhdl_parser_expressions.specs.declared.stop.Stop.{Stop}
use Rattle.vhdl_parser_expressions.specs.reader.Input.{Parser, IsRefused}
use Rattle.vhdl_parser_expressions.proofs.Steps.{spells_append}

-- ---- tokens for pieces

abbrev token_for : Piece → Lexeme
token_for (some kind) = record { kind = kind; at = 0; text = [] }
token_for (one_at kind at) = record { kind = kind; at = at; text = [] }
token_for (word_at at text) = record { kind = k.Identifier; at = at; text = text }
token_for (literal_at at code) = record { kind = k.Character; at = at; text = 0 ∷ code ∷ [] }
token_for (text_at kind at text) = record { kind = kind; at = at; text = text }

is_for : (p : Piece) → Is p (token_for p)
is_for (some kind) = refl
is_for (one_at kind at) = (refl, refl)
is_for _ = (refl, refl, refl)

-- some tokens are spelled by any pieces
tokens_for : (ps : List Piece) → (ts : List Lexeme) × Spells ps ts []
tokens_for [] = ([], refl)
tokens_for (p ∷ ps) = let more = tokens_for ps in (token_for p ∷ more.0, (is_for p, more.1))

spells_longer : (ps : List Piece) (ts rest us : List Lexeme) → Spells ps ts rest → Spells ps (ts ++ us) (rest ++ us)
spells_longer [] ts rest us h = ap (λ vs. vs ++ us) h
spells_longer (p ∷ ps) [] rest us h = absurd h
spells_longer (p ∷ ps) (t ∷ ts) rest us h = (h.0, spells_longer ps ts rest us h.1)

-- what pieces spell, whatever follows
record Front (ps : List Piece) (ts rest : List Lexeme) : Type 0 where
  pub front : List Lexeme
  pub split : ts ≡ front ++ rest
  pub spelled : (us : List Lexeme) → Spells ps (front ++ us) us

front_of : (ps : List Piece) (ts rest : List Lexeme) → Spells ps ts rest → Front ps ts rest
front_of [] ts rest h = record { front = []; split = h; spelled = λ us. refl }
front_of (p ∷ ps) [] rest h = absurd h
front_of (p ∷ ps) (t ∷ ts) rest h =
    let f = front_of ps ts rest h.1 in
    record { front = t ∷ f.front; split = ap (λ us. t ∷ us) f.split; spelled = λ us. (h.0, f.spelled us) }

-- ---- trees that go on

-- a well-formed tree of which `before` was read
pub record Example {B : Type 0} (before : List Piece → List Piece) (spell : B → List Piece) (Good : B → Type 0) : Type 0 where
  pub tree : B
  pub more : List Piece
  pub is : spell tree ≡ before more
  pub formed : Good tree

-- The tokens before a place go on to a well-formed tree of which `before` was read: it is spelled by them and others behind them.
pub record Halts {B : Type 0} (before : List Piece → List Piece) (spell : B → List Piece) (Good : B → Type 0) (ts at : List Lexeme) : Type 0 where
  pub front : List Lexeme
  pub split : ts ≡ front ++ at
  pub behind : List Lexeme
  pub example : Example before spell Good
  pub spelled : Spells example.more (front ++ behind) []

-- so is each place where a reader stops that isn't stopped by its depth
abbrev pub Sticks : {B : Type 0} → (List Piece → List Piece) → Parser B → (B → List Piece) → (B → Type 0) → Type 0
Sticks before p spell Good = (ts : List Lexeme) (why : Stop) (at : List Lexeme) → p ts ≡ Err (why, at) → IsRefused why → Halts before spell Good ts at

module _ {B : Type 0} {before : List Piece → List Piece} {spell : B → List Piece} {Good : B → Type 0} where
  -- where nothing was taken
  pub halt_here : {ts at : List Lexeme} → Example before spell Good → ts ≡ at → Halts before spell Good ts at
  halt_here x e = let l = tokens_for x.more in record { front = []; split = e; behind = l.0; example = x; spelled = l.1 }

  -- in a part, behind which a tree goes on
  pub halt_first : {A : Type 0} {part : A → List Piece} {Part : A → Type 0} {ts at : List Lexeme} (h : Halts (λ ps. ps) part Part ts at) →
      Example (λ r. before (part h.example.tree ++ r)) spell Good → Halts before spell Good ts at
  halt_first {A} {part} {Part} {ts} {at} h x =
      let l = tokens_for x.more in
      let first : Spells (part h.example.tree) (h.front ++ h.behind) [] = subst (λ ps. Spells ps (h.front ++ h.behind) []) (sym h.example.is) h.spelled in
      let whole : Spells (part h.example.tree ++ x.more) ((h.front ++ h.behind) ++ l.0) [] =
      spells_append (part h.example.tree) x.more ((h.front ++ h.behind) ++ l.0) l.0 [] (spells_longer (part h.example.tree) (h.front ++ h.behind) [] l.0 first) l.1 in
      record {
        front = h.front;
        split = h.split;
        behind = h.behind ++ l.0;
        example = record { tree = x.tree; more = part h.example.tree ++ x.more; is = x.is; formed = x.formed };
        spelled = subst (λ us. Spells (part h.example.tree ++ x.more) us []) (append_assoc h.front h.behind l.0) whole;
      }

  -- behind pieces that were read
  pub halt_after : {ts us at : List Lexeme} (ps : List Piece) → Spells ps ts us → Halts (λ r. before (ps ++ r)) spell Good us at → Halts before spell Good ts at
  halt_after {ts} {us} {at} ps s h =
      let f = front_of ps ts us s in
      let x = h.example in
      record {
        front = f.front ++ h.front;
        split = f.split ∙ ap (λ vs. f.front ++ vs) h.split ∙ sym (append_assoc f.front h.front at);
        behind = h.behind;
        example = record { tree = x.tree; more = ps ++ x.more; is = x.is; formed = x.formed };
        spelled = subst (λ vs. Spells (ps ++ x.more) vs []) (sym (append_assoc f.front h.front h.behind))
            (spells_append ps x.more (f.front ++ (h.front ++ h.behind)) (h.front ++ h.behind) [] (f.spelled (h.front ++ h.behind)) h.spelled);
      }

-- as a part of other trees, with the same pieces left
pub halt_map : {A B : Type 0} {before other : List Piece → List Piece} {part : A → List Piece} {spell : B → List Piece} {Part : A → Type 0} {Good : B → Type 0} {ts at : List Lexeme} (h : Halts other part Part ts at) →
    (x : Example before spell Good) → x.more ≡ h.example.more → Halts before spell Good ts at
halt_map h x same = record { front = h.front; split = h.split; behind = h.behind; example = x; spelled = subst (λ ps. Spells ps (h.front ++ h.behind) []) (sym same) h.spelled }
