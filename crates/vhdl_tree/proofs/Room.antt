-- What opens levels in what trees spell, where so many may be opened; and how high a tree may be for them.
use Rattle.std.proofs.Common.{◌≡◌, ℕ, zero, suc, ◌+◌, ◌*◌, ◌≤◌, Bool, true, false, ◌&&◌, not, if◌then◌else◌, List, [], ◌∷◌, ◌++◌, take, map, Option, Some, None, refl, sym, subst, append_assoc, arith}
use Rattle.std.specs.Prelude.{max, option_map}
use Rattle.vhdl_lexer.specs.declared.token.TokenKind.{TokenKind}
use Rattle.vhdl_lexer.specs.declared.token.TokenKind.TheVariants as k
use Rattle.vhdl_tree.specs.Lexeme.{Lexeme, same_kind}
use Rattle.vhdl_tree.specs.Levels.{begins_level, ends_level, is_end, opening, closing, opens, closes, IsShallow}
use Rattle.vhdl_tree.specs.Tree.{Ident}
use Rattle.vhdl_tree.specs.Pieces.{Piece, some, one_at, word_at, literal_at, text_at, Is, Spells, IsEach, IsList, IsOption, spell_ident, spell_word, spell_option, spell_each, spell_list, spell_idents}
use Rattle.vhdl_tree.specs.Height.{highest, optional_height}

-- ---- levels of pieces

abbrev pub kind_of_piece : Piece → TokenKind
kind_of_piece (some kind) = kind
kind_of_piece (one_at kind at) = kind
kind_of_piece (word_at at text) = k.Identifier
kind_of_piece (literal_at at code) = k.Character
kind_of_piece (text_at kind at text) = kind

pub kind_is : (p : Piece) (l : Lexeme) → Is p l → l.kind ≡ kind_of_piece p
kind_is (some kind) l h = h
kind_is _ l h = h.0

-- what holds behind a token that opens and closes so many levels, where n may be opened before it
abbrev Behind : ℕ → ℕ → ℕ → (ℕ → Type 0) → Type 0
Behind zero zero n P = P n
Behind zero (suc c) n P = P (suc n)
Behind (suc o) (suc c) n P = P n
Behind (suc o) zero zero P = ⊥
Behind (suc o) zero (suc n) P = P n

-- where n levels may be opened before the pieces, the first of which stands after `end` or not, none opens one too many
abbrev pub Fits : ℕ → Bool → List Piece → Type 0
Fits n e [] = Unit {0}
Fits n e (p ∷ ps) = Behind (opening e (kind_of_piece p)) (closing e (kind_of_piece p)) n (λ m. Fits m (is_end (kind_of_piece p)) ps)

at_most_one : (b c : Bool) → (if b then 1 else (if c then 1 else 0)) ≤ 1
at_most_one true c = omega arith
at_most_one false true = omega arith
at_most_one false false = omega arith

behind : (o c n : ℕ) (P : ℕ → Type 0) → o ≤ 1 → c ≤ 1 → o ≤ c + n → ((m : ℕ) → m + o ≡ n + c → P m) → Behind o c n P
behind zero zero n P a b h f = f n (omega arith)
behind zero (suc c) n P a b h f = f (suc n) (omega (arith, b))
behind (suc o) (suc c) n P a b h f = f n (omega (arith, a, b))
behind (suc o) zero zero P a b h f = absurd (omega (arith, h))
behind (suc o) zero (suc n) P a b h f = f n (omega (arith, a))

fits : (n : ℕ) (e : Bool) (ps : List Piece) (ts : List Lexeme) → Spells ps ts [] → ((j : ℕ) → opens e (take j ts) ≤ closes e (take j ts) + n) → Fits n e ps
fits n e [] ts s h = tt
fits n e (p ∷ ps) [] s h = absurd s
fits n e (p ∷ ps) (t ∷ ts) s h =
    subst (λ kind. Behind (opening e kind) (closing e kind) n (λ m. Fits m (is_end kind) ps)) (kind_is p t s.0)
    (behind (opening e t.kind) (closing e t.kind) n (λ m. Fits m (is_end t.kind) ps)
    (at_most_one (same_kind t.kind k.LeftParen) (begins_level t.kind && not e))
    (at_most_one (same_kind t.kind k.RightParen) (ends_level t.kind && e))
    (omega (arith, h 1))
    (λ m is. fits m (is_end t.kind) ps ts s.1 (λ j. omega (arith, is, h (suc j)))))

pub shallow_fits : (n : ℕ) (ps : List Piece) (ts : List Lexeme) → Spells ps ts [] → IsShallow n ts → Fits n false ps
shallow_fits n ps ts s h = fits n false ps ts s h

-- ---- heights

-- wherever the pieces stand, and n levels may be opened there, the height is at most 8 n + c, and behind them so many may be opened
pub record Spans (behind_them : ℕ → ℕ) (c high : ℕ) (ps : List Piece) : Type 0 where
  pub holds : (n : ℕ) (rest : List Piece) → Fits n false (ps ++ rest) → (high ≤ 8 * n + c) × Fits (behind_them n) false rest

-- as many as before them
abbrev pub Bounds : ℕ → ℕ → List Piece → Type 0
Bounds = Spans (λ n. n)

-- one more
abbrev pub Closes : ℕ → ℕ → List Piece → Type 0
Closes = Spans (λ n. suc n)

pub b_none : {c : ℕ} → Bounds c 0 []
b_none = record { holds = λ n rest f. (omega arith, f) }

pub b_less : {g : ℕ → ℕ} {c d a b : ℕ} {ps : List Piece} → b + c ≤ a + d → Spans g c a ps → Spans g d b ps
b_less le h = record { holds = λ n rest f. let x = h.holds n rest f in (omega (arith, le, x.0), x.1) }

pub b_raise : {g : ℕ → ℕ} {c a : ℕ} {ps : List Piece} (d : ℕ) → c ≤ d → Spans g c a ps → Spans g d a ps
b_raise d le h = b_less (omega (arith, le)) h

pub b_then : {g : ℕ → ℕ} {c a b : ℕ} {ps qs : List Piece} → Bounds c a ps → Spans g c b qs → Spans g c (max a b) (ps ++ qs)
b_then {g} {c} {a} {b} {ps} {qs} h k = record {
  holds = λ n rest f.
      let x = h.holds n (qs ++ rest) (subst (Fits n false) (append_assoc ps qs rest) f) in
      let y = k.holds n rest x.1 in
      (omega (arith, x.0, y.0), y.1);
}

abbrev pub After : ℕ → ℕ → Bool → ℕ → List Piece → Type 0
After o c e n ps = Behind o c n (λ m. Fits m e ps)

-- what a token opens and closes
abbrev pub Moves : Bool → ℕ → ℕ → Bool → TokenKind → Type 0
Moves e o c next kind = (opening e kind ≡ o) × (closing e kind ≡ c) × (is_end kind ≡ next)

pub moved : {next : Bool} {o c : ℕ} (e : Bool) (kind : TokenKind) (n : ℕ) (ps : List Piece) → Moves e o c next kind → After (opening e kind) (closing e kind) (is_end kind) n ps → After o c next n ps
moved {next} {o} {c} e kind n ps is f =
    subst (λ x. After o c x n ps) is.2 (subst (λ d. After o d (is_end kind) n ps) is.1 (subst (λ d. After d (closing e kind) (is_end kind) n ps) is.0 f))

-- no level, and it isn't `end`
abbrev pub IsPlain : TokenKind → Type 0
IsPlain = Moves false 0 0 false

pub b_piece : {g : ℕ → ℕ} {c a : ℕ} {ps : List Piece} (p : Piece) → IsPlain (kind_of_piece p) → Spans g c a ps → Spans g c a (p ∷ ps)
b_piece {g} {c} {a} {ps} p plain h = record { holds = λ n rest f. h.holds n rest (moved false (kind_of_piece p) n (ps ++ rest) plain f) }

-- `end` and a word behind it, which closes a level or none
pub b_end : {g : ℕ → ℕ} {c a : ℕ} {ps : List Piece} (word : Piece) → Moves true 0 0 false (kind_of_piece word) → Spans g c a ps → Spans g c a (some k.End ∷ (word ∷ ps))
unfolding same_kind
b_end {g} {c} {a} {ps} word is h = record { holds = λ n rest f. h.holds n rest (moved true (kind_of_piece word) n (ps ++ rest) is f) }

pub b_close : {c : ℕ} {ps : List Piece} (word : Piece) → Moves true 0 1 false (kind_of_piece word) → Bounds c 0 ps → Closes c 0 (some k.End ∷ (word ∷ ps))
unfolding same_kind
b_close {c} {ps} word is h = record { holds = λ n rest f. (omega arith, (h.holds (suc n) rest (moved true (kind_of_piece word) n (ps ++ rest) is f)).1) }

pub b_paren : {c : ℕ} → Closes c 0 (some k.RightParen ∷ [])
unfolding same_kind
b_paren = record { holds = λ n rest f. (omega arith, f) }

-- `)` and more
pub b_paren_then : {c : ℕ} {ps : List Piece} → Bounds c 0 ps → Closes c 0 (some k.RightParen ∷ ps)
unfolding same_kind
b_paren_then h = record { holds = λ n rest f. (omega arith, (h.holds (suc n) rest f).1) }

pub opened : (n : ℕ) (ps : List Piece) → After 1 0 false n ps → (m : ℕ) × (n ≡ suc m) × Fits m false ps
opened zero ps f = absurd f
opened (suc m) ps f = (m, refl, f)

-- one level more
pub b_level : {c a : ℕ} {ps : List Piece} (p : Piece) → Moves false 1 0 false (kind_of_piece p) → Closes c a ps → Bounds c (8 + a) (p ∷ ps)
b_level {c} {a} {ps} p is h = record {
  holds = λ n rest f.
      let o = opened n (ps ++ rest) (moved false (kind_of_piece p) n (ps ++ rest) is f) in
      let x = h.holds o.0 rest o.2 in
      (omega (arith, o.1, x.0), subst (λ m. Fits m false rest) (sym o.1) x.1);
}

-- ---- what productions have in common

pub b_ident : {c : ℕ} (i : Ident) → Bounds c 0 (spell_ident i)
unfolding same_kind
b_ident i = b_piece (word_at i.at i.text) (refl, refl, refl) b_none

pub b_word : {c : ℕ} (kind : TokenKind) (stands : Bool) → IsPlain kind → Bounds c 0 (spell_word kind stands)
b_word kind true plain = b_piece (some kind) plain b_none
b_word kind false plain = b_none

-- [ a ], { a } and a { separator a }, by what each of their parts is
module _ {X A : Type 0} (c : ℕ) (view : X → A) (high : X → ℕ) (spell : A → List Piece) (Good : A → Type 0) (each : (x : X) → Good (view x) → Bounds c (high x) (spell (view x))) where
  pub b_option : (o : Option X) → IsOption Good (option_map view o) → Bounds c (optional_height high o) (spell_option spell (option_map view o))
  b_option None good = b_none
  b_option (Some x) good = each x good

  pub b_each : (xs : List X) → IsEach Good (map view xs) → Bounds c (highest high xs) (spell_each spell (map view xs))
  b_each [] good = b_none
  b_each (x ∷ xs) good = b_then (each x good.0) (b_each xs good.1)

  b_more : (separator : TokenKind) → IsPlain separator → (xs : List X) → IsEach Good (map view xs) → Bounds c (highest high xs) (spell_each (λ y. some separator ∷ spell y) (map view xs))
  b_more separator plain [] good = b_none
  b_more separator plain (x ∷ xs) good = b_then (b_piece (some separator) plain (each x good.0)) (b_more separator plain xs good.1)

  pub b_list : (separator : TokenKind) → IsPlain separator → (xs : List X) → IsList Good (map view xs) → Bounds c (highest high xs) (spell_list separator spell (map view xs))
  b_list separator plain [] good = absurd good
  b_list separator plain (x ∷ xs) good = b_then (each x good.0) (b_more separator plain xs good.1)

-- the same of what has no height
module _ {A : Type 0} {c : ℕ} (spell : A → List Piece) (each : (x : A) → Bounds c 0 (spell x)) where
  pub b_option_flat : (o : Option A) → Bounds c 0 (spell_option spell o)
  b_option_flat None = b_none
  b_option_flat (Some x) = each x

  more_flat : (separator : TokenKind) → IsPlain separator → (xs : List A) → Bounds c 0 (spell_each (λ y. some separator ∷ spell y) xs)
  more_flat separator plain [] = b_none
  more_flat separator plain (x ∷ xs) = b_less (omega arith) (b_then (b_piece (some separator) plain (each x)) (more_flat separator plain xs))

  pub b_list_flat : (separator : TokenKind) → IsPlain separator → (xs : List A) → Bounds c 0 (spell_list separator spell xs)
  b_list_flat separator plain [] = b_none
  b_list_flat separator plain (x ∷ xs) = b_less (omega arith) (b_then (each x) (more_flat separator plain xs))

pub b_idents : {c : ℕ} (is : List Ident) → Bounds c 0 (spell_idents is)
unfolding same_kind
b_idents is = b_list_flat spell_ident (λ i. b_ident i) k.Comma (refl, refl, refl) is

pub b_optional_ident : {c : ℕ} (o : Option Ident) → Bounds c 0 (spell_option spell_ident o)
b_optional_ident o = b_option_flat spell_ident (λ i. b_ident i) o

pub b_semicolon : {c : ℕ} → Bounds c 0 (some k.Semicolon ∷ [])
unfolding same_kind
b_semicolon = b_piece (some k.Semicolon) (refl, refl, refl) b_none

-- [ id ] ;
pub b_last : {c : ℕ} (o : Option Ident) → Bounds c 0 (spell_option spell_ident o ++ some k.Semicolon ∷ [])
b_last {c} o = b_less {c = c} (omega arith) (b_then (b_optional_ident o) b_semicolon)
