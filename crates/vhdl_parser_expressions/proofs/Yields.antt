-- Readers that read what is spelled, unless it is too deep: one lemma for each step.
use Rattle.std.proofs.Common.{◌≡◌, ℕ, List, [], ◌∷◌, slice_index, Ok, Err, Some, ◌⊎◌, inl, inr, refl, ap, ◌∙◌}
use Rattle.vhdl_lexer.specs.declared.token.TokenKind.{TokenKind}
use Rattle.vhdl_lexer.specs.declared.token.TokenKind.TheVariants as k
use Rattle.vhdl_parser_expressions.specs.declared.stop.Stop.TheVariants.{TooDeep}
use Rattle.vhdl_tree.specs.Lexeme.{Lexeme}
use Rattle.vhdl_tree.specs.Tree.{Ident}
use Rattle.vhdl_tree.specs.Pieces.{Piece, some, one_at, word_at, literal_at, text_at, Is, Spells, spell_ident}
use Rattle.vhdl_parser_expressions.specs.reader.Input.{Outcome, Parser, and_then, expect, identifier, literal, text, next_kind}
use Rattle.vhdl_parser_expressions.proofs.Steps.{spelled_one, takes}

-- refused for its depth, wherever
abbrev pub IsTooDeep : {A : Type 0} → Outcome A → Type 0
IsTooDeep r = (at : List Lexeme) × (r ≡ Err (TooDeep, at))

-- so is what would follow
pub deep_then : {A B : Type 0} {r : Outcome A} (f : A → Parser B) → IsTooDeep r → IsTooDeep (and_then r f)
deep_then f d = (d.0, ap (λ x. and_then x f) d.1)

pub deep_is : {A : Type 0} {r s : Outcome A} → r ≡ s → IsTooDeep s → IsTooDeep r
deep_is e d = (d.0, e ∙ d.1)

-- an outcome is the other one, or refused for its depth
abbrev pub Yields : {A : Type 0} → Outcome A → Outcome A → Type 0
Yields r s = (r ≡ s) ⊎ IsTooDeep r

pub yields_then : {A : Type 0} {r s t : Outcome A} → Yields r s → Yields s t → Yields r t
yields_then (inl e) (inl f) = inl (e ∙ f)
yields_then (inl e) (inr d) = inr (deep_is e d)
yields_then (inr d) y = inr d

pub yields_is : {A : Type 0} {r s t : Outcome A} → r ≡ s → Yields s t → Yields r t
yields_is e y = yields_then (inl e) y

-- a rule that reads a, and what follows it
pub yields_bind : {A B : Type 0} {r : Outcome A} {a : A} {us : List Lexeme} {t : Outcome B} (f : A → Parser B) → Yields r (Ok (a, us)) → Yields (f a us) t → Yields (and_then r f) t
yields_bind f (inl e) y = yields_is (ap (λ x. and_then x f) e) y
yields_bind f (inr d) y = inr (deep_then f d)

-- ---- tokens

pub expect_at : (kind : TokenKind) (at : ℕ) (ts us : List Lexeme) → Spells (one_at kind at ∷ []) ts us → expect kind ts ≡ Ok (at, us)
unfolding expect
expect_at kind at ts us h =
    let s = spelled_one (one_at kind at) ts us h in
    takes kind (λ (l : Lexeme). l.at) ts s.0 us s.1 s.2.0 ∙ ap (λ x. Ok (x, us)) s.2.1

pub expect_some : (kind : TokenKind) (ts us : List Lexeme) → Spells (some kind ∷ []) ts us → (at : ℕ) × (expect kind ts ≡ Ok (at, us))
unfolding expect
expect_some kind ts us h =
    let s = spelled_one (some kind) ts us h in
    (s.0.at, takes kind (λ (l : Lexeme). l.at) ts s.0 us s.1 s.2)

pub reads_ident : (n : Ident) (ts us : List Lexeme) → Spells (spell_ident n) ts us → identifier ts ≡ Ok (n, us)
unfolding identifier
reads_ident n ts us h =
    let s = spelled_one (word_at n.at n.text) ts us h in
    let of : Lexeme → Ident = λ l. record { at = l.at; text = l.text } in
    let value : of s.0 ≡ n = rw (s.2.1, s.2.2) refl in
    takes k.Identifier of ts s.0 us s.1 s.2.0 ∙ ap (λ x. Ok (x, us)) value

pub reads_literal : (at code : ℕ) (ts us : List Lexeme) → Spells (literal_at at code ∷ []) ts us → literal ts ≡ Ok ((at, code), us)
unfolding literal
reads_literal at code ts us h =
    let s = spelled_one (literal_at at code) ts us h in
    let of : Lexeme → ℕ × ℕ = λ l. (l.at, slice_index l.text 1) in
    let value : of s.0 ≡ (at, code) = rw (s.2.1, s.2.2) refl in
    takes k.Character of ts s.0 us s.1 s.2.0 ∙ ap (λ x. Ok (x, us)) value

pub reads_text : (kind : TokenKind) (at : ℕ) (bytes : List ℕ) (ts us : List Lexeme) → Spells (text_at kind at bytes ∷ []) ts us → text kind ts ≡ Ok ((at, bytes), us)
unfolding text
reads_text kind at bytes ts us h =
    let s = spelled_one (text_at kind at bytes) ts us h in
    let of : Lexeme → ℕ × List ℕ = λ l. (l.at, l.text) in
    let value : of s.0 ≡ (at, bytes) = rw (s.2.1, s.2.2) refl in
    takes kind of ts s.0 us s.1 s.2.0 ∙ ap (λ x. Ok (x, us)) value

-- the kind of the token at the front
pub front : (p : Piece) (ps : List Piece) (kind : TokenKind) (ts us : List Lexeme) → ((l : Lexeme) → Is p l → l.kind ≡ kind) → Spells (p ∷ ps) ts us → next_kind ts ≡ Some kind
unfolding next_kind
front p ps kind [] us f h = absurd h
front p ps kind (t ∷ ts) us f h = ap Some (f t h.0)
