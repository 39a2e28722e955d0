-- Texts that are dropped and are spelled are read.
use Rattle.std.proofs.Common.{◌≡◌, ℕ, zero, suc, ◌+◌, ◌-◌, ◌≤◌, ◌==◌, nat_lt, Bool, true, false, ◌&&◌, cond, List, [], ◌∷◌, ◌++◌, length, map, Ok, Err, Option, Some, None, refl, sym, ap, subst, append_assoc, append-nil, lt-ltb, arith}
use Rattle.std.proofs.lemmas.Bool.{and_parts, and_from, eq-eqb, eqb-true, ltb-true}
use Rattle.vhdl_lexer.specs.declared.language.Language.{Language}
use Rattle.vhdl_lexer.specs.declared.language.Language.TheVariants.{Profile, Wide}
use Rattle.vhdl_lexer.specs.declared.token.TokenKind.{TokenKind}
use Rattle.vhdl_lexer.specs.declared.token.TokenKind.TheVariants as k
use Rattle.vhdl_tree.specs.Lexeme.{same_kind}
use Rattle.vhdl_tree.specs.Tree.{Text}
use Rattle.vhdl_tree.specs.Pieces.{Piece, some}
use Rattle.vhdl_tree.specs.grammar.Texts.{spell_text, ends_operand, may_follow, is_text, IsTextIn}
use Rattle.vhdl_parser_expressions.specs.reader.Input.{Outcome, Parser, and_then, expect, below, refuse}
use Rattle.vhdl_parser_expressions.proofs.Steps.{spells_length}
use Rattle.vhdl_parser_expressions.proofs.Gives.{Reaches, Gives, Whatever, g_pure, g_then, g_some, g_below, g_choose}
use Rattle.vhdl_parser_statements.specs.reader.Wide.{wide}
use Rattle.vhdl_parser_statements.specs.reader.Texts.{token_by, text_token, text_end, text_by, text_from, text_tokens, text_of}
use Rattle.vhdl_parser_statements.proofs.Conditional.{AtEnd, rest_some}
use Rattle.vhdl_parser_statements.proofs.Followed.{Token, taken, opened}

-- steps in a step
inner_gives : {A B C : Type 0} {b : B} {ps : List Piece} {G : Option TokenKind → Type 0} (p : Parser A) (g : A → Parser C) (f : C → Parser B) →
    Gives (λ ts. and_then (p ts) (λ a us. and_then (g a us) f)) b ps G → Gives (λ ts. and_then (and_then (p ts) g) f) b ps G
inner_gives {A} {B} {C} {b} {ps} {G} p g f w = record { reads = λ ts rest h s. subst (λ o. Reaches o b rest) (assoc (p ts)) (w.reads ts rest h s) }
  where
    assoc : (r : Outcome A) → and_then r (λ a us. and_then (g a us) f) ≡ and_then (and_then r g) f
    assoc (Ok a) = refl
    assoc (Err x) = refl

module _ (n : ℕ) where
  abbrev Given : ℕ → Type 0
  Given turns = (room d : ℕ) (last : TokenKind) (found more : Text) → d + room ≡ n → length more + 1 ≤ turns → is_text d last more ≡ true →
      Gives (text_from n turns room last found) (found ++ more) (map some more) AtEnd

  end_gives : (room d : ℕ) (last : TokenKind) (found : Text) → d + room ≡ n → is_text d last [] ≡ true → Gives (text_end n room last found) found [] AtEnd
  unfolding text_end
  end_gives room d last found h good =
      let parts = and_parts (d == 0) (ends_operand last) good in
      let none = eqb-true d 0 parts.0 in
      let whole = and_from (room == n) (ends_operand last) (eq-eqb room n (omega (arith, h, none))) parts.1 in
      subst (λ b. Gives (cond {A = Parser Text} b (λ ts. Ok (found, ts)) refuse) found [] AtEnd) (sym whole) g_pure

  module _ (turns : ℕ) (later : Given turns) (room d : ℕ) (last : TokenKind) (found more : Text) (h : d + room ≡ n) (le : length more + 1 ≤ turns) where
    abbrev on : Token → Parser Text
    on = text_by (text_from n turns) (text_end n room last found) found

    goes_on : (kind : TokenKind) (d2 left : ℕ) → d2 + left ≡ n → is_text d2 kind more ≡ true → Gives (text_from n turns left kind (found ++ kind ∷ [])) (found ++ kind ∷ more) (map some more) AtEnd
    goes_on kind d2 left e good = subst (λ xs. Gives (text_from n turns left kind (found ++ kind ∷ [])) xs (map some more) AtEnd) (append_assoc found (kind ∷ []) more)
        (later left d2 kind (found ++ kind ∷ []) more e le good)

    -- a token that opens no level
    taken_gives : (kind : TokenKind) (d2 left : ℕ) → d2 + left ≡ n → is_text d2 kind more ≡ true →
        Gives (λ ts. and_then (taken kind left ts) on) (found ++ kind ∷ more) (some kind ∷ map some more) AtEnd
    taken_gives kind d2 left e good = inner_gives (expect kind) (λ _ us. Ok (Some (kind, left), us)) on (g_some (λ _. goes_on kind d2 left e good))

    opens_gives : (kind : TokenKind) → is_text (suc d) kind more ≡ true →
        Gives (λ ts. and_then (opened kind room ts) on) (found ++ kind ∷ more) (some kind ∷ map some more) AtEnd
    opens_gives kind good = inner_gives (expect kind) (λ _ us. and_then (below room us) (λ m vs. Ok (Some (kind, m), vs))) on
        (g_some (λ _. inner_gives (below room) (λ m vs. Ok (Some (kind, m), vs)) on (g_below _ room (λ m e. goes_on kind (suc d) m (omega (arith, h, e)) good))))

    -- `)` stands where one is open
    closes_gives : (kind : TokenKind) → nat_lt 0 d && is_text (d - 1) kind more ≡ true →
        (nat_lt room n ≡ true) × Gives (λ ts. and_then (taken kind (suc room) ts) on) (found ++ kind ∷ more) (some kind ∷ map some more) AtEnd
    closes_gives kind good =
        let parts = and_parts (nat_lt 0 d) (is_text (d - 1) kind more) good in
        let some_open = ltb-true 0 d parts.0 in
        (lt-ltb room n (omega (arith, h, some_open)), taken_gives kind (d - 1) (suc room) (omega (arith, h, some_open)) parts.1)

    token_gives : (kind : TokenKind) → is_text d last (kind ∷ more) ≡ true → Gives (λ ts. and_then (token_by n room last (Some kind) ts) on) (found ++ kind ∷ more) (some kind ∷ map some more) AtEnd
    token_gives kind good = by (same_kind kind k.LeftParen) good
      where
        by_follow : (c : Bool) → c && is_text d kind more ≡ true → Gives (λ ts. and_then (cond {A = Parser Token} c (taken kind room) (λ us. Ok (None, us)) ts) on) (found ++ kind ∷ more) (some kind ∷ map some more) AtEnd
        by_follow true g = taken_gives kind d room h g
        by_follow false g = absurd (cc)

        by_close : (b : Bool) → cond b (nat_lt 0 d && is_text (d - 1) kind more) (may_follow last kind && is_text d kind more) ≡ true →
            Gives (λ ts. and_then (cond {A = Parser Token} (b && nat_lt room n) (taken kind (suc room)) (cond (may_follow last kind) (taken kind room) (λ us. Ok (None, us))) ts) on) (found ++ kind ∷ more) (some kind ∷ map some more) AtEnd
        by_close true g =
            let closes = closes_gives kind g in
            subst (λ b. Gives (λ ts. and_then (cond {A = Parser Token} b (taken kind (suc room)) (cond (may_follow last kind) (taken kind room) (λ us. Ok (None, us))) ts) on) (found ++ kind ∷ more) (some kind ∷ map some more) AtEnd) (sym closes.0) closes.1
        by_close false g = by_follow (may_follow last kind) g

        by : (a : Bool) → cond a (is_text (suc d) kind more) (cond (same_kind kind k.RightParen) (nat_lt 0 d && is_text (d - 1) kind more) (may_follow last kind && is_text d kind more)) ≡ true →
            Gives (λ ts. and_then (cond {A = Parser Token} a (opened kind room) (cond (same_kind kind k.RightParen && nat_lt room n) (taken kind (suc room)) (cond (may_follow last kind) (taken kind room) (λ us. Ok (None, us)))) ts) on)
            (found ++ kind ∷ more) (some kind ∷ map some more) AtEnd
        by true g = opens_gives kind g
        by false g = by_close (same_kind kind k.RightParen) g

  given : (turns : ℕ) → Given turns
  unfolding text_from text_token same_kind
  given zero room d last found more h le good = absurd (omega (arith, le))
  given (suc turns) room d last found [] h le good =
      subst (λ xs. Gives (text_from n (suc turns) room last found) xs [] AtEnd) (sym (append-nil found))
      (g_choose (λ next ts. and_then (token_by n room last next ts) (text_by (text_from n turns) (text_end n room last found) found)) (Some k.Semicolon) (λ next g. g) (end_gives room d last found h good))
  given (suc turns) room d last found (kind ∷ more) h le good =
      g_choose (λ next ts. and_then (token_by n room last next ts) (text_by (text_from n turns) (text_end n room last found) found)) (Some kind) (λ next g. refl)
      (token_gives turns (given turns) room d last found more h (omega (arith, le)) kind good)

  map_long : (text : Text) → length (map some text) ≡ length text
  map_long [] = refl
  map_long (kind ∷ text) = ap (λ x. suc x) (map_long text)

  tokens_gives : (text : Text) → is_text 0 k.Semicolon text ≡ true → Gives (text_tokens n) text (map some text) AtEnd
  unfolding text_tokens
  tokens_gives text good = record {
    reads = λ ts rest h g.
        (given (length ts) n 0 k.Semicolon [] text (omega arith) (omega (arith, spells_length (map some text) ts rest h, map_long text, rest_some rest g)) good).reads ts rest h g;
  }

pub text_gives : (language : Language) (n : ℕ) (word : TokenKind) (text : Text) → IsTextIn language text → Gives (text_of language n word) text (spell_text word text) Whatever
unfolding text_of wide
text_gives Profile n word text f = absurd f.0
text_gives Wide n word text f = g_some (λ _. g_then _ (tokens_gives n text f.1) (g_some (λ _. g_pure)) (λ next g. refl))
