-- What the reader of a text that is dropped makes.
use Rattle.std.proofs.Common.{◌≡◌, ℕ, zero, suc, ◌+◌, ◌-◌, ◌≤◌, ◌<◌, ◌==◌, nat_lt, Bool, true, false, not, ◌&&◌, ◌||◌, cond, List, [], ◌∷◌, ◌++◌, length, map, Ok, Option, Some, None, refl, sym, ap, ◌∙◌, subst, append_assoc, append-nil, lt-ltb, arith}
use Rattle.std.proofs.lemmas.List.{map-append}
use Rattle.std.proofs.lemmas.Bool.{and_parts, and_from, eq-eqb, eqb-true, ltb-true}
use Rattle.vhdl_lexer.specs.declared.language.Language.TheVariants.{Wide}
use Rattle.vhdl_lexer.specs.declared.token.TokenKind.{TokenKind}
use Rattle.vhdl_lexer.specs.declared.token.TokenKind.TheVariants as k
use Rattle.vhdl_tree.specs.Lexeme.{Lexeme, same_kind}
use Rattle.vhdl_tree.specs.Tree.{Text}
use Rattle.vhdl_tree.specs.Pieces.{Piece, some}
use Rattle.vhdl_tree.specs.grammar.Texts.{spell_text, ends_operand, may_follow, is_text, IsTextIn}
use Rattle.vhdl_parser_expressions.specs.reader.Input.{Outcome, Parser, and_then, next_kind, expect, below, refuse}
use Rattle.vhdl_parser_expressions.proofs.Steps.{kind_same, pure_ok}
use Rattle.vhdl_parser_expressions.proofs.Halts.{Example, Sticks}
use Rattle.vhdl_parser_expressions.proofs.Steady.{steady_deep, steady_turns, Advances, advances_then, advances_token, then_alike, left_of}
use Rattle.vhdl_parser_expressions.proofs.Walks.{Rule, Walks, deep_here, w_pure, w_then, w_before}
use Rattle.vhdl_parser_expressions.proofs.Rules.{is_neutral, w_take_by, w_some, w_right, w_refuse, w_choose, w_inner, deep_met}
use Rattle.vhdl_parser_statements.specs.reader.Wide.{wide}
use Rattle.vhdl_parser_statements.specs.reader.Texts.{token_by, text_token, text_end, text_by, text_from, text_tokens, text_of}
use Rattle.vhdl_parser_statements.proofs.Followed.{Token, taken, opened}

abbrev IsWhole : Text → Type 0
IsWhole text = is_text 0 k.Semicolon text ≡ true

-- What goes on with a text behind these tokens, so many ( of which are open and this one is the last, makes a text of them.
abbrev Goes : Text → ℕ → TokenKind → Type 0
Goes found d last = (more : Text) → is_text d last more ≡ true → IsWhole (found ++ more)

-- ---- each text can be ended

closing : ℕ → Text
closing zero = []
closing (suc d) = k.RightParen ∷ closing d

-- `)` goes on with a text in which one is open
close_text : (d : ℕ) (last : TokenKind) (more : Text) → is_text (suc d) last (k.RightParen ∷ more) ≡ is_text d k.RightParen more
unfolding same_kind
close_text d last more =
    let less : suc d - 1 ≡ d = omega arith in
    ap (λ b. b && is_text (suc d - 1) k.RightParen more) (lt-ltb 0 (suc d) (omega arith)) ∙ ap (λ x. is_text x k.RightParen more) less

closed : (d : ℕ) (last : TokenKind) → ends_operand last ≡ true → is_text d last (closing d) ≡ true
unfolding same_kind closing
closed zero last e = e
closed (suc d) last e = close_text d last (closing d) ∙ closed d k.RightParen refl

finish : (d : ℕ) (last : TokenKind) → (more : Text) × (is_text d last more ≡ true)
unfolding same_kind
finish d last = by (ends_operand last) refl
  where
    by : (b : Bool) → ends_operand last ≡ b → (more : Text) × (is_text d last more ≡ true)
    by true e = (closing d, closed d last e)
    by false e =
        let follows = ap (λ b. not b || (same_kind last k.Integer && same_kind k.Identifier k.Identifier)) e in
        (k.Identifier ∷ closing d, and_from (may_follow last k.Identifier) (is_text d k.Identifier (closing d)) follows (closed d k.Identifier refl))

-- a token that may follow neither opens nor closes a level
follow_neutral : (last kind : TokenKind) → may_follow last kind ≡ true → is_neutral kind ≡ true
unfolding same_kind
follow_neutral last k.LeftParen h = absurd (cc)
follow_neutral last k.RightParen h = absurd (cc)
follow_neutral last k.If h = absurd (cc)
follow_neutral last k.Case h = absurd (cc)
follow_neutral last k.For h = absurd (cc)
follow_neutral last k.Loop h = absurd (cc)
follow_neutral last k.Generate h = absurd (cc)
follow_neutral last k.End h = absurd (cc)
follow_neutral last _ h = refl

-- a text behind a token, by whether that opens a level, closes one, or may follow
abbrev text_by_tests : (d : ℕ) (kind : TokenKind) (more : Text) → (opens closes follows : Bool) → Bool
text_by_tests d kind more opens closes follows =
    cond opens (is_text (suc d) kind more) (cond closes (nat_lt 0 d && is_text (d - 1) kind more) (follows && is_text d kind more))

first_two : (a b c : Bool) → not (a || (b || c)) ≡ true → (a ≡ false) × (b ≡ false)
first_two true b c h = absurd (cc)
first_two false true c h = absurd (cc)
first_two false false c h = (refl, refl)

-- a token that may follow goes on with a text
pub follow_text : (d : ℕ) (last kind : TokenKind) (more : Text) → may_follow last kind ≡ true → is_text d last (kind ∷ more) ≡ is_text d kind more
unfolding same_kind
follow_text d last kind more h =
    let no = first_two (same_kind kind k.LeftParen) (same_kind kind k.RightParen) _ (follow_neutral last kind h) in
    ap (λ b. text_by_tests d kind more b (same_kind kind k.RightParen) (may_follow last kind)) no.0
    ∙ ap (λ b. text_by_tests d kind more false b (may_follow last kind)) no.1
    ∙ ap (λ b. text_by_tests d kind more false false b) h

-- ---- a token takes one

expect_on : (kind : TokenKind) → Advances (expect kind)
unfolding expect
expect_on kind = advances_then _ (advances_token kind) (λ l us. omega arith)

opens_short : (kind : TokenKind) (room : ℕ) (us : List Lexeme) → length (left_of {A = Token} (and_then (below room us) (λ m vs. Ok (Some (kind, m), vs)))) ≤ length us
unfolding below
opens_short kind zero us = omega arith
opens_short kind (suc m) us = omega arith

-- what reads nothing reads no token
abbrev IsNone : Token → Type 0
IsNone None = Unit {0}
IsNone (Some next) = ⊥

no_token : (next : TokenKind × ℕ) (ts rest : List Lexeme) → ◌≡◌ {A = Outcome Token} (Ok (None, ts)) (Ok (Some next, rest)) → ⊥
no_token next ts rest h = subst IsNone (pure_ok None (Some next) ts rest h).0 tt

token_on : (n room : ℕ) (last : TokenKind) (ts : List Lexeme) (next : TokenKind × ℕ) (rest : List Lexeme) → text_token n room last ts ≡ Ok (Some next, rest) → length rest < length ts
unfolding text_token next_kind
token_on n room last [] next rest h = absurd (no_token next [] rest h)
token_on n room last (l ∷ ts) next rest h = by (same_kind l.kind k.LeftParen) (same_kind l.kind k.RightParen && nat_lt room n) (may_follow last l.kind) h
  where
    by : (a b c : Bool) → cond {A = Parser Token} a (opened l.kind room) (cond b (taken l.kind (suc room)) (cond c (taken l.kind room) (λ us. Ok (None, us)))) (l ∷ ts) ≡ Ok (Some next, rest) → length rest < length (l ∷ ts)
    by true b c g = advances_then _ (expect_on l.kind) (λ at us. opens_short l.kind room us) (l ∷ ts) (Some next) rest g
    by false true c g = advances_then _ (expect_on l.kind) (λ at us. omega arith) (l ∷ ts) (Some next) rest g
    by false false true g = advances_then _ (expect_on l.kind) (λ at us. omega arith) (l ∷ ts) (Some next) rest g
    by false false false g = absurd (no_token next (l ∷ ts) rest g)

module _ (n : ℕ) where
  -- behind what was found of a text
  abbrev Walked : ℕ → Text → Parser Text → Type 0
  Walked d found p = Walks n d false 0 (λ r. map some found ++ r) p (map some) IsWhole

  abbrev Later : ℕ → Type 0
  Later turns = (room d : ℕ) (last : TokenKind) (found : Text) → d + room ≡ n → Goes found d last → Walked d found (text_from n turns room last found)

  example_behind : (found more : Text) (d : ℕ) (last : TokenKind) → Goes (found ++ more) d last → Example (λ r. map some found ++ (map some more ++ r)) (map some) IsWhole
  example_behind found more d last goes =
      let f = finish d last in
      record {
        tree = (found ++ more) ++ f.0;
        more = map some f.0;
        is = ap (map some) (append_assoc found more f.0) ∙ map-append some found (more ++ f.0) ∙ ap (λ ps. map some found ++ ps) (map-append some more f.0);
        formed = goes f.0 f.1;
      }

  end_rule : (room d : ℕ) (last : TokenKind) (found : Text) → d + room ≡ n → Goes found d last → Walked d found (text_end n room last found)
  unfolding text_end
  end_rule room d last found h goes = by ((room == n) && ends_operand last) refl
    where
      by : (b : Bool) → (room == n) && ends_operand last ≡ b → Walked d found (cond {A = Parser Text} b (λ ts. Ok (found, ts)) refuse)
      by true e =
          let parts = and_parts (room == n) (ends_operand last) e in
          let same = eqb-true room n parts.0 in
          let none : d ≡ 0 = omega (arith, h, same) in
          let whole : IsWhole found = subst IsWhole (append-nil found) (goes [] (and_from (d == 0) (ends_operand last) (eq-eqb d 0 none) parts.1)) in
          subst (λ x. Walked x found (λ ts. Ok (found, ts))) (sym none) (w_pure (omega arith) (sym (append-nil (map some found))) whole)
      by false e = w_refuse (example_behind found [] d last (subst (λ xs. Goes xs d last) (sym (append-nil found)) goes))

  module _ (turns : ℕ) (later : Later turns) (room d : ℕ) (last : TokenKind) (found : Text) (h : d + room ≡ n) (goes : Goes found d last) where
    abbrev on : Option (TokenKind × ℕ) → Parser Text
    on = text_by (text_from n turns) (text_end n room last found) found

    behind : (kind : TokenKind) (d2 : ℕ) → ((more : Text) → is_text d2 kind more ≡ true → is_text d last (kind ∷ more) ≡ true) → Goes (found ++ kind ∷ []) d2 kind
    behind kind d2 step more e = subst IsWhole (sym (append_assoc found (kind ∷ []) more)) (goes (kind ∷ more) (step more e))

    found_more : (kind : TokenKind) (ps : List Piece) → map some (found ++ kind ∷ []) ++ ps ≡ map some found ++ (some kind ∷ ps)
    found_more kind ps = ap (λ qs. qs ++ ps) (map-append some found (kind ∷ [])) ∙ append_assoc (map some found) (some kind ∷ []) ps

    goes_on : (kind : TokenKind) (d2 left : ℕ) → d2 + left ≡ n → ((more : Text) → is_text d2 kind more ≡ true → is_text d last (kind ∷ more) ≡ true) →
        Walks n d2 false 0 (λ r. map some found ++ (some kind ∷ r)) (text_from n turns left kind (found ++ kind ∷ [])) (map some) IsWhole
    goes_on kind d2 left e step = w_before (λ ps. found_more kind ps) (later left d2 kind (found ++ kind ∷ []) e (behind kind d2 step))

    follows_rule : (kind : TokenKind) → may_follow last kind ≡ true → Walked d found (λ ts. and_then (taken kind room ts) on)
    follows_rule kind may = w_inner (expect kind) (λ _ us. Ok (Some (kind, room), us)) on
        (w_some kind (follow_neutral last kind may) (λ _. goes_on kind d room h (λ more e. follow_text d last kind more may ∙ e)))

    closes_rule : nat_lt room n ≡ true → Walked d found (λ ts. and_then (taken k.RightParen (suc room) ts) on)
    unfolding same_kind
    closes_rule less = by d h goes
      where
        by : (x : ℕ) → x + room ≡ n → Goes found x last → Walked x found (λ ts. and_then (taken k.RightParen (suc room) ts) on)
        by zero e known = absurd (omega (arith, e, ltb-true room n less))
        by (suc x) e known = w_inner (expect k.RightParen) (λ _ us. Ok (Some (k.RightParen, suc room), us)) on
            (w_right (omega (arith, e)) (λ _. w_before (λ ps. found_more k.RightParen ps) (later (suc room) x k.RightParen (found ++ k.RightParen ∷ []) (omega (arith, e))
            (λ more s. subst IsWhole (sym (append_assoc found (k.RightParen ∷ []) more)) (known (k.RightParen ∷ more) (close_text x last more ∙ s))))))

    -- behind a parenthesis that opens
    abbrev within : ℕ → Parser Text
    within left = λ us. and_then (and_then (below left us) (λ m vs. Ok (Some (k.LeftParen, m), vs))) on

    opened_rule : (left : ℕ) → d + left ≡ n → Walks n (suc d) false 0 (λ r. map some found ++ (some k.LeftParen ∷ r)) (within left) (map some) IsWhole
    unfolding below same_kind
    opened_rule zero e = record {
      reads = λ ts b rest g. absurd (cc);
      deep = λ ts at g. deep_here n (suc d) false ts (omega (arith, e));
      example = λ le. absurd (omega (arith, le, e));
      stuck = λ le ts why at g met. absurd (omega (arith, le, e));
      steady = steady_deep;
    }
    opened_rule (suc m) e = goes_on k.LeftParen (suc d) m (omega (arith, e)) (λ more s. s)

    opens_rule : Walked d found (λ ts. and_then (opened k.LeftParen room ts) on)
    unfolding expect same_kind below
    opens_rule = w_inner (expect k.LeftParen) (λ _ us. and_then (below room us) (λ m vs. Ok (Some (k.LeftParen, m), vs))) on
        (w_take_by (λ l. l.at) k.LeftParen (λ _. some k.LeftParen) (λ le. omega (arith, le)) (omega arith) refl (λ l i. i)
        (λ le at. example_behind found (k.LeftParen ∷ []) (suc d) k.LeftParen (behind k.LeftParen (suc d) (λ more s. s)))
        (λ le at ts why us e met. by_room room h ts why us e met)
        (λ at. opened_rule room h))
      where
        by_room : (left : ℕ) → d + left ≡ n → Sticks (λ r. map some found ++ (some k.LeftParen ∷ r)) (within left) (map some) IsWhole
        by_room zero e ts why us g met = deep_met ts why us g met
        by_room (suc m) e ts why us g met = (opened_rule (suc m) e).stuck (omega (arith, e)) ts why us g met

    next_rule : (next : Option TokenKind) → Walked d found (λ ts. and_then (token_by n room last next ts) on)
    next_rule None = end_rule room d last found h goes
    next_rule (Some kind) = by (same_kind kind k.LeftParen) refl
      where
        by_follow : (c : Bool) → may_follow last kind ≡ c → Walked d found (λ ts. and_then (cond {A = Parser Token} c (taken kind room) (λ us. Ok (None, us)) ts) on)
        by_follow true e = follows_rule kind e
        by_follow false e = end_rule room d last found h goes

        by_close : (b : Bool) → same_kind kind k.RightParen && nat_lt room n ≡ b → Walked d found (λ ts. and_then (cond {A = Parser Token} b (taken kind (suc room)) (cond (may_follow last kind) (taken kind room) (λ us. Ok (None, us))) ts) on)
        by_close true e =
            let parts = and_parts (same_kind kind k.RightParen) (nat_lt room n) e in
            subst (λ x. Walked d found (λ ts. and_then (taken x (suc room) ts) on)) (sym (kind_same kind k.RightParen parts.0)) (closes_rule parts.1)
        by_close false e = by_follow (may_follow last kind) refl

        by : (a : Bool) → same_kind kind k.LeftParen ≡ a → Walked d found (λ ts. and_then (cond {A = Parser Token} a (opened kind room)
            (cond (same_kind kind k.RightParen && nat_lt room n) (taken kind (suc room)) (cond (may_follow last kind) (taken kind room) (λ us. Ok (None, us)))) ts) on)
        by true e = subst (λ x. Walked d found (λ ts. and_then (opened x room ts) on)) (sym (kind_same kind k.LeftParen e)) opens_rule
        by false e = by_close (same_kind kind k.RightParen && nat_lt room n) refl

  all_later : (turns : ℕ) → Later turns
  unfolding text_from text_token
  all_later zero room d last found h goes = end_rule room d last found h goes
  all_later (suc turns) room d last found h goes = w_choose {by = λ next ts. and_then (token_by n room last next ts) (text_by (text_from n turns) (text_end n room last found) found)}
      (λ next. next_rule turns (all_later turns) room d last found h goes next)

  -- ---- as many turns as tokens are enough

  no_turn : (turns room : ℕ) (last : TokenKind) (found : Text) → text_from n turns room last found [] ≡ text_end n room last found []
  unfolding text_from text_token next_kind
  no_turn zero room last found = refl
  no_turn (suc turns) room last found = refl

  on_alike : (a b room : ℕ) (last : TokenKind) (found : Text) (ts : List Lexeme) →
      ((next : TokenKind × ℕ) (rest : List Lexeme) → text_token n room last ts ≡ Ok (Some next, rest) → text_from n a next.1 next.0 (found ++ next.0 ∷ []) rest ≡ text_from n b next.1 next.0 (found ++ next.0 ∷ []) rest) →
      (x : Token) (rest : List Lexeme) → text_token n room last ts ≡ Ok (x, rest) →
      text_by (text_from n a) (text_end n room last found) found x rest ≡ text_by (text_from n b) (text_end n room last found) found x rest
  on_alike a b room last found ts each None rest h = refl
  on_alike a b room last found ts each (Some next) rest h = each next rest h

  enough : (a b room : ℕ) (last : TokenKind) (found : Text) (ts : List Lexeme) → length ts ≤ a → length ts ≤ b → text_from n a room last found ts ≡ text_from n b room last found ts
  unfolding text_from
  enough a b room last found [] le also = no_turn a room last found ∙ sym (no_turn b room last found)
  enough zero b room last found (l ∷ ts) le also = absurd (omega (arith, le))
  enough (suc a) zero room last found (l ∷ ts) le also = absurd (omega (arith, also))
  enough (suc a) (suc b) room last found (l ∷ ts) le also =
      then_alike (text_token n room last (l ∷ ts)) (text_by (text_from n a) (text_end n room last found) found) (text_by (text_from n b) (text_end n room last found) found)
      (on_alike a b room last found (l ∷ ts) (λ next rest h.
      let less = token_on n room last (l ∷ ts) next rest h in
      enough a b next.1 next.0 (found ++ next.0 ∷ []) rest (omega (arith, le, less)) (omega (arith, also, less))))

  alone : (turns : ℕ) → Rule n 0 (text_from n turns n k.Semicolon []) (map some) IsWhole
  alone turns = all_later turns n 0 k.Semicolon [] (omega arith) (λ more e. e)

  tokens_rule : Rule n 0 (text_tokens n) (map some) IsWhole
  unfolding text_tokens
  tokens_rule = record {
    reads = λ ts text rest h. (alone (length ts)).reads ts text rest h;
    deep = λ ts at h. (alone (length ts)).deep ts at h;
    example = (alone zero).example;
    stuck = λ le ts why at h met. (alone (length ts)).stuck le ts why at h met;
    steady = steady_turns (λ turns. text_from n turns n k.Semicolon []) (λ turns. (alone turns).steady) (λ a b ts le also. enough a b n k.Semicolon [] ts le also);
  }

-- word text ;
pub text_rule : (n : ℕ) (word : TokenKind) → is_neutral word ≡ true → Rule n 0 (text_of Wide n word) (spell_text word) (IsTextIn Wide)
unfolding text_of wide
text_rule n word ok = w_some word ok (λ _. w_then (tokens_rule n) (λ text good _. w_some k.Semicolon refl (λ _. w_pure (omega arith) refl (tt, good))))
