-- A text that is read and dropped leaves as many levels open as before it.
use Rattle.std.proofs.Common.{◌≡◌, ℕ, zero, suc, ◌+◌, ◌-◌, ◌==◌, Bool, true, false, ◌&&◌, if◌then◌else◌, [], ◌∷◌, ◌++◌, map, refl, sym, subst, true≢false, rules, arith}
use mathlib.Core.Bool.{false≢true}
use Rattle.std.proofs.Common.{eqb→eq}
use Rattle.std.proofs.Common.{T}
use Rattle.std.specs.Prelude.{nat_lt}
use denote.Enum.Bare.{same_true}
use Rattle.vhdl_lexer.specs.contracts.token.TokenKind.{the_type}
use Rattle.vhdl_lexer.specs.declared.token.TokenKind.{TokenKind}
use Rattle.vhdl_lexer.specs.declared.token.TokenKind.TheVariants as k
use Rattle.vhdl_tree.specs.Lexeme.{same_kind}
use Rattle.vhdl_tree.specs.Tree.{Text}
use Rattle.vhdl_tree.specs.Pieces.{some}
use Rattle.vhdl_tree.specs.grammar.Texts.{spell_text, ends_operand, may_follow, is_text}
use Rattle.vhdl_tree.proofs.Room.{Fits, Spans, Bounds, Moves, IsPlain, moved, opened, b_less, b_then, b_piece, b_semicolon}

-- what stands in a text, parentheses apart, opens and closes no level
plain : (last kind : TokenKind) → may_follow last kind ≡ true → same_kind kind k.LeftParen ≡ false → same_kind kind k.RightParen ≡ false → IsPlain kind
unfolding same_kind
plain last k.LeftParen h is_left is_right = absurd (true≢false is_left)
plain last k.RightParen h is_left is_right = absurd (true≢false is_right)
plain last k.If h is_left is_right = absurd (false≢true h)
plain last k.Case h is_left is_right = absurd (false≢true h)
plain last k.For h is_left is_right = absurd (false≢true h)
plain last k.End h is_left is_right = absurd (false≢true h)
plain last _ h is_left is_right = (refl, refl, refl)

pub kind_same : (a b : TokenKind) → same_kind a b ≡ true → a ≡ b
unfolding same_kind
kind_same a b = same_true the_type (search rules) a b

-- behind a token that opens a level, where what follows leaves one more open
opens_text : (depth : ℕ) (text : Text) (kind : TokenKind) → Moves false 1 0 false kind → Spans (λ n. suc depth + n) 0 0 (map some text) → Spans (λ n. depth + n) 0 0 (some kind ∷ map some text)
opens_text depth text kind is h = record {
  holds = λ n rest f.
      let o = opened n (map some text ++ rest) (moved false kind n (map some text ++ rest) is f) in
      let same : suc depth + o.0 ≡ depth + n = omega (arith, o.1) in
      (omega arith, subst (λ m. Fits m false rest) same (h.holds o.0 rest o.2).1);
}

-- behind one that closes a level
closes_text : (depth : ℕ) (text : Text) (kind : TokenKind) → Moves false 0 1 false kind → Spans (λ n. depth + n) 0 0 (map some text) → Spans (λ n. suc depth + n) 0 0 (some kind ∷ map some text)
closes_text depth text kind is h = record {
  holds = λ n rest f.
      let same : depth + suc n ≡ suc depth + n = omega arith in
      (omega arith, subst (λ m. Fits m false rest) same (h.holds (suc n) rest (moved false kind n (map some text ++ rest) is f)).1);
}

and_left : (a b : Bool) → (a && b) ≡ true → a ≡ true
and_left true b h = refl
and_left false b h = h

and_right : (a b : Bool) → (a && b) ≡ true → b ≡ true
and_right true b h = h
and_right false b h = absurd (false≢true h)

-- the rest of a text, whatever is open before it, and whatever it stands behind
abbrev Later : Text → Type 0
Later more = (depth : ℕ) (last : TokenKind) → is_text depth last more ≡ true → Spans (λ n. depth + n) 0 0 (map some more)

word_spans : (depth : ℕ) (last kind : TokenKind) (more : Text) → Later more → (left right : Bool) → same_kind kind k.LeftParen ≡ left → same_kind kind k.RightParen ≡ right →
    (if left then is_text (suc depth) kind more else if right then nat_lt 0 depth && is_text (depth - 1) kind more else may_follow last kind && is_text depth kind more) ≡ true →
    Spans (λ n. depth + n) 0 0 (some kind ∷ map some more)
unfolding same_kind
word_spans depth last kind more later true right is_left is_right h =
    opens_text depth more kind (subst (Moves false 1 0 false) (sym (kind_same kind k.LeftParen is_left)) (refl, refl, refl)) (later (suc depth) kind h)
word_spans zero last kind more later false true is_left is_right h = absurd (false≢true (and_left (nat_lt 0 0) (is_text (0 - 1) kind more) h))
word_spans (suc depth) last kind more later false true is_left is_right h =
    let less : suc depth - 1 ≡ depth = omega arith in
    closes_text depth more kind (subst (Moves false 0 1 false) (sym (kind_same kind k.RightParen is_right)) (refl, refl, refl))
    (later depth kind (subst (λ m. is_text m kind more ≡ true) less (and_right (nat_lt 0 (suc depth)) (is_text (suc depth - 1) kind more) h)))
word_spans depth last kind more later false false is_left is_right h =
    b_piece (some kind) (plain last kind (and_left (may_follow last kind) (is_text depth kind more) h) is_left is_right)
    (later depth kind (and_right (may_follow last kind) (is_text depth kind more) h))

text_spans : (text : Text) (depth : ℕ) (last : TokenKind) → is_text depth last text ≡ true → Spans (λ n. depth + n) 0 0 (map some text)
text_spans [] zero last h = record {
  holds = λ n rest f. let same : n ≡ 0 + n = omega arith in (omega arith, subst (λ m. Fits m false rest) same f);
}
text_spans [] (suc depth) last h = let none = eqb→eq (suc depth) 0 (subst T (sym (and_left (suc depth == 0) (ends_operand last) h)) tt) in absurd (omega (arith, none))
text_spans (kind ∷ more) depth last h = word_spans depth last kind more (λ o l g. text_spans more o l g) (same_kind kind k.LeftParen) (same_kind kind k.RightParen) refl refl h

whole : (text : Text) → Spans (λ n. 0 + n) 0 0 (map some text) → Bounds 0 0 (map some text)
whole text h = record {
  holds = λ n rest f.
      let x = h.holds n rest f in
      let same : 0 + n ≡ n = omega arith in
      (x.0, subst (λ m. Fits m false rest) same x.1);
}

-- word text ;
pub text_is : {c : ℕ} (word : TokenKind) → IsPlain word → (text : Text) → is_text 0 k.Semicolon text ≡ true → Bounds (suc c) 1 (spell_text word text)
text_is {c} word is text h = b_less {c = 0} (omega arith) (b_piece (some word) is (b_then (whole text (text_spans text 0 k.Semicolon h)) b_semicolon))
