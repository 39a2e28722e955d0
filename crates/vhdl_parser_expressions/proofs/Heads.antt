-- The first token of an expression.
use Rattle.std.proofs.Common.{◌≡◌, suc, ◌≤◌, ◌<◌, Bool, true, false, List, [], ◌∷◌, ◌++◌, length, Option, Some, refl, sym, ap, ◌∙◌, subst, append_assoc, append-nil, length-append, arith}
use Rattle.vhdl_lexer.specs.declared.token.TokenKind.{TokenKind}
use Rattle.vhdl_lexer.specs.declared.token.TokenKind.TheVariants as k
use Rattle.vhdl_tree.specs.declared.operator.Sign.TheVariants.{Plus, Minus}
use Rattle.vhdl_tree.specs.Lexeme.{Lexeme, same_kind}
use Rattle.vhdl_tree.specs.Tree.{Expr, integer, character, string, bits, named, parens, negation, absolute, power, signed, binary, aggregate, qualified}
use Rattle.vhdl_tree.specs.Pieces.{Piece, one_at, Spells}
use Rattle.vhdl_tree.specs.grammar.Expressions.{kind_of, sign_kind, spell, binding}
use Rattle.vhdl_parser_expressions.specs.reader.Input.{next_kind, is_kind}
use Rattle.vhdl_parser_expressions.proofs.Steps.{kind_same}
use Rattle.vhdl_parser_expressions.proofs.Operators.{rank_most}
use Rattle.vhdl_parser_expressions.proofs.Gives.{front, front_is}

abbrev pub head : Expr → TokenKind
head (integer at text) = k.Integer
head (character at code) = k.Character
head (string at text) = k.String
head (bits at text) = k.BitString
head (named n suffix attribute) = k.Identifier
head (parens at inner) = k.LeftParen
head (negation at operand) = k.Not
head (absolute at operand) = k.Abs
head (power base at exponent) = head base
head (signed sign at operand) = sign_kind sign
head (binary b op at left right) = head left
head (aggregate at all) = k.LeftParen
head (qualified mark at all) = k.Identifier

pub head_is : (e : Expr) (ps : List Piece) (next : Option TokenKind) → front (spell e ++ ps) next ≡ Some (head e)
head_is (power base at exponent) ps next =
    let stars = one_at k.Star at ∷ (one_at k.Star (suc at) ∷ spell exponent) in
    ap (λ qs. front qs next) (append_assoc (spell base) stars ps) ∙ head_is base (stars ++ ps) next
head_is (binary b op at left right) ps next = ap (λ qs. front qs next) (append_assoc (spell left) (one_at (kind_of op) at ∷ spell right) ps) ∙ head_is left ((one_at (kind_of op) at ∷ spell right) ++ ps) next
head_is _ ps next = refl

-- with these no expression begins
abbrev pub begins : TokenKind → Bool
begins k.Others = false
begins k.Open = false
begins k.Star = false
begins _ = true

pub head_begins : (e : Expr) → begins (head e) ≡ true
head_begins (signed Plus at operand) = refl
head_begins (signed Minus at operand) = refl
head_begins (power base at exponent) = head_begins base
head_begins (binary b op at left right) = head_begins left
head_begins _ = refl

pub not_head : (kind : TokenKind) (e : Expr) → begins kind ≡ false → same_kind (head e) kind ≡ false
not_head kind e h = by (same_kind (head e) kind) refl
  where
    by : (b : Bool) → same_kind (head e) kind ≡ b → same_kind (head e) kind ≡ false
    by false s = s
    by true s = let same = kind_same (head e) kind s in let never : true ≡ false = sym (head_begins e) ∙ ap begins same ∙ h in absurd (cc)

pub head_alone : (kind : TokenKind) (e : Expr) (next : Option TokenKind) → begins kind ≡ false → is_kind kind (front (spell e) next) ≡ false
head_alone kind e next h = subst (λ qs. is_kind kind (front qs next) ≡ false) (append-nil (spell e)) (ap (is_kind kind) (head_is e [] next) ∙ not_head kind e h)

pub spell_long : (e : Expr) → 1 ≤ length (spell e)
spell_long (power base at exponent) = omega (arith, spell_long base, length-append (spell base) (one_at k.Star at ∷ (one_at k.Star (suc at) ∷ spell exponent)))
spell_long (binary b op at left right) = omega (arith, spell_long left, length-append (spell left) (one_at (kind_of op) at ∷ spell right))
spell_long _ = omega arith

-- ---- among tokens

pub starts : (e : Expr) (ts rest : List Lexeme) → Spells (spell e) ts rest → next_kind ts ≡ Some (head e)
starts e ts rest h = front_is (spell e) ts rest h ∙ subst (λ qs. front qs (next_kind rest) ≡ Some (head e)) (append-nil (spell e)) (head_is e [] (next_kind rest))

pub starless : (e : Expr) (ts rest : List Lexeme) → Spells (spell e) ts rest → is_kind k.Star (next_kind ts) ≡ false
starless e ts rest h = ap (is_kind k.Star) (starts e ts rest h) ∙ not_head k.Star e refl

no_word : (e : Expr) → 5 < binding e → (same_kind (head e) k.Not ≡ false) × (same_kind (head e) k.Abs ≡ false)
unfolding same_kind
no_word (negation at operand) b = absurd (omega (arith, b))
no_word (absolute at operand) b = absurd (omega (arith, b))
no_word (power base at exponent) b = absurd (omega (arith, b))
no_word (signed sign at operand) b = absurd (omega (arith, b))
no_word (binary begun op at left right) b = absurd (omega (arith, b, rank_most op))
no_word _ b = (refl, refl)

-- a primary begins with neither `not` nor `abs`
pub wordless : (e : Expr) → 5 < binding e → (ts rest : List Lexeme) → Spells (spell e) ts rest → (is_kind k.Not (next_kind ts) ≡ false) × (is_kind k.Abs (next_kind ts) ≡ false)
wordless e b ts rest h =
    let s = starts e ts rest h in
    let w = no_word e b in
    (ap (is_kind k.Not) s ∙ w.0, ap (is_kind k.Abs) s ∙ w.1)
