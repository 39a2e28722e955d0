-- The next tokens of a slice, as the next lexemes.
use Rattle.std.proofs.Common.{◌≡◌, ℕ, suc, ◌+◌, ◌<◌, ◌==◌, Bool, true, false, ◌&&◌, List, [], ◌∷◌, length, get_or, Some, refl, arith}
use Rattle.std.specs.Prelude.{slice_index_or}
use Rattle.vhdl_lexer.specs.declared.token.Token.{Token}
use Rattle.vhdl_lexer.specs.declared.token.TokenKind.TheVariants as k
use Rattle.vhdl_tree.specs.Lexeme.{same_kind, lexeme, lexemes}
use Rattle.vhdl_parser_expressions.specs.reader.Input.{next_kind}
use Rattle.vhdl_parser_expressions.specs.reader.Expressions.{sees_power}

pub next_kind_at : (source : List ℕ) (ts : List Token) (d : Token) → 0 < length ts → Some (slice_index_or ts 0 d).kind ≡ next_kind (lexemes source ts)
unfolding next_kind lexeme
next_kind_at source [] d h = absurd (omega arith)
next_kind_at source (t ∷ ts) d h = refl

-- what is asked of the next two tokens
pub power_at : (source : List ℕ) (ts : List Token) (first second : Token) (rest : List Token) → ts ≡ first ∷ rest → 0 < length rest → second ≡ get_or rest 0 second →
    sees_power (lexemes source ts) ≡ (same_kind first.kind k.Star && (same_kind second.kind k.Star && (second.start == first.start + 1)))
unfolding sees_power lexeme
power_at source ts first second [] e some at = absurd (omega (arith, some))
power_at source ts first second (m ∷ more) e some at = let next : first.start + 1 ≡ suc first.start = omega arith in rw (e, at, next) refl

pub both_true : (a b x : Bool) → a ≡ true → b ≡ true → x ≡ (a && (b && x))
both_true a b x f s = rw (f, s) refl

pub first_false : (a b x : Bool) → a ≡ false → false ≡ (a && (b && x))
first_false a b x f = rw f refl

pub second_false : (a b x : Bool) → b ≡ false → false ≡ (a && (b && x))
second_false true b x s = rw s refl
second_false false b x s = refl
