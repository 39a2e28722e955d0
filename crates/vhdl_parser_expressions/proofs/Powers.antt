-- Two stars that touch, and what goes on with an expression.
use Rattle.std.proofs.Common.{◌≡◌, ℕ, suc, ◌==◌, ◌≤◌, ◌<◌, Bool, true, false, ◌&&◌, if◌then◌else◌, List, [], ◌∷◌, Ok, Some, inl, refl, sym, ap, ◌∙◌, subst, true≢false, rules, arith}
use Rattle.std.proofs.lemmas.Grind.{common_steps}
use mathlib.Core.Bool.{false≢true}
use Rattle.std.proofs.Common.{eqb→eq}
use Rattle.std.proofs.Common.{T}
use Rattle.vhdl_lexer.specs.declared.language.Language.{Language}
use Rattle.vhdl_lexer.specs.declared.language.Language.TheVariants.{Profile, Wide}
use Rattle.vhdl_lexer.specs.declared.token.TokenKind.TheVariants as k
use Rattle.vhdl_tree.specs.Lexeme.{Lexeme, same_kind}
use Rattle.vhdl_tree.specs.Tree.{Expr}
use Rattle.vhdl_tree.specs.Pieces.{Piece, one_at, Spells}
use Rattle.vhdl_parser_expressions.specs.reader.Input.{next_kind, is_kind, test_in}
use Rattle.vhdl_parser_expressions.specs.reader.Expressions.{sees_power, inner, primary, magnitude, optional_power, factor}
use Rattle.vhdl_parser_expressions.proofs.Steps.{kind_same}
use Rattle.vhdl_parser_expressions.proofs.Operators.{grip}
use Rattle.vhdl_parser_expressions.proofs.Yields.{Yields, yields_bind}

-- How tightly what comes next goes on with the expression before it: two stars that touch more tightly than a term.
abbrev pub hold : List Lexeme → ℕ
hold ts = if sees_power ts then 5 else grip (next_kind ts)

-- what comes next goes on with an expression less tightly than r
abbrev pub Stops : ℕ → List Lexeme → Type 0
Stops r ts = hold ts < r

-- where no star stands, none touches another
pub first_alone : (ts : List Lexeme) → is_kind k.Star (next_kind ts) ≡ false → sees_power ts ≡ false
unfolding sees_power next_kind
first_alone [] h = refl
first_alone (l ∷ []) h = refl
first_alone (l ∷ m ∷ ts) h = rw h refl

pub second_alone : (l : Lexeme) (ts : List Lexeme) → is_kind k.Star (next_kind ts) ≡ false → sees_power (l ∷ ts) ≡ false
unfolding sees_power next_kind
second_alone l [] h = refl
second_alone l (m ∷ ts) h = by_tests (same_kind l.kind k.Star) (same_kind m.kind k.Star) (m.at == suc l.at) h
  where
    by_tests : (a b c : Bool) → b ≡ false → (a && (b && c)) ≡ false
    by_tests false b c e = refl
    by_tests true false c e = refl
    by_tests true true c e = absurd (true≢false e)

-- the two stars of a power
pub record Touching (ts : List Lexeme) : Type 0 where
  pub first : Lexeme
  pub second : Lexeme
  pub rest : List Lexeme
  pub split : ts ≡ first ∷ (second ∷ rest)
  pub is_star : first.kind ≡ k.Star
  pub is_other : second.kind ≡ k.Star
  pub touches : second.at ≡ suc first.at

all_three : (a b c : Bool) → (a && (b && c)) ≡ true → (a ≡ true) × (b ≡ true) × (c ≡ true)
all_three true true true h = (refl, refl, refl)
all_three true true false h = absurd (false≢true h)
all_three true false c h = absurd (false≢true h)
all_three false b c h = absurd (false≢true h)

pub touching : (ts : List Lexeme) → sees_power ts ≡ true → Touching ts
unfolding sees_power
touching [] h = absurd (false≢true h)
touching (l ∷ []) h = absurd (false≢true h)
touching (l ∷ m ∷ ts) h =
    let a = all_three (same_kind l.kind k.Star) (same_kind m.kind k.Star) (m.at == suc l.at) h in
    record { first = l; second = m; rest = ts; split = refl; is_star = kind_same l.kind k.Star a.0; is_other = kind_same m.kind k.Star a.1; touches = eqb→eq m.at (suc l.at) (subst T (sym a.2) tt) }

pub power_seen : (at : ℕ) (ps : List Piece) (ts rest : List Lexeme) → Spells (one_at k.Star at ∷ (one_at k.Star (suc at) ∷ ps)) ts rest → sees_power ts ≡ true
unfolding sees_power same_kind
power_seen at ps [] rest h = absurd h
power_seen at ps (l ∷ []) rest h = absurd h.1
power_seen at ps (l ∷ m ∷ ts) rest h =
    let touch : m.at ≡ suc l.at = h.1.0.1 ∙ ap suc (sym h.0.1) in
    rw (h.0.0, h.1.0.0, touch) (first_of (search rules, grind (arith, common_steps)))

-- ---- what goes on

grip_star : grip (Some k.Star) ≡ 4
grip_star = refl

by_power : (b : Bool) (ts : List Lexeme) (r : ℕ) → sees_power ts ≡ b → hold ts < r → grip (next_kind ts) < r
unfolding next_kind
by_power true ts r e s =
    let t = touching ts e in
    let g : grip (next_kind ts) ≡ 4 = rw (t.split, t.is_star) grip_star in
    let five : hold ts ≡ 5 = rw e refl in
    omega (arith, s, g, five)
by_power false ts r e s = let same : hold ts ≡ grip (next_kind ts) = rw e refl in omega (arith, s, same)

-- what stops so, stops by its kind
pub kind_stops : (r : ℕ) (ts : List Lexeme) → Stops r ts → grip (next_kind ts) < r
kind_stops r ts s = by_power (sees_power ts) ts r refl s

-- and the other way round, where no power stands
pub stops_kind : (r : ℕ) (ts : List Lexeme) → sees_power ts ≡ false → grip (next_kind ts) < r → Stops r ts
stops_kind r ts alone s = let same : hold ts ≡ grip (next_kind ts) = rw alone refl in omega (arith, s, same)

loose : (b : Bool) (ts : List Lexeme) → sees_power ts ≡ b → grip (next_kind ts) < 4 → sees_power ts ≡ false
unfolding next_kind
loose true ts e s =
    let t = touching ts e in
    let g : grip (next_kind ts) ≡ 4 = rw (t.split, t.is_star) grip_star in
    absurd (omega (arith, s, g))
loose false ts e s = e

-- what goes on less tightly than a term is no star
pub stops_loosely : (r : ℕ) (ts : List Lexeme) → r ≤ 4 → grip (next_kind ts) < r → Stops r ts
stops_loosely r ts le s = stops_kind r ts (loose (sees_power ts) ts refl (omega (arith, s, le))) s

unraised : (b : Bool) (ts : List Lexeme) → sees_power ts ≡ b → Stops 5 ts → sees_power ts ≡ false
unraised true ts e s = let five : hold ts ≡ 5 = rw e refl in absurd (omega (arith, s, five))
unraised false ts e s = e

by_name : (b : Bool) (ts : List Lexeme) → sees_power ts ≡ b → grip (next_kind ts) < 7 → Stops 7 ts
by_name true ts e s = let five : hold ts ≡ 5 = rw e refl in omega (arith, five)
by_name false ts e s = stops_kind 7 ts e s

-- neither a parenthesis nor a tick goes on
pub stops_name : (ts : List Lexeme) → grip (next_kind ts) < 7 → Stops 7 ts
stops_name ts s = by_name (sees_power ts) ts refl s

pub no_power : (ts : List Lexeme) → Stops 5 ts → sees_power ts ≡ false
no_power ts s = unraised (sees_power ts) ts refl s

-- ---- factors without a word before them

-- a primary behind which no power stands
pub power_stops : (language : Language) (n : ℕ) (e : Expr) (ts rest : List Lexeme) → Yields (primary (inner language n) ts) (Ok (e, rest)) → sees_power rest ≡ false → Yields (optional_power (inner language n) ts) (Ok (e, rest))
unfolding optional_power
power_stops Profile n e ts rest y alone = y
power_stops Wide n e ts rest y alone = yields_bind _ y (inl (rw alone refl))

without_abs : (language : Language) (n : ℕ) (ts : List Lexeme) → is_kind k.Abs (next_kind ts) ≡ false → test_in language (is_kind k.Abs) (magnitude (inner language n)) (optional_power (inner language n)) ts ≡ optional_power (inner language n) ts
without_abs Profile n ts h = refl
without_abs Wide n ts h = rw h refl

pub factor_plain : (language : Language) (n : ℕ) (ts : List Lexeme) → is_kind k.Not (next_kind ts) ≡ false → is_kind k.Abs (next_kind ts) ≡ false → factor (inner language n) ts ≡ optional_power (inner language n) ts
unfolding factor
factor_plain language n ts no_not no_abs = rw no_not (without_abs language n ts no_abs)
