-- A recursion on a count of turns, beside a loop that counts up.
use Rattle.std.proofs.Common.{◌≡◌, ℕ, zero, suc, ◌+◌, ◌-◌, ◌<◌, ◌≤◌, ap, ◌∙◌, arith}
use Rattle.vhdl_lexer.specs.declared.language.Language.{Language}
use Rattle.vhdl_parser_expressions.specs.reader.Expressions.{inside, expr}

pub this_turn : (n at : ℕ) → at < n → n - at ≡ suc (n - (at + 1))
this_turn n at below = omega arith

pub last_turn : (n at : ℕ) → n ≤ at → n - at ≡ 0
last_turn n at done = omega arith

pub one_more : {X : Type 0} {x : X} (f : ℕ → X) (n at : ℕ) → at < n → x ≡ f (n - at) → x ≡ f (suc (n - (at + 1)))
one_more f n at below e = e ∙ ap f (this_turn n at below)

pub no_more : {X : Type 0} {x : X} (f : ℕ → X) (n at : ℕ) → n ≤ at → x ≡ f (n - at) → x ≡ f 0
no_more f n at done e = e ∙ ap f (last_turn n at done)

pub inside_more : (language : Language) (n : ℕ) → 0 < n → inside language n ≡ expr language (n - 1)
unfolding inside
inside_more language zero h = absurd (omega arith)
inside_more language (suc n) h = let e : n ≡ suc n - 1 = omega arith in ap (expr language) e
