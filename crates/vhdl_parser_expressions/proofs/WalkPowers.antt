-- What the readers of factors make.
use Rattle.std.proofs.Common.{◌≡◌, ℕ, suc, ◌+◌, false, cond, List, [], ◌∷◌, ◌++◌, Ok, refl, sym, ap, ◌∙◌, subst, append-nil, arith}
use Rattle.vhdl_lexer.specs.declared.language.Language.{Language}
use Rattle.vhdl_lexer.specs.declared.language.Language.TheVariants.{Profile, Wide}
use Rattle.vhdl_lexer.specs.declared.token.TokenKind.TheVariants as k
use Rattle.vhdl_tree.specs.Lexeme.{Lexeme, same_kind}
use Rattle.vhdl_tree.specs.Levels.{is_end, opening, closing}
use Rattle.vhdl_tree.specs.Tree.{Expr, power}
use Rattle.vhdl_tree.specs.Pieces.{one_at, Spells}
use Rattle.vhdl_tree.specs.grammar.Expressions.{spell, IsExprIn}
use Rattle.vhdl_parser_expressions.specs.reader.Input.{Parser, Outcome, and_then, token, expect, is_kind, test_in}
use Rattle.vhdl_parser_expressions.specs.reader.Expressions.{sees_power, primary, inverse, magnitude, raised, optional_power, factor, inside, inner}
use Rattle.vhdl_parser_expressions.proofs.Steps.{spells_append, takes}
use Rattle.vhdl_parser_expressions.proofs.Halts.{halt_after}
use Rattle.vhdl_parser_expressions.proofs.Steady.{Steady, steady_take, steady_then, steady_map}
use Rattle.vhdl_parser_expressions.proofs.Ahead.{Eager, eager}
use Rattle.vhdl_parser_expressions.proofs.Powers.{Touching, touching}
use Rattle.vhdl_parser_expressions.proofs.SteadyPowers.{Nearly, nearly, nearly_then, nearly_test, nearly_power, power_passes}
use Rattle.vhdl_parser_expressions.proofs.Walks.{Walk, walk_append, walk_token, deep_after, Makes, MakesOf, Walks, made, Rule, afresh, w_then, w_last, w_pure, w_weaken, m_pure, m_then}
use Rattle.vhdl_parser_expressions.proofs.Rules.{neutral, w_at, m_test, m_by}
use Rattle.vhdl_parser_expressions.proofs.WalkNames.{Tight, primary_rule}

-- ---- `**` and an exponent

raised_steady : (n : ℕ) → Rule n 1 (inside Wide n) spell (IsExprIn Wide) → (base : Expr) → Steady (raised (inner Wide n) base)
unfolding raised expect
raised_steady n within base = steady_then (steady_take (λ l. l.at) k.Star) (λ ts at rest h. steady_then (steady_take (λ l. l.at) k.Star) (λ us other back g. steady_map (λ e. power base at e) (primary_rule Wide n within).steady))

raised_takes : (n : ℕ) → Rule n 1 (inside Wide n) spell (IsExprIn Wide) → (base : Expr) → Eager k.Star (raised (inner Wide n) base)
unfolding raised expect token same_kind
raised_takes n within base = eager k.Star (raised_steady n within base) (λ at text. refl)

module _ (n : ℕ) (within : Rule n 1 (inside Wide n) spell (IsExprIn Wide)) (base : Expr) (tight : Tight Wide 6 base) where
  -- an exponent behind two stars, the first of which starts here
  abbrev exponent_of : ℕ → Parser Expr
  exponent_of at = λ ts. and_then (primary (inner Wide n) ts) (λ e us. Ok (power base at e, us))

  exponent_rule : (at : ℕ) → Walks n 0 false 0 (λ r. spell base ++ (one_at k.Star at ∷ (one_at k.Star (suc at) ∷ r))) (exponent_of at) spell (Tight Wide 5)
  exponent_rule at = w_last (λ e. power base at e) (primary_rule Wide n within) (λ e good. (refl, (omega arith, (tt, omega (arith, tight.0), omega (arith, good.0), tight.1, good.1))))

  raised_is : (ts : List Lexeme) (t : Touching ts) → raised (inner Wide n) base ts ≡ exponent_of t.first.at t.rest
  unfolding raised expect
  raised_is ts t =
      rw (takes k.Star (λ (l : Lexeme). l.at) ts t.first (t.second ∷ t.rest) t.split t.is_star, takes k.Star (λ (l : Lexeme). l.at) (t.second ∷ t.rest) t.second t.rest refl t.is_other) refl

  stars : (ts : List Lexeme) (t : Touching ts) → Spells (one_at k.Star t.first.at ∷ (one_at k.Star (suc t.first.at) ∷ [])) ts t.rest
  stars ts t = subst (λ us. Spells (one_at k.Star t.first.at ∷ (one_at k.Star (suc t.first.at) ∷ [])) us t.rest) (sym t.split) ((t.is_star, refl), ((t.is_other, t.touches), refl))

  star_level : (l : Lexeme) → l.kind ≡ k.Star → 0 + opening false l.kind ≡ 0 + closing false l.kind
  star_level l is =
      let u = neutral k.Star refl in
      let same = ap (opening false) is ∙ u.opens_none false ∙ sym (u.closes_none false) ∙ ap (closing false) (sym is) in
      omega (arith, same)

  over_star : (l : Lexeme) (us vs : List Lexeme) → us ≡ l ∷ vs → l.kind ≡ k.Star → Walk n 0 false 0 false us vs
  over_star l us vs first is = walk_token l first (ap is_end is ∙ (neutral k.Star refl).no_end) (omega arith) (omega arith) (star_level l is)

  over_stars : (ts : List Lexeme) (t : Touching ts) → Walk n 0 false 0 false ts t.rest
  over_stars ts t = walk_append (over_star t.first ts (t.second ∷ t.rest) t.split t.is_star) (over_star t.second (t.second ∷ t.rest) t.rest refl t.is_other)

  -- where two stars touch
  raised_at : (ts : List Lexeme) → Touching ts → MakesOf n 0 false 0 (λ r. spell base ++ r) (raised (inner Wide n) base ts) spell (Tight Wide 5) ts
  raised_at ts t = record {
    reads = λ b rest h.
        let g = (exponent_rule t.first.at).reads t.rest b rest (sym (raised_is ts t) ∙ h) in
        record {
          more = one_at k.Star t.first.at ∷ (one_at k.Star (suc t.first.at) ∷ g.more);
          is = g.is;
          spelled = spells_append (one_at k.Star t.first.at ∷ (one_at k.Star (suc t.first.at) ∷ [])) g.more ts t.rest rest (stars ts t) g.spelled;
          formed = g.formed;
          walk = walk_append (over_stars ts t) g.walk;
        };
    deep = λ at h. deep_after (over_stars ts t) ((exponent_rule t.first.at).deep t.rest at (sym (raised_is ts t) ∙ h));
    stuck = λ le why at h met. halt_after (one_at k.Star t.first.at ∷ (one_at k.Star (suc t.first.at) ∷ [])) (stars ts t) ((exponent_rule t.first.at).stuck le t.rest why at (sym (raised_is ts t) ∙ h) met);
  }

  -- behind a base
  base_makes : Makes n 0 false 0 (λ r. spell base ++ r) (λ ts. cond {A = Outcome Expr} (sees_power ts) (raised (inner Wide n) base ts) (Ok (base, ts))) spell (Tight Wide 5)
  base_makes = m_by sees_power (λ ts sees. raised_at ts (touching ts sees)) (m_pure (omega arith) (sym (append-nil (spell base))) (omega (arith, tight.0), tight.1))

-- ---- primaries and their powers

looser : (language : Language) (e : Expr) → Tight language 6 e → Tight language 5 e
looser language e good = (omega (arith, good.0), good.1)

power_makes : (language : Language) (n : ℕ) → Rule n 1 (inside language n) spell (IsExprIn language) → Makes n 0 false 0 afresh (optional_power (inner language n)) spell (Tight language 5)
unfolding optional_power
power_makes Profile n within = made (w_weaken (looser Profile) (primary_rule Profile n within))
power_makes Wide n within = m_then (made (primary_rule Wide n within)) (λ base good _. base_makes n within base good)

power_nearly : (language : Language) (n : ℕ) → Rule n 1 (inside language n) spell (IsExprIn language) → Nearly (optional_power (inner language n))
unfolding optional_power
power_nearly Profile n within = nearly (primary_rule Profile n within).steady
power_nearly Wide n within = nearly_then _ (nearly (primary_rule Wide n within).steady) (λ base. nearly_power base (steady base) (takes_star base)) (λ base. power_passes base (steady base) (takes_star base))
  where
    steady : (base : Expr) → Steady (raised (inner Wide n) base)
    steady base = raised_steady n within base

    takes_star : (base : Expr) → Eager k.Star (raised (inner Wide n) base)
    takes_star base = raised_takes n within base

-- ---- factors

absolute_rule : (n : ℕ) → Rule n 1 (inside Wide n) spell (IsExprIn Wide) → Rule n 0 (magnitude (inner Wide n)) spell (Tight Wide 5)
unfolding magnitude
absolute_rule n within = w_at k.Abs refl (λ at. w_then (primary_rule Wide n within) (λ e good _.
    w_pure (omega arith) (ap (λ ps. one_at k.Abs at ∷ ps) (sym (append-nil (spell e)))) (omega arith, (tt, omega (arith, good.0), good.1))))

negation_rule : (language : Language) (n : ℕ) → Rule n 1 (inside language n) spell (IsExprIn language) → Rule n 0 (inverse (inner language n)) spell (Tight language 5)
unfolding inverse
negation_rule language n within = w_at k.Not refl (λ at. w_then (primary_rule language n within) (λ e good _.
    w_pure (omega arith) (ap (λ ps. one_at k.Not at ∷ ps) (sym (append-nil (spell e)))) (omega arith, (omega (arith, good.0), good.1))))

-- without `not`
bare_makes : (language : Language) (n : ℕ) → Rule n 1 (inside language n) spell (IsExprIn language) →
    Makes n 0 false 0 afresh (test_in language (is_kind k.Abs) (magnitude (inner language n)) (optional_power (inner language n))) spell (Tight language 5)
bare_makes Profile n within = power_makes Profile n within
bare_makes Wide n within = m_test (is_kind k.Abs) (made (absolute_rule n within)) (power_makes Wide n within)

bare_nearly : (language : Language) (n : ℕ) → Rule n 1 (inside language n) spell (IsExprIn language) →
    Nearly (test_in language (is_kind k.Abs) (magnitude (inner language n)) (optional_power (inner language n)))
bare_nearly Profile n within = power_nearly Profile n within
bare_nearly Wide n within = nearly_test (is_kind k.Abs) (nearly (absolute_rule n within).steady) (power_nearly Wide n within)

pub factor_makes : (language : Language) (n : ℕ) → Rule n 1 (inside language n) spell (IsExprIn language) → Makes n 0 false 0 afresh (factor (inner language n)) spell (Tight language 5)
unfolding factor
factor_makes language n within = m_test (is_kind k.Not) (made (negation_rule language n within)) (bare_makes language n within)

pub factor_nearly : (language : Language) (n : ℕ) → Rule n 1 (inside language n) spell (IsExprIn language) → Nearly (factor (inner language n))
unfolding factor
factor_nearly language n within = nearly_test (is_kind k.Not) (nearly (negation_rule language n within).steady) (bare_nearly language n within)
