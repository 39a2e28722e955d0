-- What the readers of ranges, values, choices and associations make.
use Rattle.std.proofs.Common.{◌≤◌, ℕ, zero, suc, false, List, [], ◌∷◌, ◌++◌, Ok, Option, Some, None, refl, sym, ap, subst, append-nil, arith}
use Rattle.vhdl_lexer.specs.declared.language.Language.{Language}
use Rattle.vhdl_lexer.specs.declared.language.Language.TheVariants.{Profile, Wide}
use Rattle.vhdl_lexer.specs.declared.token.TokenKind.TheVariants as k
use Rattle.vhdl_tree.specs.declared.operator.Direction.{Direction}
use Rattle.vhdl_tree.specs.declared.operator.Direction.TheVariants.{To}
use Rattle.vhdl_tree.specs.Lexeme.{Lexeme, same_kind}
use Rattle.vhdl_tree.specs.Tree.{Ident, Expr, named, aggregate, no_elements, element, no_choices, choice, bounds, name_of, Value, single, others, value_of, chosen, chosen_range, otherwise, actual, Association}
use Rattle.vhdl_tree.specs.Pieces.{some, one_at, Spells, spell_option, IsAny}
use Rattle.vhdl_tree.specs.grammar.Expressions.{direction_kind, spell, spell_discrete_range, spell_value, spell_choice, spell_choices, spell_actual, spell_formal, spell_association, spell_associations, IsSingle, IsExprIn, IsDiscreteRangeIn, IsValueIn, IsChoiceIn, AreChoicesIn, IsActualIn, IsAssociationIn, AreAssociationsIn}
use Rattle.vhdl_parser_expressions.specs.reader.Input.{Parser, and_then, expect, identifier, is_kind, sees_both}
use Rattle.vhdl_parser_expressions.specs.reader.Expressions as read
use Rattle.vhdl_parser_expressions.specs.reader.Expressions.{direction_at, inside}
use Rattle.vhdl_parser_expressions.specs.reader.Values.{range_by_name, discrete_range_by, discrete_range, others_value, value, choice_in, choices, formal, optional_formal, actual_of, association, associations}
use Rattle.vhdl_parser_expressions.proofs.Steady.{left_of}
use Rattle.vhdl_parser_expressions.proofs.Ahead.{eager, steady_both}
use Rattle.vhdl_parser_expressions.proofs.Alone.{paren_alone, others_alone, formal_alone, actual_alone}
use Rattle.vhdl_parser_expressions.proofs.Halts.{Example, Sticks}
use Rattle.vhdl_parser_expressions.proofs.Walks.{Walks, Rule, w_pure, w_then, w_last, w_spelled}
use Rattle.vhdl_parser_expressions.proofs.Rules.{stick_take, w_take_by, w_at, w_some, w_right, w_ident, w_refuse, w_choose, w_test, w_inner, w_by, w_both, deep_met}
use Rattle.vhdl_parser_expressions.proofs.Repeats.{separated_rule}
use Rattle.vhdl_parser_expressions.proofs.WalkElements.{number, direction_neutral, choice_rule}
use Rattle.vhdl_parser_expressions.proofs.WalkExpressions.{inside_rule, expr_rule}

-- ---- ranges

-- where bounds can go on
bounds_from : (language : Language) (left : Expr) → IsExprIn language left → Example (λ r. spell left ++ r) spell_discrete_range (IsDiscreteRangeIn language)
bounds_from language left good = record { tree = bounds (record { left = left; direction = To; right = number }); more = some k.To ∷ spell number; is = refl; formed = (good, tt) }

named_next : {n : ℕ} (language : Language) (left : Expr) → IsExprIn language left → Walks n 0 false 0 (λ r. spell left ++ r) (range_by_name language (name_of left)) spell_discrete_range (IsDiscreteRangeIn language)
named_next Profile left good = w_refuse (bounds_from Profile left good)
named_next Wide (named i s a) good = w_pure (omega arith) (sym (append-nil (spell (named i s a)))) (tt, good)
named_next Wide left good = w_refuse (bounds_from Wide left good)

range_next : (language : Language) (n : ℕ) (left : Expr) → IsExprIn language left → (d : Option Direction) → Walks n 0 false 0 (λ r. spell left ++ r) (discrete_range_by language n left d) spell_discrete_range (IsDiscreteRangeIn language)
range_next language n left good None = named_next language left good
range_next language n left good (Some d) = w_some (direction_kind d) (direction_neutral d) (λ _. w_last (λ right. bounds (record { left = left; direction = d; right = right })) (expr_rule language n) (λ right fine. (refl, (good, fine))))

pub discrete_range_rule : (language : Language) (n : ℕ) → Rule n 0 (discrete_range language n) spell_discrete_range (IsDiscreteRangeIn language)
unfolding discrete_range
discrete_range_rule language n = w_then (expr_rule language n) (λ left good _. w_choose (λ next. range_next language n left good (direction_at next)))

-- ---- values

-- a value behind ( others =>
others_from : (at : ℕ) → Example (λ r. one_at k.LeftParen at ∷ (some k.Others ∷ (some k.Arrow ∷ r))) spell_value (IsValueIn Profile)
others_from at = record { tree = others at number; more = spell number ++ some k.RightParen ∷ []; is = refl; formed = tt }

-- what stands there
abbrev held : ℕ → ℕ → Parser Value
held n at = λ ts. and_then (inside Profile n ts) (λ e us. and_then (expect k.RightParen us) (λ _ vs. Ok (others at e, vs)))

held_rule : (n : ℕ) (at : ℕ) → Walks n 1 false 0 (λ r. one_at k.LeftParen at ∷ (some k.Others ∷ (some k.Arrow ∷ r))) (held n at) spell_value (IsValueIn Profile)
held_rule n at = w_then (inside_rule Profile n) (λ e good le. w_right le (λ _. w_pure (omega arith) refl good))

held_sticks : (n : ℕ) (at : ℕ) → Sticks (λ r. one_at k.LeftParen at ∷ (some k.Others ∷ (some k.Arrow ∷ r))) (held n at) spell_value (IsValueIn Profile)
unfolding inside
held_sticks zero at ts why us h met = deep_met ts why us h met
held_sticks (suc m) at ts why us h met = (held_rule (suc m) at).stuck (omega arith) ts why us h met

others_rule : (n : ℕ) → Rule n 0 (others_value n) spell_value (IsValueIn Profile)
unfolding others_value expect same_kind
others_rule n = w_take_by (λ l. l.at) k.LeftParen (one_at k.LeftParen) (λ le. omega arith) (omega arith) refl (λ l i. (i, refl))
    (λ le at. record { tree = others at number; more = some k.Others ∷ (some k.Arrow ∷ (spell number ++ some k.RightParen ∷ [])); is = refl; formed = tt })
    (λ le at. stick_take (λ l. l.at) k.Others (λ _. some k.Others) (λ l i. i)
    (λ _. record { tree = others at number; more = some k.Arrow ∷ (spell number ++ some k.RightParen ∷ []); is = refl; formed = tt })
    (λ _. stick_take (λ l. l.at) k.Arrow (λ _. some k.Arrow) (λ l i. i) (λ _. others_from at) (λ _. held_sticks n at)))
    (λ at. w_some k.Others refl (λ _. w_some k.Arrow refl (λ _. held_rule n at)))

narrow_single : (e : Expr) → IsExprIn Profile e → IsSingle e
narrow_single (aggregate at all) good = absurd good.0
narrow_single _ good = tt

single_rule : (n : ℕ) → Rule n 0 (λ ts. and_then (read.expr Profile n ts) (λ e us. Ok (single e, us))) spell_value (IsValueIn Profile)
single_rule n = w_last (λ e. single e) (expr_rule Profile n) (λ e good. (refl, (good, narrow_single e good)))

-- what ( others => e ) spells as an aggregate, it spells as a value
filled : (at other : ℕ) (e : Expr) (ts rest : List Lexeme) → Spells (spell (aggregate at (element (choice (otherwise other) no_choices) e no_elements))) ts rest → Spells (spell_value (others at e)) ts rest
filled at other e [] rest h = absurd h
filled at other e (l ∷ []) rest h = absurd h.1
filled at other e (l ∷ m ∷ ts) rest h = (h.0, (h.1.0.0, subst (λ ps. Spells (some k.Arrow ∷ (ps ++ some k.RightParen ∷ [])) ts rest) (append-nil (spell e)) h.1.1))

-- an expression as a value
value_is : (e : Expr) → IsExprIn Wide e → ((ts rest : List Lexeme) → Spells (spell e) ts rest → Spells (spell_value (value_of e)) ts rest) × IsValueIn Wide (value_of e)
value_is (aggregate at (element (choice (otherwise other) no_choices) value no_elements)) good = (filled at other value, good.2.1)
value_is (aggregate at (element (choice (otherwise other) no_choices) value (element cs next more))) good = (λ ts rest h. h, (good, tt))
value_is (aggregate at (element (choice (otherwise other) (choice c cs)) value more)) good = (λ ts rest h. h, (good, tt))
value_is (aggregate at (element (choice (chosen e) cs) value more)) good = (λ ts rest h. h, (good, tt))
value_is (aggregate at (element (choice (chosen_range left d right) cs) value more)) good = (λ ts rest h. h, (good, tt))
value_is (aggregate at (element no_choices value more)) good = (λ ts rest h. h, (good, tt))
value_is (aggregate at no_elements) good = (λ ts rest h. h, (good, tt))
value_is _ good = (λ ts rest h. h, (good, tt))

pub value_rule : (language : Language) (n : ℕ) → Rule n 0 (value language n) spell_value (IsValueIn language)
unfolding value
value_rule Profile n = w_by (sees_both k.LeftParen k.Others) (others_rule n) (single_rule n)
    (steady_both k.LeftParen k.Others (others_rule n).steady (single_rule n).steady
    (eager k.LeftParen (others_rule n).steady (λ at text. ap (λ o. left_of o) (others_alone n at text)))
    (eager k.LeftParen (single_rule n).steady (λ at text. ap (λ o. left_of (and_then o (λ e us. Ok (single e, us)))) (paren_alone n at text).1)))
value_rule Wide n = w_spelled value_of (expr_rule Wide n) value_is

-- ---- choices

choice_in_rule : (language : Language) (n : ℕ) → Rule n 0 (choice_in language n) spell_choice (IsChoiceIn language)
unfolding choice_in
choice_in_rule language n =
    let none : 0 ≤ n = omega arith in
    choice_rule none (read.expr language n) language (expr_rule language n)

pub choices_rule : (language : Language) (n : ℕ) → Rule n 0 (choices language n) spell_choices (AreChoicesIn language)
choices_rule language n = separated_rule k.Bar refl (omega arith) (choice_in_rule language n)

-- ---- associations

actual_rule : (language : Language) (n : ℕ) → Rule n 0 (actual_of language n) spell_actual (IsActualIn language)
unfolding actual_of
actual_rule language n = w_test (is_kind k.Open) (w_at k.Open refl (λ at. w_pure (omega arith) refl tt)) (w_last (λ e. actual e) (expr_rule language n) (λ e good. (refl, good)))

formal_rule : (n : ℕ) → Rule n 0 (λ ts. and_then (formal ts) (λ i us. Ok (Some i, us))) (spell_option spell_formal) IsAny
unfolding formal
formal_rule n = w_inner identifier _ _ (w_ident (λ i. w_inner (expect k.Arrow) _ _ (w_some k.Arrow refl (λ _. w_pure (omega arith) refl tt))))

-- behind its formal
abbrev pub associated : Language → ℕ → Option Ident → Parser Association
associated language n f = λ ts. and_then (actual_of language n ts) (λ a us. Ok (record { formal = f; actual = a }, us))

association_rule : (language : Language) (n : ℕ) → Rule n 0 (association language n) spell_association (IsAssociationIn language)
unfolding association optional_formal
association_rule language n = w_both k.Identifier k.Arrow (λ ts. and_then (formal ts) (λ i us. Ok (Some i, us))) (λ ts. Ok (None, ts)) (associated language n) (formal_rule n) (w_pure (omega arith) refl tt)
    (λ f _ _. w_last (λ a. record { formal = f; actual = a }) (actual_rule language n) (λ a good. (refl, good)))
    (λ s. eager k.Identifier s (λ at text. ap (λ o. left_of (and_then (and_then o (λ i us. Ok (Some i, us))) (associated language n))) (formal_alone at text)))
    (λ s. eager k.Identifier s (λ at text. ap (λ o. left_of {A = Association} (and_then o (λ a us. Ok (record { formal = None; actual = a }, us)))) (actual_alone language n at text)))

pub associations_rule : (language : Language) (n : ℕ) → Rule n 0 (associations language n) spell_associations (AreAssociationsIn language)
associations_rule language n = separated_rule k.Comma refl (omega arith) (association_rule language n)
