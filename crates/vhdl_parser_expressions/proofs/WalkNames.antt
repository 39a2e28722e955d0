-- What the readers of names, parentheses and primaries make.
use Rattle.std.proofs.Common.{◌≡◌, ℕ, zero, suc, ◌≤◌, Bool, true, false, List, [], ◌∷◌, ◌++◌, Ok, Option, Some, None, refl, sym, ap, ◌∙◌, subst, append_assoc, append-nil, arith}
use Rattle.vhdl_lexer.specs.declared.language.Language.{Language}
use Rattle.vhdl_lexer.specs.declared.language.Language.TheVariants.{Profile, Wide}
use Rattle.vhdl_lexer.specs.declared.token.TokenKind.{TokenKind}
use Rattle.vhdl_lexer.specs.declared.token.TokenKind.TheVariants as k
use Rattle.vhdl_tree.specs.declared.operator.Direction.{Direction}
use Rattle.vhdl_tree.specs.Lexeme.{same_kind}
use Rattle.vhdl_tree.specs.Tree.{Ident, Expr, parens, qualified, enclosed, Elements, no_elements, element, no_choices, choice, elements_of, arguments, expr, no_exprs, exprs_of}
use Rattle.vhdl_tree.specs.Pieces.{Piece, some, one_at, word_at, text_at, spell_option, spell_each, IsEach}
use Rattle.vhdl_tree.specs.grammar.Expressions.{direction_kind, spell_attribute, spell, spell_suffix, spell_more, spell_elements, spell_name, binding, IsAttributeIn, IsExprIn, IsSuffixIn, AreExprsIn, AreElementsIn, IsNameIn}
use Rattle.vhdl_parser_expressions.specs.reader.Input.{Parser, and_then, token, expect, identifier, text, next_kind, is_kind, sees_both, optional}
use Rattle.vhdl_parser_expressions.specs.reader.Expressions.{direction_at, attribute_name, attribute, name_expr, narrow_parenthesis, parenthesis, argument, range_from, arguments_from, suffix_by, suffix, optional_suffix, name_from, name, elements, qualified_from, named_from, primary_by, primary, inside, inner}
use Rattle.vhdl_parser_expressions.proofs.Ahead.{eager, steady_both}
use Rattle.vhdl_parser_expressions.proofs.Walks.{Walks, Rule, w_pure, w_then, w_map, w_last, w_ends}
use Rattle.vhdl_parser_expressions.proofs.Rules.{Stops, is_neutral, neutral, w_take, w_at, w_some, w_left, w_left_at, w_right, w_ident, w_literal, w_refuse, w_choose, w_test, w_by, deep_met, option_rule}
use Rattle.vhdl_parser_expressions.proofs.Repeats.{spell_behind, behind_rule}
use Rattle.vhdl_parser_expressions.proofs.WalkElements.{number, direction_neutral, elements_rule}

-- ---- literals

w_text : {B : Type 0} {n d d2 : ℕ} {e : Bool} {before : List Piece → List Piece} {spell : B → List Piece} {Good : B → Type 0} {f : (ℕ × List ℕ) → Parser B} (kind : TokenKind) → is_neutral kind ≡ true →
    ((c : ℕ × List ℕ) → Walks n d false d2 (λ r. before (text_at kind c.0 c.1 ∷ r)) (f c) spell Good) → Walks n d e d2 before (λ ts. and_then (text kind ts) f) spell Good
unfolding text
w_text {B} {n} {d} {d2} {e} {before} {spell} {Good} {f} kind ok next =
    let u = neutral kind ok in
    w_take (λ l. (l.at, l.text)) kind (λ c. text_at kind c.0 c.1) (λ le. le) (omega arith) (omega (arith, u.opens_none e, u.closes_none e)) u.no_end (λ l i. (i, refl, refl)) next

-- where no level may open, nothing but the depth is refused
inside_met : {A B : Type 0} (language : Language) (f : A → Expr → Parser B) (n : ℕ) (a : A) → Stops (λ a us. and_then (inside language n us) (f a)) a → 1 ≤ n
unfolding inside
inside_met language f zero a x = deep_met x.0 x.1 x.2 x.3 x.4
inside_met language f (suc m) a x = omega arith

-- a well-formed tree that binds so tightly
abbrev pub Tight : Language → ℕ → Expr → Type 0
Tight language r e = (r ≤ binding e) × IsExprIn language e

-- ---- attributes

attribute_next : {n : ℕ} (language : Language) → Walks n 0 false 0 (λ r. some k.Tick ∷ r) (attribute_name language) spell_attribute (IsAttributeIn language)
attribute_next Profile = w_ident (λ i. w_pure (omega arith) refl tt)
attribute_next Wide = w_test (is_kind k.Range) (w_at k.Range refl (λ at. w_pure (omega arith) refl tt)) (w_ident (λ i. w_pure (omega arith) refl tt))

attribute_rule : {n : ℕ} (language : Language) → Rule n 0 (attribute language) spell_attribute (IsAttributeIn language)
unfolding attribute
attribute_rule language = w_some k.Tick refl (λ _. attribute_next language)

-- ---- arguments

abbrev comma_expr : Expr → List Piece
comma_expr e = some k.Comma ∷ spell e

commas_are : (es : List Expr) → spell_more (exprs_of es) ≡ spell_each comma_expr es
commas_are [] = refl
commas_are (e ∷ es) = ap (λ ps. some k.Comma ∷ (spell e ++ ps)) (commas_are es)

exprs_formed : (language : Language) (es : List Expr) → IsEach (IsExprIn language) es → AreExprsIn language (exprs_of es)
exprs_formed language [] f = tt
exprs_formed language (e ∷ es) f = (f.0, exprs_formed language es f.1)

-- all arguments, of which the first one was read
arguments_are : (first : Expr) (all more : List Expr) → all ≡ first ∷ more → spell_suffix (arguments (exprs_of all)) ≡ some k.LeftParen ∷ (spell first ++ (spell_behind comma_expr all ++ some k.RightParen ∷ []))
arguments_are first all more is =
    ap (λ es. spell_suffix (arguments (exprs_of es))) is
    ∙ ap (λ ps. some k.LeftParen ∷ ps) (append_assoc (spell first) (spell_more (exprs_of more)) (some k.RightParen ∷ []))
    ∙ ap (λ ps. some k.LeftParen ∷ (spell first ++ (ps ++ some k.RightParen ∷ []))) (commas_are more)
    ∙ ap (λ es. some k.LeftParen ∷ (spell first ++ (spell_behind comma_expr es ++ some k.RightParen ∷ []))) (sym is)

module _ (language : Language) (n : ℕ) (within : Rule n 1 (inside language n) spell (IsExprIn language)) where
  narrow_rule : Rule n 0 (narrow_parenthesis (inner language n)) spell (Tight language 6)
  unfolding narrow_parenthesis
  narrow_rule = w_left_at (λ at. record { tree = parens at number; more = spell number ++ some k.RightParen ∷ []; is = refl; formed = (omega arith, tt) }) (inside_met language _ n)
      (λ at. w_then within (λ e good le. w_right le (λ _. w_pure (omega arith) refl (omega arith, good))))

  argument_rule : Rule n 1 (argument (inner language n)) comma_expr (IsExprIn language)
  unfolding argument
  argument_rule = w_some k.Comma refl (λ _. w_ends (λ e. refl) (λ e good. good) within)

  suffix_next : (first : Expr) → IsExprIn language first → 1 ≤ n → (d : Option Direction) → Walks n 1 false 0 (λ r. some k.LeftParen ∷ (spell first ++ r)) (suffix_by (inner language n) first d) spell_suffix (IsSuffixIn language)
  unfolding range_from arguments_from
  suffix_next first good le None = w_then (behind_rule (is_kind k.Comma) refl le argument_rule (λ e. omega arith) first) (λ all b _.
      w_right le (λ _. w_pure (omega arith) (arguments_are first all b.0 b.1) (subst (λ es. IsSuffixIn language (arguments (exprs_of es))) (sym b.1) (good, exprs_formed language b.0 b.2))))
  suffix_next first good le (Some d) = w_some (direction_kind d) (direction_neutral d) (λ _. w_then within (λ right fine _. w_right le (λ _. w_pure (omega arith) refl (good, fine))))

  suffix_rule : Rule n 0 (optional_suffix (inner language n)) spell_suffix (IsSuffixIn language)
  unfolding optional_suffix suffix
  suffix_rule = w_test (is_kind k.LeftParen)
      (w_left (record { tree = arguments (expr number no_exprs); more = spell number ++ some k.RightParen ∷ []; is = refl; formed = (tt, tt) }) (inside_met language _ n)
      (λ _. w_then within (λ first good le. w_choose (λ next. suffix_next first good le (direction_at next)))))
      (w_pure (omega arith) refl tt)

  -- a name behind its identifier
  name_next : (i : Ident) → Walks n 0 false 0 (λ r. word_at i.at i.text ∷ r) (name_from (inner language n) i) spell_name (IsNameIn language)
  unfolding name_from
  name_next i = w_then suffix_rule (λ s good _. w_then (option_rule (is_kind k.Tick) (omega arith) (attribute_rule language)) (λ a fine _.
      w_pure (omega arith) (ap (λ ps. word_at i.at i.text ∷ (spell_suffix s ++ ps)) (sym (append-nil (spell_option spell_attribute a)))) (good, fine)))

  pub name_rule : Rule n 0 (name (inner language n)) spell_name (IsNameIn language)
  unfolding name
  name_rule = w_ident name_next

  name_as_expr : (i : Ident) → Walks n 0 false 0 (λ r. word_at i.at i.text ∷ r) (λ ts. and_then (name_from (inner language n) i ts) (λ x us. Ok (name_expr x, us))) spell (Tight language 6)
  name_as_expr i = w_map (λ x. name_expr x) (λ x more good is. (is, (omega arith, good))) (name_next i)

-- ---- what begins with a parenthesis

enclosed_is : (at : ℕ) (es : Elements) → spell (enclosed at es) ≡ one_at k.LeftParen at ∷ (spell_elements es ++ some k.RightParen ∷ [])
enclosed_is at no_elements = refl
enclosed_is at (element no_choices value no_elements) = ap (λ ps. one_at k.LeftParen at ∷ (ps ++ some k.RightParen ∷ [])) (sym (append-nil (spell value)))
enclosed_is at (element no_choices value (element cs other more)) = refl
enclosed_is at (element (choice c cs) value more) = refl

enclosed_formed : (at : ℕ) (es : Elements) → AreElementsIn Wide es → Tight Wide 6 (enclosed at es)
enclosed_formed at no_elements f = absurd f
enclosed_formed at (element no_choices value no_elements) f = (omega arith, f.1)
enclosed_formed at (element no_choices value (element cs other more)) f = (omega arith, (tt, tt, f))
enclosed_formed at (element (choice c cs) value more) f = (omega arith, (tt, tt, f))

parenthesis_rule : (language : Language) (n : ℕ) → Rule n 1 (inside language n) spell (IsExprIn language) → Rule n 0 (parenthesis (inner language n)) spell (Tight language 6)
unfolding parenthesis
parenthesis_rule Profile n within = narrow_rule Profile n within
parenthesis_rule Wide n within = w_last (λ p. enclosed p.0 (elements_of p.1)) (elements_rule n within) (λ p good. (enclosed_is p.0 (elements_of p.1), enclosed_formed p.0 (elements_of p.1) good))

-- ---- what begins with an identifier

qualified_rule : (n : ℕ) → Rule n 1 (inside Wide n) spell (IsExprIn Wide) → (i : Ident) → Walks n 0 false 0 (λ r. word_at i.at i.text ∷ r) (qualified_from (inner Wide n) i) spell (Tight Wide 6)
unfolding qualified_from
qualified_rule n within i = w_some k.Tick refl (λ _. w_last (λ p. qualified i p.0 (elements_of p.1)) (elements_rule n within) (λ p good. (refl, (omega arith, (tt, good)))))

named_next : (language : Language) (n : ℕ) → Rule n 1 (inside language n) spell (IsExprIn language) → (i : Ident) → Walks n 0 false 0 (λ r. word_at i.at i.text ∷ r) (named_from (inner language n) i) spell (Tight language 6)
unfolding named_from qualified_from elements name_from optional_suffix optional attribute expect identifier token next_kind same_kind
named_next Profile n within i = name_as_expr Profile n within i
named_next Wide n within i =
    let one = qualified_rule n within i in
    let other = name_as_expr Wide n within i in
    w_by (sees_both k.Tick k.LeftParen) one other
    (steady_both k.Tick k.LeftParen one.steady other.steady (eager k.Tick one.steady (λ at text. refl)) (eager k.Tick other.steady (λ at text. refl)))

-- ---- primaries

primary_next : (language : Language) (n : ℕ) → Rule n 1 (inside language n) spell (IsExprIn language) → (next : Option TokenKind) → Rule n 0 (primary_by (inner language n) next) spell (Tight language 6)
primary_next language n within (Some k.Identifier) = w_ident (named_next language n within)
primary_next language n within (Some k.Integer) = w_text k.Integer refl (λ c. w_pure (omega arith) refl (omega arith, tt))
primary_next language n within (Some k.Character) = w_literal (λ c. w_pure (omega arith) refl (omega arith, tt))
primary_next language n within (Some k.String) = w_text k.String refl (λ c. w_pure (omega arith) refl (omega arith, tt))
primary_next language n within (Some k.BitString) = w_text k.BitString refl (λ c. w_pure (omega arith) refl (omega arith, tt))
primary_next language n within (Some k.LeftParen) = parenthesis_rule language n within
primary_next language n within _ = w_refuse (record { tree = number; more = spell number; is = refl; formed = (omega arith, tt) })

pub primary_rule : (language : Language) (n : ℕ) → Rule n 1 (inside language n) spell (IsExprIn language) → Rule n 0 (primary (inner language n)) spell (Tight language 6)
unfolding primary
primary_rule language n within = w_choose (primary_next language n within)
