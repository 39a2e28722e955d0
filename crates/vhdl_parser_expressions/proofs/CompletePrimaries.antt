-- Primaries and whole expressions that are spelled are read.
use Rattle.std.proofs.Common.{◌≡◌, ℕ, true, false, List, [], ◌∷◌, ◌++◌, Ok, Option, Some, None, inl, refl, sym, ap, ◌∙◌, subst, append-nil, arith}
use Rattle.vhdl_lexer.specs.declared.language.Language.{Language}
use Rattle.vhdl_lexer.specs.declared.language.Language.TheVariants.{Profile, Wide}
use Rattle.vhdl_lexer.specs.declared.token.TokenKind.TheVariants as k
use Rattle.vhdl_parser_expressions.specs.declared.operator.Level.TheVariants.{Logical}
use Rattle.vhdl_tree.specs.Lexeme.{Lexeme, same_kind}
use Rattle.vhdl_tree.specs.Tree.{Ident, Attribute, called, of_range, Expr, integer, character, string, bits, named, parens, negation, absolute, power, signed, binary, aggregate, qualified, enclosed, Suffix, plain, arguments, sliced, Exprs, no_exprs, expr, Elements, no_elements, element, Choices, no_choices, choice, Choice, chosen, chosen_range, otherwise}
use Rattle.vhdl_tree.specs.Pieces.{some, one_at, word_at, literal_at, text_at, Spells, spell_ident, spell_option}
use Rattle.vhdl_tree.specs.grammar.Expressions.{spell, spell_suffix, spell_attribute, spell_elements, IsExprIn, IsAggregate}
use Rattle.vhdl_parser_expressions.specs.reader.Input.{next_kind, second_kind, sees_both}
use Rattle.vhdl_parser_expressions.specs.reader.Expressions as read
use Rattle.vhdl_parser_expressions.specs.reader.Expressions.{parenthesis, qualified_from, named_from, inner}
use Rattle.vhdl_parser_expressions.proofs.Steps.{spells_split}
use Rattle.vhdl_parser_expressions.proofs.Operators.{binding_least}
use Rattle.vhdl_parser_expressions.proofs.Yields.{Yields, yields_bind, expect_some, reads_ident, reads_literal, reads_text, front}
use Rattle.vhdl_parser_expressions.proofs.Powers.{Stops, kind_stops}
use Rattle.vhdl_parser_expressions.proofs.Complete.{Complete, closed, primary_complete, negation_complete, absolute_complete, power_complete, signed_complete, binary_complete}
use Rattle.vhdl_parser_expressions.proofs.CompleteNames.{SuffixComplete, MoreComplete, plain_complete, sliced_complete, arguments_complete, none_complete, more_complete, parens_reads, name_from_reads, not_here}
use Rattle.vhdl_parser_expressions.proofs.CompleteElements.{CompleteChoice, CompleteChoices, CompleteElements, elements_list, elements_of-list, elements_give}

module _ (language : Language) where
  -- ---- literals

  integer_complete : (at : ℕ) (bytes : List ℕ) → Complete language (integer at bytes)
  unfolding same_kind
  integer_complete at bytes = primary_complete language (integer at bytes) k.Integer refl (omega arith)
      (λ ts rest h. front (text_at k.Integer at bytes) [] k.Integer ts rest (λ l i. i.0) h)
      (λ f n ts rest h s. yields_bind _ (inl (reads_text k.Integer at bytes ts rest h)) (inl refl))

  string_complete : (at : ℕ) (bytes : List ℕ) → Complete language (string at bytes)
  unfolding same_kind
  string_complete at bytes = primary_complete language (string at bytes) k.String refl (omega arith)
      (λ ts rest h. front (text_at k.String at bytes) [] k.String ts rest (λ l i. i.0) h)
      (λ f n ts rest h s. yields_bind _ (inl (reads_text k.String at bytes ts rest h)) (inl refl))

  bits_complete : (at : ℕ) (bytes : List ℕ) → Complete language (bits at bytes)
  unfolding same_kind
  bits_complete at bytes = primary_complete language (bits at bytes) k.BitString refl (omega arith)
      (λ ts rest h. front (text_at k.BitString at bytes) [] k.BitString ts rest (λ l i. i.0) h)
      (λ f n ts rest h s. yields_bind _ (inl (reads_text k.BitString at bytes ts rest h)) (inl refl))

  character_complete : (at code : ℕ) → Complete language (character at code)
  unfolding same_kind
  character_complete at code = primary_complete language (character at code) k.Character refl (omega arith)
      (λ ts rest h. front (literal_at at code) [] k.Character ts rest (λ l i. i.0) h)
      (λ f n ts rest h s. yields_bind _ (inl (reads_literal at code ts rest h)) (inl refl))

-- ---- what begins with a parenthesis

elements_read : (n : ℕ) (at : ℕ) (es : Elements) → CompleteElements es → IsExprIn Wide (qualified (record { at = 0; text = [] }) at es) → (ts rest : List Lexeme) →
    Spells (one_at k.LeftParen at ∷ (spell_elements es ++ some k.RightParen ∷ [])) ts rest → Yields (read.elements (inner Wide n) ts) (Ok ((at, elements_list es), rest))
elements_read n at es c f ts rest h = (elements_give n at es c f.1).reads ts rest h tt

enclosed_aggregate : (at : ℕ) (es : Elements) → IsAggregate es → enclosed at es ≡ aggregate at es
enclosed_aggregate at no_elements f = refl
enclosed_aggregate at (element no_choices value no_elements) f = absurd f
enclosed_aggregate at (element no_choices value (element cs other more)) f = refl
enclosed_aggregate at (element (choice c cs) value more) f = refl

parens_in : (language : Language) (at : ℕ) (e : Expr) → Complete language e → IsExprIn language e → (n : ℕ) (ts rest : List Lexeme) → Spells (spell (parens at e)) ts rest → Yields (parenthesis (inner language n) ts) (Ok (parens at e, rest))
unfolding parenthesis
parens_in Profile at e c f n ts rest h = parens_reads Profile at e c f n ts rest h
parens_in Wide at e c f n ts rest h = yields_bind _ (elements_read n at (element no_choices e no_elements) (tt, c, tt) (tt, (tt, f, tt)) ts rest
    (subst (λ ps. Spells (one_at k.LeftParen at ∷ (ps ++ some k.RightParen ∷ [])) ts rest) (sym (append-nil (spell e))) h))
    (inl (ap (λ es. Ok (enclosed at es, rest)) (elements_of-list (element no_choices e no_elements))))

parens_complete : (language : Language) (at : ℕ) (e : Expr) → Complete language e → Complete language (parens at e)
unfolding same_kind
parens_complete language at e c = primary_complete language (parens at e) k.LeftParen refl (omega arith)
    (λ ts rest h. front (one_at k.LeftParen at) (spell e ++ some k.RightParen ∷ []) k.LeftParen ts rest (λ l i. i.0) h)
    (λ f n ts rest h s. parens_in language at e c f n ts rest h)

aggregate_in : (language : Language) (at : ℕ) (es : Elements) → CompleteElements es → IsExprIn language (aggregate at es) → (n : ℕ) (ts rest : List Lexeme) → Spells (spell (aggregate at es)) ts rest →
    Yields (parenthesis (inner language n) ts) (Ok (aggregate at es, rest))
unfolding parenthesis
aggregate_in Profile at es c f n ts rest h = absurd f.0
aggregate_in Wide at es c f n ts rest h =
    let same = ap (enclosed at) (elements_of-list es) ∙ enclosed_aggregate at es f.1 in
    yields_bind _ (elements_read n at es c (tt, f.2) ts rest h) (inl (ap (λ e. Ok (e, rest)) same))

aggregate_complete : (language : Language) (at : ℕ) (es : Elements) → CompleteElements es → Complete language (aggregate at es)
unfolding same_kind
aggregate_complete language at es c = primary_complete language (aggregate at es) k.LeftParen refl (omega arith)
    (λ ts rest h. front (one_at k.LeftParen at) (spell_elements es ++ some k.RightParen ∷ []) k.LeftParen ts rest (λ l i. i.0) h)
    (λ f n ts rest h s. aggregate_in language at es c f n ts rest h)

-- ---- what begins with an identifier

-- behind the identifier of a name no tick and parenthesis stand
no_qualified : (x : Suffix) (a : Option Attribute) (ts rest : List Lexeme) → Spells (spell_suffix x ++ spell_option spell_attribute a) ts rest → Stops 7 rest → sees_both k.Tick k.LeftParen ts ≡ false
unfolding next_kind second_kind same_kind
no_qualified plain None ts rest h s = rw (h, not_here k.Tick (next_kind rest) refl (kind_stops 7 rest s)) refl
no_qualified plain (Some (called name)) [] rest h s = absurd h
no_qualified plain (Some (called name)) (l ∷ []) rest h s = absurd h.1
no_qualified plain (Some (called name)) (l ∷ m ∷ ts) rest h s = rw (h.0, h.1.0.0) refl
no_qualified plain (Some (of_range at)) [] rest h s = absurd h
no_qualified plain (Some (of_range at)) (l ∷ []) rest h s = absurd h.1
no_qualified plain (Some (of_range at)) (l ∷ m ∷ ts) rest h s = rw (h.0, h.1.0.0) refl
no_qualified (arguments all) a [] rest h s = absurd h
no_qualified (arguments all) a (l ∷ ts) rest h s = rw h.0 refl
no_qualified (sliced left d right) a [] rest h s = absurd h
no_qualified (sliced left d right) a (l ∷ ts) rest h s = rw h.0 refl

named_in : (language : Language) (i : Ident) (x : Suffix) (a : Option Attribute) → SuffixComplete language x → IsExprIn language (named i x a) → (n : ℕ) (ts rest : List Lexeme) →
    Spells (spell_suffix x ++ spell_option spell_attribute a) ts rest → Stops 7 rest → Yields (named_from (inner language n) i ts) (Ok (named i x a, rest))
unfolding named_from
named_in Profile i x a c f n ts rest h s = yields_bind _ (name_from_reads Profile (record { identifier = i; suffix = x; attribute = a }) c f n ts rest h s) (inl refl)
named_in Wide i x a c f n ts rest h s =
    rw (no_qualified x a ts rest h s) (yields_bind _ (name_from_reads Wide (record { identifier = i; suffix = x; attribute = a }) c f n ts rest h s) (inl refl))

named_complete : (language : Language) (i : Ident) (x : Suffix) (a : Option Attribute) → SuffixComplete language x → Complete language (named i x a)
unfolding same_kind
named_complete language i x a c = primary_complete language (named i x a) k.Identifier refl (omega arith)
    (λ ts rest h. front (word_at i.at i.text) (spell_suffix x ++ spell_option spell_attribute a) k.Identifier ts rest (λ l j. j.0) h)
    (λ f n ts rest h s.
    let word = spells_split (spell_ident i) (spell_suffix x ++ spell_option spell_attribute a) ts rest h in
    yields_bind _ (inl (reads_ident i ts word.0 word.1)) (named_in language i x a c f n word.0 rest word.2 s))

sees_qualified : (at : ℕ) (es : Elements) (ts rest : List Lexeme) → Spells (some k.Tick ∷ (one_at k.LeftParen at ∷ (spell_elements es ++ some k.RightParen ∷ []))) ts rest → sees_both k.Tick k.LeftParen ts ≡ true
unfolding next_kind second_kind same_kind
sees_qualified at es [] rest h = absurd h
sees_qualified at es (l ∷ []) rest h = absurd h.1
sees_qualified at es (l ∷ m ∷ ts) rest h = rw (h.0, h.1.0.0) refl

qualified_in : (language : Language) (mark : Ident) (at : ℕ) (es : Elements) → CompleteElements es → IsExprIn language (qualified mark at es) → (n : ℕ) (ts rest : List Lexeme) →
    Spells (some k.Tick ∷ (one_at k.LeftParen at ∷ (spell_elements es ++ some k.RightParen ∷ []))) ts rest → Yields (named_from (inner language n) mark ts) (Ok (qualified mark at es, rest))
unfolding named_from qualified_from
qualified_in Profile mark at es c f n ts rest h = absurd f.0
qualified_in Wide mark at es c f n ts rest h =
    let cut = spells_split (some k.Tick ∷ []) (one_at k.LeftParen at ∷ (spell_elements es ++ some k.RightParen ∷ [])) ts rest h in
    let tick = expect_some k.Tick ts cut.0 cut.1 in
    rw (sees_qualified at es ts rest h)
    (yields_bind _ (inl tick.1) (yields_bind _ (elements_read n at es c (tt, f.1) cut.0 rest cut.2) (inl (ap (λ all. Ok (qualified mark at all, rest)) (elements_of-list es)))))

qualified_complete : (language : Language) (mark : Ident) (at : ℕ) (es : Elements) → CompleteElements es → Complete language (qualified mark at es)
unfolding same_kind
qualified_complete language mark at es c = primary_complete language (qualified mark at es) k.Identifier refl (omega arith)
    (λ ts rest h. front (word_at mark.at mark.text) (some k.Tick ∷ (one_at k.LeftParen at ∷ (spell_elements es ++ some k.RightParen ∷ []))) k.Identifier ts rest (λ l j. j.0) h)
    (λ f n ts rest h s.
    let word = spells_split (spell_ident mark) (some k.Tick ∷ (one_at k.LeftParen at ∷ (spell_elements es ++ some k.RightParen ∷ []))) ts rest h in
    yields_bind _ (inl (reads_ident mark ts word.0 word.1)) (qualified_in language mark at es c f n word.0 rest word.2))

-- ---- all

mutual
  pub complete : (language : Language) (e : Expr) → Complete language e
  complete language (integer at bytes) = integer_complete language at bytes
  complete language (character at code) = character_complete language at code
  complete language (string at bytes) = string_complete language at bytes
  complete language (bits at bytes) = bits_complete language at bytes
  complete language (named i x a) = named_complete language i x a (complete_suffix language x)
  complete language (parens at inner) = parens_complete language at inner (complete language inner)
  complete language (negation at operand) = negation_complete language at operand (complete language operand)
  complete language (absolute at operand) = absolute_complete language at operand (complete language operand)
  complete language (power base at exponent) = power_complete language base exponent at (complete language base) (complete language exponent)
  complete language (signed sign at operand) = signed_complete language sign at operand (complete language operand)
  complete language (binary b op at left right) = binary_complete language b op at left right (complete language left) (complete language right)
  complete language (aggregate at elements) = aggregate_complete language at elements (complete_elements elements)
  complete language (qualified mark at elements) = qualified_complete language mark at elements (complete_elements elements)

  pub complete_suffix : (language : Language) (x : Suffix) → SuffixComplete language x
  complete_suffix language plain = plain_complete language
  complete_suffix language (arguments all) = complete_arguments language all
  complete_suffix language (sliced left d right) = sliced_complete language left d right (complete language left) (complete language right)

  complete_arguments : (language : Language) (all : Exprs) → SuffixComplete language (arguments all)
  complete_arguments language no_exprs = record { as_suffix = λ f. absurd f }
  complete_arguments language (expr e more) = arguments_complete language e more (complete language e) (complete_more language more)

  complete_more : (language : Language) (es : Exprs) → MoreComplete language es
  complete_more language no_exprs = none_complete language
  complete_more language (expr e more) = more_complete language e more (complete language e) (complete_more language more)

  complete_elements : (es : Elements) → CompleteElements es
  complete_elements no_elements = tt
  complete_elements (element cs value more) = (complete_choices cs, complete Wide value, complete_elements more)

  complete_choices : (cs : Choices) → CompleteChoices cs
  complete_choices no_choices = tt
  complete_choices (choice c more) = (complete_choice c, complete_choices more)

  pub complete_choice : (c : Choice) → CompleteChoice c
  complete_choice (otherwise at) = tt
  complete_choice (chosen e) = complete Wide e
  complete_choice (chosen_range left d right) = (complete Wide left, complete Wide right)

-- an expression is read where nothing goes on with it
pub expr_reads : (language : Language) (e : Expr) → IsExprIn language e → (n : ℕ) (ts rest : List Lexeme) → Spells (spell e) ts rest → Stops 1 rest → Yields (read.expr language n ts) (Ok (e, rest))
expr_reads language e f n ts rest h s = closed language Logical e ((complete language e).as_chain Logical (binding_least e) f) n ts rest h s
