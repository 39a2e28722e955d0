-- Ranges, values, choices and associations that are spelled are read.
use Rattle.std.proofs.Common.{◌≡◌, ℕ, suc, inl, ◌≤◌, ◌<◌, Bool, true, false, ◌&&◌, cond, List, [], ◌∷◌, ◌++◌, length, Ok, Option, Some, None, refl, sym, ap, ◌∙◌, subst, append_assoc, append-nil, arith}
use Rattle.vhdl_lexer.specs.declared.language.Language.{Language}
use Rattle.vhdl_lexer.specs.declared.language.Language.TheVariants.{Profile, Wide}
use Rattle.vhdl_lexer.specs.declared.token.TokenKind.{TokenKind}
use Rattle.vhdl_lexer.specs.declared.token.TokenKind.TheVariants as k
use Rattle.vhdl_tree.specs.declared.operator.Operator.{Operator}
use Rattle.vhdl_tree.specs.declared.operator.Operator.TheVariants.{And}
use Rattle.vhdl_tree.specs.declared.operator.Sign.TheVariants.{Plus, Minus}
use Rattle.vhdl_tree.specs.declared.operator.Direction.{Direction}
use Rattle.vhdl_tree.specs.Lexeme.{Lexeme, same_kind}
use Rattle.vhdl_tree.specs.Tree.{Ident, called, of_range, Expr, integer, character, string, bits, named, parens, negation, absolute, power, signed, binary, aggregate, qualified, plain, arguments, sliced, no_elements, element, no_choices, choice, Name, DiscreteRange, bounds, range_named, Value, single, others, Choice, chosen, chosen_range, otherwise, Actual, actual, left_open, Association, value_of}
use Rattle.vhdl_tree.specs.Pieces.{Piece, some, one_at, Spells, spell_option}
use Rattle.vhdl_tree.specs.grammar.Expressions.{kind_of, direction_kind, spell, spell_elements, spell_name, spell_discrete_range, spell_value, spell_choice, spell_choices, spell_actual, spell_formal, spell_association, spell_associations, IsSingle, IsExprIn, IsNameIn, IsDiscreteRangeIn, IsValueIn, IsChoiceIn, AreChoicesIn, IsActualIn, IsAssociationIn, AreAssociationsIn}
use Rattle.vhdl_parser_expressions.specs.reader.Input.{Parser, Outcome, and_then, next_kind, second_kind, is_kind, test, ◌<$>◌, sees_both, test_both}
use Rattle.vhdl_parser_expressions.specs.reader.Expressions as read
use Rattle.vhdl_parser_expressions.specs.reader.Expressions.{direction_at, choice_from, choice_of, inside, inner, name}
use Rattle.vhdl_parser_expressions.specs.reader.Values.{discrete_range_by, discrete_range, others_value, value, choice_in, choices, formal, optional_formal, actual_of, association, associations}
use Rattle.vhdl_parser_expressions.proofs.Operators.{grip}
use Rattle.vhdl_parser_expressions.proofs.Yields.{yields_bind}
use Rattle.vhdl_parser_expressions.proofs.Gives.{Reaches, Gives, front, front_is, g_weaken, g_pure, g_then, g_map, g_at, g_some, g_ident, g_choose, g_yes, g_no, separated_gives}
use Rattle.vhdl_parser_expressions.proofs.Heads.{head, head_is, begins, not_head, head_alone, spell_long}
use Rattle.vhdl_parser_expressions.proofs.Powers.{stops_loosely, stops_name}
use Rattle.vhdl_parser_expressions.proofs.CompleteNames.{inside_reads, name_reads, direction_seen}
pub use Rattle.vhdl_parser_expressions.proofs.CompleteElements.{Ends, EndsBound}
use Rattle.vhdl_parser_expressions.proofs.CompleteElements.{wide_choice}
use Rattle.vhdl_parser_expressions.proofs.CompletePrimaries.{complete_suffix, expr_reads, complete, complete_choice}

pub expr_gives : (language : Language) (n : ℕ) (e : Expr) → IsExprIn language e → Gives (read.expr language n) e (spell e) Ends
expr_gives language n e f = record { reads = λ ts rest h s. expr_reads language e f n ts rest h (stops_loosely 1 rest (omega arith) s) }

pub inside_gives : (language : Language) (n : ℕ) (e : Expr) → IsExprIn language e → Gives (inside language n) e (spell e) Ends
inside_gives language n e f = record { reads = λ ts rest h s. inside_reads language e (complete language e) f n ts rest h (stops_loosely 1 rest (omega arith) s) }

-- neither a parenthesis nor a tick goes on with a name
abbrev pub EndsName : Option TokenKind → Type 0
EndsName next = grip next < 7

pub name_gives : (language : Language) (n : ℕ) (x : Name) → IsNameIn language x → Gives (name (inner language n)) x (spell_name x) EndsName
name_gives language n x f = record { reads = λ ts rest h s. name_reads language x (complete_suffix language x.suffix) f n ts rest h (stops_name rest s) }

-- ---- ranges

bounds_at : (language : Language) (n : ℕ) (left right : Expr) (d : Direction) → IsExprIn language left → IsExprIn language right →
    Gives (discrete_range language n) (bounds (record { left = left; direction = d; right = right })) (spell left ++ (some (direction_kind d) ∷ spell right)) Ends
unfolding discrete_range
bounds_at language n left right d f g =
    g_then _ (expr_gives language n left f)
    (g_choose (λ next. discrete_range_by language n left (direction_at next)) (Some (direction_kind d)) (λ next _. refl)
    (subst (λ x. Gives (discrete_range_by language n left x) (bounds (record { left = left; direction = d; right = right })) (some (direction_kind d) ∷ spell right) Ends) (sym (direction_seen d).0)
    (g_some (λ at. g_map (λ x. bounds (record { left = left; direction = d; right = x })) (expr_gives language n right g)))))
    (λ next _. omega (arith, (direction_seen d).1))

named_at : (language : Language) (n : ℕ) (x : Name) → IsDiscreteRangeIn language (range_named x) → Gives (discrete_range language n) (range_named x) (spell_name x) EndsBound
unfolding discrete_range
named_at Profile n x f = absurd f.0
named_at Wide n x f = record {
  reads = λ ts rest h g.
      let e = named x.identifier x.suffix x.attribute in
      let d : direction_at (next_kind rest) ≡ None = g.1 in
      yields_bind _ (expr_reads Wide e f.1 n ts rest h (stops_loosely 1 rest (omega arith) g.0)) (inl (rw d refl));
}

pub discrete_range_gives : (language : Language) (n : ℕ) (r : DiscreteRange) → IsDiscreteRangeIn language r → Gives (discrete_range language n) r (spell_discrete_range r) EndsBound
discrete_range_gives language n (bounds r) f = g_weaken (λ next g. g.0) (bounds_at language n r.left r.right r.direction f.0 f.1)
discrete_range_gives language n (range_named x) f = named_at language n x f

-- ---- the first two tokens of an expression of the narrower language

-- the kind behind the first token, where f follows the expression
abbrev second : Expr → Option TokenKind → Option TokenKind
second (integer at text) f = f
second (character at code) f = f
second (string at text) f = f
second (bits at text) f = f
second (named n plain None) f = f
second (named n plain (Some a)) f = Some k.Tick
second (named n (arguments all) attribute) f = Some k.LeftParen
second (named n (sliced left direction right) attribute) f = Some k.LeftParen
second (parens at inner) f = Some (head inner)
second (negation at operand) f = Some (head operand)
second (absolute at operand) f = Some (head operand)
second (power base at exponent) f = second base (Some k.Star)
second (signed sign at operand) f = Some (head operand)
second (binary b op at left right) f = second left (Some (kind_of op))
second (aggregate at all) f = front (spell_elements all ++ some k.RightParen ∷ []) None
second (qualified mark at all) f = Some k.Tick

abbrev pub behind : List Piece → Option TokenKind → Option TokenKind
behind [] next = None
behind (p ∷ ps) next = front ps next

-- a closing parenthesis stands behind these pieces
shut : (qs ps : List Piece) (next : Option TokenKind) → front ((qs ++ some k.RightParen ∷ []) ++ ps) next ≡ front (qs ++ some k.RightParen ∷ []) None
shut [] ps next = refl
shut (q ∷ qs) ps next = refl

second_is : (e : Expr) (ps : List Piece) (next : Option TokenKind) → behind (spell e ++ ps) next ≡ second e (front ps next)
second_is (named n plain None) ps next = refl
second_is (named n plain (Some (called word))) ps next = refl
second_is (named n plain (Some (of_range at))) ps next = refl
second_is (named n (arguments all) attribute) ps next = refl
second_is (named n (sliced left direction right) attribute) ps next = refl
second_is (parens at inner) ps next = ap (λ qs. front qs next) (append_assoc (spell inner) (some k.RightParen ∷ []) ps) ∙ head_is inner (some k.RightParen ∷ ps) next
second_is (negation at operand) ps next = head_is operand ps next
second_is (signed sign at operand) ps next = head_is operand ps next
second_is (absolute at operand) ps next = head_is operand ps next
second_is (power base at exponent) ps next =
    let stars = one_at k.Star at ∷ (one_at k.Star (suc at) ∷ spell exponent) in
    ap (λ qs. behind qs next) (append_assoc (spell base) stars ps) ∙ second_is base (stars ++ ps) next
second_is (aggregate at all) ps next = shut (spell_elements all) ps next
second_is (binary b op at left right) ps next = ap (λ qs. behind qs next) (append_assoc (spell left) (one_at (kind_of op) at ∷ spell right) ps) ∙ second_is left ((one_at (kind_of op) at ∷ spell right) ++ ps) next
second_is _ ps next = refl

-- no expression begins with ( others
no_others : (e : Expr) → IsExprIn Profile e → (f : Option TokenKind) → same_kind (head e) k.LeftParen && is_kind k.Others (second e f) ≡ false
unfolding same_kind
no_others (parens at inner) g f = not_head k.Others inner refl
no_others (power base at exponent) g f = absurd g.0
no_others (aggregate at all) g f = absurd g.0
no_others (signed Plus at operand) g f = refl
no_others (signed Minus at operand) g f = refl
no_others (binary b op at left right) g f = no_others left g.2 (Some (kind_of op))
no_others _ g f = refl

operator_no_arrow : (op : Operator) → is_kind k.Arrow (Some (kind_of op)) ≡ false
unfolding same_kind
operator_no_arrow And = refl
operator_no_arrow _ = refl

-- nor with id =>, where no => follows it
no_formal : (e : Expr) (f : Option TokenKind) → is_kind k.Arrow f ≡ false → same_kind (head e) k.Identifier && is_kind k.Arrow (second e f) ≡ false
unfolding same_kind
no_formal (named n plain None) f s = s
no_formal (named n plain (Some a)) f s = refl
no_formal (named n (arguments all) attribute) f s = refl
no_formal (named n (sliced left direction right) attribute) f s = refl
no_formal (signed Plus at operand) f s = refl
no_formal (signed Minus at operand) f s = refl
no_formal (power base at exponent) f s = no_formal base (Some k.Star) refl
no_formal (binary b op at left right) f s = no_formal left (Some (kind_of op)) (operator_no_arrow op)
no_formal _ f s = refl

-- ---- choices by two tokens

abbrev pub both : TokenKind → TokenKind → List Piece → Option TokenKind → Bool
both first behind_it ps next = is_kind first (front ps next) && is_kind behind_it (behind ps next)

second_kind_is : (p : Piece) (ps : List Piece) (ts rest : List Lexeme) → Spells (p ∷ ps) ts rest → second_kind ts ≡ front ps (next_kind rest)
unfolding second_kind
second_kind_is p ps [] rest h = absurd h
second_kind_is p ps (t ∷ ts) rest h = front_is ps ts rest h.1

pub sees_is : (first behind_it : TokenKind) (ps : List Piece) (ts rest : List Lexeme) → 1 ≤ length ps → Spells ps ts rest → sees_both first behind_it ts ≡ both first behind_it ps (next_kind rest)
sees_is first behind_it [] ts rest le h = absurd (omega (arith, le))
sees_is first behind_it (p ∷ ps) ts rest le h = rw (front_is (p ∷ ps) ts rest h, second_kind_is p ps ts rest h)

module _ {B : Type 0} {b : B} {ps : List Piece} {G : Option TokenKind → Type 0} (first behind_it : TokenKind) (long : 1 ≤ length ps) where
  pub g_both : {p : Parser B} (q : Parser B) → ((next : Option TokenKind) → both first behind_it ps next ≡ true) → Gives p b ps G → Gives (test_both first behind_it p q) b ps G
  g_both {p} q is w = record {
    reads = λ ts rest h g.
        subst (λ t. Reaches (cond {A = Outcome B} t (p ts) (q ts)) b rest) (sym (sees_is first behind_it ps ts rest long h ∙ is (next_kind rest))) (w.reads ts rest h g);
  }

  pub g_neither : {q : Parser B} (p : Parser B) → ((next : Option TokenKind) → G next → both first behind_it ps next ≡ false) → Gives q b ps G → Gives (test_both first behind_it p q) b ps G
  g_neither {q} p is w = record {
    reads = λ ts rest h g.
        subst (λ t. Reaches (cond {A = Outcome B} t (p ts) (q ts)) b rest) (sym (sees_is first behind_it ps ts rest long h ∙ is (next_kind rest) g)) (w.reads ts rest h g);
  }

  pub g_neither_then : {A : Type 0} (q p : Parser A) (f : A → Parser B) → ((next : Option TokenKind) → G next → both first behind_it ps next ≡ false) → Gives (λ ts. and_then (q ts) f) b ps G → Gives (λ ts. and_then (test_both first behind_it p q ts) f) b ps G
  g_neither_then {A} q p f is w = record {
    reads = λ ts rest h g.
        subst (λ t. Reaches (and_then (cond {A = Outcome A} t (p ts) (q ts)) f) b rest) (sym (sees_is first behind_it ps ts rest long h ∙ is (next_kind rest) g)) (w.reads ts rest h g);
  }

-- an expression's first two tokens
both_expr : (first behind_it : TokenKind) (e : Expr) (next : Option TokenKind) → both first behind_it (spell e) next ≡ same_kind (head e) first && is_kind behind_it (second e next)
both_expr first behind_it e next = subst (λ qs. both first behind_it qs next ≡ same_kind (head e) first && is_kind behind_it (second e next)) (append-nil (spell e)) (rw (head_is e [] next, second_is e [] next))

-- where the word may stand in place of an expression
expr_alone : {A : Type 0} (p : Parser A) (kind : TokenKind) → begins kind ≡ false → (of : Expr → A) (language : Language) (n : ℕ) (e : Expr) → IsExprIn language e → Gives (test (is_kind kind) p (of <$> read.expr language n)) (of e) (spell e) Ends
expr_alone p kind other of language n e f = g_no p (is_kind kind) (λ next _. head_alone kind e next other) (g_map of (expr_gives language n e f))

-- ---- values

single_value : (e : Expr) → IsSingle e → value_of e ≡ single e
single_value (aggregate at (element (choice (otherwise other) no_choices) value no_elements)) f = absurd f
single_value (aggregate at (element (choice (otherwise other) no_choices) value (element cs next more))) f = refl
single_value (aggregate at (element (choice (otherwise other) (choice c cs)) value more)) f = refl
single_value (aggregate at (element (choice (chosen e) cs) value more)) f = refl
single_value (aggregate at (element (choice (chosen_range left d right) cs) value more)) f = refl
single_value (aggregate at (element no_choices value more)) f = refl
single_value (aggregate at no_elements) f = refl
single_value _ f = refl

-- ( others => e ) as an aggregate, whose `others` starts there
fill : ℕ → ℕ → Expr → Expr
fill at other e = aggregate at (element (choice (otherwise other) no_choices) e no_elements)

filled : (at : ℕ) (e : Expr) (ts rest : List Lexeme) → Spells (spell_value (others at e)) ts rest → (other : ℕ) × Spells (spell (fill at other e)) ts rest
unfolding fill
filled at e [] rest h = absurd h
filled at e (l ∷ []) rest h = absurd h.1
filled at e (l ∷ m ∷ ts) rest h = (m.at, (h.0, ((h.1.0, refl), subst (λ ps. Spells ps ts rest) (ap (λ ps. some k.Arrow ∷ (ps ++ some k.RightParen ∷ [])) (sym (append-nil (spell e)))) h.1.1)))

pub value_gives : (language : Language) (n : ℕ) (v : Value) → IsValueIn language v → Gives (value language n) v (spell_value v) Ends
unfolding value others_value same_kind fill
value_gives Profile n (single e) f =
    g_neither k.LeftParen k.Others (spell_long e) (others_value n) (λ next _. both_expr k.LeftParen k.Others e next ∙ no_others e f.0 next)
    (g_map (λ x. single x) (expr_gives Profile n e f.0))
value_gives Profile n (others at e) f =
    g_both k.LeftParen k.Others (omega arith) (λ ts. and_then (read.expr Profile n ts) (λ x us. Ok (single x, us))) (λ next. refl)
    (g_at _ (g_some (λ _. g_some (λ _. g_then _ (inside_gives Profile n e f) (g_some (λ _. g_pure)) (λ next _. omega arith)))))
value_gives Wide n (single e) f = subst (λ v. Gives (value Wide n) v (spell e) Ends) (single_value e f.1) (g_map value_of (expr_gives Wide n e f.0))
value_gives Wide n (others at e) f = record {
  reads = λ ts rest h s.
      let o = filled at e ts rest h in
      (g_map value_of (expr_gives Wide n (fill at o.0 e) (tt, tt, ((tt, tt), f, tt)))).reads ts rest o.1 s;
}

-- ---- choices

narrow_choice : (n : ℕ) (c : Choice) → IsChoiceIn Profile c → Gives (choice_of (read.expr Profile n) Profile) c (spell_choice c) EndsBound
unfolding choice_of choice_from same_kind
narrow_choice n (otherwise at) f = g_yes _ (is_kind k.Others) (λ next _. refl) (g_at _ g_pure)
narrow_choice n (chosen e) f = g_weaken (λ next g. g.0) (expr_alone _ k.Others refl (λ x. chosen x) Profile n e f)
narrow_choice n (chosen_range left d right) f = absurd f.0

choice_gives : (language : Language) (n : ℕ) (c : Choice) → IsChoiceIn language c → Gives (choice_in language n) c (spell_choice c) EndsBound
unfolding choice_in
choice_gives Profile n c f = narrow_choice n c f
choice_gives Wide n c f = wide_choice (read.expr Wide n) (λ e known formed. expr_gives Wide n e formed) c (complete_choice c) f

pub choices_gives : (language : Language) (n : ℕ) (cs : List Choice) → AreChoicesIn language cs → Gives (choices language n) cs (spell_choices cs) (λ next. (is_kind k.Bar next ≡ false) × EndsBound next)
unfolding same_kind
choices_gives language n cs f = separated_gives k.Bar refl (omega arith, refl) (choice_gives language n) cs f

-- ---- associations

-- no => follows
abbrev EndsActual : Option TokenKind → Type 0
EndsActual next = (is_kind k.Arrow next ≡ false) × Ends next

actual_gives : (language : Language) (n : ℕ) (a : Actual) → IsActualIn language a → Gives (actual_of language n) a (spell_actual a) Ends
unfolding actual_of same_kind
actual_gives language n (left_open at) f = g_yes _ (is_kind k.Open) (λ next _. refl) (g_at _ g_pure)
actual_gives language n (actual e) f = expr_alone _ k.Open refl (λ x. actual x) language n e f

actual_ends : (language : Language) (n : ℕ) (a : Actual) → IsActualIn language a → Gives (actual_of language n) a (spell_actual a) EndsActual
actual_ends language n a f = record { reads = λ ts rest h g. (actual_gives language n a f).reads ts rest h g.1 }

no_formal_actual : (a : Actual) (next : Option TokenKind) → EndsActual next → both k.Identifier k.Arrow (spell_actual a) next ≡ false
unfolding same_kind
no_formal_actual (left_open at) next g = refl
no_formal_actual (actual e) next g = both_expr k.Identifier k.Arrow e next ∙ no_formal e next g.0

actual_long : (a : Actual) → 1 ≤ length (spell_actual a)
actual_long (left_open at) = omega arith
actual_long (actual e) = spell_long e

formal_gives : (i : Ident) → Gives optional_formal (Some i) (spell_formal i) (λ next. Unit {0})
unfolding optional_formal formal same_kind
formal_gives i = g_both k.Identifier k.Arrow (omega arith) (λ ts. Ok (None, ts)) (λ next. refl) (g_map (λ x. Some x) (g_ident _ (g_some (λ _. g_pure))))

association_by : (language : Language) (n : ℕ) (f : Option Ident) (a : Actual) → IsActualIn language a → Gives (association language n) (record { formal = f; actual = a }) (spell_option spell_formal f ++ spell_actual a) EndsActual
unfolding association optional_formal
association_by language n None a f =
    g_neither_then k.Identifier k.Arrow (actual_long a) (λ ts. Ok (None, ts)) (λ ts. and_then (formal ts) (λ x us. Ok (Some x, us))) _ (no_formal_actual a) (g_map (λ x. record { formal = None; actual = x }) (actual_ends language n a f))
association_by language n (Some i) a f = g_then _ (formal_gives i) (g_map (λ x. record { formal = Some i; actual = x }) (actual_ends language n a f)) (λ next _. tt)

association_gives : (language : Language) (n : ℕ) (a : Association) → IsAssociationIn language a → Gives (association language n) a (spell_association a) EndsActual
association_gives language n a f = association_by language n a.formal a.actual f

pub associations_gives : (language : Language) (n : ℕ) (all : List Association) → AreAssociationsIn language all → Gives (associations language n) all (spell_associations all) (λ next. (is_kind k.Comma next ≡ false) × EndsActual next)
unfolding same_kind
associations_gives language n all f = separated_gives k.Comma refl (refl, omega arith) (association_gives language n) all f
