-- What the readers of expressions make.
use Rattle.std.proofs.Common.{◌≡◌, ℕ, zero, suc, ◌≤◌, Bool, true, false, List, ◌∷◌, ◌++◌, length, Ok, Option, Some, None, inr, refl, sym, ap, ◌∙◌, subst, append_assoc, append-nil, arith}
use Rattle.vhdl_lexer.specs.declared.language.Language.{Language}
use Rattle.vhdl_lexer.specs.declared.token.TokenKind.{TokenKind}
use Rattle.vhdl_tree.specs.declared.operator.Operator.{Operator}
use Rattle.vhdl_tree.specs.declared.operator.Operator.TheVariants.{And}
use Rattle.vhdl_parser_expressions.specs.declared.operator.Level.{Level}
use Rattle.vhdl_parser_expressions.specs.declared.operator.Level.TheVariants.{Logical, Relation, Adding, Multiplying}
use Rattle.vhdl_tree.specs.declared.operator.Sign.{Sign}
use Rattle.vhdl_tree.specs.declared.operator.Sign.TheVariants.{Plus, Minus}
use Rattle.vhdl_tree.specs.Tree.{Expr, binary, Pair, joined, begun}
use Rattle.vhdl_tree.specs.Pieces.{Piece, one_at}
use Rattle.vhdl_tree.specs.grammar.Expressions.{kind_of, sign_kind, spell, spell_name, rank, binding, Leads, IsExprIn, IsNameIn}
use Rattle.vhdl_parser_expressions.specs.reader.Input.{Parser}
use Rattle.vhdl_parser_expressions.specs.reader.Expressions as read
use Rattle.vhdl_parser_expressions.specs.reader.Expressions.{operator_at, next_operator, sign_at, name, factor, pair, turn, more_from, more, begin_by, begin, leading_by, leading, chain, term, sum, relation, whole, inside, inner}
use Rattle.vhdl_parser_expressions.proofs.Operators.{level_rank, first_is, next_is, Begins, begins_tight, Fits, fits_after}
use Rattle.vhdl_parser_expressions.proofs.Chained.{steady_chain}
use Rattle.vhdl_parser_expressions.proofs.SteadyPowers.{steady_term}
use Rattle.vhdl_parser_expressions.proofs.Walks.{Makes, made, walks, Rule, afresh, w_pure, w_then, w_weaken, m_pure, m_then, m_weaken, m_before}
use Rattle.vhdl_parser_expressions.proofs.Rules.{is_neutral, w_at, w_choose, m_at, m_choose, under, under_none}
use Rattle.vhdl_parser_expressions.proofs.WalkNames.{Tight, name_rule}
use Rattle.vhdl_parser_expressions.proofs.WalkPowers.{factor_makes, factor_nearly}
pub use Rattle.vhdl_parser_expressions.proofs.WalkElements.{number}

operator_neutral : (op : Operator) → is_neutral (kind_of op) ≡ true
operator_neutral And = refl
operator_neutral _ = refl

sign_neutral : (sign : Sign) → is_neutral (sign_kind sign) ≡ true
sign_neutral Plus = refl
sign_neutral Minus = refl

-- one that an operator of the level may follow
abbrev First : Language → Level → Expr → Type 0
First language level e = (level_rank level ≤ binding e) × IsExprIn language e × Begins level e

-- what binds tighter than a level may stand first in it
tight_first : (language : Language) (level : Level) (e : Expr) → Tight language (suc (level_rank level)) e → First language level e
tight_first language level e good = (omega (arith, good.0), good.1, begins_tight level e (omega (arith, good.0)))

abbrev spell_pair : Pair → List Piece
spell_pair p = one_at (kind_of p.operator) p.at ∷ spell p.operand

-- ---- chains

module _ (language : Language) (n : ℕ) (level : Level) (operand : Parser Expr) (each : Makes n 0 false 0 afresh operand spell (Tight language (suc (level_rank level)))) where
  pair_makes : (op : Operator) → Makes n 0 false 0 afresh (pair operand op) spell_pair (λ p. (p.operator ≡ op) × Tight language (suc (level_rank level)) p.operand)
  unfolding pair
  pair_makes op = m_at (kind_of op) (operator_neutral op) (λ at. m_then each (λ e good _. m_pure (omega arith) (ap (λ ps. one_at (kind_of op) at ∷ ps) (sym (append-nil (spell e)))) (refl, good)))

  -- how the rest of a chain is read, of which a tree was read
  abbrev Goes : Parser Expr → Expr → Type 0
  Goes p left = Makes n 0 false 0 (λ r. spell left ++ r) p spell (Tight language (level_rank level))

  abbrev More : ℕ → Type 0
  More turns = (last : Operator) (left : Expr) → Tight language (level_rank level) left → Fits level last left → Goes (more_from operand turns level last left) left

  stops : (left : Expr) → Tight language (level_rank level) left → Goes (λ ts. Ok (left, ts)) left
  stops left good = m_pure (omega arith) (sym (append-nil (spell left))) good

  -- a tree with one operator and operand more
  longer : (b : Bool) (left : Expr) (op : Operator) (p : Pair) → rank op ≡ level_rank level → Leads b op left → IsExprIn language left → p.operator ≡ op → Tight language (suc (level_rank level)) p.operand →
      let e = binary b p.operator p.at left p.operand in Tight language (level_rank level) e × Fits level op e
  longer b left op p r leads good same right =
      let s : rank p.operator ≡ level_rank level = ap rank same ∙ r in (
        (omega (arith, s), (subst (λ o. Leads b o left) (sym same) leads, omega (arith, s, right.0), good, right.1)),
        subst (λ o. Fits level o (binary b p.operator p.at left p.operand)) same (fits_after level b p.operator p.at left p.operand s),
      )

  turn_makes : (turns : ℕ) → More turns → (next : Option TokenKind) (last : Operator) (left : Expr) → Tight language (level_rank level) left → Fits level last left →
      (o : Option Operator) → next_operator level last next ≡ o → Goes (turn operand o (more_from operand turns level) left) left
  turn_makes turns later next last left good fits None h = stops left good
  turn_makes turns later next last left good fits (Some op) h = m_then (pair_makes op) (λ p made _.
      let j = longer false left op p (next_is level last next op h).rank_is (fits next op h) good.1 made.0 made.1 in
      m_before (λ ps. append_assoc (spell left) (spell_pair p) ps) (later op (joined left p) j.0 j.1))

  more_makes : (turns : ℕ) → More turns
  unfolding more_from
  more_makes zero last left good fits = stops left good
  more_makes (suc turns) last left good fits = m_choose (λ next. turn_makes turns (more_makes turns) next last left good fits (next_operator level last next) refl)

  all_makes : (last : Operator) (left : Expr) → Tight language (level_rank level) left → Fits level last left → Goes (more operand level last left) left
  unfolding more
  all_makes last left good fits = record {
    reads = λ ts b rest h. (more_makes (length ts) last left good fits).reads ts b rest h;
    deep = λ ts at h. (more_makes (length ts) last left good fits).deep ts at h;
    example = (stops left good).example;
    stuck = λ le ts why at h met. (more_makes (length ts) last left good fits).stuck le ts why at h met;
  }

  begin_makes : (next : Option TokenKind) (first : Expr) → First language level first → (o : Option Operator) → operator_at level next ≡ o → Goes (begin_by operand level first o) first
  begin_makes next first good None h = stops first (good.0, good.1)
  begin_makes next first good (Some op) h = m_then (pair_makes op) (λ p made _.
      let r = (first_is level next op h).rank_is in
      let j = longer true first op p r (good.2 op r) good.1 made.0 made.1 in
      m_before (λ ps. append_assoc (spell first) (spell_pair p) ps) (all_makes op (begun first p) j.0 j.1))

  chain_makes : (first : Parser Expr) → Makes n 0 false 0 afresh first spell (First language level) → Makes n 0 false 0 afresh (chain first operand level) spell (Tight language (level_rank level))
  unfolding begin
  chain_makes first leads = m_then leads (λ left good _. m_choose (λ next. begin_makes next left good (operator_at level next) refl))

-- a chain of steady operands
chain_rule : (language : Language) (n : ℕ) (level : Level) (operand : Parser Expr) → Rule n 0 operand spell (Tight language (suc (level_rank level))) → (first : Parser Expr) → Rule n 0 first spell (First language level) →
    Rule n 0 (chain first operand level) spell (Tight language (level_rank level))
chain_rule language n level operand each first leads = walks (chain_makes language n level operand (made each) first (made leads)) (steady_chain each.steady level leads.steady)

-- ---- from level to level

module _ (language : Language) (n : ℕ) (within : Rule n 1 (inside language n) spell (IsExprIn language)) where
  term_rule : Rule n 0 (term (inner language n)) spell (Tight language 4)
  term_rule = walks
      (chain_makes language n Multiplying (factor (inner language n)) (factor_makes language n within) (factor (inner language n)) (m_weaken (tight_first language Multiplying) (factor_makes language n within)))
      (steady_term (factor_nearly language n within) (factor (inner language n)) (factor_nearly language n within))

  leading_next : (sign : Option Sign) → Rule n 0 (leading_by (term (inner language n)) sign) spell (First language Adding)
  leading_next None = w_weaken (tight_first language Adding) term_rule
  leading_next (Some sign) = w_at (sign_kind sign) (sign_neutral sign) (λ at. w_then term_rule (λ e good _.
      w_pure (omega arith) (ap (λ ps. one_at (sign_kind sign) at ∷ ps) (sym (append-nil (spell e)))) (omega arith, (omega (arith, good.0), good.1), λ op r. inr r)))

  leading_rule : Rule n 0 (leading (term (inner language n))) spell (First language Adding)
  unfolding leading
  leading_rule = w_choose (λ next. leading_next (sign_at next))

  sum_rule : Rule n 0 (sum (inner language n)) spell (Tight language 3)
  sum_rule = chain_rule language n Adding (term (inner language n)) term_rule (leading (term (inner language n))) leading_rule

  relation_rule : Rule n 0 (relation (inner language n)) spell (Tight language 2)
  relation_rule = chain_rule language n Relation (sum (inner language n)) sum_rule (sum (inner language n)) (w_weaken (tight_first language Relation) sum_rule)

  whole_rule : Rule n 0 (whole (inner language n)) spell (IsExprIn language)
  whole_rule = w_weaken (λ e good. good.1) (chain_rule language n Logical (relation (inner language n)) relation_rule (relation (inner language n)) (w_weaken (tight_first language Logical) relation_rule))

pub inside_rule : (language : Language) (n : ℕ) → Rule n 1 (inside language n) spell (IsExprIn language)
unfolding inside
inside_rule language zero = under_none
inside_rule language (suc m) = under refl (whole_rule language m (inside_rule language m))

-- an expression
pub expr_rule : (language : Language) (n : ℕ) → Rule n 0 (read.expr language n) spell (IsExprIn language)
expr_rule language n = whole_rule language n (inside_rule language n)

-- a name
pub a_name_rule : (language : Language) (n : ℕ) → Rule n 0 (name (inner language n)) spell_name (IsNameIn language)
a_name_rule language n = name_rule language n (inside_rule language n)
