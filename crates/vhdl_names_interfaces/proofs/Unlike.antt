-- Expressions of two forms are not the same text.
use Rattle.std.proofs.Common.{◌≡◌, ℕ, false, Vec, Box, Global, refl, ap}
use Rattle.vhdl_tree.specs.declared.operator.Sign.{Sign}
use Rattle.vhdl_tree.specs.declared.expression.Identifier.{Identifier}
use Rattle.vhdl_tree.specs.declared.expression.Literal.{Literal}
use Rattle.vhdl_tree.specs.declared.expression.Name.{Name}
use Rattle.vhdl_tree.specs.declared.expression.Power.{Power}
use Rattle.vhdl_tree.specs.declared.expression.Chain.{Chain}
use Rattle.vhdl_tree.specs.declared.expression.Element.{Element}
use Rattle.vhdl_tree.specs.declared.expression.Choice.TheBlock.{shown-the_row-Element-1}
use Rattle.vhdl_tree.specs.declared.expression.Expr.{Expr, roll-Expr, roll-out-Expr}
use Rattle.vhdl_tree.specs.declared.expression.Expr.TheVariants as x
use Rattle.vhdl_tree.specs.declared.expression.Expr.TheVariants.{outs-Aggregate', outs-Qualified', rolls-Aggregate, rolls-Qualified}
use Rattle.vhdl_tree.specs.View.{view}
use Rattle.vhdl_names_rules.specs.SameText.{same_expr}
use Rattle.vhdl_names_interfaces.proofs.Chained.{before_chain, behind_chain}

-- each form against all others

pub integer_unlike : (l : Literal) (b : Expr) → ((l : Literal) → b ≡ x.Integer l → ⊥) → false ≡ same_expr (view (x.Integer l)) (view b)
integer_unlike l (x.Integer m) other = absurd (other m refl)
integer_unlike l (x.Chain' p links) other = before_chain links (view (x.Integer l)) refl
integer_unlike l b other = refl

pub character_unlike : (at : ℕ) (code : ℕ) (b : Expr) → ((at : ℕ) (code : ℕ) → b ≡ x.Character at code → ⊥) → false ≡ same_expr (view (x.Character at code)) (view b)
character_unlike at code (x.Character place other_code) other = absurd (other place other_code refl)
character_unlike at code (x.Chain' p links) other = before_chain links (view (x.Character at code)) refl
character_unlike at code b other = refl

pub string_unlike : (l : Literal) (b : Expr) → ((l : Literal) → b ≡ x.StringLiteral l → ⊥) → false ≡ same_expr (view (x.StringLiteral l)) (view b)
string_unlike l (x.StringLiteral m) other = absurd (other m refl)
string_unlike l (x.Chain' p links) other = before_chain links (view (x.StringLiteral l)) refl
string_unlike l b other = refl

pub bits_unlike : (l : Literal) (b : Expr) → ((l : Literal) → b ≡ x.BitString l → ⊥) → false ≡ same_expr (view (x.BitString l)) (view b)
bits_unlike l (x.BitString m) other = absurd (other m refl)
bits_unlike l (x.Chain' p links) other = before_chain links (view (x.BitString l)) refl
bits_unlike l b other = refl

pub name_unlike : (n : Name) (b : Expr) → ((n : Name) → b ≡ x.Name n → ⊥) → false ≡ same_expr (view (x.Name n)) (view b)
name_unlike n (x.Name' identifier suffix attribute) other = absurd (other (record { identifier = identifier; suffix = suffix; attribute = attribute }) refl)
name_unlike n (x.Chain' p links) other = before_chain links (view (x.Name n)) refl
name_unlike n b other = refl

pub parens_unlike : (at : ℕ) (inner : Box Expr Global) (b : Expr) → ((at : ℕ) (inner : Box Expr Global) → b ≡ x.Parens at inner → ⊥) → false ≡ same_expr (view (x.Parens at inner)) (view b)
parens_unlike at inner (x.Parens' place p e) other = absurd (other place (record { ptr = p.ptr; alloc = p.alloc; value = e }) refl)
parens_unlike at inner (x.Chain' p links) other = before_chain links (view (x.Parens at inner)) refl
parens_unlike at inner b other = refl

pub negation_unlike : (at : ℕ) (operand : Box Expr Global) (b : Expr) → ((at : ℕ) (operand : Box Expr Global) → b ≡ x.Not at operand → ⊥) → false ≡ same_expr (view (x.Not at operand)) (view b)
negation_unlike at operand (x.Not' place p e) other = absurd (other place (record { ptr = p.ptr; alloc = p.alloc; value = e }) refl)
negation_unlike at operand (x.Chain' p links) other = before_chain links (view (x.Not at operand)) refl
negation_unlike at operand b other = refl

pub absolute_unlike : (at : ℕ) (operand : Box Expr Global) (b : Expr) → ((at : ℕ) (operand : Box Expr Global) → b ≡ x.Abs at operand → ⊥) → false ≡ same_expr (view (x.Abs at operand)) (view b)
absolute_unlike at operand (x.Abs' place p e) other = absurd (other place (record { ptr = p.ptr; alloc = p.alloc; value = e }) refl)
absolute_unlike at operand (x.Chain' p links) other = before_chain links (view (x.Abs at operand)) refl
absolute_unlike at operand b other = refl

pub power_unlike : (power : Box Power Global) (b : Expr) → ((power : Box Power Global) → b ≡ x.Power power → ⊥) → false ≡ same_expr (view (x.Power power)) (view b)
power_unlike power (x.Power' p base place exponent) other = absurd (other (record { ptr = p.ptr; alloc = p.alloc; value = record { base = base; at = place; exponent = exponent } }) refl)
power_unlike power (x.Chain' p links) other = before_chain links (view (x.Power power)) refl
power_unlike power b other = refl

pub sign_unlike : (sign : Sign) (at : ℕ) (operand : Box Expr Global) (b : Expr) → ((sign : Sign) (at : ℕ) (operand : Box Expr Global) → b ≡ x.Signed sign at operand → ⊥) → false ≡ same_expr (view (x.Signed sign at operand)) (view b)
sign_unlike sign at operand (x.Signed' mark place p e) other = absurd (other mark place (record { ptr = p.ptr; alloc = p.alloc; value = e }) refl)
sign_unlike sign at operand (x.Chain' p links) other = before_chain links (view (x.Signed sign at operand)) refl
sign_unlike sign at operand b other = refl

pub chain_unlike : (chain : Box Chain Global) (b : Expr) → ((chain : Box Chain Global) → b ≡ x.Chain chain → ⊥) → false ≡ same_expr (view (x.Chain chain)) (view b)
chain_unlike chain (x.Chain' p links) other = absurd (other (record { ptr = p.ptr; alloc = p.alloc; value = links }) refl)
chain_unlike chain b other = behind_chain chain.value (view b) refl

pub aggregate_unlike : (at : ℕ) (elements : Vec Element Global) (b : Expr) → ((at : ℕ) (elements : Vec Element Global) → b ≡ x.Aggregate at elements → ⊥) → false ≡ same_expr (view (x.Aggregate at elements)) (view b)
aggregate_unlike at elements (x.Aggregate' place shape row) other =
    let v = shown-the_row-Element-1 shape row in
    absurd (other place v (cc (roll-out-Expr (x.Aggregate' place shape row), ap roll-Expr (outs-Aggregate' place shape row), rolls-Aggregate place v)))
aggregate_unlike at elements (x.Chain' p links) other = before_chain links (view (x.Aggregate at elements)) refl
aggregate_unlike at elements b other = refl

pub qualified_unlike : (mark : Identifier) (at : ℕ) (elements : Vec Element Global) (b : Expr) → ((mark : Identifier) (at : ℕ) (elements : Vec Element Global) → b ≡ x.Qualified mark at elements → ⊥) → false ≡ same_expr (view (x.Qualified mark at elements)) (view b)
qualified_unlike mark at elements (x.Qualified' name place shape row) other =
    let v = shown-the_row-Element-1 shape row in
    absurd (other name place v (cc (roll-out-Expr (x.Qualified' name place shape row), ap roll-Expr (outs-Qualified' name place shape row), rolls-Qualified name place v)))
qualified_unlike mark at elements (x.Chain' p links) other = before_chain links (view (x.Qualified mark at elements)) refl
qualified_unlike mark at elements b other = refl
