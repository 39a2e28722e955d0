-- What chains of operators are not: operands in parentheses, names and literals; and choices, name by name.
use Rattle.std.proofs.Common.{◌≡◌, ℕ, Bool, true, false, true≢false, List, [], ◌∷◌, map, length, get_or, Option, Some, None, Box, Vec, Global, refl, sym, ap, ◌∙◌, arith}
use Rattle.std.specs.Prelude.{option_map}
use Rattle.vhdl_tree.specs.Tree as t
use Rattle.vhdl_tree.specs.Tree.{Pair, exprs_of, all_joined}
use Rattle.vhdl_tree.specs.View.{view, pair_view, chain_view}
use Rattle.vhdl_tree.specs.declared.expression.Expr.{Expr, roll-Expr, roll-out-Expr}
use Rattle.vhdl_tree.specs.declared.expression.Expr.TheVariants as x
use Rattle.vhdl_tree.specs.declared.expression.Expr.TheVariants.{outs-Qualified', rolls-Qualified}
use Rattle.vhdl_tree.specs.declared.expression.Choice.TheBlock.{shown-the_row-Element-1}
use Rattle.vhdl_tree.specs.declared.expression.Element as d
use Rattle.vhdl_tree.specs.declared.expression.Identifier.{Identifier}
use Rattle.vhdl_tree.specs.declared.expression.Name.{Name}
use Rattle.vhdl_tree.specs.declared.expression.Chain.{Chain, out-Chain}
use Rattle.vhdl_tree.specs.declared.operator.Operator.{Operator}
use Rattle.vhdl_tree.proofs.Rows.{chain_is}
use Rattle.vhdl_names_rules.specs.declared.kind.ElementKind.{ElementKind}
use Rattle.vhdl_names_rules.specs.declared.kind.ElementKind.TheVariants.{Element}
use Rattle.vhdl_names_rules.specs.Expressions.{is_one_name}
use Rattle.vhdl_names_rules.specs.Operators.{is_vector}
use Rattle.vhdl_tree.specs.declared.expression.Suffix as f
use Rattle.vhdl_tree.specs.declared.expression.Suffix.TheVariants as s
use Rattle.vhdl_tree.specs.View.{suffix_view, choice_view}
use Rattle.vhdl_tree.specs.declared.expression.Choice as h
use Rattle.vhdl_tree.proofs.Rows.{view_arguments}
use Rattle.vhdl_names_rules.specs.declared.kind.ObjectType.{ObjectType}
use Rattle.vhdl_names_rules.specs.declared.kind.ObjectType.TheVariants.{Elements}
use Rattle.vhdl_names_rules.specs.units.Statements.{Choice}
use Rattle.vhdl_names_rules.specs.Rules.{◌>>=◌, ◌>>◌, met, each}
use Rattle.vhdl_names_rules.specs.Visibility as visibility
use Rattle.vhdl_names_rules.specs.Visibility.{Sight}
use Rattle.vhdl_names_rules.specs.Literals.{values_of_string, values_of_bits}
use Rattle.vhdl_names_rules.specs.Subtypes.{literal_values}
use Rattle.vhdl_names_rules.specs.Choices as c
use Rattle.vhdl_names_rules.specs.Instances.{as_name}
use Rattle.vhdl_names_expressions.specs.Chosen.{is_name, is_bare, is_literal, as_character, character_values}
use Rattle.vhdl_names_expressions.specs.Steps.{is_parens}

-- what holds of each binary operation holds of a chain
chain_as : {A : Type 0} (f : t.Expr → A) (a : A) → ((b : Bool) (op : Operator) (at : ℕ) (d e : t.Expr) → f (t.binary b op at d e) ≡ a) →
    (b : Bool) (op : Operator) (at : ℕ) (d e : t.Expr) (ps : List Pair) → f (all_joined (t.binary b op at d e) ps) ≡ a
chain_as f a each b op at d e [] = each b op at d e
chain_as f a each b op at d e (p ∷ ps) = chain_as f a each false p.operator p.at (t.binary b op at d e) p.operand ps

chain_is_as : {A : Type 0} (f : t.Expr → A) (a : A) → ((b : Bool) (op : Operator) (at : ℕ) (d e : t.Expr) → f (t.binary b op at d e) ≡ a) → (chain : Chain) → a ≡ f (chain_view chain)
chain_is_as f a each chain =
    let c = out-Chain chain in
    sym (ap f (chain_is chain) ∙ chain_as f a each true c.second.operator c.second.at (view c.first) (view c.second.operand) (map pair_view c.rest.items))

chain_is_no_parens : (chain : Chain) → false ≡ is_parens (chain_view chain)
chain_is_no_parens = chain_is_as is_parens false (λ b op at d e. refl)

chain_is_no_name : (chain : Chain) → false ≡ is_name (chain_view chain)
chain_is_no_name = chain_is_as is_name false (λ b op at d e. refl)

chain_has_no_name : (chain : Chain) → None ≡ as_name (chain_view chain)
chain_has_no_name = chain_is_as as_name None (λ b op at d e. refl)

pub chain_is_no_character : (chain : Chain) → None ≡ as_character (chain_view chain)
chain_is_no_character = chain_is_as as_character None (λ b op at d e. refl)

pub chain_is_no_literal : (e : Expr) (chain : Box Chain Global) → e ≡ x.Chain chain → is_literal (view e) ≡ false
chain_is_no_literal e chain is = ap (λ y. is_literal (view y)) is ∙ sym (chain_is_as is_literal false (λ b op at d e. refl) chain.value)

-- ---- what has no parentheses, and what is no name

pub no_parens : (e : Expr) → ((at : ℕ) (inner : Box Expr Global) → e ≡ x.Parens at inner → ⊥) → ((mark : Identifier) (at : ℕ) (elements : Vec d.Element Global) → e ≡ x.Qualified mark at elements → ⊥) →
    false ≡ is_parens (view e)
no_parens (x.Parens' at p inner) parens qualified = absurd (parens at (record { ptr = p.ptr; alloc = p.alloc; value = inner }) refl)
no_parens (x.Qualified' mark at shape row) parens qualified =
    let v = shown-the_row-Element-1 shape row in
    absurd (qualified mark at v (cc (roll-out-Expr (x.Qualified' mark at shape row), ap roll-Expr (outs-Qualified' mark at shape row), rolls-Qualified mark at v)))
no_parens (x.Chain' p chain) parens qualified = chain_is_no_parens chain
no_parens e parens qualified = refl

pub no_name : (e : Expr) → ((n : Name) → e ≡ x.Name n → ⊥) → None ≡ as_name (view e)
no_name (x.Name' identifier suffix attribute) other = absurd (other (record { identifier = identifier; suffix = suffix; attribute = attribute }) refl)
no_name (x.Chain' p chain) other = chain_has_no_name chain
no_name e other = refl

pub no_bare_name : (e : Expr) → ((n : Name) → e ≡ x.Name n → ⊥) → false ≡ is_name (view e)
no_bare_name (x.Name' identifier suffix attribute) other = absurd (other (record { identifier = identifier; suffix = suffix; attribute = attribute }) refl)
no_bare_name (x.Chain' p chain) other = chain_is_no_name chain
no_bare_name e other = refl

-- ---- arguments that are one name

pub one_name : (e : t.Expr) → is_one_name (t.expr e t.no_exprs) ≡ is_name e
one_name (t.named n s None) = refl
one_name e = refl

pub more_names : (d e : t.Expr) (es : t.Exprs) → is_one_name (t.expr d (t.expr e es)) ≡ false
more_names (t.named n s None) e es = refl
more_names d e es = refl

-- arguments that are not one alone are not one name
pub not_one : (es : List Expr) → (length es ≡ 1 → ⊥) → is_one_name (exprs_of (map view es)) ≡ false
not_one [] h = refl
not_one (d ∷ []) h = absurd (h refl)
not_one (d ∷ e ∷ es) h = more_names (view d) (view e) (exprs_of (map view es))

pub just_one : (es : List Expr) (e : Expr) → length es ≡ 1 → e ≡ get_or es 0 e → is_one_name (exprs_of (map view es)) ≡ is_name (view e)
just_one [] e h is = absurd (omega arith)
just_one (d ∷ []) e h is = one_name (view d) ∙ ap (λ y. is_name (view y)) (sym is)
just_one (d ∷ d' ∷ es) e h is = absurd (omega arith)

-- ---- expressions that are one name

is_named : (e : t.Expr) (n : t.Name) → Some n ≡ as_name e → e ≡ t.named n.identifier n.suffix n.attribute
is_named (t.named x y a) n h = cc
is_named e n h = cc

module _ {R : Type 0} (see : R → t.Name) (o : Option R) (e : t.Expr) (h : option_map see o ≡ as_name e) where
  pub named_as : (r : R) → o ≡ Some r → e ≡ t.named (see r).identifier (see r).suffix (see r).attribute
  named_as r is = is_named e (see r) (sym (ap (option_map see) is) ∙ h)

  pub unnamed_as : o ≡ None → None ≡ as_name e
  unnamed_as is = sym (ap (option_map see) is) ∙ h

-- ---- literals, kind by kind

pub literal_character : (k : ElementKind) (at c : ℕ) → literal_values k (t.character at c) ≡ character_values k c
literal_character Element at c = refl
literal_character k at c = refl

pub literal_string : (k : ElementKind) (at : ℕ) (text : List ℕ) → literal_values k (t.string at text) ≡ (met (is_vector k) >> values_of_string text)
literal_string Element at text = refl
literal_string k at text = refl

pub literal_bits : (k : ElementKind) (at : ℕ) (text : List ℕ) → literal_values k (t.bits at text) ≡ (met (is_vector k) >> values_of_bits text)
literal_bits Element at text = refl
literal_bits k at text = refl

pub no_literal : (k : ElementKind) (e : t.Expr) → is_literal e ≡ false → literal_values k e ≡ None
no_literal k (t.character at c) h = absurd (true≢false h)
no_literal k (t.string at s) h = absurd (true≢false h)
no_literal k (t.bits at s) h = absurd (true≢false h)
no_literal Element e h = refl
no_literal k e h = refl

pub ruleset literal_forms = (literal_character, literal_string, literal_bits, no_literal, chain_is_no_literal)

-- ---- names as choices

pub arguments_not_bare : (y : f.Suffix) (all : Vec Expr Global) (a : Option t.Attribute) → y ≡ s.Arguments all → is_bare (suffix_view y) a ≡ false
arguments_not_bare y all a is = ap (λ z. is_bare (suffix_view z) a) is ∙ ap (λ z. is_bare z a) (view_arguments all)

none_after : {A B : Type 0} (o : Option A) (f : A → Option B) → (o >>= λ d. (met false >> f d)) ≡ None
none_after None f = refl
none_after (Some d) f = refl

-- a name is no literal
name_unchosen : (type : ObjectType) (n : t.Ident) (y : t.Suffix) (a : Option t.Attribute) → c.literal_choice type (t.named n y a) ≡ None
name_unchosen (Elements k) n y a = ap (option_map Choice.values) (no_literal k (t.named n y a) refl)
name_unchosen type n y a = refl

-- a name whose identifier comes first
pub chosen_named : (sight : Sight) (type : ObjectType) (n : t.Ident) (y : t.Suffix) (a : Option t.Attribute) →
    c.chosen sight type (t.named n y a) ≡ (visibility.meaning sight n.text >>= λ d. (met (is_bare y a) >> c.named_choice type d))
chosen_named sight type n t.plain None = refl
chosen_named sight type n t.plain (Some a) = name_unchosen type n t.plain (Some a) ∙ sym (none_after (visibility.meaning sight n.text) (c.named_choice type))
chosen_named sight type n (t.arguments es) a = name_unchosen type n (t.arguments es) a ∙ sym (none_after (visibility.meaning sight n.text) (c.named_choice type))
chosen_named sight type n (t.sliced d w e) a = name_unchosen type n (t.sliced d w e) a ∙ sym (none_after (visibility.meaning sight n.text) (c.named_choice type))

-- what is no name is chosen as a literal
pub chosen_literal : (sight : Sight) (type : ObjectType) (e : t.Expr) → None ≡ as_name e → c.chosen sight type e ≡ c.literal_choice type e
chosen_literal sight type (t.named n y a) h = cc
chosen_literal sight type e h = refl

-- ---- others

more_choices : (x y : t.Choice) (cs : List t.Choice) → c.is_others (x ∷ y ∷ cs) ≡ false
more_choices (t.chosen e) y cs = refl
more_choices (t.chosen_range d w e) y cs = refl
more_choices (t.otherwise at) y cs = refl

pub not_others : (cs : List h.Choice) → (length cs ≡ 1 → ⊥) → c.is_others (map choice_view cs) ≡ false
not_others [] h = refl
not_others (x ∷ []) h = absurd (h refl)
not_others (x ∷ y ∷ cs) h = more_choices (choice_view x) (choice_view y) (map choice_view cs)

pub just_others : (cs : List h.Choice) (x : h.Choice) → length cs ≡ 1 → x ≡ get_or cs 0 x → c.is_others (map choice_view cs) ≡ c.is_others (choice_view x ∷ [])
just_others [] x h is = absurd (omega arith)
just_others (y ∷ []) x h is = ap (λ z. c.is_others (choice_view z ∷ [])) (sym is)
just_others (y ∷ z ∷ cs) x h is = absurd (omega arith)

pub choices_others : (sight : Sight) (type : ObjectType) (cs : List t.Choice) → c.is_others cs ≡ true → c.choices sight type cs ≡ Some []
choices_others sight type (t.otherwise at ∷ []) h = refl
choices_others sight type cs h = absurd (true≢false (sym h))

pub choices_each : (sight : Sight) (type : ObjectType) (cs : List t.Choice) → c.is_others cs ≡ false → c.choices sight type cs ≡ each (c.choice sight type) cs
choices_each sight type (t.otherwise at ∷ []) h = absurd (true≢false h)
choices_each sight type cs h = refl
