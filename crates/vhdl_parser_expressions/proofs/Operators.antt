-- Operators by level, and what may follow what.
use Rattle.std.proofs.Common.{◌≡◌, ℕ, ◌==◌, ◌≤◌, ◌<◌, Bool, true, false, cond, List, [], ◌∷◌, Option, Some, None, inl, inr, ⊎_elim, refl, sym, ap, ◌∙◌, subst, rules, arith}
use Rattle.std.specs.Prelude.{if◌then◌else◌}
use denote.Enum.Bare.{sameb, same_true, true_same}
use Rattle.vhdl_lexer.specs.Kinds.{is_one_of}
use Rattle.vhdl_lexer.specs.declared.token.TokenKind.{TokenKind}
use Rattle.vhdl_lexer.specs.declared.token.TokenKind.TheVariants as k
use Rattle.vhdl_lexer.specs.contracts.token.TokenKind.{the_type}
use Rattle.vhdl_tree.specs.declared.operator.Operator.{Operator}
use Rattle.vhdl_tree.specs.declared.operator.Operator.TheVariants.{And, Or, Xor, Xnor, Nand, Nor, Equal, NotEqual, Less, LessEqual, Greater, GreaterEqual, Add, Subtract, Concatenate, Multiply, Divide, Modulo, Remainder}
use Rattle.vhdl_parser_expressions.specs.declared.operator.Level.{Level}
use Rattle.vhdl_parser_expressions.specs.declared.operator.Level.TheVariants.{Logical, Relation, Adding, Multiplying}
use Rattle.vhdl_tree.specs.Lexeme.{same_kind}
use Rattle.vhdl_tree.specs.Tree.{Expr, signed, binary}
use Rattle.vhdl_tree.specs.grammar.Expressions.{kind_of, token_rank, rank, repeats, binding, Chains, GoesOn, IsSigned, Leads}
use Rattle.vhdl_parser_expressions.specs.reader.Input.{is_kind}
use Rattle.vhdl_parser_expressions.specs.reader.Expressions.{operator_among, operator_at, next_operator}

abbrev pub level_rank : Level → ℕ
level_rank Logical = 1
level_rank Relation = 2
level_rank Adding = 3
level_rank Multiplying = 4

-- How tightly a token goes on with the expression before it: not at all 0, as an operator by its rank, and as a name's suffix or attribute 7.
abbrev pub grip : Option TokenKind → ℕ
grip None = 0
grip (Some kind) = if is_one_of (k.LeftParen ∷ k.Tick ∷ []) kind then 7 else token_rank kind

pub grip-kind_of : (op : Operator) → grip (Some (kind_of op)) ≡ rank op
grip-kind_of And = refl
grip-kind_of _ = refl

abbrev pub level_of : Operator → Level
level_of op = if rank op == 1 then Logical else if rank op == 2 then Relation else if rank op == 3 then Adding else Multiplying

pub rank-level_of : (op : Operator) → rank op ≡ level_rank (level_of op)
rank-level_of And = refl
rank-level_of _ = refl

level_most : (level : Level) → level_rank level ≤ 4
level_most Logical = omega arith
level_most _ = omega arith

level_least : (level : Level) → 1 ≤ level_rank level
level_least Logical = omega arith
level_least _ = omega arith

pub rank_most : (op : Operator) → rank op ≤ 4
rank_most op = omega (arith, rank-level_of op, level_most (level_of op))

pub binding_least : (e : Expr) → 1 ≤ binding e
binding_least (binary b op at left right) = omega (arith, rank-level_of op, level_least (level_of op))
binding_least _ = omega arith

-- the token is this operator, which is of this level
pub record At (level : Level) (next : Option TokenKind) (op : Operator) : Type 0 where
  pub kind_is : next ≡ Some (kind_of op)
  pub rank_is : rank op ≡ level_rank level

row : (level : Level) (next : Option TokenKind) (found op : Operator) → ◌≡◌ {A = Option Operator} (Some found) (Some op) → next ≡ Some (kind_of found) → rank found ≡ level_rank level → At level next op
row level next found op h e r = let same : found ≡ op = cc in subst (At level next) same (record { kind_is = e; rank_is = r })

-- the operators are of this level
abbrev AreRanked : Level → List Operator → Type 0
AreRanked level [] = Unit {0}
AreRanked level (o ∷ operators) = (rank o ≡ level_rank level) × AreRanked level operators

chosen : (level : Level) (kind : TokenKind) (o op : Operator) (others : Option Operator) (b : Bool) → sameb the_type kind (kind_of o) ≡ b → rank o ≡ level_rank level → (others ≡ Some op → At level (Some kind) op)
    → ◌≡◌ {A = Option Operator} (cond b (Some o) others) (Some op) → At level (Some kind) op
chosen level kind o op others true same ranked later h = row level (Some kind) o op h (ap Some (same_true the_type (search rules) kind (kind_of o) same)) ranked
chosen level kind o op others false same ranked later h = later h

among_is : (level : Level) (operators : List Operator) → AreRanked level operators → (next : Option TokenKind) (op : Operator) → operator_among operators next ≡ Some op → At level next op
among_is level operators ranked None op h = absurd (cc)
among_is level [] ranked (Some kind) op h = absurd (cc)
among_is level (o ∷ operators) ranked (Some kind) op h =
    chosen level kind o op (operator_among operators (Some kind)) (sameb the_type kind (kind_of o)) refl ranked.0 (λ g. among_is level operators ranked.1 (Some kind) op g) h

-- what a chain begins with is an operator of its level
pub first_is : (level : Level) (next : Option TokenKind) (op : Operator) → operator_at level next ≡ Some op → At level next op
first_is Logical next op h = among_is Logical (And ∷ Or ∷ Xor ∷ Xnor ∷ Nand ∷ Nor ∷ []) (refl, (refl, (refl, (refl, (refl, (refl, tt)))))) next op h
first_is Relation next op h = among_is Relation (Equal ∷ NotEqual ∷ Less ∷ LessEqual ∷ Greater ∷ GreaterEqual ∷ []) (refl, (refl, (refl, (refl, (refl, (refl, tt)))))) next op h
first_is Adding next op h = among_is Adding (Add ∷ Subtract ∷ Concatenate ∷ []) (refl, (refl, (refl, tt))) next op h
first_is Multiplying next op h = among_is Multiplying (Multiply ∷ Divide ∷ Modulo ∷ Remainder ∷ []) (refl, (refl, (refl, (refl, tt)))) next op h

-- an operator's token is read as that operator at its level
pub reads_operator : (level : Level) (op : Operator) → rank op ≡ level_rank level → operator_at level (Some (kind_of op)) ≡ Some op
reads_operator Logical And e = refl
reads_operator Logical Or e = refl
reads_operator Logical Xor e = refl
reads_operator Logical Xnor e = refl
reads_operator Logical Nand e = refl
reads_operator Logical Nor e = refl
reads_operator Relation Equal e = refl
reads_operator Relation NotEqual e = refl
reads_operator Relation Less e = refl
reads_operator Relation LessEqual e = refl
reads_operator Relation Greater e = refl
reads_operator Relation GreaterEqual e = refl
reads_operator Adding Add e = refl
reads_operator Adding Subtract e = refl
reads_operator Adding Concatenate e = refl
reads_operator Multiplying Multiply e = refl
reads_operator Multiplying Divide e = refl
reads_operator Multiplying Modulo e = refl
reads_operator Multiplying Remainder e = refl
reads_operator _ _ e = absurd (omega arith)

repeated_rank : (op : Operator) → repeats op ≡ true → rank op ≡ 1
repeated_rank And e = refl
repeated_rank Or e = refl
repeated_rank Xor e = refl
repeated_rank Xnor e = refl
repeated_rank _ e = absurd (cc)

same_here : (kind : TokenKind) → same_kind kind kind ≡ true
unfolding same_kind
same_here kind = true_same the_type kind kind refl

pub is_here : (kind : TokenKind) (next : Option TokenKind) → is_kind kind next ≡ true → next ≡ Some kind
unfolding same_kind
is_here kind None h = absurd (cc)
is_here kind (Some found) h = ap Some (same_true the_type (search rules) found kind h)

-- what it goes on with is one
pub next_is : (level : Level) (last : Operator) (next : Option TokenKind) (op : Operator) → next_operator level last next ≡ Some op → At level next op
unfolding next_operator
next_is Logical last next op h = by_repeats (repeats last) refl h
  where
    by_kind : rank last ≡ 1 → (b : Bool) → is_kind (kind_of last) next ≡ b → ◌≡◌ {A = Option Operator} (cond b (Some last) None) (Some op) → At Logical next op
    by_kind r true e g = row Logical next last op g (is_here (kind_of last) next e) r
    by_kind r false e g = absurd (cc)

    by_repeats : (b : Bool) → repeats last ≡ b → ◌≡◌ {A = Option Operator} (cond b (cond (is_kind (kind_of last) next) (Some last) None) None) (Some op) → At Logical next op
    by_repeats true e g = by_kind (repeated_rank last e) (is_kind (kind_of last) next) refl g
    by_repeats false e g = absurd (cc)
next_is Relation last next op h = absurd (cc)
next_is Adding last next op h = first_is Adding next op h
next_is Multiplying last next op h = first_is Multiplying next op h

-- nothing of this level follows where what comes next is looser
none_at : (level : Level) (next : Option TokenKind) (o : Option Operator) → ((op : Operator) → o ≡ Some op → At level next op) → grip next < level_rank level → o ≡ None
none_at level next None is s = refl
none_at level next (Some op) is s =
    let a = is op refl in
    let g : grip next ≡ rank op = ap grip a.kind_is ∙ grip-kind_of op in
    absurd (omega (arith, s, g, a.rank_is))

pub first_none : (level : Level) (next : Option TokenKind) → grip next < level_rank level → operator_at level next ≡ None
first_none level next s = none_at level next (operator_at level next) (first_is level next) s

pub next_none : (level : Level) (last : Operator) (next : Option TokenKind) → grip next < level_rank level → next_operator level last next ≡ None
next_none level last next s = none_at level next (next_operator level last next) (next_is level last next) s

-- ---- what may follow a tree is read after it

abbrev pub CanGo : Level → Operator → Expr → Type 0
CanGo level last left = (op : Operator) → rank op ≡ level_rank level → GoesOn op left → next_operator level last (Some (kind_of op)) ≡ Some op

repeated : (op next : Operator) → op ≡ next → repeats next ≡ true → next_operator Logical op (Some (kind_of next)) ≡ Some next
unfolding next_operator
repeated op next e r = rw (e, r, same_here (kind_of next))

pub can_after : (level : Level) (b : Bool) (op : Operator) (at : ℕ) (left right : Expr) → rank op ≡ level_rank level → CanGo level op (binary b op at left right)
unfolding next_operator
can_after Logical b op at left right r next s chain =
    ⊎_elim (λ great. absurd (omega (arith, great, s))) (λ again. repeated op next again.0 again.1) chain.1
can_after Relation b op at left right r next s chain =
    ⊎_elim (λ great. absurd (omega (arith, great, s))) (λ again. absurd (omega (arith, repeated_rank next again.1, s))) chain.1
can_after level b op at left right r next s chain = reads_operator level next s

-- ---- a tree that no operator of the level goes on with

abbrev pub Alone : Level → Expr → Type 0
Alone level e = (op : Operator) → rank op ≡ level_rank level → GoesOn op e → ⊥

pub tight_alone : (level : Level) (e : Expr) → level_rank level < binding e → Alone level e
tight_alone level (binary b first at l r) h op s g = absurd (omega (arith, h, s, g.0))
tight_alone level _ h op s g = g

-- ---- what is read after a tree may follow it

-- as the first operator of a chain
abbrev pub Begins : Level → Expr → Type 0
Begins level first = (op : Operator) → rank op ≡ level_rank level → Leads true op first

pub begins_tight : (level : Level) (first : Expr) → level_rank level < binding first → Begins level first
begins_tight level first b op r = inl (omega (arith, r, b))

-- as a further one
abbrev pub Fits : Level → Operator → Expr → Type 0
Fits level last left = (next : Option TokenKind) (op : Operator) → next_operator level last next ≡ Some op → GoesOn op left

pub fits_after : (level : Level) (b : Bool) (op : Operator) (at : ℕ) (left right : Expr) → rank op ≡ level_rank level → Fits level op (binary b op at left right)
unfolding next_operator
fits_after Logical b op at left right r next found h = by_repeats (repeats op) refl h
  where
    again : repeats op ≡ true → ◌≡◌ {A = Option Operator} (Some op) (Some found) → Chains op found
    again e g =
        let same : op ≡ found = cc in
        (ap rank same, inr (same, sym (ap repeats same) ∙ e))

    by_kind : repeats op ≡ true → (t : Bool) → ◌≡◌ {A = Option Operator} (cond t (Some op) None) (Some found) → Chains op found
    by_kind e true g = again e g
    by_kind e false g = absurd (cc)

    by_repeats : (t : Bool) → repeats op ≡ t → ◌≡◌ {A = Option Operator} (cond t (cond (is_kind (kind_of op) next) (Some op) None) None) (Some found) → Chains op found
    by_repeats true e g = by_kind e (is_kind (kind_of op) next) g
    by_repeats false e g = absurd (cc)
fits_after Relation b op at left right r next found h = absurd (cc)
fits_after Adding b op at left right r next found h =
    let a = next_is Adding op next found h in
    (r ∙ sym a.rank_is, inl (omega (arith, a.rank_is)))
fits_after Multiplying b op at left right r next found h =
    let a = next_is Multiplying op next found h in
    (r ∙ sym a.rank_is, inl (omega (arith, a.rank_is)))

-- what stands before an operator binds as tightly at least
pub goes_on_binding : (op : Operator) (left : Expr) → GoesOn op left → rank op ≤ binding left
goes_on_binding op (binary b first at l r) g = omega (arith, g.0)
goes_on_binding op _ g = absurd g

signed_binding : (op : Operator) (left : Expr) → IsSigned op left → rank op ≤ binding left
signed_binding op (signed sign at e) g = omega (arith, g)
signed_binding op _ g = absurd g

pub leads_binding : (b : Bool) (op : Operator) (left : Expr) → Leads b op left → rank op ≤ binding left
leads_binding true op left (inl b) = omega (arith, b)
leads_binding true op left (inr g) = signed_binding op left g
leads_binding false op left g = goes_on_binding op left g
