-- Aggregates as operands: what an operator makes of them, and what they break.
use Rattle.std.proofs.Common.{◌≡◌, ℕ, Bool, true, false, cond, ◌&&◌, [], Option, Some, None, Vec, Global, refl, ap, sym, ◌∙◌}
use Rattle.std.specs.Prelude.{option_map}
use Rattle.vhdl_lexer.specs.declared.language.Language.{Language}
use Rattle.vhdl_values.specs.declared.kinds.Cmp.{Cmp}
use Rattle.vhdl_values.specs.declared.kinds.Cmp.TheVariants.{Eq, Ne}
use Rattle.vhdl_tree.specs.declared.operator.Operator.{Operator}
use Rattle.vhdl_tree.specs.declared.operator.Operator.TheVariants as op
use Rattle.vhdl_tree.specs.Tree as t
use Rattle.vhdl_names_rules.specs.declared.kind.ElementKind.{ElementKind}
use Rattle.vhdl_names_rules.specs.declared.kind.ElementKind.TheVariants.{LogicVector, Unsigned}
use Rattle.vhdl_names_rules.specs.declared.fault.NameProblem.TheVariants.{TypeMismatch}
use Rattle.vhdl_names_trees.specs.declared.typed.Typed as code
use Rattle.vhdl_names_trees.specs.declared.typed.Typed.TheVariants as variant
use Rattle.vhdl_names_trees.specs.declared.typed.Typed.TheVariants.{outs-Composite', rolls-Composite}
use Rattle.vhdl_names_trees.specs.declared.typed.Typed.TheBlock.{shown-the_row-TypedElement-0}
use Rattle.vhdl_names_trees.specs.declared.typed.TypedElement.{TypedElement}
use Rattle.vhdl_names_rules.specs.units.Expressions as u
use Rattle.vhdl_names_rules.specs.Rules.{◌>>=◌, ◌>>◌, met}
use Rattle.vhdl_names_rules.specs.Operators.{Typed, elements, composite, is_vector, common_kind, equal_by, equality, beside_vector}
use Rattle.vhdl_names_rules.specs.Types.{TypedElements}
use Rattle.vhdl_names_rules.specs.Aggregates.{aggregate}
use Rattle.vhdl_names_trees.specs.views.Expressions.{typed_view}
use Rattle.vhdl_names_rules.specs.problems.Broken.{refused, ◌▸◌, unless, lacking}
use Rattle.vhdl_names_rules.specs.problems.Aggregates as aggregates
use Rattle.vhdl_names_rules.specs.problems.Operators.{operator_problem}
use Rattle.vhdl_names_rules.specs.problems.Expressions as broken
use Rattle.vhdl_names_rules.specs.problems.Expressions.{is_equality}
use Rattle.vhdl_names_rules.proofs.laws.Rules.{kept, some_is}
use Rattle.vhdl_names_rules.proofs.Telling.{IsKept, both_kept, behind_kept, unless_kept}
use Rattle.vhdl_names_rules.proofs.kept.Keeping.{nothing_kept, mapped}
use Rattle.vhdl_names_rules.proofs.kept.Aggregates.{aggregate_kept}
use Rattle.vhdl_names_rules.proofs.kept.Operands.{first_kept, second_kept}
use Rattle.vhdl_names_operators.specs.Steps.{operated}
use Rattle.vhdl_names_operators.specs.Resolving as steps
use Rattle.vhdl_names_operators.specs.Resolving.{kind_of, is_plain, vector_kind, operand_breaks}
use Rattle.vhdl_names_operators.proofs.Relating.{unrelated, beside_elements}

-- ---- one operand

-- what is no aggregate
pub plain : (y : code.Typed) → ((at : ℕ) (es : Vec TypedElement Global) → y ≡ variant.Composite at es → ⊥) → is_plain (typed_view y) ≡ true
plain (variant.Composite' at shape row) other =
    let v = shown-the_row-TypedElement-0 shape row in
    absurd (other at v (cc (code.roll-out-Typed (variant.Composite' at shape row), ap code.roll-Typed (outs-Composite' at shape row), rolls-Composite at v)))
plain y other = refl

pub plain_resolved : (q : Operator) (k : Option ElementKind) (y : Typed) → is_plain y ≡ true → steps.resolved q k y ≡ Some y
plain_resolved q k (composite at es) h = absurd cc
plain_resolved q k y h = refl

-- an aggregate beside a vector, as an operand of = and /=
record Placed (q : Operator) (other : Option ElementKind) (k : ElementKind) : Type 0 where
  beside : other ≡ Some k
  vector : is_vector k ≡ true
  equal : is_equality q ≡ true

placed : (q : Operator) (other : Option ElementKind) (k : ElementKind) → vector_kind q other ≡ Some k → Placed q other k
placed q None k h = absurd cc
placed q (Some j) k h = go (is_vector j) refl (is_equality q) refl h
  where
    go : (v : Bool) → is_vector j ≡ v → (e : Bool) → is_equality q ≡ e → cond (v && e) (Some j) None ≡ Some k → Placed q (Some j) k
    go true v true e h = record { beside = h; vector = ap is_vector (sym (some_is j k h)) ∙ v; equal = e }
    go true v false e h = absurd cc
    go false v b e h = absurd cc

vector_resolved : (q : Operator) (k : ElementKind) (at : ℕ) (es : TypedElements) → is_vector k ≡ true → is_equality q ≡ true
    → steps.resolved q (Some k) (composite at es) ≡ option_map (elements k) (aggregate k at None es)
vector_resolved q k at es vector equal =
    ap (λ b. met b >> option_map (elements k) (beside_vector k at es)) equal
    ∙ ap (λ b. option_map (elements k) (met b >> aggregate k at None es)) vector

vector_breaks : (q : Operator) (k : ElementKind) (at : ℕ) (es : TypedElements) → is_vector k ≡ true → is_equality q ≡ true
    → operand_breaks q (Some k) (composite at es) ≡ aggregates.aggregate k false es
vector_breaks q k at es vector equal =
    behind_kept (unless TypeMismatch at (is_equality q)) (unless TypeMismatch at (is_vector k) ▸ aggregates.aggregate k false es) (unless_kept TypeMismatch at (is_equality q) equal)
    ∙ behind_kept (unless TypeMismatch at (is_vector k)) (aggregates.aggregate k false es) (unless_kept TypeMismatch at (is_vector k) vector)

pub placed_resolved : (q : Operator) (other : Option ElementKind) (k : ElementKind) (y : Typed) (at : ℕ) (es : TypedElements) → y ≡ composite at es → vector_kind q other ≡ Some k
    → steps.resolved q other y ≡ option_map (elements k) (aggregate k at None es)
placed_resolved q other k y at es is h =
    let p = placed q other k h in
    ap (steps.resolved q other) is ∙ ap (λ o. steps.resolved q o (composite at es)) p.beside ∙ vector_resolved q k at es p.vector p.equal

pub placed_breaks : (q : Operator) (other : Option ElementKind) (k : ElementKind) (y : Typed) (at : ℕ) (es : TypedElements) → y ≡ composite at es → vector_kind q other ≡ Some k
    → operand_breaks q other y ≡ aggregates.aggregate k false es
placed_breaks q other k y at es is h =
    let p = placed q other k h in
    ap (operand_breaks q other) is ∙ ap (λ o. operand_breaks q o (composite at es)) p.beside ∙ vector_breaks q k at es p.vector p.equal

-- an aggregate beside anything else
none_of : {A B : Type 0} (f : A → B) (v e : Bool) (j : ElementKind) (a : Option A) → cond (v && e) (Some j) None ≡ None → (met e >> option_map f (met v >> a)) ≡ None
none_of f true true j a h = absurd cc
none_of f false true j a h = refl
none_of f v false j a h = refl

unresolved : (q : Operator) (other : Option ElementKind) (at : ℕ) (es : TypedElements) → vector_kind q other ≡ None → steps.resolved q other (composite at es) ≡ None
unresolved q None at es h = go (is_equality q)
  where
    go : (b : Bool) → (met b >> (None >>= λ k. option_map (elements k) (beside_vector k at es))) ≡ None
    go true = refl
    go false = refl
unresolved q (Some k) at es h = none_of (elements k) (is_vector k) (is_equality q) k (aggregate k at None es) h

unresolved_breaks : (q : Operator) (other : Option ElementKind) (at : ℕ) (es : TypedElements) → vector_kind q other ≡ None → operand_breaks q other (composite at es) ≡ refused TypeMismatch at
unfolding ◌▸◌
unresolved_breaks q None at es h = go (is_equality q)
  where
    go : (b : Bool) → (unless TypeMismatch at b ▸ refused TypeMismatch at) ≡ refused TypeMismatch at
    go true = refl
    go false = refl
unresolved_breaks q (Some k) at es h = go (is_vector k) (is_equality q) h
  where
    go : (v e : Bool) → cond (v && e) (Some k) None ≡ None → (unless TypeMismatch at e ▸ (unless TypeMismatch at v ▸ aggregates.aggregate k false es)) ≡ refused TypeMismatch at
    go true true h = absurd cc
    go false true h = refl
    go v false h = refl

pub no_place : (q : Operator) (other : Option ElementKind) (y : Typed) (at : ℕ) (es : TypedElements) → y ≡ composite at es → vector_kind q other ≡ None → steps.resolved q other y ≡ None
no_place q other y at es is h = ap (steps.resolved q other) is ∙ unresolved q other at es h

pub no_place_breaks : (q : Operator) (other : Option ElementKind) (y : Typed) (at : ℕ) (es : TypedElements) → y ≡ composite at es → vector_kind q other ≡ None
    → operand_breaks q other y ≡ refused TypeMismatch at
no_place_breaks q other y at es is h = ap (operand_breaks q other) is ∙ unresolved_breaks q other at es h

-- beside what isn't of the nine values
none_there : (z : Typed) → None ≡ Some z → ⊥
none_there z h = cc

alone : (q : Operator) (p : ℕ) (es : TypedElements) (z : Typed) → steps.resolved q None (composite p es) ≡ Some z → ⊥
alone q p es z h = none_there z (kept (is_equality q) None z h).1

pub resolved_kept : (q : Operator) (other : Option ElementKind) (y z : Typed) → steps.resolved q other y ≡ Some z → IsKept (operand_breaks q other y)
resolved_kept q None (composite at es) z h = absurd (alone q at es z h)
resolved_kept q (Some j) (composite at es) z h =
    let k = kept (is_equality q) _ z h in
    let v = mapped (elements j) (beside_vector j at es) z k.1 in
    let b = kept (is_vector j) _ v.value v.from in
    both_kept _ _ (unless_kept TypeMismatch at (is_equality q) k.0) (both_kept _ _ (unless_kept TypeMismatch at (is_vector j) b.0) (aggregate_kept j at None es v.value b.1))
resolved_kept q other y z h = nothing_kept

-- ---- both operands

pub operand_is : (q : Operator) (y x : Typed) → broken.operand q y x ≡ operand_breaks q (kind_of y) x
operand_is q (elements k v) (composite at es) = refl
operand_is q y (composite at es) = refl
operand_is q y x = refl

-- what an operator is offered for breaks nothing
pub left_kept : (language : Language) (numbers : Bool) (at : ℕ) (q : Operator) (x y z : Typed) → operated language numbers at q x y ≡ Some z → IsKept (operand_breaks q (kind_of y) x)
left_kept language numbers at q x y z h = sym (operand_is q y x) ∙ first_kept language numbers at q (t.integer 0 []) x y z h

pub right_kept : (language : Language) (numbers : Bool) (at : ℕ) (q : Operator) (x y z : Typed) → operated language numbers at q x y ≡ Some z → IsKept (operand_breaks q (kind_of x) y)
right_kept language numbers at q x y z h = sym (operand_is q x y) ∙ second_kept language numbers at q (t.integer 0 []) x y z h

-- an operator on what operands resolve to: the same, with the same problem
pub record Same (language : Language) (numbers : Bool) (at : ℕ) (q : Operator) (x y z w : Typed) : Type 0 where
  pub result : operated language numbers at q x y ≡ operated language numbers at q z w
  pub problem : operator_problem q x y ≡ operator_problem q z w

common_same : (k : ElementKind) → is_vector k ≡ true → common_kind k k ≡ Some k
common_same LogicVector h = refl
common_same Unsigned h = refl
common_same k h = absurd cc

-- = and /= by a vector in place of an aggregate
equal_left : (at : ℕ) (c : Cmp) (same : u.Value → u.Value → u.Test) (k : ElementKind) (p : ℕ) (es : TypedElements) (v : u.Vector) (z : Typed) → option_map (elements k) (beside_vector k p es) ≡ Some z
    → equality at c same (composite p es) (elements k v) ≡ equality at c same z (elements k v)
equal_left at c same k p es v z h =
    let m = mapped (elements k) (beside_vector k p es) z h in
    let b = kept (is_vector k) _ m.value m.from in
    ap (option_map (λ y. equal_by at c same y v k)) m.from
    ∙ ap (option_map (equal_by at c same m.value v)) (sym (common_same k b.0))
    ∙ ap (λ y. equality at c same y (elements k v)) m.is

equal_right : (at : ℕ) (c : Cmp) (same : u.Value → u.Value → u.Test) (k : ElementKind) (p : ℕ) (es : TypedElements) (v : u.Vector) (z : Typed) → option_map (elements k) (beside_vector k p es) ≡ Some z
    → equality at c same (elements k v) (composite p es) ≡ equality at c same (elements k v) z
equal_right at c same k p es v z h =
    let m = mapped (elements k) (beside_vector k p es) z h in
    let b = kept (is_vector k) _ m.value m.from in
    ap (option_map (λ y. equal_by at c same v y k)) m.from
    ∙ ap (option_map (equal_by at c same v m.value)) (sym (common_same k b.0))
    ∙ ap (equality at c same (elements k v)) m.is

module _ (language : Language) (numbers : Bool) (at : ℕ) where
  pub same_lacking : (q : Operator) (x y z w : Typed) → Same language numbers at q x y z w
      → lacking (operator_problem q z w) at (operated language numbers at q z w) ≡ lacking (operator_problem q x y) at (operated language numbers at q x y)
  same_lacking q x y z w s =
      ap (λ p. lacking p at (operated language numbers at q z w)) (sym s.problem) ∙ ap (lacking (operator_problem q x y) at) (sym s.result)

  left_same : (q : Operator) (k : ElementKind) (p : ℕ) (es : TypedElements) (v : u.Vector) (z : Typed) → steps.resolved q (Some k) (composite p es) ≡ Some z
      → Same language numbers at q (composite p es) (elements k v) z (elements k v)
  left_same op.Equal k p es v z h =
      record {
        result =
            unrelated language numbers at op.Equal (composite p es) (elements k v) refl ∙ equal_left at Eq (u.alike at) k p es v z h
            ∙ sym (unrelated language numbers at op.Equal z (elements k v) (beside_elements op.Equal z k v));
        problem = refl;
      }
  left_same op.NotEqual k p es v z h =
      record {
        result =
            unrelated language numbers at op.NotEqual (composite p es) (elements k v) refl ∙ equal_left at Ne (u.unlike at) k p es v z h
            ∙ sym (unrelated language numbers at op.NotEqual z (elements k v) (beside_elements op.NotEqual z k v));
        problem = refl;
      }
  left_same q k p es v z h = absurd cc

  right_same : (q : Operator) (k : ElementKind) (p : ℕ) (es : TypedElements) (v : u.Vector) (z : Typed) → steps.resolved q (Some k) (composite p es) ≡ Some z
      → Same language numbers at q (elements k v) (composite p es) (elements k v) z
  right_same op.Equal k p es v z h =
      record {
        result =
            unrelated language numbers at op.Equal (elements k v) (composite p es) refl ∙ equal_right at Eq (u.alike at) k p es v z h
            ∙ sym (unrelated language numbers at op.Equal (elements k v) z refl);
        problem = refl;
      }
  right_same op.NotEqual k p es v z h =
      record {
        result =
            unrelated language numbers at op.NotEqual (elements k v) (composite p es) refl ∙ equal_right at Ne (u.unlike at) k p es v z h
            ∙ sym (unrelated language numbers at op.NotEqual (elements k v) z refl);
        problem = refl;
      }
  right_same q k p es v z h = absurd cc

  along : (q : Operator) (x y z w : Typed) → x ≡ z → y ≡ w → Same language numbers at q x y z w
  along q x y z w e f =
      record {
        result = ap (λ a. operated language numbers at q a y) e ∙ ap (operated language numbers at q z) f;
        problem = ap (λ a. operator_problem q a y) e ∙ ap (operator_problem q z) f;
      }

  same_then : (q : Operator) (x y a b z w : Typed) → Same language numbers at q x y a b → a ≡ z → b ≡ w → Same language numbers at q x y z w
  same_then q x y a b z w s e f =
      let r = along q a b z w e f in
      record { result = s.result ∙ r.result; problem = s.problem ∙ r.problem }

  pub both_resolved : (q : Operator) (x y z w : Typed) → steps.resolved q (kind_of y) x ≡ Some z → steps.resolved q (kind_of x) y ≡ Some w → Same language numbers at q x y z w
  both_resolved q (composite p es) (elements k v) z w h g =
      same_then q (composite p es) (elements k v) z (elements k v) z w (left_same q k p es v z h) refl (some_is (elements k v) w g)
  both_resolved q (composite p es) y z w h g = absurd (alone q p es z h)
  both_resolved q (elements k v) (composite p es) z w h g =
      same_then q (elements k v) (composite p es) (elements k v) w z w (right_same q k p es v w g) (some_is (elements k v) z h) refl
  both_resolved q x (composite p es) z w h g = absurd (alone q p es w g)
  both_resolved q x y z w h g = along q x y z w (some_is x z h) (some_is y w g)
