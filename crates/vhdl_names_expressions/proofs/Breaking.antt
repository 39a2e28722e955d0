-- What a part of an expression breaks first, the expression breaks first, where the parts before it break nothing.
use Rattle.std.proofs.Common.{◌≡◌, ℕ, suc, ◌<◌, Bool, true, false, List, [], ◌∷◌, map, length, get_or, drop, drop-cons, Option, Some, None, Result, Ok, Err, IfErr, Box, Global, refl, sym, ap, ◌∙◌}
use Rattle.vhdl_tree.specs.Tree as t
use Rattle.vhdl_tree.specs.View.{view, chain_view, pair_view}
use Rattle.vhdl_tree.specs.declared.expression.Expr.{Expr}
use Rattle.vhdl_tree.specs.declared.expression.Expr.TheVariants as x
use Rattle.vhdl_tree.specs.declared.expression.Chain.{Chain, out-Chain}
use Rattle.vhdl_tree.specs.declared.expression.Link.{Link}
use Rattle.vhdl_tree.proofs.Rows.{chain_is}
use Rattle.vhdl_names_rules.specs.declared.fault.NameFault.{NameFault}
use Rattle.vhdl_names_rules.specs.declared.fault.NameProblem.{NameProblem}
use Rattle.vhdl_names_rules.specs.declared.fault.NameProblem.TheVariants.{TypeMismatch}
use Rattle.vhdl_names_rules.specs.Gives.{Gives}
use Rattle.vhdl_names_rules.specs.units.Expressions as u
use Rattle.vhdl_names_rules.specs.Visibility.{Sight}
use Rattle.vhdl_tree.specs.declared.operator.Operator.{Operator}
use Rattle.vhdl_names_rules.specs.declared.kind.ElementKind.{ElementKind}
use Rattle.vhdl_names_rules.specs.declared.kind.ElementKind.TheVariants.{Element}
use Rattle.vhdl_names_rules.specs.Operators.{Typed, elements}
use Rattle.vhdl_names_rules.specs.Expressions as are
use Rattle.vhdl_names_rules.specs.Expressions.{beside}
use Rattle.vhdl_names_rules.proofs.laws.Rules.{comes}
use Rattle.vhdl_names_rules.specs.problems.Broken.{Broken, Tells, nothing, refused, ◌▸◌, lacking, where_given}
use Rattle.vhdl_names_rules.specs.problems.Places.{start}
use Rattle.vhdl_names_rules.specs.problems.Operators.{operator_problem}
use Rattle.vhdl_names_rules.specs.problems.Expressions.{typed, operand}
use Rattle.vhdl_names_rules.proofs.Telling.{IsKept, both_kept, behind_kept, lacking_kept, given_kept, told_same, told_left, told_right, told_lacking, told_given, told_on}
use Rattle.vhdl_names_rules.proofs.kept.Expressions.{typed_kept}
use Rattle.vhdl_names_rules.proofs.kept.Operands.{first_kept, second_kept}
use Rattle.vhdl_names_operators.specs.Steps.{operated}
use Rattle.vhdl_names_operators.specs.Resolving.{kind_of, operand_breaks}
use Rattle.vhdl_names_operators.proofs.Resolving.{operand_is}
use Rattle.vhdl_names_expressions.specs.Breaking.{link_breaks, all_break, started_breaks}
use Rattle.vhdl_names_expressions.specs.Chosen.{started, links_of}
use Rattle.vhdl_names_expressions.specs.Steps.{is_parens, enclosed_if, linked}
use Rattle.vhdl_names_expressions.proofs.Chains.{beside_if, operated_on, operated_is, linked_typed, started_is}

-- ---- parts in turn

pub none_behind : (a : Broken) → (a ▸ nothing) ≡ a
unfolding ◌▸◌
none_behind None = refl
none_behind (Some x) = refl

pub in_turn : (a b c : Broken) → ((a ▸ b) ▸ c) ≡ (a ▸ (b ▸ c))
unfolding ◌▸◌
in_turn None b c = refl
in_turn (Some x) b c = refl

pub told_as : {X : Type 0} (a b : Broken) (r : Result X NameFault) → a ≡ b → IfErr r (Tells a) → IfErr r (Tells b)
told_as a b r e = told_on a b r (λ f. told_same a b f e)

-- of a fault that is this one
pub told_fault : (b : Broken) (f g : NameFault) → g ≡ f → Tells b f → Tells b g
told_fault b f g e h = rw e h

-- what is asked of what is given, behind what breaks nothing
pub asked_told : {A X : Type 0} (b : Broken) (o : Option A) (rest : A → Broken) (v : A) (r : Result X NameFault) → IsKept b → o ≡ Some v →
    IfErr r (Tells (rest v)) → IfErr r (Tells (b ▸ where_given o rest))
asked_told b o rest v r kept given = told_on _ _ r (λ f h. told_right b (where_given o rest) f kept (told_given rest o v f given h))

-- what is refused at this place is told where nothing is given
pub refused_told : {B X : Type 0} (see : X → B) (p : NameProblem) (at place : ℕ) (o : Option B) (r : Result X NameFault) → at ≡ place → Gives see o r →
    IfErr r (Tells (refused p at)) → IfErr r (Tells (lacking p place o))
refused_told see p at place o (Ok x) same h k = tt
refused_told see p at place o (Err f) same h k = told_lacking p place o f h (told_same (refused p at) (refused p place) f (ap (refused p) same) k)

-- what is wanted of what is given, with a problem by what that is
pub wanted_by : {A B X : Type 0} (b : Broken) (o : Option A) (p : A → NameProblem) (at : ℕ) (wanted : A → Option B) (see : X → B) (v : A) (r : Result X NameFault) →
    IsKept b → o ≡ Some v → Gives see (wanted v) r → IfErr r (Tells (refused (p v) at)) → IfErr r (Tells (b ▸ where_given o (λ x. lacking (p x) at (wanted x))))
wanted_by b o p at wanted see v r kept given h k =
    asked_told b o (λ x. lacking (p x) at (wanted x)) v r kept given (refused_told see (p v) at at (wanted v) r refl h k)

-- what is wanted of what is given, which starts at this place
pub wanted_told : {A B X : Type 0} (b : Broken) (o : Option A) (p : NameProblem) (at place : ℕ) (wanted : A → Option B) (see : X → B) (v : A) (r : Result X NameFault) →
    IsKept b → o ≡ Some v → at ≡ place → Gives see (wanted v) r → IfErr r (Tells (refused p at)) → IfErr r (Tells (b ▸ where_given o (λ x. lacking p place (wanted x))))
wanted_told b o p at place wanted see v r kept given same h k =
    asked_told b o (λ x. lacking p place (wanted x)) v r kept given (refused_told see p at place (wanted v) r same h k)

-- what is wanted of an expression
pub asked_of : {B X : Type 0} (sight : Sight) (e : t.Expr) (wanted : Typed → Option B) (see : X → B) (at : ℕ) (v : Typed) (r : Result X NameFault) →
    are.typed sight e ≡ Some v → at ≡ start e → Gives see (wanted v) r → IfErr r (Tells (refused TypeMismatch at)) →
    IfErr r (Tells (typed sight e ▸ where_given (are.typed sight e) (λ x. lacking TypeMismatch (start e) (wanted x))))
asked_of sight e wanted see at v r given same h k =
    wanted_told (typed sight e) (are.typed sight e) TypeMismatch at (start e) wanted see v r (typed_kept e sight v given) given same h k

-- ---- chains

-- what an operator breaks that makes this of operands, of which the right one counts as this one
abbrev of_operator : Link → (v y z : Typed) → Option Typed → Broken
of_operator l v y z o = operand l.operator y v ▸ operand l.operator v y ▸ lacking (operator_problem l.operator v z) l.at o

abbrev on_operands : Sight → Link → (v y z : Typed) → Broken
on_operands sight l v y z = of_operator l v y z (operated sight.language sight.numbers l.at l.operator v z)

operator_is : (sight : Sight) (x : t.Expr) (l : Link) (o q : Option Typed) →
    where_given o (λ v. where_given q (λ y. of_operator l v y (beside x y) (operated_on sight l x v y)))
    ≡ where_given o (λ v. where_given q (λ y. on_operands sight l v y (enclosed_if (is_parens x) y)))
operator_is sight x l None q = refl
operator_is sight x l (Some v) None = refl
operator_is sight x l (Some v) (Some y) =
    ap (λ z. of_operator l v y z (operated_on sight l x v y)) (beside_if x y)
    ∙ ap (of_operator l v y (enclosed_if (is_parens x) y)) (operated_is sight l x v y)

-- what stands in parentheses is of its kind, and is an aggregate or none
kind_enclosed : (b : Bool) (y : Typed) → kind_of (enclosed_if b y) ≡ kind_of y
kind_enclosed false y = refl
kind_enclosed true (elements Element (u.character v)) = refl
kind_enclosed true y = refl

operand_enclosed : (q : Operator) (k : Option ElementKind) (b : Bool) (y : Typed) → operand_breaks q k (enclosed_if b y) ≡ operand_breaks q k y
operand_enclosed q k false y = refl
operand_enclosed q k true (elements Element (u.character v)) = refl
operand_enclosed q k true y = refl

-- an operator on its operands, as the code has it
operands_are : (sight : Sight) (l : Link) (b : Bool) (v y : Typed) →
    (operand_breaks l.operator (kind_of (enclosed_if b y)) v ▸ operand_breaks l.operator (kind_of v) (enclosed_if b y)
    ▸ lacking (operator_problem l.operator v (enclosed_if b y)) l.at (operated sight.language sight.numbers l.at l.operator v (enclosed_if b y)))
    ≡ on_operands sight l v y (enclosed_if b y)
operands_are sight l b v y =
    let z = enclosed_if b y in
    let last = lacking (operator_problem l.operator v z) l.at (operated sight.language sight.numbers l.at l.operator v z) in
    ap (λ c. c ▸ operand_breaks l.operator (kind_of v) z ▸ last) (ap (λ k. operand_breaks l.operator k v) (kind_enclosed b y) ∙ sym (operand_is l.operator y v))
    ∙ ap (λ c. operand l.operator y v ▸ c ▸ last) (operand_enclosed l.operator (kind_of v) b y ∙ sym (operand_is l.operator v y))

-- an expression behind which an operand stands in parentheses, or doesn't
abbrev behind_parens : Bool → t.Expr
behind_parens true = t.parens 0 (t.integer 0 [])
behind_parens false = t.integer 0 []

parens_behind : (b : Bool) → is_parens (behind_parens b) ≡ b
parens_behind true = refl
parens_behind false = refl

-- an operator that gives a value breaks nothing
on_operands_kept : (sight : Sight) (l : Link) (b : Bool) (v y w : Typed) → operated sight.language sight.numbers l.at l.operator v (enclosed_if b y) ≡ Some w
    → IsKept (on_operands sight l v y (enclosed_if b y))
on_operands_kept sight l b v y w h =
    let d = behind_parens b in
    let k : operated_on sight l d v y ≡ Some w =
    operated_is sight l d v y ∙ ap (λ p. operated sight.language sight.numbers l.at l.operator v (enclosed_if p y)) (parens_behind b) ∙ h in
    both_kept (operand l.operator y v) _ (first_kept sight.language sight.numbers l.at l.operator d v y w k)
    (both_kept (operand l.operator v y) _ (second_kept sight.language sight.numbers l.at l.operator d v y w k)
    (lacking_kept (operator_problem l.operator v (enclosed_if b y)) l.at (operated sight.language sight.numbers l.at l.operator v (enclosed_if b y)) w h))

binary_is : (sight : Sight) (b : Bool) (x : t.Expr) (l : Link) →
    typed sight (t.binary b l.operator l.at x (view l.operand)) ≡ (typed sight x ▸ link_breaks sight (is_parens x) (are.typed sight x) l)
unfolding typed
binary_is sight b x l = ap (λ c. typed sight x ▸ (typed sight (view l.operand) ▸ c)) (operator_is sight x l (are.typed sight x) (are.typed sight (view l.operand)))

-- a chain breaks what its beginning breaks, and then what its links break on that
joined_is : (sight : Sight) (x : t.Expr) (ls : List Link) → is_parens x ≡ false →
    typed sight (t.all_joined x (map pair_view ls)) ≡ (typed sight x ▸ all_break sight (are.typed sight x) ls)
joined_is sight x [] other = sym (none_behind (typed sight x))
joined_is sight x (l ∷ ls) other =
    let next = t.joined x (pair_view l) in
    joined_is sight next ls refl
    ∙ ap (λ z. z ▸ all_break sight (are.typed sight next) ls) (binary_is sight false x l ∙ ap (λ b. typed sight x ▸ link_breaks sight b (are.typed sight x) l) other)
    ∙ ap (λ o. (typed sight x ▸ link_breaks sight false (are.typed sight x) l) ▸ all_break sight o ls) (linked_typed sight false x l ∙ ap (λ b. linked sight b (are.typed sight x) l) other)
    ∙ in_turn (typed sight x) (link_breaks sight false (are.typed sight x) l) (all_break sight (linked sight false (are.typed sight x) l) ls)

chain_breaks : (sight : Sight) (k : Chain) → typed sight (chain_view k) ≡ (started_breaks sight k ▸ all_break sight (started sight k) (links_of k))
unfolding started_breaks
chain_breaks sight k =
    let c = out-Chain k in
    let first = view c.first in
    let begun = t.begun first (pair_view c.second) in
    ap (typed sight) (chain_is k)
    ∙ joined_is sight begun c.rest.items refl
    ∙ ap (λ z. z ▸ all_break sight (are.typed sight begun) c.rest.items) (binary_is sight true first c.second)
    ∙ ap (λ o. (typed sight first ▸ link_breaks sight (is_parens first) (are.typed sight first) c.second) ▸ all_break sight o c.rest.items)
    (linked_typed sight true first c.second ∙ sym (started_is sight k))

whole_chain : (sight : Sight) (e : Expr) (box : Box Chain Global) (k : Chain) → e ≡ x.Chain box → k ≡ box.value →
    typed sight (view e) ≡ (started_breaks sight k ▸ all_break sight (started sight k) (links_of k))
whole_chain sight e box k is same =
    ap (λ v. typed sight (view v)) is ∙ chain_breaks sight box.value ∙ ap (λ k. started_breaks sight k ▸ all_break sight (started sight k) (links_of k)) (sym same)

pub chain_first : (sight : Sight) (e : Expr) (box : Box Chain Global) (k : Chain) (f : NameFault) → e ≡ x.Chain box → k ≡ box.value →
    Tells (started_breaks sight k) f → Tells (typed sight (view e)) f
chain_first sight e box k f is same h =
    told_same _ _ f (sym (whole_chain sight e box k is same)) (told_left (started_breaks sight k) (all_break sight (started sight k) (links_of k)) f h)

-- a link that is given breaks nothing
link_kept : (sight : Sight) (b : Bool) (v w : Typed) (l : Link) → linked sight b (Some v) l ≡ Some w → IsKept (link_breaks sight b (Some v) l)
link_kept sight b v w l h =
    let y = comes (are.typed sight (view l.operand)) (λ y. operated sight.language sight.numbers l.at l.operator v (enclosed_if b y)) w h in
    both_kept (typed sight (view l.operand)) _ (typed_kept (view l.operand) sight y.value y.is)
    (given_kept (λ q. on_operands sight l v q (enclosed_if b q)) (are.typed sight (view l.operand)) y.value y.is (on_operands_kept sight l b v y.value w y.rest))

begun_kept : (sight : Sight) (e : t.Expr) (l : Link) (w : Typed) (o : Option Typed) → are.typed sight e ≡ o → linked sight (is_parens e) o l ≡ Some w →
    IsKept (typed sight e ▸ link_breaks sight (is_parens e) o l)
begun_kept sight e l w None is h = absurd cc
begun_kept sight e l w (Some v) is h = both_kept (typed sight e) _ (typed_kept e sight v is) (link_kept sight (is_parens e) v w l h)

started_kept : (sight : Sight) (k : Chain) (v : Typed) → started sight k ≡ Some v → IsKept (started_breaks sight k)
unfolding started_breaks
started_kept sight k v h =
    begun_kept sight (view (out-Chain k).first) (out-Chain k).second v (are.typed sight (view (out-Chain k).first)) refl (sym (started_is sight k) ∙ h)

pub chain_further : {X : Type 0} (sight : Sight) (e : Expr) (box : Box Chain Global) (k1 k2 : Chain) (v : Typed) (r : Result X NameFault) →
    e ≡ x.Chain box → k1 ≡ box.value → k2 ≡ box.value → started sight k1 ≡ Some v →
    IfErr r (Tells (all_break sight (Some v) (links_of k2))) → IfErr r (Tells (typed sight (view e)))
chain_further sight e box k1 k2 v r is e1 e2 begins =
    told_on _ _ r (λ f h.
    told_same _ _ f (sym (whole_chain sight e box k1 is e1))
    (told_right (started_breaks sight k1) (all_break sight (started sight k1) (links_of k1)) f (started_kept sight k1 v begins)
    (told_same (all_break sight (Some v) (links_of k2)) _ f
    (ap (λ o. all_break sight o (links_of k2)) (sym begins) ∙ ap (λ k. all_break sight (started sight k1) (links_of k)) (e2 ∙ sym e1)) h)))

pub begun_first : (sight : Sight) (k : Chain) (f : NameFault) → Tells (typed sight (view (out-Chain k).first)) f → Tells (started_breaks sight k) f
unfolding started_breaks
begun_first sight k f = told_left (typed sight (view (out-Chain k).first)) (link_breaks sight (is_parens (view (out-Chain k).first)) (are.typed sight (view (out-Chain k).first)) (out-Chain k).second) f

pub begun_second : {X : Type 0} (sight : Sight) (k : Chain) (b : Bool) (v : Typed) (r : Result X NameFault) → are.typed sight (view (out-Chain k).first) ≡ Some v →
    b ≡ is_parens (view (out-Chain k).first) → IfErr r (Tells (link_breaks sight b (Some v) (out-Chain k).second)) → IfErr r (Tells (started_breaks sight k))
unfolding started_breaks
begun_second sight k b v r given is =
    let first = view (out-Chain k).first in
    let l = (out-Chain k).second in
    told_on _ _ r (λ f h.
    told_right (typed sight first) (link_breaks sight (is_parens first) (are.typed sight first) l) f (typed_kept first sight v given)
    (told_same _ _ f (ap (λ o. link_breaks sight b o l) (sym given) ∙ ap (λ p. link_breaks sight p (are.typed sight first) l) is) h))

-- the links that are left, the next of them first
rest_breaks : (sight : Sight) (v : Typed) (ls : List Link) (i : ℕ) (l : Link) → i < length ls → l ≡ get_or ls i l →
    (link_breaks sight false (Some v) l ▸ all_break sight (linked sight false (Some v) l) (drop (suc i) ls)) ≡ all_break sight (Some v) (drop i ls)
rest_breaks sight v ls i l lt e =
    ap (λ k. link_breaks sight false (Some v) k ▸ all_break sight (linked sight false (Some v) k) (drop (suc i) ls)) e
    ∙ sym (ap (all_break sight (Some v)) (drop-cons ls i l lt))

pub link_told : (sight : Sight) (v : Typed) (ls : List Link) (i : ℕ) (l : Link) (f : NameFault) → i < length ls → l ≡ get_or ls i l →
    Tells (link_breaks sight false (Some v) l) f → Tells (all_break sight (Some v) (drop i ls)) f
link_told sight v ls i l f lt e h =
    told_same _ _ f (rest_breaks sight v ls i l lt e)
    (told_left (link_breaks sight false (Some v) l) (all_break sight (linked sight false (Some v) l) (drop (suc i) ls)) f h)

pub rest_goes : (sight : Sight) (v w : Typed) (ls : List Link) (i j : ℕ) (l : Link) → i < length ls → l ≡ get_or ls i l → suc i ≡ j →
    linked sight false (Some v) l ≡ Some w → all_break sight (Some v) (drop i ls) ≡ all_break sight (Some w) (drop j ls)
rest_goes sight v w ls i j l lt e next gives =
    sym (rest_breaks sight v ls i l lt e)
    ∙ behind_kept (link_breaks sight false (Some v) l) (all_break sight (linked sight false (Some v) l) (drop (suc i) ls)) (link_kept sight false v w l gives)
    ∙ ap (λ o. all_break sight o (drop (suc i) ls)) gives
    ∙ ap (λ k. all_break sight (Some w) (drop k ls)) next

-- an operator, where both operands are given
pub operator_on : {X : Type 0} (sight : Sight) (b : Bool) (v y z : Typed) (l : Link) (r : Result X NameFault) → are.typed sight (view l.operand) ≡ Some y →
    z ≡ enclosed_if b y → IfErr r (Tells
    (operand_breaks l.operator (kind_of z) v ▸ operand_breaks l.operator (kind_of v) z ▸ lacking (operator_problem l.operator v z) l.at (operated sight.language sight.numbers l.at l.operator v z))) →
    IfErr r (Tells (link_breaks sight b (Some v) l))
operator_on sight b v y z l r given at h =
    asked_told (typed sight (view l.operand)) (are.typed sight (view l.operand)) (λ q. on_operands sight l v q (enclosed_if b q)) y r (typed_kept (view l.operand) sight y given) given
    (told_as _ _ r
    (ap (λ q. operand_breaks l.operator (kind_of q) v ▸ operand_breaks l.operator (kind_of v) q ▸ lacking (operator_problem l.operator v q) l.at (operated sight.language sight.numbers l.at l.operator v q)) at
    ∙ operands_are sight l b v y) h)

pub link_first : (sight : Sight) (b : Bool) (v : Typed) (l : Link) (f : NameFault) → Tells (typed sight (view l.operand)) f → Tells (link_breaks sight b (Some v) l) f
link_first sight b v l f = told_left (typed sight (view l.operand)) _ f
