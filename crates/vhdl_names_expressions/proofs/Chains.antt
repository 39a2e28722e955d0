-- The types of chains, names and arguments, each as the code comes to it.
use Rattle.std.proofs.Common.{◌≡◌, ℕ, suc, ◌<◌, ◌≤◌, Bool, true, false, List, [], ◌∷◌, ◌++◌, map, length, get_or, drop, drop-cons, Option, Some, None, Vec, Box, Global, append_assoc, append-nil, refl, sym, ap, ◌∙◌}
use Rattle.std.specs.Option.{option_or}
use Rattle.std.proofs.lemmas.List.{drop_all}
use Rattle.vhdl_tree.specs.Tree as t
use Rattle.vhdl_tree.specs.Tree.{Ident, Attribute, exprs_of}
use Rattle.vhdl_tree.specs.View.{view, chain_view, pair_view, suffix_view}
use Rattle.vhdl_tree.specs.declared.expression.Suffix as f
use Rattle.vhdl_tree.specs.declared.expression.Suffix.TheVariants as s
use Rattle.vhdl_tree.specs.declared.operator.Direction.{Direction}
use Rattle.vhdl_tree.specs.declared.operator.Operator.{Operator}
use Rattle.vhdl_tree.specs.declared.expression.Expr.{Expr}
use Rattle.vhdl_tree.specs.declared.expression.Expr.TheVariants as x
use Rattle.vhdl_tree.specs.declared.expression.Chain.{Chain, out-Chain}
use Rattle.vhdl_tree.specs.declared.expression.Link.{Link}
use Rattle.vhdl_tree.proofs.Rows.{chain_is, view_arguments}
use Rattle.vhdl_names_rules.specs.Rules.{◌>>=◌, wider}
use Rattle.vhdl_names_rules.specs.declared.kind.ElementKind.{ElementKind}
use Rattle.vhdl_names_rules.specs.declared.kind.ElementKind.TheVariants.{Element}
use Rattle.vhdl_names_rules.specs.units.Expressions as u
use Rattle.vhdl_names_rules.specs.Visibility.{Sight, Declared, declaration}
use Rattle.vhdl_names_rules.specs.Names.{Suffix}
use Rattle.vhdl_names_rules.specs.Operators as table
use Rattle.vhdl_names_rules.specs.Operators.{Typed, integer, computed, elements, truths_related}
use Rattle.vhdl_names_rules.specs.Expressions.{typed, typed_suffix, typed_each, named, enclosed, beside, sliced, static, as_integer}
use Rattle.vhdl_names_operators.specs.Steps.{operated}
use Rattle.vhdl_names_operators.proofs.Relating.{beside_elements}
use Rattle.vhdl_names_expressions.specs.Chosen.{arguments_of, started, links_of}
use Rattle.vhdl_names_numbers.specs.Integers.{integer_of}
use Rattle.vhdl_names_expressions.specs.Steps.{is_parens, enclosed_if, linked, all_linked, computed_of}

-- ---- chains

pub beside_if : (x : t.Expr) (y : Typed) → beside x y ≡ enclosed_if (is_parens x) y
beside_if (t.bits at s) y = refl
beside_if x y = refl

elements_enclosed : (q : Operator) (x : Typed) (k : ElementKind) (v : u.Vector) → truths_related q x (enclosed (elements k v)) ≡ None
elements_enclosed q x Element (u.character c) = beside_elements q x Element (u.enclosed_character c)
elements_enclosed q x k v = beside_elements q x k v

-- a truth in parentheses is the same
truths_enclosed : (q : Operator) (b : Bool) (x y : Typed) → truths_related q x y ≡ truths_related q x (enclosed_if b y)
truths_enclosed q false x y = refl
truths_enclosed q true x (elements k v) = beside_elements q x k v ∙ sym (elements_enclosed q x k v)
truths_enclosed q true x y = refl

-- an operator on operands, of which the right one stands behind this expression
abbrev pub operated_on : Sight → Link → t.Expr → (x y : Typed) → Option Typed
operated_on sight l d x y =
    option_or (table.operated sight.numbers l.at l.operator x (beside d y)) (wider sight.language (truths_related l.operator x y))

pub operated_is : (sight : Sight) (l : Link) (d : t.Expr) (x y : Typed) →
    operated_on sight l d x y ≡ operated sight.language sight.numbers l.at l.operator x (enclosed_if (is_parens d) y)
operated_is sight l d x y =
    ap (λ z. option_or (table.operated sight.numbers l.at l.operator x z) (wider sight.language (truths_related l.operator x y))) (beside_if d y)
    ∙ ap (λ o. option_or (table.operated sight.numbers l.at l.operator x (enclosed_if (is_parens d) y)) (wider sight.language o)) (truths_enclosed l.operator (is_parens d) x y)

pub linked_typed : (sight : Sight) (b : Bool) (x : t.Expr) (l : Link) →
    typed sight (t.binary b l.operator l.at x (view l.operand)) ≡ linked sight (is_parens x) (typed sight x) l
unfolding typed
linked_typed sight b x l = go (typed sight x)
  where
    next : (v : Typed) (o : Option Typed) →
        (o >>= λ y. operated_on sight l x v y) ≡ (o >>= λ y. operated sight.language sight.numbers l.at l.operator v (enclosed_if (is_parens x) y))
    next v None = refl
    next v (Some y) = operated_is sight l x v y

    go : (o : Option Typed) → (o >>= λ v. (typed sight (view l.operand) >>= λ y. operated_on sight l x v y)) ≡ linked sight (is_parens x) o l
    go None = refl
    go (Some v) = next v (typed sight (view l.operand))

typed-joined : (sight : Sight) (x : t.Expr) (ls : List Link) → is_parens x ≡ false → typed sight (t.all_joined x (map pair_view ls)) ≡ all_linked sight (typed sight x) ls
typed-joined sight x [] h = refl
typed-joined sight x (l ∷ ls) h =
    typed-joined sight (t.joined x (pair_view l)) ls refl
    ∙ ap (λ o. all_linked sight o ls) (linked_typed sight false x l ∙ ap (λ b. linked sight b (typed sight x) l) h)

pub all_linked_none : (sight : Sight) (ls : List Link) → all_linked sight None ls ≡ None
all_linked_none sight [] = refl
all_linked_none sight (l ∷ ls) = all_linked_none sight ls

pub typed-chain : (sight : Sight) (chain : Chain) →
    typed sight (chain_view chain)
    ≡ all_linked sight (linked sight (is_parens (view (out-Chain chain).first)) (typed sight (view (out-Chain chain).first)) (out-Chain chain).second) (out-Chain chain).rest.items
typed-chain sight chain =
    let c = out-Chain chain in
    ap (typed sight) (chain_is chain)
    ∙ typed-joined sight (t.begun (view c.first) (pair_view c.second)) c.rest.items refl
    ∙ ap (λ o. all_linked sight o c.rest.items) (linked_typed sight true (view c.first) c.second)

-- a link that gives nothing leaves nothing
pub link_fails : (sight : Sight) (whole : Option Typed) (v : Typed) (ls : List Link) (i : ℕ) (l : Link) → whole ≡ all_linked sight (Some v) (drop i ls) → i < length ls → l ≡ get_or ls i l →
    linked sight false (Some v) l ≡ None → whole ≡ None
link_fails sight whole v ls i l h lt e f =
    h ∙ ap (all_linked sight (Some v)) (drop-cons ls i l lt) ∙ ap (λ k. all_linked sight (linked sight false (Some v) k) (drop (suc i) ls)) (sym e)
    ∙ ap (λ o. all_linked sight o (drop (suc i) ls)) f ∙ all_linked_none sight (drop (suc i) ls)

-- a link that gives something leaves the links behind it
pub link_goes : (sight : Sight) (v w : Typed) (ls : List Link) (i j : ℕ) (l : Link) → i < length ls → l ≡ get_or ls i l → suc i ≡ j →
    linked sight false (Some v) l ≡ Some w → all_linked sight (Some v) (drop i ls) ≡ all_linked sight (Some w) (drop j ls)
link_goes sight v w ls i j l lt e next gives =
    ap (all_linked sight (Some v)) (drop-cons ls i l lt) ∙ ap (λ k. all_linked sight (linked sight false (Some v) k) (drop (suc i) ls)) (sym e)
    ∙ ap (λ o. all_linked sight o (drop (suc i) ls)) gives ∙ ap (λ k. all_linked sight (Some w) (drop k ls)) next

-- ---- names

-- the identifier first
pub named_in_turn : (sight : Sight) (n : Ident) (s : t.Suffix) (a : Option Attribute) →
    typed sight (t.named n s a) ≡ (declaration sight n.text >>= λ d. (typed_suffix sight s >>= λ x. named sight.language n.at a d x))
unfolding typed
named_in_turn sight n s a = go (typed_suffix sight s) (declaration sight n.text)
  where
    go : (o : Option Suffix) (p : Option Declared) →
        (o >>= λ x. (p >>= λ d. named sight.language n.at a d x)) ≡ (p >>= λ d. (o >>= λ x. named sight.language n.at a d x))
    go None None = refl
    go None (Some d) = refl
    go (Some x) None = refl
    go (Some x) (Some d) = refl

-- ---- arguments

-- what stands before others
abbrev pub front : List Typed → Option (List Typed) → Option (List Typed)
front xs None = None
front xs (Some ys) = Some (xs ++ ys)

pub none_before : (o : Option (List Typed)) → o ≡ front [] o
none_before None = refl
none_before (Some xs) = refl

abbrev taken : Option Typed → Option (List Typed) → Option (List Typed)
taken o p = o >>= λ x. (p >>= λ xs. Some (x ∷ xs))

each_step : (sight : Sight) (whole : Option (List Typed)) (xs : List Typed) (es : List Expr) (i : ℕ) (e : Expr) →
    whole ≡ front xs (typed_each sight (exprs_of (map view (drop i es)))) → i < length es → e ≡ get_or es i e →
    whole ≡ front xs (taken (typed sight (view e)) (typed_each sight (exprs_of (map view (drop (suc i) es)))))
unfolding typed_each
each_step sight whole xs es i e h lt is =
    h ∙ ap (λ l. front xs (typed_each sight (exprs_of (map view l)))) (drop-cons es i e lt)
    ∙ ap (λ k. front xs (taken (typed sight (view k)) (typed_each sight (exprs_of (map view (drop (suc i) es)))))) (sym is)

pub each_fails : (sight : Sight) (whole : Option (List Typed)) (xs : List Typed) (es : List Expr) (i : ℕ) (e : Expr) →
    whole ≡ front xs (typed_each sight (exprs_of (map view (drop i es)))) → i < length es → e ≡ get_or es i e → typed sight (view e) ≡ None → whole ≡ None
each_fails sight whole xs es i e h lt is f =
    each_step sight whole xs es i e h lt is ∙ ap (λ o. front xs (taken o (typed_each sight (exprs_of (map view (drop (suc i) es)))))) f

pub each_goes : (sight : Sight) (whole : Option (List Typed)) (xs : List Typed) (es : List Expr) (i : ℕ) (e : Expr) (y : Typed) →
    whole ≡ front xs (typed_each sight (exprs_of (map view (drop i es)))) → i < length es → e ≡ get_or es i e → typed sight (view e) ≡ Some y →
    whole ≡ front (xs ++ y ∷ []) (typed_each sight (exprs_of (map view (drop (suc i) es))))
each_goes sight whole xs es i e y h lt is f =
    each_step sight whole xs es i e h lt is ∙ ap (λ o. front xs (taken o (typed_each sight (exprs_of (map view (drop (suc i) es)))))) f
    ∙ go (typed_each sight (exprs_of (map view (drop (suc i) es))))
  where
    go : (o : Option (List Typed)) → front xs (taken (Some y) o) ≡ front (xs ++ y ∷ []) o
    go None = refl
    go (Some ys) = ap Some (sym (append_assoc xs (y ∷ []) ys))

pub each_ends : (sight : Sight) (whole : Option (List Typed)) (xs : List Typed) (es : List Expr) (i : ℕ) →
    whole ≡ front xs (typed_each sight (exprs_of (map view (drop i es)))) → length es ≤ i → whole ≡ Some xs
unfolding typed_each
each_ends sight whole xs es i h le = h ∙ ap (λ l. front xs (typed_each sight (exprs_of (map view l)))) (drop_all i es le) ∙ ap Some (append-nil xs)

-- ---- what stands in parentheses

pub static_is : (sight : Sight) (e : t.Expr) → static sight e ≡ (typed sight e >>= as_integer)
unfolding static
static_is sight e = refl

pub arguments_whole : (sight : Sight) (x : f.Suffix) (all : Vec Expr Global) → x ≡ s.Arguments all →
    typed_suffix sight (suffix_view x) ≡ arguments_of sight (exprs_of (map view all.items))
unfolding typed_suffix
arguments_whole sight x all is = ap (λ y. typed_suffix sight (suffix_view y)) is ∙ ap (typed_suffix sight) (view_arguments all)

-- a slice is of two integers, which a run may compute
sliced_both : (x y : Typed) (way : Direction) → sliced x way y ≡ (integer_of x >>= λ l. (integer_of y >>= λ r. sliced l way r))
sliced_both (integer s) (integer r) way = refl
sliced_both (integer s) (computed r) way = refl
sliced_both (computed s) (integer r) way = refl
sliced_both (computed s) (computed r) way = refl
sliced_both x y way = refl

pub sliced_is : (sight : Sight) (d : t.Expr) (way : Direction) (e : t.Expr) →
    typed_suffix sight (t.sliced d way e) ≡ (computed_of sight d >>= λ l. (computed_of sight e >>= λ r. sliced l way r))
unfolding typed_suffix
sliced_is sight d way e = go (typed sight d) (typed sight e)
  where
    nothing_left : (o : Option Typed) → None ≡ (o >>= λ l. (None >>= λ r. sliced l way r))
    nothing_left None = refl
    nothing_left (Some l) = refl

    go : (o p : Option Typed) → (o >>= λ x. (p >>= λ y. sliced x way y)) ≡ ((o >>= integer_of) >>= λ l. ((p >>= integer_of) >>= λ r. sliced l way r))
    go None p = refl
    go (Some x) None = nothing_left (integer_of x)
    go (Some x) (Some y) = sliced_both x y way

module _ (sight : Sight) (d : t.Expr) (way : Direction) (e : t.Expr) where
  pub no_left_bound : computed_of sight d ≡ None → typed_suffix sight (t.sliced d way e) ≡ None
  no_left_bound h = sliced_is sight d way e ∙ ap (λ (o : Option Typed). o >>= λ l. (computed_of sight e >>= λ r. sliced l way r)) h

  with_left_bound : (l : Typed) → computed_of sight d ≡ Some l → typed_suffix sight (t.sliced d way e) ≡ (computed_of sight e >>= λ r. sliced l way r)
  with_left_bound l h = sliced_is sight d way e ∙ ap (λ (o : Option Typed). o >>= λ l. (computed_of sight e >>= λ r. sliced l way r)) h

  pub no_right_bound : (l : Typed) → computed_of sight d ≡ Some l → computed_of sight e ≡ None → typed_suffix sight (t.sliced d way e) ≡ None
  no_right_bound l h k = with_left_bound l h ∙ ap (λ (o : Option Typed). o >>= λ r. sliced l way r) k

  pub both_bounds : (l r : Typed) → computed_of sight d ≡ Some l → computed_of sight e ≡ Some r → typed_suffix sight (t.sliced d way e) ≡ sliced l way r
  both_bounds l r h k = with_left_bound l h ∙ ap (λ (o : Option Typed). o >>= λ r. sliced l way r) k

-- ---- a chain by its beginning and what follows

pub started_is : (sight : Sight) (k : Chain) →
    started sight k ≡ linked sight (is_parens (view (out-Chain k).first)) (typed sight (view (out-Chain k).first)) (out-Chain k).second
unfolding started
started_is sight k = refl

pub chain_begun : (sight : Sight) (e : Expr) (box : Box Chain Global) (k1 k2 : Chain) → e ≡ x.Chain box → k1 ≡ box.value → k2 ≡ box.value →
    typed sight (view e) ≡ all_linked sight (started sight k1) (links_of k2)
chain_begun sight e box k1 k2 is e1 e2 =
    ap (λ v. typed sight (view v)) is ∙ typed-chain sight box.value
    ∙ ap (λ o. all_linked sight o (links_of box.value)) (sym (started_is sight box.value))
    ∙ ap (λ k. all_linked sight (started sight k) (links_of box.value)) (sym e1)
    ∙ ap (λ k. all_linked sight (started sight k1) (links_of k)) (sym e2)
