-- Ifs of the code, and statements that are none; the last branch, and the last statement.
use Rattle.std.proofs.Common.{◌≡◌, ℕ, suc, zero, ◌-◌, ◌+◌, ◌<◌, ◌||◌, Bool, true, false, List, [], ◌∷◌, ◌++◌, map, length, get_or, set, drop, reverse, Option, Some, None, option_map, Vec, Global, refl, sym, ap, ◌∙◌, arith}
use Rattle.std.specs.Prelude.{option_copied}
use Rattle.std.specs.List.{slice_get}
use denote.Ref.{Bor}
use Rattle.std.proofs.lemmas.List.{reverse-append, drop_more}
use Rattle.vhdl_names_rules.specs.units.Statements as s
use Rattle.vhdl_names_trees.specs.views.Tests.{test_view}
use Rattle.vhdl_names_rules.specs.Registers.{behind, has_register}
use Rattle.vhdl_names_units.specs.declared.sequential.Statement.{Statement}
use Rattle.vhdl_names_units.specs.declared.sequential.Statement.TheVariants as t
use Rattle.vhdl_names_units.specs.declared.sequential.Branch.{Branch}
use Rattle.vhdl_names_units.specs.declared.sequential.If.{If, out-If, roll-If, roll-out-If, out-roll-If}
use Rattle.vhdl_names_units.specs.declared.sequential.Case.{Case'}
use Rattle.vhdl_names_units.specs.views.Sequential.{statement_view, statements_of, body_view, branch_view, branches_view, branches_of, last_of, option_statements_view}
use Rattle.vhdl_names_units.proofs.rows.Sequential.{view_if}
use Rattle.vhdl_names_registers.specs.Branching.{start_in, branches_in, statement_at}
use Rattle.vhdl_names_registers.specs.Tied.{is_null, is_register, with_edge_first, edges_first, are_tied, last_body, with_behind, merged, with_last}
use Rattle.vhdl_names_registers.proofs.Tying.{behind_done, last_behind, first}

pub if_is : (x : If) → statement_view (t.If x) ≡ s.if_of (start_in x) (branches_in x)
if_is x = ap (λ y. statement_view (t.If y)) (sym (roll-out-If x)) ∙ view_if (out-If x).at (out-If x).branches (out-If x).otherwise

pub if_made : (at : ℕ) (branches : Vec Branch Global) (otherwise : Option (Vec Statement Global)) →
    branches_in (roll-If (record { at = at; branches = branches; otherwise = otherwise })) ≡ branches_of (branches_view branches) (last_of (option_statements_view otherwise))
if_made at branches otherwise =
    ap (λ r. branches_of (branches_view r.branches) (last_of (option_statements_view r.otherwise))) (out-roll-If (record { at = at; branches = branches; otherwise = otherwise }))

pub if_merged : (x y z : If) (v w : Statement) → v ≡ t.If x → w ≡ t.If y → start_in z ≡ start_in x → branches_in z ≡ with_behind (branches_in x) (last_body (branches_in y))
    → statement_view (t.If z) ≡ merged (statement_view v) (statement_view w)
if_merged x y z v w is also at bs =
    if_is z
    ∙ (ap (λ a. s.if_of a (branches_in z)) at ∙ (ap (s.if_of (start_in x)) bs
    ∙ sym (ap (λ a. merged a (statement_view w)) (ap statement_view is ∙ if_is x) ∙ ap (merged (s.if_of (start_in x) (branches_in x))) (ap statement_view also ∙ if_is y))))

-- what is no if in the code is none
abbrev is_if : s.Statement → Bool
is_if (s.if_of at bs) = true
is_if x = false

no_if : (x : Statement) → ((z : If) → x ≡ t.If z → ⊥) → is_if (statement_view x) ≡ false
no_if (t.If x) other = absurd (other x refl)
no_if (t.Case (Case' at selector shape alternatives last others_shape others)) other = refl
no_if _ other = refl

untied_first : (x y : s.Statement) → is_if x ≡ false → are_tied x y ≡ false
untied_first (s.if_of at bs) y h = absurd cc
untied_first x y h = refl

untied_second : (x y : s.Statement) → is_if y ≡ false → are_tied x y ≡ false
untied_second x (s.if_of at bs) h = absurd cc
untied_second (s.if_of at bs) y h = refl
untied_second x y h = refl

unmerged_first : (x y : s.Statement) → is_if x ≡ false → merged x y ≡ x
unmerged_first (s.if_of at bs) y h = absurd cc
unmerged_first x y h = refl

unmerged_second : (x y : s.Statement) → is_if y ≡ false → merged x y ≡ x
unmerged_second x (s.if_of at bs) h = absurd cc
unmerged_second (s.if_of at bs) y h = refl
unmerged_second x y h = refl

unregistered : (x : s.Statement) → is_if x ≡ false → is_register x ≡ false
unregistered (s.if_of at bs) h = absurd cc
unregistered x h = refl

as_it_is : (x : s.Statement) → is_if x ≡ false → with_edge_first x ≡ x
as_it_is (s.if_of at bs) h = absurd cc
as_it_is x h = refl

pub no_if_first : (x : Statement) (y : s.Statement) → ((z : If) → x ≡ t.If z → ⊥) → are_tied (statement_view x) y ≡ false
no_if_first x y other = untied_first (statement_view x) y (no_if x other)

pub no_if_second : (x : s.Statement) (y : Statement) → ((z : If) → y ≡ t.If z → ⊥) → are_tied x (statement_view y) ≡ false
no_if_second x y other = untied_second x (statement_view y) (no_if y other)

pub no_merge_first : (x : Statement) (y : s.Statement) → ((z : If) → x ≡ t.If z → ⊥) → merged (statement_view x) y ≡ statement_view x
no_merge_first x y other = unmerged_first (statement_view x) y (no_if x other)

pub no_merge_second : (x : s.Statement) (y : Statement) → ((z : If) → y ≡ t.If z → ⊥) → merged x (statement_view y) ≡ x
no_merge_second x y other = unmerged_second x (statement_view y) (no_if y other)

pub no_register : (x : Statement) → ((z : If) → x ≡ t.If z → ⊥) → is_register (statement_view x) ≡ false
no_register x other = unregistered (statement_view x) (no_if x other)

pub other_stays : (x : Statement) → ((z : If) → x ≡ t.If z → ⊥) → with_edge_first (statement_view x) ≡ statement_view x
other_stays x other = as_it_is (statement_view x) (no_if x other)

pub statement_kept : (x : s.Statement) (xs : s.Statements) → is_null x ≡ false → edges_first (s.step x xs) ≡ s.step (with_edge_first x) (edges_first xs)
statement_kept s.null_of xs h = absurd cc
statement_kept x xs h = refl

pub null_dropped : (x : s.Statement) (xs : s.Statements) → is_null x ≡ true → edges_first (s.step x xs) ≡ edges_first xs
null_dropped s.null_of xs h = refl
null_dropped x xs h = absurd cc

register_in : (x : s.Statement) (xs : s.Statements) → has_register (s.step x xs) ≡ is_register x || has_register xs
register_in (s.if_of at bs) xs = refl
register_in x xs = refl

pub register_at : (xs : List Statement) (i : ℕ) (x : Statement) → i < length xs → x ≡ get_or xs i x → has_register (statements_of (map statement_view (drop i xs)))
    ≡ is_register (statement_view x) || has_register (statements_of (map statement_view (drop (i + 1) xs)))
register_at xs i x h is =
    ap (λ ys. has_register (statements_of (map statement_view ys))) (drop_more xs i x h)
    ∙ (ap (λ y. has_register (s.step (statement_view y) (statements_of (map statement_view (drop (i + 1) xs))))) (sym is)
    ∙ register_in (statement_view x) (statements_of (map statement_view (drop (i + 1) xs))))

-- ---- the last branch of an if, and the last statement

pub last_body_is : (bs : List Branch) (b : Branch) (o : Option (List s.Statement)) → last_body (branches_of (map branch_view (bs ++ b ∷ [])) (last_of o)) ≡ body_view b.statements
last_body_is [] b None = refl
last_body_is [] b (Some xs) = refl
last_body_is (c ∷ []) b o = last_body_is [] b o
last_body_is (c ∷ d ∷ bs) b o = last_body_is (d ∷ bs) b o

pub no_last_body : (bs : List Branch) (o : Option (List s.Statement)) → length bs ≡ 0 → last_body (branches_of (map branch_view bs) (last_of o)) ≡ s.done
no_last_body [] None h = refl
no_last_body [] (Some xs) h = refl
no_last_body (b ∷ bs) o h = absurd cc

one_branch : (d b c : Branch) (more : s.Statements) (last : s.Branches) → b ≡ d → c.condition ≡ b.condition → body_view c.statements ≡ behind (body_view b.statements) more
    → s.branch (test_view d.condition) (behind (body_view d.statements) more) last ≡ s.branch (test_view c.condition) (body_view c.statements) last
one_branch d b c more last is condition body =
    ap (λ (v : Branch). s.branch (test_view v.condition) (behind (body_view v.statements) more) last) (sym is)
    ∙ (ap (λ ys. s.branch (test_view b.condition) ys last) (sym body) ∙ ap (λ r. s.branch (test_view r) (body_view c.statements) last) (sym condition))

pub behind_last : (bs : List Branch) (k : ℕ) (b c : Branch) (o : Option (List s.Statement)) (more : s.Statements) → suc k ≡ length bs → b ≡ get_or bs k b
    → c.condition ≡ b.condition → body_view c.statements ≡ behind (body_view b.statements) more
    → branches_of (map branch_view (set bs k c)) (last_of o) ≡ with_behind (branches_of (map branch_view bs) (last_of o)) more
behind_last [] k b c o more h is condition body = absurd cc
behind_last (d ∷ []) zero b c None more h is condition body = sym (one_branch d b c more s.no_else is condition body)
behind_last (d ∷ []) zero b c (Some xs) more h is condition body = sym (one_branch d b c more (s.otherwise (statements_of xs)) is condition body)
behind_last (d ∷ []) (suc k) b c o more h is condition body = absurd cc
behind_last (d ∷ e ∷ bs) zero b c o more h is condition body = absurd (omega (arith, h))
behind_last (d ∷ e ∷ bs) (suc k) b c o more h is condition body =
    ap (s.branch (test_view d.condition) (body_view d.statements)) (behind_last (e ∷ bs) k b c o more (omega (arith, h)) is condition body)

pub nothing_behind : (bs : List Branch) (o : Option (List s.Statement)) (more : s.Statements) → length bs ≡ 0
    → branches_of (map branch_view bs) (last_of o) ≡ with_behind (branches_of (map branch_view bs) (last_of o)) more
nothing_behind [] None more h = refl
nothing_behind [] (Some xs) more h = refl
nothing_behind (b ∷ bs) o more h = absurd cc

-- ---- statements one behind the other

pub one_behind : (xs : List Statement) (x : Statement) (ys : s.Statements)
    → behind (statements_of (map statement_view xs)) (s.step (statement_view x) ys) ≡ behind (statements_of (map statement_view (xs ++ x ∷ []))) ys
one_behind [] x ys = refl
one_behind (y ∷ xs) x ys = ap (s.step (statement_view y)) (one_behind xs x ys)

-- one behind others, and the one that stands last merged
pub pushed : (xs : List Statement) (x : Statement) → statements_of (map statement_view (xs ++ x ∷ [])) ≡ behind (statements_of (map statement_view xs)) (s.step (statement_view x) s.done)
pushed xs x = sym (one_behind xs x s.done ∙ behind_done _)

pub last_merged : (xs : List Statement) (x w : Statement) (y : s.Statement) → statement_view w ≡ merged (statement_view x) y
    → statements_of (map statement_view (xs ++ w ∷ [])) ≡ with_last (statements_of (map statement_view (xs ++ x ∷ []))) y
last_merged xs x w y e =
    let before = statements_of (map statement_view xs) in
    pushed xs w
    ∙ (ap (λ v. behind before (s.step v s.done)) e ∙ (sym (last_behind before (statement_view x) y) ∙ sym (ap (λ ys. with_last ys y) (pushed xs x))))

pub none_left : {A : Type 0} (xs : List A) → length xs ≡ 0 → xs ≡ []
none_left [] e = refl
none_left (x ∷ xs) e = absurd cc

-- ---- statements from the last to the first

abbrev pub left_onto : List Statement → s.Statements → s.Statements
left_onto [] ys = ys
left_onto (x ∷ xs) ys = left_onto xs (s.step (statement_view x) ys)

abbrev pub left_of : List Statement → s.Statements
left_of xs = left_onto xs s.done

onto_push : (xs : List Statement) (x : Statement) (ys : s.Statements) → left_onto (xs ++ x ∷ []) ys ≡ s.step (statement_view x) (left_onto xs ys)
onto_push [] x ys = refl
onto_push (y ∷ xs) x ys = onto_push xs x (s.step (statement_view y) ys)

pub left_push : (xs : List Statement) (x : Statement) → left_of (xs ++ x ∷ []) ≡ s.step (statement_view x) (left_of xs)
left_push xs x = onto_push xs x s.done

pub left_reversed : (xs : List Statement) → left_of (reverse xs) ≡ statements_of (map statement_view xs)
left_reversed [] = refl
left_reversed (x ∷ xs) = ap left_of (reverse-append (x ∷ []) xs) ∙ (left_push (reverse xs) x ∙ ap (s.step (statement_view x)) (left_reversed xs))

first_onto : (xs : List Statement) (k : ℕ) (ys : s.Statements) → suc k ≡ length xs → first (left_onto xs ys) ≡ option_map statement_view (slice_get xs k)
first_onto [] k ys h = absurd cc
first_onto (x ∷ []) zero ys h = refl
first_onto (x ∷ []) (suc k) ys h = absurd cc
first_onto (x ∷ y ∷ xs) zero ys h = absurd (omega (arith, h))
first_onto (x ∷ y ∷ xs) (suc k) ys h = first_onto (y ∷ xs) k (s.step (statement_view x) ys) (omega (arith, h))

first_left : (xs : List Statement) (k : ℕ) → k ≡ length xs - 1 → first (left_of xs) ≡ option_map statement_view (slice_get xs k)
first_left [] k h = refl
first_left (x ∷ xs) k h = first_onto (x ∷ xs) k s.done (omega (arith, h))

looked_at : (r : Option (Bor Statement)) → option_map statement_view (option_copied r) ≡ option_map statement_at r
looked_at None = refl
looked_at (Some x) = refl

pub first_is : (xs : List Statement) (r : Option (Bor Statement)) → option_copied r ≡ slice_get xs (length xs - 1) → first (left_of xs) ≡ option_map statement_at r
first_is xs r h = first_left xs (length xs - 1) refl ∙ (sym (ap (option_map statement_view) h) ∙ looked_at r)
