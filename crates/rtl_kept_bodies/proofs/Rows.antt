-- The branches of an if, as its view has them.
use Rattle.std.proofs.Common.{◌≡◌, ℕ, zero, suc, ◌<◌, ◌≤◌, ◌==◌, ◌⊎◌, inl, inr, false, List, [], ◌∷◌, length, map, get_or, set, Option, Some, None, Vec, Global, refl, sym, ap, ◌∙◌, arith}
use Rattle.std.specs.Prelude.{option_map}
use Rattle.std.specs.Vec.{with_items}
use Rattle.std.proofs.lemmas.Bool.{cases_eq, eq-eqb, ne_eqb}
use Rattle.std.proofs.lemmas.List.{with_items_is}
use Rattle.rtl_model.specs.bodies.Body.{Test, Stmts, if_of, Branches, no_else, otherwise, branch}
use Rattle.rtl_net.specs.declared.body.Branch.{Branch}
use Rattle.rtl_net.specs.declared.body.Statement.{Statement}
use Rattle.rtl_net.specs.declared.body.Statement.TheVariants as vs
use Rattle.rtl_net.proofs.Rows.{view_if}
use Rattle.rtl_net.specs.Bodies.{test_view, statement_view, statements_of, branches_of, otherwise_of}
use Rattle.rtl_kept_bodies.specs.Rules.{byte_of}
use Rattle.rtl_kept_bodies.specs.Steps.{are_branches, is_if_of, put_at, taken_at, with_branch, branch_at}

same_suc : (m n : ℕ) → (m == n) ≡ (suc m == suc n)
same_suc m n = go (cases_eq m n)
  where
    go : (m ≡ n) ⊎ (m ≡ n → ⊥) → (m == n) ≡ (suc m == suc n)
    go (inl e) = eq-eqb m n e ∙ sym (eq-eqb (suc m) (suc n) (ap suc e))
    go (inr d) = ne_eqb m n d ∙ sym (ne_eqb (suc m) (suc n) (λ e. d (omega (arith, e))))

pub counted_branches : (bs : List Branch) (n : ℕ) → are_branches n (branches_of no_else bs) ≡ (length bs == n)
counted_branches [] zero = refl
counted_branches [] (suc n) = sym (ne_eqb 0 (suc n) (λ e. omega (arith, e)))
counted_branches (b ∷ bs) zero = sym (ne_eqb (suc (length bs)) 0 (λ e. omega (arith, e)))
counted_branches (b ∷ bs) (suc n) = counted_branches bs n ∙ same_suc (length bs) n

pub not_counted : (s : Stmts) (bs : List Branch) (n : ℕ) → are_branches n (branches_of (otherwise s) bs) ≡ false
not_counted s [] zero = refl
not_counted s [] (suc n) = refl
not_counted s (b ∷ bs) zero = refl
not_counted s (b ∷ bs) (suc n) = not_counted s bs n

pub put_is : (last : Branches) (bs : List Branch) (n : ℕ) (b new : Branch) → n < length bs → b ≡ get_or bs n b
    → test_view new.test ≡ test_view b.test
    → branches_of last (set bs n new) ≡ put_at n (statements_of new.statements.items) (branches_of last bs)
put_is last [] n b new l at same = absurd (omega arith)
put_is last (y ∷ ys) zero b new l at same =
    ap (λ (t : Test). branch t (statements_of new.statements.items) (branches_of last ys)) (same ∙ ap (λ (x : Branch). test_view x.test) at)
put_is last (y ∷ ys) (suc n) b new l at same =
    ap (branch (test_view y.test) (statements_of y.statements.items)) (put_is last ys n b new (omega arith) at same)

pub taken_is : (last : Branches) (bs : List Branch) (n : ℕ) (b : Branch) (x : Stmts) → n < length bs → b ≡ get_or bs n b
    → statements_of b.statements.items ≡ taken_at n x (branches_of last bs)
taken_is last [] n b x l at = absurd (omega arith)
taken_is last (y ∷ ys) zero b x l at = ap (λ (c : Branch). statements_of c.statements.items) at
taken_is last (y ∷ ys) (suc n) b x l at = taken_is last ys n b x (omega arith) at

pub put_past : (o : Option (List Statement)) (bs : List Branch) (n : ℕ) (x : Stmts) → length bs ≤ n
    → branches_of (otherwise_of o) bs ≡ put_at n x (branches_of (otherwise_of o) bs)
put_past None [] zero x l = refl
put_past None [] (suc n) x l = refl
put_past (Some s) [] zero x l = refl
put_past (Some s) [] (suc n) x l = refl
put_past o (y ∷ ys) zero x l = absurd (omega arith)
put_past o (y ∷ ys) (suc n) x l = ap (branch (test_view y.test) (statements_of y.statements.items)) (put_past o ys n x (omega arith))

pub taken_past : (o : Option (List Statement)) (bs : List Branch) (n : ℕ) (x : Stmts) → length bs ≤ n
    → x ≡ taken_at n x (branches_of (otherwise_of o) bs)
taken_past None [] zero x l = refl
taken_past None [] (suc n) x l = refl
taken_past (Some s) [] zero x l = refl
taken_past (Some s) [] (suc n) x l = refl
taken_past o (y ∷ ys) zero x l = absurd (omega arith)
taken_past o (y ∷ ys) (suc n) x l = taken_past o ys n x (omega arith)

-- ---- an if

abbrev items-of : Option (Vec Statement Global) → Option (List Statement)
items-of o = option_map (λ v. v.items) o

pub if_is : (x : Statement) (at : ℕ) (bs : Vec Branch Global) (o : Option (Vec Statement Global)) → x ≡ vs.If at bs o
    → statement_view x ≡ if_of (branches_of (otherwise_of (items-of o)) bs.items)
if_is x at bs o is = ap statement_view is ∙ view_if at bs o

module _ (x : Statement) (at : ℕ) (bs : Vec Branch Global) (o : Option (Vec Statement Global)) (is : x ≡ vs.If at bs o) (n : ℕ) where
  pub if_counted : o ≡ None → is_if_of n (statement_view x) ≡ (length bs.items == n)
  if_counted none = ap (is_if_of n) (if_is x at bs o is) ∙ ap (λ q. are_branches n (branches_of (otherwise_of (items-of q)) bs.items)) none ∙ counted_branches bs.items n

  pub if_not_counted : (v : Vec Statement Global) → o ≡ Some v → false ≡ is_if_of n (statement_view x)
  if_not_counted v some =
      sym (ap (is_if_of n) (if_is x at bs o is) ∙ ap (λ q. are_branches n (branches_of (otherwise_of (items-of q)) bs.items)) some ∙ not_counted (statements_of v.items) bs.items n)

  module _ (r : Stmts) where
    pub if_left : (over : Vec Branch Global) (ys more : List Branch) → ys ≡ bs.items → length more ≡ over.len
        → ((p : Option (List Statement)) → branches_of (otherwise_of p) more ≡ put_at n r (branches_of (otherwise_of p) ys))
        → statement_view (vs.If at (with_items over more) o) ≡ with_branch n r (statement_view x)
    if_left over ys more same long h =
        view_if at (with_items over more) o ∙ ap (λ zs. if_of (branches_of (otherwise_of (items-of o)) zs)) (with_items_is over more long)
        ∙ ap if_of (h (items-of o) ∙ ap (λ zs. put_at n r (branches_of (otherwise_of (items-of o)) zs)) same)
        ∙ sym (ap (with_branch n r) (if_is x at bs o is))

    pub if_taken : (ys : List Branch) (z : Stmts) → ys ≡ bs.items → ((p : Option (List Statement)) → z ≡ taken_at n r (branches_of (otherwise_of p) ys))
        → z ≡ branch_at n r (statement_view x)
    if_taken ys z same h =
        h (items-of o) ∙ ap (λ zs. taken_at n r (branches_of (otherwise_of (items-of o)) zs)) same ∙ sym (ap (branch_at n r) (if_is x at bs o is))

-- ---- bytes

byte_if : (at : ℕ) (bs : Vec Branch Global) (o : Option (Vec Statement Global)) → byte_of (vs.If at bs o) ≡ at
byte_if at bs None = refl
byte_if at bs (Some v) = refl

pub own_byte : (x : Statement) (at : ℕ) (bs : Vec Branch Global) (o : Option (Vec Statement Global)) → x ≡ vs.If at bs o → at ≡ byte_of x
own_byte x at bs o is = sym (byte_if at bs o) ∙ sym (ap byte_of is)

pub bytes_stay : (xs : List Statement) (n : ℕ) (x y : Statement) → x ≡ get_or xs n x → byte_of y ≡ byte_of x → map byte_of (set xs n y) ≡ map byte_of xs
bytes_stay [] n x y at h = refl
bytes_stay (z ∷ zs) zero x y at h = ap (λ b. b ∷ map byte_of zs) (h ∙ ap byte_of at)
bytes_stay (z ∷ zs) (suc n) x y at h = ap (λ bs. byte_of z ∷ bs) (bytes_stay zs n x y at h)
