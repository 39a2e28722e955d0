-- The forms of bodies: what a body of each form is, and what comes of its branches.
use Rattle.std.proofs.Common.{◌≡◌, ℕ, ◌<◌, true, false, ◌&&◌, List, [], ◌∷◌, length, get_or, set, ◌∙◌, refl, sym, ap, cond, subst, arith}
use Rattle.rtl_net.specs.declared.body.Statement.{Statement}
use Rattle.rtl_net.specs.Bodies.{statement_view, statements_of}
use Rattle.rtl_model.specs.bodies.Body.{Test, Stmt, null_of, assign, set as set_of, assign_at, set_at, if_of, case_of, Stmts, done, step, no_else, otherwise, branch}
use Rattle.rtl_model.specs.bodies.Kinds.{clocking}
use Rattle.std.specs.Prelude.{is_some, None}
use Rattle.std.proofs.lemmas.Bool.{and_parts}
use Rattle.rtl_variable_registers.specs.Bodies.{reset_branch, with_branches, is_register}
use Rattle.rtl_variable_registers.specs.Known.{gives_constants, never_set}
use Rattle.rtl_kept_bodies.specs.declared.forms.Form.{Form}
use Rattle.rtl_kept_bodies.specs.declared.forms.Form.TheVariants.{Alone, ResetFirst, ResetBehind, Other}
use Rattle.rtl_kept_bodies.specs.Steps.{is_if_of, form_of, with_branch, branch_at, edge_branch}

pub data Shape (body : Stmts) : Form → Type 0 where
  alone : (t : Test) (s : Stmts) → body ≡ step (if_of (branch t s no_else)) done → Shape body Alone
  reset_first : (r : Test) (a : Stmts) (t : Test) (s : Stmts)
      → body ≡ step (if_of (branch r a (branch t s no_else))) done → Shape body ResetFirst
  reset_behind : (t : Test) (s : Stmts) (r : Test) (a : Stmts)
      → body ≡ step (if_of (branch t s no_else)) (step (if_of (branch r a no_else)) done) → Shape body ResetBehind
  no_register : ((f g : Stmts → Stmts) → with_branches f g body ≡ body) → reset_branch body ≡ done → edge_branch body ≡ done
      → clocking true [] body ≡ None → Shape body Other

pub shape : (body : Stmts) → Shape body (form_of body)
shape done = no_register (λ f g. refl) refl refl refl
shape (step null_of rest) = no_register (λ f g. refl) refl refl refl
shape (step (assign places v) rest) = no_register (λ f g. refl) refl refl refl
shape (step (set_of es v) rest) = no_register (λ f g. refl) refl refl refl
shape (step (assign_at index spacing places d) rest) = no_register (λ f g. refl) refl refl refl
shape (step (set_at index spacing es d) rest) = no_register (λ f g. refl) refl refl refl
shape (step (case_of v alts) rest) = no_register (λ f g. refl) refl refl refl
shape (step (if_of no_else) rest) = no_register (λ f g. refl) refl refl refl
shape (step (if_of (otherwise x)) rest) = no_register (λ f g. refl) refl refl refl
shape (step (if_of (branch t s no_else)) done) = alone t s refl
shape (step (if_of (branch t s no_else)) (step null_of rest)) = no_register (λ f g. refl) refl refl refl
shape (step (if_of (branch t s no_else)) (step (assign places v) rest)) = no_register (λ f g. refl) refl refl refl
shape (step (if_of (branch t s no_else)) (step (set_of es v) rest)) = no_register (λ f g. refl) refl refl refl
shape (step (if_of (branch t s no_else)) (step (assign_at index spacing places d) rest)) = no_register (λ f g. refl) refl refl refl
shape (step (if_of (branch t s no_else)) (step (set_at index spacing es d) rest)) = no_register (λ f g. refl) refl refl refl
shape (step (if_of (branch t s no_else)) (step (case_of v alts) rest)) = no_register (λ f g. refl) refl refl refl
shape (step (if_of (branch t s no_else)) (step (if_of no_else) rest)) = no_register (λ f g. refl) refl refl refl
shape (step (if_of (branch t s no_else)) (step (if_of (otherwise x)) rest)) = no_register (λ f g. refl) refl refl refl
shape (step (if_of (branch t s no_else)) (step (if_of (branch r a no_else)) done)) = reset_behind t s r a refl
shape (step (if_of (branch t s no_else)) (step (if_of (branch r a no_else)) (step x rest))) = no_register (λ f g. refl) refl refl refl
shape (step (if_of (branch t s no_else)) (step (if_of (branch r a (otherwise x))) rest)) = no_register (λ f g. refl) refl refl refl
shape (step (if_of (branch t s no_else)) (step (if_of (branch r a (branch q x bs))) rest)) = no_register (λ f g. refl) refl refl refl
shape (step (if_of (branch t s (otherwise x))) rest) = no_register (λ f g. refl) refl refl refl
shape (step (if_of (branch r a (branch t s no_else))) done) = reset_first r a t s refl
shape (step (if_of (branch r a (branch t s no_else))) (step x rest)) = no_register (λ f g. refl) refl refl refl
shape (step (if_of (branch r a (branch t s (otherwise x)))) rest) = no_register (λ f g. refl) refl refl refl
shape (step (if_of (branch r a (branch t s (branch q x bs)))) rest) = no_register (λ f g. refl) refl refl refl

-- ---- the form by the ifs

pub form_of_one : (s : Stmt) → form_of (step s done) ≡ cond (is_if_of 1 s) Alone (cond (is_if_of 2 s) ResetFirst Other)
form_of_one null_of = refl
form_of_one (assign places v) = refl
form_of_one (set_of es v) = refl
form_of_one (assign_at index spacing places d) = refl
form_of_one (set_at index spacing es d) = refl
form_of_one (case_of v alts) = refl
form_of_one (if_of no_else) = refl
form_of_one (if_of (otherwise x)) = refl
form_of_one (if_of (branch t s no_else)) = refl
form_of_one (if_of (branch t s (otherwise x))) = refl
form_of_one (if_of (branch r a (branch t s no_else))) = refl
form_of_one (if_of (branch r a (branch t s (otherwise x)))) = refl
form_of_one (if_of (branch r a (branch t s (branch q x bs)))) = refl

pub form_of_two : (s r : Stmt) → form_of (step s (step r done)) ≡ cond (is_if_of 1 s && is_if_of 1 r) ResetBehind Other
form_of_two null_of r = refl
form_of_two (assign places v) r = refl
form_of_two (set_of es v) r = refl
form_of_two (assign_at index spacing places d) r = refl
form_of_two (set_at index spacing es d) r = refl
form_of_two (case_of v alts) r = refl
form_of_two (if_of no_else) r = refl
form_of_two (if_of (otherwise x)) r = refl
form_of_two (if_of (branch t s no_else)) null_of = refl
form_of_two (if_of (branch t s no_else)) (assign places v) = refl
form_of_two (if_of (branch t s no_else)) (set_of es v) = refl
form_of_two (if_of (branch t s no_else)) (assign_at index spacing places d) = refl
form_of_two (if_of (branch t s no_else)) (set_at index spacing es d) = refl
form_of_two (if_of (branch t s no_else)) (case_of v alts) = refl
form_of_two (if_of (branch t s no_else)) (if_of no_else) = refl
form_of_two (if_of (branch t s no_else)) (if_of (otherwise x)) = refl
form_of_two (if_of (branch t s no_else)) (if_of (branch r a no_else)) = refl
form_of_two (if_of (branch t s no_else)) (if_of (branch r a (otherwise x))) = refl
form_of_two (if_of (branch t s no_else)) (if_of (branch r a (branch q x bs))) = refl
form_of_two (if_of (branch t s (otherwise x))) r = refl
form_of_two (if_of (branch r a (branch t s no_else))) q = refl
form_of_two (if_of (branch r a (branch t s (otherwise x)))) q = refl
form_of_two (if_of (branch r a (branch t s (branch q x bs)))) p = refl

pub form_of_more : (s r q : Stmt) (rest : Stmts) → form_of (step s (step r (step q rest))) ≡ Other
form_of_more null_of r q rest = refl
form_of_more (assign places v) r q rest = refl
form_of_more (set_of es v) r q rest = refl
form_of_more (assign_at index spacing places d) r q rest = refl
form_of_more (set_at index spacing es d) r q rest = refl
form_of_more (case_of v alts) r q rest = refl
form_of_more (if_of no_else) r q rest = refl
form_of_more (if_of (otherwise x)) r q rest = refl
form_of_more (if_of (branch t s no_else)) null_of q rest = refl
form_of_more (if_of (branch t s no_else)) (assign places v) q rest = refl
form_of_more (if_of (branch t s no_else)) (set_of es v) q rest = refl
form_of_more (if_of (branch t s no_else)) (assign_at index spacing places d) q rest = refl
form_of_more (if_of (branch t s no_else)) (set_at index spacing es d) q rest = refl
form_of_more (if_of (branch t s no_else)) (case_of v alts) q rest = refl
form_of_more (if_of (branch t s no_else)) (if_of no_else) q rest = refl
form_of_more (if_of (branch t s no_else)) (if_of (otherwise x)) q rest = refl
form_of_more (if_of (branch t s no_else)) (if_of (branch r a no_else)) q rest = refl
form_of_more (if_of (branch t s no_else)) (if_of (branch r a (otherwise x))) q rest = refl
form_of_more (if_of (branch t s no_else)) (if_of (branch r a (branch p x bs))) q rest = refl
form_of_more (if_of (branch t s (otherwise x))) r q rest = refl
form_of_more (if_of (branch r a (branch t s no_else))) p q rest = refl
form_of_more (if_of (branch r a (branch t s (otherwise x)))) p q rest = refl
form_of_more (if_of (branch r a (branch t s (branch o x bs)))) p q rest = refl

-- ---- branches taken out and put back

module _ (f g : Stmts → Stmts) where
  -- the reset's branch taken out, changed and put back, and then the edge's
  abbrev reset_changed : Stmts → Stmts
  reset_changed b = with_branches (λ a. f (reset_branch b)) (λ s. s) (with_branches (λ a. done) (λ s. s) b)

  abbrev edge_changed : Stmts → Stmts
  edge_changed b = with_branches (λ a. a) (λ s. g (edge_branch b)) (with_branches (λ a. a) (λ s. done) b)

  of_form : (b : Stmts) (k : Form) → Shape b k → edge_changed (reset_changed b) ≡ with_branches f g b
  of_form b Alone (alone t s is) = ap (λ x. edge_changed (reset_changed x)) is ∙ sym (ap (with_branches f g) is)
  of_form b ResetFirst (reset_first r a t s is) = ap (λ x. edge_changed (reset_changed x)) is ∙ sym (ap (with_branches f g) is)
  of_form b ResetBehind (reset_behind t s r a is) = ap (λ x. edge_changed (reset_changed x)) is ∙ sym (ap (with_branches f g) is)
  of_form b Other (no_register same r e c) =
      let out : reset_changed b ≡ b = ap (with_branches (λ a. f (reset_branch b)) (λ s. s)) (same _ _) ∙ same _ _ in
      ap edge_changed out ∙ (ap (with_branches (λ a. a) (λ s. g (edge_branch b))) (same _ _) ∙ same _ _) ∙ sym (same f g)

  pub rewritten : (b0 b1 b2 b3 b4 r e : Stmts) → b1 ≡ with_branches (λ a. done) (λ s. s) b0 → r ≡ f (reset_branch b0)
      → b2 ≡ with_branches (λ a. r) (λ s. s) b1 → e ≡ g (edge_branch b2) → b3 ≡ with_branches (λ a. a) (λ s. done) b2
      → b4 ≡ with_branches (λ a. a) (λ s. e) b3 → b4 ≡ with_branches f g b0
  rewritten b0 b1 b2 b3 b4 r e h1 hr h2 he h3 h4 =
      let two : b2 ≡ reset_changed b0 = h2 ∙ ap (λ x. with_branches (λ a. x) (λ s. s) b1) hr ∙ ap (with_branches (λ a. f (reset_branch b0)) (λ s. s)) h1 in
      h4 ∙ ap (λ x. with_branches (λ a. a) (λ s. x) b3) he ∙ ap (with_branches (λ a. a) (λ s. g (edge_branch b2))) h3
      ∙ ap edge_changed two ∙ of_form b0 (form_of b0) (shape b0)

-- taken out and put back
restored : (b : Stmts) (k : Form) → Shape b k → with_branches (λ a. reset_branch b) (λ s. s) (with_branches (λ a. done) (λ s. s) b) ≡ b
restored b Alone (alone t s is) = ap (reset_changed (λ a. a) (λ s. s)) is ∙ sym is
restored b ResetFirst (reset_first r a t s is) = ap (reset_changed (λ a. a) (λ s. s)) is ∙ sym is
restored b ResetBehind (reset_behind t s r a is) = ap (reset_changed (λ a. a) (λ s. s)) is ∙ sym is
restored b Other (no_register same r e c) = ap (with_branches (λ a. reset_branch b) (λ s. s)) (same _ _) ∙ same _ _

pub put_back : (b0 b1 b2 r : Stmts) → b1 ≡ with_branches (λ a. done) (λ s. s) b0 → r ≡ reset_branch b0
    → b2 ≡ with_branches (λ a. r) (λ s. s) b1 → b2 ≡ b0
put_back b0 b1 b2 r h1 hr h2 =
    h2 ∙ ap (λ x. with_branches (λ a. x) (λ s. s) b1) hr ∙ ap (with_branches (λ a. reset_branch b0) (λ s. s)) h1
    ∙ restored b0 (form_of b0) (shape b0)

-- ---- lists of statements

first_of : Stmts → Stmt
first_of done = null_of
first_of (step s rest) = s

rest_of : Stmts → Stmts
rest_of done = done
rest_of (step s rest) = rest

first_is : (xs : List Statement) (s : Stmt) (rest : Stmts) → statements_of xs ≡ step s rest → (x : Statement) → x ≡ get_or xs 0 x → statement_view x ≡ s
unfolding first_of
first_is [] s rest h x at = absurd cc
first_is (y ∷ ys) s rest h x at = ap statement_view at ∙ ap first_of h

first_there : (xs : List Statement) (s : Stmt) (rest : Stmts) → statements_of xs ≡ step s rest → 0 < length xs
first_there [] s rest h = absurd cc
first_there (y ∷ ys) s rest h = omega arith

set_first : (xs : List Statement) (s : Stmt) (rest : Stmts) (y : Statement) → statements_of xs ≡ step s rest
    → statements_of (set xs 0 y) ≡ step (statement_view y) rest
unfolding rest_of
set_first [] s rest y h = absurd cc
set_first (x ∷ xs) s rest y h = ap (λ zs. step (statement_view y) zs) (ap rest_of h)

second_is : (xs : List Statement) (s r : Stmt) (rest : Stmts) → statements_of xs ≡ step s (step r rest) → (x : Statement) → x ≡ get_or xs 1 x → statement_view x ≡ r
unfolding rest_of
second_is [] s r rest h x at = absurd cc
second_is (y ∷ ys) s r rest h x at = first_is ys r rest (ap rest_of h) x at

second_there : (xs : List Statement) (s r : Stmt) (rest : Stmts) → statements_of xs ≡ step s (step r rest) → 1 < length xs
unfolding rest_of
second_there [] s r rest h = absurd cc
second_there (y ∷ ys) s r rest h = let k = first_there ys r rest (ap rest_of h) in omega (arith, k)

set_second : (xs : List Statement) (s r : Stmt) (rest : Stmts) (y : Statement) → statements_of xs ≡ step s (step r rest)
    → statements_of (set xs 1 y) ≡ step s (step (statement_view y) rest)
unfolding first_of rest_of
set_second [] s r rest y h = absurd cc
set_second (x ∷ xs) s r rest y h =
    ap (λ v. step v (statements_of (set xs 0 y))) (ap first_of h) ∙ ap (step s) (set_first xs r rest y (ap rest_of h))

pub no_form : (xs : List Statement) → (length xs ≡ 1 → ⊥) → (length xs ≡ 2 → ⊥) → Other ≡ form_of (statements_of xs)
no_form [] n m = refl
no_form (x ∷ []) n m = absurd (n refl)
no_form (x ∷ y ∷ []) n m = absurd (m refl)
no_form (x ∷ y ∷ z ∷ zs) n m = sym (form_of_more (statement_view x) (statement_view y) (statement_view z) (statements_of zs))

-- ---- a branch exchanged

abbrev pub OfForm : Form → List Statement → Type 0
OfForm k xs = form_of (statements_of xs) ≡ k

shaped : (k : Form) (xs : List Statement) → OfForm k xs → Shape (statements_of xs) k
shaped k xs e = subst (λ (f : Form). Shape (statements_of xs) f) e (shape (statements_of xs))

pub behind_form_there : (xs : List Statement) → OfForm ResetBehind xs → 1 < length xs
behind_form_there xs e = go (shaped ResetBehind xs e)
  where
    go : Shape (statements_of xs) ResetBehind → 1 < length xs
    go (reset_behind t s r a is) = second_there xs _ _ _ is

module _ (xs : List Statement) (R : Stmts) (x : Statement) where
  abbrev Left : (y : Statement) (place number : ℕ) (f g : Stmts → Stmts) → Type 0
  Left y place number f g = x ≡ get_or xs place x → statement_view y ≡ with_branch number R (statement_view x)
      → statements_of (set xs place y) ≡ with_branches f g (statements_of xs)

  abbrev Taken : (place number : ℕ) (of : Stmts → Stmts) → Type 0
  Taken place number of = (z : Stmts) → x ≡ get_or xs place x → z ≡ branch_at number R (statement_view x) → z ≡ of (statements_of xs)

  pub reset_behind_left : (y : Statement) → OfForm ResetBehind xs → Left y 1 0 (λ a. R) (λ s. s)
  reset_behind_left y e = go (shaped ResetBehind xs e)
    where
      go : Shape (statements_of xs) ResetBehind → Left y 1 0 (λ a. R) (λ s. s)
      go (reset_behind t s r a is) at h =
          set_second xs _ _ _ y is ∙ ap (λ v. step (if_of (branch t s no_else)) (step v done)) (h ∙ ap (with_branch 0 R) (second_is xs _ _ _ is x at))
          ∙ sym (ap (with_branches (λ a. R) (λ s. s)) is)

  pub reset_behind_taken : OfForm ResetBehind xs → Taken 1 0 reset_branch
  reset_behind_taken e = go (shaped ResetBehind xs e)
    where
      go : Shape (statements_of xs) ResetBehind → Taken 1 0 reset_branch
      go (reset_behind t s r a is) z at h = h ∙ ap (branch_at 0 R) (second_is xs _ _ _ is x at) ∙ sym (ap reset_branch is)

-- a register's body has a form
pub register_form : (b : Stmts) → is_register b ≡ true → form_of b ≡ Other → ⊥
register_form b reg e = go (subst (λ (f : Form). Shape b f) e (shape b))
  where
    go : Shape b Other → ⊥
    go (no_register same r x none) =
        let clocked = (and_parts (is_some (clocking true [] (with_branches (λ a. done) (λ s. s) b))) (gives_constants (never_set b) (reset_branch b)) reg).0 in
        let not_clocked : is_some (clocking true [] (with_branches (λ a. done) (λ s. s) b)) ≡ false = ap (λ x. is_some (clocking true [] x)) (same (λ a. done) (λ s. s)) ∙ ap is_some none in
        let k : true ≡ false = sym clocked ∙ not_clocked in cc
