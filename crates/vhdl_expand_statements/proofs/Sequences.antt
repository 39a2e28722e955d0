-- Statements behind one another, and turns of a loop.
use Rattle.std.proofs.Common.{◌≡◌, ℕ, ◌+◌, ◌<◌, ◌≤◌, List, [], ◌∷◌, ◌++◌, length, map, get_or, drop, Ok, Err, refl, sym, ap, ◌∙◌, subst}
use Rattle.std.specs.Prelude.{ℤ}
use Rattle.vhdl_tree.specs.declared.operator.Direction.{Direction}
use Rattle.vhdl_names_rules.specs.units.Statements as u
use Rattle.rtl_model.specs.bodies.Body as bodies
use Rattle.rtl_net.specs.declared.body.Statement.{Statement}
use Rattle.rtl_net.specs.Bodies as net
use Rattle.vhdl_names_units.specs.views.Sequential as units
use Rattle.vhdl_expand_rules.specs.Elab.{Elab, ◌>>=◌, each, Told}
use Rattle.vhdl_expand_rules.specs.Integers.{numbers_from}
use Rattle.vhdl_expand_rules.specs.Parameters.{parameter}
use Rattle.vhdl_expand_rules.specs.Site.{Site, in_loop}
use Rattle.vhdl_expand_rules.specs.Statements.{joined_bodies, one, statement, statements}
use Rattle.vhdl_expand_rules.proofs.Steps.{given, ok}
use Rattle.vhdl_expand_rules.proofs.Parameters.{next-turn, no-turn}
use Rattle.vhdl_expand_rules.proofs.Items.{next_left}
use Rattle.vhdl_expand_statements.specs.steps.Statements as steps
use Rattle.vhdl_expand_statements.specs.steps.Statements.{after}

pub followed_assoc : (x y z : bodies.Stmts) → bodies.followed_by (bodies.followed_by x y) z ≡ bodies.followed_by x (bodies.followed_by y z)
followed_assoc bodies.done y z = refl
followed_assoc (bodies.step s x) y z = ap (bodies.step s) (followed_assoc x y z)

pub followed_done : (x : bodies.Stmts) → bodies.followed_by x bodies.done ≡ x
followed_done bodies.done = refl
followed_done (bodies.step s x) = ap (bodies.step s) (followed_done x)

push : (xs : List Statement) (y : Statement) → net.statements_of (xs ++ y ∷ []) ≡ bodies.followed_by (net.statements_of xs) (one (net.statement_view y))
push [] y = refl
push (x ∷ xs) y = ap (bodies.step (net.statement_view x)) (push xs y)

pub statements_push : (xs ys : List Statement) (y : Statement) → ys ≡ xs ++ y ∷ [] → net.statements_of ys ≡ bodies.followed_by (net.statements_of xs) (one (net.statement_view y))
statements_push xs ys y h = ap net.statements_of h ∙ push xs y

-- ---- statements behind others

after_goes : (made new : bodies.Stmts) (r q : Elab bodies.Stmts) → after made r ≡ Ok new → after made (r >>= λ x. q >>= λ y. given (bodies.followed_by x y)) ≡ after new q
after_goes made new (Ok x) (Ok y) h = ap given (sym (followed_assoc made x y) ∙ ap (λ z. bodies.followed_by z y) (ok (bodies.followed_by made x) new h))
after_goes made new (Ok x) (Err p) h = refl
after_goes made new (Err p) q h = absurd cc

after_stops : {told : Told} (made : bodies.Stmts) (r q : Elab bodies.Stmts) → (after made r) ≡ Err told → (after made (r >>= λ x. q >>= λ y. given (bodies.followed_by x y))) ≡ Err told
after_stops made (Ok x) q h = absurd cc
after_stops made (Err p) q h = h

module _ (here : Site) where
  pub list_goes : {X : Type 0} (v : X → u.Statement) (total : Elab bodies.Stmts) (now new : bodies.Stmts) (xs : List X) (i : ℕ) (x : X) → i < length xs → x ≡ get_or xs i x
      → total ≡ after now (statements here (units.statements_of (map v (drop i xs)))) → after now (statement here (v x)) ≡ Ok new
      → total ≡ after new (statements here (units.statements_of (map v (drop (i + 1) xs))))
  unfolding statements
  list_goes v total now new xs i x below is so_far h =
      so_far ∙ ap (λ ys. after now (statements here (units.statements_of (map v ys)))) (next_left xs i x below is)
      ∙ after_goes now new (statement here (v x)) (statements here (units.statements_of (map v (drop (i + 1) xs)))) h

  pub list_stops : {told : Told} {X : Type 0} (v : X → u.Statement) (total : Elab bodies.Stmts) (now : bodies.Stmts) (xs : List X) (i : ℕ) (x : X) → i < length xs → x ≡ get_or xs i x
      → total ≡ after now (statements here (units.statements_of (map v (drop i xs)))) → (after now (statement here (v x))) ≡ Err told → total ≡ Err told
  unfolding statements
  list_stops {told} v total now xs i x below is so_far h =
      subst (λ (r : Elab bodies.Stmts). r ≡ Err told)
      (sym (so_far ∙ ap (λ ys. after now (statements here (units.statements_of (map v ys)))) (next_left xs i x below is)))
      (after_stops now (statement here (v x)) (statements here (units.statements_of (map v (drop (i + 1) xs)))) h)

  pub list_ends : {X : Type 0} (v : X → u.Statement) (total : Elab bodies.Stmts) (now : bodies.Stmts) (xs left : List X) → left ≡ []
      → total ≡ after now (statements here (units.statements_of (map v left))) → total ≡ Ok now
  unfolding statements
  list_ends v total now xs left h so_far = so_far ∙ ap (λ ys. after now (statements here (units.statements_of (map v ys)))) h ∙ ap given (followed_done now)

  -- ---- turns of a loop

  turn-goes : (body : u.Statements) (now new : bodies.Stmts) (i : ℤ) (is : List ℤ) → after now (statements (in_loop here i) body) ≡ Ok new
      → after now (steps.repeated here body (i ∷ is)) ≡ after new (steps.repeated here body is)
  turn-goes body now new i is h = go (statements (in_loop here i) body) (each (λ j. statements (in_loop here j) body) is) h
    where
      go : (r : Elab bodies.Stmts) (q : Elab (List bodies.Stmts)) → after now r ≡ Ok new
          → after now ((r >>= λ y. q >>= λ ys. given (y ∷ ys)) >>= λ ss. given (joined_bodies ss)) ≡ after new (q >>= λ ss. given (joined_bodies ss))
      go (Ok x) (Ok ys) k = ap given (sym (followed_assoc now x (joined_bodies ys)) ∙ ap (λ z. bodies.followed_by z (joined_bodies ys)) (ok (bodies.followed_by now x) new k))
      go (Ok x) (Err p) k = refl
      go (Err p) q k = absurd cc

  turn-stops : {told : Told} (body : u.Statements) (now : bodies.Stmts) (i : ℤ) (is : List ℤ) → (after now (statements (in_loop here i) body)) ≡ Err told
      → (after now (steps.repeated here body (i ∷ is))) ≡ Err told
  turn-stops body now i is h = go (statements (in_loop here i) body) (each (λ j. statements (in_loop here j) body) is) h
    where
      go : {told : Told} (r : Elab bodies.Stmts) (q : Elab (List bodies.Stmts)) → (after now r) ≡ Err told → (after now ((r >>= λ y. q >>= λ ys. given (y ∷ ys)) >>= λ ss. given (joined_bodies ss))) ≡ Err told
      go (Ok x) q k = absurd cc
      go (Err p) q k = k

  pub turns_go : (body : u.Statements) (total : Elab bodies.Stmts) (now new : bodies.Stmts) (direction : Direction) (x i : ℤ) (count k : ℕ) → k < count
      → total ≡ after now (steps.repeated here body (drop k (numbers_from direction x count))) → i ≡ parameter direction x k
      → after now (statements (in_loop here i) body) ≡ Ok new
      → total ≡ after new (steps.repeated here body (drop (k + 1) (numbers_from direction x count)))
  turns_go body total now new direction x i count k below so_far is h =
      so_far ∙ ap (λ js. after now (steps.repeated here body js)) (next-turn direction x count k below ∙ ap (λ j. j ∷ drop (k + 1) (numbers_from direction x count)) (sym is))
      ∙ turn-goes body now new i (drop (k + 1) (numbers_from direction x count)) h

  pub turns_stop : {told : Told} (body : u.Statements) (total : Elab bodies.Stmts) (now : bodies.Stmts) (direction : Direction) (x i : ℤ) (count k : ℕ) → k < count
      → total ≡ after now (steps.repeated here body (drop k (numbers_from direction x count))) → i ≡ parameter direction x k
      → (after now (statements (in_loop here i) body)) ≡ Err told → total ≡ Err told
  turns_stop {told} body total now direction x i count k below so_far is h =
      subst (λ (r : Elab bodies.Stmts). r ≡ Err told)
      (sym (so_far ∙ ap (λ js. after now (steps.repeated here body js)) (next-turn direction x count k below ∙ ap (λ j. j ∷ drop (k + 1) (numbers_from direction x count)) (sym is))))
      (turn-stops body now i (drop (k + 1) (numbers_from direction x count)) h)

  pub turns_end : (body : u.Statements) (total : Elab bodies.Stmts) (now : bodies.Stmts) (direction : Direction) (x : ℤ) (count k : ℕ) → count ≤ k
      → total ≡ after now (steps.repeated here body (drop k (numbers_from direction x count))) → total ≡ Ok now
  turns_end body total now direction x count k h so_far =
      so_far ∙ ap (λ js. after now (steps.repeated here body js)) (no-turn direction x count k h) ∙ ap given (followed_done now)
