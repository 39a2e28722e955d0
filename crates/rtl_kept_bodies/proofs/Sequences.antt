-- Sequences of statements, one statement further.
use Rattle.std.proofs.Common.{◌≡◌, List, [], ◌∷◌, ◌++◌, refl, ap}
use Rattle.rtl_model.specs.bodies.Body.{Stmts, done, step, followed_by}
use Rattle.rtl_net.specs.declared.body.Statement.{Statement}
use Rattle.rtl_net.specs.Bodies.{statement_view, statements_of}

-- ---- one after another

pub followed_done : (s : Stmts) → followed_by s done ≡ s
followed_done done = refl
followed_done (step x s) = ap (step x) (followed_done s)

pub followed_assoc : (s t u : Stmts) → followed_by (followed_by s t) u ≡ followed_by s (followed_by t u)
followed_assoc done t u = refl
followed_assoc (step x s) t u = ap (step x) (followed_assoc s t u)

pub of_append : (xs ys : List Statement) → statements_of (xs ++ ys) ≡ followed_by (statements_of xs) (statements_of ys)
of_append [] ys = refl
of_append (x ∷ xs) ys = ap (step (statement_view x)) (of_append xs ys)
