-- Bodies that aren't one assignment copy nothing.
use Rattle.std.proofs.Common.{◌≡◌, List, [], ◌∷◌, length, get_or, None, refl, ap, ◌∙◌, arith}
use Rattle.rtl_model.specs.bodies.Body.{signal, inverse, elements, Stmt, assign, Stmts, done, step}
use Rattle.rtl_model.specs.bodies.Copies.{copying}
use Rattle.rtl_net.specs.declared.body.Statement.{Statement}
use Rattle.rtl_net.specs.declared.body.Statement.TheVariants as vs
use Rattle.rtl_net.specs.Bodies.{statement_view, statements_of}

two_copy_nothing : (s t : Stmt) (rest : Stmts) → None ≡ copying (step s (step t rest))
two_copy_nothing (assign (place ∷ []) (elements (signal (net ∷ [])))) t rest = refl
two_copy_nothing (assign (place ∷ []) (elements (inverse (signal (net ∷ []))))) t rest = refl
two_copy_nothing _ t rest = refl

pub not_one : (body : List Statement) → (length body ≡ 1 → ⊥) → None ≡ copying (statements_of body)
not_one [] n = refl
not_one (x ∷ []) n = absurd (n refl)
not_one (x ∷ y ∷ ys) n = two_copy_nothing (statement_view x) (statement_view y) (statements_of ys)

other_copies_nothing : (x : Statement) → ((places : _) (value : _) → x ≡ vs.Assign places value → ⊥) → None ≡ copying (step (statement_view x) done)
other_copies_nothing vs.Null n = refl
other_copies_nothing (vs.Assign places value) n = absurd (n places value refl)
other_copies_nothing (vs.Set es value) n = refl
other_copies_nothing (vs.AssignAt at index spacing places value) n = refl
other_copies_nothing (vs.SetAt at index spacing es value) n = refl
other_copies_nothing (vs.If' at shape branches last) n = refl
other_copies_nothing (vs.Case' at selector shape alternatives of_last last) n = refl

pub no_assignment : (body : List Statement) (x : Statement) → length body ≡ 1 → x ≡ get_or body 0 x → ((places : _) (value : _) → x ≡ vs.Assign places value → ⊥)
    → None ≡ copying (statements_of body)
no_assignment [] x l is n = absurd (omega arith)
no_assignment (y ∷ []) x l is n = other_copies_nothing x n ∙ ap (λ (z : Statement). copying (step (statement_view z) done)) is
no_assignment (y ∷ z ∷ zs) x l is n = absurd (omega arith)
