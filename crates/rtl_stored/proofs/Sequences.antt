-- Sequences of statements, one statement further.
use Rattle.std.proofs.Common.{◌≡◌, ℕ, ◌+◌, ◌<◌, Bool, not, ◌&&◌, ◌||◌, List, [], ◌∷◌, ◌++◌, length, get_or, take, sym, ap, ◌∙◌}
use Rattle.std.proofs.lemmas.List.{take_more}
use Rattle.rtl_net.specs.declared.body.Statement.{Statement}
use Rattle.rtl_net.specs.Bodies.{statement_view, statements_of}
use Rattle.rtl_model.specs.bodies.Assigns.{is_element, stmt_must_assign, must_assign}
use Rattle.rtl_model.specs.bodies.Stored.{stmt_stores, stores_element}
use Rattle.rtl_body_facts.specs.Looks.{statement_assigned}
use Rattle.rtl_body_facts.proofs.EveryPath.{any_more}
use Rattle.rtl_body_facts.proofs.Parts.{must_is_any}
use Rattle.rtl_stored.proofs.Marking.{none_more}
use Rattle.rtl_stored.proofs.Walking.{one_more}

module _ (e : ℕ) where
  stores_push : (xs : List Statement) (x : Statement) → stores_element e (statements_of (xs ++ x ∷ []))
      ≡ (stores_element e (statements_of xs) || (not (must_assign (is_element e) (statements_of xs)) && stmt_stores e (statement_view x)))
  stores_push [] x = sym (none_more (stmt_stores e (statement_view x)) (stmt_must_assign (is_element e) (statement_view x)))
  stores_push (y ∷ ys) x =
      ap (λ (b : Bool). stmt_stores e (statement_view y) || (not (stmt_must_assign (is_element e) (statement_view y)) && b)) (stores_push ys x)
      ∙ sym (one_more (stmt_stores e (statement_view y)) (stmt_must_assign (is_element e) (statement_view y)) (stores_element e (statements_of ys)) (must_assign (is_element e) (statements_of ys)) (stmt_stores e (statement_view x)))

  pub stores_more : (xs : List Statement) (i : ℕ) (x : Statement) → i < length xs → x ≡ get_or xs i x → stores_element e (statements_of (take (i + 1) xs))
      ≡ (stores_element e (statements_of (take i xs)) || (not (must_assign (is_element e) (statements_of (take i xs))) && stmt_stores e (statement_view x)))
  stores_more xs i x l at =
      ap (λ (ys : List Statement). stores_element e (statements_of ys)) (take_more xs i x l ∙ ap (λ (y : Statement). take i xs ++ y ∷ []) (sym at))
      ∙ stores_push (take i xs) x

  pub assigns_more : (xs : List Statement) (i : ℕ) (x : Statement) → i < length xs → x ≡ get_or xs i x → must_assign (is_element e) (statements_of (take (i + 1) xs))
      ≡ (must_assign (is_element e) (statements_of (take i xs)) || stmt_must_assign (is_element e) (statement_view x))
  assigns_more xs i x l at =
      must_is_any e (take (i + 1) xs) ∙ (any_more (statement_assigned e) xs i x l at ∙ ap (λ (b : Bool). b || statement_assigned e x) (sym (must_is_any e (take i xs))))
