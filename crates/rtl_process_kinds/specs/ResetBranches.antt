-- The branch that a clocked body runs while its reset holds.
use Rattle.rtl_model.specs.bodies.Body.{Stmt, if_of, Stmts, done, step, branch}

abbrev pub first_branch : Stmt → Stmts
first_branch (if_of (branch t s rest)) = s
first_branch _ = done

-- of a body's last statement, or what there is where it has none
abbrev pub last_in : {A : Type 0} → (of_one : Stmt → A) → (none : A) → Stmts → A
last_in of_one none done = none
last_in of_one none (step s done) = of_one s
last_in of_one none (step s (step t rest)) = last_in of_one none (step t rest)

-- of a clocked body with a reset that is the first branch of its last if
abbrev pub reset_branch : Stmts → Stmts
reset_branch body = last_in first_branch done body
