-- A chain of operators on operands, one operator after another.
use Rattle.std.proofs.Common.{◌≡◌, ℕ, List, [], ◌∷◌, ◌++◌, ◌==◌, Ok, refl, sym, ap, ◌∙◌}
use Rattle.std.proofs.lemmas.Bool.{eqb-true}
use Rattle.rtl_model.specs.bodies.Body as bodies
use Rattle.rtl_model.specs.bodies.Fits.{width, FitsOperands}
use Rattle.rtl_net.specs.declared.body.Link.{Link}
use Rattle.rtl_net.specs.Bodies.{expr_view, operator_view, links_of}
use Rattle.vhdl_expand_rules.specs.declared.fault.ElabProblem.TheVariants.{Length}
use Rattle.vhdl_expand_rules.specs.Elab.{◌>>=◌}
use Rattle.vhdl_expand_rules.specs.Expressions.{operands_fit, operation_on}
use Rattle.vhdl_expand_rules.proofs.Steps.{given, kept}

push : (left : bodies.Expr) (xs : List Link) (y : Link) → links_of left (xs ++ y ∷ []) ≡ bodies.Expr.binary (operator_view y.operator) (links_of left xs) (expr_view y.operand)
push left [] y = refl
push left (x ∷ xs) y = push (bodies.Expr.binary (operator_view x.operator) left (expr_view x.operand)) xs y

pub links_push : (left : bodies.Expr) (xs ys : List Link) (y : Link) → ys ≡ xs ++ y ∷ [] → links_of left ys ≡ bodies.Expr.binary (operator_view y.operator) (links_of left xs) (expr_view y.operand)
links_push left xs ys y h = ap (links_of left) h ∙ push left xs y

-- an operator on operands of so many elements
pub operated_gives : (at : ℕ) (op : bodies.Operator) (d e whole : bodies.Expr) (m n : ℕ) → width d ≡ m → width e ≡ n → operands_fit at op m n ≡ Ok tt → whole ≡ bodies.Expr.binary op d e
    → operation_on at op d e ≡ Ok whole
operated_gives at op d e whole m n h k fit same =
    ap (λ i. operands_fit at op i (width e) >>= λ _. given (bodies.Expr.binary op d e)) h
    ∙ ap (λ j. operands_fit at op m j >>= λ _. given (bodies.Expr.binary op d e)) k
    ∙ ap (λ r. r >>= λ _. given (bodies.Expr.binary op d e)) fit
    ∙ ap given (sym same)

-- the operands of a logical operator are as long as each other
pub operands_alike : (at : ℕ) (op : bodies.Operator) (m n m' n' : ℕ) → m ≡ m' → n ≡ n' → operands_fit at op m' n' ≡ Ok tt → FitsOperands op m n
operands_alike at (bodies.logical op) m n m' n' h k fit = h ∙ eqb-true m' n' (kept (Length m' n') at (m' == n') tt fit) ∙ sym k
operands_alike at _ m n m' n' h k fit = tt
