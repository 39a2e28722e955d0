-- Operands side by side, joined from the left.
use Rattle.std.proofs.Common.{◌≡◌, ℕ, ◌+◌, ◌≤◌, List, [], ◌∷◌, ◌++◌, map, Ok, ap, ◌∙◌, arith}
use Rattle.std.proofs.lemmas.List.{map-append}
use Rattle.rtl_model.specs.bodies.Body as bodies
use Rattle.rtl_model.specs.bodies.Fits.{width}
use Rattle.vhdl_expand_rules.specs.Elab.{Elab}
use Rattle.vhdl_expand_rules.specs.Aggregates.{joined_from, widths}
use Rattle.vhdl_expand_rules.proofs.laws.Aggregates.{widths-push}
use Rattle.vhdl_expand_operands.specs.declared.operand.Operand.{Operand}
use Rattle.vhdl_expand_operands.specs.Operands.{operand_view}

-- one more operand
pub row_more : (xs ys : List Operand) (x : Operand) → ys ≡ xs ++ x ∷ [] → map operand_view ys ≡ map operand_view xs ++ operand_view x ∷ []
row_more xs ys x h = ap (map operand_view) h ∙ map-append operand_view xs (x ∷ [])

pub row_longer : (xs ys : List Operand) (x : Operand) (m len : ℕ) → ys ≡ xs ++ x ∷ [] → widths (map operand_view xs) ≡ m → len ≡ m + x.width.len → widths (map operand_view ys) ≡ len
row_longer xs ys x m len h long is =
    let all = ap widths (row_more xs ys x h) ∙ widths-push (map operand_view xs) (operand_view x) in
    let last = x.counted in
    omega (arith, all, long, last, is)

-- the operands that are left, behind those that are joined
pub record Joins (whole : Elab bodies.Expr) (d : bodies.Expr) (es : List bodies.Expr) : Type 0 where
  pub is : whole ≡ Ok (joined_from d es)
  pub few : width d + widths es ≤ 64
