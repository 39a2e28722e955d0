-- Texts of values, part by part.
use Rattle.std.proofs.Common.{◌≡◌, ℕ, List, ◌++◌, ap, ◌∙◌, append_assoc}

-- what is printed behind a page, part by part
pub behind_page : (page first next last : List ℕ) → page ++ first ++ next ++ last ≡ page ++ (first ++ next ++ last)
behind_page page first next last = ap (λ t. t ++ last) (append_assoc page first next) ∙ append_assoc page (first ++ next) last
