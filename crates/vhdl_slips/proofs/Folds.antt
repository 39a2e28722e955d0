-- What is found by each of some tokens, by the first of them.
use Rattle.std.proofs.Common.{◌≡◌, ◌≤◌, List, [], ◌∷◌, length, slice_index_or, ap, arith}
use Rattle.vhdl_slips.proofs.Rest.{rest, rest_is}
use Rattle.vhdl_slips.specs.Parts.{found_by}
use Rattle.vhdl_lexer.specs.declared.token.Token.{Token}

pub found_more : {A : Type 0} (step : A → Token → List Token → A) (found : A) (d : Token) (ts : List Token) → 1 ≤ length ts
    → found_by step (step found (slice_index_or ts 0 d) (rest ts)) (rest ts) ≡ found_by step found ts
found_more step found d [] some = absurd (omega (arith, some))
found_more step found d (t ∷ ts) some = ap (λ (left : List Token). found_by step (step found t left) left) (rest_is t ts)
