use Rattle.std.proofs.Common.{◌≡◌, ◌+◌, ◌≤◌, Bool, List, ℕ, drop, length}
use Rattle.std.specs.List.{position_or_len}
use Rattle.std.specs.Str.{str_eq_ignore_ascii_case}
use Rattle.vhdl_literals.specs.Declarations.{literal_names}
use Rattle.vhdl_literals.proofs.literals.position.Given as goal

-- the literals before this one have other names
abbrev pub invariant-loop-token : goal.invariant-loop-token
invariant-loop-token l =
    let is : List ℕ → Bool = λ literal. str_eq_ignore_ascii_case literal l.name in
    let names = literal_names l.text l.literals in
    let left = literal_names l.text (drop l.token-index l.literals) in
    (position_or_len is names ≡ l.position + position_or_len is left) × (length names ≡ l.position + length left) × (l.position ≤ l.token-index)
