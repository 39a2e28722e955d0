-- Nets in order.
use Rattle.std.specs.Prelude.{◌≡◌, ℕ, ◌<◌, All, List}
use Rattle.vhdl_expand_rules.specs.Prefixes.{in_order}

-- these, in order and each once, whatever bound they are below
abbrev pub IsInOrder : (ns sorted : List ℕ) → Type 0
IsInOrder ns sorted = (count : ℕ) → All (λ n. n < count) ns → in_order count ns ≡ sorted
