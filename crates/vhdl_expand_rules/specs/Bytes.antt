-- Bytes of a source as a netlist keeps them.
use Rattle.std.specs.Prelude.{ℕ, ◌-◌, ◌^◌, min}

-- in 32 bits: a source that is read has fewer bytes by far, and each of them is kept as it is
abbrev pub kept : (at : ℕ) → ℕ
kept at = min at (2 ^ 32 - 1)
