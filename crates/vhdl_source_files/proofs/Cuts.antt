-- Halves of a line.
use Rattle.std.proofs.Common.{◌≡◌, ℕ, ◌≤◌, ◌<◌, true, List, length, take, sym, arith}
use Rattle.std.proofs.lemmas.List.{length-take-le}

-- a half that is cut is longer than what is shown of it
pub shown_len : (half : List ℕ) → 100 < length half → 98 ≡ length (take 98 half)
shown_len half more = sym (length-take-le 98 half (omega (arith, more)))
