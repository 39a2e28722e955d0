-- Which slots are occupied, as bits of words.
use Rattle.std.specs.Prelude.{ℕ, Bool, List, ◌==◌, ◌/◌, ◌%◌, slice_index_or}
use Rattle.std.specs.Int.{bit_at}

-- how many slots a wheel may have
abbrev pub most_slots : ℕ
most_slots = 65536

-- the slot's bit is 1, in words of 64 bits
abbrev pub is_marked : List ℕ → ℕ → Bool
is_marked words slot = bit_at (slice_index_or words (slot / 64) 0) (slot % 64) == 1
