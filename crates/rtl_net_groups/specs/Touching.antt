-- Which nets may have changed: marks of chunks of 256 nets.
use Rattle.std.specs.Prelude.{◌≡◌, ℕ, ◌*◌, ◌/◌, ◌<◌, ◌≤◌, ◌⊎◌, Bool, false, List, slice_index, slice_index_or}

-- so many nets, and whether each chunk of them is marked
pub record Chunks : Type 0 where
  pub nets : ℕ
  pub marks : List Bool

-- the chunk with this net isn't marked
abbrev pub IsLeft : Chunks → (net : ℕ) → Type 0
IsLeft c net = slice_index_or c.marks (net / 256) false ≡ false

-- no chunk is marked
abbrev pub AreLeft : Chunks → Type 0
AreLeft c = (n : ℕ) → IsLeft c n

-- nets of chunks that aren't marked have one value in both
abbrev pub KeepsLeft : Chunks → (v w : List ℕ) → Type 0
KeepsLeft c v w = (n : ℕ) → IsLeft c n → slice_index v n ≡ slice_index w n

-- Beside what was marked before, the chunks of all nets that change from v to w are marked.
pub record Touches (before after : Chunks) (v w : List ℕ) : Type 0 where
  pub nets_stay : after.nets ≡ before.nets
  pub kept : (n : ℕ) → IsLeft after n → IsLeft before n
  pub others : KeepsLeft after v w

-- Beside what was marked before, the chunks of the nets from `first` on and before `end` are marked, and no others.
pub record MarksRun (first end : ℕ) (before after : Chunks) : Type 0 where
  pub nets_stay : after.nets ≡ before.nets
  pub of_run : (n : ℕ) → first ≤ n → n < end → IsLeft after n → ⊥
  pub kept : (n : ℕ) → IsLeft after n → IsLeft before n
  pub no_other : (n : ℕ) → (n / 256 < first / 256) ⊎ (end ≤ n / 256 * 256) → IsLeft before n → IsLeft after n
