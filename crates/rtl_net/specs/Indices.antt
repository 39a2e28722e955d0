-- What contracts see of the numbers in a body.
use Rattle.std.specs.Prelude.{ℕ, List}
use Rattle.std.specs.List.{range_with_len}
use Rattle.rtl_net.specs.declared.indices.Indices.{Indices}
use Rattle.rtl_net.specs.declared.indices.Indices.TheVariants as i

-- the numbers from the left
abbrev pub numbers : Indices → List ℕ
numbers (i.Run first len) = range_with_len first len
numbers (i.List listed) = listed.items
