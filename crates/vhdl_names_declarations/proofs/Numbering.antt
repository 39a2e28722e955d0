-- Counts are small enough for the names that are numbered on from them.
use Rattle.std.proofs.Common.{◌≡◌, ℕ, ◌+◌, ◌^◌, ◌<◌, List, ◌++◌, map, length, Vec, Global, arith}
use Rattle.std.proofs.lemmas.List.{length-map, length-append}
use Rattle.vhdl_names_sight.specs.declared.meaning.Entry.{Entry}
use Rattle.vhdl_names_sight.specs.Views.{entry_view}
use Rattle.vhdl_names_declarations.specs.declared.counts.Counts.{Counts}
use Rattle.vhdl_names_declarations.specs.Counts.{AreCounts, AreSmall}
use Rattle.vhdl_names_declarations.proofs.Counting.{small_counts}

-- of a region, behind its last place
pub small_in_region : (c : Counts) (es : List (Vec ℕ Global × Entry)) (first : ℕ) → first ≡ length es → AreCounts c (map entry_view es) → AreSmall c (2 ^ 63 + first)
small_in_region c es first size h =
    let p = length-map es entry_view in
    let lt : length (map entry_view es) < 2 ^ 63 + first = omega (arith, p, size) in
    small_counts c (map entry_view es) (2 ^ 63 + first) lt h

-- of a region and a process
pub small_in_process : (c : Counts) (es vs : List (Vec ℕ Global × Entry)) (first : ℕ) → length es < 2 ^ 63 → first ≡ length vs → AreCounts c (map entry_view es ++ map entry_view vs) → AreSmall c (2 ^ 63 + first)
small_in_process c es vs first small size h =
    let p = length-map es entry_view in
    let q = length-map vs entry_view in
    let sum = length-append (map entry_view es) (map entry_view vs) in
    let lt : length (map entry_view es ++ map entry_view vs) < 2 ^ 63 + first = omega (arith, p, q, sum, small, size) in
    small_counts c (map entry_view es ++ map entry_view vs) (2 ^ 63 + first) lt h
