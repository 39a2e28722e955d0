-- Whether what is expected holds of what stands. At a time the values stand to which the last moment before it or at it
-- settled: the first values that end behind it. Where none stand any more, behind the stop, nothing that is
-- expected holds.
use Rattle.std.specs.Prelude.{ℕ, ◌==◌, ◌&&◌, nat_lt, Bool, true, List, [], ◌∷◌, map, Option, Some, None, flat_map, option_to_list, slice_index, if◌then◌else◌}
use Rattle.byte_streams.specs.Stands.{Stand}
use Rattle.rtl_expect.specs.declared.expected.Wanted.{Wanted}
use Rattle.rtl_expect.specs.Expected.{Expectation}

-- the values that stand at a time
abbrev pub standing_at : List Stand → (time : ℕ) → Option (List ℕ)
standing_at [] time = None
standing_at (stand ∷ stands) time = if nat_lt time stand.until then Some stand.values else standing_at stands time

-- what is wanted is any value, or the one that is found
abbrev pub is_code : Option ℕ → (found : ℕ) → Bool
is_code None found = true
is_code (Some code) found = found == code

abbrev pub found_at : (values : List ℕ) → Wanted → ℕ
found_at values w = slice_index values w.net

abbrev pub is_met : (values : List ℕ) → Wanted → Bool
is_met values w = is_code w.code (found_at values w)

abbrev pub are_met : (values : List ℕ) → List Wanted → Bool
are_met values [] = true
are_met values (w ∷ ws) = is_met values w && are_met values ws

-- an expectation that doesn't hold: its line, time and signal, what is wanted of each net, and what was found; nothing,
-- where no values stand
pub record Difference : Type 0 where
  pub line : ℕ
  pub time : ℕ
  pub signal : ℕ
  pub wanted : List (Option ℕ)
  pub found : Option (List ℕ)

abbrev pub differs : Expectation → (found : Option (List ℕ)) → Difference
differs e found =
    record { line = e.line; time = e.time; signal = e.signal; wanted = map (λ w. w.code) e.wanted; found = found }

-- of an expectation and the values that stand at its time
abbrev pub difference_in : Expectation → Option (List ℕ) → Option Difference
difference_in e None = Some (differs e None)
difference_in e (Some values) =
    if are_met values e.wanted then None else Some (differs e (Some (map (found_at values) e.wanted)))

abbrev pub difference_at : List Stand → Expectation → Option Difference
difference_at stands e = difference_in e (standing_at stands e.time)

-- all that don't hold, in order
abbrev pub differences : List Stand → List Expectation → List Difference
differences stands es = flat_map (λ e. option_to_list (difference_at stands e)) es

-- so many are told at most
abbrev pub most_told : ℕ
most_told = 20
