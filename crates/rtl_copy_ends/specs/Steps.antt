-- The steps of all walks down copies. A place is a net that is copied, with one of the four sets of values that may be
-- asked for.
use Rattle.std.specs.Prelude.{◌≡◌, ℕ, zero, suc, ◌+◌, ◌*◌, ◌-◌, ◌/◌, ◌%◌, ◌<◌, true, List, length, slice_index}
use Rattle.rtl_net.specs.Nets.{NetlistView}
use Rattle.rtl_process_kinds.specs.AskedValues.{number_of, numbered}
use Rattle.rtl_copy_ends.specs.declared.sight.Sight.{Sight}
use Rattle.rtl_copy_ends.specs.declared.sight.Sight.TheVariants.{Ends, Copies}
use Rattle.rtl_copy_ends.specs.declared.sight.Standing.{Standing}
use Rattle.rtl_copy_ends.specs.declared.walks.Walks.{Walks}
use Rattle.rtl_copy_ends.specs.Ends.{all_kinds, look}
use Rattle.rtl_copy_ends.specs.Inside.{inside}
use Rattle.rtl_seen_nets.specs.Drivers.{seen_nets}

-- ---- places

abbrev pub place_of : Standing → ℕ
place_of s = 4 * s.net + number_of s.asked

abbrev pub standing_at : (place : ℕ) → Standing
standing_at place = record { net = place / 4; asked = numbered (place % 4); copied = true }

-- a walk that ends at a place stays there
abbrev pub place_or : (place : ℕ) → Sight → ℕ
place_or place (Ends end) = place
place_or place (Copies s) = place_of s

abbrev pub next : NetlistView → (place : ℕ) → ℕ
next net place = place_or place (look net (standing_at place))

pub record AreSteps (net : NetlistView) (steps : List ℕ) : Type 0 where
  pub many : length steps ≡ 4 * length net.types
  pub each : (place : ℕ) → place < 4 * length net.types → slice_index steps place ≡ next net place

-- ---- many steps

-- where a place leads in so many
abbrev pub after : (step : ℕ → ℕ) → (many : ℕ) → (place : ℕ) → ℕ
after step zero place = place
after step (suc many) place = after step many (step place)

-- in none
pub record IsEach (size : ℕ) (places : List ℕ) : Type 0 where
  pub many : length places ≡ size
  pub each : (place : ℕ) → place < size → slice_index places place ≡ place

-- where all places lead in so many, by where they lead in one
pub record AreAfter (steps : List ℕ) (many : ℕ) (far : List ℕ) : Type 0 where
  pub places : length far ≡ length steps
  pub each : (place : ℕ) → place < length steps → slice_index far place ≡ after (slice_index steps) many place

-- ---- all walks: but for their first step and their last; and what each net's driver looks at

pub record AreWalks (net : NetlistView) (walks : Walks) : Type 0 where
  pub kinds : walks.kinds.items ≡ all_kinds net
  pub seen : walks.seen.items ≡ seen_nets net (inside net)
  pub places : length walks.far.items ≡ 4 * length net.types
  pub far : (place : ℕ) → place < 4 * length net.types
      → slice_index walks.far.items place ≡ after (next net) (length net.processes - 2) place
