-- How far expectations have been compared, and what contracts see of them.
use Rattle.std.specs.Prelude.{◌≡◌, ◌≢◌, ℕ, ◌-◌, ◌≤◌, nat_lt, Bool, false, List, [], ◌∷◌, ◌++◌, length, map, take, drop, slice_get, option_map, Option, Some, None, Vec, vec_capacity, Result, Ok, Err}
use Rattle.std.proofs.Common.{refl, sym, ap}
use Rattle.std.specs.Global.{Global}
use Rattle.rtl_net.specs.Nets.{NetlistView}
use Rattle.byte_streams.specs.Stands.{Stand}
use Rattle.rtl_expect.specs.declared.expectation.Expectation.{Expectation as KeptExpectation}
use Rattle.rtl_expect.specs.declared.difference.Difference.{Difference as KeptDifference}
use Rattle.rtl_expect.specs.declared.difference.FirstDifferences.{FirstDifferences}
use Rattle.rtl_expect.specs.declared.watching.Expectations.{Expectations}
use Rattle.rtl_expect.specs.declared.faults.ExpectFault.{ExpectFault}
use Rattle.rtl_expect.specs.declared.faults.ExpectFault.TheVariants.{NoMemory}
use Rattle.rtl_expect.specs.Expected.{Expectation, Positions}
use Rattle.rtl_expect.specs.Lines.{expectations_of}
use Rattle.rtl_expect.specs.Differences.{Difference, differences, most_told, standing_at}

-- ---- what contracts see

abbrev pub expectation_view : KeptExpectation → Expectation
expectation_view e = record { line = e.line; time = e.time; signal = e.signal; wanted = e.wanted.items }

abbrev pub list_view : Vec KeptExpectation Global → List Expectation
list_view list = map expectation_view list.items

-- what is expected, in order of time and of lines
abbrev pub expected_by : Expectations → List Expectation
expected_by w = list_view w.list

abbrev pub difference_view : KeptDifference → Difference
difference_view d =
    record {
      line = d.line;
      time = d.time;
      signal = d.signal;
      wanted = d.wanted.items;
      found = option_map (λ codes. codes.items) d.found;
    }

-- those that are told
abbrev pub told_view : FirstDifferences → List Difference
told_view d = map difference_view d.told.items

-- these are the first of all, and so many more there are
pub record AreFirst (d : FirstDifferences) (all : List Difference) : Type 0 where
  pub told : told_view d ≡ take most_told all
  pub more : d.more ≡ length all - most_told

-- what is answered of all that don't hold; None where there is none
abbrev pub AreTold : Option FirstDifferences → (all : List Difference) → Type 0
AreTold None all = all ≡ []
AreTold (Some d) all = (all ≢ []) × AreFirst d all

-- ---- order

abbrev pub Each : (Expectation → Type 0) → List Expectation → Type 0
Each P [] = Unit {0}
Each P (e ∷ es) = P e × Each P es

-- times don't fall
abbrev pub AreInOrder : List Expectation → Type 0
AreInOrder [] = Unit {0}
AreInOrder (e ∷ es) = Each (λ x. e.time ≤ x.time) es × AreInOrder es

-- ---- how far they are

-- of these differences the first are kept, and there is room for as many as are told
pub record Keeps (d : FirstDifferences) (all : List Difference) : Type 0 where
  pub room : most_told ≤ vec_capacity d.told
  pub first : AreFirst d all

-- nothing has been compared
abbrev pub IsFresh : Expectations → Type 0
IsFresh w = (w.next ≡ 0) × Keeps w.found []

-- the expectation that comes next is of a time before this one
abbrev pub is_before : Option Expectation → (until : ℕ) → Bool
is_before None until = false
is_before (Some e) until = nat_lt e.time until

abbrev pub next_is_before : Expectations → (until : ℕ) → Bool
next_is_before w until = is_before (slice_get (expected_by w) w.next) until

-- Of these expectations those at whose times values stand have been compared, and of those that don't hold the first
-- are kept; at the times of the others nothing stands so far.
pub record HasSeen (es : List Expectation) (stands : List Stand) (w : Expectations) : Type 0 where
  pub same : expected_by w ≡ es
  pub compared : List Expectation
  pub cut : es ≡ compared ++ drop w.next es
  pub count : length compared ≡ w.next
  pub reached : Each (λ e. standing_at stands e.time ≢ None) compared
  pub kept : Keeps w.found (differences stands compared)
  pub others : Each (λ e. standing_at stands e.time ≡ None) (drop w.next es)

-- what the expectations are once these stood, if nothing was compared before
abbrev pub IsToldOf : (start : Expectations) → List Stand → (now : Expectations) → Type 0
IsToldOf start stands now = IsFresh start → AreInOrder (expected_by start) → HasSeen (expected_by start) stands now

-- ---- reading

-- Expectations are those of the text, and nothing has been compared. They are refused for want of memory, or with the
-- text's fault.
abbrev pub AreRead : Positions → NetlistView → (text : List ℕ) → Result Expectations ExpectFault → Type 0
AreRead positions net text (Ok w) =
    (expectations_of positions net text ≡ Ok (expected_by w)) × IsFresh w × AreInOrder (expected_by w)
AreRead positions net text (Err fault) = fault ≢ NoMemory → expectations_of positions net text ≡ Err fault

-- ---- before anything stands

nowhere : (es : List Expectation) → Each (λ e. standing_at [] e.time ≡ None) es
nowhere [] = tt
nowhere (e ∷ es) = (refl, nowhere es)

pub fresh_has_seen : (w : Expectations) → IsToldOf w [] w
fresh_has_seen w fresh order = record {
  same = refl;
  compared = [];
  cut = ap (λ (n : ℕ). drop n (expected_by w)) (sym fresh.0);
  count = sym fresh.0;
  reached = tt;
  kept = fresh.1;
  others = nowhere (drop w.next (expected_by w));
}
