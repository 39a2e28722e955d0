-- Integers that are lost: a number at one moment, and none at the next. What is settled counts. An object of an integer
-- type or subtype has a number of it; one outside, or a division by 0, is an error of the run (IEEE 1076-2008, 5.2.3.1,
-- 9.2.7, 10.5.2.1, 10.6.2.1). Here the run goes on, and each digit of the object may be X (own).
use Rattle.std.specs.Prelude.{ℕ, suc, Bool, ◌&&◌, not, if◌then◌else◌, List, [], ◌∷◌, ◌++◌, Option, Some, None, slice_index}
use Rattle.std.specs.List.{list_all}
use Rattle.std.specs.Option.{option_or}
use Rattle.vhdl_values.specs.Scalar.{value_of_code}
use Rattle.vhdl_values.specs.Numbers.{is_good}
use Rattle.byte_streams.specs.Stands.{Stand}
use Rattle.rtl_net.specs.Nets.{NetlistView, SignalView}
use Rattle.rtl_net.specs.declared.signal.SignalKind.{SignalKind}
use Rattle.rtl_net.specs.declared.signal.SignalKind.TheVariants.{Integer}
use Rattle.rtl_lost_integers.specs.declared.watching.LostInteger.{LostInteger}

-- ---- integers

-- a signal or port of an integer type or subtype, by its number, and the nets of its digits
pub record IntegerView : Type 0 where
  pub signal : ℕ
  pub nets : List ℕ

abbrev pub of_kind : SignalKind → (signal : ℕ) → (nets : List ℕ) → List IntegerView
of_kind (Integer least greatest) signal nets = record { signal = signal; nets = nets } ∷ []
of_kind kind signal nets = []

-- those of these signals, the first of which has this number
abbrev pub integers_from : (number : ℕ) → List SignalView → List IntegerView
integers_from number [] = []
integers_from number (s ∷ ss) = of_kind s.kind number s.nets ++ integers_from (suc number) ss

abbrev pub integers_of : NetlistView → List IntegerView
integers_of net = integers_from 0 net.signals

-- ---- lost ones

-- the values of all nets make a number of these: each digit is good, as it has to be to be told by other than `x`
abbrev pub is_number : (values : List ℕ) → (nets : List ℕ) → Bool
is_number values nets = list_all (λ net. is_good (value_of_code (slice_index values net))) nets

abbrev pub is_lost : (before now : List ℕ) → IntegerView → Bool
is_lost before now i = is_number before i.nets && not (is_number now i.nets)

-- the signal of the first of these that is lost
abbrev pub first_of : (before now : List ℕ) → List IntegerView → Option ℕ
first_of before now [] = None
first_of before now (i ∷ is) = if is_lost before now i then Some i.signal else first_of before now is

abbrev pub lost_at : (time : ℕ) → (signal : Option ℕ) → Option LostInteger
lost_at time None = None
lost_at time (Some signal) = Some (record { time = time; signal = signal })

-- where these values stand behind others: they do from the time on until which those stood
abbrev pub lost_behind : List IntegerView → (before : Stand) → List Stand → Option LostInteger
lost_behind is before [] = None
lost_behind is before (now ∷ stands) =
    option_or (lost_at before.until (first_of before.values now.values is)) (lost_behind is now stands)

-- the first that is lost, of those at one time the first in order
abbrev pub first_lost : List IntegerView → List Stand → Option LostInteger
first_lost is [] = None
first_lost is (x ∷ stands) = lost_behind is x stands
