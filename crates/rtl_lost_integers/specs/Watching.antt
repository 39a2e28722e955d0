-- What is kept of integers while a netlist is simulated, and what contracts see of it.
use Rattle.std.specs.Prelude.{⊤, ◌≡◌, ℕ, Bool, true, false, ◌&&◌, not, if◌then◌else◌, All, List, [], ◌∷◌, map, Option, Some, None}
use Rattle.std.proofs.Common.{suc, refl, arith}
use Rattle.byte_streams.specs.Stands.{Stand}
use Rattle.rtl_net.specs.Nets.{NetlistView}
use Rattle.rtl_lost_integers.specs.declared.integer.Integer.{Integer}
use Rattle.rtl_lost_integers.specs.declared.watching.Integers.{Integers}
use Rattle.rtl_lost_integers.specs.declared.watching.LostInteger.{LostInteger}
use Rattle.rtl_lost_integers.specs.Lost.{IntegerView, integers_of, is_number, first_lost}

abbrev pub integer_view : Integer → IntegerView
integer_view i = record { signal = i.signal; nets = i.nets.items }

abbrev pub integers_view : List Integer → List IntegerView
integers_view is = map integer_view is

-- ---- one look at some values

abbrev pub is_lost_now : (values : List ℕ) → Integer → Bool
is_lost_now values i = i.was_number && not (is_number values i.nets.items)

abbrev pub seen : (values : List ℕ) → Integer → Integer
seen values i = record i { was_number = is_number values i.nets.items }

abbrev pub first_now : (values : List ℕ) → List Integer → Option ℕ
first_now values [] = None
first_now values (i ∷ is) = if is_lost_now values i then Some i.signal else first_now values is

-- ---- how far they are

-- the values that stood last
abbrev pub last_of : List Stand → Option Stand
last_of [] = None
last_of (x ∷ []) = Some x
last_of (x ∷ y ∷ stands) = last_of (y ∷ stands)

abbrev pub was_number : (last : Option Stand) → IntegerView → Bool
was_number None i = false
was_number (Some x) i = is_number x.values i.nets

abbrev pub IsSince : (last : Option Stand) → (since : ℕ) → Type 0
IsSince None since = ⊤
IsSince (Some x) since = since ≡ x.until

-- of each integer it is kept whether it was a number last, and from when on what comes next stands
pub record AreLast (is : List IntegerView) (last : Option Stand) (w : Integers) : Type 0 where
  pub were : map (λ (i : Integer). i.was_number) w.integers.items ≡ map (was_number last) is
  pub since : IsSince last w.since

-- The first of these integers that is lost while these stand is kept, and until there is one, what stood last.
pub record HasSeen (is : List IntegerView) (stands : List Stand) (w : Integers) : Type 0 where
  pub same : integers_view w.integers.items ≡ is
  pub lost : w.lost ≡ first_lost is stands
  pub last : w.lost ≡ None → AreLast is (last_of stands) w

-- nothing was looked at
abbrev pub is_fresh : Integer → Type 0
is_fresh i = i.was_number ≡ false

pub record IsFresh (w : Integers) : Type 0 where
  pub lost : w.lost ≡ None
  pub each : All is_fresh w.integers.items

-- those of a netlist, where they are asked for
abbrev pub watched : (asked : Bool) → NetlistView → List IntegerView
watched true net = integers_of net
watched false net = []

abbrev pub AreWatched : (asked : Bool) → NetlistView → Integers → Type 0
AreWatched asked net w = (integers_view w.integers.items ≡ watched asked net) × IsFresh w

-- what they are once these stood, if nothing was looked at before
abbrev pub IsToldOf : (start : Integers) → List Stand → (now : Integers) → Type 0
IsToldOf start stands now = IsFresh start → HasSeen (integers_view start.integers.items) stands now

-- ---- before anything stands

fresh_were : (is : List Integer) → All is_fresh is
    → map (λ (i : Integer). i.was_number) is ≡ map (was_number None) (integers_view is)
fresh_were [] all = refl
fresh_were (i ∷ is) all =
    let first : i.was_number ≡ false = all 0 i (omega arith) in
    let others = fresh_were is (λ k d l. all (suc k) d (omega (arith, l))) in
    cc

pub nothing_seen : (w : Integers) → IsToldOf w [] w
nothing_seen w fresh = record {
  same = refl;
  lost = fresh.lost;
  last = λ none. record { were = fresh_were w.integers.items fresh.each; since = tt };
}
