-- The process of a circle that can be split: it drives more than one net, and the one on the circle doesn't look at
-- the next, so that a process for that net alone needn't be sensitive to the next. Where each net looks at the next
-- there is none.
use Rattle.std.specs.Prelude.{ℕ, ◌-◌, ◌&&◌, not, Bool, if◌then◌else◌, nat_lt, List, [], ◌∷◌, length, slice_get, slice_index, Option, Some, None}
use Rattle.rtl_net.specs.Nets.{NetlistView}
use Rattle.rtl_net.specs.declared.process.Process.{Process}
use Rattle.rtlsim_circles.specs.Circles.{first_or, link_net}
use Rattle.rtlsim_circles.specs.LooksAt.{looks_at}
use Rattle.rtlsim_circles.specs.declared.splitting.Split.{Split}

abbrev pub is_split : Process → Split → Bool
is_split p split = nat_lt 1 (length p.drives.items) && not (looks_at p split.net split.next)

abbrev pub split_if : Option Process → Split → Option Split
split_if None split = None
split_if (Some p) split = if is_split p split then Some split else None

-- by the net that it drives, and the one to which it's sensitive
abbrev pub split_by : NetlistView → (this : ℕ) → (driven next : Option ℕ) → Option Split
split_by net this (Some driven) (Some next) =
    split_if (slice_get net.processes this) (record { process = this; net = driven; next = next })
split_by net this _ _ = None

abbrev pub link_of : NetlistView → (process next : ℕ) → Option ℕ
link_of net process next = link_net (slice_get net.processes process) (slice_get net.processes next)

-- by the process before it in the circle, and the next
abbrev pub split_at : NetlistView → (before this next : ℕ) → Option Split
split_at net before this next = split_by net this (link_of net before this) (link_of net this next)

abbrev pub or_split : Option Split → Option Split → Option Split
or_split None others = others
or_split (Some split) others = Some split

-- of these processes, which end the circle that begins with the first
abbrev pub first_split : NetlistView → (first before : ℕ) → List ℕ → Option Split
first_split net first before [] = None
first_split net first before (this ∷ rest) =
    or_split (split_at net before this (first_or first rest)) (first_split net first this rest)

abbrev pub split_of : NetlistView → List ℕ → Option Split
split_of net [] = None
split_of net (first ∷ rest) =
    first_split net first (slice_index (first ∷ rest) (length (first ∷ rest) - 1)) (first ∷ rest)
