-- Whether a net that a process drives looks at another, and how that is found in the hubs of its body's looks.
use Rattle.std.specs.Prelude.{ℕ, ◌==◌, ◌||◌, Bool, false, List, [], position, slice_index_or, Option, Some, None}
use Rattle.rtl_body_facts.specs.Reading.{is_in}
use Rattle.rtl_looks.specs.declared.hubs.Hub.{Hub}
use Rattle.rtl_looks.specs.declared.hubs.Look.{Look}
use Rattle.rtl_looks.specs.declared.hubs.Look.TheVariants as l
use Rattle.rtl_model.specs.bodies.Looks.{looked_nets}
use Rattle.rtl_net.specs.Nets.{body_of}
use Rattle.rtl_net.specs.declared.process.Driver.{Driver}
use Rattle.rtl_net.specs.declared.process.Process.{Process}

abbrev pub is_of : (n : ℕ) → Driver → Bool
is_of n driver = driver.net == n

-- what the driver at a place looks at, and nothing where the process has none
abbrev pub looked_by : Process → (place : Option ℕ) → List ℕ
looked_by p None = []
looked_by p (Some place) = looked_nets (body_of p) place

abbrev pub looks_at : Process → (n other : ℕ) → Bool
looks_at p n other = is_in other (looked_by p (position (is_of n) p.drives.items))

-- ---- a net behind a look, where `marks` says it of hubs

abbrev pub is_behind : (n : ℕ) → (marks : List Bool) → Look → Bool
is_behind n marks (l.Net net) = net == n
is_behind n marks (l.Hub hub) = slice_index_or marks hub false

abbrev pub is_behind_hub : (n : ℕ) → (marks : List Bool) → Hub → Bool
is_behind_hub n marks hub = is_behind n marks hub.left || is_behind n marks hub.right

-- what looks at nothing has no look
abbrev pub has_behind : (n : ℕ) → (marks : List Bool) → Option Look → Bool
has_behind n marks None = false
has_behind n marks (Some look) = is_behind n marks look
