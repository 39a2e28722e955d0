-- Where the process of a latch leaves out the net's assignment.
use Rattle.std.specs.Prelude.{ℕ, ◌==◌, ◌&&◌, Bool, true, false, List, ◌++◌, slice_get, Option, Some, None, codes, decimal}
use Rattle.rtl_latches.specs.Omissions.{omission_of}
use Rattle.rtl_latches.specs.declared.omission.Omission.{Omission}
use Rattle.rtl_latches.specs.declared.omission.Omission.TheVariants.{NoElse, Branch, Alternative, Row}
use Rattle.rtl_model.specs.simulation.Accepted.{Fault, Latch}
use Rattle.rtl_net.specs.Nets.{NetlistView}
use Rattle.rtl_net.specs.declared.process.Process.{Process}
use Rattle.rtl_body_facts.specs.Paths.{to_net}

abbrev pub omission_at : (n : ℕ) → Option Process → Option Omission
omission_at n None = None
omission_at n (Some p) = omission_of (to_net p.drives.items n) p.body.items

abbrev pub left_out : NetlistView → Fault → Option Omission
left_out net (Latch process n) = omission_at n (slice_get net.processes process)
left_out net _ = None

abbrev pub is_same : Omission → Omission → Bool
is_same (NoElse at) (NoElse by) = at == by
is_same (Branch at number) (Branch by other) = (at == by) && (number == other)
is_same (Alternative at number) (Alternative by other) = (at == by) && (number == other)
is_same (Row at) (Row by) = at == by
is_same _ _ = false

abbrev pub are_same : Option Omission → Option Omission → Bool
are_same None None = true
are_same (Some omission) (Some other) = is_same omission other
are_same _ _ = false

abbrev pub said : Omission → List ℕ
said (NoElse at) = codes "where no condition of this if holds, nothing assigns it"
said (Branch at number) = codes "branch " ++ decimal number ++ codes " of this if doesn't assign it"
said (Alternative at number) = codes "alternative " ++ decimal number ++ codes " of this case doesn't assign it"
said (Row at) = codes "where its index names another element, this assignment doesn't assign it"
