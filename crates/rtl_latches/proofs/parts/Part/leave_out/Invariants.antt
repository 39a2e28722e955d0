use Rattle.std.proofs.Common.{◌≡◌, ℕ, take, Some}
use Rattle.rtl_body_facts.specs.Reading.{is_in}
use Rattle.rtl_latches.specs.Parts.{told, both, only_left, where_so}
use Rattle.rtl_latches.proofs.parts.Part.leave_out.Given as goal

abbrev pub invariant-loop-net : goal.invariant-loop-net
invariant-loop-net l =
    (n : ℕ) → told n l.self ≡ both (told n l.initial.self) (only_left (where_so (is_in n (take l.net-index l.nets)) (Some l.omission)))
