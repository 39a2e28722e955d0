use Rattle.std.proofs.Common.{◌≡◌, ℕ, take}
use Rattle.std.specs.List.{list_any}
use Rattle.rtl_body_facts.specs.Reading.{is_in}
use Rattle.rtl_latches.specs.Parts.{told, is_touched}
use Rattle.rtl_latches.proofs.parts.touched.Given as goal

abbrev pub invariant-loop-part : goal.invariant-loop-part
invariant-loop-part l = (n : ℕ) → is_in n l.nets.items ≡ list_any (λ p. is_touched (told n p)) (take l.part-index l.parts)
