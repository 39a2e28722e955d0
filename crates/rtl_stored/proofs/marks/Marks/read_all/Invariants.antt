use Rattle.std.proofs.Common.{take}
use Rattle.rtl_net.specs.Indices.{numbers}
use Rattle.rtl_body_facts.specs.Reading.{is_in}
use Rattle.rtl_stored.specs.Walks.{Reads}
use Rattle.rtl_stored.proofs.marks.Marks.read_all.Given as goal

abbrev pub invariant-loop-place : goal.invariant-loop-place
invariant-loop-place l = Reads (λ e. is_in e (take l.place (numbers l.elements))) l.initial.self.marks.items l.self.marks.items
