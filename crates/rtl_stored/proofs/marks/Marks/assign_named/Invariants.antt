use Rattle.std.proofs.Common.{take}
use Rattle.rtl_net.specs.Indices.{numbers}
use Rattle.rtl_body_facts.specs.Reading.{is_in}
use Rattle.rtl_stored.specs.Walks.{never, Walked}
use Rattle.rtl_stored.proofs.marks.Marks.assign_named.Given as goal

abbrev pub invariant-loop-place : goal.invariant-loop-place
invariant-loop-place l =
    Walked never (λ e. is_in e (take l.place (numbers l.elements))) l.initial.self.marks.items l.self.marks.items l.initial.added.items l.added.items
