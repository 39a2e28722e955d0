use Rattle.std.proofs.Common.{take}
use Rattle.rtl_body_facts.specs.Reading.{is_in}
use Rattle.rtl_stored.specs.Walks.{never, Walked}
use Rattle.rtl_stored.proofs.marks.Marks.assign_listed.Given as goal

abbrev pub invariant-loop-element : goal.invariant-loop-element
invariant-loop-element l =
    Walked never (λ e. is_in e (take l.element-index l.elements)) l.initial.self.marks.items l.self.marks.items l.initial.added.items l.added.items
