use Rattle.std.proofs.Common.{ℕ, List, ◌++◌, length}
use Rattle.byte_streams.specs.Written.{Goes, SinkState}
use Rattle.vhdl_slips.specs.Listings.{listed, names_from}
use Rattle.vhdl_slips.proofs.listing.push_names.Given as goal

-- the names in the tokens that are left go out behind those that did
abbrev pub invariant-loop-left : goal.invariant-loop-left
invariant-loop-left g l = (others : List (List ℕ)) (end : SinkState)
    → Goes (g.S.Sink.state l.sink) end (listed l.listing l.is_first (names_from l.listing l.words.text.now l.left ++ others))
    → Goes (g.S.Sink.state l.initial.sink) end (listed l.listing l.initial.is_first (names_from l.listing l.words.text.now l.words.tokens.now ++ others))

abbrev pub decreases-loop-left : goal.decreases-loop-left
decreases-loop-left g l = length l.left
