-- What a connected body reads.
use Rattle.std.specs.Prelude.{◌≡◌, ℕ, List, map}
use Rattle.rtl_model.specs.bodies.Body.{Stmts}
use Rattle.rtl_model.specs.bodies.Reads.{reads}
use Rattle.vhdl_elab_rules.specs.Bodies.{net_of, connected_body}

-- the nets of the elements that the body reads, in the same order
abbrev pub EachReadsItsNets : Type 0
EachReadsItsNets =
    (nets drives : List ℕ) (body : Stmts)
    → reads (connected_body nets drives body) ≡ map (net_of nets drives) (reads body)
