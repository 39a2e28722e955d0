-- What is sought in a body, by its leaves.
use Rattle.std.specs.Prelude.{Bool, true}
use Rattle.rtl_model.specs.bodies.Leaves.{Leaf, read_of, event_of, leaf_looks_at}
use Rattle.rtl_body_facts.specs.declared.search.Sought.{Sought}
use Rattle.rtl_body_facts.specs.declared.search.Sought.TheVariants as s
use Rattle.rtl_body_facts.specs.Reading.{is_in, some}

-- the leaf is what is sought
abbrev pub seeks : Sought → Leaf → Bool
seeks s.Event leaf = some (event_of leaf)
seeks s.SomeNet leaf = some (read_of leaf)
seeks (s.Net net) leaf = is_in net (read_of leaf)
seeks (s.Element element) leaf = leaf_looks_at element leaf
seeks s.Anything leaf = true
