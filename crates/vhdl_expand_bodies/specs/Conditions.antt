-- What contracts see of the first operators of a condition.
use Rattle.rtl_model.specs.bodies.Body as bodies
use Rattle.rtl_net.specs.Bodies.{test_view, test_links_of}
use Rattle.vhdl_expand_bodies.specs.declared.conditions.TestChain.{TestChain}

abbrev pub chain_view : TestChain → bodies.Test
chain_view c = test_links_of (test_view c.first.value) c.rest.items
