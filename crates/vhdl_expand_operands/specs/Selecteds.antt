-- What contracts see of expanded values.
use Rattle.rtl_model.specs.bodies.Body as bodies
use Rattle.rtl_net.specs.Bodies.{value_view}
use Rattle.vhdl_expand_operands.specs.declared.selected.Selected.{Selected}

abbrev pub selected_view : Selected → bodies.Value
selected_view s = value_view s.value
