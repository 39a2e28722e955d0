-- What contracts see of what a body does in a process.
use Rattle.rtl_net.specs.Bodies.{statements_of}
use Rattle.vhdl_expand_tree.specs.Views.{sensitivity_view}
use Rattle.vhdl_expand.specs.Processes as definition
use Rattle.vhdl_expand.specs.declared.processes.BodyDoing.{BodyDoing}

abbrev pub doing_view : BodyDoing → definition.Doing
doing_view x = record {
  drives = x.drives.items;
  sensitivity = sensitivity_view x.sensitivity;
  turns = x.turns;
  body = statements_of x.body.items;
}
