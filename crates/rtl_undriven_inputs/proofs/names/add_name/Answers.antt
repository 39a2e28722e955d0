use Rattle.std.proofs.Common.{◌||◌, ap, ◌∙◌}
use Rattle.std.specs.Prelude.{bytes_eq}
use Rattle.rtl_undriven_inputs.proofs.Inserting.{has, has_inserted}
use Rattle.rtl_undriven_inputs.proofs.names.add_name.Goals as goal

pub returns : goal.returns
returns c =
    let before = c.args.names.now.keys in
    let name = c.in_ok-to_ascii_lowercase.field-0 in
    λ w. ap (has w) c.in_ok-insert.ensures.keys ∙ has_inserted w name before ∙ ap (λ k. has w before || bytes_eq w k) c.in_ok-to_ascii_lowercase.ensures.ok
