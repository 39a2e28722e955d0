use Rattle.std.proofs.Common.{◌≡◌, true, false, None, ap, sym, ◌∙◌}
use Rattle.std.specs.Prelude.{bytes_eq, slice_get, if◌then◌else◌}
use Rattle.vhdl_names_rules.specs.Rules.{◌>>=◌}
use Rattle.vhdl_names_instances.specs.Table.{type_of}
use Rattle.vhdl_names_instances.proofs.Sorted.{port_name}
use Rattle.vhdl_names_instances.proofs.Porting.{at_place}
use Rattle.vhdl_names_instances.proofs.maps.port_named.Goals as goal

pub returns-in-None : goal.returns-in-None
returns-in-None c = λ all h k.
    let types = c.args.formals.now.port_types.items in
    ap (λ o. o >>= λ k. if bytes_eq c.args.name.now k.items then slice_get types c.args.index else None) c.in-None.ensures.key
    ∙ at_place port_name type_of all c.args.formals.now.ports.keys types h k _ _

pub returns-then-is_text : goal.returns-then-is_text
returns-then-is_text c = λ all h k.
    let types = c.args.formals.now.port_types.items in
    let is : bytes_eq c.args.name.now c.in-Some.own.now.items ≡ true = ap (bytes_eq c.args.name.now) (sym c.deref.ensures.value) ∙ sym c.is_text.ensures ∙ c.if-is_text.true in
    c.port_at.ensures ∙ ap (λ l. slice_get l c.args.index) c.deref-then-is_text.ensures.value
    ∙ sym (ap (λ b. if b then slice_get types c.args.index else None) is)
    ∙ ap (λ o. o >>= λ k. if bytes_eq c.args.name.now k.items then slice_get types c.args.index else None) c.in-Some.ensures.key
    ∙ at_place port_name type_of all c.args.formals.now.ports.keys types h k _ _

pub returns-else-is_text : goal.returns-else-is_text
returns-else-is_text c = λ all h k.
    let types = c.args.formals.now.port_types.items in
    let is : bytes_eq c.args.name.now c.in-Some.own.now.items ≡ false = ap (bytes_eq c.args.name.now) (sym c.deref.ensures.value) ∙ sym c.is_text.ensures ∙ c.if-is_text.false in
    sym (ap (λ b. if b then slice_get types c.args.index else None) is)
    ∙ ap (λ o. o >>= λ k. if bytes_eq c.args.name.now k.items then slice_get types c.args.index else None) c.in-Some.ensures.key
    ∙ at_place port_name type_of all c.args.formals.now.ports.keys types h k _ _
