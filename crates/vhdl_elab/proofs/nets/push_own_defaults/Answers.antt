use Rattle.std.proofs.Common.{ap, map, subst, ◌≡◌, ◌++◌}
use Rattle.std.specs.Prelude.{option_map, slice_index, OnOk}
use Rattle.std.specs.List.{range_with_len}
use Rattle.vhdl_expand_rules.specs.Kinds.{size}
use Rattle.vhdl_expand_tree.specs.Views.{object_view}
use Rattle.vhdl_elab.proofs.Adding.{own_there, own_absent}
use Rattle.vhdl_elab.proofs.nets.push_own_defaults.Goals as goal

pub returns-in-None : goal.returns-in-None
returns-in-None c =
    let o = object_view c.args.object.now in
    let len = subst (λ n. OnOk c.push_defaults.result (c.push_defaults.new.defaults.items ≡ c.args.defaults.now.items ++ map (slice_index c.as_slice.result.now) (range_with_len 0 n))) c.size.ensures c.push_defaults.ensures in
    own_there c.push_defaults.result o c.args.defaults.now.items c.push_defaults.new.defaults.items (map (slice_index o.starts) (range_with_len 0 (size o.kind))) (ap (option_map (λ v. v.items)) c.in-None.is)
    (subst (λ vs. OnOk c.push_defaults.result (c.push_defaults.new.defaults.items ≡ c.args.defaults.now.items ++ map (slice_index vs) (range_with_len 0 (size o.kind)))) c.as_slice.ensures len)

pub returns-in-Some : goal.returns-in-Some
returns-in-Some c = own_absent (object_view c.args.object.now) _ _ _ (ap (option_map (λ v. v.items)) c.in-Some.is)
