use Rattle.std.proofs.Common.{ℕ, ◌<◌, List, length, Option, Some, None, sym, ap, subst, ◌∙◌, arith, slice_set}
use Rattle.std.proofs.lemmas.Result.{IfOk-weaker}
use Rattle.std.proofs.lemmas.List.{get_or-set_same}
use Rattle.rtl_model.proofs.nets.Connected.{connected_is_elaborated}
use Rattle.rtl_net.specs.Core.{core}
use Rattle.rtl_net.specs.Nets.{flat}
use Rattle.rtl_process_kinds.proofs.Processes.{listed_as}
use Rattle.rtl_calm_nets.specs.declared.origins.Origin.TheVariants as o
use Rattle.rtl_calm_nets.specs.NetOrigins.{IsResetTest}
use Rattle.rtl_calm_nets.proofs.Giving.{all_alike, unreset_gives, reset_given, still_keep, on_ok}
use Rattle.rtl_calm_nets.proofs.Ranges.{many_drivers, many_entries, effect_is}
use Rattle.rtl_calm_nets.proofs.drivers.register_origins.Goals as goal

pub reset_origins-requires : goal.reset_origins-requires
reset_origins-requires c =
    let x = c.index-processes-number.result in
    let at = listed_as c.args.number c.index-processes-number.is c.processes.ensures in
    let values = slice_set c.args.values.now c.in-Some.reset.net c.value.result in
    c.len-in-Some.ensures ∙ (x.drives.ok.0 ∙ sym (ap (λ (es : List (Option ℕ)). length es) c.in_ok-entries-in-Some.ensures ∙ many_entries c.args.net.now c.is_elaborated.ensures c.args.number c.requires.there x at values))

pub returns-in_ok-vec-in-None-clause-given : goal.returns-in_ok-vec-in-None-clause-given
returns-in_ok-vec-in-None-clause-given c =
    let net = c.args.net.now in
    let x = c.index-processes-number.result in
    let at = listed_as c.args.number c.index-processes-number.is c.processes.ensures in
    let reset : IsResetTest (core net) c.args.number None = subst (IsResetTest (core net) c.args.number) c.in-None.is c.requires.reset in
    all_alike (core net) c.args.number c.len.result o.Unreset c.in_ok-vec-in-None.field-0.items (c.in_ok-vec-in-None.ensures.items_if_clones_equal (λ y e. e))
    (many_drivers net c.is_elaborated.ensures c.args.number c.requires.there x at ∙ (sym x.drives.ok.0 ∙ sym c.len.ensures))
    (unreset_gives (core net) c.args.number c.requires.clocked reset)

pub returns-in_ok-entries-in-Some-clause-given : goal.returns-in_ok-entries-in-Some-clause-given
returns-in_ok-entries-in-Some-clause-given c =
    let net = c.args.net.now in
    let x = c.index-processes-number.result in
    let test = c.in-Some.reset in
    let at = listed_as c.args.number c.index-processes-number.is c.processes.ensures in
    let values = slice_set c.args.values.now test.net c.value.result in
    let is : IsResetTest (core net) c.args.number (Some test) = subst (IsResetTest (core net) c.args.number) c.in-Some.is c.requires.reset in
    let there : test.net < length c.args.values.now = (let l = is.0 in let n = c.is_elaborated.ensures.in_range.each_starts in let m = c.requires.all in omega arith) in
    let many = many_entries net c.is_elaborated.ensures c.args.number c.requires.there x at values in
    let drivers = many_drivers net c.is_elaborated.ensures c.args.number c.requires.there x at in
    IfOk-weaker c.reset_origins.result _ _
    (λ v h. reset_given (core net) (connected_is_elaborated (flat net) c.is_elaborated.ensures.in_range c.is_elaborated.ensures.connected) c.args.number c.requires.clocked test c.value.result is c.value.ensures.set
    values (get_or-set_same c.args.values.now test.net c.value.result 0 there) c.in_ok-entries-in-Some.entries.entries (c.in_ok-entries-in-Some.ensures ∙ effect_is net c.is_elaborated.ensures c.args.number c.requires.there x at values)
    (ap (λ (es : List (Option ℕ)). length es) c.in_ok-entries-in-Some.ensures ∙ (many ∙ sym drivers)) v.items h)
    c.reset_origins.ensures

pub returns-in_ok-entries-in-Some-clause-kept : goal.returns-in_ok-entries-in-Some-clause-kept
returns-in_ok-entries-in-Some-clause-kept c =
    let net = c.args.net.now in
    let test = c.in-Some.reset in
    let is : IsResetTest (core net) c.args.number (Some test) = subst (IsResetTest (core net) c.args.number) c.in-Some.is c.requires.reset in
    let there : test.net < length c.args.values.now = (let l = is.0 in let n = c.is_elaborated.ensures.in_range.each_starts in let m = c.requires.all in omega arith) in
    on_ok c.reset_origins.result (still_keep net.types c.args.values.now test.net c.value.result c.requires.values there is.1 c.value.ensures.nine)
