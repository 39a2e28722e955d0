use Rattle.std.proofs.Common.{length, map, ap, sym, subst}
use Rattle.std.proofs.lemmas.List.{length-map}
use Rattle.vhdl_expand_rules.specs.declared.fault.ElabProblem.TheVariants.{StaticError}
use Rattle.vhdl_expand_rules.specs.Elab.{item_or}
use Rattle.vhdl_expand_rules.specs.views.Integers.{range_view, Makes}
use Rattle.vhdl_expand_rules.proofs.Behind.{found-front, found-behind}
use Rattle.vhdl_expand_rules.proofs.integer.Integers.range.Goals as goal

pub returns-in-None : goal.returns-in-None
returns-in-None c =
    let self = c.args.self.now in
    let is = found-front (map range_view self.ranges.now) (map range_view self.own_ranges.now) c.args.number (length self.ranges.now) c.checked_sub.result
    (sym (length-map self.ranges.now range_view)) c.checked_sub.ensures c.in-None.is in
    subst (λ x. Makes range_view x c.known_range.result) (sym (ap (item_or StaticError c.args.at) is)) c.known_range.ensures

pub returns-in-Some : goal.returns-in-Some
returns-in-Some c =
    let self = c.args.self.now in
    let is = found-behind (map range_view self.ranges.now) (map range_view self.own_ranges.now) c.args.number (length self.ranges.now) c.checked_sub.result
    (sym (length-map self.ranges.now range_view)) c.checked_sub.ensures c.in-Some.number c.in-Some.is in
    subst (λ x. Makes range_view x c.known_range-in-Some.result) (sym (ap (item_or StaticError c.args.at) is)) c.known_range-in-Some.ensures
