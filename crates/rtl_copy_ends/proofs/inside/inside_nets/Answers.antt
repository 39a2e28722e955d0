use Rattle.std.proofs.Common.{◌≡◌, ◌||◌, ◌++◌, ◌∷◌, [], Bool, List, sym, ap, ◌∙◌, arith}
use Rattle.std.specs.Prelude.{is_some}
use Rattle.std.proofs.lemmas.List.FromFn.{map-range_with_len_more}
use Rattle.rtl_body_facts.specs.Reading.{is_in}
use Rattle.rtl_body_facts.specs.declared.kinds.ProcessKind.{ProcessKind}
use Rattle.rtl_copy_ends.specs.Ends.{driven_by}
use Rattle.rtl_copy_ends.specs.Inside.{clocks, is_inside}
use Rattle.rtl_copy_ends.proofs.inside.inside_nets.Goals as goal

pub loop-number-preserved : goal.loop-number-preserved
loop-number-preserved c =
    let net = c.args.net.now in
    let n = c.loop-number.number in
    let clock = ap (is_in n) c.deref.ensures.value ∙ (c.in_ok-clocks.ensures.are n ∙ ap (λ (kinds : List ProcessKind). is_in n (clocks kinds)) c.requires) in
    let one : c.is_inside.result ≡ is_inside net n = c.is_inside.ensures ∙ ap (λ (b : Bool). is_some (driven_by net n) || b) clock in
    c.in_ok-push.ensures.items
    ∙ ((λ i. c.loop-number.invariant i ++ one i ∷ []) ∙ sym (map-range_with_len_more (is_inside net) 0 n n (omega arith)))
