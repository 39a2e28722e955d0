use Rattle.std.proofs.Common.{◌==◌, ℕ, List, Some, get_or, sym, ap, ◌∙◌}
use Rattle.std.proofs.lemmas.List.{take_all, get_or_default}
use Rattle.rtl_body_facts.specs.Reading.{is_in}
use Rattle.rtl_body_facts.proofs.EveryPath.{any_more}
use Rattle.rtl_latches.specs.Parts.{told, both, only_left, where_so}
use Rattle.rtl_latches.proofs.Telling.{both-nothing, leave-more}
use Rattle.rtl_latches.proofs.parts.Part.leave_out.Goals as goal

pub loop-net-init : goal.loop-net-init
loop-net-init c = λ n. sym (both-nothing (told n c.args.self.now))

pub loop-net-preserved : goal.loop-net-preserved
loop-net-preserved c =
    let l = c.loop-net in
    let xs = c.args.nets.now in
    let x = get_or xs l.net-index 0 in
    λ n. leave-more n x c.args.omission _ _ _ _ _ (c.in_ok-push.ensures n) (l.invariant n)
    (any_more (λ m. m == n) xs l.net-index x c.loop-net-test.true (get_or_default xs l.net-index 0 x c.loop-net-test.true))

pub returns : goal.returns
returns c =
    let l = c.loop-net in
    λ n. l.invariant n
    ∙ ap (λ (xs : List ℕ). both (told n c.args.self.now) (only_left (where_so (is_in n xs) (Some c.args.omission)))) (take_all l.net-index c.args.nets.now c.loop-net-test.false)
