use Rattle.std.proofs.Common.{Bool, ◌||◌, sym, ap, ◌∙◌}
use Rattle.std.specs.List.{list_any}
use Rattle.std.proofs.lemmas.List.{take_all}
use Rattle.rtl_body_facts.specs.Reading.{is_in}
use Rattle.rtl_body_facts.proofs.EveryPath.{any_more}
use Rattle.rtl_latches.specs.declared.parts.Part.{Part}
use Rattle.rtl_latches.specs.Parts.{told, is_touched}
use Rattle.rtl_latches.proofs.parts.touched.Goals as goal

pub loop-part-init : goal.loop-part-init
loop-part-init c = λ n. ap (is_in n) c.new-nets.ensures.items

pub loop-part-preserved : goal.loop-part-preserved
loop-part-preserved c =
    let l = c.loop-part in
    let p = c.part-item.result in
    λ n. c.in_ok-push_touched.ensures n
    ∙ (ap (λ (b : Bool). b || is_touched (told n p)) (l.invariant n)
    ∙ sym (any_more (λ (q : Part). is_touched (told n q)) c.args.parts.now l.part-index p c.loop-part-test.true c.part-item.is))

pub returns : goal.returns
returns c =
    let l = c.loop-part in
    record {
      rise = c.sort_once.ensures.rise;
      are = λ n. c.sort_once.ensures.same n
          ∙ (l.invariant n ∙ ap (list_any (λ (q : Part). is_touched (told n q))) (take_all l.part-index c.args.parts.now c.loop-part-test.false));
    }
