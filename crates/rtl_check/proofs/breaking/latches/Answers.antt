use Rattle.std.proofs.Common.{◌&&◌, not, Bool, List, ap, ◌∙◌}
use Rattle.rtl_model.specs.bodies.Assigns.{must_assign}
use Rattle.rtl_net.specs.declared.process.Driver.{Driver}
use Rattle.rtl_net.specs.declared.body.Statement.{Statement}
use Rattle.rtl_net.specs.Bodies.{statements_of}
use Rattle.rtl_body_facts.specs.Reading.{is_in}
use Rattle.rtl_body_facts.specs.Paths.{driven, to_net}
use Rattle.rtl_check.proofs.KeptNets.{if_ok, kept_rise, kept_are}
use Rattle.rtl_check.proofs.breaking.latches.Goals as goal

pub returns-clause-rise : goal.returns-clause-rise
returns-clause-rise c =
    if_ok _ _ c.outside.result (λ v h. kept_rise _ v.items c.deref-4.result.now c.sort_once.new.numbers.items h c.deref-4.ensures.value c.sort_once.ensures.rise) c.outside.ensures

pub returns-clause-are : goal.returns-clause-are
returns-clause-are c =
    let ds = c.args.process.now.drives.items in
    if_ok _ _ c.outside.result
    (λ v h n.
    kept_are _ v.items c.deref-4.result.now n (is_in n (driven ds)) h
    (ap (is_in n) c.deref-4.ensures.value ∙ (c.sort_once.ensures.same n ∙ ap (is_in n) (c.in_ok-targets.ensures ∙ ap driven c.deref.ensures.value)))
    ∙ ap (λ (b : Bool). is_in n (driven ds) && not b)
    (ap (is_in n) c.deref-5.ensures.value ∙ (c.in_ok-assigned.ensures.are n
    ∙ (ap (λ (xs : List Driver). must_assign (to_net xs n) (statements_of c.deref-3.result.now)) c.deref-2.ensures.value
    ∙ ap (λ (xs : List Statement). must_assign (to_net ds n) (statements_of xs)) c.deref-3.ensures.value))))
    c.outside.ensures
