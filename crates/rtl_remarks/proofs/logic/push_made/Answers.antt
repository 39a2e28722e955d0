use Rattle.std.proofs.Common.{◌≡◌, ℕ, Bool, true, false, not, ◌&&◌, ◌||◌, ◌++◌, List, ap, sym, ◌∙◌}
use Rattle.rtl_model.specs.basics.Lists.{is_empty}
use Rattle.rtl_model.specs.bodies.Reads.{events}
use Rattle.rtl_net.specs.Bodies.{statements_of}
use Rattle.rtl_net.specs.Nets.{body_of}
use Rattle.rtl_net.specs.declared.body.Statement.{Statement}
use Rattle.rtl_net.specs.declared.process.Process.{Process}
use Rattle.rtl_net.specs.declared.process.Driver.{Driver}
use Rattle.rtl_body_facts.specs.Paths.{driven}
use Rattle.rtl_body_facts.specs.Reading.{is_in, some}
use Rattle.rtl_body_facts.proofs.Anys.{or_none}
use Rattle.rtl_body_facts.proofs.EveryPath.{adds_all}
use Rattle.rtl_remarks.specs.Remarks.{is_made}
use Rattle.rtl_remarks.proofs.logic.push_made.Goals as goal

turned : (a r : Bool) → r ≡ not a → a ≡ not r
turned true r e = ap not (sym e)
turned false r e = ap not (sym e)

-- a process without events makes what it drives, and another one nothing
made : (p : Process) (body : List Statement) (r out : Bool) (n : ℕ) → body ≡ p.body.items → r ≡ some (events (statements_of body)) → r ≡ out → is_made p n ≡ (not out && is_in n (driven p.drives.items))
made p body r out n at is said =
    ap (λ (b : Bool). b && is_in n (driven p.drives.items)) (turned (is_empty (events (body_of p))) out (sym said ∙ is ∙ ap (λ (xs : List Statement). some (events (statements_of xs))) at))

pub returns-then-body_has_event : goal.returns-then-body_has_event
returns-then-body_has_event c =
    let old : ℕ → Bool = λ n. is_in n c.args.nets.now.items in
    λ n. or_none (old n) ∙ ap (λ (b : Bool). old n || b) (sym (made c.args.process.now _ _ true n c.deref.ensures.value c.body_has_event.ensures c.if-body_has_event.true))

pub returns : goal.returns
returns c =
    let p = c.args.process.now in
    λ n.
    adds_all n c.extend_from_slice.new.self.items c.args.nets.now.items c.in_ok-targets.targets.items _
    (c.in_ok-extend_from_slice.ensures.items ∙ ap (λ (xs : List ℕ). c.args.nets.now.items ++ xs) c.deref-3.ensures.value)
    (c.in_ok-targets.ensures.are n ∙ ap (λ (ds : List Driver). is_in n (driven ds)) c.deref-2.ensures.value
    ∙ sym (made p _ _ false n c.deref.ensures.value c.body_has_event.ensures c.if-body_has_event.false))
