use Rattle.std.proofs.Common.{◌≡◌, ℕ, ◌<◌, ◌+◌, List, [], ◌∷◌, ◌++◌, length, get_or, take, map, refl, sym, ap, subst, ◌∙◌, append_assoc, append-nil}
use Rattle.std.proofs.lemmas.List.{take_all, take_more, map-append}
use Rattle.rtl_check.specs.declared.fault.CheckFault.{CheckFault}
use Rattle.rtl_check.specs.declared.rule.Rule.{Rule}
use Rattle.rtl_check.specs.Views.{fault_view}
use Rattle.rtl_check.specs.Rules.{Pushes, fault_of}
use Rattle.rtl_check.proofs.rules.push_faults.Goals as goal

-- one more fault
one_pushed : (rule : Rule) (process : ℕ) (nets : List ℕ) (i : ℕ) (old now new : List CheckFault) (fault : CheckFault) → i < length nets → Pushes rule process (take i nets) old now
    → new ≡ now ++ fault ∷ [] → fault_view fault ≡ fault_of rule process (get_or nets i 0) → Pushes rule process (take (i + 1) nets) old new
one_pushed rule process nets i old now new fault l so_far e is = record {
  added = so_far.added ++ fault ∷ [];
  is = e ∙ (ap (λ xs. xs ++ fault ∷ []) so_far.is ∙ append_assoc old so_far.added (fault ∷ []));
  are = map-append fault_view so_far.added (fault ∷ [])
      ∙ (ap (λ xs. xs ++ fault_view fault ∷ []) so_far.are ∙ (ap (λ x. map (fault_of rule process) (take i nets) ++ x ∷ []) is
      ∙ (sym (map-append (fault_of rule process) (take i nets) (get_or nets i 0 ∷ [])) ∙ ap (map (fault_of rule process)) (sym (take_more nets i 0 l)))));
}

pub loop-net-init : goal.loop-net-init
loop-net-init c = record { added = []; is = sym (append-nil c.args.faults.now.items); are = refl }

pub loop-net-preserved : goal.loop-net-preserved
loop-net-preserved c =
    let l = c.loop-net in
    one_pushed c.args.rule c.args.process c.args.nets.now l.net-index c.args.faults.now.items l.faults.items c.push.new.self.items c.fault.result
    c.loop-net-test.true l.invariant c.in_ok-push.ensures.items c.fault.ensures

pub returns : goal.returns
returns c =
    subst (λ ns. Pushes c.args.rule c.args.process ns c.args.faults.now.items c.loop-net.faults.items) (take_all c.loop-net.net-index c.args.nets.now c.loop-net-test.false) c.loop-net.invariant
