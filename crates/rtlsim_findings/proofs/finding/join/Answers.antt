use Rattle.std.proofs.Common.{◌≡◌, ℕ, zero, suc, ◌<◌, ◌≤◌, List, [], ◌∷◌, ◌++◌, length, get_or, map, set, Option, refl, sym, ap, ◌∙◌, arith}
use Rattle.std.proofs.lemmas.List.{length-map, map-append, map-set}
use Rattle.std.proofs.lemmas.Bool.Decides.{nat_tests}
use Rattle.rtl_check.specs.Views.{fault_view}
use Rattle.rtl_model.specs.simulation.Accepted.{Fault}
use Rattle.rtl_net.specs.Nets.{NetlistView}
use Rattle.rtl_mixed_reasons.specs.declared.reason.Reason.{Reason}
use Rattle.rtlsim_findings.specs.Causes.{cause_of}
use Rattle.rtlsim_findings.specs.Findings.{FindingView, finding_view, begun, joined, with_other}
use Rattle.rtlsim_findings.specs.Mixed.{why}
use Rattle.rtlsim_findings.specs.declared.cause.Cause.{Cause}
use Rattle.rtlsim_findings.specs.declared.finding.Finding.{Finding}
use Rattle.rtlsim_findings.specs.steps.Joining.{causes_of, place_in}
use Rattle.rtlsim_findings.specs.contracts.cause.CausePartialEq.TheImpl.{ghosts}
use Rattle.indexmap.specs.IndexSet.{insert_key}
use Rattle.std.specs.List.{position_or_len}
use Rattle.rtlsim_findings.proofs.Joining.{joined_at, joined_end, joined_causes}
use Rattle.rtlsim_findings.proofs.Keys.{placed}
use Rattle.rtlsim_findings.proofs.Lists.{one_more}
use Rattle.rtlsim_findings.proofs.finding.join.Goals as goal

view_at : (items : List Finding) (n : ℕ) (d : Finding) → n < length items → get_or (map finding_view items) n (finding_view d) ≡ finding_view (get_or items n d)
view_at [] n d l = absurd (omega (arith, l))
view_at (f ∷ items) zero d l = refl
view_at (f ∷ items) (suc n) d l = view_at items n d (omega (arith, l))

-- the finding at that place takes the fault
put_in : (net : NetlistView) (fault : Fault) (items : List Finding) (n : ℕ) (old new : Finding) → n ≡ place_in (cause_of net fault) (causes_of (map finding_view items)) → n < length items
    → old ≡ get_or items n old → finding_view new ≡ with_other (finding_view old) fault → map finding_view (set items n new) ≡ joined net (map finding_view items) fault
put_in net fault items n old new e l is told =
    let within : n < length (map finding_view items) = omega (arith, l, length-map items finding_view) in
    map-set finding_view items n new ∙ ap (set (map finding_view items) n) (told ∙ ap (λ f. with_other f fault) (ap finding_view is ∙ sym (view_at items n old l)))
    ∙ sym (joined_at net fault (map finding_view items) (finding_view old) n e within)

-- a finding begins behind the others
put_behind : (net : NetlistView) (fault : Fault) (items : List Finding) (n : ℕ) (new : Finding) → n ≡ place_in (cause_of net fault) (causes_of (map finding_view items)) → length items ≤ n
    → finding_view new ≡ begun net fault → map finding_view (items ++ new ∷ []) ≡ joined net (map finding_view items) fault
put_behind net fault items n new e l told =
    map-append finding_view items (new ∷ []) ∙ ap (λ f. map finding_view items ++ f ∷ []) told
    ∙ sym (joined_end net fault (map finding_view items) (omega (arith, l, e, length-map items finding_view)))

abbrev made : Cause → Option Reason → Fault → List Fault → FindingView
made cause reason first others = record { cause = cause; reason = reason; first = first; others = others }

fresh : (net : NetlistView) (fault : Fault) (new : Finding) → new.cause ≡ cause_of net fault → new.reason ≡ why net fault → fault_view new.first.now ≡ fault → new.others.items ≡ []
    → finding_view new ≡ begun net fault
fresh net fault new c r f o =
    let all : made new.cause new.reason (fault_view new.first.now) (map (λ o. fault_view o.now) new.others.items) ≡ made (cause_of net fault) (why net fault) fault [] = rw (c, r, f, o) refl in
    all

-- the place that the set of causes gives, and the causes then
at_place : (net : NetlistView) (fault : Fault) (found : List FindingView) (keys : List Cause) (cause : Cause) (n : ℕ) → cause ≡ cause_of net fault → keys ≡ causes_of found
    → n ≡ position_or_len (ghosts.eq cause) keys → n ≡ place_in (cause_of net fault) (causes_of found)
at_place net fault found keys cause n is are at = at ∙ (λ i. position_or_len (ghosts.eq (is i)) (are i)) ∙ sym (placed (cause_of net fault) (causes_of found))

causes_then : (net : NetlistView) (fault : Fault) (found new : List FindingView) (old keys : List Cause) (cause : Cause) → cause ≡ cause_of net fault → old ≡ causes_of found
    → keys ≡ insert_key ghosts.eq old cause → new ≡ joined net found fault → keys ≡ causes_of new
causes_then net fault found new old keys cause is are put then = put ∙ (λ i. insert_key ghosts.eq (are i) (is i)) ∙ sym (ap causes_of then ∙ joined_causes net fault found)

pub returns-then-number-len : goal.returns-then-number-len
returns-then-number-len c =
    let items = c.args.found.now.items in
    let net = c.args.net.now in
    let fault = fault_view c.args.fault.now in
    let are = c.requires.causes in
    let e = at_place net fault (map finding_view items) _ _ c.in_ok-number.number c.in_ok-cause.ensures.is are c.in_ok-number.ensures.index in
    let old = c.index_mut-finding.result.now in
    let is = put_in net fault items c.in_ok-number.number old _ e (grind (arith, nat_tests, c.if-number-len.true, c.len.ensures)) c.index_mut-finding.ensures.value
    (ap (made old.cause old.reason (fault_view old.first.now)) (one_more _ _ _ _ c.in_ok-push.ensures.items (λ o. fault_view o.now) refl)) in
    record {
      made = c.in_ok-reason.ensures.made;
      are = c.in_ok-cause.ensures.are;
      causes = causes_then net fault (map finding_view items) _ _ _ _ c.in_ok-cause.ensures.is are c.in_ok-number.ensures.keys is;
      is = is;
    }

pub returns : goal.returns
returns c =
    let items = c.args.found.now.items in
    let net = c.args.net.now in
    let fault = fault_view c.args.fault.now in
    let are = c.requires.causes in
    let e = at_place net fault (map finding_view items) _ _ c.in_ok-number.number c.in_ok-cause.ensures.is are c.in_ok-number.ensures.index in
    let new : Finding = record { cause = c.in_ok-cause.cause; reason = c.in_ok-reason.reason; first = c.args.fault; others = c.new-others.result } in
    let is = ap (map finding_view) c.in_ok-push-2.ensures.items
    ∙ put_behind net fault items c.in_ok-number.number new e (grind (arith, nat_tests, c.if-number-len.false, c.len.ensures))
    (fresh net fault new c.in_ok-cause.ensures.is c.in_ok-reason.ensures.is refl c.new-others.ensures.items) in
    record {
      made = c.in_ok-reason.ensures.made;
      are = c.in_ok-cause.ensures.are;
      causes = causes_then net fault (map finding_view items) _ _ _ _ c.in_ok-cause.ensures.is are c.in_ok-number.ensures.keys is;
      is = is;
    }
