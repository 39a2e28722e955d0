use Rattle.std.proofs.Common.{◌≡◌, ℕ, Bool, true, false, List, ◌∷◌, sym, ap, ◌∙◌}
use Rattle.std.specs.Prelude.{if◌then◌else◌}
use Rattle.rtl_check.specs.Views.{fault_view}
use Rattle.rtl_check.specs.declared.fault.CheckFault.{CheckFault}
use Rattle.rtl_net.specs.Nets.{NetlistView}
use Rattle.rtl_body_facts.specs.Reading.{is_in}
use Rattle.rtlsim_findings.specs.Findings.{FindingView, any_gated, is_left_out, joined, found_from}
use Rattle.rtlsim_findings.proofs.Lists.{first_is}
use Rattle.rtlsim_findings.proofs.finding.findings.Goals as goal

-- what is found with those behind a fault, by whether it is left out
module _ (net : NetlistView) (gated : ℕ → Bool) (found : List FindingView) (fault : CheckFault) (left rest : List CheckFault) (all : List FindingView) (are : left ≡ fault ∷ rest)
    (so_far : found_from net gated found left ≡ all) where
  here : (so : Bool) → is_left_out gated (fault_view fault) ≡ so → found_from net gated (if so then found else joined net found (fault_view fault)) rest ≡ all
  here so is = sym (ap (found_from net gated found) are ∙ ap (λ (b : Bool). found_from net gated (if b then found else joined net found (fault_view fault)) rest) is) ∙ so_far

  left-out : is_left_out gated (fault_view fault) ≡ true → found_from net gated found rest ≡ all
  left-out is = here true is

  taken-in : (new : List FindingView) → is_left_out gated (fault_view fault) ≡ false → new ≡ joined net found (fault_view fault) → found_from net gated new rest ≡ all
  taken-in new is put = ap (λ (fs : List FindingView). found_from net gated fs rest) put ∙ here false is

pub loop-left-preserved-in_ok-join : goal.loop-left-preserved-in_ok-join
loop-left-preserved-in_ok-join c =
    let l = c.loop-left in
    let x = c.fault-item.result in
    record {
      made = c.in_ok-join.ensures.made;
      are = c.in_ok-join.ensures.are;
      causes = c.in_ok-join.ensures.causes;
      same = taken-in c.args.net.now (any_gated c.args.faults.now) _ x l.left.now _ _ (first_is l.left.now x c.in-len1-up.len_at_least c.fault-item.is) l.invariant.same _
          (sym (c.is_left_out.ensures ∙ (λ j. is_left_out (λ (n : ℕ). (ap (is_in n) c.deref.ensures.value ∙ c.in_ok-gated.ensures.are n) j) (fault_view x))) ∙ c.if-not-is_left_out.true)
          c.in_ok-join.ensures.is;
    }

pub loop-left-preserved : goal.loop-left-preserved
loop-left-preserved c =
    let l = c.loop-left in
    let x = c.fault-item.result in
    record {
      made = l.invariant.made;
      are = l.invariant.are;
      causes = l.invariant.causes;
      same = left-out c.args.net.now (any_gated c.args.faults.now) _ x l.left.now _ _ (first_is l.left.now x c.in-len1-up.len_at_least c.fault-item.is) l.invariant.same
          (sym (c.is_left_out.ensures ∙ (λ j. is_left_out (λ (n : ℕ). (ap (is_in n) c.deref.ensures.value ∙ c.in_ok-gated.ensures.are n) j) (fault_view x))) ∙ c.if-not-is_left_out.false);
    }
