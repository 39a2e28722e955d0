use Rattle.std.proofs.Common.{◌≡◌, ℕ, List, ◌∷◌, ◌++◌, map, append_assoc, sym, ap, ◌∙◌}
use Rattle.rtlsim_findings.specs.Sayings.{ranges_from, ended, begun_by}
use Rattle.rtlsim_findings.proofs.Lists.{first_is}
use Rattle.rtlsim_findings.proofs.naming.push_ranges.Goals as goal

-- a name more
more : {A : Type 0} (left others : List A) (x : A) (first last begin next : List ℕ) (old new all : List (List ℕ)) → left ≡ x ∷ others → (items : A → List ℕ)
    → next ≡ items x → new ≡ old ++ ended first last next → begin ≡ begun_by first last next
    → old ++ ranges_from first last (map items left) ≡ all → new ++ ranges_from begin next (map items others) ≡ all
more left others x first last begin next old new all are items is pushed begun so_far =
    ap (λ t. t ++ ranges_from begin next (map items others)) pushed ∙ append_assoc old (ended first last next) (ranges_from begin next (map items others))
    ∙ ap (λ b. old ++ (ended first last next ++ ranges_from b next (map items others))) begun
    ∙ ap (λ n. old ++ (ended first last n ++ ranges_from (begun_by first last n) n (map items others))) is
    ∙ sym (ap (λ ls. old ++ ranges_from first last (map items ls)) are) ∙ so_far

pub loop-left-preserved : goal.loop-left-preserved
loop-left-preserved c =
    let l = c.loop-left in
    more l.left.now _ c.text-item.result l.first.now l.last.now _ _ _ _ _ (first_is l.left.now c.text-item.result c.in-len1-up.len_at_least c.text-item.is) (λ t. t.items)
    c.deref-next.ensures.value c.in_ok-push_ended.ensures c.begun_by-first.ensures l.invariant
