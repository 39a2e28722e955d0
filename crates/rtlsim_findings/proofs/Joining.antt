-- Where a fault joins a finding.
use Rattle.std.proofs.Common.{◌≡◌, ℕ, suc, ◌+◌, ◌<◌, ◌≤◌, Bool, true, false, ◌||◌, if◌then◌else◌, List, [], ◌∷◌, ◌++◌, length, get_or, set, refl, ap, arith}
use Rattle.std.specs.List.{list_any}
use Rattle.indexmap.specs.IndexSet.{insert_key}
use Rattle.rtl_model.specs.simulation.Accepted.{Fault}
use Rattle.rtl_net.specs.Nets.{NetlistView}
use Rattle.rtlsim_findings.specs.Causes.{cause_of, is_same}
use Rattle.rtlsim_findings.specs.Findings.{FindingView, begun, joined, with_other}
use Rattle.rtlsim_findings.specs.contracts.cause.CausePartialEq.TheImpl.{ghosts}
use Rattle.rtlsim_findings.specs.steps.Joining.{causes_of, place_in}
use Rattle.rtlsim_findings.proofs.Keys.{same}

module _ (net : NetlistView) (fault : Fault) where
  -- it joins the finding at that place
  pub joined_at : (found : List FindingView) (d : FindingView) (n : ℕ) → n ≡ place_in (cause_of net fault) (causes_of found) → n < length found
      → joined net found fault ≡ set found n (with_other (get_or found n d) fault)
  joined_at [] d n e lt = absurd (omega (arith, lt))
  joined_at (f ∷ found) d n e lt = by (is_same (cause_of net fault) f.cause) (λ within. joined_at found d (place_in (cause_of net fault) (causes_of found)) refl within) e
    where
      by : (b : Bool) → (place_in (cause_of net fault) (causes_of found) < length found
          → joined net found fault ≡ set found (place_in (cause_of net fault) (causes_of found)) (with_other (get_or found (place_in (cause_of net fault) (causes_of found)) d) fault))
          → n ≡ (if b then 0 else place_in (cause_of net fault) (causes_of found) + 1)
          → (if b then with_other f fault ∷ found else f ∷ joined net found fault) ≡ set (f ∷ found) n (with_other (get_or (f ∷ found) n d) fault)
      by true more is = rw is refl
      by false more is =
          let p = place_in (cause_of net fault) (causes_of found) in
          let next : n ≡ suc p = omega (arith, is) in
          let within : p < length found = omega (arith, next, lt) in
          rw next (ap (λ t. f ∷ t) (more within))

  -- or it begins one behind the others
  pub joined_end : (found : List FindingView) → length found ≤ place_in (cause_of net fault) (causes_of found) → joined net found fault ≡ found ++ begun net fault ∷ []
  joined_end [] l = refl
  joined_end (f ∷ found) l = by (is_same (cause_of net fault) f.cause) (λ within. joined_end found within) l
    where
      by : (b : Bool) → (length found ≤ place_in (cause_of net fault) (causes_of found) → joined net found fault ≡ found ++ begun net fault ∷ [])
          → suc (length found) ≤ (if b then 0 else place_in (cause_of net fault) (causes_of found) + 1)
          → (if b then with_other f fault ∷ found else f ∷ joined net found fault) ≡ f ∷ (found ++ begun net fault ∷ [])
      by true more is = absurd (omega (arith, is))
      by false more is = ap (λ t. f ∷ t) (more (omega (arith, is)))

  -- its cause is put to theirs as to a set
  pub joined_causes : (found : List FindingView) → causes_of (joined net found fault) ≡ insert_key ghosts.eq (causes_of found) (cause_of net fault)
  joined_causes [] = refl
  joined_causes (f ∷ found) =
      by (is_same (cause_of net fault) f.cause) (ghosts.eq (cause_of net fault) f.cause) (list_any (ghosts.eq (cause_of net fault)) (causes_of found)) (same (cause_of net fault) f.cause) (joined_causes found)
    where
      by : (b e a : Bool) → e ≡ b → causes_of (joined net found fault) ≡ (if a then causes_of found else causes_of found ++ cause_of net fault ∷ [])
          → causes_of (if b then with_other f fault ∷ found else f ∷ joined net found fault) ≡ (if e || a then f.cause ∷ causes_of found else f.cause ∷ (causes_of found ++ cause_of net fault ∷ []))
      by true true a is more = refl
      by true false a is more = absurd (let k : false ≡ true = is in cc)
      by false true a is more = absurd (let k : true ≡ false = is in cc)
      by false false true is more = ap (λ t. f.cause ∷ t) more
      by false false false is more = ap (λ t. f.cause ∷ t) more
