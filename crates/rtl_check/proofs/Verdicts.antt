-- A netlist's faults, or its loop.
use Rattle.std.proofs.Common.{◌≡◌, ◌≢◌, ◌==◌, ℕ, zero, suc, true, false, List, [], ◌∷◌, ◌++◌, length, map, refl, sym, ap, subst, ◌∙◌, arith, inl, inr, Vec, Global, vec_len}
use Rattle.std.specs.Prelude.{IsTrue, ◌↔◌}
use Rattle.std.proofs.lemmas.Bool.{eqb-true}
use Rattle.rtl_model.specs.simulation.Netlist.{Netlist}
use Rattle.rtl_model.specs.simulation.Accepted as f
use Rattle.rtl_model.specs.simulation.Faults.{AreFaults, AreFaultsButLoops, fault_number}
use Rattle.rtl_model.specs.simulation.Laws.{FaultsAreListed}
use Rattle.rtl_model.proofs.basics.Lists.{Contains-none}
use Rattle.rtl_check_levels.specs.Feeding as t
use Rattle.rtl_check_levels.specs.OfNets.{IsTableOf}
use Rattle.rtl_check_levels.specs.Rounds.{IsListedOnce}
use Rattle.rtl_check.specs.declared.fault.CheckFault.{CheckFault}
use Rattle.rtl_check.specs.Views.{fault_view}
use Rattle.rtl_calm_nets.specs.InnerResets.{HasInnerReset}
use Rattle.rtl_check.specs.Findings.{AreLoopsOnce}

no_items : (xs : List CheckFault) → (length xs == 0) ≡ true → xs ≡ []
no_items [] e = refl
no_items (x ∷ xs) e = let h = eqb-true (length (x ∷ xs)) 0 e in absurd (omega arith)

pub none_of : (xs : Vec CheckFault Global) → (vec_len xs == 0) ≡ true → xs.items ≡ []
none_of xs e = no_items xs.items (sym (ap (λ (n : ℕ). n == 0) xs.ok.0) ∙ e)

-- a loop alone, where there is no other fault
pub looped : (net : Netlist) (old new : List CheckFault) (loop : CheckFault) → old ≡ [] → AreFaultsButLoops net [] → new ≡ old ++ loop ∷ []
    → fault_number (fault_view loop) ≡ 8 → f.IsFault net (fault_view loop) → AreFaults net (map fault_view new)
looped net old new loop none h e is_loop has = inr (record {
  loop = fault_view loop;
  is = ap (map fault_view) (e ∙ ap (λ (xs : List CheckFault). xs ++ loop ∷ []) none);
  is_loop = is_loop;
  has = has;
  no_other = h;
})

-- the other faults are all that there are, where there are some
pub some_of : (xs : Vec CheckFault Global) → (vec_len xs == 0) ≡ false → map fault_view xs.items ≢ []
some_of xs e none = go xs.items (sym (ap (λ (n : ℕ). n == 0) xs.ok.0) ∙ e) none
  where
    go : (ys : List CheckFault) → (length ys == 0) ≡ false → map fault_view ys ≢ []
    go [] f none = absurd cc
    go (y ∷ ys) f none = absurd cc

pub no_fault : (net : Netlist) (xs : List CheckFault) → xs ≡ [] → AreFaultsButLoops net (map fault_view xs) → AreFaultsButLoops net []
no_fault net xs none h = subst (λ (ys : List CheckFault). AreFaultsButLoops net (map fault_view ys)) none h

pub closed : (net : Netlist) (table : t.Table) → IsTableOf net table → t.IsClosed table
closed net table h p q feeds = (h.combinational p).1 ((h.feeds p q).0 feeds).feeder

-- a netlist with faults isn't accepted
pub refused : (net : Netlist) (faults : List f.Fault) → FaultsAreListed net → AreFaults net faults → IsTrue false ↔ f.IsAccepted net
refused net faults laws h = (to, λ a. absurd (laws.none_if_accepted faults h a))
  where
    to : false ≡ true → f.IsAccepted net
    to e = absurd cc

-- ---- judged by processes

-- what has no loop of processes isn't judged by nets, unless a reset is made inside
pub by_processes : (net : Netlist) → (HasInnerReset net → ⊥) → f.HasNoLoop net → f.IsByNets net → ⊥
by_processes net outer none (wide, inl (processes, loop)) = none processes loop
by_processes net outer none (wide, inr inner) = outer (wide, inner)

-- ---- loops are listed once

-- no loop stands among the other faults
pub none_once : (net : Netlist) (faults : List f.Fault) → AreFaultsButLoops net faults → AreLoopsOnce faults
none_once net faults h round (inl has) = let no : false ≡ true = ((h.are (f.Loop round)).0 has).1 in absurd cc
none_once net faults h round (inr has) = let no : false ≡ true = ((h.are (f.NetLoop round)).0 has).1 in absurd cc

pub no_loops_in : (xs : List CheckFault) → xs ≡ [] → AreLoopsOnce (map fault_view xs)
no_loops_in [] e round (inl h) = absurd (Contains-none (f.Loop round) h)
no_loops_in [] e round (inr h) = absurd (Contains-none (f.NetLoop round) h)
no_loops_in (x ∷ xs) e round h = absurd cc

-- what a loop lists
abbrev listed : f.Fault → List ℕ
listed (f.Loop round) = round
listed (f.NetLoop round) = round
listed _ = []

-- a loop that is listed once, alone
pub one_once : (fault : f.Fault) → IsListedOnce (listed fault) → AreLoopsOnce (fault ∷ [])
one_once fault once round (inl (zero, l, is)) = subst IsListedOnce (ap listed is) once
one_once fault once round (inr (zero, l, is)) = subst IsListedOnce (ap listed is) once
one_once fault once round (inl (suc k, l, is)) = absurd (omega arith)
one_once fault once round (inr (suc k, l, is)) = absurd (omega arith)

pub looped_once : (old new : List CheckFault) (loop : CheckFault) → old ≡ [] → new ≡ old ++ loop ∷ [] → IsListedOnce (listed (fault_view loop)) → AreLoopsOnce (map fault_view new)
looped_once old new loop none e once =
    subst AreLoopsOnce (sym (ap (map fault_view) (e ∙ ap (λ (xs : List CheckFault). xs ++ loop ∷ []) none))) (one_once (fault_view loop) once)
