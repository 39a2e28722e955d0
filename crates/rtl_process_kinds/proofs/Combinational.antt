-- Which processes are combinational, by the kinds of all.
use Rattle.std.proofs.Common.{◌≡◌, ℕ, ◌<◌, ◌≤◌, true, false, List, length, get_or, refl, sym, ap, ◌∙◌, ◌⊎◌, inl, inr}
use Rattle.std.proofs.lemmas.Bool.{cases_lt}
use Rattle.std.proofs.lemmas.List.{get_or_default, get_or_past}
use Rattle.rtl_model.specs.simulation.Netlist as m
use Rattle.rtl_model.specs.simulation.Netlist.{Netlist, IsCombinational, process}
use Rattle.rtl_body_facts.specs.declared.kinds.ProcessKind.{ProcessKind}
use Rattle.rtl_body_facts.specs.declared.kinds.ProcessKind.TheVariants as k
use Rattle.rtl_process_kinds.specs.KindViews.{IsKind, AreKinds, combinational_kind, combinational_at}

pub kind_there : (kinds : List ProcessKind) (p : ℕ) (d kind : ProcessKind) → p < length kinds → get_or kinds p d ≡ kind → combinational_kind kind ≡ combinational_at kinds p
kind_there kinds p d kind l e = ap combinational_kind (sym e ∙ get_or_default kinds p d k.Mixed l)

pub kind_past : (kinds : List ProcessKind) (p : ℕ) → length kinds ≤ p → false ≡ combinational_at kinds p
kind_past kinds p l = sym (ap combinational_kind (get_or_past kinds p k.Mixed l))

module _ (net : Netlist) (kinds : List ProcessKind) (ks : AreKinds net kinds) where
  by_kind : (p : ℕ) (kind : ProcessKind) → IsKind (process net p) kind → combinational_kind kind ≡ true → (process net p).kind ≡ m.Combinational
  by_kind p k.Combinational d t = d
  by_kind p _ d t = absurd cc

  has_kind : (p : ℕ) (kind : ProcessKind) → IsKind (process net p) kind → (process net p).kind ≡ m.Combinational → combinational_kind kind ≡ true
  has_kind p k.Combinational d e = refl
  has_kind p (k.Clocked c) d e = let h : m.Clocked c.clock c.edge d.reset ≡ m.Combinational = sym d.kind ∙ e in absurd cc
  has_kind p k.Mixed d e = let h : m.Mixed ≡ m.Combinational = sym d ∙ e in absurd cc

  pub combinational_to : (p : ℕ) → combinational_at kinds p ≡ true → IsCombinational net p
  combinational_to p t = go (cases_lt p (length kinds))
    where
      go : (p < length kinds) ⊎ (length kinds ≤ p) → IsCombinational net p
      go (inl l) = let there : p < length net.processes = rw (← ks.each_process) l in (there, by_kind p (get_or kinds p k.Mixed) (ks.each p there) t)
      go (inr l) = let h : false ≡ true = kind_past kinds p l ∙ t in absurd cc

  pub combinational_from : (p : ℕ) → IsCombinational net p → combinational_at kinds p ≡ true
  combinational_from p (l, e) = has_kind p (get_or kinds p k.Mixed) (ks.each p l) e
