-- The clocks of a netlist, by the kinds of its processes.
use Rattle.std.proofs.Common.{◌≡◌, ℕ, ◌<◌, ◌+◌, ◌||◌, Bool, true, List, [], ◌∷◌, length, get_or, take, sym, ap, subst, ◌∙◌}
use Rattle.std.specs.List.{list_any}
use Rattle.std.specs.List.Sorted.{IsStrictlyIncreasing}
use Rattle.std.proofs.lemmas.Bool.{eqb-true, eq-eqb}
use Rattle.std.proofs.lemmas.List.{get_or_default, take_more}
use Rattle.std.proofs.lemmas.List.Folds.{list_any-append}
use Rattle.rtl_model.specs.simulation.Netlist as m
use Rattle.rtl_model.specs.simulation.Netlist.{Netlist, process}
use Rattle.rtl_model.specs.simulation.Accepted.{IsClock, IsClockOf}
use Rattle.rtl_model.proofs.basics.Lists.{any_at, any_true}
use Rattle.rtl_body_facts.specs.declared.kinds.ProcessKind.{ProcessKind}
use Rattle.rtl_body_facts.specs.declared.kinds.ProcessKind.TheVariants as k
use Rattle.rtl_body_facts.specs.Reading.{is_in}
use Rattle.rtl_body_facts.proofs.Anys.{or_none}
use Rattle.rtl_check.specs.Views.{AreClockNets}
use Rattle.rtl_process_kinds.specs.KindViews.{IsKind, AreKinds}
use Rattle.rtl_check.specs.Rules.{has_clock}
use Rattle.rtl_check.proofs.Processes.{clock_there}

-- what is pushed for one more kind
pub one_more : (f : ProcessKind → Bool) (kinds : List ProcessKind) (i : ℕ) (d : ProcessKind) (new old : Bool) → i < length kinds → new ≡ (old || f (get_or kinds i d)) → old ≡ list_any f (take i kinds)
    → new ≡ list_any f (take (i + 1) kinds)
one_more f kinds i d new old l e so_far = e ∙ (ap (λ (b : Bool). b || f (get_or kinds i d)) so_far
    ∙ sym (ap (list_any f) (take_more kinds i d l) ∙ (list_any-append f (take i kinds) (get_or kinds i d ∷ []) ∙ ap (λ (b : Bool). list_any f (take i kinds) || b) (sym (or_none (f (get_or kinds i d)))))))

module _ (net : Netlist) (kinds : List ProcessKind) (ks : AreKinds net kinds) where
  clocked_kind : (p n : ℕ) (kind : ProcessKind) → IsKind (process net p) kind → has_clock n kind ≡ true → IsClockOf net p n
  clocked_kind p n (k.Clocked c) d t = subst (IsClockOf net p) (eqb-true c.clock n t) (c.edge, (d.reset, d.kind))
  clocked_kind p n _ d t = absurd cc

  kind_clocked : (p n : ℕ) (kind : ProcessKind) → IsKind (process net p) kind → IsClockOf net p n → has_clock n kind ≡ true
  kind_clocked p n k.Combinational d (edge, (reset, same)) = let z : m.Combinational ≡ m.Clocked n edge reset = sym d ∙ same in absurd cc
  kind_clocked p n (k.Clocked c) d (edge, (reset, same)) =
      let z : m.Clocked c.clock c.edge d.reset ≡ m.Clocked n edge reset = sym d.kind ∙ same in
      let e : c.clock ≡ n = cc in
      eq-eqb c.clock n e
  kind_clocked p n k.Mixed d (edge, (reset, same)) = let z : m.Mixed ≡ m.Clocked n edge reset = sym d ∙ same in absurd cc

  pub clocks_are : (clocks : List ℕ) → IsStrictlyIncreasing clocks → ((n : ℕ) → is_in n clocks ≡ list_any (has_clock n) kinds) → AreClockNets net clocks
  clocks_are clocks rise same = record { rise = rise; are = λ n. (to n, from n) }
    where
      to : (n : ℕ) → is_in n clocks ≡ true → IsClock net n
      to n t =
          let (kind, (p, l, at), h) = any_at (has_clock n) kinds (sym (same n) ∙ t) in
          let there : p < length net.processes = rw (← ks.each_process) l in
          (p, clocked_kind p n kind (subst (IsKind (process net p)) (get_or_default kinds p k.Mixed kind l ∙ at) (ks.each p there)) h)

      from : (n : ℕ) → IsClock net n → is_in n clocks ≡ true
      from n (p, c) =
          let there = clock_there net p n c in
          let l : p < length kinds = rw ks.each_process there in
          let kind = get_or kinds p k.Mixed in
          same n ∙ any_true (has_clock n) kinds kind (p, l, get_or_default kinds p kind k.Mixed l) (kind_clocked p n kind (ks.each p there) c)
