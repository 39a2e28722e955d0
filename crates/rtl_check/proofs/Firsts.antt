-- The faults of two drivers, and of mixed processes.
use Rattle.std.proofs.Common.{◌≡◌, ℕ, ◌<◌, ◌≤◌, true, false, List, [], ◌∷◌, ◌++◌, length, get_or, map, refl, sym, ap, subst, ◌∙◌, arith, ◌⊎◌, inl, inr}
use Rattle.std.specs.List.{range_with_len}
use Rattle.std.proofs.lemmas.Bool.{cases_lt, eqb-true, eq-eqb}
use Rattle.std.proofs.lemmas.List.{get_or_default}
use Rattle.std.proofs.lemmas.List.FromFn.{length-map-range_with_len}
use Rattle.std.proofs.Math.ListN.{get_or-eq_default}
use Rattle.rtl_model.specs.nets.FlatNetlist.{flat_sources}
use Rattle.rtl_model.specs.simulation.Netlist as m
use Rattle.rtl_model.specs.simulation.Netlist.{Netlist, sources_of}
use Rattle.rtl_model.specs.simulation.Accepted as f
use Rattle.rtl_model.specs.simulation.Accepted.{Fault, IsFault}
use Rattle.rtl_model.specs.simulation.Faults.{fault_number}
use Rattle.rtl_net.specs.declared.net.Source.{Source}
use Rattle.rtl_net.specs.Nets.{NetlistView, flat, source_view}
use Rattle.rtl_body_facts.specs.declared.kinds.ProcessKind.{ProcessKind}
use Rattle.rtl_body_facts.specs.declared.kinds.ProcessKind.TheVariants as k
use Rattle.rtl_process_kinds.specs.KindViews.{IsKind}
use Rattle.rtl_check.specs.Rules.{is_mixed}
use Rattle.rtl_check.specs.declared.fault.CheckFault.{CheckFault}
use Rattle.rtl_check.specs.declared.fault.CheckFault.TheVariants as c
use Rattle.rtl_net.specs.Core.{core}
use Rattle.rtl_check.specs.Listing.{first_named, one_place, AddsFaults}
use Rattle.rtl_process_kinds.proofs.Sources.{sources_there}
use Rattle.rtl_check.proofs.Joined.{adds_nothing, adds_one}

-- ---- mixed processes

at_mixed : (p : ℕ) (x : Fault) → one_place 2 p x ≡ true → x ≡ f.MixedProcess p
at_mixed p (f.MixedProcess q) e = ap f.MixedProcess (eqb-true q p e)
at_mixed p _ e = absurd cc

pub mixed_is : (x : m.Process) (kind : ProcessKind) → IsKind x kind → is_mixed kind ≡ true → x.kind ≡ m.Mixed
mixed_is x k.Mixed d t = d
mixed_is x _ d t = absurd cc

pub never_mixed : (x : m.Process) (kind : ProcessKind) → IsKind x kind → is_mixed kind ≡ false → x.kind ≡ m.Mixed → ⊥
never_mixed x k.Combinational d t e = let h : m.Combinational ≡ m.Mixed = sym d ∙ e in cc
never_mixed x (k.Clocked c) d t e = let h : m.Clocked c.clock c.edge d.reset ≡ m.Mixed = sym d.kind ∙ e in cc
never_mixed x k.Mixed d t e = absurd cc

pub is_of_mixed : (net : Netlist) (p : ℕ) (old new : List CheckFault) → IsFault net (f.MixedProcess p) → new ≡ old ++ c.Mixed p ∷ [] → AddsFaults net (one_place 2 p) old new
is_of_mixed net p old new is grown = adds_one net (one_place 2 p) old new (c.Mixed p) grown is (eq-eqb p p refl) (λ x h e. at_mixed p x e)

pub not_mixed : (net : Netlist) (p : ℕ) (old : List CheckFault) → (IsFault net (f.MixedProcess p) → ⊥) → AddsFaults net (one_place 2 p) old old
not_mixed net p old odd = adds_nothing net (one_place 2 p) old (λ x is e. odd (subst (IsFault net) (at_mixed p x e) is))

-- ---- two drivers

module _ (net : NetlistView) where
  sources_beyond : (n : ℕ) → length net.types ≤ n → sources_of (core net) n ≡ []
  sources_beyond n l = get_or-eq_default (map (flat_sources (flat net)) (range_with_len 0 (length net.types))) [] (rw (length-map-range_with_len (flat_sources (flat net)) 0 (length net.types)) l)

  pub net_there : (x : Fault) → IsFault (core net) x → fault_number x ≡ 1 → first_named x < length net.types
  net_there (f.TwoDrivers n s t) (more, is) one = go (cases_lt n (length net.types))
    where
      go : (n < length net.types) ⊎ (length net.types ≤ n) → n < length net.types
      go (inl l) = l
      go (inr l) = let h : [] ≡ s ∷ t ∷ more = sym (sources_beyond n l) ∙ is in absurd cc
  net_there _ is e = absurd (omega arith)

  at_driven : (n : ℕ) (x : Fault) → one_place 1 n x ≡ true → (s t : m.Source) × (x ≡ f.TwoDrivers n s t)
  at_driven n (f.TwoDrivers q s t) e = (s, t, ap (λ (i : ℕ). f.TwoDrivers i s t) (eqb-true q n e))
  at_driven _ _ e = absurd cc

  listed : (n : ℕ) (sources : List Source) → n < length net.types → map source_view sources ≡ flat_sources (flat net) n → sources_of (core net) n ≡ map source_view sources
  listed n sources l e = sources_there net n l ∙ sym e

  few : (n : ℕ) (sources : List Source) → length sources < 2 → sources_of (core net) n ≡ map source_view sources → (s t : m.Source)
      → IsFault (core net) (f.TwoDrivers n s t) → ⊥
  few n [] l e s t (more, is) = let h : [] ≡ s ∷ t ∷ more = sym e ∙ is in cc
  few n (a ∷ []) l e s t (more, is) = let h : source_view a ∷ [] ≡ s ∷ t ∷ more = sym e ∙ is in cc
  few n (a ∷ b ∷ rest) l e s t is = absurd (omega arith)

  pub not_driven : (n : ℕ) (sources : List Source) (old : List CheckFault) → n < length net.types → map source_view sources ≡ flat_sources (flat net) n → length sources < 2
      → AddsFaults (core net) (one_place 1 n) old old
  not_driven n sources old l e short = adds_nothing (core net) (one_place 1 n) old none
    where
      none : (x : Fault) → IsFault (core net) x → one_place 1 n x ≡ true → ⊥
      none x is t = let (r, s, same) = at_driven n x t in few n sources short (listed n sources l e) r s (subst (IsFault (core net)) same is)

  pub is_driven : (n : ℕ) (sources : List Source) (first second : Source) (old new : List CheckFault) → n < length net.types → map source_view sources ≡ flat_sources (flat net) n
      → 2 ≤ length sources → first ≡ get_or sources 0 first → second ≡ get_or sources 1 second → new ≡ old ++ c.TwoDrivers n first second ∷ [] → AddsFaults (core net) (one_place 1 n) old new
  is_driven n [] first second old new l e long a b grown = absurd (omega arith)
  is_driven n (x ∷ []) first second old new l e long a b grown = absurd (omega arith)
  is_driven n (x ∷ y ∷ rest) first second old new l e long a b grown = adds_one (core net) (one_place 1 n) old new (c.TwoDrivers n first second) grown there (eq-eqb n n refl) only
    where
      spelled : sources_of (core net) n ≡ source_view first ∷ source_view second ∷ map source_view rest
      spelled = listed n (x ∷ y ∷ rest) l e ∙ (ap (λ (s : Source). source_view s ∷ source_view y ∷ map source_view rest) (sym a)
          ∙ ap (λ (s : Source). source_view first ∷ source_view s ∷ map source_view rest) (sym b))

      there : IsFault (core net) (f.TwoDrivers n (source_view first) (source_view second))
      there = (map source_view rest, spelled)

      only : (y : Fault) → IsFault (core net) y → one_place 1 n y ≡ true → y ≡ f.TwoDrivers n (source_view first) (source_view second)
      only z is t = let (r, s, same) = at_driven n z t in same ∙ go r s (subst (IsFault (core net)) same is)
        where
          go : (r s : m.Source) → IsFault (core net) (f.TwoDrivers n r s) → f.TwoDrivers n r s ≡ f.TwoDrivers n (source_view first) (source_view second)
          go r s (more, at) =
              let h : r ∷ s ∷ more ≡ source_view first ∷ source_view second ∷ map source_view rest = sym at ∙ spelled in
              let i : r ≡ source_view first = cc in
              let j : s ≡ source_view second = cc in
              ap (λ (u : m.Source). f.TwoDrivers n u s) i ∙ ap (f.TwoDrivers n (source_view first)) j

  pub driven_pushed : (n : ℕ) (sources : List Source) (d e : Source) (old new : List CheckFault) → n < length net.types → map source_view sources ≡ flat_sources (flat net) n
      → 2 ≤ length sources → new ≡ old ++ c.TwoDrivers n (get_or sources 0 d) (get_or sources 1 e) ∷ [] → AddsFaults (core net) (one_place 1 n) old new
  driven_pushed n sources d e old new l is long grown =
      is_driven n sources (get_or sources 0 d) (get_or sources 1 e) old new l is long
      (get_or_default sources 0 d (get_or sources 0 d) (omega arith)) (get_or_default sources 1 e (get_or sources 1 e) (omega arith)) grown
