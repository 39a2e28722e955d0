-- Nets that are resolved, one after the other.
use Rattle.std.proofs.Common.{◌≡◌, ℕ, ◌+◌, ◌<◌, ◌≤◌, List, [], ◌∷◌, length, get_or, map, take, refl, sym, ap, subst, ◌∙◌, arith, ◌⊎◌, inl, inr, Contains}
use Rattle.std.proofs.lemmas.Bool.{cases_eq}
use Rattle.std.proofs.lemmas.List.{length-map, take_more}
use Rattle.std.proofs.lemmas.List.Elements.{Contains-push, Contains-append_left, Contains-push_cases}
use Rattle.rtl_model.specs.nets.FlatNetlist.{FlatNetlist, flat_sources}
use Rattle.rtl_model.specs.nets.CoreNetlist.{core_netlist, core_resolve}
use Rattle.rtl_model.specs.simulation.Netlist.{Netlist, Source, sources_of}
use Rattle.rtl_model.specs.simulation.Cycle.{net_value, source_value}
use Rattle.rtl_model.proofs.basics.Lists.{get_or-map_within}
use Rattle.rtl_model.proofs.nets.Sources.{sources-core_net}
use Rattle.rtl_model.proofs.basics.Search.{is_contained}
use Rattle.rtl_net.specs.Nets.{source_view}
use Rattle.rtl_net.specs.declared.net.Source as r
use Rattle.rtl_kernel.specs.drivers.Resolved.{AreResolved}

module _ (net : Netlist) (drivers : List (List ℕ)) where
  pub none_resolved : (is_one : ℕ → Type 0) (values : List ℕ) → ((n : ℕ) → is_one n → ⊥) → AreResolved net drivers is_one values values
  none_resolved is_one values none = record { as_many = refl; resolved = λ n l h. absurd (none n h); others = λ n l h. refl }

  -- nets up to one, and that one
  pub one_resolved : (first n : ℕ) (old mid new : List ℕ) → first ≤ n → AreResolved net drivers (λ m. (first ≤ m) × (m < n)) old mid
      → length new ≡ length mid → get_or new n 0 ≡ net_value net drivers (sources_of net n) (get_or old n 0) → ((m : ℕ) → (m ≡ n → ⊥) → get_or new m 0 ≡ get_or mid m 0)
      → AreResolved net drivers (λ m. (first ≤ m) × (m < n + 1)) old new
  one_resolved first n old mid new from R as_many value others = record {
    as_many = as_many ∙ R.as_many;
    resolved = λ m l h. resolved m l h (cases_eq m n);
    others = λ m l h. others m (λ e. h (omega (arith, e, from), omega (arith, e))) ∙ R.others m l (λ there. h (there.0, omega (arith, there.1)));
  }
    where
      resolved : (m : ℕ) → m < length old → (first ≤ m) × (m < n + 1) → (m ≡ n) ⊎ (m ≡ n → ⊥) → get_or new m 0 ≡ net_value net drivers (sources_of net m) (get_or old m 0)
      resolved m l h (inl e) = rw e value
      resolved m l h (inr ne) = others m ne ∙ R.resolved m l (h.0, omega (arith, h.1, ne))

  -- a net without a source has its value
  pub kept_value : (first n : ℕ) (old mid : List ℕ) → n < length old → sources_of net n ≡ [] → AreResolved net drivers (λ m. (first ≤ m) × (m < n)) old mid
      → get_or mid n 0 ≡ net_value net drivers (sources_of net n) (get_or old n 0)
  kept_value first n old mid l none R = rw none (R.others n l (λ h. omega (arith, h.1)))

  again : (xs : List Source) (old : ℕ) → net_value net drivers xs (net_value net drivers xs old) ≡ net_value net drivers xs old
  again [] old = refl
  again (x ∷ xs) old = refl

  -- the nets of some groups, and those of one group more
  pub group_resolved : (of_net groups : List ℕ) (i g : ℕ) (old mid new : List ℕ) → i < length groups → get_or groups i 0 ≡ g
      → AreResolved net drivers (λ n. Contains (take i groups) (get_or of_net n 0)) old mid → AreResolved net drivers (λ n. get_or of_net n 0 ≡ g) mid new
      → AreResolved net drivers (λ n. Contains (take (i + 1) groups) (get_or of_net n 0)) old new
  group_resolved of_net groups i g old mid new within is A B = rw (take_more groups i 0 within, is) (record {
    as_many = B.as_many ∙ A.as_many;
    resolved = λ n l h. by n l (Contains-push_cases (take i groups) g (get_or of_net n 0) h) (cases_eq (get_or of_net n 0) g);
    others = λ n l h. B.others n (in_mid n l) (λ e. h (rw e (Contains-push (take i groups) g)))
        ∙ A.others n l (λ there. h (Contains-append_left (take i groups) (g ∷ []) (get_or of_net n 0) there));
  })
    where
      in_mid : (n : ℕ) → n < length old → n < length mid
      in_mid n l = rw (A.as_many) l

      same : (n : ℕ) → n < length old → Contains (take i groups) (get_or of_net n 0) ⊎ (Contains (take i groups) (get_or of_net n 0) → ⊥)
          → net_value net drivers (sources_of net n) (get_or mid n 0) ≡ net_value net drivers (sources_of net n) (get_or old n 0)
      same n l (inl h) = ap (net_value net drivers (sources_of net n)) (A.resolved n l h) ∙ again (sources_of net n) (get_or old n 0)
      same n l (inr h) = ap (net_value net drivers (sources_of net n)) (A.others n l h)

      by : (n : ℕ) → n < length old → Contains (take i groups) (get_or of_net n 0) ⊎ (g ≡ get_or of_net n 0) → (get_or of_net n 0 ≡ g) ⊎ (get_or of_net n 0 ≡ g → ⊥)
          → get_or new n 0 ≡ net_value net drivers (sources_of net n) (get_or old n 0)
      by n l _ (inl e) = B.resolved n (in_mid n l) e ∙ same n l (is_contained (take i groups) (get_or of_net n 0))
      by n l (inl h) (inr ne) = B.others n (in_mid n l) ne ∙ A.resolved n l h
      by n l (inr e) (inr ne) = absurd (ne (sym e))

-- the resolution of a net's sources
pub resolution_is : (net : FlatNetlist) (drivers : List (List ℕ)) (n old : ℕ) (sources : List r.Source) → n < length net.types → map source_view sources ≡ flat_sources net n
    → 0 < length sources → core_resolve (map (λ (s : r.Source). source_value drivers (source_view s)) sources) ≡ net_value (core_netlist net) drivers (sources_of (core_netlist net) n) old
resolution_is net drivers n old [] there is some = absurd (omega arith)
resolution_is net drivers n old (s ∷ ss) there is some =
    sym (ap (λ (xs : List Source). net_value (core_netlist net) drivers xs old) (sources-core_net net n there ∙ sym is)
    ∙ ap (λ (vs : List ℕ). core_resolve (source_value drivers (source_view s) ∷ vs)) (both ss))
  where
    both : (xs : List r.Source) → map (source_value drivers) (map source_view xs) ≡ map (λ (x : r.Source). source_value drivers (source_view x)) xs
    both [] = refl
    both (x ∷ xs) = ap (λ (vs : List ℕ). source_value drivers (source_view x) ∷ vs) (both xs)

pub no_sources : (net : FlatNetlist) (n : ℕ) (sources : List r.Source) → n < length net.types → map source_view sources ≡ flat_sources net n → length sources ≡ 0
    → sources_of (core_netlist net) n ≡ []
no_sources net n [] there is none = sources-core_net net n there ∙ sym is
no_sources net n (s ∷ ss) there is none = absurd (omega arith)

pub source_in : (sources : List r.Source) (all : List Source) (k : ℕ) (d : r.Source) → map source_view sources ≡ all → k < length sources → Contains all (source_view (get_or sources k d))
source_in sources all k d is within =
    subst (λ (xs : List Source). Contains xs (source_view (get_or sources k d))) is (k, rw length-map within, get_or-map_within source_view sources k d _ within)
