-- The sources of a net, and whether it has two.
use Rattle.std.proofs.Common.{◌≡◌, ℕ, ◌<◌, true, nat_lt, List, [], ◌∷◌, length, map, refl, sym, ◌∙◌, arith}
use Rattle.std.proofs.lemmas.Bool.{ltb-true}
use Rattle.rtl_model.specs.nets.FlatNetlist.{flat_sources}
use Rattle.rtl_model.specs.simulation.Netlist.{sources_of}
use Rattle.rtl_net.specs.declared.net.Source.{Source}
use Rattle.rtl_net.specs.Nets.{NetlistView, flat, source_view}
use Rattle.rtl_net.specs.Core.{core}
use Rattle.rtl_process_kinds.proofs.Sources.{sources_there}
use Rattle.rtl_recheck.specs.Kept.{HasOneSource}

module _ (net : NetlistView) (n : ℕ) (l : n < length net.types) where
  listed : (xs : List Source) → map source_view xs ≡ flat_sources (flat net) n → map source_view xs ≡ sources_of (core net) n
  listed xs e = e ∙ sym (sources_there net n l)

  pub few_to : (xs : List Source) → map source_view xs ≡ flat_sources (flat net) n → nat_lt (length xs) 2 ≡ true → HasOneSource (core net) n
  few_to [] e t first second (more, is) = let h : [] ≡ first ∷ second ∷ more = listed [] e ∙ is in cc
  few_to (x ∷ []) e t first second (more, is) = let h : source_view x ∷ [] ≡ first ∷ second ∷ more = listed (x ∷ []) e ∙ is in cc
  few_to (x ∷ y ∷ zs) e t first second (more, is) = let k = ltb-true (length (x ∷ y ∷ zs)) 2 t in absurd (omega arith)

  pub few_from : (xs : List Source) → map source_view xs ≡ flat_sources (flat net) n → HasOneSource (core net) n → nat_lt (length xs) 2 ≡ true
  few_from (x ∷ y ∷ zs) e none = absurd (none (source_view x) (source_view y) (map source_view zs, sym (listed (x ∷ y ∷ zs) e)))
  few_from _ e none = refl
