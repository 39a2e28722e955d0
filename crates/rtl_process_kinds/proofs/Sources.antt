-- The sources of nets, and what processes are sensitive to.
use Rattle.std.proofs.Common.{◌≡◌, ℕ, ◌<◌, Bool, true, ◌||◌, List, [], ◌∷◌, length, get_or, map, refl, sym, ap, subst, ◌∙◌, arith}
use Rattle.std.specs.List.{list_any}
use Rattle.std.proofs.lemmas.List.{get_or_default, length-map}
use Rattle.std.proofs.lemmas.List.FromFn.{get_or-map-range_with_len}
use Rattle.rtl_model.specs.nets.FlatNetlist.{flat_sources, ProcessInRange}
use Rattle.rtl_model.specs.simulation.Netlist.{sources_of}
use Rattle.rtl_model.specs.simulation.Levels.{is_driver}
use Rattle.rtl_model.proofs.basics.Lists.{any_true, get_or-map_within}
use Rattle.rtl_net.specs.declared.net.Source.{Source as Kept}
use Rattle.rtl_net.specs.declared.process.Process.{Process}
use Rattle.rtl_net.specs.Nets.{NetlistView, flat, process_view, source_view}
use Rattle.rtl_net.specs.Elaborated.{IsNet}
use Rattle.rtl_net.specs.Core.{core}
use Rattle.rtl_process_kinds.specs.Drivers.{is_driven}

pub any_map : {X Y : Type 0} (g : Y → Bool) (h : X → Y) (xs : List X) → list_any g (map h xs) ≡ list_any (λ x. g (h x)) xs
any_map g h [] = refl
any_map g h (x ∷ xs) = ap (λ (b : Bool). g (h x) || b) (any_map g h xs)

pub sources_there : (net : NetlistView) (n : ℕ) → n < length net.types → sources_of (core net) n ≡ flat_sources (flat net) n
sources_there net n l = get_or-map-range_with_len (flat_sources (flat net)) 0 (length net.types) n n [] l (omega arith)

pub any_here : {X : Type 0} (f : X → Bool) (xs : List X) (i : ℕ) (d : X) → i < length xs → f (get_or xs i d) ≡ true → list_any f xs ≡ true
any_here f xs i d l t = any_true f xs (get_or xs i d) (i, l, get_or_default xs i (get_or xs i d) d l) t

pub driven_by : (net : NetlistView) (n : ℕ) (sources : List Kept) → n < length net.types → map source_view sources ≡ flat_sources (flat net) n
    → list_any (λ (s : Kept). is_driver (source_view s)) sources ≡ is_driven (core net) n
driven_by net n sources l e = sym (any_map is_driver source_view sources) ∙ ap (list_any is_driver) (e ∙ sym (sources_there net n l))

-- what a process is sensitive to is there
pub nets_of_wakes : (net : NetlistView) → IsNet net → (p : ℕ) (x : Process) → p < length net.processes → x ≡ get_or net.processes p x
    → (k d : ℕ) → k < length x.wakes.items → get_or x.wakes.items k d < length net.types
nets_of_wakes net elaborated p x there at k d l =
    let same : get_or (map process_view net.processes) p (process_view x) ≡ process_view x = get_or-map_within process_view net.processes p x (process_view x) there ∙ ap process_view (sym at) in
    let in_range : ProcessInRange net.types (get_or (map process_view net.processes) p (process_view x)) = elaborated.in_range.processes p (process_view x) (rw (length-map net.processes process_view) there) in
    (subst (ProcessInRange net.types) same in_range).wakes k d l
