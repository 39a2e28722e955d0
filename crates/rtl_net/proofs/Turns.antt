-- The turns of the loops that fill the tables.
use Rattle.std.proofs.Common.{◌≡◌, ℕ, suc, ◌+◌, ◌<◌, ◌≤◌, List, [], ◌∷◌, ◌++◌, length, map, set, take, drop, slice_index_or, Some, refl, sym, ap, ◌∙◌, arith, subst, drop-cons}
use Rattle.std.proofs.lemmas.List.{map-append, length-map, get_or-map, take_more, length-take-le}
use Rattle.smallvec.specs.SmallVec.{SmallVec}
use Rattle.rtl_model.specs.simulation.Netlist.{Driver, Idle}
use Rattle.rtl_model.specs.nets.FlatNetlist.{FlatDriver, drivers_of, all_drivers_of}
use Rattle.rtl_net.specs.declared.net.Source.{Source}
use Rattle.rtl_net.specs.declared.net.Source.TheVariants as s
use Rattle.rtl_net.specs.declared.net.Owner.{Owner}
use Rattle.rtl_net.specs.declared.process.Driver as d
use Rattle.rtl_net.specs.declared.process.Process.{Process}
use Rattle.rtl_net.specs.declared.signal.Signal.{Signal}
use Rattle.rtl_net.specs.declared.building.IdlePort.{IdlePort}
use Rattle.rtl_net.specs.Nets.{source_view, driver_view, process_view, signal_view}
use Rattle.rtl_net.specs.Names.{Element, place_in, element_from}
use Rattle.rtl_net.specs.Parts.{idle_at}
use Rattle.rtl_net.specs.steps.Tables.{nets_of, shown, sources_at, AddsSources, owner_at, Owns, element_at}
use Rattle.rtl_net.proofs.Filling.{one_at, adds-then, adds-same, adds-one, drivers-push, idle-push, all_drivers-push, from_place, owns-one, owns-signal}

-- the list at a net, with one source more
pushed : (table : List (SmallVec Source)) (k : ℕ) (v listed : SmallVec Source) (x : Source) → k < length table → listed ≡ slice_index_or table k listed
    → v.items ≡ listed.items ++ x ∷ [] → shown v ≡ sources_at table k ++ source_view x ∷ []
pushed table k v listed x l at e =
    ap (map source_view) e ∙ map-append source_view listed.items (x ∷ [])
    ∙ ap (λ xs. xs ++ source_view x ∷ []) (ap shown at ∙ sym (get_or-map shown table k listed [] l))

net-at : (drives : List d.Driver) (place : ℕ) (e : d.Driver) → place < length drives → slice_index_or (nets_of drives) place 0 ≡ (slice_index_or drives place e).net
net-at drives place e l =
    get_or-map (λ (x : FlatDriver). x.net) (map driver_view drives) place (driver_view e) 0 (omega (arith, l, length-map drives driver_view))
    ∙ ap (λ (x : FlatDriver). x.net) (get_or-map driver_view drives place e (driver_view e) l)

as_many : (drives : List d.Driver) → length (nets_of drives) ≡ length drives
as_many drives = length-map (map driver_view drives) (λ (x : FlatDriver). x.net) ∙ length-map drives driver_view

pub add-driver : (process : ℕ) (drives : List d.Driver) (place : ℕ) (e : d.Driver) (start table : List (SmallVec Source)) (v listed : SmallVec Source)
    → place < length drives → (slice_index_or drives place e).net < length table
    → listed ≡ slice_index_or table (slice_index_or drives place e).net listed → v.items ≡ listed.items ++ s.Driven process place ∷ []
    → AddsSources (λ n. drivers_of n process 0 (take place (nets_of drives))) start table
    → AddsSources (λ n. drivers_of n process 0 (take (place + 1) (nets_of drives))) start (set table (slice_index_or drives place e).net v)
add-driver process drives place e start table v listed l there at gave before =
    let k = (slice_index_or drives place e).net in
    let counted : 0 + length (take place (nets_of drives)) ≡ place = omega (arith, length-take-le place (nets_of drives) (omega (arith, l, as_many drives))) in
    let more : take (place + 1) (nets_of drives) ≡ take place (nets_of drives) ++ k ∷ [] =
    take_more (nets_of drives) place 0 (omega (arith, l, as_many drives)) ∙ ap (λ m. take place (nets_of drives) ++ m ∷ []) (net-at drives place e l) in
    adds-same _ _ start (set table k v)
    (λ n.
    ap (λ p. drivers_of n process 0 (take place (nets_of drives)) ++ one_at k (Driver process p) n) (sym counted)
    ∙ sym (drivers-push n process 0 (take place (nets_of drives)) k) ∙ ap (drivers_of n process 0) (sym more))
    (adds-then (λ n. drivers_of n process 0 (take place (nets_of drives))) (one_at k (Driver process place)) start table (set table k v) before
    (adds-one table k v (Driver process place) there (pushed table k v listed (s.Driven process place) there at gave)))

pub add-idle : (ports : List IdlePort) (i : ℕ) (e : IdlePort) (start table : List (SmallVec Source)) (v listed : SmallVec Source)
    → i < length ports → (slice_index_or ports i e).net < length table
    → listed ≡ slice_index_or table (slice_index_or ports i e).net listed → v.items ≡ listed.items ++ s.Idle (slice_index_or ports i e).start ∷ []
    → AddsSources (λ n. map Idle (idle_at (take i ports) n)) start table
    → AddsSources (λ n. map Idle (idle_at (take (i + 1) ports) n)) start (set table (slice_index_or ports i e).net v)
add-idle ports i e start table v listed l there at gave before =
    let p = slice_index_or ports i e in
    adds-same _ _ start (set table p.net v) (λ n. sym (idle-push n (take i ports) p) ∙ ap (λ qs. map Idle (idle_at qs n)) (sym (take_more ports i e l)))
    (adds-then (λ n. map Idle (idle_at (take i ports) n)) (one_at p.net (Idle p.start)) start table (set table p.net v) before
    (adds-one table p.net v (Idle p.start) there (pushed table p.net v listed (s.Idle p.start) there at gave)))

-- one more process
pub all-drivers-more : (n : ℕ) (ps : List Process) (i : ℕ) (p : Process) → i < length ps → p ≡ slice_index_or ps i p
    → all_drivers_of n 0 (take i (map process_view ps)) ++ drivers_of n i 0 (nets_of p.drives.items) ≡ all_drivers_of n 0 (take (i + 1) (map process_view ps))
all-drivers-more n ps i p l at =
    let l' : i < length (map process_view ps) = omega (arith, l, length-map ps process_view) in
    let counted : 0 + length (take i (map process_view ps)) ≡ i = omega (arith, length-take-le i (map process_view ps) (omega (arith, l'))) in
    let item : slice_index_or (map process_view ps) i (process_view p) ≡ process_view p = get_or-map process_view ps i p (process_view p) l ∙ ap process_view (sym at) in
    ap (λ k. all_drivers_of n 0 (take i (map process_view ps)) ++ drivers_of n k 0 (nets_of p.drives.items)) (sym counted)
    ∙ sym (all_drivers-push n 0 (take i (map process_view ps)) (process_view p))
    ∙ ap (all_drivers_of n 0) (sym (take_more (map process_view ps) i (process_view p) l' ∙ ap (λ q. take i (map process_view ps) ++ q ∷ []) item))

pub own-one : (signal : ℕ) (nets : List ℕ) (k place : ℕ) (old mid : List Owner) → place ≡ suc k → place ≤ length nets → slice_index_or nets k 0 < length mid
    → Owns (λ n. element_at signal (from_place place (place_in (drop place nets) n))) old mid
    → Owns (λ n. element_at signal (from_place k (place_in (drop k nets) n))) old (set mid (slice_index_or nets k 0) (record { signal = signal; place = k }))
own-one signal nets k place old mid e l there before =
    let m = slice_index_or nets k 0 in
    let left : drop k nets ≡ m ∷ drop (suc k) nets = drop-cons nets k 0 (omega (arith, e, l)) in
    let before' : Owns (λ n. element_at signal (from_place (suc k) (place_in (drop (suc k) nets) n))) old mid =
    subst (λ p. Owns (λ n. element_at signal (from_place p (place_in (drop p nets) n))) old mid) e before in
    subst (λ xs. Owns (λ n. element_at signal (from_place k (place_in xs n))) old (set mid m (record { signal = signal; place = k }))) (sym left)
    (owns-one signal k m (drop (suc k) nets) (record { signal = signal; place = k }) old mid refl there before')

pub own-signal : (signals : List Signal) (k number : ℕ) (x : Signal) (n : ℕ) (e : Element) (old new : List Owner) → number ≡ suc k → number ≤ length signals
    → x ≡ slice_index_or signals k x → n < length old → Owns (λ m. element_at k (place_in x.nets.items m)) old new
    → (element_from number (drop number (map signal_view signals)) n ≡ Some e → owner_at old n e ≡ e)
    → element_from k (drop k (map signal_view signals)) n ≡ Some e → owner_at new n e ≡ e
own-signal signals k number x n e old new same l at there owns before h =
    let l' : k < length signals = omega (arith, same, l) in
    let item : slice_index_or (map signal_view signals) k (signal_view x) ≡ signal_view x = get_or-map signal_view signals k x (signal_view x) l' ∙ ap signal_view (sym at) in
    let left : drop k (map signal_view signals) ≡ signal_view x ∷ drop (suc k) (map signal_view signals) =
    drop-cons (map signal_view signals) k (signal_view x) (omega (arith, l', length-map signals signal_view)) ∙ ap (λ s. s ∷ drop (suc k) (map signal_view signals)) item in
    owns-signal k (signal_view x) (drop (suc k) (map signal_view signals)) n e old new there owns
    (subst (λ m. element_from m (drop m (map signal_view signals)) n ≡ Some e → owner_at old n e ≡ e) same before)
    (ap (λ ss. element_from k ss n) (sym left) ∙ h)
