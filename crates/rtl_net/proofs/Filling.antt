-- How the tables of sources and owners are filled.
use Rattle.std.proofs.Common.{◌≡◌, ℕ, suc, ◌+◌, ◌<◌, ◌⊎◌, inl, inr, Bool, true, false, ◌==◌, if◌then◌else◌, List, [], ◌∷◌, ◌++◌, length, map, set, slice_index_or, Option, Some, None, refl, sym, ap, ◌∙◌, arith, get_or-set_same, get_or-set_other, length-set, eq-eqb, ne_eqb}
use Rattle.std.specs.Prelude.{option_map}
use Rattle.std.proofs.lemmas.List.{append_assoc, append-nil, length-map, map-set}
use Rattle.std.proofs.lemmas.Bool.{cases_eq}
use Rattle.smallvec.specs.SmallVec.{SmallVec}
use Rattle.rtl_model.specs.simulation.Netlist as core
use Rattle.rtl_model.specs.simulation.Netlist.{Driver, Idle}
use Rattle.rtl_model.specs.nets.FlatNetlist.{FlatProcess, targets, drivers_of, all_drivers_of}
use Rattle.rtl_net.specs.declared.net.Source.{Source}
use Rattle.rtl_net.specs.declared.net.Source.TheVariants as s
use Rattle.rtl_net.specs.declared.net.Owner.{Owner}
use Rattle.rtl_net.specs.declared.building.IdlePort.{IdlePort}
use Rattle.rtl_net.specs.Nets.{SignalView, source_view}
use Rattle.rtl_net.specs.NetOf.{idle_values, owner_view}
use Rattle.rtl_net.specs.Names.{Element, place_in, element_or, element_from}
use Rattle.rtl_net.specs.Parts.{idle_at}
use Rattle.rtl_net.specs.steps.Tables.{shown, sources_at, AddsSources, owner_or, owner_at, Owns, element_at}
use Rattle.rtl_net.proofs.Naming.{some-same}

-- ---- writes

-- what a table shows at n after a write at k
seen-set : {X Y : Type 0} (f : X → Y) (xs : List X) (k n : ℕ) (x : X) (d : Y) → k < length xs
    → slice_index_or (map f (set xs k x)) n d ≡ (if k == n then f x else slice_index_or (map f xs) n d)
seen-set f xs k n x d l = ap (λ ys. slice_index_or ys n d) (map-set f xs k x) ∙ go (cases_eq k n)
  where
    go : (k ≡ n) ⊎ (k ≡ n → ⊥) → slice_index_or (set (map f xs) k (f x)) n d ≡ (if k == n then f x else slice_index_or (map f xs) n d)
    go (inl e) =
        ap (λ m. slice_index_or (set (map f xs) k (f x)) m d) (sym e) ∙ get_or-set_same (map f xs) k (f x) d (omega (arith, l, length-map xs f))
        ∙ sym (ap (λ b. if b then f x else slice_index_or (map f xs) n d) (eq-eqb k n e))
    go (inr other) =
        get_or-set_other (map f xs) k n (f x) d (λ e. other (sym e)) ∙ sym (ap (λ b. if b then f x else slice_index_or (map f xs) n d) (ne_eqb k n other))

-- ---- sources

-- a source at net k alone
abbrev pub one_at : (k : ℕ) → core.Source → (n : ℕ) → List core.Source
one_at k x n = if k == n then x ∷ [] else []

pub adds-then : (f g : ℕ → List core.Source) (old mid new : List (SmallVec Source)) → AddsSources f old mid → AddsSources g mid new → AddsSources (λ n. f n ++ g n) old new
adds-then f g old mid new a b = record {
  as_many = b.as_many ∙ a.as_many;
  each = λ n l. b.each n (omega (arith, l, a.as_many)) ∙ ap (λ xs. xs ++ g n) (a.each n l) ∙ append_assoc (sources_at old n) (f n) (g n);
}

pub adds-same : (f g : ℕ → List core.Source) (old new : List (SmallVec Source)) → ((n : ℕ) → f n ≡ g n) → AddsSources f old new → AddsSources g old new
adds-same f g old new e a = record { as_many = a.as_many; each = λ n l. a.each n l ∙ ap (λ xs. sources_at old n ++ xs) (e n) }

pub adds-one : (old : List (SmallVec Source)) (k : ℕ) (v : SmallVec Source) (x : core.Source) → k < length old
    → shown v ≡ sources_at old k ++ x ∷ [] → AddsSources (one_at k x) old (set old k v)
adds-one old k v x l e = record { as_many = length-set old k v; each = λ n m. seen-set shown old k n v [] l ∙ go n (cases_eq k n) }
  where
    go : (n : ℕ) → (k ≡ n) ⊎ (k ≡ n → ⊥) → (if k == n then shown v else sources_at old n) ≡ sources_at old n ++ one_at k x n
    go n (inl same) =
        ap (λ b. if b then shown v else sources_at old n) (eq-eqb k n same) ∙ e ∙ ap (λ m. sources_at old m ++ x ∷ []) same
        ∙ sym (ap (λ b. sources_at old n ++ (if b then x ∷ [] else [])) (eq-eqb k n same))
    go n (inr other) =
        ap (λ b. if b then shown v else sources_at old n) (ne_eqb k n other) ∙ sym (append-nil (sources_at old n))
        ∙ sym (ap (λ b. sources_at old n ++ (if b then x ∷ [] else [])) (ne_eqb k n other))

-- ---- one more driver, idle port or process

pub drivers-push : (n p s : ℕ) (nets : List ℕ) (k : ℕ) → drivers_of n p s (nets ++ k ∷ []) ≡ drivers_of n p s nets ++ one_at k (Driver p (s + length nets)) n
drivers-push n p s [] k = ap (λ place. one_at k (Driver p place) n) (let e : s ≡ s + 0 = omega arith in e)
drivers-push n p s (m ∷ ms) k = go (m == n) refl (drivers-push n p (suc s) ms k)
  where
    place : suc s + length ms ≡ s + suc (length ms)
    place = omega arith

    go : (b : Bool) → (m == n) ≡ b → drivers_of n p (suc s) (ms ++ k ∷ []) ≡ drivers_of n p (suc s) ms ++ one_at k (Driver p (suc s + length ms)) n
        → (if b then Driver p s ∷ drivers_of n p (suc s) (ms ++ k ∷ []) else drivers_of n p (suc s) (ms ++ k ∷ []))
        ≡ (if b then Driver p s ∷ drivers_of n p (suc s) ms else drivers_of n p (suc s) ms) ++ one_at k (Driver p (s + suc (length ms))) n
    go true e h = ap (λ xs. Driver p s ∷ xs) (h ∙ ap (λ x. drivers_of n p (suc s) ms ++ one_at k (Driver p x) n) place)
    go false e h = h ∙ ap (λ x. drivers_of n p (suc s) ms ++ one_at k (Driver p x) n) place

pub idle-push : (n : ℕ) (ports : List IdlePort) (p : IdlePort) → map Idle (idle_at (ports ++ p ∷ []) n) ≡ map Idle (idle_at ports n) ++ one_at p.net (Idle p.start) n
idle-push n [] p = go (p.net == n)
  where
    go : (b : Bool) → map Idle (if b then p.start ∷ [] else []) ≡ (if b then Idle p.start ∷ [] else [])
    go true = refl
    go false = refl
idle-push n (q ∷ qs) p = go (q.net == n) (idle-push n qs p)
  where
    go : (b : Bool) → map Idle (idle_at (qs ++ p ∷ []) n) ≡ map Idle (idle_at qs n) ++ one_at p.net (Idle p.start) n
        → map Idle (if b then q.start ∷ idle_at (qs ++ p ∷ []) n else idle_at (qs ++ p ∷ []) n)
        ≡ map Idle (if b then q.start ∷ idle_at qs n else idle_at qs n) ++ one_at p.net (Idle p.start) n
    go true h = ap (λ xs. Idle q.start ∷ xs) h
    go false h = h

pub all_drivers-push : (n s : ℕ) (ps : List FlatProcess) (p : FlatProcess) → all_drivers_of n s (ps ++ p ∷ []) ≡ all_drivers_of n s ps ++ drivers_of n (s + length ps) 0 (targets p)
all_drivers-push n s [] p = append-nil (drivers_of n s 0 (targets p)) ∙ ap (λ k. drivers_of n k 0 (targets p)) (let e : s ≡ s + 0 = omega arith in e)
all_drivers-push n s (q ∷ qs) p =
    let place : suc s + length qs ≡ s + suc (length qs) = omega arith in
    ap (λ xs. drivers_of n s 0 (targets q) ++ xs) (all_drivers-push n (suc s) qs p ∙ ap (λ k. all_drivers_of n (suc s) qs ++ drivers_of n k 0 (targets p)) place)
    ∙ sym (append_assoc (drivers_of n s 0 (targets q)) (all_drivers_of n (suc s) qs) (drivers_of n (s + suc (length qs)) 0 (targets p)))

-- ---- the idle ones among the sources

idle_of : List core.Source → List ℕ
idle_of [] = []
idle_of (Driver p place ∷ rest) = idle_of rest
idle_of (Idle v ∷ rest) = v ∷ idle_of rest

idle-shown : (xs : List Source) → idle_values xs ≡ idle_of (map source_view xs)
unfolding idle_of
idle-shown [] = refl
idle-shown (s.Driven p place ∷ rest) = idle-shown rest
idle-shown (s.Idle v ∷ rest) = ap (λ vs. v ∷ vs) (idle-shown rest)

idle-drivers : (n p place : ℕ) (nets : List ℕ) (rest : List core.Source) → idle_of (drivers_of n p place nets ++ rest) ≡ idle_of rest
unfolding idle_of
idle-drivers n p place [] rest = refl
idle-drivers n p place (m ∷ ms) rest = go (m == n) (idle-drivers n p (suc place) ms rest)
  where
    go : (b : Bool) → idle_of (drivers_of n p (suc place) ms ++ rest) ≡ idle_of rest
        → idle_of ((if b then Driver p place ∷ drivers_of n p (suc place) ms else drivers_of n p (suc place) ms) ++ rest) ≡ idle_of rest
    go true h = h
    go false h = h

idle-all_drivers : (n p : ℕ) (ps : List FlatProcess) (rest : List core.Source) → idle_of (all_drivers_of n p ps ++ rest) ≡ idle_of rest
idle-all_drivers n p [] rest = refl
idle-all_drivers n p (q ∷ qs) rest =
    ap idle_of (append_assoc (drivers_of n p 0 (targets q)) (all_drivers_of n (suc p) qs) rest)
    ∙ idle-drivers n p 0 (targets q) (all_drivers_of n (suc p) qs ++ rest) ∙ idle-all_drivers n (suc p) qs rest

idle-idle : (vs : List ℕ) → idle_of (map Idle vs) ≡ vs
unfolding idle_of
idle-idle [] = refl
idle-idle (v ∷ vs) = ap (λ us. v ∷ us) (idle-idle vs)

pub idle-sources : (n : ℕ) (ps : List FlatProcess) (vs : List ℕ) (xs : List Source) → map source_view xs ≡ all_drivers_of n 0 ps ++ map Idle vs → idle_values xs ≡ vs
idle-sources n ps vs xs e = idle-shown xs ∙ ap idle_of e ∙ idle-all_drivers n 0 ps (map Idle vs) ∙ idle-idle vs

-- ---- owners

-- a place among what is left, counted from the first
abbrev pub from_place : (k : ℕ) → Option ℕ → Option ℕ
from_place k None = None
from_place k (Some j) = Some (k + j)

pub owns-one : (signal k m : ℕ) (ms : List ℕ) (o : Owner) (old mid : List Owner) → owner_view o ≡ record { signal = signal; place = k } → m < length mid
    → Owns (λ n. element_at signal (from_place (suc k) (place_in ms n))) old mid → Owns (λ n. element_at signal (from_place k (place_in (m ∷ ms) n))) old (set mid m o)
owns-one signal k m ms o old mid e l w = record {
  as_many = length-set mid m o ∙ w.as_many;
  each = λ n d h. seen-set owner_view mid m n o d l ∙ go n d (m == n) (place_in ms n) (w.each n d h);
}
  where
    first : k ≡ k + 0
    first = omega arith

    go : (n : ℕ) (d : Element) (b : Bool) (p : Option ℕ) → owner_at mid n d ≡ owner_or (element_at signal (from_place (suc k) p)) (owner_at old n d)
        → (if b then owner_view o else owner_at mid n d) ≡ owner_or (element_at signal (from_place k (if b then Some 0 else option_map suc p))) (owner_at old n d)
    go n d true p h = e ∙ ap (λ x. record { signal = signal; place = x }) first
    go n d false None h = h
    go n d false (Some j) h = h ∙ ap (λ x. record { signal = signal; place = x }) (let s : suc k + j ≡ k + suc j = omega arith in s)

pub owns-signal : (number : ℕ) (s : SignalView) (ss : List SignalView) (n : ℕ) (e : Element) (old new : List Owner) → n < length old
    → Owns (λ m. element_at number (place_in s.nets m)) old new → (element_from (suc number) ss n ≡ Some e → owner_at old n e ≡ e)
    → element_from number (s ∷ ss) n ≡ Some e → owner_at new n e ≡ e
owns-signal number s ss n e old new l w before h = w.each n e l ∙ go (place_in s.nets n) h
  where
    go : (p : Option ℕ) → element_or number p (element_from (suc number) ss n) ≡ Some e → owner_or (element_at number p) (owner_at old n e) ≡ e
    go None f = before f
    go (Some k) f = some-same _ _ f
