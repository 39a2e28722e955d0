-- The bodies of a netlist in range assign values of their targets' types, and read nothing that isn't there.
use Rattle.std.proofs.Common.{◌≡◌, ℕ, zero, suc, ◌+◌, ◌<◌, ◌≤◌, Bool, List, [], ◌∷◌, ◌++◌, length, get_or, map, replicate, slice_index, Option, Some, None}
use Rattle.std.proofs.Common.{refl, sym, ap, ◌∙◌, subst, arith, ◌⊎◌, inl, inr, All, length-append}
use Rattle.std.proofs.lemmas.List.{length-map, length-replicate, get_or_past}
use Rattle.std.proofs.lemmas.Option.{slice_get_within, get_or_from_slice_get}
use Rattle.std.proofs.lemmas.Bool.{cases_lt}
use Rattle.rtl_model.specs.bodies.Body.{Stmts}
use Rattle.rtl_model.specs.bodies.Kinds.{ResetPart, Clocking, clocking, IsClocked}
use Rattle.rtl_model.specs.bodies.Laws.{SeesTypes}
use Rattle.rtl_model.specs.bodies.Types.{ElementType, enumeration, limit_of, HasType, KeepsTypes}
use Rattle.rtl_model.specs.bodies.Fits.{Fits}
use Rattle.rtl_model.specs.nets.FlatNetlist as flat
use Rattle.rtl_model.specs.nets.FlatNetlist.{FlatNetlist, FlatProcess, FlatDriver, FlatVariable, VariableInRange, targets, element_starts, element_types, scope_of, ProcessInRange, IsInRange}
use Rattle.rtl_model.specs.nets.CoreNetlist.{seen_from, part_effect, core_reset, core_kind, acting_branch, core_netlist}
use Rattle.rtl_model.specs.nets.Laws.{InRangeIsSafe}
use Rattle.rtl_model.specs.simulation.Netlist as c
use Rattle.rtl_model.specs.simulation.Range.{limit, IsValuation, KeepsRange}
use Rattle.rtl_model.proofs.bodies.Ranges.{entries_keep_types}
use Rattle.rtl_model.proofs.bodies.There.{each_read_is_there}
use Rattle.rtl_model.proofs.bodies.Clocking.{clocked_is}
use Rattle.rtl_model.proofs.nets.Processes.{process-core_net, at_row, reset_anywhere}

-- ---- limits

pub limit-at : (types : List ElementType) (n : ℕ) (t : ElementType) → HasType types t n → slice_index (map limit_of types) n ≡ limit_of t
limit-at [] n t h = absurd cc
limit-at (x ∷ types) zero t h = let k : x ≡ t = cc in ap limit_of k
limit-at (x ∷ types) (suc n) t h = limit-at types n t h

pub type_at : (types : List ElementType) (n : ℕ) → n < length types → (t : ElementType) × HasType types t n
type_at [] n h = absurd (omega arith)
type_at (x ∷ types) zero h = (x, refl)
type_at (x ∷ types) (suc n) h = type_at types n (omega arith)

-- ---- variables

no_variable : FlatVariable
no_variable = record { type_of = enumeration 0; starts = [] }

same_length : (vs : List FlatVariable) → length (element_types vs) ≡ length (element_starts vs)
same_length [] = refl
same_length (v ∷ vs) =
    length-append (replicate (length v.starts) v.type_of) (element_types vs)
    ∙ (λ i. length-replicate (length v.starts) v.type_of i + same_length vs i)
    ∙ sym (length-append v.starts (element_starts vs))

-- of elements of one type, and others after them
block_keeps : (t : ElementType) (values : List ℕ) (types : List ElementType) (rest : List ℕ) → All (λ x. x < limit_of t) values → KeepsTypes types rest
    → KeepsTypes (replicate (length values) t ++ types) (values ++ rest)
block_keeps t [] types rest h keeps n s e = keeps n s e
block_keeps t (x ∷ values) types rest h keeps zero s e = let k : t ≡ s = cc in subst (λ (u : ElementType). x < limit_of u) k (h 0 0 (omega arith))
block_keeps t (x ∷ values) types rest h keeps (suc n) s e = block_keeps t values types rest (λ k d l. h (suc k) d (omega arith)) keeps n s e

starts_keep : (vs : List FlatVariable) → All VariableInRange vs → KeepsTypes (element_types vs) (element_starts vs)
starts_keep [] h n t e = absurd cc
starts_keep (v ∷ vs) h n t e =
    block_keeps v.type_of v.starts (element_types vs) (element_starts vs) (h 0 no_variable (omega arith)).starts (starts_keep vs (λ k d l. h (suc k) d (omega arith))) n t e

-- ---- parts of a body that fits

branch_fits : (wide : Bool) (inputs : List ℕ) (types : List ElementType) (p : FlatProcess) → Fits (scope_of types p) p.body → Fits (scope_of types p) (acting_branch (clocking wide inputs p.body))
branch_fits wide inputs types p h = go (clocking wide inputs p.body) refl
  where
    part : (k : Clocking) → IsClocked wide inputs p.body k → Fits (scope_of types p) k.branch
    part k (inl x) = (subst (λ (s : Stmts). Fits (scope_of types p) s) x.is h).0.1
    part k (inr (inl x)) = (subst (λ (s : Stmts). Fits (scope_of types p) s) x.is h).0.2.1
    part k (inr (inr x)) = (subst (λ (s : Stmts). Fits (scope_of types p) s) x.is h).0.1

    go : (o : Option Clocking) → clocking wide inputs p.body ≡ o → Fits (scope_of types p) (acting_branch o)
    go None e = tt
    go (Some k) e = part k (clocked_is wide inputs p.body k e)

reset_fits : (wide : Bool) (inputs : List ℕ) (types : List ElementType) (p : FlatProcess) (k : Clocking) (x : ResetPart) → clocking wide inputs p.body ≡ Some k → k.reset ≡ Some x
    → Fits (scope_of types p) p.body → Fits (scope_of types p) x.branch
reset_fits wide inputs types p k x e r h = part (clocked_is wide inputs p.body k e)
  where
    part : IsClocked wide inputs p.body k → Fits (scope_of types p) x.branch
    part (inl y) = let f = y.no_reset in absurd cc
    part (inr (inl y)) =
        let same : y.reset ≡ x = (let f = y.reset_is in cc) in
        subst (λ (z : ResetPart). Fits (scope_of types p) z.branch) same (subst (λ (s : Stmts). Fits (scope_of types p) s) y.is h).0.1
    part (inr (inr y)) =
        let same : y.reset ≡ x = (let f = y.reset_is in cc) in
        subst (λ (z : ResetPart). Fits (scope_of types p) z.branch) same (subst (λ (s : Stmts). Fits (scope_of types p) s) y.is h).1.0.1

module _ (net : FlatNetlist) (in_range : IsInRange net) where
  pub process_in_range : (p : ℕ) → p < length net.processes → ProcessInRange net.types (flat.process_at net p)
  process_in_range p l = in_range.processes p flat.no_flat_process l

  -- a place is that of a process that is there
  pub has_process : (p place : ℕ) → place < length (targets (flat.process_at net p)) → p < length net.processes
  has_process p place h = go (cases_lt p (length net.processes))
    where
      none : (q : FlatProcess) → q ≡ flat.no_flat_process → place < length (targets q) → ⊥
      none q e l =
          let k : length (targets q) ≡ 0 = ap (λ (x : FlatProcess). length (targets x)) e in
          absurd (omega arith)

      go : (p < length net.processes) ⊎ (length net.processes ≤ p) → p < length net.processes
      go (inl l) = l
      go (inr l) = absurd (none (flat.process_at net p) (get_or_past net.processes p flat.no_flat_process l) h)

  -- a valuation of the core keeps the types
  keeps_types : (v : List ℕ) → IsValuation (core_netlist net) v → KeepsTypes net.types v
  keeps_types v is n t h =
      let l : n < length net.types = slice_get_within net.types n t h in
      let e = in_range.each_starts in
      let b : slice_index v n < slice_index (map limit_of net.types) n = is.in_range n (omega arith) in
      subst (λ (x : ℕ). slice_index v n < x) (limit-at net.types n t h) b

  -- an entry of a part that fits, of a process that is there
  entry_below : (p place x : ℕ) (part : Stmts) (before now : List ℕ) → p < length net.processes → Fits (scope_of net.types (flat.process_at net p)) part → KeepsTypes net.types now
      → place < length (targets (flat.process_at net p)) → get_or (part_effect (flat.process_at net p) part before now) place None ≡ Some x
      → x < slice_index (map limit_of net.types) (slice_index (targets (flat.process_at net p)) place)
  entry_below p place x part before now there fits keeps l h =
      let q : FlatProcess = flat.process_at net p in
      let l' : place < length q.drivers = omega (arith, length-map q.drivers (λ (d : FlatDriver). d.net)) in
      let sees : SeesTypes (scope_of net.types q) (seen_from q before now) = record { nets = keeps; variables = starts_keep q.variables (process_in_range p there).variables } in
      let g = (entries_keep_types (scope_of net.types q) part (seen_from q before now) fits sees).entries place x (sym (at_row part (length q.drivers) place (seen_from q before now) l') ∙ h) in
      let at : slice_index (targets q) place ≡ g.0 = get_or_from_slice_get (targets q) place g.0 0 g.2 in
      let lim : slice_index (map limit_of net.types) g.0 ≡ limit_of g.1 = limit-at net.types g.0 g.1 g.3 in
      subst (λ (y : ℕ). x < y) (sym (ap (slice_index (map limit_of net.types)) at ∙ lim)) g.4

  start_is_valuation : IsValuation (core_netlist net) net.start
  start_is_valuation = record { each_net = refl; in_range = below }
    where
      below : (n : ℕ) → n < length net.start → slice_index net.start n < slice_index (map limit_of net.types) n
      below n l =
          let e = in_range.each_starts in
          let t = type_at net.types n (omega arith) in
          subst (λ (y : ℕ). slice_index net.start n < y) (sym (limit-at net.types n t.0 t.1)) (in_range.starts n t.0 t.1)

  of_effect : (p place x : ℕ) (before now : List ℕ) → IsValuation (core_netlist net) now → c.HasPlace (core_netlist net) p place
      → get_or ((c.process (core_netlist net) p).effect before now) place None ≡ Some x → x < limit (core_netlist net) (c.target (core_netlist net) p place)
  of_effect p place x before now is =
      rw (process-core_net net p)
      (λ l h. let there = has_process p place l in entry_below p place x (flat.process_at net p).body before now there (process_in_range p there).body (keeps_types now is) l h)

  of_branch : (p place x : ℕ) (now : List ℕ) → IsValuation (core_netlist net) now → c.HasPlace (core_netlist net) p place
      → get_or ((c.process (core_netlist net) p).acting_effect now) place None ≡ Some x → x < limit (core_netlist net) (c.target (core_netlist net) p place)
  of_branch p place x now is =
      rw (process-core_net net p)
      (λ l h.
      let there = has_process p place l in
      entry_below p place x (acting_branch (clocking net.wide net.inputs (flat.process_at net p).body)) now now there (branch_fits net.wide net.inputs net.types (flat.process_at net p) (process_in_range p there).body) (keeps_types now is) l h)

  -- a reset's branch reads nothing, so its entries are those in the starting valuation
  of_reset : (p place x : ℕ) → c.HasPlace (core_netlist net) p place → c.reset_entry (c.reset_of (core_netlist net) p) place ≡ Some x → x < limit (core_netlist net) (c.target (core_netlist net) p place)
  of_reset p place x = rw (process-core_net net p) (λ l h. go l (clocking net.wide net.inputs (flat.process_at net p).body) _ refl h)
    where
      go : place < length (targets (flat.process_at net p)) → (o : Option Clocking) (ns : List ℕ) → clocking net.wide net.inputs (flat.process_at net p).body ≡ o
          → c.reset_entry (c.kind_reset (core_kind (flat.process_at net p) o ns)) place ≡ Some x
          → x < slice_index (map limit_of net.types) (slice_index (targets (flat.process_at net p)) place)
      go l None [] e h = absurd cc
      go l None (n ∷ ns) e h = absurd cc
      go l (Some k) ns e h = of_part k.reset refl h
        where
          of_part : (o : Option ResetPart) → k.reset ≡ o → c.reset_entry (core_reset (flat.process_at net p) o) place ≡ Some x
              → x < slice_index (map limit_of net.types) (slice_index (targets (flat.process_at net p)) place)
          of_part None r g = absurd cc
          of_part (Some y) r g =
              let there = has_process p place l in
              let q = flat.process_at net p in
              let fits = reset_fits net.wide net.inputs net.types q k y e r (process_in_range p there).body in
              entry_below p place x y.branch [] net.start there fits (keeps_types net.start start_is_valuation) l (ap (λ (row : List (Option ℕ)). get_or row place None) (reset_anywhere net.wide net.inputs q k y e r [] net.start) ∙ g)

  pub keeps_range : KeepsRange (core_netlist net)
  keeps_range = record {
    starts_in_range = start_is_valuation;
    effect_in_range = λ p place x before now b is l h. of_effect p place x before now is l h;
    branch_in_range = λ p place clock x edge now k is l h. of_branch p place x now is l h;
    reset_in_range = of_reset;
  }

pub in_range_is_safe : InRangeIsSafe
in_range_is_safe net in_range p l =
    let q = flat.process_at net p in
    let there = process_in_range net in_range p l in
    let r = each_read_is_there (scope_of net.types q) q.body there.body in
    record { wakes = there.wakes; reads_there = r.nets; elements = λ e t. let b = r.elements e t in let s = same_length q.variables in omega arith }
