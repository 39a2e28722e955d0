-- Processes are kept one after another.
use Rattle.std.proofs.Common.{◌≡◌, ℕ, zero, suc, ◌+◌, ◌<◌, ◌≤◌, List, [], ◌∷◌, ◌++◌, length, map, flat_map, set, slice_index_or, All, Result, Ok, Err, refl, sym, ap, ◌∙◌, subst, arith, append_assoc, append-nil}
use Rattle.std.specs.Prelude.{IfErr, IsErrAnd}
use Rattle.std.specs.List.{AllZip}
use Rattle.std.proofs.lemmas.List.{length-append, length-map, map-append}
use Rattle.std.proofs.lemmas.List.Elements.{All-push, All-head, All-tail}
use Rattle.rtl_model.specs.bodies.Types.{ElementType}
use Rattle.rtl_model.specs.nets.FlatNetlist.{ProcessInRange}
use Rattle.rtl_net.specs.declared.process.Process.{Process}
use Rattle.rtl_net.specs.Limits.{most_nets}
use Rattle.rtl_net.specs.Nets.{process_view, type_of, signal_view}
use Rattle.rtl_net.specs.Elaborated.{ReadsOfBody}
use Rattle.rtl_kept_bodies.specs.Rules.{NamedAlike, HasRoom}
use Rattle.rtl_kept_bodies.specs.declared.keeping.KeepFault.{KeepFault}
use Rattle.rtl_kept_bodies.specs.declared.keeping.KeepFault.TheVariants.{TooMany}
use Rattle.rtl_variable_registers.specs.Nets.{kept_processes}
use Rattle.rtl_variable_registers.specs.Processes.{kept_process, kept_elements, kept_types, kept_starts}
use Rattle.rtl_keeping.specs.Kept.{variables_kept, signals_kept, HaveRoom}
use Rattle.rtl_keeping.specs.Steps.{marked, signals_of, types_of, starts_of, Adds, KeepsAll}
use Rattle.rtl_keeping.specs.declared.nets.Nets.{Nets}
use Rattle.rtl_keeping.proofs.KeptSignals.{length_kept_types}
use Rattle.rtl_keeping.proofs.Sound.{as_many}
use Rattle.rtl_keeping.proofs.Marks.{marks_of, signals_marked, types_marked, starts_marked}

-- ---- one process

pub record KeepsOne (number : ℕ) (p q : Process) (before after : Nets) : Type 0 where
  pub flat : process_view q ≡ kept_process (length before.kinds.items) (process_view p)
  pub reads : ReadsOfBody q
  pub named : NamedAlike p q
  pub room : HasRoom (length before.kinds.items) (process_view p)
  pub types : map type_of after.kinds.items ≡ map type_of before.kinds.items ++ kept_types (process_view p)
  pub starts : after.starts.items ≡ before.starts.items ++ kept_starts (process_view p)
  pub signals : map signal_view after.signals.items ≡ map signal_view before.signals.items ++ variables_kept p number 0 (length before.kinds.items) p.variables.items

pub keeps_one : (number : ℕ) (p q : Process) (before after : Nets) (marks : List _)
    → process_view q ≡ kept_process (length before.kinds.items) (process_view p) → ReadsOfBody q → NamedAlike p q → HasRoom (length before.kinds.items) (process_view p)
    → marks ≡ marks_of p → Adds q number (marked marks q.variables.items) before after → KeepsOne number p q before after
keeps_one number p q before after marks flat reads named room is adds =
    let ws : marked marks q.variables.items ≡ marked (marks_of p) p.variables.items = λ i. marked (is i) (named.variables i).items in
    record {
      flat = flat;
      reads = reads;
      named = named;
      room = room;
      types = adds.types ∙ ap (λ ts. map type_of before.kinds.items ++ ts) (ap (flat_map types_of) ws ∙ types_marked p);
      starts = adds.starts ∙ ap (λ ns. before.starts.items ++ ns) (ap (flat_map starts_of) ws ∙ starts_marked p);
      signals = adds.signals
          ∙ ap (λ ss. map signal_view before.signals.items ++ ss)
          (ap (signals_of q number (length before.kinds.items)) ws ∙ signals_marked p q named number p.variables.items 0 (length before.kinds.items));
    }

-- how many nets there are then
longer : (number : ℕ) (p q : Process) (before after : Nets) → KeepsOne number p q before after → length after.kinds.items ≡ length before.kinds.items + length (kept_elements (process_view p))
longer number p q before after h =
    let n = ap length h.types in
    omega (arith, n, length-map after.kinds.items type_of, length-map before.kinds.items type_of, length-append (map type_of before.kinds.items) (kept_types (process_view p)), length_kept_types (process_view p))

-- ---- one after another

zip_push : (ps qs : List Process) (p q : Process) → AllZip NamedAlike ps qs → NamedAlike p q → AllZip NamedAlike (ps ++ p ∷ []) (qs ++ q ∷ [])
zip_push [] [] p q z h = (h, tt)
zip_push [] (x ∷ qs) p q z h = absurd z
zip_push (x ∷ ps) [] p q z h = absurd z
zip_push (x ∷ ps) (y ∷ qs) p q z h = (z.0, zip_push ps qs p q z.1 h)

set_behind : (done more : List Process) (r q : Process) (k : ℕ) → length done ≡ k → set (done ++ r ∷ more) k q ≡ (done ++ q ∷ []) ++ more
set_behind [] more r q zero e = refl
set_behind [] more r q (suc k) e = absurd (omega (arith, e))
set_behind (x ∷ done) more r q zero e = absurd (omega (arith, e))
set_behind (x ∷ done) more r q (suc k) e = ap (λ ps. x ∷ ps) (set_behind done more r q k (omega (arith, e)))

first_behind : (done more : List Process) (r d : Process) (k : ℕ) → length done ≡ k → slice_index_or (done ++ r ∷ more) k d ≡ r
first_behind [] more r d zero e = refl
first_behind [] more r d (suc k) e = absurd (omega (arith, e))
first_behind (x ∷ done) more r d zero e = absurd (omega (arith, e))
first_behind (x ∷ done) more r d (suc k) e = first_behind done more r d k (omega (arith, e))

-- The first so many processes are kept, and the others are as they were. What they keep is still to come.
pub record Walk (initial : List Process) (before : Nets) (k : ℕ) (ps : List Process) (after : Nets) : Type 0 where
  pub done : List Process
  pub gone : List Process
  pub rest : List Process
  pub is : ps ≡ done ++ rest
  pub was : initial ≡ gone ++ rest
  pub many : length done ≡ k
  pub named : AllZip NamedAlike gone done
  pub reads : All ReadsOfBody done
  pub flat : map process_view done ++ kept_processes (length after.kinds.items) (map process_view rest) ≡ kept_processes (length before.kinds.items) (map process_view initial)
  pub types : map type_of after.kinds.items ++ flat_map kept_types (map process_view rest) ≡ map type_of before.kinds.items ++ flat_map kept_types (map process_view initial)
  pub starts : after.starts.items ++ flat_map kept_starts (map process_view rest) ≡ before.starts.items ++ flat_map kept_starts (map process_view initial)
  pub signals : map signal_view after.signals.items ++ signals_kept k (length after.kinds.items) rest ≡ map signal_view before.signals.items ++ signals_kept 0 (length before.kinds.items) initial
  pub within : length after.kinds.items ≤ most_nets
  pub longer : length before.kinds.items ≤ length after.kinds.items
  pub room : HaveRoom (length after.kinds.items) (map process_view rest) → HaveRoom (length before.kinds.items) (map process_view initial)
  pub was_room : HaveRoom (length before.kinds.items) (map process_view initial) → HaveRoom (length after.kinds.items) (map process_view rest)

pub as_long : (initial : List Process) (before : Nets) (k : ℕ) (ps : List Process) (after : Nets) → Walk initial before k ps after → length ps ≡ length initial
as_long initial before k ps after w = omega (arith, ap length w.is, ap length w.was, length-append w.done w.rest, length-append w.gone w.rest, as_many w.gone w.done w.named)

-- the process that comes next is one of those that there were
pub record Next (initial : List Process) (before : Nets) (k : ℕ) (ps : List Process) (after : Nets) (p : Process) : Type 0 where
  pub walk : Walk initial before k ps after
  pub more : List Process
  pub rest : walk.rest ≡ p ∷ more

pub next : (initial : List Process) (before : Nets) (k : ℕ) (ps : List Process) (after : Nets) → Walk initial before k ps after → k < length ps → (p : Process) → p ≡ slice_index_or ps k p → Next initial before k ps after p
next initial before k ps after w l p e = by w.rest refl
  where
    by : (rest : List Process) → w.rest ≡ rest → Next initial before k ps after p
    by [] none = absurd (omega (arith, l, ap length w.is, length-append w.done w.rest, ap length none, w.many))
    by (r ∷ more) f =
        let s : p ≡ r = e ∙ ap (λ qs. slice_index_or qs k p) (w.is ∙ ap (λ qs. w.done ++ qs) f) ∙ first_behind w.done more r p k w.many in
        record { walk = w; more = more; rest = f ∙ ap (λ x. x ∷ more) (sym s) }

module _ (initial : List Process) (before : Nets) (k : ℕ) (ps : List Process) (after : Nets) (p : Process) (n : Next initial before k ps after p) where
  -- it is ready, where all are
  pub next_reads : All ReadsOfBody initial → ReadsOfBody p
  next_reads h = by n.walk.gone n.walk.rest n.walk.was n.rest
    where
      last : (gone more : List Process) → All ReadsOfBody (gone ++ p ∷ more) → ReadsOfBody p
      last [] more g = All-head ReadsOfBody p more g
      last (x ∷ gone) more g = last gone more (All-tail ReadsOfBody x (gone ++ p ∷ more) g)

      by : (gone rest : List Process) → initial ≡ gone ++ rest → rest ≡ p ∷ n.more → ReadsOfBody p
      by gone rest e f = last gone n.more (subst (All ReadsOfBody) (e ∙ ap (λ qs. gone ++ qs) f) h)

  pub next_in_range : (types : List ElementType) → All (ProcessInRange types) (map process_view initial) → ProcessInRange types (process_view p)
  next_in_range types h = last n.walk.gone n.more (subst (λ qs. All (ProcessInRange types) (map process_view qs)) (n.walk.was ∙ ap (λ qs. n.walk.gone ++ qs) n.rest) h)
    where
      last : (gone more : List Process) → All (ProcessInRange types) (map process_view (gone ++ p ∷ more)) → ProcessInRange types (process_view p)
      last [] more g = All-head (ProcessInRange types) (process_view p) (map process_view more) g
      last (x ∷ gone) more g = last gone more (All-tail (ProcessInRange types) (process_view x) (map process_view (gone ++ p ∷ more)) g)

  -- it has no room, and so all have none
  pub next_room : HaveRoom (length before.kinds.items) (map process_view initial) → HasRoom (length after.kinds.items) (process_view p)
  next_room h = (subst (λ qs. HaveRoom (length after.kinds.items) (map process_view qs)) n.rest (n.walk.was_room h)).0

  pub walked : (q : Process) (new : Nets) → KeepsOne k p q after new → Walk initial before (k + 1) (set ps k q) new
  walked q new one =
      let w = n.walk in
      let size : length new.kinds.items ≡ length after.kinds.items + length (kept_elements (process_view p)) = longer k p q after new one in
      let step : suc k ≡ k + 1 = omega arith in
      record {
        done = w.done ++ q ∷ [];
        gone = w.gone ++ p ∷ [];
        rest = n.more;
        is = ap (λ qs. set qs k q) (w.is ∙ ap (λ qs. w.done ++ qs) n.rest) ∙ set_behind w.done n.more p q k w.many;
        was = w.was ∙ ap (λ qs. w.gone ++ qs) n.rest ∙ sym (append_assoc w.gone (p ∷ []) n.more);
        many = omega (arith, length-append w.done (q ∷ []), w.many);
        named = zip_push w.gone w.done p q w.named one.named;
        reads = All-push ReadsOfBody w.done q w.reads one.reads;
        flat = ap (λ xs. xs ++ kept_processes (length new.kinds.items) (map process_view n.more)) (map-append process_view w.done (q ∷ []))
            ∙ append_assoc (map process_view w.done) (process_view q ∷ []) (kept_processes (length new.kinds.items) (map process_view n.more))
            ∙ (λ i. map process_view w.done ++ (one.flat i ∷ kept_processes (size i) (map process_view n.more)))
            ∙ ap (λ qs. map process_view w.done ++ kept_processes (length after.kinds.items) (map process_view qs)) (sym n.rest) ∙ w.flat;
        types = ap (λ ts. ts ++ flat_map kept_types (map process_view n.more)) one.types
            ∙ append_assoc (map type_of after.kinds.items) (kept_types (process_view p)) (flat_map kept_types (map process_view n.more))
            ∙ ap (λ qs. map type_of after.kinds.items ++ flat_map kept_types (map process_view qs)) (sym n.rest) ∙ w.types;
        starts = ap (λ ts. ts ++ flat_map kept_starts (map process_view n.more)) one.starts
            ∙ append_assoc after.starts.items (kept_starts (process_view p)) (flat_map kept_starts (map process_view n.more))
            ∙ ap (λ qs. after.starts.items ++ flat_map kept_starts (map process_view qs)) (sym n.rest) ∙ w.starts;
        signals = ap (λ ss. ss ++ signals_kept (k + 1) (length new.kinds.items) n.more) one.signals
            ∙ append_assoc (map signal_view after.signals.items) (variables_kept p k 0 (length after.kinds.items) p.variables.items) (signals_kept (k + 1) (length new.kinds.items) n.more)
            ∙ (λ i. map signal_view after.signals.items ++ (variables_kept p k 0 (length after.kinds.items) p.variables.items ++ signals_kept (sym step i) (size i) n.more))
            ∙ ap (λ qs. map signal_view after.signals.items ++ signals_kept k (length after.kinds.items) qs) (sym n.rest) ∙ w.signals;
        within = omega (arith, size, one.room.nets);
        longer = omega (arith, size, w.longer);
        room = λ h. w.room (subst (λ qs. HaveRoom (length after.kinds.items) (map process_view qs)) (sym n.rest) (one.room, subst (λ m. HaveRoom m (map process_view n.more)) size h));
        was_room = λ h. subst (λ m. HaveRoom m (map process_view n.more)) (sym size) (subst (λ qs. HaveRoom (length after.kinds.items) (map process_view qs)) n.rest (w.was_room h)).1;
      }

-- all are kept
pub all_walked : (initial : List Process) (before : Nets) (k : ℕ) (ps : List Process) (after : Nets) → Walk initial before k ps after → length ps ≤ k → KeepsAll initial ps before after
all_walked initial before k ps after w l = by w.rest refl
  where
    by : (rest : List Process) → w.rest ≡ rest → KeepsAll initial ps before after
    by (r ∷ more) f = absurd (omega (arith, l, ap length w.is, length-append w.done w.rest, ap length f, w.many))
    by [] none =
        let is : ps ≡ w.done = w.is ∙ ap (λ qs. w.done ++ qs) none ∙ append-nil w.done in
        let was : initial ≡ w.gone = w.was ∙ ap (λ qs. w.gone ++ qs) none ∙ append-nil w.gone in
        record {
          flat = ap (map process_view) is ∙ sym (append-nil (map process_view w.done)) ∙ ap (λ qs. map process_view w.done ++ kept_processes (length after.kinds.items) (map process_view qs)) (sym none) ∙ w.flat;
          reads = subst (All ReadsOfBody) (sym is) w.reads;
          named = subst (λ qs. AllZip NamedAlike qs ps) (sym was) (subst (λ qs. AllZip NamedAlike w.gone qs) (sym is) w.named);
          types = sym (append-nil (map type_of after.kinds.items)) ∙ ap (λ qs. map type_of after.kinds.items ++ flat_map kept_types (map process_view qs)) (sym none) ∙ w.types;
          starts = sym (append-nil after.starts.items) ∙ ap (λ qs. after.starts.items ++ flat_map kept_starts (map process_view qs)) (sym none) ∙ w.starts;
          signals = sym (append-nil (map signal_view after.signals.items)) ∙ ap (λ qs. map signal_view after.signals.items ++ signals_kept k (length after.kinds.items) qs) (sym none) ∙ w.signals;
          within = w.within;
          room = w.room (subst (λ qs. HaveRoom (length after.kinds.items) (map process_view qs)) (sym none) tt);
        }

-- ---- refused

pub refused_along : {A : Type 0} (answer : Result A KeepFault) (fault : KeepFault) (room : Type 0) → IsErrAnd answer (λ f. f ≡ fault) → (fault ≡ TooMany → room → ⊥) → IfErr answer (λ f. f ≡ TooMany → room → ⊥)
refused_along (Ok x) fault room is h = tt
refused_along (Err f) fault room is h = λ e. h (sym is ∙ e)
