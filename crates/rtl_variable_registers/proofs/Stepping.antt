-- One run of a process in two states beside each other.
use Rattle.std.proofs.Common.{◌≡◌, ℕ, ◌+◌, ◌<◌, true, false, List, length, take, slice_index, unwrap_or, sym, ap, ◌∙◌, arith, ◌⊎◌, inl, inr, Contains}
use Rattle.std.proofs.lemmas.Bool.{cases_Bool}
use Rattle.std.proofs.lemmas.List.{length-append, get_or-take}
use Rattle.std.proofs.lemmas.List.Elements.{All-contains}
use Rattle.rtl_model.specs.basics.Valuations.{AgreeOn}
use Rattle.rtl_model.specs.bodies.Effect.{effect, effect_of}
use Rattle.rtl_model.specs.bodies.Laws.{IsRead, SeesTypes}
use Rattle.rtl_model.specs.bodies.Looks.{Sight, net_now, net_before, element_kept, seen_at}
use Rattle.rtl_model.specs.bodies.Reads.{reads, events}
use Rattle.rtl_model.specs.bodies.Stored.{stores_element}
use Rattle.rtl_model.specs.bodies.Types.{ElementType, KeepsTypes}
use Rattle.rtl_model.specs.bodies.Values.{Seen}
use Rattle.rtl_model.specs.bodies.Variables.{variables_after}
use Rattle.rtl_model.specs.nets.CoreNetlist.{seen_from}
use Rattle.rtl_model.specs.nets.FlatNetlist.{FlatProcess, ProcessInRange, element_starts, scope_of}
use Rattle.rtl_model.proofs.bodies.LooksRead.{looks_at_reads}
use Rattle.rtl_model.proofs.bodies.Looking.{as_many_after}
use Rattle.rtl_model.proofs.bodies.Ranges.{entries_keep_types}
use Rattle.rtl_model.proofs.bodies.There.{each_read_is_there}
use Rattle.rtl_variable_registers.specs.Beside.{HasVariables}
use Rattle.rtl_variable_registers.specs.Bodies.{is_register}
use Rattle.rtl_model.specs.bodies.Assigns.{is_element, stmts_assign}
use Rattle.rtl_variable_registers.specs.Laws.{RunsAlike}
use Rattle.rtl_variable_registers.specs.Processes.{kept_elements, kept_process, rank_in}
use Rattle.rtl_variable_registers.proofs.Alike.{each_runs_alike}
use Rattle.rtl_variable_registers.proofs.Known.{body_unset, not_set}
use Rattle.rtl_variable_registers.proofs.Rows.{map_taken}
use Rattle.rtl_variable_registers.proofs.Staying.{drivers_are, variables_stay, no_register_stays, keeps_if_register}

-- A process p, among nets of these types; the values of all nets before and now, those of the variables' elements, and
-- the nets of the kept ones from `first` on.
module _ (types : List ElementType) (first : ℕ) (p : FlatProcess) (in_range : ProcessInRange types p) (none : (e : ℕ) → is_register p.body ≡ false → stores_element e p.body ≡ false)
    (before now variables : List ℕ) (nets : KeepsTypes types (take (length types) now)) (has : HasVariables p variables)
    (held : (e : ℕ) → Contains (kept_elements p) e → slice_index now (first + rank_in (kept_elements p) e) ≡ slice_index variables e) where
  abbrev by_itself : Seen
  by_itself = record { before = take (length types) before; now = take (length types) now; variables = variables }

  abbrev by_nets : Seen
  by_nets = seen_from (kept_process first p) before now

  sees : SeesTypes (scope_of types p) by_itself
  sees = record { nets = nets; variables = has.typed }

  agree : (v ns : List ℕ) → ((n : ℕ) → Contains ns n → n < length types) → AgreeOn ns (take (length types) v) v
  agree v ns below n c = get_or-take (length types) v n 0 (below n c)

  now_agrees : AgreeOn (reads p.body) (take (length types) now) now
  now_agrees = agree now (reads p.body) (λ n c. All-contains (λ k. k < length types) (reads p.body) n (each_read_is_there (scope_of types p) p.body in_range.body).nets c)

  before_agrees : AgreeOn (events p.body) (take (length types) before) before
  before_agrees = agree before (events p.body) (λ n c. All-contains (λ k. k < length types) (events p.body) n (each_read_is_there (scope_of types p) p.body in_range.body).events_too c)

  alike : is_register p.body ≡ true → RunsAlike first p by_itself by_nets
  alike h = each_runs_alike types first p by_itself by_nets in_range h sees (record {
    now = now_agrees;
    before = before_agrees;
    as_many = has.many;
    net_many = ap (λ vs. length (element_starts vs)) (variables_stay first p);
    unset = λ looks. has.unset;
    kept = held;
  })

  -- what is no register does the same, whatever its variables have
  same_effect : is_register p.body ≡ false → (place : ℕ) → effect by_itself p.body place ≡ effect (seen_from p before now) p.body place
  same_effect h place = looks_at_reads p.body by_itself (seen_from p before now) has.many sight place
    where
      sight : (s : Sight) → IsRead p.body s → seen_at by_itself s ≡ seen_at (seen_from p before now) s
      sight (net_now n) c = now_agrees n c
      sight (net_before n) c = before_agrees n c
      sight (element_kept e) c = let k = none e h in absurd cc

  entries_same : (place : ℕ) → place < length p.drivers → effect by_itself p.body place ≡ effect by_nets (kept_process first p).body place
  entries_same place l = go (cases_Bool (is_register p.body))
    where
      go : (is_register p.body ≡ true) ⊎ (is_register p.body ≡ false) → effect by_itself p.body place ≡ effect by_nets (kept_process first p).body place
      go (inl h) = sym ((alike h).entries place l)
      go (inr h) = same_effect h place ∙ ap (λ q. effect (seen_from q before now) q.body place) (sym (no_register_stays first p h).1)

  pub row_same : effect_of (length p.drivers) p.body by_itself ≡ take (length p.drivers) (effect_of (length (kept_process first p).drivers) (kept_process first p).body by_nets)
  row_same =
      map_taken (length p.drivers) (length (kept_process first p).drivers) (effect by_itself p.body) (effect by_nets (kept_process first p).body)
      (let l = ap length (drivers_are first p) ∙ length-append p.drivers _ in omega arith) entries_same

  -- what a kept element is left with
  pub element_left : (e : ℕ) → Contains (kept_elements p) e
      → unwrap_or (effect by_nets (kept_process first p).body (length p.drivers + rank_in (kept_elements p) e)) (slice_index variables e) ≡ slice_index (variables_after by_itself p.body) e
  element_left e c = (alike (keeps_if_register p e c)).kept e c

  pub variables_left : HasVariables p (variables_after by_itself p.body)
  variables_left = record {
    many = as_many_after by_itself p.body ∙ has.many;
    typed = (entries_keep_types (scope_of types p) p.body by_itself in_range.body sees).variables;
    unset = λ e k. body_unset e p.body by_itself (not_set (stmts_assign (is_element e) p.body) k) ∙ has.unset e k;
  }
