-- A run of a clocked process, and its reset read again, give what its registers have next.
use Rattle.std.proofs.Common.{◌≡◌, ℕ, Bool, true, false, not, ◌&&◌, List, length, get_or, Option, None, sym, ap, ◌∙◌, ◌⊎◌, inl, inr, ◌==◌}
use Rattle.std.specs.List.{list_any}
use Rattle.std.proofs.lemmas.Bool.{cases_Bool, cases_eq}
use Rattle.rtl_model.specs.basics.Valuations.{AgreeOn, clocked_entry, entry_where}
use Rattle.rtl_model.specs.simulation.Netlist.{Edge, HasReset, holds_back, IsClockedBy, IsInput, Netlist, process, Reset, reset_entry, reset_of, resets, target}
use Rattle.rtl_model.specs.simulation.Cycle.{with_inputs}
use Rattle.rtl_model.specs.simulation.Accepted.{IsClock}
use Rattle.rtl_model.specs.simulation.Races.{IsRace}
use Rattle.rtl_model.specs.simulation.Machine.{entry_or, given, register_first, register_next}
use Rattle.rtl_model.proofs.simulation.Levels.{numbered}
use Rattle.rtl_model.proofs.simulation.Numbered.{Numbered}
use Rattle.rtl_model.proofs.simulation.Held.{no_edge_entry, no_edge_same}
use Rattle.rtl_model.proofs.simulation.Starting.{inputs_at, others_at}
use Rattle.rtl_levels.specs.Running.{IsSettledAt, behind_reset}
use Rattle.rtl_levels.specs.Laws.{EachEdgeIsTaken, EachResetIsKept, EachStartIsTaken}
use Rattle.rtl_levels.proofs.Resets.{branch_alike, read_before, read_later, read_later_alone, read_then, read_then_alone, resets_alike, settled_by, settled_then}

module _ (net : Netlist) (L : Numbered net) where
  -- from a valuation with new inputs
  module _ (v : List ℕ) (each_net : length v ≡ length net.start) (inputs : ℕ → ℕ) (no_race : IsRace net (λ n. get_or v n 0) inputs → ⊥) (w : List ℕ) (p clock : ℕ) (edge : Edge) (is : IsClockedBy net p clock edge) where
    abbrev now : List ℕ
    now = with_inputs net inputs v

    abbrev has_edge : Bool
    has_edge = net.edge edge (get_or v clock 0) (inputs clock)

    abbrev holds : List ℕ → Bool
    holds u = resets (reset_of net p) (λ n. get_or u n 0)

    abbrev is_open : Bool
    is_open = not (holds_back (reset_of net p) (λ n. get_or now n 0))

    abbrev of_reset : ℕ → Option ℕ
    of_reset place = reset_entry (reset_of net p) place

    abbrev of_branch : ℕ → Option ℕ
    of_branch place = get_or ((process net p).acting_effect v) place None

    abbrev old : ℕ → ℕ
    old place = get_or v (target net p place) 0

    -- without a race the branch reads the same now as in v
    agree : has_edge ≡ true → AgreeOn (process net p).acting_reads now v
    agree e n reads = at (cases_Bool (list_any (λ m. m == n) net.inputs))
      where
        no_clock : IsClock net n → ⊥
        no_clock c = L.faultless.no_clock_as_data p clock c.0 n edge c.1.0 is c.1.1 reads

        same : IsInput net n → (get_or v n 0 ≡ inputs n) ⊎ (get_or v n 0 ≡ inputs n → ⊥) → inputs n ≡ get_or v n 0
        same input (inl k) = sym k
        same input (inr differs) = absurd (no_race (record { process = p; clock = clock; edge = edge; clocked = is; active = e; input = n; is_input = input; no_clock = no_clock; changes = differs }))

        at : (list_any (λ m. m == n) net.inputs ≡ true) ⊎ (list_any (λ m. m == n) net.inputs ≡ false) → get_or now n 0 ≡ get_or v n 0
        at (inl input) = inputs_at net L.elaborated inputs v n input ∙ same input (cases_eq (get_or v n 0) (inputs n))
        at (inr not_input) = others_at net inputs v n each_net (λ (i : IsInput net n). cc)

    branch_at : (place : ℕ) → has_edge ≡ true → get_or ((process net p).acting_effect now) place None ≡ of_branch place
    branch_at place e = ap (λ (row : List (Option ℕ)). get_or row place None) (L.elaborated.bodies.branch_reads p clock edge now v is (agree e))

    entry_is : (before : List ℕ) (place : ℕ) → get_or before clock 0 ≡ get_or v clock 0
        → get_or ((process net p).effect before now) place None ≡ clocked_entry (holds now) (has_edge && is_open) (of_reset place) (of_branch place)
    entry_is before place same =
        L.elaborated.bodies.clocked_acts p clock place edge before now is
        ∙ ap (λ (x : Bool). clocked_entry (holds now) (x && is_open) (of_reset place) (get_or ((process net p).acting_effect now) place None)) edge_same
        ∙ branch_alike (holds now) has_edge is_open (of_reset place) (get_or ((process net p).acting_effect now) place None) (of_branch place) (branch_at place)
      where
        edge_same : net.edge edge (get_or before clock 0) (get_or now clock 0) ≡ has_edge
        edge_same =
            ap (λ (x : ℕ). net.edge edge x (get_or now clock 0)) same
            ∙ ap (λ (x : ℕ). net.edge edge (get_or v clock 0) x) (inputs_at net L.elaborated inputs v clock (L.faultless.clock_is_input p clock edge is))

    pub taken : (before : List ℕ) (place : ℕ) → get_or before clock 0 ≡ get_or v clock 0
        → behind_reset net w p place (entry_or (get_or ((process net p).effect before now) place None) (old place)) ≡ register_next net p place clock edge v inputs w
    taken before place same =
        ap (λ (o : Option ℕ). behind_reset net w p place (entry_or o (old place))) (entry_is before place same)
        ∙ read_later (holds now) (holds w) (has_edge && is_open) (of_reset place) (of_branch place) (old place)

    pub left : (place : ℕ) → IsSettledAt net v p place → has_edge ≡ false
        → ((reset : Reset) → HasReset net p reset → get_or v reset.net 0 ≡ get_or now reset.net 0)
        → behind_reset net w p place (old place) ≡ register_next net p place clock edge v inputs w
    left place settled e same =
        read_before (holds now) (holds w) (of_reset place) (old place)
        (ap (λ (x : Bool). entry_or (entry_where x (of_reset place)) (old place)) (sym (resets_alike net p (λ n. get_or v n 0) (λ n. get_or now n 0) same))
        ∙ settled_then net p L.elaborated clock edge is v place settled)
        ∙ sym (ap (λ (o : Option ℕ). entry_or o (old place)) (no_edge_entry _ has_edge is_open (of_reset place) (of_branch place) e))

  -- before the first moment
  module _ (inputs : ℕ → ℕ) (w : List ℕ) (p clock place : ℕ) (edge : Edge) (is : IsClockedBy net p clock edge) where
    abbrev start : List ℕ
    start = with_inputs net inputs net.start

    pub start_taken : (before : List ℕ) → get_or before clock 0 ≡ get_or start clock 0
        → behind_reset net w p place (entry_or (get_or ((process net p).effect before start) place None) (get_or net.start (target net p place) 0)) ≡ register_first net p place inputs w
    start_taken before same =
        ap (λ (o : Option ℕ). behind_reset net w p place (entry_or o (get_or net.start (target net p place) 0)))
        (L.elaborated.bodies.clocked_acts p clock place edge before start is
        ∙ no_edge_entry _ (net.edge edge (get_or before clock 0) (get_or start clock 0)) (not (holds_back (reset_of net p) (λ n. get_or start n 0))) (reset_entry (reset_of net p) place) (get_or ((process net p).acting_effect start) place None) (no_edge_same net L before start clock edge same))
        ∙ read_later_alone (resets (reset_of net p) (λ n. get_or start n 0)) (resets (reset_of net p) (λ n. get_or w n 0)) (reset_entry (reset_of net p) place) (get_or net.start (target net p place) 0)

pub each_edge_is_taken : EachEdgeIsTaken
each_edge_is_taken net E A v each_net kept inputs no_race w p clock edge is =
    let L = numbered net E A in
    record {
      taken = taken net L v each_net inputs no_race w p clock edge is;
      left = λ place h. left net L v each_net inputs no_race w p clock edge is place (kept p clock edge is place h);
    }

pub each_start_is_taken : EachStartIsTaken
each_start_is_taken net E A inputs p clock place edge before w is same = start_taken net (numbered net E A) inputs w p clock place edge is before same

pub each_reset_is_kept : EachResetIsKept
each_reset_is_kept net E A inputs w = record {
  first = λ f p clock edge is place h.
      let e = f.solves.on_registers p place clock edge is h ∙ f.next p place clock edge is h in
      settled_by net p E clock edge is w place (ap (behind_reset net w p place) e ∙ read_then_alone _ (resets (reset_of net p) (λ n. get_or w n 0)) (reset_entry (reset_of net p) place) _ ∙ sym e);
  step = λ v f p clock edge is place h.
      let e = f.solves.on_registers p place clock edge is h ∙ f.next p place clock edge is h in
      settled_by net p E clock edge is w place (ap (behind_reset net w p place) e ∙ read_then (resets (reset_of net p) (given net v inputs)) (resets (reset_of net p) (λ n. get_or w n 0)) (net.edge edge (get_or v clock 0) (inputs clock) && not (holds_back (reset_of net p) (given net v inputs))) (reset_entry (reset_of net p) place) (get_or ((process net p).acting_effect v) place None) (get_or v (target net p place) 0) ∙ sym e);
}
