-- What a process of the netlist adds to the table of nets.
use Rattle.std.proofs.Common.{◌≡◌, ℕ, ◌+◌, ◌<◌, ◌⊎◌, inl, inr, true, false, List, [], ◌∷◌, length, get_or, map, Option, Some, None, refl, sym, ap, subst, ◌∙◌, arith, Contains}
use Rattle.std.proofs.lemmas.List.{length-map, get_or_default}
use Rattle.rtl_model.specs.bodies.Body.{Stmts}
use Rattle.rtl_model.specs.bodies.Assigns.{must_assign}
use Rattle.rtl_model.specs.nets.FlatNetlist.{targets}
use Rattle.rtl_model.specs.nets.CoreNetlist.{core_process}
use Rattle.rtl_model.specs.simulation.Netlist as m
use Rattle.rtl_model.specs.simulation.Netlist.{Netlist, IsCombinational, kind_reset, process, reset_of, target}
use Rattle.rtl_model.specs.simulation.Accepted.{IsInnerReset}
use Rattle.rtl_model.specs.simulation.Elaborated.{IsWired}
use Rattle.rtl_model.proofs.basics.Lists.{get_or-map_within}
use Rattle.rtl_net.specs.declared.body.Statement.{Statement}
use Rattle.rtl_net.specs.declared.process.Driver.{Driver}
use Rattle.rtl_net.specs.declared.process.Process.{Process}
use Rattle.rtl_net.specs.Bodies.{statements_of}
use Rattle.rtl_net.specs.Core.{core}
use Rattle.rtl_net.specs.Nets.{NetlistView, body_of, driver_view, process_view}
use Rattle.rtl_body_facts.specs.Reading.{is_in}
use Rattle.rtl_body_facts.specs.Paths.{driven, to_net}
use Rattle.rtl_body_facts.proofs.Members.{has_in}
use Rattle.rtl_looks.specs.declared.hubs.Look.{Look}
use Rattle.rtl_looks.specs.declared.hubs.Hub.{Hub}
use Rattle.rtl_looks.specs.Denoting.{DriversLook}
use Rattle.rtl_process_kinds.specs.ResetBranches.{reset_branch}
use Rattle.rtl_process_kinds.proofs.Processes.{process_is}
use Rattle.rtl_check_nets.specs.declared.table.NetTable.{NetTable}
use Rattle.rtl_check_nets.specs.Building.{AddsDrivers, AddsRegisters}
use Rattle.rtl_check_nets.specs.Built.{ChangesBehind, IsBuilt}
use Rattle.rtl_check_nets.proofs.Driving.{HasOneDriver, passes, steps, resets}
use Rattle.rtl_check_nets.proofs.Resetting.{AreRegistersOf, registers_of}

targets_driven : (ds : List Driver) → map (λ d. d.net) (map driver_view ds) ≡ driven ds
targets_driven [] = refl
targets_driven (d ∷ ds) = ap (λ xs. d.net ∷ xs) (targets_driven ds)

-- the process x of this number
module _ (net : NetlistView) (p : ℕ) (x : Process) (there : p < length net.processes) (at : x ≡ get_or net.processes p x) where
  same : process (core net) p ≡ core_process net.wide net.inputs (process_view x)
  same = process_is net p x there at

  drives_are : (process (core net) p).drives ≡ driven x.drives.items
  drives_are = ap (λ (q : m.Process). q.drives) same ∙ targets_driven x.drives.items

  many : length x.drives.items ≡ length (process (core net) p).drives
  many = sym (ap length drives_are ∙ length-map x.drives.items (λ d. d.net))

  named : (k : ℕ) (d : Driver) → k < length x.drives.items → (get_or x.drives.items k d).net ≡ target (core net) p k
  named k d l = sym (ap (λ (xs : List ℕ). get_or xs k 0) drives_are ∙ get_or-map_within (λ (d : Driver). d.net) x.drives.items k d 0 l)

  pub drives_there : IsWired (core net) → (k : ℕ) (d : Driver) → k < length x.drives.items → (get_or x.drives.items k d).net < length net.starts
  drives_there W k d l = subst (λ (n : ℕ). n < length net.starts) (sym (named k d l)) (W.targets_are_nets p k (subst (λ (n : ℕ). k < n) many l))

  pub combinational_adds : HasOneDriver (core net) → (old new : List Hub) (looks : List (Option Look)) (t u : NetTable) → IsBuilt (core net) old p t → IsCombinational (core net) p
      → DriversLook (body_of x) old new looks → AddsDrivers (length net.starts) looks 0 x.drives.items t u → IsBuilt (core net) new (p + 1) u
  combinational_adds one old new looks t u b comb l adds =
      steps (core net) one old new looks x.drives.items p t u b comb many named l.grows (l.denotes 0).order
      (λ k. let d = l.denotes k in (d.there, λ n. d.nets n ∙ ap (λ (q : m.Process). is_in n (q.looks k)) (sym same))) adds

  -- the same process, read again
  pub body_is : (y : Process) (body : List Statement) → y ≡ get_or net.processes p y → body ≡ y.body.items → statements_of body ≡ body_of x
  body_is y body is e = ap (λ (xs : List Statement). statements_of xs) e ∙ ap body_of (is ∙ get_or_default net.processes p y x there ∙ sym at)

  pub registers_are : (n : ℕ) (registers : List ℕ) (drives : List Driver) (branch : Stmts) → IsInnerReset (core net) p n → drives ≡ x.drives.items → branch ≡ reset_branch (body_of x)
      → ((r : ℕ) → is_in r registers ≡ must_assign (to_net drives r) branch) → AreRegistersOf (process (core net) p) registers
  registers_are n registers drives branch ((reset, has, _), _) e f are =
      subst (λ (q : m.Process). AreRegistersOf q registers) (sym same)
      (registers_of net.wide net.inputs (process_view x) x.drives.items reset registers (targets_driven x.drives.items) (ap (λ (q : m.Process). kind_reset q.kind) (sym same) ∙ has)
      (λ r. are r ∙ (λ i. must_assign (to_net (e i) r) (f i))))

-- their nets are there
pub registers_there : (net : Netlist) (p : ℕ) (registers : List ℕ) → IsWired net → AreRegistersOf (process net p) registers → (k d : ℕ) → k < length registers → get_or registers k d < length net.start
registers_there net p registers W are k d l =
    let n = get_or registers k d in
    let (place, h, is, _) = (are n).0 (has_in registers n (k, l, get_or_default registers k n d l)) in
    subst (λ (i : ℕ). i < length net.start) is (W.targets_are_nets p place h)

-- neither is anything added by another process
pub nothing_changes : (net : Netlist) (p : ℕ) → (IsCombinational net p → ⊥) → ((n : ℕ) → IsInnerReset net p n → ⊥) → (place : ℕ) (nets : List ℕ) → ChangesBehind net p place nets → ⊥
nothing_changes net p odd none place nets (inl (c, e)) = odd c
nothing_changes net p odd none place nets (inr (n, r, e)) = none n r.0
