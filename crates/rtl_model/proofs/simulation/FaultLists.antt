-- A netlist has one list of faults, unless it has loops alone; and one at all only where it isn't accepted.
use Rattle.std.proofs.Common.{◌≡◌, ℕ, Bool, true, false, List, [], ◌∷◌, refl, arith, ◌⊎◌, inl, inr, IsTrue}
use Rattle.std.proofs.lemmas.Bool.{false_from_ne_true}
use Rattle.rtl_model.specs.simulation.Netlist.{Netlist, process}
use Rattle.rtl_model.specs.simulation.Accepted.{Fault, TwoDrivers, MixedProcess, ClockNotInput, EdgeNotSensitive, ClockAsData, MissingSensitivity, Latch, Loop, NetLoop, StoredVariable, IsFault, IsAccepted, HasNoLoop, HasNoNetLoop, LooksAt}
use Rattle.rtl_model.specs.simulation.Faults.{fault_key, is_no_loop, is_of_stored, AreFaultsOf, AreFaultsButLoops, AreStored, IsOneLoop, AreFaults}
use Rattle.rtl_model.specs.simulation.Laws.{AcceptedByProcesses, EachFaultIsListed}
use Rattle.rtl_model.proofs.basics.Lists.{Contains-none, Contains-first}
use Rattle.rtl_model.specs.simulation.NetLevels.{IsDerived}
use Rattle.rtl_model.proofs.basics.Rising.{same_elements}
use Rattle.rtl_model.proofs.basics.Chains.{no_circle}
use Rattle.rtl_model.proofs.simulation.Faultless.{faultless_by}
use Rattle.rtl_model.proofs.simulation.Levels.{by_levels, outer_resets}
use Rattle.rtl_model.proofs.simulation.Loops.{levels_exist}
use Rattle.rtl_model.proofs.simulation.Numbered.{Numbered, rises_along}

one_of : (net : Netlist) (among : Fault → Bool) (faults other : List Fault) → AreFaultsOf net among faults → AreFaultsOf net among other → faults ≡ other
one_of net among faults other a b = same_elements fault_key faults other a.rise b.rise (λ f c. (b.are f).1 ((a.are f).0 c)) (λ f c. (a.are f).1 ((b.are f).0 c))

module _ (net : Netlist) where
  none_listed : (among : Fault → Bool) → ((f : Fault) → IsFault net f → IsTrue (among f) → ⊥) → AreFaultsOf net among []
  none_listed among h = record { are = λ f. (λ c. absurd (Contains-none f c), λ (is, t). absurd (h f is t)); rise = λ i j d l k. absurd (omega arith) }

  nothing_is : (among : Fault → Bool) → AreFaultsOf net among [] → (f : Fault) → IsFault net f → IsTrue (among f) → ⊥
  nothing_is among a f is t = Contains-none f ((a.are f).1 (is, t))

  one_list : (faults other : List Fault) → AreFaults net faults → AreFaults net other → (faults ≡ other) ⊎ (IsOneLoop net faults × IsOneLoop net other)
  one_list faults other (inl (a, some)) (inl (b, more)) = inl (one_of net is_no_loop faults other a b)
  one_list faults other (inl (a, some)) (inr loop) = absurd (some (one_of net is_no_loop faults [] a loop.no_other))
  one_list faults other (inr loop) (inl (b, more)) = absurd (more (one_of net is_no_loop other [] b loop.no_other))
  one_list faults other (inr loop) (inr loop') = inr (loop, loop')

  none_if_accepted : (faults : List Fault) → AreFaults net faults → IsAccepted net → ⊥
  none_if_accepted [] (inl (a, some)) accepted = some refl
  none_if_accepted (f ∷ faults) (inl (a, some)) accepted = accepted f ((a.are f).0 (Contains-first f faults)).0
  none_if_accepted faults (inr loop) accepted = accepted loop.loop loop.has

  accepted_from : AreFaultsButLoops net [] × (net.wide ≡ false → HasNoLoop net) × (IsTrue net.wide → HasNoNetLoop net) → IsAccepted net
  accepted_from (none, narrow, wide) (Loop ps) is = narrow is.0 ps is.1
  accepted_from (none, narrow, wide) (NetLoop ns) is = wide is.0 ns is.1
  accepted_from (none, narrow, wide) f is = nothing_is is_no_loop none f is refl

  stores_nothing : AreStored net [] → (p variable place : ℕ) → (process net p).stores variable place ≡ false
  stores_nothing none p variable place = false_from_ne_true _ (λ t. nothing_is is_of_stored none (StoredVariable p variable place) t refl)

  none_stored : ((p variable place : ℕ) → (process net p).stores variable place ≡ false) → AreStored net []
  none_stored h = none_listed is_of_stored go
    where
      go : (f : Fault) → IsFault net f → is_of_stored f ≡ true → ⊥
      go (StoredVariable p v place) is t = let e = h p v place in cc
      go (TwoDrivers n first second) is t = cc
      go (MixedProcess p) is t = cc
      go (ClockNotInput p n) is t = cc
      go (EdgeNotSensitive p n) is t = cc
      go (ClockAsData p n) is t = cc
      go (MissingSensitivity p n) is t = cc
      go (Latch p n) is t = cc
      go (Loop ps) is t = cc
      go (NetLoop ns) is t = cc

pub each_fault_is_listed : EachFaultIsListed
each_fault_is_listed net = record {
  one_of = one_of net;
  one_list = one_list net;
  none_if_accepted = none_if_accepted net;
  accepted_is = (λ accepted. (none_listed net is_no_loop (λ f is t. accepted f is), λ narrow ps loop. accepted (Loop ps) (narrow, loop), λ wide ns loop. accepted (NetLoop ns) (wide, loop)), accepted_from net);
  stores_none = (stores_nothing net, none_stored net);
}

pub accepted_by_processes : AcceptedByProcesses
accepted_by_processes net E none no_loop by_processes = accepted_from net (none, λ narrow. no_loop, λ wide. no_circle (λ m n. LooksAt net n m) (IsDerived net) numbers.of_net (rises_along net numbers))
  where
    numbers : Numbered net
    numbers =
        let (levels, greatest, V) = levels_exist net no_loop in
        by_levels net E (faultless_by net (nothing_is net is_no_loop none)) (outer_resets net E by_processes) levels greatest V
