-- The nets that still change where a moment doesn't settle.
use Rattle.std.proofs.Common.{◌≡◌, ℕ, zero, suc, Bool, true, false, List, [], ◌∷◌, ◌++◌, Result, Ok, Err, inl, inr, refl, ap, subst, ◌∙◌, codes}
use Rattle.std.specs.Prelude.{if◌then◌else◌, take, IfErr}
use Rattle.rtl_net.specs.Names.{net_name}
use Rattle.rtl_net.specs.Nets.{NetlistView}
use Rattle.rtl_simulation.specs.Simulated.{changing}
use Rattle.byte_streams.specs.Written.{SinkState, Goes}
use Rattle.byte_streams.specs.Stands.{Stand}
use Rattle.rtlsim_findings.specs.Ranges.{follows, range_text}
use Rattle.rtlsim_command_faults.specs.Changing.{names_from, changing_line}
use Rattle.rtlsim_command_faults.specs.Places.{IsTold}
use Rattle.rtlsim_command_faults.specs.declared.faults.Fault.{Fault}
use Rattle.rtlsim_command_faults.specs.declared.faults.Fault.TheVariants.{Lex, Syntax, Name, Elab, NoSettling}
use Rattle.rtlsim_commands.specs.Sights.{Sight, events, IsOfNet, events_of}
use Rattle.rtlsim_commands.proofs.Sights.{of_unsettled_so}
use Rattle.rtlsim_commands.specs.Unsettled.{Names, NamesIf, TellsStuck, TellsChanging}

-- ---- the line of the first seventeen

names_first : (net : NetlistView) (first : List ℕ) (last room : ℕ) (numbers : List ℕ) → names_from net first last room (take (suc room) numbers) ≡ names_from net first last room numbers
names_first net first last room [] = refl
names_first net first last zero (number ∷ numbers) = refl
names_first net first last (suc room) (number ∷ numbers) =
    let same = follows (net_name net last) (net_name net number) in
    let others = names_from net (net_name net number) number room (take (suc room) numbers) in
    ap (λ (text : List ℕ). if same then text else range_text first (net_name net last) ++ codes ", " ++ others) (names_first net first number room numbers)
    ∙ ap (λ (text : List ℕ). if same then names_from net first number room numbers else range_text first (net_name net last) ++ codes ", " ++ text)
    (names_first net (net_name net number) number room numbers)

line_first : (net : NetlistView) (numbers : List ℕ) → changing_line net (take 17 numbers) ≡ changing_line net numbers
line_first net [] = refl
line_first net (number ∷ numbers) = ap (λ (text : List ℕ). codes "still changing: " ++ text ++ codes "\n") (names_first net (net_name net number) number 15 numbers)

names_all : (net : NetlistView) (first numbers : List ℕ) (old new : SinkState) → first ≡ take 17 numbers → Names net first old new → Names net numbers old new
names_all net first numbers old new is (inl h) = inl (subst (λ (text : List ℕ). Goes old new text) (ap (changing_line net) is ∙ line_first net numbers) h)
names_all net first numbers old new is (inr h) = inr h

-- ---- what is told

-- these are the first seventeen numbers of such nets
abbrev pub AreNoted : Sight → (numbers : List ℕ) → NetlistView → Fault → Type 0
AreNoted sight numbers net fault = IsOfNet sight (λ stands before now at. numbers ≡ take 17 (changing before now)) net fault

tells_stuck : (sight : Sight) (net : NetlistView) (numbers : List ℕ) (time : ℕ) (old new : SinkState) → AreNoted sight numbers net (NoSettling time)
    → Names net numbers old new → TellsStuck (events_of sight) time net old new
tells_stuck (events text) net numbers time old new noted h =
    of_unsettled_so text time net (λ stands before now at. numbers ≡ take 17 (changing before now)) (λ stands before now at. Names net (changing before now) old new)
    (λ stands before now at is. names_all net numbers (changing before now) old new is h) noted
tells_stuck _ net numbers time old new noted h = absurd noted

tells_of : (sight : Sight) (explains : Bool) (net : NetlistView) (numbers : List ℕ) (fault : Fault) (old new : SinkState) → AreNoted sight numbers net fault
    → NamesIf explains net numbers fault old new → TellsChanging (events_of sight) explains net fault old new
tells_of sight false net numbers fault old new noted h = h
tells_of sight true net numbers (NoSettling time) old new noted h = tells_stuck sight net numbers time old new noted h
tells_of sight true net numbers _ old new noted h = h

byteless : (sight : Sight) (Holds : List Stand → (before now : List ℕ) → (time : ℕ) → Type 0) (net : NetlistView) (fault : Fault) (size : ℕ) → IsOfNet sight Holds net fault → IsTold size fault
byteless sight Holds net (Lex x) size h = absurd h
byteless sight Holds net (Syntax x) size h = absurd h
byteless sight Holds net (Name x) size h = absurd h
byteless sight Holds net (Elab x) size h = absurd h
byteless sight Holds net _ size h = tt

-- of an answer that is this fault
pub tells_changing : {A : Type 0} (sight : Sight) (explains : Bool) (net : NetlistView) (numbers shown : List ℕ) (answer : Result A Fault) (fault : Fault) (old new : SinkState)
    → answer ≡ Err fault → shown ≡ numbers → IfErr answer (AreNoted sight numbers net) → NamesIf explains net shown fault old new
    → TellsChanging (events_of sight) explains net fault old new
tells_changing {A} sight explains net numbers shown answer fault old new at same noted h =
    tells_of sight explains net numbers fault old new (subst (λ (r : Result A Fault). IfErr r (AreNoted sight numbers net)) at noted)
    (subst (λ (ns : List ℕ). NamesIf explains net ns fault old new) same h)

-- a fault of no source is told at no byte
module _ {A : Type 0} (sight : Sight) (Holds : List Stand → (before now : List ℕ) → (time : ℕ) → Type 0) (net : NetlistView) (answer : Result A Fault) where
  pub fault_told : (fault : Fault) (size : ℕ) → answer ≡ Err fault → IfErr answer (IsOfNet sight Holds net) → IsTold size fault
  fault_told fault size at h = byteless sight Holds net fault size (subst (λ (r : Result A Fault). IfErr r (IsOfNet sight Holds net)) at h)

pub answer_told : {A : Type 0} (sight : Sight) (Holds : List Stand → (before now : List ℕ) → (time : ℕ) → Type 0) (net : NetlistView) (answer : Result A Fault) (size : ℕ)
    → IfErr answer (IsOfNet sight Holds net) → IfErr answer (IsTold size)
answer_told sight Holds net (Ok x) size h = tt
answer_told sight Holds net (Err fault) size h = byteless sight Holds net fault size h
