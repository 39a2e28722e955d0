-- From the tree of a source to its netlist.
use Rattle.std.proofs.Common.{◌≡◌, ◌≢◌, ◌<◌, ◌≤◌, sym, ap, subst, ℕ, true, inl, inr, length, List, ◌∷◌, None, Some, Result, Ok, Err, All, arith}
use Rattle.std.specs.Prelude.{IsTrue, IsErrAnd, IfOk, IfErr, IfSome, Contains}
use Rattle.std.proofs.lemmas.List.Elements.{All-cons, All-contains, All-weaker}
use Rattle.vhdl_lexer.specs.declared.language.Language.{Language}
use Rattle.vhdl_lexer.specs.declared.language.Language.TheVariants.{Profile, Wide}
use Rattle.vhdl_tree.specs.Tree.{File}
use Rattle.vhdl_tree.proofs.Narrow.{files_are_wide}
use Rattle.vhdl_names_rules.specs.problems.Broken.{Tells}
use Rattle.vhdl_names_rules.specs.problems.Files as breaks
use Rattle.vhdl_names_rules.specs.Files.{units_of}
use Rattle.vhdl_names_rules.specs.Registers.{units_in, units_written}
use Rattle.vhdl_names_rules.proofs.kept.Keeping.{mapped}
use Rattle.vhdl_names_rules.specs.declared.fault.NameFault.{NameFault}
use Rattle.vhdl_names_rules.specs.declared.fault.NameFault.TheVariants as names
use Rattle.vhdl_names_rules.specs.sound.Units.{are_sound}
use Rattle.vhdl_names_rules.specs.units.Units as u
use Rattle.vhdl_names_rules.specs.units.Bytes.{units_bytes}
use Rattle.vhdl_names_laws.proofs.placed.Laws.{faults_lie_in_the_text}
use Rattle.vhdl_names_laws.proofs.standing.Laws.{units_lie_in_the_text}
use Rattle.vhdl_names.specs.Spelled.{IsSpelled}
use Rattle.vhdl_names.proofs.Spelled.{words}
use Rattle.vhdl_names.proofs.Written.{units_in_are_sound, ports_in_are_distinct}
use Rattle.vhdl_names_registers.proofs.Standing.{written_stand}
use Rattle.vhdl_expand_rules.specs.Elab.{Told, fault_told}
use Rattle.vhdl_expand_rules.specs.Tops.{Top}
use Rattle.vhdl_expand_rules.proofs.Steps.{bound, ok}
use Rattle.vhdl_expand_rules.specs.declared.fault.ElabFault.{ElabFault}
use Rattle.vhdl_expand_rules.specs.declared.fault.ElabFault.TheVariants as elab
use Rattle.vhdl_elab_rules.specs.Elaboration.{Elaborated, elaborated_net}
use Rattle.vhdl_elab_rules.specs.Refused.{MayRefuse}
use Rattle.vhdl_elab_rules.specs.Shown.{Shown, Shows, shown, as_shown, net_shown}
use Rattle.vhdl_elab_rules.proofs.Nets.{each-has-its-names}
use Rattle.vhdl_elab_rules.proofs.Ports.{each-has-own-ports}
use Rattle.vhdl_elab_rules.proofs.laws.Scopes.{each-scope-follows}
use Rattle.vhdl_elab_rules.proofs.laws.Standing.{refusals-stand}
use Rattle.rtl_net.specs.Nets.{NetlistView, flat}
use Rattle.rtl_stim.specs.Ports.{HasOwnPorts}
use Rattle.vhdl_front_rules.specs.Asking.{Asked}
use Rattle.vhdl_front_rules.specs.Sources.{IsFileOf}
use Rattle.vhdl_front_rules.specs.Designs.{HasRoom, IsReadIn, IsNetOf}
use Rattle.vhdl_front_rules.specs.Faults.{LiesIn, of_name, of_elab}
use Rattle.vhdl_front_rules.specs.Refusals.{IsUndesigned, Refuses}
use Rattle.vhdl_front.specs.Steps.{ReadsIn, ShowsTop, HasNameFault, HasElabFault, GivesNet}
use Rattle.vhdl_front.specs.Laws.{EachRefusalLiesInItsSource}
use Rattle.vhdl_front.proofs.KeptNets.{kept_own_ports}
use Rattle.vhdl_front_rules.specs.declared.fault.SourceFault.{SourceFault}
use Rattle.vhdl_front_rules.specs.declared.fault.SourceFault.TheVariants.{Lex, Syntax, Name, Elab, NoMemory}

-- ---- the file of a source

pub is_spelled : (language : Language) (source : List ℕ) (file : File) → IsFileOf language source file → IsSpelled file
is_spelled language source file read = record { source = source; tokens = read.tokens; cut = read.cut; spelled = read.spelled }

-- ---- its netlist

-- what elaboration gives shows a design
pub record IsDesigned (units : u.Units) (top : Top) (net : NetlistView) : Type 0 where
  pub design : Elaborated
  pub is : elaborated_net units top ≡ Ok design
  pub shows : Shows design net

is_designed : (units : u.Units) (top : Top) (net : NetlistView) → as_shown (elaborated_net units top) ≡ Ok (net_shown net) → IsDesigned units top net
is_designed units top net given =
    let x = bound (elaborated_net units top) _ (net_shown net) given in
    record { design = x.x; is = x.gave; shows = sym (ok (shown x.x) (net_shown net) x.then_gave) }

pub gives_net : (language : Language) (units : u.Units) (top : Top) (plain : NetlistView) (answer : Result NetlistView SourceFault) → as_shown (elaborated_net units top) ≡ Ok (net_shown plain)
    → ReadsIn language plain answer → GivesNet language units top answer
gives_net language units top plain answer given = by answer
  where
    d : IsDesigned units top plain
    d = is_designed units top plain given

    same_flat : flat plain ≡ d.design.flat
    same_flat = ap (λ (s : Shown). s.flat) d.shows

    by : (answer : Result NetlistView SourceFault) → ReadsIn language plain answer → GivesNet language units top answer
    by (Ok net) h = record { design = d.design; is = d.is; room = subst (HasRoom language) same_flat h.1; plain = plain; shows = d.shows; read = h.0 }
    by (Err (Elab (elab.At problem at))) h = inr (record { design = d.design; is = d.is; over = λ room. h.0 (subst (HasRoom language) (sym same_flat) room); as_too_many = ap fault_told h.1 })
    by (Err (Elab elab.NoMemory)) h = let e = h.1 in absurd cc
    by (Err NoMemory) h = tt
    by (Err (Lex fault)) h = absurd h
    by (Err (Syntax fault)) h = absurd h
    by (Err (Name fault)) h = absurd h

-- the fault of elaboration is passed on
pub gives_along : (language : Language) (units : u.Units) (top : Top) (answer : Result NetlistView SourceFault) (fault : ElabFault) → IsErrAnd answer (λ f. f ≡ of_elab fault)
    → HasElabFault language units top (of_elab fault) → GivesNet language units top answer
gives_along language units top (Ok net) fault is h = absurd is
gives_along language units top (Err f) fault is h = rw is h

pub own_along : (answer : Result NetlistView SourceFault) (own : Type 0) → IfOk answer (λ net. own → HasOwnPorts net) → own → IfOk answer HasOwnPorts
own_along (Ok net) own h g = h g
own_along (Err fault) own h g = tt

pub opened : (asked : Asked) (file : File) (units : u.Units) (net : NetlistView) → IsFileOf asked.language asked.source file → units_in asked.language file ≡ Some units → IsTrue (are_sound units)
    → ShowsTop asked.language units asked.top net → IsNetOf asked net
opened asked file units net read typed sound shown = record {
  design = shown.design;
  has = record { units = units; analysed = record { file = file; read = read; well_typed = typed }; is = shown.is; room = shown.room };
  plain = shown.plain;
  shows = shown.shows;
  named = each-has-its-names units asked.top shown.design shown.plain sound shown.is shown.shows;
  read = shown.read;
}

-- a netlist has ports of its own, whatever language it was read in
pub ports_read_in : (language : Language) (plain net : NetlistView) → 0 < length plain.scopes → HasOwnPorts plain → IsReadIn language plain net → HasOwnPorts net
ports_read_in Profile plain net some own h = subst HasOwnPorts (sym h) own
ports_read_in Wide plain net some own h = kept_own_ports (record plain { wide = true }) net some h (record { names = own.names; elements = own.elements })

pub own_ports : (asked : Asked) (net : NetlistView) → IsNetOf asked net → HasOwnPorts net
own_ports asked net h =
    let units = h.has.units in
    let analysed = h.has.analysed in
    ports_read_in asked.language h.plain net (subst (λ ss. 0 < length ss) (sym (ap (λ (s : Shown). s.scopes) h.shows)) (each-scope-follows units asked.top h.design h.has.is).some)
    (each-has-own-ports units asked.top h.design h.plain (units_in_are_sound asked.language analysed.file units analysed.read.well_formed analysed.well_typed)
    (ports_in_are_distinct asked.language analysed.file units (words analysed.file (is_spelled asked.language asked.source analysed.file analysed.read)) analysed.well_typed) h.has.is h.shows)
    h.read

-- ---- why it has none

pub no_units : (language : Language) (file : File) (fault : NameFault) → (fault ≢ names.NoMemory → units_in language file ≡ None) → Tells (breaks.file language file) fault → HasNameFault language file (of_name fault)
no_units language file (names.At problem at) none broken = (none (λ e. absurd cc), broken)
no_units language file names.NoMemory none broken = tt

pub untyped_refuses : (asked : Asked) (file : File) (fault : SourceFault) → IsFileOf asked.language asked.source file → HasNameFault asked.language file fault → Refuses asked fault
untyped_refuses asked file (Name (names.At problem at)) read h = record { file = file; read = read; ill_typed = h.0; broken = h.1 }
untyped_refuses asked file (Name names.NoMemory) read h = h
untyped_refuses asked file NoMemory read h = tt
untyped_refuses asked file (Lex fault) read h = absurd h
untyped_refuses asked file (Syntax fault) read h = absurd h
untyped_refuses asked file (Elab fault) read h = absurd h

-- a fault of names stands in the source
pub untyped_lies : (language : Language) (source : List ℕ) (file : File) (fault : SourceFault) → IsFileOf language source file → HasNameFault language file fault → LiesIn (length source) fault
untyped_lies language source file (Name (names.At problem at)) read h =
    let inside : at < length source
    = subst (λ b. IfSome b (λ at_fault. at_fault.1 < length source)) h.1 (faults_lie_in_the_text language source read.tokens file read.cut read.spelled (files_are_wide language file read.well_formed)) in
    omega (arith, inside)
untyped_lies language source file (Name names.NoMemory) read h = absurd h
untyped_lies language source file NoMemory read h = tt
untyped_lies language source file (Lex fault) read h = absurd h
untyped_lies language source file (Syntax fault) read h = absurd h
untyped_lies language source file (Elab fault) read h = absurd h

pub no_net : (language : Language) (units : u.Units) (top : Top) (fault : ElabFault) → (fault ≢ elab.NoMemory → MayRefuse units top (fault_told fault)) → HasElabFault language units top (of_elab fault)
no_net language units top (elab.At problem at) h = inl (h (λ e. absurd cc))
no_net language units top elab.NoMemory h = tt

-- where registers are written anew, no byte is another one
in_text : (language : Language) (source : List ℕ) (file : File) (units : u.Units) → IsFileOf language source file → units_in language file ≡ Some units
    → All (λ at. at < length source) (units_bytes units)
in_text Profile source file units read typed = units_lie_in_the_text Profile source read.tokens file units read.cut read.spelled typed
in_text Wide source file units read typed =
    let m = mapped units_written (units_of Wide file) units typed in
    subst (λ (x : u.Units). All (λ at. at < length source) (units_bytes x)) m.is
    (written_stand (λ at. at < length source) m.value (units_lie_in_the_text Wide source read.tokens file m.value read.cut read.spelled m.from))

-- a byte of the units is one of the source, and 0 is one or its end
in_source : (size : ℕ) (bytes : List ℕ) (at : ℕ) → All (λ b. b < size) bytes → Contains (0 ∷ bytes) at → at ≤ size
in_source size bytes at inside c =
    All-contains (λ b. b ≤ size) (0 ∷ bytes) at
    (All-cons (λ b. b ≤ size) 0 bytes (omega arith) (All-weaker (λ b. b < size) (λ b. b ≤ size) (λ b h. omega (arith, h)) bytes inside)) c

pub refusal_lies : EachRefusalLiesInItsSource
refusal_lies asked problem at r = by r.refused
  where
    by : IsUndesigned asked.language r.units asked.top (problem, at) → at ≤ length asked.source
    by (inl h) =
        in_source (length asked.source) (units_bytes r.units) at (in_text asked.language asked.source r.analysed.file r.units r.analysed.read r.analysed.well_typed)
        (refusals-stand r.units asked.top (problem, at) h)
    by (inr h) = let is : at ≡ 0 = ap (λ (t : Told). t.1) h.as_too_many in omega (arith, is)

-- ---- the whole

module _ (asked : Asked) (file : File) (units : u.Units) (read : IsFileOf asked.language asked.source file) (typed : units_in asked.language file ≡ Some units) where
  pub gives_opened : IsTrue (are_sound units) → (answer : Result NetlistView SourceFault) → GivesNet asked.language units asked.top answer → IfOk answer (λ net. IsNetOf asked net)
  gives_opened sound (Ok net) h = opened asked file units net read typed sound h
  gives_opened sound (Err fault) h = tt

  pub gives_refused : (answer : Result NetlistView SourceFault) → GivesNet asked.language units asked.top answer → IfErr answer (Refuses asked)
  gives_refused (Ok net) h = tt
  gives_refused (Err (Elab (elab.At problem at))) h = record { units = units; analysed = record { file = file; read = read; well_typed = typed }; refused = h }
  gives_refused (Err (Elab elab.NoMemory)) h = h
  gives_refused (Err NoMemory) h = tt
  gives_refused (Err (Lex fault)) h = absurd h
  gives_refused (Err (Syntax fault)) h = absurd h
  gives_refused (Err (Name fault)) h = absurd h

  pub gives_told : (answer : Result NetlistView SourceFault) → GivesNet asked.language units asked.top answer → IfErr answer (LiesIn (length asked.source))
  gives_told (Ok net) h = tt
  gives_told (Err (Elab (elab.At problem at))) h =
      refusal_lies asked problem at (record { units = units; analysed = record { file = file; read = read; well_typed = typed }; refused = h })
  gives_told (Err (Elab elab.NoMemory)) h = absurd h
  gives_told (Err NoMemory) h = tt
  gives_told (Err (Lex fault)) h = absurd h
  gives_told (Err (Syntax fault)) h = absurd h
  gives_told (Err (Name fault)) h = absurd h

pub refuses_along : (asked : Asked) (answer : Result NetlistView SourceFault) (fault : SourceFault) → IsErrAnd answer (λ f. f ≡ fault) → Refuses asked fault → IfErr answer (Refuses asked)
refuses_along asked (Ok net) fault is h = tt
refuses_along asked (Err f) fault is h = rw is h

pub lies_along : (source : List ℕ) (answer : Result NetlistView SourceFault) (fault : SourceFault) → IsErrAnd answer (λ f. f ≡ fault) → LiesIn (length source) fault → IfErr answer (LiesIn (length source))
lies_along source (Ok net) fault is h = tt
lies_along source (Err f) fault is h = rw is h
