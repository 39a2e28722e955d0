-- What is told of the faults behind one, by what is found.
use Rattle.std.proofs.Common.{◌≡◌, inl, inr, ℕ, zero, suc, ◌-◌, ◌==◌, Bool, true, false, List, ◌++◌, append_assoc, append-nil, Option, Some, None, Result, Ok, Err, if◌then◌else◌, refl, sym, ap, ◌∙◌, subst, arith, true≢false}
use Rattle.std.proofs.lemmas.Bool.Decides.{nat_tests}
use Rattle.std.specs.Global.{Vec}
use Rattle.std.specs.Prelude.{IsErrAnd, is_ok}
use Rattle.rtlsim_refusals.specs.Explained.{Told}
use Rattle.rtlsim_command_faults.specs.Further.{Sought, Found, Further, NamesBehind, Reads, Tells, before, ended, name_told}
use Rattle.rtlsim_command_faults.specs.Behind as behind
use Rattle.rtlsim_command_faults.specs.Next.{Adds, Finds}
use Rattle.rtlsim_command_faults.specs.declared.faults.Fault.{Fault}
use Rattle.rtlsim_command_faults.specs.declared.faults.Fault.TheVariants as f
use Rattle.rtlsim_command_faults.specs.declared.next.Next.TheVariants as n
use Rattle.rtlsim_command_faults.specs.declared.search.End.{End}
use Rattle.rtlsim_command_faults.specs.declared.search.End.TheVariants as end
use Rattle.vhdl_source_files.specs.Files.{FileView}
use Rattle.vhdl_lexer.specs.Cut.{Cuts}
use Rattle.vhdl_lexer.specs.declared.token.Token.{Token}
use Rattle.vhdl_names_further.specs.Known.{is_known}
use Rattle.vhdl_names_further.specs.Taken.{past}
use Rattle.vhdl_names_rules.specs.declared.fault.NameFault.{NameFault}
use Rattle.vhdl_parser_rules.specs.declared.fault.SyntaxFault.{SyntaxFault}
use Rattle.vhdl_front_rules.specs.Asking.{Asked}

-- ---- counts

pub suc_some : (n : ℕ) → (suc n == 0) ≡ false
suc_some n = grind (arith, nat_tests)

pub less : (n : ℕ) → suc n - 1 ≡ n
less n = omega arith

-- ---- what is left is read

module _ (asked : Asked) (So : List ℕ → NameFault → Type 0) where
  reads_fault : (p : Option (List ℕ)) (found : Found) (next : Vec ℕ) (other : NameFault) → Finds asked p (n.Found next other) → So next.items other → Reads asked So p found
  reads_fault None found next other finds so = absurd finds
  reads_fault (Some left) found next other finds so = inr (inr (other, finds.1, rw (← finds.0) so))

  reads_nothing : (p : Option (List ℕ)) → Finds asked p n.Nothing → Reads asked So p (ended end.Whole)
  reads_nothing None finds = refl
  reads_nothing (Some left) finds = inr (inl (finds, refl))

  reads_no_memory : (p : Option (List ℕ)) → Finds asked p n.NoMemory → Reads asked So p (ended end.NoMemory)
  reads_no_memory None finds = absurd finds
  reads_no_memory (Some left) finds = inl refl

  -- memory to tell of the fault is refused
  reads_untold : (p : Option (List ℕ)) (next : Vec ℕ) (other : NameFault) → Finds asked p (n.Found next other) → Reads asked So p (ended end.NoMemory)
  reads_untold None next other finds = absurd finds
  reads_untold (Some left) next other finds = inl refl

-- ---- what is told

module _ (more : ℕ) (told : List Told) (So : ℕ → Found → Type 0) where
  tells_known : (known : Bool) (found : Found) → known ≡ true → So more found → Tells known more told So found
  tells_known true found is so = so
  tells_known false found is so = absurd (true≢false (sym is))

tells_last : (known : Bool) (more : ℕ) (told : List Told) (So : ℕ → Found → Type 0) → known ≡ false → (more == 0) ≡ true → Tells known more told So (ended end.More)
tells_last true more told So is none = absurd (true≢false is)
tells_last false zero told So is none = refl
tells_last false (suc more) told So is none = absurd (true≢false (sym none ∙ suc_some more))

tells_one : (known : Bool) (more : ℕ) (told : List Told) (So : ℕ → Found → Type 0) (others : Found) → known ≡ false → (more == 0) ≡ false → So (more - 1) others
    → Tells known more told So (before told others)
tells_one true more told So others is some so = absurd (true≢false is)
tells_one false zero told So others is some so = absurd (true≢false some)
tells_one false (suc more) told So others is some so = (others, refl, subst (λ (k : ℕ). So k others) (less more) so)

-- nothing more is told
pub adds_none : (So : Found → Type 0) (told : List Told) (e : End) → So (ended e) → Adds So told told e
adds_none So told e so = record { found = ended e; is = so; grown = sym (append-nil told); ends = refl }

-- of which this is so, that is so
pub adds_so : (So Then : Found → Type 0) (old new : List Told) (e : End) → ((found : Found) → So found → Then found) → Adds So old new e → Adds Then old new e
adds_so So Then old new e go adds = record { found = adds.found; is = go adds.found adds.is; grown = adds.grown; ends = adds.ends }

module _ (a : Sought) (more : ℕ) (left : List ℕ) (fault : NameFault) (told : List Told) where
  -- no more readings
  pub behind_last : (steps : ℕ) → (steps == 0) ≡ true → Adds (Further a steps more left fault) told told end.More
  behind_last zero none = adds_none (Further a zero more left fault) told end.More refl
  behind_last (suc steps) none = absurd (true≢false (sym none ∙ suc_some steps))

  pub behind_nothing : (steps : ℕ) → (steps == 0) ≡ false → Finds a.asked (past a.asked.source a.tokens left fault) n.Nothing → Adds (Further a steps more left fault) told told end.Whole
  behind_nothing zero some finds = absurd (true≢false some)
  behind_nothing (suc steps) some finds = adds_none (Further a (suc steps) more left fault) told end.Whole (reads_nothing a.asked _ (past a.asked.source a.tokens left fault) finds)

  pub behind_no_memory : (steps : ℕ) → (steps == 0) ≡ false → Finds a.asked (past a.asked.source a.tokens left fault) n.NoMemory → Adds (Further a steps more left fault) told told end.NoMemory
  behind_no_memory zero some finds = absurd (true≢false some)
  behind_no_memory (suc steps) some finds =
      adds_none (Further a (suc steps) more left fault) told end.NoMemory (reads_no_memory a.asked _ (past a.asked.source a.tokens left fault) finds)

module _ (a : Sought) (more : ℕ) (left : List ℕ) (next : Vec ℕ) (fault other : NameFault) (old new : List Told) (e : End) where
  -- a fault whose cause is told already
  pub behind_known : (steps : ℕ) → (steps == 0) ≡ false → Finds a.asked (past a.asked.source a.tokens left fault) (n.Found next other) → is_known a.asked.source a.tokens next.items other ≡ true
      → Adds (Further a (steps - 1) more next.items other) old new e → Adds (Further a steps more left fault) old new e
  behind_known zero some finds known adds = absurd (true≢false some)
  behind_known (suc steps) some finds known adds =
      adds_so (Further a (suc steps - 1) more next.items other) (Further a (suc steps) more left fault) old new e
      (λ found is.
      reads_fault a.asked _ (past a.asked.source a.tokens left fault) found next other finds
      (tells_known more (name_told a other) _ _ found known (subst (λ (k : ℕ). Further a k more next.items other found) (less steps) is)))
      adds

  -- one is told, and then the others
  pub behind_one : (steps : ℕ) (between : List Told) → (steps == 0) ≡ false → Finds a.asked (past a.asked.source a.tokens left fault) (n.Found next other)
      → is_known a.asked.source a.tokens next.items other ≡ false → (more == 0) ≡ false → between ≡ old ++ name_told a other
      → Adds (Further a (steps - 1) (more - 1) next.items other) between new e → Adds (Further a steps more left fault) old new e
  behind_one zero between some finds known enough grown adds = absurd (true≢false some)
  behind_one (suc steps) between some finds known enough grown adds = record {
    found = before (name_told a other) adds.found;
    is = reads_fault a.asked _ (past a.asked.source a.tokens left fault) _ next other finds
        (tells_one _ more (name_told a other) _ adds.found known enough (subst (λ (k : ℕ). Further a k (more - 1) next.items other adds.found) (less steps) adds.is));
    grown = adds.grown ∙ ap (λ (told : List Told). told ++ adds.found.told) grown ∙ append_assoc old (name_told a other) adds.found.told;
    ends = adds.ends;
  }

module _ (a : Sought) (more : ℕ) (left : List ℕ) (next : Vec ℕ) (fault other : NameFault) (told : List Told) where
  -- no more faults are told
  pub behind_full : (steps : ℕ) → (steps == 0) ≡ false → Finds a.asked (past a.asked.source a.tokens left fault) (n.Found next other) → is_known a.asked.source a.tokens next.items other ≡ false
      → (more == 0) ≡ true → Adds (Further a steps more left fault) told told end.More
  behind_full zero some finds known none = absurd (true≢false some)
  behind_full (suc steps) some finds known none =
      adds_none (Further a (suc steps) more left fault) told end.More
      (reads_fault a.asked _ (past a.asked.source a.tokens left fault) _ next other finds (tells_last _ more (name_told a other) _ known none))

  -- memory to tell one is refused
  pub behind_untold : (steps : ℕ) → (steps == 0) ≡ false → Finds a.asked (past a.asked.source a.tokens left fault) (n.Found next other) → Adds (Further a steps more left fault) told told end.NoMemory
  behind_untold zero some finds = absurd (true≢false some)
  behind_untold (suc steps) some finds =
      adds_none (Further a (suc steps) more left fault) told end.NoMemory (reads_untold a.asked _ (past a.asked.source a.tokens left fault) next other finds)

-- ---- behind the first fault of a source

pub names_all : (files : List FileView) (asked : Asked) (first : NameFault) (tokens : List Token) (left : List ℕ) (old new : List Told) (e : End)
    → Cuts None 0 asked.source tokens → left ≡ asked.source
    → Adds (Further (record { files = files; asked = asked; tokens = tokens }) 100 19 left first) old new e
    → Adds (NamesBehind files asked first) old new e
names_all files asked first tokens left old new e cuts same adds =
    adds_so _ (NamesBehind files asked first) old new e
    (λ found is.
    inl (tokens, cuts, subst (λ (l : List ℕ). Further (record { files = files; asked = asked; tokens = tokens }) 100 19 l first found) same is))
    adds

pub names_none : (files : List FileView) (asked : Asked) (first : NameFault) (told : List Told) → Adds (NamesBehind files asked first) told told end.NoMemory
names_none files asked first told = adds_none (NamesBehind files asked first) told end.NoMemory (inr refl)

pub others_none : (files : List FileView) (asked : Asked) (first : Fault) (told : List Told) → ((x : SyntaxFault) → first ≡ f.Syntax x → ⊥)
    → ((x : NameFault) → first ≡ f.Name x → ⊥)
    → Adds (behind.Behind files asked first) told told end.Whole
others_none files asked first told no_syntax no_name = adds_none (behind.Behind files asked first) told end.Whole (alone first no_syntax no_name)
  where
    alone : (fault : Fault) → ((x : SyntaxFault) → fault ≡ f.Syntax x → ⊥) → ((x : NameFault) → fault ≡ f.Name x → ⊥) → behind.Behind files asked fault (ended end.Whole)
    alone (f.Syntax x) no_syntax no_name = absurd (no_syntax x refl)
    alone (f.Name x) no_syntax no_name = absurd (no_name x refl)
    alone _ no_syntax no_name = refl

-- what is pushed where memory suffices, and nothing where it is refused
pub unpushed : {T E : Type 0} (r : Result T E) (Q : E → Type 0) (pushed told : List Told) → IsErrAnd r Q → told ≡ (if is_ok r then pushed else told)
unpushed (Ok x) Q pushed told h = absurd h
unpushed (Err e) Q pushed told h = refl
