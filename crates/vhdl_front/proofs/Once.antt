-- A source has one tree, and so one of each that follows from it.
use Rattle.std.proofs.Common.{◌≡◌, ℕ, Bool, true, false, List, Some, Ok, Err, inl, inr, refl, true≢false, sym, ap, ◌∙◌, subst, arith}
use Rattle.std.specs.Prelude.{IsErr}
use Rattle.rtl_net.specs.Nets.{NetlistView}
use Rattle.vhdl_lexer.specs.declared.language.Language.{Language}
use Rattle.vhdl_lexer.specs.declared.language.Language.TheVariants.{Profile, Wide}
use Rattle.vhdl_lexer.specs.declared.token.Token.{Token}
use Rattle.vhdl_parser_rules.specs.Fault.{IsRefusal, IsTooDeep}
use Rattle.vhdl_parser_rules.specs.declared.fault.SyntaxFault.{SyntaxFault}
use Rattle.vhdl_parser_rules.specs.declared.fault.SyntaxFault.TheVariants as syntax
use Rattle.vhdl_tree.specs.Levels.{IsShallow, IsDeep, most_open}
use Rattle.vhdl_tree.specs.Lexeme.{Lexeme, lexemes}
use Rattle.vhdl_tree.specs.Tree.{File}
use Rattle.vhdl_names_rules.specs.Registers.{units_in}
use Rattle.vhdl_names_rules.specs.declared.fault.NameFault.TheVariants as names
use Rattle.vhdl_names_rules.specs.declared.fault.NameProblem.{NameProblem}
use Rattle.vhdl_names_rules.specs.units.Units.{Units}
use Rattle.vhdl_expand_rules.specs.Elab.{Told, Elab as Expanded, ◌>>=◌, ◌>>◌, unless}
use Rattle.vhdl_expand_rules.specs.Expansion.{Design, expanded_design}
use Rattle.vhdl_expand_rules.specs.Tops.{Top}
use Rattle.vhdl_expand_rules.specs.declared.fault.ElabFault.TheVariants as elab
use Rattle.vhdl_expand_rules.specs.declared.fault.ElabProblem.{ElabProblem}
use Rattle.vhdl_expand_rules.specs.declared.fault.ElabProblem.TheVariants.{TooMany}
use Rattle.vhdl_elab_rules.specs.Elaboration.{Elaborated, net_of, resolves, shares_unread, netlist_of, elaborated_net}
use Rattle.vhdl_elab_rules.specs.Limits.{counts, is_within_limits}
use Rattle.vhdl_elab_rules.specs.Numbering.{numbered_design}
use Rattle.vhdl_elab_rules.specs.Refused.{MayRefuse}
use Rattle.vhdl_elab_rules.specs.Shown.{shown, net_shown}
use Rattle.vhdl_front_rules.specs.Sources.{SpellsTokens, IsFileOf, HasSyntaxFault}
use Rattle.vhdl_front_rules.specs.Asking.{Asked}
use Rattle.vhdl_front_rules.specs.Designs.{HasUnits, HasDesign, HasRoom, IsReadIn}
use Rattle.vhdl_front_rules.specs.Refusals.{HasNoUnits, IsUndesigned, HasNoDesign}
use Rattle.vhdl_front.proofs.KeptNets.{kept_alike}
use Rattle.vhdl_front.specs.Laws.{EachSourceHasOneDesign, EachSourceHasOneNet, EachRefusedHasNone}
use Rattle.vhdl_front_rules.specs.declared.fault.SourceFault.TheVariants.{Lex, Syntax, Name, Elab, NoMemory}

one_file : (language : Language) (source : List ℕ) (a b : File) → IsFileOf language source a → IsFileOf language source b → a ≡ b
one_file language source a b p q =
    sym (p.only_file b q.well_formed (subst (λ (ts : List Token). SpellsTokens source ts b) (p.only_tokens q.tokens q.cut) q.spelled))

in_some : {A : Type 0} (a b : A) → Some a ≡ Some b → a ≡ b
in_some a b e = cc

one_units : (language : Language) (source : List ℕ) (a b : Units) → HasUnits language source a → HasUnits language source b → a ≡ b
one_units language source a b p q = in_some a b (sym p.well_typed ∙ ap (units_in language) (one_file language source p.file q.file p.read q.read) ∙ q.well_typed)

pub one_design : EachSourceHasOneDesign
one_design asked one other p q =
    let e : elaborated_net p.units asked.top ≡ elaborated_net q.units asked.top = ap (λ (x : Units). elaborated_net x asked.top) (one_units asked.language asked.source p.units q.units p.analysed q.analysed) in
    let both = sym p.is ∙ e ∙ q.is in cc

read_alike : (language : Language) (a b one other : NetlistView) → IsReadIn language a one → IsReadIn language b other → net_shown a ≡ net_shown b → net_shown one ≡ net_shown other
read_alike Profile a b one other h g e = ap net_shown h ∙ e ∙ sym (ap net_shown g)
read_alike Wide a b one other h g e =
    kept_alike (record a { wide = true }) (record b { wide = true }) one other h g (λ i. record (e i) { flat = record ((e i).flat) { wide = true } })

pub one_net : EachSourceHasOneNet
one_net asked one other p q =
    read_alike asked.language p.plain q.plain one other p.read q.read (p.shows ∙ ap shown (one_design asked p.design q.design p.has q.has) ∙ sym q.shows)

-- ---- refusals

not_both : (n : ℕ) (ts : List Lexeme) → IsDeep n ts → IsShallow n ts → ⊥
not_both n ts (j, deep) shallow = let low = shallow j in omega (arith, deep, low)

along : (language : Language) (source : List ℕ) (ts : List Token) (file : File) (h : IsFileOf language source file) → h.tokens ≡ ts → SpellsTokens source ts file
along language source ts file h e = subst (λ (xs : List Token). SpellsTokens source xs file) e h.spelled

unspelled : (language : Language) (fault : SyntaxFault) (source : List ℕ) (file : File) → IsRefusal fault → HasSyntaxFault language fault source → IsFileOf language source file → ⊥
unspelled language fault source file is r h = r.refused is file h.well_formed (along language source r.tokens file h (r.only_tokens h.tokens h.cut))

too_deep : (language : Language) (fault : SyntaxFault) (source : List ℕ) (file : File) → IsTooDeep fault → HasSyntaxFault language fault source → IsFileOf language source file → ⊥
too_deep language fault source file is r h =
    not_both most_open (lexemes source r.tokens) (r.deep is) (subst (λ (ts : List Token). IsShallow most_open (lexemes source ts)) (r.only_tokens h.tokens h.cut) h.shallow)

untyped : (language : Language) (source : List ℕ) (units : Units) (problem : NameProblem) (at : ℕ) → HasNoUnits language source problem at → HasUnits language source units → ⊥
untyped language source units problem at r h =
    let both = sym r.ill_typed ∙ ap (units_in language) (one_file language source r.file h.file r.read h.read) ∙ h.well_typed in absurd (cc)

undesigned : (given : Expanded Elaborated) (design : Elaborated) → IsErr given → given ≡ Ok design → ⊥
undesigned (Ok x) design h e = true≢false (sym h)
undesigned (Err told) design h e = absurd (cc)

-- what may be refused has no design
not_connected : (r : Expanded Design) → IsErr (r >>= λ d. unless TooMany 0 (is_within_limits (counts (numbered_design d)))) → IsErr (r >>= λ d. netlist_of d)
unfolding netlist_of
not_connected (Err p) h = refl
not_connected (Ok d) h = by (is_within_limits (counts (numbered_design d))) h
  where
    rest : Expanded Elaborated
    rest = resolves (numbered_design d) >> (shares_unread (numbered_design d) >> Ok (net_of (numbered_design d)))

    by : (t : Bool) → IsErr (unless TooMany 0 t) → IsErr (unless TooMany 0 t >> rest)
    by true k = absurd (true≢false (sym k))
    by false k = refl

is_refused : (units : Units) (top : Top) (told : Told) → MayRefuse units top told → IsErr (elaborated_net units top)
unfolding elaborated_net
is_refused units top told (inl (other, e)) = subst (λ (r : Expanded Elaborated). IsErr r) (sym e) refl
is_refused units top told (inr (many, cut)) = not_connected (expanded_design units top) cut.refused

no_design : (asked : Asked) (problem : ElabProblem) (at : ℕ) (design : Elaborated) → HasNoDesign asked problem at → HasDesign asked design → ⊥
no_design asked problem at design r h = by r.refused
  where
    alike : elaborated_net r.units asked.top ≡ Ok design
    alike = ap (λ (x : Units). elaborated_net x asked.top) (one_units asked.language asked.source r.units h.units r.analysed h.analysed) ∙ h.is

    by : IsUndesigned asked.language r.units asked.top (problem, at) → ⊥
    by (inl m) = undesigned (elaborated_net r.units asked.top) design (is_refused r.units asked.top (problem, at) m) alike
    by (inr o) =
        let same : o.design ≡ design = (let both = sym o.is ∙ alike in cc) in
        o.over (subst (λ (x : Elaborated). HasRoom asked.language x.flat) (sym same) h.room)

pub refused : EachRefusedHasNone
refused asked (Lex x) design behind r h = behind
refused asked (Syntax (syntax.Unexpected at)) design behind r h = unspelled asked.language (syntax.Unexpected at) asked.source h.analysed.file tt r h.analysed.read
refused asked (Syntax (syntax.EndOfFile at)) design behind r h = unspelled asked.language (syntax.EndOfFile at) asked.source h.analysed.file tt r h.analysed.read
refused asked (Syntax (syntax.TooDeep at)) design behind r h = too_deep asked.language (syntax.TooDeep at) asked.source h.analysed.file tt r h.analysed.read
refused asked (Syntax syntax.NoMemory) design behind r h = r
refused asked (Name (names.At problem at)) design behind r h = untyped asked.language asked.source h.units problem at r h.analysed
refused asked (Name names.NoMemory) design behind r h = r
refused asked (Elab (elab.At problem at)) design behind r h = no_design asked problem at design r h
refused asked (Elab elab.NoMemory) design behind r h = r
refused asked NoMemory design behind r h = behind
