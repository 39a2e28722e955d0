-- Concurrent statements that are spelled are read.
use Rattle.std.proofs.Common.{◌≡◌, ℕ, suc, ◌≤◌, Bool, true, false, ◌||◌, cond, List, [], ◌∷◌, ◌++◌, length, Ok, Option, Some, None, refl, sym, ap, ◌∙◌, subst, append_assoc, arith}
use Rattle.vhdl_lexer.specs.declared.language.Language.{Language}
use Rattle.vhdl_lexer.specs.declared.token.TokenKind.{TokenKind}
use Rattle.vhdl_lexer.specs.declared.token.TokenKind.TheVariants as k
use Rattle.vhdl_tree.specs.Lexeme.{Lexeme, same_kind}
use Rattle.vhdl_tree.specs.Tree.{Ident, Attribute, called, of_range, Text, Suffix, plain, DiscreteRange, Name, Value, Branch, SelectedAssignment, Process, Association, Instantiated, entity_unit, component_unit, Scheme, for_each, if_holds, Concurrent, assignment, assertion, selected, process, instance, generated, Concurrents, no_concurrents, concurrents_of}
use Rattle.vhdl_tree.specs.Tree as tree
use Rattle.vhdl_tree.specs.Pieces.{Piece, some, word_at, Spells, spell_ident, spell_option, spell_word, spell_each, IsEach}
use Rattle.vhdl_tree.specs.grammar.Expressions.{spell_name, spell_discrete_range, IsNameIn, IsDiscreteRangeIn}
use Rattle.vhdl_tree.specs.grammar.Texts.{spell_text, IsTextIn}
use Rattle.vhdl_tree.specs.grammar.Waveforms.{spell_waveforms, AreWaveformsIn}
use Rattle.vhdl_tree.specs.grammar.Sequential.{spell_label, spell_end}
use Rattle.vhdl_tree.specs.grammar.Process.{spell_process, spell_selected, IsProcessIn, IsSelectedIn}
use Rattle.vhdl_tree.specs.grammar.Instance.{spell_map, spell_instance, IsInstanceIn}
use Rattle.vhdl_tree.specs.grammar.Concurrent.{spell_scheme, spell_concurrent, IsSchemeIn, IsConcurrentIn, AreConcurrentsIn}
use Rattle.vhdl_parser_expressions.specs.reader.Input.{Parser, Outcome, and_then, next_kind, is_kind, sees_both}
use Rattle.vhdl_parser_statements.specs.reader.Sequential.{label, optional_label}
use Rattle.vhdl_parser.specs.reader.Concurrent.{concurrent, assign, assert, begins_concurrent, assign_with, instance_with, sees_component, named_with, unlabelled_by, unlabelled, GenerateBody, generate_body, generate_rest, for_scheme, for_generate, if_generate, labelled_by, labelled, by_label, concurrents_with, deeper_concurrents, concurrents}
use Rattle.vhdl_parser_expressions.proofs.Gives.{Reaches, Gives, Whatever, front, g_pure, g_then, g_map, g_at, g_some, g_ident, g_below, g_choose, eat_gives, more_gives}
use Rattle.vhdl_parser_expressions.proofs.GiveValues.{EndsBound, both, sees_is, g_neither_then, expr_gives, name_gives, discrete_range_gives}
use Rattle.vhdl_parser_statements.proofs.Conditional.{conditional_gives}
use Rattle.vhdl_parser_statements.proofs.GiveSequential.{label_gives, end_gives, wide_is}
use Rattle.vhdl_parser_statements.proofs.GiveTexts.{text_gives}
use Rattle.vhdl_parser_statements.proofs.GiveProcess.{process_gives, selected_gives}
use Rattle.vhdl_parser.proofs.GiveInstance.{instance_gives}
use Rattle.vhdl_parser.proofs.Plain.{concurrent_long}
use Rattle.vhdl_parser.proofs.Concurrents.{spelled_all, spelled_all-each}

-- ---- labels

module _ (language : Language) (n : ℕ) (inner : Parser (List Concurrent)) where
  without_label : (c : Concurrent) (ps : List Piece) → 1 ≤ length ps → ((next : Option TokenKind) → both k.Identifier k.Colon ps next ≡ false) → Gives (unlabelled language n) c ps Whatever → Gives (concurrent language n inner) c ps Whatever
  unfolding concurrent optional_label
  without_label c ps long none w = g_neither_then k.Identifier k.Colon long (λ ts. Ok (None, ts)) (λ ts. and_then (label ts) (λ x us. Ok (Some x, us))) (by_label language n inner) (λ next _. none next) w

  with_label : (i : Ident) (c : Concurrent) (ps : List Piece) → Gives (labelled language n inner i) c ps Whatever → Gives (concurrent language n inner) c (spell_label i ++ ps) Whatever
  unfolding concurrent
  with_label i c ps w = g_then (by_label language n inner) (label_gives i) w (λ next _. tt)

-- ---- a component's name or a target

abbrev component : List Piece → Option TokenKind → Bool
component ps next = both k.Identifier k.Generic ps next || (both k.Identifier k.Port ps next || both k.Identifier k.Semicolon ps next)

component_is : (ps : List Piece) (ts rest : List Lexeme) → 1 ≤ length ps → Spells ps ts rest → sees_component ts ≡ component ps (next_kind rest)
component_is ps ts rest le h =
    ap (λ x. x || (sees_both k.Identifier k.Port ts || sees_both k.Identifier k.Semicolon ts)) (sees_is k.Identifier k.Generic ps ts rest le h)
    ∙ ap (λ x. both k.Identifier k.Generic ps (next_kind rest) || (x || sees_both k.Identifier k.Semicolon ts)) (sees_is k.Identifier k.Port ps ts rest le h)
    ∙ ap (λ x. both k.Identifier k.Generic ps (next_kind rest) || (both k.Identifier k.Port ps (next_kind rest) || x)) (sees_is k.Identifier k.Semicolon ps ts rest le h)

module _ (language : Language) (n : ℕ) (i : Ident) (c : Concurrent) (ps : List Piece) (long : 1 ≤ length ps) where
  component_gives : ((next : Option TokenKind) → component ps next ≡ true) → Gives (instance_with language n i) c ps Whatever → Gives (named_with language n i) c ps Whatever
  unfolding named_with
  component_gives is w = record {
    reads = λ ts rest h g. subst (λ t. Reaches (cond {A = Outcome Concurrent} t (instance_with language n i ts) (assign_with language n (Some i) ts)) c rest) (sym (component_is ps ts rest long h ∙ is (next_kind rest))) (w.reads ts rest h g);
  }

  target_gives : ((next : Option TokenKind) → component ps next ≡ false) → Gives (assign_with language n (Some i)) c ps Whatever → Gives (named_with language n i) c ps Whatever
  unfolding named_with
  target_gives is w = record {
    reads = λ ts rest h g. subst (λ t. Reaches (cond {A = Outcome Concurrent} t (instance_with language n i ts) (assign_with language n (Some i) ts)) c rest) (sym (component_is ps ts rest long h ∙ is (next_kind rest))) (w.reads ts rest h g);
  }

-- ---- assignments

abbrev spell_behind : Name → List Branch → Option Value → List Piece
spell_behind target branches last = spell_name target ++ (some k.LessEqual ∷ (spell_waveforms branches last ++ some k.Semicolon ∷ []))

assign_gives : (language : Language) (n : ℕ) (l : Option Ident) (target : Name) (branches : List Branch) (last : Option Value) → IsNameIn language target → AreWaveformsIn language branches last →
    Gives (assign language n l) (record { label = l; target = target; branches = branches; otherwise = last }) (spell_behind target branches last) Whatever
unfolding assign
assign_gives language n l target branches last f g = g_then _ (name_gives language n target f) (g_some (λ _. g_then _ (conditional_gives language n branches last g) (g_some (λ _. g_pure)) (λ next _. refl))) (λ next _. omega arith)

target_label : (i : Ident) (x : Suffix) (a : Option Attribute) (ps : List Piece) (next : Option TokenKind) → both k.Identifier k.Colon (spell_name (record { identifier = i; suffix = x; attribute = a }) ++ (some k.LessEqual ∷ ps)) next ≡ false
unfolding same_kind
target_label i plain None ps next = refl
target_label i plain (Some (called a)) ps next = refl
target_label i plain (Some (of_range at)) ps next = refl
target_label i _ _ ps next = refl

target_component : (i : Ident) (x : Suffix) (a : Option Attribute) (ps : List Piece) (next : Option TokenKind) → component (spell_name (record { identifier = i; suffix = x; attribute = a }) ++ (some k.LessEqual ∷ ps)) next ≡ false
unfolding same_kind
target_component i plain None ps next = refl
target_component i plain (Some (called a)) ps next = refl
target_component i plain (Some (of_range at)) ps next = refl
target_component i _ _ ps next = refl

assignment_ready : (language : Language) (n : ℕ) (inner : Parser (List Concurrent)) (l : Option Ident) (t : Name) (branches : List Branch) (last : Option Value) → IsNameIn language t → AreWaveformsIn language branches last →
    Gives (concurrent language n inner) (assignment (record { label = l; target = t; branches = branches; otherwise = last })) (spell_option spell_label l ++ spell_behind t branches last) Whatever
unfolding unlabelled labelled
assignment_ready language n inner None t branches last f g =
    without_label language n inner _ (spell_behind t branches last) (omega arith) (λ next. target_label t.identifier t.suffix t.attribute _ next)
    (g_choose (unlabelled_by language n) (Some k.Identifier) (λ next _. refl) (g_map (λ x. assignment x) (assign_gives language n None t branches last f g)))
assignment_ready language n inner (Some i) t branches last f g =
    with_label language n inner i _ (spell_behind t branches last)
    (g_choose (labelled_by language n inner i) (Some k.Identifier) (λ next _. refl)
    (target_gives language n i _ (spell_behind t branches last) (omega arith) (λ next. target_component t.identifier t.suffix t.attribute _ next) (g_map (λ x. assignment x) (assign_gives language n (Some i) t branches last f g))))

-- ---- selected assignments, processes and instances

selected_ready : (language : Language) (n : ℕ) (inner : Parser (List Concurrent)) (l : Option Ident) (s : SelectedAssignment) → IsSelectedIn language s → Gives (concurrent language n inner) (selected l s) (spell_option spell_label l ++ spell_selected s) Whatever
unfolding unlabelled labelled same_kind
selected_ready language n inner None s f = without_label language n inner _ (spell_selected s) (omega arith) (λ next. refl) (g_choose (unlabelled_by language n) (Some k.With) (λ next _. refl) (g_map (λ x. selected None x) (selected_gives language n s f)))
selected_ready language n inner (Some i) s f = with_label language n inner i _ (spell_selected s) (g_choose (labelled_by language n inner i) (Some k.With) (λ next _. refl) (g_map (λ x. selected (Some i) x) (selected_gives language n s f)))

process_ready : (language : Language) (n : ℕ) (inner : Parser (List Concurrent)) (l : Option Ident) (p : Process) → IsProcessIn language p → Gives (concurrent language n inner) (process l p) (spell_option spell_label l ++ spell_process p) Whatever
unfolding unlabelled labelled same_kind
process_ready language n inner None p f = without_label language n inner _ (spell_process p) (omega arith) (λ next. refl) (g_choose (unlabelled_by language n) (Some k.Process) (λ next _. refl) (g_map (λ x. process None x) (process_gives language n p f)))
process_ready language n inner (Some i) p f = with_label language n inner i _ (spell_process p) (g_choose (labelled_by language n inner i) (Some k.Process) (λ next _. refl) (g_map (λ x. process (Some i) x) (process_gives language n p f)))

assertion_ready : (language : Language) (n : ℕ) (inner : Parser (List Concurrent)) (l : Option Ident) (text : Text) → IsTextIn language text →
    Gives (concurrent language n inner) (assertion (record { label = l; text = text })) (spell_option spell_label l ++ spell_text k.Assert text) Whatever
unfolding unlabelled labelled assert same_kind
assertion_ready language n inner None text f = without_label language n inner _ (spell_text k.Assert text) (omega arith) (λ next. refl)
    (g_choose (unlabelled_by language n) (Some k.Assert) (λ next _. refl) (g_map (λ x. assertion x) (g_map (λ x. record { label = None; text = x }) (text_gives language n k.Assert text f))))
assertion_ready language n inner (Some i) text f = with_label language n inner i _ (spell_text k.Assert text)
    (g_choose (labelled_by language n inner i) (Some k.Assert) (λ next _. refl) (g_map (λ x. assertion x) (g_map (λ x. record { label = Some i; text = x }) (text_gives language n k.Assert text f))))

is_component : (name : Ident) (g p : Option (List Association)) (next : Option TokenKind) → component (spell_ident name ++ (spell_option (spell_map k.Generic) g ++ (spell_option (spell_map k.Port) p ++ some k.Semicolon ∷ []))) next ≡ true
unfolding same_kind
is_component name None None next = refl
is_component name _ _ next = refl

instance_ready : (language : Language) (n : ℕ) (inner : Parser (List Concurrent)) (i : Ident) (u : Instantiated) (g p : Option (List Association)) → IsInstanceIn language (record { unit = u; generics = g; ports = p }) →
    Gives (concurrent language n inner) (instance i (record { unit = u; generics = g; ports = p })) (spell_label i ++ spell_instance (record { unit = u; generics = g; ports = p })) Whatever
unfolding labelled
instance_ready language n inner i (entity_unit library name chosen) g p f = with_label language n inner i _ (spell_instance (record { unit = entity_unit library name chosen; generics = g; ports = p }))
    (g_choose (labelled_by language n inner i) (Some k.Entity) (λ next _. refl) (g_map (λ x. instance i x) (instance_gives language n (record { unit = entity_unit library name chosen; generics = g; ports = p }) f)))
instance_ready language n inner i (component_unit true name) g p f = with_label language n inner i _ (spell_instance (record { unit = component_unit true name; generics = g; ports = p }))
    (g_choose (labelled_by language n inner i) (Some k.Component) (λ next _. refl) (g_map (λ x. instance i x) (instance_gives language n (record { unit = component_unit true name; generics = g; ports = p }) f)))
instance_ready language n inner i (component_unit false name) g p f = with_label language n inner i _ (spell_instance (record { unit = component_unit false name; generics = g; ports = p }))
    (g_choose (labelled_by language n inner i) (Some k.Identifier) (λ next _. refl)
    (component_gives language n i _ (spell_instance (record { unit = component_unit false name; generics = g; ports = p })) (omega arith) (λ next. is_component name g p next)
    (g_map (λ x. instance i x) (instance_gives language n (record { unit = component_unit false name; generics = g; ports = p }) f))))

-- ---- lists

abbrev Ready : Language → Concurrent → Type 0
Ready language c = ((n : ℕ) → Gives (concurrent language n (deeper_concurrents language n)) c (spell_concurrent c) Whatever)
    × ((next : Option TokenKind) → begins_concurrent language (front (spell_concurrent c) next) ≡ true)

concurrent_begins : (language : Language) (c : Concurrent) → IsConcurrentIn language c → (next : Option TokenKind) → begins_concurrent language (front (spell_concurrent c) next) ≡ true
concurrent_begins language (assignment a) f next = by a.label
  where
    by : (l : Option Ident) → begins_concurrent language (front (spell_option spell_label l ++ spell_behind a.target a.branches a.otherwise) next) ≡ true
    by None = refl
    by (Some i) = refl
concurrent_begins language (assertion a) f next = by a.label
  where
    by : (l : Option Ident) → begins_concurrent language (front (spell_option spell_label l ++ spell_text k.Assert a.text) next) ≡ true
    by None = wide_is language f.0
    by (Some i) = refl
concurrent_begins language (selected None s) f next = refl
concurrent_begins language (process None p) f next = refl
concurrent_begins language _ f next = refl

abbrev pub EndsConcurrentsIn : Language → Option TokenKind → Type 0
EndsConcurrentsIn language next = (begins_concurrent language next ≡ false) × Whatever next

concurrents_from : (language : Language) (cs : List Concurrent) → IsEach (Ready language) cs → (n : ℕ) → Gives (concurrents language n) cs (spell_each spell_concurrent cs) (EndsConcurrentsIn language)
unfolding concurrents_with
concurrents_from language cs r n = more_gives (begins_concurrent language) (λ c good. good.0 n) (λ c good next. good.1 next) concurrent_long (λ next _. tt) cs r []

deeper_from : (language : Language) (cs : List Concurrent) → IsEach (Ready language) cs → (n m : ℕ) → n ≡ suc m → Gives (deeper_concurrents language n) cs (spelled_all cs) (EndsConcurrentsIn language)
unfolding deeper_concurrents
deeper_from language cs r n m e =
    subst (λ x. Gives (deeper_concurrents language x) cs (spelled_all cs) (EndsConcurrentsIn language)) (sym e)
    (subst (λ ps. Gives (concurrents language m) cs ps (EndsConcurrentsIn language)) (sym (spelled_all-each cs)) (concurrents_from language cs r m))

-- ---- generates

no_begin : (c : Concurrent) (ps : List Piece) (next : Option TokenKind) → is_kind k.Begin (front (spell_concurrent c ++ ps) next) ≡ false
unfolding same_kind
no_begin (assignment a) ps next = by a.label
  where
    by : (l : Option Ident) → is_kind k.Begin (front ((spell_option spell_label l ++ spell_behind a.target a.branches a.otherwise) ++ ps) next) ≡ false
    by None = refl
    by (Some i) = refl
no_begin (selected None s) ps next = refl
no_begin (process None p) ps next = refl
no_begin (assertion a) ps next = by a.label
  where
    by : (l : Option Ident) → is_kind k.Begin (front ((spell_option spell_label l ++ spell_text k.Assert a.text) ++ ps) next) ≡ false
    by None = refl
    by (Some i) = refl
no_begin _ ps next = refl

after_begin : (cs : List Concurrent) (ps : List Piece) (next : Option TokenKind) → is_kind k.Begin (front (spelled_all cs ++ (some k.End ∷ ps)) next) ≡ false
unfolding same_kind
after_begin [] ps next = refl
after_begin (c ∷ cs) ps next = by (spelled_all cs)
  where
    by : (qs : List Piece) → is_kind k.Begin (front ((spell_concurrent c ++ qs) ++ (some k.End ∷ ps)) next) ≡ false
    by qs = subst (λ x. is_kind k.Begin (front x next) ≡ false) (sym (append_assoc (spell_concurrent c) qs (some k.End ∷ ps))) (no_begin c (qs ++ (some k.End ∷ ps)) next)

body_gives : (language : Language) (w : Bool) (cs : List Concurrent) → IsEach (Ready language) cs → (l : Option Ident) (n m : ℕ) → n ≡ suc m →
    Gives (generate_body (deeper_concurrents language n)) (record { begin_word = w; statements = cs; end_label = l }) (some k.Generate ∷ (spell_word k.Begin w ++ (spelled_all cs ++ spell_end k.Generate l))) Whatever
unfolding generate_body same_kind
body_gives language w cs r l n m e =
    g_some (λ _. g_then _ (eat_gives k.Begin w refl)
    (g_then _ (deeper_from language cs r n m e) (g_map (λ x. record { begin_word = w; statements = cs; end_label = x }) (end_gives k.Generate l)) (λ next _. (refl, tt)))
    (λ next _. after_begin cs _ next))

rest_gives : (language : Language) (i : Ident) (at : ℕ) (s : Scheme) (w : Bool) (cs : List Concurrent) → IsEach (Ready language) cs → (l : Option Ident) (n m : ℕ) → n ≡ suc m →
    Gives (generate_rest (deeper_concurrents language n) i at s) (generated i at s w (concurrents_of cs) l) (some k.Generate ∷ (spell_word k.Begin w ++ (spelled_all cs ++ spell_end k.Generate l))) Whatever
unfolding generate_rest
rest_gives language i at s w cs r l n m e = g_map (λ (b : GenerateBody). generated i at s b.begin_word (concurrents_of b.statements) b.end_label) (body_gives language w cs r l n m e)

-- id in range
scheme_gives : (language : Language) (p : Ident) (r : DiscreteRange) → IsDiscreteRangeIn language r → (m : ℕ) → Gives (for_scheme language m) (for_each p r) (word_at p.at p.text ∷ (some k.In ∷ spell_discrete_range r)) EndsBound
unfolding for_scheme
scheme_gives language p r f m = g_ident _ (g_some (λ _. g_map (λ x. for_each p x) (discrete_range_gives language m r f)))

generate_ready : (language : Language) (i : Ident) (at : ℕ) (s : Scheme) → IsSchemeIn language s → (w : Bool) (cs : List Concurrent) → IsEach (Ready language) cs → (l : Option Ident) (n : ℕ) →
    Gives (concurrent language n (deeper_concurrents language n)) (generated i at s w (concurrents_of cs) l) (spell_concurrent (generated i at s w (concurrents_of cs) l)) Whatever
unfolding labelled for_generate if_generate
generate_ready language i at (for_each p r) f w cs ready l n =
    with_label language n (deeper_concurrents language n) i _ (spell_scheme at (for_each p r) ++ (some k.Generate ∷ (spell_word k.Begin w ++ (spelled_all cs ++ spell_end k.Generate l))))
    (g_choose (labelled_by language n (deeper_concurrents language n) i) (Some k.For) (λ next _. refl)
    (g_at _ (g_below _ n (λ m e. g_then _ (scheme_gives language p r f m) (rest_gives language i at (for_each p r) w cs ready l n m e) (λ next _. (omega arith, refl))))))
generate_ready language i at (if_holds c) f w cs ready l n =
    with_label language n (deeper_concurrents language n) i _ (spell_scheme at (if_holds c) ++ (some k.Generate ∷ (spell_word k.Begin w ++ (spelled_all cs ++ spell_end k.Generate l))))
    (g_choose (labelled_by language n (deeper_concurrents language n) i) (Some k.If) (λ next _. refl)
    (g_at _ (g_below _ n (λ m e. g_then _ (expr_gives language m c f) (rest_gives language i at (if_holds c) w cs ready l n m e) (λ next _. omega arith)))))

-- ---- all statements

list_of : Concurrents → List Concurrent
list_of no_concurrents = []
list_of (tree.concurrent c more) = c ∷ list_of more

concurrents_of-list_of : (cs : Concurrents) → concurrents_of (list_of cs) ≡ cs
unfolding list_of
concurrents_of-list_of no_concurrents = refl
concurrents_of-list_of (tree.concurrent c more) = ap (tree.concurrent c) (concurrents_of-list_of more)

mutual
  unfolding list_of

  concurrent_gives : (language : Language) (c : Concurrent) → IsConcurrentIn language c → (n : ℕ) → Gives (concurrent language n (deeper_concurrents language n)) c (spell_concurrent c) Whatever
  concurrent_gives language (assignment a) f n = assignment_ready language n (deeper_concurrents language n) a.label a.target a.branches a.otherwise f.0 f.1
  concurrent_gives language (selected l s) f n = selected_ready language n (deeper_concurrents language n) l s f
  concurrent_gives language (process l p) f n = process_ready language n (deeper_concurrents language n) l p f
  concurrent_gives language (instance i x) f n = instance_ready language n (deeper_concurrents language n) i x.unit x.generics x.ports f
  concurrent_gives language (assertion a) f n = assertion_ready language n (deeper_concurrents language n) a.label a.text f
  concurrent_gives language (generated i at s w cs l) f n =
      subst (λ x. Gives (concurrent language n (deeper_concurrents language n)) (generated i at s w x l) (spell_concurrent (generated i at s w x l)) Whatever) (concurrents_of-list_of cs)
      (generate_ready language i at s f.0 w (list_of cs) (all_ready language cs f.1) l n)

  all_ready : (language : Language) (cs : Concurrents) → AreConcurrentsIn language cs → IsEach (Ready language) (list_of cs)
  all_ready language no_concurrents f = tt
  all_ready language (tree.concurrent c more) f = ((concurrent_gives language c f.0, concurrent_begins language c f.0), all_ready language more f.1)

each_ready : (language : Language) (cs : List Concurrent) → IsEach (IsConcurrentIn language) cs → IsEach (Ready language) cs
each_ready language [] f = tt
each_ready language (c ∷ cs) f = ((concurrent_gives language c f.0, concurrent_begins language c f.0), each_ready language cs f.1)

-- concurrent statements
pub concurrents_gives : (language : Language) (n : ℕ) (cs : List Concurrent) → IsEach (IsConcurrentIn language) cs → Gives (concurrents language n) cs (spell_each spell_concurrent cs) (EndsConcurrentsIn language)
concurrents_gives language n cs f = concurrents_from language cs (each_ready language cs f) n
