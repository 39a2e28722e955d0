-- Each declaration fits with those before it in sight (IEEE 1076-2008, clauses 5 and 6).
use Rattle.std.proofs.Common.{◌≡◌, ℕ, Bool, true, List, [], ◌∷◌, Some, refl, sym, subst, arith}
use Rattle.vhdl_lexer.specs.declared.language.Language.TheVariants.{Wide}
use Rattle.vhdl_tree.specs.Tree as t
use Rattle.vhdl_tree.specs.Tree.{Ident}
use Rattle.vhdl_tree.specs.grammar.Declarations.{IsDeclarationIn}
use Rattle.vhdl_tree.specs.grammar.Process.{IsProcessDeclarationIn}
use Rattle.vhdl_names_rules.specs.declared.kind.ObjectType.{ObjectType}
use Rattle.vhdl_names_rules.specs.units.Units as u
use Rattle.vhdl_names_rules.specs.Rules.{if_any}
use Rattle.vhdl_names_rules.specs.Visibility as visibility
use Rattle.vhdl_names_rules.specs.Visibility.{Name, declare, count_of, ranges_count, Sight, declaration, meaning, Declares}
use Rattle.vhdl_names_rules.specs.Subtypes.{object_subtype, form_range, form_direction, fixed_value, object}
use Rattle.vhdl_names_rules.specs.Declarations.{is_global, signals, variables, process_declaration}
use Rattle.vhdl_names_rules.specs.Interfaces.{EntityView, component}
use Rattle.vhdl_names_rules.specs.Files as files
use Rattle.vhdl_names_rules.specs.sound.Expressions.{Inside, shape_of}
use Rattle.vhdl_names_rules.specs.sound.Units.{object_fits, declaration_fits, with_declaration}
use Rattle.vhdl_names_laws.specs.Meanings.{Counts, type_shape, IsCounted}
use Rattle.vhdl_names_laws.proofs.Statics.{some_same, HasMore, more_of, keeps_all, keeps_before}
use Rattle.vhdl_names_laws.proofs.Served.{served}
use Rattle.vhdl_names_laws.proofs.Subtypes.{object_more, object_subtype_is, no_name, object_is}
use Rattle.vhdl_names_laws.proofs.InOrder as r
use Rattle.vhdl_names_laws.proofs.InOrder.{declared_one}
use Rattle.vhdl_names_rules.proofs.laws.Rules.{comes}
use Rattle.vhdl_names_rules.proofs.laws.Parts.{component_parts}
use Rattle.vhdl_names_laws.proofs.Known.{region, in_process, IsKnown, known_one, known_besides, counted_one, within, inside_within, last_form, form_counts, last_form_range, one_longer, one_more, ranges_more}
use Rattle.vhdl_names_laws.proofs.Constants.{DeclarationStep, constants_step, enumeration_step, subtype_step}

-- ---- signals and variables

more_signals : (i : Inside) (counts : Counts) (o : u.Object) → HasMore i (with_declaration i (u.Declaration.signal o)) counts counts
more_signals i counts o =
    more_of i (with_declaration i (u.Declaration.signal o)) counts (record { generics = omega arith; integers = omega arith; ranges = omega arith; generates = omega arith; loops = omega arith })
    (keeps_all i.constants) (keeps_all i.ports) (keeps_before i.signals (o.form ∷ [])) (keeps_all i.variables)

pub signals_step : (i : Inside) (counts : Counts) (sight : Sight) (d : t.Signals) (x : Declares u.Declaration) → IsKnown region i counts sight → signals sight d ≡ Some x → DeclarationStep region i sight x
unfolding signals
signals_step i counts sight d x h q =
    let inner = within region sight d.names in
    let in' = served i counts inner (inside_within region i counts sight d.names h.inside) in
    let a = comes (object_subtype inner d.subtype) _ x q in
    let c = comes (if_any (fixed_value inner a.value.type (form_range a.value.form)) d.default) _ x a.rest in
    let f = object_subtype_is i counts inner d.subtype a.value in' a.is in
    let make : Ident → u.Declaration = λ n. u.Declaration.signal (object a.value c.value n) in
    let global = is_global inner d.subtype in
    let direction = form_direction a.value.form in
    subst (DeclarationStep region i sight) (some_same _ x c.rest)
    (r.names_step with_declaration declaration_fits region.with_more (IsKnown region) region.none region.twice global direction (λ k. visibility.signal k a.value.type)
    (λ (s : Sight). count_of visibility.is_signal s.region) (λ (s : Sight). ranges_count s.region) make
    (λ i counts. (object_fits i (object a.value c.value no_name) ≡ true) × IsCounted counts a.value.type)
    (λ i counts sight n ok k. single global i counts sight n.text (object a.value c.value n) a.value.type f.shape ok.1 k)
    (λ i counts n ok. ok.0)
    (λ i counts n ok. (object_more i (with_declaration i (make n)) (more_signals i counts (object a.value c.value n)).numbers (keeps_all i.constants) (object a.value c.value no_name) ok.0, ok.1))
    (λ sight n. one_more region visibility.is_signal sight (declared_one global direction (ranges_count sight.region) (visibility.signal (count_of visibility.is_signal sight.region) a.value.type) n.text) refl)
    (λ sight n. ranges_more region sight global direction (ranges_count sight.region) (visibility.signal (count_of visibility.is_signal sight.region) a.value.type) n.text)
    d.names i counts sight (object_is i counts inner a.value d.default c.value in' f c.is, f.counted) h)
  where
    single : (g : Bool) (i : Inside) (counts : Counts) (sight : Sight) (n : Name) (o : u.Object) (type : ObjectType) → shape_of o.form ≡ type_shape type → IsCounted counts type → IsKnown region i counts sight
        → IsKnown region (with_declaration i (u.Declaration.signal o)) counts
        (region.with_more sight (declared_one g (form_direction o.form) (ranges_count sight.region) (visibility.signal (count_of visibility.is_signal sight.region) type) n ∷ []))
    single g i counts sight n o type s c k =
        let m = ranges_count sight.region in
        let b = count_of visibility.is_signal sight.region in
        let d = declared_one g (form_direction o.form) m (visibility.signal b type) n in
        let j = with_declaration i (u.Declaration.signal o) in
        known_one region i j counts sight d (more_signals i counts o) refl refl
        (record { meaning = last_form counts type o.form i.signals b k.counted.signals s c; range = last_form_range j o.form m i.ranges refl k.counted.ranges })
        (counted_one i j counts counts sight.region d refl refl (form_counts o.form m i.ranges) refl refl (sym (one_longer i.signals o.form)) refl refl k.counted) k

more_variables : (i : Inside) (counts : Counts) (o : u.Object) → HasMore i (with_declaration i (u.Declaration.variable o)) counts counts
more_variables i counts o =
    more_of i (with_declaration i (u.Declaration.variable o)) counts (record { generics = omega arith; integers = omega arith; ranges = omega arith; generates = omega arith; loops = omega arith })
    (keeps_all i.constants) (keeps_all i.ports) (keeps_all i.signals) (keeps_before i.variables (o.form ∷ []))

pub variables_step : (i : Inside) (counts : Counts) (sight : Sight) (d : t.Variables) (x : Declares u.Declaration) → IsKnown in_process i counts sight → variables sight d ≡ Some x
    → DeclarationStep in_process i sight x
unfolding variables
variables_step i counts sight d x h q =
    let inner = within in_process sight d.names in
    let in' = served i counts inner (inside_within in_process i counts sight d.names h.inside) in
    let a = comes (object_subtype inner d.subtype) _ x q in
    let c = comes (if_any (fixed_value inner a.value.type (form_range a.value.form)) d.default) _ x a.rest in
    let f = object_subtype_is i counts inner d.subtype a.value in' a.is in
    let make : Ident → u.Declaration = λ n. u.Declaration.variable (object a.value c.value n) in
    let global = is_global inner d.subtype in
    let direction = form_direction a.value.form in
    subst (DeclarationStep in_process i sight) (some_same _ x c.rest)
    (r.names_step with_declaration declaration_fits in_process.with_more (IsKnown in_process) in_process.none in_process.twice global direction (λ k. visibility.variable k a.value.type)
    (λ (s : Sight). count_of visibility.is_variable (in_process.before s)) (λ (s : Sight). ranges_count (in_process.before s)) make
    (λ i counts. (object_fits i (object a.value c.value no_name) ≡ true) × IsCounted counts a.value.type)
    (λ i counts sight n ok k. single global i counts sight n.text (object a.value c.value n) a.value.type f.shape ok.1 k)
    (λ i counts n ok. ok.0)
    (λ i counts n ok. (object_more i (with_declaration i (make n)) (more_variables i counts (object a.value c.value n)).numbers (keeps_all i.constants) (object a.value c.value no_name) ok.0, ok.1))
    (λ sight n. one_more in_process visibility.is_variable sight (declared_one global direction (ranges_count (in_process.before sight)) (visibility.variable (count_of visibility.is_variable (in_process.before sight)) a.value.type) n.text) refl)
    (λ sight n. ranges_more in_process sight global direction (ranges_count (in_process.before sight)) (visibility.variable (count_of visibility.is_variable (in_process.before sight)) a.value.type) n.text)
    d.names i counts sight (object_is i counts inner a.value d.default c.value in' f c.is, f.counted) h)
  where
    single : (g : Bool) (i : Inside) (counts : Counts) (sight : Sight) (n : Name) (o : u.Object) (type : ObjectType) → shape_of o.form ≡ type_shape type → IsCounted counts type → IsKnown in_process i counts sight
        → IsKnown in_process (with_declaration i (u.Declaration.variable o)) counts
        (in_process.with_more sight (declared_one g (form_direction o.form) (ranges_count (in_process.before sight)) (visibility.variable (count_of visibility.is_variable (in_process.before sight)) type) n ∷ []))
    single g i counts sight n o type s c k =
        let ds = in_process.before sight in
        let m = ranges_count ds in
        let b = count_of visibility.is_variable ds in
        let d = declared_one g (form_direction o.form) m (visibility.variable b type) n in
        let j = with_declaration i (u.Declaration.variable o) in
        known_one in_process i j counts sight d (more_variables i counts o) refl refl
        (record { meaning = last_form counts type o.form i.variables b k.counted.variables s c; range = last_form_range j o.form m i.ranges refl k.counted.ranges })
        (counted_one i j counts counts ds d refl refl (form_counts o.form m i.ranges) refl refl refl (sym (one_longer i.variables o.form)) refl k.counted) k

-- ---- components, and all declarations

component_known : (i : Inside) (counts : Counts) (sight : Sight) (n : Name) (k : ℕ) → IsKnown region i counts sight → IsKnown region i counts (region.with_more sight (declare n (visibility.component k) ∷ []))
component_known i counts sight n number k =
    known_besides region i counts sight (declare n (visibility.component number) ∷ []) (record { meaning = tt; range = tt }, tt)
    (record { generics = refl; integers = refl; ranges = refl; constants = refl; ports = refl; signals = refl; variables = refl; enumerations = refl }, tt) k

pub component_step : (i : Inside) (counts : Counts) (entities : List EntityView) (sight : Sight) (c : t.Component) (x : Declares u.Declaration) → IsKnown region i counts sight
    → component entities sight c ≡ Some x → DeclarationStep region i sight x
component_step i counts entities sight c x h q =
    let d = component_parts entities sight c x q in
    subst (DeclarationStep region i sight) d.is (record { more = counts; fit = refl; after = component_known i counts sight c.name.text d.found.value.0 h })

pub declaration_step : (i : Inside) (counts : Counts) (entities : List EntityView) (sight : Sight) (d : t.Declaration) (x : Declares u.Declaration) → IsDeclarationIn Wide d → IsKnown region i counts sight
    → files.declaration entities sight d ≡ Some x → DeclarationStep region i sight x
declaration_step i counts entities sight (t.signals d) x is h q = signals_step i counts sight d x h q
declaration_step i counts entities sight (t.constants d) x is h q = constants_step region i counts sight d x h q
declaration_step i counts entities sight (t.enumeration d) x is h q = enumeration_step region i counts sight d x is h q
declaration_step i counts entities sight (t.component c) x is h q = component_step i counts entities sight c x h q
declaration_step i counts entities sight (t.subtype_of d) x is h q = subtype_step region i counts sight d h x q
declaration_step i counts entities sight (t.attribute_of text) x is h q =
    subst (DeclarationStep region i sight) (some_same _ x q) (r.no_step with_declaration declaration_fits region.with_more (IsKnown region) region.none region.twice i counts sight h)

pub process_step : (i : Inside) (counts : Counts) (sight : Sight) (d : t.ProcessDeclaration) (x : Declares u.Declaration) → IsProcessDeclarationIn Wide d → IsKnown in_process i counts sight
    → process_declaration sight d ≡ Some x → DeclarationStep in_process i sight x
process_step i counts sight (t.variables d) x is h q = variables_step i counts sight d x h q
process_step i counts sight (t.process_constants d) x is h q = constants_step in_process i counts sight d x h q
process_step i counts sight (t.process_enumeration d) x is h q = enumeration_step in_process i counts sight d x is.1 h q
process_step i counts sight (t.process_subtype d) x is h q = subtype_step in_process i counts sight d h x q
