-- What is told of the parts of processes and generates is told of the whole.
use Rattle.std.proofs.Common.{◌≡◌, Bool, true, false, List, [], ◌∷◌, ◌++◌, Option, Some, None, Result, Ok, Err, IfOk, refl, ap, sym, subst, ◌∙◌}
use Rattle.std.specs.Prelude.{option_map, is_some}
use Rattle.vhdl_tree.specs.Tree as t
use Rattle.vhdl_tree.specs.Tree.{Ident}
use Rattle.vhdl_tree.specs.View as tree
use Rattle.vhdl_tree.specs.declared.process.Wait.{Wait}
use Rattle.vhdl_tree.specs.declared.concurrent.Generate.{Generate, out-Generate}
use Rattle.vhdl_tree.specs.declared.concurrent.Concurrent.TheVariants as c
use Rattle.vhdl_names_rules.specs.units.Statements as s
use Rattle.vhdl_names_rules.specs.units.Units as u
use Rattle.vhdl_names_rules.specs.declared.fault.NameFault.{NameFault}
use Rattle.vhdl_names_rules.specs.declared.fault.NameFault.TheVariants.{At, NoMemory}
use Rattle.vhdl_names_rules.specs.declared.fault.NameProblem.TheVariants.{NoSensitivity}
use Rattle.vhdl_names_rules.specs.units.Expressions.{Test}
use Rattle.vhdl_names_rules.specs.Edges.{Edge, waited_edge}
use Rattle.vhdl_names_rules.specs.Expressions.{condition}
use Rattle.vhdl_names_rules.specs.problems.Expressions as expressions
use Rattle.vhdl_names_rules.specs.Rules.{met}
use Rattle.vhdl_names_rules.specs.Gives.{Gives}
use Rattle.vhdl_names_rules.specs.Visibility.{Sight, Declares, are_distinct, with_variables}
use Rattle.vhdl_names_rules.specs.Declarations as declarations
use Rattle.vhdl_names_rules.specs.Interfaces.{EntityView, declared_names}
use Rattle.vhdl_names_rules.specs.Instances.{instance}
use Rattle.vhdl_names_rules.specs.Statements as sequential
use Rattle.vhdl_names_units.specs.views.Concurrent.{concurrents_of}
use Rattle.vhdl_names_rules.specs.Concurrent as rules
use Rattle.vhdl_names_rules.specs.Concurrent.{sight_within, concurrent_labels}
use Rattle.vhdl_names_rules.proofs.laws.Rules.{comes, kept}
use Rattle.vhdl_names_rules.specs.problems.Broken.{Broken, Tells, refused, lacking, ◌▸◌, where_given, any_of}
use Rattle.vhdl_names_rules.specs.problems.Declarations.{in_order, process_declaration, end_name}
use Rattle.vhdl_names_rules.specs.problems.Concurrent as broken
use Rattle.vhdl_names_rules.specs.problems.Statements.{end_label}
use Rattle.vhdl_names_rules.proofs.Telling.{IsKept, both_kept, told_same, told_left, told_right, told_given}
use Rattle.vhdl_names_rules.proofs.kept.Keeping.{among_kept, mapped}
use Rattle.vhdl_names_rules.proofs.kept.Expressions.{condition_kept}
use Rattle.vhdl_names_rules.proofs.kept.Statements.{statements_kept}
use Rattle.vhdl_names_rules.proofs.kept.Declarations.{process_declarations_kept}
use Rattle.vhdl_names_rules.proofs.kept.Concurrent.{sensitivity_kept, awaited_kept, inner_labels_kept, labels_kept, scheme_kept, concurrent_kept, concurrents_kept}
use Rattle.vhdl_names_declarations.specs.Counts.{AreCounts}
use Rattle.vhdl_names_declarations.specs.declared.counts.Counts.{Counts}
use Rattle.vhdl_names.specs.steps.Concurrents as parts
use Rattle.vhdl_names.specs.steps.Processes as steps
use Rattle.vhdl_names.specs.steps.Told as told
use Rattle.vhdl_names.proofs.Generating.{generate_is, by_instance, concurrents_by}

pub met_holds : (b : Bool) → met b ≡ Some tt → b ≡ true
met_holds true h = refl
met_holds false h = absurd cc

-- what goes well breaks nothing
pub ok_kept : {X Y : Type 0} (view : X → Y) (o : Option Y) (b : Broken) (r : Result X NameFault) → ((y : Y) → o ≡ Some y → IsKept b) → Gives view o r → IfOk r (λ x. IsKept b)
ok_kept view o b (Ok x) h g = h (view x) g
ok_kept view o b (Err f) h g = tt

-- ---- processes

abbrev first : Sight → Option (Sight × List u.Declaration) → Sight
first s None = s
first s (Some p) = p.0

pub process_body_kept : (sight : Sight) (qs : List t.Sequential) (y : s.Statements) → steps.body sight qs ≡ Some y → IsKept (broken.body sight (t.statements_of qs))
process_body_kept sight qs y h =
    let d = kept (are_distinct (sequential.statement_labels (t.statements_of qs))) _ y h in
    among_kept _ _ (inner_labels_kept (t.statements_of qs) d.0) (statements_kept (t.statements_of qs) sight y d.1)

module _ (sight : Sight) (label : Option Ident) (p : t.Process) (f : NameFault) where
  abbrev resumed : Broken
  resumed = broken.sensitivity sight p.at p.sensitivity (is_some p.wait)

  abbrev declares : Broken
  declares = in_order with_variables declarations.process_declaration process_declaration sight p.declarations

  abbrev waits : Sight → Broken
  waits inner = broken.awaited inner p.sensitivity p.wait

  abbrev does : Broken
  does =
      where_given (declarations.in_order with_variables declarations.process_declaration sight p.declarations)
      (λ vs. waits (with_variables sight vs.declared) ▸ broken.body (with_variables sight vs.declared) (t.statements_of p.statements))

  abbrev ended : Broken
  ended = end_label label p.end_label

  pub process_resumed : Tells resumed f → Tells (broken.process sight label p) f
  process_resumed h = told_left resumed (declares ▸ (does ▸ ended)) f h

  module _ (on : u.Sensitivity) (is : rules.sensitivity sight p.sensitivity (is_some p.wait) ≡ Some on) where
    behind : Tells (declares ▸ (does ▸ ended)) f → Tells (broken.process sight label p) f
    behind h = told_right resumed (declares ▸ (does ▸ ended)) f (sensitivity_kept sight p.at p.sensitivity (is_some p.wait) on is) h

    pub process_declares : Tells declares f → Tells (broken.process sight label p) f
    process_declares h = behind (told_left declares (does ▸ ended) f h)

    module _ (entered : Sight) (vs : List u.Declaration) (e : steps.declarations_in sight p.declarations ≡ Some (entered, vs)) where
      record Made : Type 0 where
        declared : Declares u.Declaration
        from : declarations.in_order with_variables declarations.process_declaration sight p.declarations ≡ Some declared
        distinct : are_distinct (declared_names (sight.variables ++ declared.declared)) ≡ true
        same : with_variables sight declared.declared ≡ entered

      made : Made
      made =
          let x = comes (declarations.in_order with_variables declarations.process_declaration sight p.declarations) _ (entered, vs) e in
          let k = kept (are_distinct (declared_names (sight.variables ++ x.value.declared))) _ (entered, vs) x.rest in
          record { declared = x.value; from = x.is; distinct = k.0; same = ap (first sight) k.1 }

      declares_kept : IsKept declares
      declares_kept = process_declarations_kept p.declarations sight made.declared made.from made.distinct

      abbrev statements_do : Broken
      statements_do = broken.body entered (t.statements_of p.statements)

      within : does ≡ (waits entered ▸ statements_do)
      within =
          ap (λ o. where_given o (λ vs. waits (with_variables sight vs.declared) ▸ broken.body (with_variables sight vs.declared) (t.statements_of p.statements))) made.from
          ∙ ap (λ s. waits s ▸ broken.body s (t.statements_of p.statements)) made.same

      in_process : Tells (waits entered ▸ statements_do) f → Tells (broken.process sight label p) f
      in_process h =
          behind (told_right declares (does ▸ ended) f declares_kept (told_left does ended f (told_same (waits entered ▸ statements_do) does f (sym within) h)))

      pub process_awaited : Tells (waits entered) f → Tells (broken.process sight label p) f
      process_awaited h = in_process (told_left (waits entered) statements_do f h)

      module _ (resumes : u.Sensitivity) (awaits : steps.resumed entered p on ≡ Some resumes) where
        waits_kept : IsKept (waits entered)
        waits_kept =
            let m = mapped (λ (edge : Option Edge). rules.resumed_by edge on) (rules.awaited entered p.sensitivity p.wait) resumes awaits in
            awaited_kept entered p.sensitivity p.wait m.value m.from

        pub process_body : Tells statements_do f → Tells (broken.process sight label p) f
        process_body h = in_process (told_right (waits entered) statements_do f waits_kept h)

        -- what breaks nothing tells of no fault but for want of memory
        pub process_again : Tells (waits entered) f → Tells (broken.process sight label p) f
        process_again h = by f (told_same (waits entered) None f waits_kept h)
          where
            by : (f : NameFault) → Tells None f → Tells (broken.process sight label p) f
            by (At q at) h = absurd cc
            by NoMemory h = tt

        pub process_ends : (y : s.Statements) → steps.body entered p.statements ≡ Some y → Tells ended f → Tells (broken.process sight label p) f
        process_ends y g h =
            behind (told_right declares (does ▸ ended) f declares_kept
            (told_right does ended f (within ∙ both_kept (waits entered) statements_do waits_kept (process_body_kept entered p.statements y g)) h))

-- ---- waits

pub has_wait : (o : Option Wait) (b : Bool) → b ≡ is_some o → b ≡ is_some (tree.option_wait_view o)
has_wait None b h = h
has_wait (Some w) b h = h

pub wait_condition : (sight : Sight) (w : t.Wait) (f : NameFault) → Tells (expressions.condition sight w.condition) f → Tells (broken.awaited sight t.absent (Some w)) f
wait_condition sight w f h = told_left _ _ f h

pub wait_no_edge : (sight : Sight) (w : t.Wait) (f : NameFault) (x : Test) → condition sight w.condition ≡ Some x → waited_edge x ≡ None
    → Tells (refused NoSensitivity w.at) f → Tells (broken.awaited sight t.absent (Some w)) f
wait_no_edge sight w f x is none h =
    told_right _ _ f (condition_kept sight w.condition x is)
    (told_given (λ x. lacking NoSensitivity w.at (waited_edge x)) (condition sight w.condition) x f is
    (told_same (refused NoSensitivity w.at) (lacking NoSensitivity w.at (waited_edge x)) f (sym (ap (lacking NoSensitivity w.at) none)) h))

-- ---- concurrent statements

variables_within : (sight : Sight) (k : t.Scheme) → sight.variables ≡ [] → (sight_within sight k).variables ≡ []
variables_within sight (t.for_each n r) none = none
variables_within sight (t.if_holds e) none = none

pub within_is : (sight entered : Sight) (k : t.Scheme) → sight.variables ≡ [] → Some (sight_within sight k) ≡ Some entered → entered.variables ≡ []
within_is sight entered k none e =
    let same : sight_within sight k ≡ entered = cc in
    ap (λ (s : Sight). s.variables) (sym same) ∙ variables_within sight k none

region_within : (sight : Sight) (k : t.Scheme) → (sight_within sight k).region ≡ sight.region
region_within sight (t.for_each n r) = refl
region_within sight (t.if_holds e) = refl

-- a generate leaves the region as it is
pub counts_within : (counts : Counts) (sight entered : Sight) (k : t.Scheme) → AreCounts counts sight.region → Some (sight_within sight k) ≡ Some entered → AreCounts counts entered.region
counts_within counts sight entered k are e =
    let same : sight_within sight k ≡ entered = cc in
    subst (AreCounts counts) (sym (region_within sight k) ∙ ap (λ (s : Sight). s.region) same) are

module _ (es : List EntityView) (sight : Sight) where
  pub concurrents_any : (cs : List t.Concurrent) → any_of (broken.concurrent es sight) cs ≡ broken.concurrents es sight (t.concurrents_of cs)
  unfolding broken.concurrents
  concurrents_any [] = refl
  concurrents_any (x ∷ cs) = ap (λ b. broken.concurrent es sight x ▸ b) (concurrents_any cs)

  pub selected_is : (label : Option Ident) (a : t.SelectedAssignment) → broken.concurrent es sight (t.selected label a) ≡ broken.selected sight a
  unfolding broken.concurrent
  selected_is label a = refl

  pub process_is : (label : Option Ident) (p : t.Process) → broken.concurrent es sight (t.process label p) ≡ broken.process sight label p
  unfolding broken.concurrent
  process_is label p = refl

  pub generate_told : (g : Generate) → broken.concurrent es sight (tree.concurrent_view (c.Generate g))
      ≡ told.generate es sight (tree.ident_view (out-Generate g).label) (tree.scheme_view (out-Generate g).scheme) (tree.concurrents_view (out-Generate g).statements)
      (tree.option_ident_view (out-Generate g).end_label)
  unfolding broken.concurrent
  generate_told g = ap (broken.concurrent es sight) (generate_is g)

  module _ (f : Sight → Ident → t.Instance → Option u.Instance) (h : (sight : Sight) (label : Ident) (i : t.Instance) → instance es sight label i ≡ f sight label i)
      (outside : sight.variables ≡ []) where
    one_kept : (x : t.Concurrent) (y : Option u.Concurrent) → option_map Some (parts.concurrent f sight x) ≡ Some y → IsKept (broken.concurrent es sight x)
    one_kept x y k = let m = mapped Some (parts.concurrent f sight x) y k in concurrent_kept x es sight m.value outside (by_instance f es h sight x ∙ m.from)

    pub statement_kept : (x : t.Concurrent) (y : Option u.Concurrent) → parts.kept f sight x ≡ Some y → IsKept (broken.concurrent es sight x)
    unfolding broken.concurrent
    statement_kept (t.assertion a) y k = refl
    statement_kept x y k = one_kept x y k

    pub all_kept : (cs : List t.Concurrent) (ys : List u.Concurrent) → parts.all f sight cs ≡ Some ys → IsKept (broken.concurrents es sight (t.concurrents_of cs))
    all_kept cs ys k =
        concurrents_kept (t.concurrents_of cs) es sight (concurrents_of ys) outside (concurrents_by f es h sight cs ∙ ap (option_map concurrents_of) k)

    pub labelled_kept : (cs : List t.Concurrent) (ys : List u.Concurrent) → parts.labelled f sight cs ≡ Some ys → IsKept (told.labelled es sight cs)
    labelled_kept cs ys k =
        let d = kept (are_distinct (concurrent_labels (t.concurrents_of cs))) _ ys k in
        among_kept _ _ (labels_kept (t.concurrents_of cs) d.0) (all_kept cs ys d.1)

-- ---- generates

module _ (es : List EntityView) (sight : Sight) (label : Ident) (k : t.Scheme) (cs : List t.Concurrent) (end : Option Ident) (f : NameFault) where
  abbrev by : Broken
  by = broken.scheme sight k

  abbrev inside : Broken
  inside = told.labelled es (sight_within sight k) cs

  abbrev closed : Broken
  closed = end_name label end

  pub generate_by : Tells by f → Tells (told.generate es sight label k cs end) f
  generate_by h = told_left by (inside ▸ closed) f h

  module _ (y : u.Concurrent) (is : rules.generated sight [] 0 k u.no_concurrents ≡ Some y) (entered : Sight) (e : Some (sight_within sight k) ≡ Some entered) where
    same : told.labelled es entered cs ≡ inside
    same =
        let s : entered ≡ sight_within sight k = cc in
        ap (λ s. told.labelled es s cs) s

    past : Tells (inside ▸ closed) f → Tells (told.generate es sight label k cs end) f
    past h = told_right by (inside ▸ closed) f (scheme_kept sight [] 0 k u.no_concurrents y is) h

    pub generate_inside : Tells (told.labelled es entered cs) f → Tells (told.generate es sight label k cs end) f
    generate_inside h = past (told_left inside closed f (told_same (told.labelled es entered cs) inside f same h))

    pub generate_ends : IsKept (told.labelled es entered cs) → Tells closed f → Tells (told.generate es sight label k cs end) f
    generate_ends g h = past (told_right inside closed f (sym same ∙ g) h)
