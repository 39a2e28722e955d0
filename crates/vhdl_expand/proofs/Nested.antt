-- Instances in an instance, and the top.
use Rattle.std.proofs.Common.{◌≡◌, ℕ, suc, ◌+◌, Bool, true, false, List, [], ◌++◌, ◌∷◌, Option, Some, None, Vec, Global, Ok, Err, refl, sym, ap, ◌∙◌, arith}
use Rattle.std.specs.Prelude.{slice_get, Contains}
use Rattle.vhdl_names_rules.specs.units.Units as u
use Rattle.vhdl_names_rules.specs.units.Units.{Units, Entity, Architecture}
use Rattle.vhdl_expand_rules.specs.declared.fault.ElabProblem.TheVariants.{NoTop, TooDeep, TooMany}
use Rattle.vhdl_expand_rules.specs.Elab.{Elab, ◌>>=◌, ◌>>◌, unless, item_or, MayTell, Told}
use Rattle.vhdl_expand_rules.specs.Tree as t
use Rattle.vhdl_expand_rules.specs.Tree.{Parts, no_parts, followed_by, Object, Process, Instance, instance}
use Rattle.vhdl_expand_rules.specs.Declarations.{InstanceObjects, declarations, interface, associations}
use Rattle.vhdl_expand_rules.specs.Expansion as definition
use Rattle.vhdl_expand_rules.specs.Expansion.{Spot, Design, instance_of, expanded_design, entity_named}
use Rattle.vhdl_expand_rules.specs.Tops.{Top, top_interface}
use Rattle.vhdl_expand_rules.proofs.Steps.{given}
use Rattle.vhdl_expand_rules.proofs.Chains.{err_first}
use Rattle.vhdl_elab_rules.specs.Limits.{Counts, is_within, limits}
use Rattle.vhdl_elab_rules.specs.Numbering.{own_sizes}
use Rattle.vhdl_expand_tree.specs.declared.tree.Process as code
use Rattle.vhdl_expand_tree.specs.declared.tree.Instance as code_instance
use Rattle.vhdl_expand_tree.specs.declared.tree.InstancePart.{InstancePart}
use Rattle.vhdl_expand_tree.specs.declared.tree.InstancePart.TheVariants as p
use Rattle.vhdl_expand_tree.specs.Views.{process_view, instance_view, parts_of}
use Rattle.vhdl_expand_tree.proofs.Parts.{view_instance, parts_push}
use Rattle.vhdl_expand_tree.specs.Costs.{no_costs, an_instance, nets, turns, plus, less, spent, charged, process_costs, instance_costs, parts_costs}
use Rattle.vhdl_expand_tree.proofs.Alike.{Alike, alike_same, alike_after, alike_trans, alike_then, tells, tells_spent, tells_same, tells_first, tells_next}
use Rattle.vhdl_expand_tree.proofs.Charging.{each_number, left_with, charged_made, spent_told}
use Rattle.vhdl_expand.specs.Limits.{within_limits}
use Rattle.vhdl_expand.specs.Making as made
use Rattle.vhdl_expand.specs.Making.{Made, Progress, and_then, made_costs, made_process, made_instance, adding, together, nothing_yet}
use Rattle.vhdl_expand_declarations.specs.Associations.{associated}
use Rattle.vhdl_expand.proofs.Making.{progress, one_added, charged_first, first_added}

-- ---- what an instance costs

nothing-apart : (c : ℕ) → 0 + c ≡ 0 + (0 + (0 + c))
nothing-apart c = omega arith

one-apart : (c : ℕ) → 1 + c ≡ 1 + (0 + (0 + c))
one-apart c = omega arith

nets-apart : (k c : ℕ) → k + c ≡ 0 + (k + (0 + c))
nets-apart k c = omega arith

turns-apart : (n c : ℕ) → n + c ≡ 0 + (0 + (n + c))
turns-apart n c = omega arith

abbrev made_of : List Object → Made → Instance
made_of os m = instance os m.turns m.parts

abbrev rest_costs : List Object → Made → Counts
rest_costs os m = plus (nets (own_sizes os)) (made_costs m)

instance-apart : (os : List Object) (m : Made) → instance_costs (made_of os m) ≡ plus an_instance (rest_costs os m)
instance-apart os m =
    let c = parts_costs m.parts in
    λ i. record {
      processes = nothing-apart c.processes i;
      instances = one-apart c.instances i;
      nets = nets-apart (own_sizes os) c.nets i;
      turns = turns-apart m.turns c.turns i;
      statements = nothing-apart c.statements i;
      variable_elements = nothing-apart c.variable_elements i;
    }

-- ---- the body of an instance

abbrev pub outermost : InstanceObjects → Spot
outermost d = record { site = d.site; prefix = [] }

-- its architecture and declarations are there
instance-is : (units : Units) (n at : ℕ) (unit : Entity) (d e : InstanceObjects) (a : Architecture) → unit.architecture ≡ Some a → declarations d a.declarations ≡ Ok e
    → instance_of units (suc n) at unit d ≡ (made.concurrents units n (outermost e) a.statements >>= λ m. given (made_of e.objects m))
unfolding instance_of
instance-is units n at unit d e a h k =
    ap (λ (o : Option Architecture). item_or NoTop at o >>= λ a. declarations d a.declarations >>= λ e. body a e) h
    ∙ ap (λ (r : Elab InstanceObjects). r >>= λ e. body a e) k
    ∙ go (definition.concurrents units (instance_of units n) (outermost e) a.statements) (definition.concurrents_turns (outermost e) a.statements)
  where
    body : Architecture → InstanceObjects → Elab Instance
    body a e =
        definition.concurrents units (instance_of units n) (outermost e) a.statements >>= λ parts.
        definition.concurrents_turns (outermost e) a.statements >>= λ turned. given (t.instance e.objects turned parts)

    go : (p : Elab Parts) (m : Elab ℕ) → (p >>= λ parts. m >>= λ turned. given (t.instance e.objects turned parts)) ≡ (together p m >>= λ m. given (made_of e.objects m))
    go (Ok ps) (Ok m) = refl
    go (Ok ps) (Err told) = refl
    go (Err told) m = refl

-- an instance, then its nets, then what stands in it
in-steps : (at : ℕ) (n : Counts) (os : List Object) (r : Elab Made)
    → Alike (charged n instance_costs (r >>= λ m. given (made_of os m)))
    (spent at n an_instance >>= λ first. spent 0 first (nets (own_sizes os)) >>= λ rest. adding (nothing_yet rest) r >>= λ p. left_with (made_of os p.made) p.left)
in-steps at n os r =
    alike_after (charged_made (λ m. plus an_instance (rest_costs os m)) instance_costs (made_of os) (instance-apart os) n r)
    (alike_trans (alike_then _ _ _ _ (charged_first at an_instance (rest_costs os) (λ m. plus an_instance (rest_costs os m)) (λ m. refl) n r) (λ a. alike_same refl))
    (first (spent at n an_instance)))
  where
    last : (t : Elab (Made × Counts)) → (t >>= λ a. left_with (made_of os a.0) a.1) ≡ ((t >>= λ a. given (progress a.0 a.1)) >>= λ p. left_with (made_of os p.made) p.left)
    last (Ok a) = refl
    last (Err told) = refl

    second : (t : Elab Counts)
        → ((t >>= λ rest. charged rest made_costs r) >>= λ a. left_with (made_of os a.0) a.1)
        ≡ (t >>= λ rest. adding (nothing_yet rest) r >>= λ p. left_with (made_of os p.made) p.left)
    second (Ok rest) = last (charged rest made_costs r) ∙ ap (λ (q : Elab Progress). q >>= λ p. left_with (made_of os p.made) p.left) (sym (first_added rest r))
    second (Err told) = refl

    first : (t : Elab Counts)
        → Alike ((t >>= λ left. charged left (rest_costs os) r) >>= λ a. left_with (made_of os a.0) a.1)
        (t >>= λ first. spent 0 first (nets (own_sizes os)) >>= λ rest. adding (nothing_yet rest) r >>= λ p. left_with (made_of os p.made) p.left)
    first (Ok left) =
        alike_trans (alike_then _ _ _ _ (charged_first 0 (nets (own_sizes os)) made_costs (rest_costs os) (λ m. refl) left r) (λ a. alike_same refl))
        (alike_same (second (spent 0 left (nets (own_sizes os)))))
    first (Err told) = alike_same refl

module _ (units : Units) (n at : ℕ) (unit : Entity) (d : InstanceObjects) (before : Counts) where
  abbrev whole : Elab (Instance × Counts)
  whole = charged before instance_costs (instance_of units (suc n) at unit d)

  pub no_architecture : unit.architecture ≡ None → whole ≡ Err (NoTop, at)
  unfolding instance_of
  no_architecture h = err_first (instance_of units (suc n) at unit d) _ (ap (λ (o : Option Architecture). item_or NoTop at o >>= λ a. declarations d a.declarations >>= λ e. rest a e) h)
    where
      rest : Architecture → InstanceObjects → Elab Instance
      rest a e =
          definition.concurrents units (instance_of units n) (outermost e) a.statements >>= λ parts.
          definition.concurrents_turns (outermost e) a.statements >>= λ turned. given (t.instance e.objects turned parts)

  pub no_declarations : {told : Told} → (a : Architecture) → unit.architecture ≡ Some a → declarations d a.declarations ≡ Err told → whole ≡ Err told
  unfolding instance_of
  no_declarations a h k =
      err_first (instance_of units (suc n) at unit d) _
      (ap (λ (o : Option Architecture). item_or NoTop at o >>= λ a. declarations d a.declarations >>= λ e. rest a e) h ∙ err_first (declarations d a.declarations) (λ e. rest a e) k)
    where
      rest : Architecture → InstanceObjects → Elab Instance
      rest a e =
          definition.concurrents units (instance_of units n) (outermost e) a.statements >>= λ parts.
          definition.concurrents_turns (outermost e) a.statements >>= λ turned. given (t.instance e.objects turned parts)

  -- where no instance is left, each is refused
  pub no_instance_left : {bytes : List ℕ} {told : Told} → spent at before an_instance ≡ Err told → Contains bytes told.1 → MayTell bytes whole told
  no_instance_left {bytes} {told} h there = go (instance_of units (suc n) at unit d)
    where
      go : (r : Elab Instance) → MayTell bytes (charged before instance_costs r) told
      go (Ok (instance os m ps)) =
          (in-steps at before os (Ok (record { parts = ps; turns = m }))).stops _ _ (tells_first (spent at before an_instance) _ (tells (λ _. there) h))
      go (Err other) = tells_spent (spent_told at before an_instance told h) there refl

  module _ (a : Architecture) (e : InstanceObjects) (there : unit.architecture ≡ Some a) (known : declarations d a.declarations ≡ Ok e) where
    abbrev inside : Elab Made
    inside = made.concurrents units n (outermost e) a.statements

    stepwise : Alike whole (spent at before an_instance >>= λ first. spent 0 first (nets (own_sizes e.objects)) >>= λ rest. adding (nothing_yet rest) inside >>= λ p. left_with (made_of e.objects p.made) p.left)
    stepwise = alike_after (ap (charged before instance_costs) (instance-is units n at unit d e a there known)) (in-steps at before e.objects inside)

    pub no_nets_left : {bytes : List ℕ} {told : Told} → (first : Counts) → spent at before an_instance ≡ Ok first → MayTell bytes (spent 0 first (nets (own_sizes e.objects))) told → MayTell bytes whole told
    no_nets_left first h k =
        stepwise.stops _ _ (tells_next (spent at before an_instance) _ first h (tells_first (spent 0 first (nets (own_sizes e.objects))) _ k))

    reached : (first rest : Counts) → spent at before an_instance ≡ Ok first → spent 0 first (nets (own_sizes e.objects)) ≡ Ok rest
        → (spent at before an_instance >>= λ first. spent 0 first (nets (own_sizes e.objects)) >>= λ rest. adding (nothing_yet rest) inside >>= λ p. left_with (made_of e.objects p.made) p.left)
        ≡ (adding (nothing_yet rest) inside >>= λ p. left_with (made_of e.objects p.made) p.left)
    reached first rest h k =
        ap (λ (r : Elab Counts). r >>= λ first. spent 0 first (nets (own_sizes e.objects)) >>= λ rest. adding (nothing_yet rest) inside >>= λ p. left_with (made_of e.objects p.made) p.left) h
        ∙ ap (λ (r : Elab Counts). r >>= λ rest. adding (nothing_yet rest) inside >>= λ p. left_with (made_of e.objects p.made) p.left) k

    pub not_inside : {bytes : List ℕ} {told : Told} → (first rest : Counts) → spent at before an_instance ≡ Ok first → spent 0 first (nets (own_sizes e.objects)) ≡ Ok rest
        → MayTell bytes (adding (nothing_yet rest) inside) told → MayTell bytes whole told
    not_inside first rest h k j = stepwise.stops _ _ (tells_same (reached first rest h k) (tells_first (adding (nothing_yet rest) inside) _ j))

    pub instance_made : (first rest : Counts) (p : Progress) → spent at before an_instance ≡ Ok first → spent 0 first (nets (own_sizes e.objects)) ≡ Ok rest
        → adding (nothing_yet rest) inside ≡ Ok p → whole ≡ Ok (made_of e.objects p.made, p.left)
    instance_made first rest p h k j = stepwise.gives _ (reached first rest h k ∙ ap (λ (r : Elab Progress). r >>= λ p. left_with (made_of e.objects p.made) p.left) j)

pub too_deep : (units : Units) (at : ℕ) (unit : Entity) (d : InstanceObjects) (before : Counts) → charged before instance_costs (instance_of units 0 at unit d) ≡ Err (TooDeep, at)
unfolding instance_of
too_deep units at unit d before = refl

-- ---- processes and instances behind what is made so far

none-more : (n : ℕ) → 0 + (n + 0) ≡ n
none-more n = omega arith

no-more : (n : ℕ) → n + 0 ≡ n
no-more n = omega arith

alone : (c : Counts) → plus (turns 0) (plus c no_costs) ≡ c
alone c = each_number (λ k l m. 0 + (m + 0)) (λ k l m. m) (λ k l m. none-more m) c c c

pub process_added : (p : Progress) (r : Elab Process)
    → adding p (r >>= λ q. given (made_process q)) ≡ (charged p.left process_costs r >>= λ a. given (progress (and_then p.made (made_process a.0)) a.1))
process_added p r = one_added process_costs made_process (λ q. alone (process_costs q)) p r

pub instance_added : (label : List ℕ) (p : Progress) (r : Elab Instance)
    → adding p (r >>= λ i. given (made_instance label i)) ≡ (charged p.left instance_costs r >>= λ a. given (progress (and_then p.made (made_instance label a.0)) a.1))
instance_added label p r = one_added instance_costs (made_instance label) (λ i. alone (instance_costs i)) p r

-- as the code puts them there
pub process_behind : (xs ys : List InstancePart) (x : code.Process) (n : ℕ) (before left : Counts) (r : Elab Process) → charged before process_costs r ≡ Ok (process_view x, left)
    → ys ≡ xs ++ p.Process x ∷ []
    → adding (progress (record { parts = parts_of xs; turns = n }) before) (r >>= λ q. given (made_process q)) ≡ Ok (progress (record { parts = parts_of ys; turns = n }) left)
process_behind xs ys x n before left r h pushed =
    process_added (progress (record { parts = parts_of xs; turns = n }) before) r
    ∙ ap (λ (t : Elab (Process × Counts)). t >>= λ a. given (progress (and_then (record { parts = parts_of xs; turns = n }) (made_process a.0)) a.1)) h
    ∙ (λ i. given (progress (record { parts = sym (parts_push xs ys (p.Process x) pushed) i; turns = no-more n i }) left))

pub process_refused : {bytes : List ℕ} {told : Told} → (p : Progress) (r : Elab Process) → MayTell bytes (charged p.left process_costs r) told → MayTell bytes (adding p (r >>= λ q. given (made_process q))) told
process_refused p r h = tells_same (process_added p r) (tells_first (charged p.left process_costs r) _ h)

pub instance_behind : (xs ys : List InstancePart) (label : Vec ℕ Global) (x : code_instance.Instance) (n : ℕ) (before left : Counts) (r s : Elab Instance) → r ≡ s
    → charged before instance_costs s ≡ Ok (instance_view x, left) → ys ≡ xs ++ p.Instance label x ∷ []
    → adding (progress (record { parts = parts_of xs; turns = n }) before) (r >>= λ i. given (made_instance label.items i)) ≡ Ok (progress (record { parts = parts_of ys; turns = n }) left)
instance_behind xs ys label x n before left r s e h pushed =
    instance_added label.items (progress (record { parts = parts_of xs; turns = n }) before) r
    ∙ ap (λ (t : Elab (Instance × Counts)). t >>= λ a. given (progress (and_then (record { parts = parts_of xs; turns = n }) (made_instance label.items a.0)) a.1)) (ap (charged before instance_costs) e ∙ h)
    ∙ (λ i. given (progress (record { parts = (ap (followed_by (parts_of xs)) (sym (view_instance no_parts label x.objects x.turns x.parts)) ∙ sym (parts_push xs ys (p.Instance label x) pushed)) i; turns = no-more n i }) left))

pub instance_refused : {bytes : List ℕ} {told : Told} → (label : List ℕ) (p : Progress) (r : Elab Instance) → MayTell bytes (charged p.left instance_costs r) told
    → MayTell bytes (adding p (r >>= λ i. given (made_instance label i))) told
instance_refused label p r h = tells_same (instance_added label p r) (tells_first (charged p.left instance_costs r) _ h)

pub not_expanded : {told : Told} → (label : List ℕ) (p : Progress) (r : Elab Instance) → r ≡ Err told → adding p (r >>= λ i. given (made_instance label i)) ≡ Err told
not_expanded label p r h = ap (λ (q : Elab Instance). adding p (q >>= λ i. given (made_instance label i))) h

module _ (units : Units) (n : ℕ) (at : Spot) (x : u.Instance) where
  abbrev pub expanded_here : Elab Instance
  expanded_here = definition.instance units (instance_of units n) at x

  pub no_unit : slice_get units x.unit ≡ None → expanded_here ≡ Err (NoTop, x.at)
  unfolding definition.instance
  no_unit h = ap (λ (o : Option Entity). item_or NoTop x.at o >>= λ unit. interface at.site x.generics unit >>= λ d. associations at.site x.at unit.ports x.ports d.objects >>= λ os. instance_of units n x.at unit (record d { objects = os })) h

  pub no_interface : {told : Told} → (unit : Entity) → slice_get units x.unit ≡ Some unit → interface at.site x.generics unit ≡ Err told → expanded_here ≡ Err told
  unfolding definition.instance
  no_interface unit h k =
      ap (λ (o : Option Entity). item_or NoTop x.at o >>= λ unit. interface at.site x.generics unit >>= λ d. associations at.site x.at unit.ports x.ports d.objects >>= λ os. instance_of units n x.at unit (record d { objects = os })) h
      ∙ err_first (interface at.site x.generics unit) _ k

  with-interface : (unit : Entity) (d : InstanceObjects) → slice_get units x.unit ≡ Some unit → interface at.site x.generics unit ≡ Ok d
      → expanded_here ≡ (associated at.site x.at unit.ports x.ports d >>= λ e. instance_of units n x.at unit e)
  unfolding definition.instance
  with-interface unit d h k =
      ap (λ (o : Option Entity). item_or NoTop x.at o >>= λ unit. interface at.site x.generics unit >>= λ d. associations at.site x.at unit.ports x.ports d.objects >>= λ os. instance_of units n x.at unit (record d { objects = os })) h
      ∙ ap (λ (r : Elab InstanceObjects). r >>= λ d. associations at.site x.at unit.ports x.ports d.objects >>= λ os. instance_of units n x.at unit (record d { objects = os })) k
      ∙ go (associations at.site x.at unit.ports x.ports d.objects)
    where
      go : (r : Elab (List Object)) → (r >>= λ os. instance_of units n x.at unit (record d { objects = os })) ≡ ((r >>= λ os. given (record d { objects = os })) >>= λ e. instance_of units n x.at unit e)
      go (Ok os) = refl
      go (Err told) = refl

  pub no_associations : {told : Told} → (unit : Entity) (d : InstanceObjects) → slice_get units x.unit ≡ Some unit → interface at.site x.generics unit ≡ Ok d
      → associated at.site x.at unit.ports x.ports d ≡ Err told → expanded_here ≡ Err told
  no_associations unit d h k j = with-interface unit d h k ∙ err_first (associated at.site x.at unit.ports x.ports d) _ j

  pub instance_here : (unit : Entity) (d e : InstanceObjects) → slice_get units x.unit ≡ Some unit → interface at.site x.generics unit ≡ Ok d
      → associated at.site x.at unit.ports x.ports d ≡ Ok e → expanded_here ≡ instance_of units n x.at unit e
  instance_here unit d e h k j = with-interface unit d h k ∙ ap (λ (r : Elab InstanceObjects). r >>= λ e. instance_of units n x.at unit e) j

-- ---- the top

abbrev designed : List ℕ → Elab Instance → Elab Design
designed name r = r >>= λ i. given (record { name = name; top = i })

module _ (units : Units) (top : Top) where
  pub no_top : entity_named units top.name ≡ None → within_limits (expanded_design units top) ≡ Err (NoTop, 0)
  unfolding expanded_design
  no_top h = ap (λ (o : Option Entity). within_limits (item_or NoTop 0 o >>= λ unit. top_interface top unit >>= λ d. designed unit.name (instance_of units 32 unit.at unit d))) h

  pub no_top_interface : {told : Told} → (unit : Entity) → entity_named units top.name ≡ Some unit → top_interface top unit ≡ Err told → within_limits (expanded_design units top) ≡ Err told
  unfolding expanded_design
  no_top_interface unit h k =
      ap (λ (o : Option Entity). within_limits (item_or NoTop 0 o >>= λ unit. top_interface top unit >>= λ d. designed unit.name (instance_of units 32 unit.at unit d))) h
      ∙ err_first (top_interface top unit >>= λ d. designed unit.name (instance_of units 32 unit.at unit d)) _ (err_first (top_interface top unit) _ k)

  module _ (unit : Entity) (d : InstanceObjects) (named : entity_named units top.name ≡ Some unit) (known : top_interface top unit ≡ Ok d) where
    from-top : expanded_design units top ≡ designed unit.name (instance_of units 32 unit.at unit d)
    unfolding expanded_design
    from-top =
        ap (λ (o : Option Entity). item_or NoTop 0 o >>= λ unit. top_interface top unit >>= λ d. designed unit.name (instance_of units 32 unit.at unit d)) named
        ∙ ap (λ (r : Elab InstanceObjects). r >>= λ d. designed unit.name (instance_of units 32 unit.at unit d)) known

    limited : (r : Elab Instance) → within_limits (designed unit.name r) ≡ designed unit.name (charged limits instance_costs r >>= λ a. given a.0)
    limited (Ok i) = go (is_within (instance_costs i) limits)
      where
        go : (w : Bool) → (unless TooMany 0 w >> given (record { name = unit.name; top = i }))
            ≡ designed unit.name (((unless TooMany 0 w >> given (less limits (instance_costs i))) >>= λ s. left_with i s) >>= λ a. given a.0)
        go true = refl
        go false = refl
    limited (Err told) = refl

    pub no_instance : {bytes : List ℕ} {told : Told} → MayTell bytes (charged limits instance_costs (instance_of units 32 unit.at unit d)) told → MayTell bytes (within_limits (expanded_design units top)) told
    no_instance h =
        tells_same (ap within_limits from-top ∙ limited (instance_of units 32 unit.at unit d))
        (tells_first (charged limits instance_costs (instance_of units 32 unit.at unit d) >>= λ a. given a.0) _ (tells_first (charged limits instance_costs (instance_of units 32 unit.at unit d)) _ h))

    pub design_made : (i : Instance) (left : Counts) → charged limits instance_costs (instance_of units 32 unit.at unit d) ≡ Ok (i, left)
        → within_limits (expanded_design units top) ≡ Ok (record { name = unit.name; top = i })
    design_made i left h =
        ap within_limits from-top ∙ limited (instance_of units 32 unit.at unit d)
        ∙ ap (λ (r : Elab (Instance × Counts)). designed unit.name (r >>= λ a. given a.0)) h
