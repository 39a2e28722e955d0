-- Assignments of a value alone and of values under conditions, in the order in which the code comes to their parts.
use Rattle.std.proofs.Common.{◌≡◌, ℕ, Bool, true, false, List, [], ◌∷◌, Option, Some, None, refl, ap, sym, ◌∙◌}
use Rattle.std.specs.Prelude.{if◌then◌else◌, not, option_map, is_none}
use Rattle.vhdl_tree.specs.Tree as t
use Rattle.vhdl_names_rules.specs.declared.kind.ObjectType.{ObjectType}
use Rattle.vhdl_names_rules.specs.units.Expressions as e
use Rattle.vhdl_names_rules.specs.units.Expressions.{Test}
use Rattle.vhdl_names_rules.specs.units.Statements as s
use Rattle.vhdl_names_rules.specs.Rules.{◌>>=◌, ◌>>◌, each, if_any}
use Rattle.vhdl_names_rules.specs.Visibility as visibility
use Rattle.vhdl_names_rules.specs.Visibility.{Name, Meaning, DeclaredRange, Sight, declaration}
use Rattle.vhdl_names_rules.specs.Names.{Suffix, AnyPart, any_part_of}
use Rattle.vhdl_names_rules.specs.Expressions.{Assigned, typed_suffix, condition, value_assigned}
use Rattle.vhdl_names_rules.specs.Statements as rules
use Rattle.vhdl_names_rules.specs.Statements.{Target, part_target, assigned_signal, assigned_variable, as_signal_target, as_variable_target, mode_of, is_input, signal_target, variable_target, target_by}
use Rattle.vhdl_names_rules.proofs.laws.Rules.{comes, kept, some_is}
use Rattle.vhdl_names_units.specs.views.Sequential.{Guarded, guarded_by, branches_of, last_of}
use Rattle.vhdl_names_statements.specs.steps.Sequential as steps

-- ---- where a target's name starts

part_at : (at : ℕ) (r : Option DeclaredRange) (assigned : AnyPart → s.Given → s.Statement) (o : Option (AnyPart × ObjectType)) (y : Target)
    → option_map (part_target at r assigned) o ≡ Some y → y.at ≡ at
part_at at r assigned None y h = absurd cc
part_at at r assigned (Some p) y h = ap (λ (y : Target). y.at) (sym (some_is (part_target at r assigned p) y h))

signal_by : (at : ℕ) (n : Name) (m : Meaning) (r : Option DeclaredRange) (g : Bool) (suffix : Suffix) (y : Target)
    → as_signal_target at (record { name = n; meaning = m; range = r; is_global = g }) suffix ≡ Some y → y.at ≡ at
signal_by at n (visibility.port k mode type) r g suffix y h = part_at at r (assigned_signal at (e.port k)) (any_part_of type suffix) y h
signal_by at n (visibility.signal k type) r g suffix y h = part_at at r (assigned_signal at (e.Signal.signal k)) (any_part_of type suffix) y h
signal_by at n _ r g suffix y h = absurd cc

variable_by : (at : ℕ) (n : Name) (m : Meaning) (r : Option DeclaredRange) (g : Bool) (suffix : Suffix) (y : Target)
    → as_variable_target at (record { name = n; meaning = m; range = r; is_global = g }) suffix ≡ Some y → y.at ≡ at
variable_by at n (visibility.variable k type) r g suffix y h = part_at at r (assigned_variable at k) (any_part_of type suffix) y h
variable_by at n _ r g suffix y h = absurd cc

signal_at : (sight : Sight) (n : t.Name) (y : Target) → signal_target sight n ≡ Some y → y.at ≡ n.identifier.at
unfolding signal_target
signal_at sight n y h =
    let k = kept (is_none n.attribute) _ y h in
    let z = comes (typed_suffix sight n.suffix) _ y k.1 in
    let d = comes (declaration sight n.identifier.text) _ y z.rest in
    let x = comes (as_signal_target n.identifier.at d.value z.value) _ y d.rest in
    let m = kept (not (is_input (mode_of d.value.meaning))) _ y x.rest in
    ap (λ (y : Target). y.at) (sym (some_is x.value y m.1))
    ∙ signal_by n.identifier.at d.value.name d.value.meaning d.value.range d.value.is_global z.value x.value x.is

variable_at : (sight : Sight) (n : t.Name) (y : Target) → variable_target sight n ≡ Some y → y.at ≡ n.identifier.at
unfolding variable_target
variable_at sight n y h =
    let k = kept (is_none n.attribute) _ y h in
    let z = comes (typed_suffix sight n.suffix) _ y k.1 in
    let d = comes (declaration sight n.identifier.text) _ y z.rest in
    variable_by n.identifier.at d.value.name d.value.meaning d.value.range d.value.is_global z.value y d.rest

starts_at : (sight : Sight) (b : Bool) (n : t.Name) (x : Target) → target_by sight b n ≡ Some x → x.at ≡ n.identifier.at
starts_at sight false n x h = signal_at sight n x h
starts_at sight true n x h = variable_at sight n x h

-- ---- a value alone

pub target_gives : (sight : Sight) (b : Bool) (n : t.Name) (v : t.Value) → (target_by sight b n >>= λ x. rules.assignment sight x v) ≡ steps.assigned sight b n v
target_gives sight b n v = go (target_by sight b n)
  where
    last : (x : Target) (o : Option Assigned) → option_map (rules.assigned_to x) o ≡ (o >>= λ g. Some (rules.assigned_to x g))
    last x None = refl
    last x (Some g) = refl

    go : (o : Option Target) → (o >>= λ x. rules.assignment sight x v) ≡ (o >>= λ x. value_assigned sight x.type x.range v >>= λ g. Some (rules.assigned_to x g))
    go None = refl
    go (Some x) = last x (value_assigned sight x.type x.range v)

-- ---- values under conditions

module _ (sight : Sight) (b : Bool) (n : t.Name) (x : Target) (found : target_by sight b n ≡ Some x) where
  pub assigned_by : (v : t.Value) → rules.assignment sight x v ≡ steps.assigned sight b n v
  assigned_by v = sym (ap (λ o. o >>= λ x. rules.assignment sight x v) found) ∙ target_gives sight b n v

  last_by : (o : Option t.Value) → rules.last_branch sight x o ≡ (if_any (steps.alone sight b n) o >>= λ last. Some (last_of last))
  last_by None = refl
  last_by (Some v) = ap (option_map (λ y. s.otherwise (rules.alone y))) (assigned_by v) ∙ go (steps.assigned sight b n v)
    where
      go : (o : Option s.Statement) → option_map (λ y. s.otherwise (rules.alone y)) o ≡ (((o >>= λ y. Some (y ∷ [])) >>= λ y. Some (Some y)) >>= λ last. Some (last_of last))
      go None = refl
      go (Some y) = refl

  branches_by : (bs : List t.Branch) (o : Option t.Value) → rules.branches sight x bs o
      ≡ (each (steps.waveform sight b n) bs >>= λ gs. if_any (steps.alone sight b n) o >>= λ last. Some (branches_of gs (last_of last)))
  branches_by [] o = last_by o
  branches_by (w ∷ bs) o =
      ap (λ m. m >>= λ y. condition sight w.condition >>= λ c. rules.branches sight x bs o >>= λ rest. Some (s.branch c (rules.alone y) rest)) (assigned_by w.value)
      ∙ go (steps.assigned sight b n w.value) (condition sight w.condition) (rules.branches sight x bs o) (each (steps.waveform sight b n) bs) (if_any (steps.alone sight b n) o) (branches_by bs o)
    where
      end : (y : s.Statement) (c : Test) (r : Option s.Branches) (f : Option (List Guarded)) (l : Option (Option (List s.Statement)))
          → r ≡ (f >>= λ gs. l >>= λ last. Some (branches_of gs (last_of last)))
          → (r >>= λ rest. Some (s.branch c (rules.alone y) rest)) ≡ ((f >>= λ gs. Some (guarded_by c (y ∷ []) ∷ gs)) >>= λ gs. l >>= λ last. Some (branches_of gs (last_of last)))
      end y c r None l h = ap (λ r. r >>= λ rest. Some (s.branch c (rules.alone y) rest)) h
      end y c r (Some gs) None h = ap (λ r. r >>= λ rest. Some (s.branch c (rules.alone y) rest)) h
      end y c r (Some gs) (Some last) h = ap (λ r. r >>= λ rest. Some (s.branch c (rules.alone y) rest)) h

      go : (a : Option s.Statement) (k : Option Test) (r : Option s.Branches) (f : Option (List Guarded)) (l : Option (Option (List s.Statement)))
          → r ≡ (f >>= λ gs. l >>= λ last. Some (branches_of gs (last_of last)))
          → (a >>= λ y. k >>= λ c. r >>= λ rest. Some (s.branch c (rules.alone y) rest))
          ≡ ((((a >>= λ y. Some (y ∷ [])) >>= λ xs. k >>= λ c. Some (guarded_by c xs)) >>= λ g. f >>= λ gs. Some (g ∷ gs)) >>= λ gs. l >>= λ last. Some (branches_of gs (last_of last)))
      go None k r f l h = refl
      go (Some y) None r f l h = refl
      go (Some y) (Some c) r f l h = end y c r f l h

  chosen_by_all : (bs : List t.Branch) (o : Option t.Value) → option_map (s.if_of x.at) (rules.branches sight x bs o) ≡ steps.branched sight b n bs o
  chosen_by_all bs o =
      ap (λ at. option_map (s.if_of at) (rules.branches sight x bs o)) (starts_at sight b n x found)
      ∙ ap (option_map (s.if_of n.identifier.at)) (branches_by bs o) ∙ go (each (steps.waveform sight b n) bs) (if_any (steps.alone sight b n) o)
    where
      go : (f : Option (List Guarded)) (l : Option (Option (List s.Statement))) → option_map (s.if_of n.identifier.at) (f >>= λ gs. l >>= λ last. Some (branches_of gs (last_of last)))
          ≡ (f >>= λ gs. l >>= λ last. Some (s.if_of n.identifier.at (branches_of gs (last_of last))))
      go None l = refl
      go (Some gs) None = refl
      go (Some gs) (Some last) = refl

  -- the target is told once
  once : (o : Option s.Statement) → (steps.is_target sight b n >> o) ≡ o
  once o = ap (λ (p : Option Target). option_map (λ x. tt) p >> o) found

  conditional_by : (bs : List t.Branch) (o : Option t.Value) → rules.conditional sight x bs o ≡ steps.conditionally sight b n bs o
  conditional_by [] (Some v) = assigned_by v
  conditional_by [] None = chosen_by_all [] None ∙ sym (once (steps.branched sight b n [] None))
  conditional_by (w ∷ bs) o = chosen_by_all (w ∷ bs) o ∙ sym (once (steps.branched sight b n (w ∷ bs) o))

no_target : (sight : Sight) (b : Bool) (n : t.Name) (bs : List t.Branch) (o : Option t.Value) → target_by sight b n ≡ None → None ≡ steps.conditionally sight b n bs o
no_target sight b n [] (Some v) h = sym (sym (target_gives sight b n v) ∙ ap (λ o. o >>= λ x. rules.assignment sight x v) h)
no_target sight b n [] None h = sym (ap (λ (p : Option Target). option_map (λ x. tt) p >> steps.branched sight b n [] None) h)
no_target sight b n (w ∷ bs) o h = sym (ap (λ (p : Option Target). option_map (λ x. tt) p >> steps.branched sight b n (w ∷ bs) o) h)

pub conditional_gives : (sight : Sight) (b : Bool) (n : t.Name) (bs : List t.Branch) (o : Option t.Value) →
    (target_by sight b n >>= λ x. rules.conditional sight x bs o) ≡ steps.conditionally sight b n bs o
conditional_gives sight b n bs o = go (target_by sight b n) refl
  where
    go : (p : Option Target) → target_by sight b n ≡ p → (p >>= λ x. rules.conditional sight x bs o) ≡ steps.conditionally sight b n bs o
    go None h = no_target sight b n bs o h
    go (Some x) h = conditional_by sight b n x h bs o

abbrev pub is_there : Option Target → Option (Unit {0})
is_there p = option_map (λ x. tt) p

-- a target that isn't there
pub refused_target : (sight : Sight) (b : Bool) (n : t.Name) (bs : List t.Branch) (o : Option t.Value) → steps.is_target sight b n ≡ None → steps.conditionally sight b n bs o ≡ None
refused_target sight b n bs o h = sym (no_target sight b n bs o (go (target_by sight b n) h))
  where
    go : (p : Option Target) → is_there p ≡ None → p ≡ None
    go None h = refl
    go (Some x) h = absurd cc

-- a target that is there
pub target_there : (sight : Sight) (b : Bool) (n : t.Name) (u : Unit {0}) → steps.is_target sight b n ≡ Some u → (x : Target) × (target_by sight b n ≡ Some x)
target_there sight b n u h = go (target_by sight b n) h
  where
    go : (p : Option Target) → is_there p ≡ Some u → (x : Target) × (p ≡ Some x)
    go None h = absurd cc
    go (Some x) h = (x, refl)

-- ---- as statements

pub assigned_gives : (sight : Sight) (label : Option t.Ident) (b : Bool) (n : t.Name) (v : t.Value) →
    rules.statement sight label (if b then t.variable_assigned n v else t.assigned n v) ≡ steps.assigned sight b n v
unfolding rules.statement
assigned_gives sight label false n v = target_gives sight false n v
assigned_gives sight label true n v = target_gives sight true n v

pub when_gives : (sight : Sight) (label : Option t.Ident) (b : Bool) (n : t.Name) (bs : List t.Branch) (o : Option t.Value) →
    rules.statement sight label (t.assigned_when b n bs o) ≡ steps.conditionally sight b n bs o
unfolding rules.statement
when_gives sight label b n bs o = conditional_gives sight b n bs o
