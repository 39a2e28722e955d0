-- What is told of the parts of assignments is told of the whole.
use Rattle.std.proofs.Common.{◌≡◌, Bool, true, false, List, [], ◌∷◌, Option, Some, None, refl, ap, sym, ◌∙◌}
use Rattle.vhdl_tree.specs.Tree as t
use Rattle.vhdl_names_rules.specs.declared.kind.ObjectType.{ObjectType}
use Rattle.vhdl_names_rules.specs.declared.fault.NameFault.{NameFault}
use Rattle.vhdl_names_rules.specs.units.Statements as s
use Rattle.vhdl_names_rules.specs.Rules.{each}
use Rattle.vhdl_names_rules.specs.Visibility.{Sight}
use Rattle.vhdl_names_rules.specs.Expressions as are
use Rattle.vhdl_names_rules.specs.Choices as chosen
use Rattle.vhdl_names_rules.specs.Statements.{Target, target_by, assignment}
use Rattle.vhdl_names_rules.proofs.laws.Rules.{comes}
use Rattle.vhdl_names_rules.specs.problems.Broken.{Tells, nothing, ◌▸◌, any_of, of_any}
use Rattle.vhdl_names_rules.specs.problems.Expressions.{condition}
use Rattle.vhdl_names_rules.specs.problems.Statements as broken
use Rattle.vhdl_names_rules.specs.problems.Concurrent.{waveform}
use Rattle.vhdl_names_rules.proofs.Telling.{IsKept, both_kept, behind_kept, told_same, told_right}
use Rattle.vhdl_names_rules.proofs.kept.Keeping.{each_kept, nothing_kept}
use Rattle.vhdl_names_rules.proofs.kept.Statements.{assigned_kept, variable_assigned_kept, target_by_kept}
use Rattle.vhdl_names_rules.proofs.kept.Expressions.{condition_kept}
use Rattle.vhdl_names_rules.proofs.kept.Choices.{choices_kept}
use Rattle.vhdl_names_units.specs.views.Sequential.{Guarded, Chosen}
use Rattle.vhdl_names_statements.specs.steps.Concurrent as concurrent
use Rattle.vhdl_names_statements.specs.steps.Sequential as steps
use Rattle.vhdl_names_statements.specs.steps.Told as told
use Rattle.vhdl_names_statements.proofs.steps.Conditional.{target_gives}

-- ---- a value

pub by_parts : (sight : Sight) (b : Bool) (n : t.Name) (v : t.Value) → told.assigned sight b n v ≡ (broken.target_by sight b n ▸ broken.given sight (target_by sight b n) v)
by_parts sight false n v = refl
by_parts sight true n v = refl

module _ (sight : Sight) (b : Bool) (n : t.Name) where
  by_target : (b : Bool) (v : t.Value) (x : Target) (y : s.Statement) → target_by sight b n ≡ Some x → assignment sight x v ≡ Some y → IsKept (told.assigned sight b n v)
  by_target false v x y h k = assigned_kept sight n v x y h k
  by_target true v x y h k = variable_assigned_kept sight n v x y h k

  pub one_kept : (v : t.Value) (y : s.Statement) → steps.assigned sight b n v ≡ Some y → IsKept (told.assigned sight b n v)
  one_kept v y h = let x = comes (target_by sight b n) (λ x. assignment sight x v) y (target_gives sight b n v ∙ h) in by_target b v x.value y x.is x.rest

  pub alone_kept : (v : t.Value) (ys : List s.Statement) → steps.alone sight b n v ≡ Some ys → IsKept (told.assigned sight b n v)
  alone_kept v ys h = let y = comes (steps.assigned sight b n v) _ ys h in one_kept v y.value y.is

  -- ---- values with conditions

  pub branch_kept : (w : t.Branch) (y : Guarded) → steps.waveform sight b n w ≡ Some y → IsKept (told.waveform sight b n w)
  branch_kept w y h =
      let xs = comes (steps.alone sight b n w.value) _ y h in
      let c = comes (are.condition sight w.condition) _ y xs.rest in
      both_kept _ _ (alone_kept w.value xs.value xs.is) (condition_kept sight w.condition c.value c.is)

  pub branches_kept : (bs : List t.Branch) (ys : List Guarded) → each (steps.waveform sight b n) bs ≡ Some ys → IsKept (any_of (told.waveform sight b n) bs)
  branches_kept bs ys h = each_kept (told.waveform sight b n) (steps.waveform sight b n) branch_kept bs ys h

  -- a target that is given breaks nothing once more
  module _ (x : Target) (found : target_by sight b n ≡ Some x) where
    given_once : (v : t.Value) → told.assigned sight b n v ≡ broken.given sight (target_by sight b n) v
    given_once v = by_parts sight b n v ∙ behind_kept (broken.target_by sight b n) (broken.given sight (target_by sight b n) v) (target_by_kept sight b n x found)

    branch_once : (w : t.Branch) → told.waveform sight b n w ≡ broken.branch sight (target_by sight b n) w
    branch_once w = ap (λ a. a ▸ condition sight w.condition) (given_once w.value)

    branches_once : (bs : List t.Branch) → any_of (told.waveform sight b n) bs ≡ any_of (broken.branch sight (target_by sight b n)) bs
    branches_once [] = refl
    branches_once (w ∷ bs) = ap (λ a. a ▸ any_of (told.waveform sight b n) bs) (branch_once w) ∙ ap (λ a. broken.branch sight (target_by sight b n) w ▸ a) (branches_once bs)

    otherwise_once : (o : Option t.Value) → of_any (told.assigned sight b n) o ≡ of_any (broken.given sight (target_by sight b n)) o
    otherwise_once None = refl
    otherwise_once (Some v) = given_once v

    -- what is broken behind it is broken by the whole
    pub told_behind : (bs : List t.Branch) (o : Option t.Value) (f : NameFault) → Tells (told.branched sight b n bs o) f → Tells (broken.conditional sight b n bs o) f
    told_behind bs o f h =
        let behind = any_of (broken.branch sight (target_by sight b n)) bs ▸ of_any (broken.given sight (target_by sight b n)) o in
        told_right (broken.target_by sight b n) behind f (target_by_kept sight b n x found)
        (told_same (told.branched sight b n bs o) behind f
        (ap (λ a. a ▸ of_any (told.assigned sight b n) o) (branches_once bs) ∙ ap (λ a. any_of (broken.branch sight (target_by sight b n)) bs ▸ a) (otherwise_once o)) h)

-- a value alone is given to its target
pub alone_told : (sight : Sight) (b : Bool) (n : t.Name) (v : t.Value) → told.assigned sight b n v ≡ broken.conditional sight b n [] (Some v)
alone_told sight b n v =
    by_parts sight b n v ∙ ap (λ r. broken.target_by sight b n ▸ r) (sym (behind_kept nothing (broken.given sight (target_by sight b n) v) nothing_kept))

-- ---- values with choices

module _ (sight : Sight) (n : t.Name) (type : ObjectType) where
  pub waveform_kept : (w : t.Waveform) (y : Chosen) → concurrent.chosen sight type n w ≡ Some y → IsKept (waveform sight type n w)
  waveform_kept w y h =
      let xs = comes (steps.alone sight false n w.value) _ y h in
      let c = comes (chosen.choices sight type w.choices) _ y xs.rest in
      both_kept _ _ (alone_kept sight false n w.value xs.value xs.is) (choices_kept sight type w.choices c.value c.is)

  pub all_waveforms_kept : (ws : List t.Waveform) (ys : List Chosen) → each (concurrent.chosen sight type n) ws ≡ Some ys → IsKept (any_of (waveform sight type n) ws)
  all_waveforms_kept ws ys h = each_kept (waveform sight type n) (concurrent.chosen sight type n) waveform_kept ws ys h

pub waveforms_kept : (sight : Sight) (type : ObjectType) (n : t.Name) (ws : List t.Waveform) (ys : List Chosen) → each (concurrent.chosen sight type n) ws ≡ Some ys
    → IsKept (any_of (waveform sight type n) ws)
waveforms_kept sight type n ws ys h = all_waveforms_kept sight n type ws ys h
