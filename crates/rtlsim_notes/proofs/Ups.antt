-- One step up from a scope.
use Rattle.std.proofs.Common.{◌≡◌, ℕ, zero, suc, ◌-◌, ◌<◌, ◌==◌, Bool, false, if◌then◌else◌, List, Some, sym, ap, ◌∙◌, arith}
use Rattle.rtl_net.specs.Nets.{ScopeView, label_at, parent_of}
use Rattle.rtlsim_notes.specs.Scopes.{child_by, child_within, entity_by, entity_within}
use Rattle.vhdl_places.specs.Maps.{entity_name, instance_in}
use Rattle.vhdl_slips.specs.Words.{Read}

module _ (scopes : List ScopeView) (scope parent : ℕ) (is : parent_of scopes scope ≡ Some parent) where
  pub child_up : (owner steps : ℕ) → 0 < steps → (parent == owner) ≡ false
      → child_within (steps - 1) scopes owner parent ≡ child_within steps scopes owner scope
  child_up owner zero some differs = absurd (omega (arith, some))
  child_up owner (suc steps) some differs =
      let same : suc steps - 1 ≡ steps = omega arith in
      let above = child_within steps scopes owner in
      ap (λ n. child_within n scopes owner parent) same
      ∙ sym (ap (child_by above owner scope) is ∙ ap (λ (b : Bool). if b then Some scope else above parent) differs)

  pub entity_up : (source : Read) (steps : ℕ) → 0 < steps
      → entity_name source.text (instance_in source (entity_within source scopes (steps - 1) parent) (label_at scopes scope))
      ≡ entity_within source scopes steps scope
  entity_up source zero some = absurd (omega (arith, some))
  entity_up source (suc steps) some =
      let same : suc steps - 1 ≡ steps = omega arith in
      ap (λ n. entity_name source.text (instance_in source (entity_within source scopes n parent) (label_at scopes scope))) same
      ∙ sym (ap (entity_by source (entity_within source scopes steps) (label_at scopes scope)) is)
