-- The nets that a walk over a body has found.
use Rattle.std.proofs.Common.{◌≡◌, ℕ, false, ◌||◌, List, [], ◌∷◌, sym, ap, ◌∙◌}
use Rattle.std.specs.Prelude.{flat_map}
use Rattle.rtl_model.specs.bodies.Leaves.{Leaf, event_of}
use Rattle.rtl_net.specs.Visits.{Tells}
use Rattle.rtl_body_facts.specs.Reading.{is_in}
use Rattle.rtl_body_facts.proofs.Anys.{or_assoc, or_none}
use Rattle.rtl_body_facts.proofs.Members.{in_append}
use Rattle.rtl_remarks.specs.declared.clocks.Events.{Events}

abbrev pub Adds : Events → List ℕ → Events → Type 0
Adds old nets new = new.refused ≡ false → (old.refused ≡ false) × ((n : ℕ) → is_in n new.nets.items ≡ (is_in n old.nets.items || is_in n nets))

pub told : (old new : Events) (ls : List Leaf) → Tells (λ (u : Events) l (v : Events). Adds u (event_of l) v) old ls new → Adds old (flat_map event_of ls) new
told old new [] h none = (ap (λ (e : Events). e.refused) h ∙ none, λ n. ap (λ (e : Events). is_in n e.nets.items) (sym h) ∙ or_none (is_in n old.nets.items))
told old new (l ∷ ls) (mid, one, rest) none =
    let (mid-none, later) = told mid new ls rest none in
    let (old-none, first) = one mid-none in (
      old-none,
      λ n. later n ∙ ap (λ b. b || is_in n (flat_map event_of ls)) (first n) ∙ or_assoc (is_in n old.nets.items) (is_in n (event_of l)) (is_in n (flat_map event_of ls))
          ∙ ap (λ b. is_in n old.nets.items || b) (sym (in_append n (event_of l) (flat_map event_of ls))),
    )
