use Rattle.std.proofs.Common.{◌≡◌, true, false, not, List, [], ◌∷◌, refl, sym, ap, ◌∙◌}
use Rattle.rtl_model.specs.basics.Lists.{is_empty}
use Rattle.rtl_model.specs.bodies.Leaves.{Leaf}
use Rattle.rtl_net.specs.Visits.{Tells}
use Rattle.rtl_kept_bodies.specs.declared.values.Looked.{Looked}
use Rattle.rtl_kept_bodies.proofs.values.looks_at_nothing.Goals as goal

abbrev Takes : Looked → Leaf → Looked → Type 0
Takes old leaf new = new.some ≡ true

stays : (old new : Looked) (ls : List Leaf) → Tells Takes old ls new → old.some ≡ true → new.some ≡ true
stays old new [] h t = sym (ap (λ (x : Looked). x.some) h) ∙ t
stays old new (l ∷ ls) (mid, is, rest) t = stays mid new ls rest is

told : (old new : Looked) (ls : List Leaf) → old.some ≡ false → Tells Takes old ls new → not new.some ≡ is_empty ls
told old new [] f h = ap (λ (x : Looked). not x.some) (sym h) ∙ ap not f
told old new (l ∷ ls) f (mid, is, rest) = ap not (stays mid new ls rest is)

pub returns : goal.returns
returns c = told (record { some = false }) c.walk_value.new.visitor _ refl c.walk_value.ensures
