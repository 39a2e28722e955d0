use Rattle.std.proofs.Common.{◌≡◌, ℕ, List, [], ◌∷◌, ◌++◌, codes, map, option_map, sym, ap, ◌∙◌}
use Rattle.std.proofs.lemmas.List.{map-append}
use Rattle.std.specs.Option.{option_to_list}
use Rattle.rtlsim_refusals.specs.Explained.{Note, note_view}
use Rattle.rtlsim_findings.proofs.Lists.{map_same, one_more}
use Rattle.rtlsim_findings_text.specs.Json.{places_text}
use Rattle.rtlsim_findings_text.specs.Refusals.{fault_text, noted_text}
use Rattle.rtlsim_findings_text.specs.Values.{string_text}
use Rattle.rtlsim_findings_text.proofs.Texts.{all_five, part}
use Rattle.rtlsim_findings_text.proofs.refused.fault_text.Goals as goal

-- the first place, and the texts of two lists behind it
both : (x : List ℕ) (first second : List Note) → ((x ∷ []) ++ map noted_text first) ++ map noted_text second ≡ x ∷ map noted_text (first ++ second)
both x first second = ap (λ ts. x ∷ ts) (sym (map-append noted_text first second))

pub returns : goal.returns
unfolding fault_text
returns c =
    let message = part _ _ _ _ c.in_ok-push_member.ensures (ap (λ t. codes ",\"message\":" ++ string_text t) c.deref.ensures.value) in
    let place = one_more _ [] _ _ (rw c.new-places.ensures.items at c.in_ok-push.ensures.items) (λ t. t.items) c.in_ok-place_text.ensures in
    let noted = c.in_ok-push_noted-2.ensures ∙ ap (λ ts. ts ++ map noted_text (option_to_list (option_map note_view c.args.told.now.notes.second))) c.in_ok-push_noted.ensures
    ∙ ap (λ ts. (ts ++ map noted_text (option_to_list (option_map note_view c.args.told.now.notes.first))) ++ map noted_text (option_to_list (option_map note_view c.args.told.now.notes.second))) place
    ∙ both _ _ _ in
    let places = part _ _ _ _ c.in_ok-push_places.ensures (ap places_text (map_same _ _ c.deref-2.ensures.value (λ t. t.items) ∙ noted)) in
    all_five _ _ _ _ _ _ _ (codes ",\"message\":") _ (codes ",\"help\":") _ _ _ c.new-text.ensures.items c.in_ok-push_title.ensures message c.in_ok-push_member-2.ensures
    c.in_ok-extend_from_slice.ensures.items places
