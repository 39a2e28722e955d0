-- What is pushed of an input's elements.
use Rattle.std.proofs.Common.{◌≡◌, ◌≢◌, ℕ, ◌+◌, ◌<◌, List, ◌∷◌, ◌++◌, length, map, take, get_or, sym, ap, ◌∙◌, arith}
use Rattle.std.specs.Prelude.{Contains, AllPairs}
use Rattle.std.proofs.lemmas.List.{length-map, length-take-le, get_or-map, get_or-take}
use Rattle.std.proofs.lemmas.Option.{get_or_from_slice_get, slice_get_within}
use Rattle.rtl_agenda.specs.Agenda.{Change}
use Rattle.rtl_stim_lines.specs.declared.inputs.Element.{Element as KeptElement}
use Rattle.rtl_stim_lines.specs.View.{element_view}
use Rattle.rtl_stim_lines.specs.Inputs.{Element}
use Rattle.rtl_stim_lines.specs.Courses.{Course}
use Rattle.rtl_stim.specs.Pushes.{Push, element_pushes}
use Rattle.rtl_stim.proofs.Adding.{pushed_from}

-- the elements before one have other nets than it
pub net_is_new : (course : Course) (t s : ℕ) (es : List KeptElement) (i : ℕ) (d : KeptElement) → AllPairs (λ n m. n ≢ m) (map (λ e. e.net) es) → i < length es → (x : Change)
    → Contains (element_pushes course (map element_view (take i es)) t) (s, x) → x.0 ≢ (get_or es i d).net
net_is_new course t s es i d own within x pushed same =
    let from = pushed_from course t 0 (map element_view (take i es)) (s, x) pushed in
    let k = from.0 in
    let front : length (take i es) ≡ i = length-take-le i es (omega arith) in
    let before' : k < length (map element_view (take i es)) = slice_get_within (map element_view (take i es)) k from.1 from.2 in
    let before : k < i = omega (arith, length-map (take i es) element_view, front, before') in
    let is : from.1 ≡ element_view (get_or es k d) =
    sym (get_or_from_slice_get (map element_view (take i es)) k from.1 (element_view d) from.2)
    ∙ get_or-map element_view (take i es) k d (element_view d) (omega (arith, front, before)) ∙ ap element_view (get_or-take i es k d before) in
    let net : x.0 ≡ (get_or es k d).net = ap (λ (p : Push). p.1.0) from.3 ∙ ap (λ (e : Element). e.net) is in
    own k i 0 before (omega (arith, length-map es (λ (e : KeptElement). e.net), within))
    (get_or-map (λ (e : KeptElement). e.net) es k d 0 (omega arith) ∙ sym net ∙ same ∙ sym (get_or-map (λ (e : KeptElement). e.net) es i d 0 within))
