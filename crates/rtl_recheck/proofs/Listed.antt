-- What stands in lists.
use Rattle.std.proofs.Common.{◌≡◌, ℕ, ◌<◌, true, List, length, get_or, sym, ap, ◌∙◌}
use Rattle.std.proofs.lemmas.List.{length-map}
use Rattle.rtl_model.proofs.basics.Lists.{contains_in, get_or-map_within}
use Rattle.rtl_net.specs.declared.process.Driver.{Driver}
use Rattle.rtl_body_facts.specs.Reading.{is_in}
use Rattle.rtl_body_facts.specs.Paths.{driven}

-- the net of a driver is driven
pub is_driven : (ds : List Driver) (i : ℕ) (x : Driver) → i < length ds → x ≡ get_or ds i x → is_in x.net (driven ds) ≡ true
is_driven ds i x l e =
    contains_in (driven ds) x.net (i, rw (length-map ds (λ (d : Driver). d.net)) l, get_or-map_within (λ (d : Driver). d.net) ds i x x.net l ∙ ap (λ (d : Driver). d.net) (sym e))
