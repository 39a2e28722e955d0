use Rattle.std.proofs.Common.{List, ℕ, All, Contains, map, sym, ap, ◌∙◌, subst}
use Rattle.rtl_net.specs.declared.indices.Indices.{Indices}
use Rattle.rtl_net.specs.Indices.{numbers}
use Rattle.vhdl_elab_rules.specs.Bodies.{place_in}
use Rattle.vhdl_connect_processes.proofs.Searched.{run_places}
use Rattle.vhdl_connect_processes.proofs.connection.Connection.places_of.Goals as goal

pub returns-in-Run : goal.returns-in-Run
returns-in-Run c =
    let ds = c.args.self.now.drives.now in
    run_places ds c.in-Run.first c.in-Run.len c.place.result c.requires.rising
    (subst (λ (x : Indices). All (Contains ds) (numbers x)) c.in-Run.is c.requires.driven) c.place.ensures
    ∙ ap (λ (x : Indices). map (place_in ds) (numbers x)) (sym c.in-Run.is)

pub places_of_list-requires-clause-driven : goal.places_of_list-requires-clause-driven
places_of_list-requires-clause-driven c =
    let ds = c.args.self.now.drives.now in
    subst (λ (xs : List ℕ). All (Contains ds) xs) (sym c.as_slice.ensures)
    (subst (λ (x : Indices). All (Contains ds) (numbers x)) c.in-List.is c.requires.driven)
