use Rattle.std.proofs.Common.{◌≡◌, ◌<◌, refl, Bool, true, false, List, length, get_or, ap, sym, ◌∙◌, arith}
use Rattle.std.proofs.lemmas.List.{get_or_default}
use Rattle.rtl_drives.specs.Marked.{marked}
use Rattle.rtl_drives.proofs.Marking.{length-marked, marked_in, marked_other, still}
use Rattle.rtl_drives.proofs.marks.Marks.has.Goals as goal
use Rattle.rtl_drives.proofs.marks.Marks.has.Goals.{After-index}

module _ (c : After-index) where
  within : c.args.place < length c.self.inside.marks.items
  within =
      let d = c.self.inside in
      let many = ap (λ (ms : List Bool). length ms) c.self.view_is in
      omega (arith, c.requires, many, length-marked d.alone.first d.alone.len d.marks.items)

  kept : {b : Bool} → c.index.result.now ≡ b → get_or c.self.inside.marks.items c.args.place false ≡ b
  kept is = get_or_default c.self.inside.marks.items c.args.place false c.index.result.now within ∙ sym c.index.ensures ∙ is

pub index-requires : goal.index-requires
index-requires c =
    let d = c.self.inside in
    let many = ap (λ (ms : List Bool). length ms) c.self.view_is in
    omega (arith, c.requires, many, length-marked d.alone.first d.alone.len d.marks.items, d.marks.ok.0)

pub returns-then-index : goal.returns-then-index
returns-then-index c =
    let d = c.self.inside in
    let place = c.args.place in
    let here = kept (goal.at.returns-then-index c).After-index c.if-index.true in
    c.if-index.true ∙ sym (ap (λ (ms : List Bool). get_or ms place false) (sym c.self.view_is) ∙ still d.alone.first d.alone.len place d.marks.items here)

pub returns-else-index : goal.returns-else-index
returns-else-index c =
    let at = (goal.at.returns-else-index c).After-index in
    by (kept at c.if-index.false) (within at) c.is_in.result refl ∙ ap (λ (ms : List Bool). get_or ms c.args.place false) c.self.view_is
  where
    by : get_or c.self.inside.marks.items c.args.place false ≡ false → c.args.place < length c.self.inside.marks.items → (b : Bool) → c.is_in.result ≡ b
        → c.is_in.result ≡ get_or (marked c.self.inside.alone.first c.self.inside.alone.len c.self.inside.marks.items) c.args.place false
    by here there true h =
        let (low, high) = c.is_in.ensures.yes h in
        h ∙ sym (marked_in c.self.inside.alone.first c.self.inside.alone.len c.args.place c.self.inside.marks.items low high there)
    by here there false h =
        h ∙ sym (marked_other c.self.inside.alone.first c.self.inside.alone.len c.args.place c.self.inside.marks.items (c.is_in.ensures.no h) ∙ here)
