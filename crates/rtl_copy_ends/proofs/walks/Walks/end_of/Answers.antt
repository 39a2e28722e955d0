use Rattle.std.proofs.Common.{◌≡◌, ℕ, ◌<◌, ◌≤◌, ◌*◌, ◌-◌, ◌∙◌, List, length, get_or, sym, ap, arith}
use Rattle.std.proofs.lemmas.List.{get_or_read}
use Rattle.rtl_net.specs.declared.process.Process.{Process}
use Rattle.rtl_net.specs.Nets.{NetlistView}
use Rattle.rtl_copy_ends.specs.declared.sight.Sight.TheVariants.{Copies}
use Rattle.rtl_copy_ends.specs.declared.sight.Standing.{Standing}
use Rattle.rtl_copy_ends.specs.declared.walks.Walks.{Walks}
use Rattle.rtl_copy_ends.specs.Ends.{look, end_or, walk_copies, end_of}
use Rattle.rtl_copy_ends.specs.Steps.{AreWalks, place_of, standing_at, next, after}
use Rattle.rtl_copy_ends.proofs.Walking.{copied-is, place-within, first-ends, last-seen}
use Rattle.rtl_copy_ends.proofs.walks.Walks.end_of.Goals as goal

pub place_of-requires : goal.place_of-requires
place_of-requires c =
    let there : c.in-Copies.copied.net < length c.args.net.now.types = (copied-is c.args.net.now c.args.from c.in-Copies.copied (sym c.in-Copies.is ∙ c.look.ensures)).1 in
    let limit = c.is_elaborated.ensures.nets_limit in
    omega arith

pub index-requires : goal.index-requires
index-requires c =
    let t = c.in-Copies.copied in
    let there = place-within t.net (length c.args.net.now.types) t.asked (copied-is c.args.net.now c.args.from t (sym c.in-Copies.is ∙ c.look.ensures)).1 in
    let size = c.args.self.now.far.ok.0 in
    let many = c.requires.are.places in
    let at = c.place_of.ensures in
    omega arith

pub returns-in-Ends : goal.returns-in-Ends
returns-in-Ends c = first-ends c.args.net.now (length c.args.net.now.processes) c.args.from c.in-Ends.end c.requires.some (sym c.in-Ends.is ∙ c.look.ensures)

-- what is seen where the table leads from the second net
far-seen : (net : NetlistView) (walks : Walks) → AreWalks net walks → (s t : Standing) → Copies t ≡ look net s → (many place item : ℕ) → many ≡ length net.processes → 2 ≤ many → place ≡ place_of t
    → item ≡ get_or walks.far.items place item → end_or (walk_copies net 0) (look net (standing_at item)) ≡ end_of net s
far-seen net walks are s t is many place item e two at read =
    let there = place-within t.net (length net.types) t.asked (copied-is net s t is).1 in
    let inside : place < 4 * length net.types = omega arith in
    let within : place < length walks.far.items = (let size = are.places in omega arith) in
    last-seen net (length net.processes) item s t (omega arith) is
    (get_or_read walks.far.items place item within read 0 ∙ (are.far place inside ∙ ap (after (next net) (length net.processes - 2)) at))

pub returns-in-Ends-look : goal.returns-in-Ends-look
returns-in-Ends-look c =
    ap (end_or (walk_copies c.args.net.now 0)) (sym c.in-Ends-look.is ∙ (c.look-2.ensures ∙ ap (look c.args.net.now) c.standing_at-last.ensures))
    ∙ far-seen c.args.net.now c.args.self.now c.requires.are c.args.from c.in-Copies.copied (sym c.in-Copies.is ∙ c.look.ensures) (length c.processes.result.now) c.place_of.result c.index.result.now
    (ap (λ (ps : List Process). length ps) c.processes.ensures) c.if-processes-lt2.false c.place_of.ensures c.index.ensures

pub returns-in-Copies-look : goal.returns-in-Copies-look
returns-in-Copies-look c =
    ap (end_or (walk_copies c.args.net.now 0)) (sym c.in-Copies-look.is ∙ (c.look-2.ensures ∙ ap (look c.args.net.now) c.standing_at-last.ensures))
    ∙ far-seen c.args.net.now c.args.self.now c.requires.are c.args.from c.in-Copies.copied (sym c.in-Copies.is ∙ c.look.ensures) (length c.processes.result.now) c.place_of.result c.index.result.now
    (ap (λ (ps : List Process). length ps) c.processes.ensures) c.if-processes-lt2.false c.place_of.ensures c.index.ensures
