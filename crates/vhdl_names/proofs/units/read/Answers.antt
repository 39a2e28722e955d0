use Rattle.std.proofs.Common.{◌≡◌, Some, Ok, Err}
use Rattle.vhdl_tree.specs.View.{file_view}
use Rattle.vhdl_names_rules.specs.problems.Files as broken
use Rattle.vhdl_names_rules.specs.declared.fault.NameFault.{NameFault}
use Rattle.vhdl_names_rules.specs.problems.Broken.{Tells, earlier}
use Rattle.vhdl_names_rules.specs.Files.{units_of}
use Rattle.vhdl_names_interfaces.specs.Views.{entities_view}
use Rattle.vhdl_names.specs.Views.{outline_view}
use Rattle.vhdl_names.specs.steps.Architectures.{options_view}
use Rattle.vhdl_names.specs.steps.Outlines.{outlined}
use Rattle.vhdl_names.proofs.Entering.{AllViewed}
use Rattle.vhdl_names.proofs.Filed.{none_given}
use Rattle.vhdl_names.proofs.Finding.{if_ok, found_at, beside_gives, beside_told, err_memory}
use Rattle.vhdl_names.proofs.Whole.{Read, file_told, ok_memory, none_hidden, file_given}
use Rattle.vhdl_names.proofs.units.read.Goals as goal

pub returns : goal.returns
returns c =
    let f = file_view c.args.file.now in
    let o = outline_view c.outline_of-outline.result.0 in
    let es = entities_view c.entities_of-entities.result.0 in
    let r : Read c.args.language f o es c.outline_of-outline.result.1 c.entities_of-entities.result.1 c.described-architectures.result = record {
      names_found = c.outline_of-outline.ensures.told;
      names_are = c.outline_of-outline.ensures.names;
      architectures_are = c.outline_of-outline.ensures.seen;
      entities_found = c.entities_of-entities.ensures.told;
      entities_are = c.entities_of-entities.ensures.given;
      found = c.described-architectures.ensures.told;
    } in
    let told : (x : NameFault) → c.earlier_of-told.result ≡ Err x → Tells (broken.file c.args.language (file_view c.args.file.now)) x =
    λ x e. file_told c.args.language f o es c.outline_of-outline.result.1 c.entities_of-entities.result.1 c.described-architectures.result c.earlier_of.result x r
    c.earlier_of.ensures.told c.earlier_of.ensures.memory
    (λ a b p q. found_at (earlier a b) c.earlier_of-told.result x e (c.earlier_of-told.ensures.told a b p q))
    (λ n. c.earlier_of-told.ensures.memory (err_memory c.earlier_of-told.result x e n)) in
    record {
      told = beside_told c.entities_of-entities.result.0 c.earlier_of-told.result c.beside.result c.beside.ensures.told (broken.file c.args.language f) told;
      given =
          beside_gives c.entities_of-entities.result.0 c.earlier_of-told.result c.beside.result c.beside.ensures.told _ (units_of c.args.language f) c.beside.ensures.both
          (λ v e.
          let outer = if_ok (λ x. (c.outline_of-outline.result.1 ≡ Ok tt) × (c.earlier_of.result ≡ Ok x)) c.earlier_of-told.result v e c.earlier_of-told.ensures.both in
          let inner = if_ok (λ x. (c.entities_of-entities.result.1 ≡ Ok tt) × (c.described-architectures.result ≡ Ok x)) c.earlier_of.result v outer.1 c.earlier_of.ensures.both in
          let h = if_ok (λ x. outlined f.units ≡ Some o) c.outline_of-outline.result.1 tt outer.0 c.outline_of-outline.ensures.given in
          let all = if_ok (λ x. AllViewed c.args.language o.architectures f.units) c.entities_of-entities.result.1 tt inner.0 c.entities_of-entities.ensures.all in
          let given = c.entities_of-entities.ensures.given (ok_memory c.entities_of-entities.result.1 tt inner.0) in
          let turn = if_ok _ c.described-architectures.result v inner.1 (c.described-architectures.ensures.given (none_hidden c.args.language f o h es all given)) in
          file_given c.args.language f o h es all given (options_view v) turn)
          (λ x e. none_given c.args.language f x (told x e));
    }
