use Rattle.std.proofs.Common.{ap, sym, ◌∙◌, ◌++◌, refl}
use Rattle.std.proofs.lemmas.List.{append-nil}
use Rattle.vhdl_expand_tree.specs.Views.{sensitivity_view}
use Rattle.vhdl_connect.specs.Uses.{listed_by}
use Rattle.vhdl_connect.proofs.Marking.{uses_whole}
use Rattle.vhdl_connect.proofs.uses.mark_listed.Goals as goal

pub returns-in-Listed : goal.returns-in-Listed
returns-in-Listed c = λ driven read h.
    uses_whole _ _ _ _ c.mark_read.new.uses refl (ap (λ es. read ++ es) (c.deref.ensures.value ∙ ap (λ s. listed_by (sensitivity_view s)) (sym c.in-Listed.is))) (c.mark_read.ensures driven read h)

pub returns-in-Every : goal.returns-in-Every
returns-in-Every c = λ driven read h.
    uses_whole _ _ _ _ c.args.uses.now refl (sym (append-nil read) ∙ ap (λ es. read ++ es) (ap (λ s. listed_by (sensitivity_view s)) (sym c.in-Every.is))) h

pub returns-in-AsRead : goal.returns-in-AsRead
returns-in-AsRead c = λ driven read h.
    uses_whole _ _ _ _ c.args.uses.now refl (sym (append-nil read) ∙ ap (λ es. read ++ es) (ap (λ s. listed_by (sensitivity_view s)) (sym c.in-AsRead.is))) h
