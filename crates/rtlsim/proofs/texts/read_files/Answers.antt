use Rattle.std.proofs.Common.{rules, ◌≡◌, List, [], Ok, Err, Some, map, string_bytes, sym, subst}
use Rattle.rtlsim.specs.Reads.{GivesAll}
use Rattle.rtlsim.specs.Texts.{read_view}
use Rattle.rtlsim.specs.Unread.{Unread, unread_of}
use Rattle.vhdl_source_files.specs.Files.{FileView}
use Rattle.rtlsim.proofs.Reading.{after_all, all_read, behind, first_fails, first_read, more_read, none_before, one_more}
use Rattle.rtlsim.proofs.texts.read_files.Goals as goal

pub returns-in_err-text-clause-failed : goal.returns-in_err-text-clause-failed
returns-in_err-text-clause-failed g c =
    let fails : (unread : Unread) → unread_of c.in_err-text.field-0.0 ≡ Some unread
    → GivesAll g.I.Inputs.gives (map string_bytes c.args.names.now) (g.I.Inputs.state c.args.inputs.now) (g.I.Inputs.state c.read_one.new.inputs) (Err unread) =
    λ unread is. c.loop-left.invariant _ (Err unread) (first_fails string_bytes g.I.Inputs.gives c.loop-left.left.now c.name-item.result c.in-len1-up.len_at_least _ _ unread
    (rw (← c.name-item.is, ← c.as_str.ensures.value) (c.in_err-text.ensures.failed unread is))) in
    search (rules, fails)

pub loop-left-preserved : goal.loop-left-preserved
loop-left-preserved g c = λ new given others.
    let file : FileView = record { name = string_bytes c.name-item.result; text = c.in_ok-text.text.items } in
    let before : List FileView = map read_view c.loop-left.files.items in
    let read = c.loop-left.invariant new (behind file given)
    (rw (← c.name-item.is) at (first_read string_bytes g.I.Inputs.gives c.loop-left.left.now c.name-item.result c.in-len1-up.len_at_least
    (g.I.Inputs.state c.loop-left.inputs) (g.I.Inputs.state c.read_one.new.inputs) new c.in_ok-text.text.items given
    (rw (← c.name-item.is, ← c.as_str.ensures.value) c.in_ok-text.ensures.given) others)) in
    let more = rw c.as_str-in-len1-up.ensures.value at (more_read c.loop-left.files.items _ _ c.in_ok-push.ensures.items) in
    subst (λ (files : List FileView). GivesAll g.I.Inputs.gives (map string_bytes c.args.names.now) (g.I.Inputs.state c.args.inputs.now) new (after_all files given)) (sym more)
    (subst (GivesAll g.I.Inputs.gives (map string_bytes c.args.names.now) (g.I.Inputs.state c.args.inputs.now) new) (one_more before file given) read)

pub returns-clause-given : goal.returns-clause-given
returns-clause-given g c =
    subst (GivesAll g.I.Inputs.gives (map string_bytes c.args.names.now) (g.I.Inputs.state c.args.inputs.now) (g.I.Inputs.state c.loop-left.inputs)) (none_before (map read_view c.loop-left.files.items))
    (c.loop-left.invariant _ (Ok []) (all_read string_bytes g.I.Inputs.gives c.loop-left.left.now c.in_default.len_below _))
