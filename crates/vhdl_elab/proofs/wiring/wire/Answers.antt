use Rattle.std.proofs.Common.{rules, ◌≡◌, ◌≢◌, ◌<◌, ℕ, List, All, Err, length, refl, sym, ◌∙◌, subst}
use Rattle.std.specs.Vec.{with_items}
use Rattle.std.specs.List.{AllZip}
use Rattle.std.proofs.lemmas.Grind.{common_steps}
use Rattle.std.proofs.lemmas.List.{with_items_is}
use Rattle.rtl_net.specs.declared.building.IdlePort.{IdlePort}
use Rattle.rtl_net.specs.declared.process.Process.{Process}
use Rattle.vhdl_expand_rules.specs.declared.fault.ElabFault.TheVariants.{NoMemory}
use Rattle.vhdl_expand_rules.specs.Elab as elab
use Rattle.vhdl_elab_rules.specs.Numbering.{Numbered, Located}
use Rattle.vhdl_elab_rules.specs.Shown.{as_shown}
use Rattle.vhdl_elab.specs.declared.made.Made.{Made}
use Rattle.vhdl_elab.specs.Made.{IsMade, IsLocated}
use Rattle.vhdl_elab.specs.Settled.{NetsAreBelow, IsSettled}
use Rattle.vhdl_elab.specs.Wired.{wired, NetsAreThere}
use Rattle.vhdl_elab.proofs.Shown.{IsTold, reads-all, is-refused, is-shown}
use Rattle.vhdl_elab.proofs.Lengths.{settled-told, idle-there}
use Rattle.vhdl_elab.proofs.wiring.wire.Goals as goal

-- the tables with these processes, written over theirs
abbrev now : Made → List Process → Made
now m ps = record m { processes = with_items m.processes ps }

as-told : (d : Numbered) (m : Made) (ps before : List Process) (nets : ℕ) → IsMade d m → NetsAreThere d → length ps ≡ length before → length before ≡ m.processes.len → before ≡ m.processes.items → nets ≡ length m.kinds.items
    → ((xs : List Located) → AllZip IsLocated xs before → NetsAreBelow nets xs → AllZip (IsSettled nets) xs ps) → IsTold d (now m ps)
as-told d m ps before nets h there long len is count settled =
    settled-told d m (now m ps) nets before h there refl is count
    (λ xs located below. subst (AllZip (IsSettled nets) xs) (sym (with_items_is m.processes ps (long ∙ len))) (settled xs located below))

pub returns-in_err-wires-clause-given : goal.returns-in_err-wires-clause-given
returns-in_err-wires-clause-given c =
    λ d made there.
    let m = now c.args.made c.settle.new.processes in
    let told : IsTold d m = as-told d c.args.made c.settle.new.processes c.deref_mut.result.now c.len-nets.result made there c.settle.auto.processes c.deref_mut.ensures.len c.deref_mut.ensures.value (c.len-nets.ensures ∙ c.args.made.kinds.ok.0) c.settle.ensures in
    let stopped : c.in_err-wires.field-0.0 ≢ NoMemory → as_shown (wired d) ≡ Err (elab.fault_told c.in_err-wires.field-0.0) =
    λ n. is-refused d m told c.requires.defaults _ there (c.in_err-wires.ensures.refused n) in
    first_of (search rules, grind common_steps)

pub returns-clause-given : goal.returns-clause-given
returns-clause-given c =
    λ d made there.
    let m = now c.args.made c.settle.new.processes in
    let told : IsTold d m = as-told d c.args.made c.settle.new.processes c.deref_mut.result.now c.len-nets.result made there c.settle.auto.processes c.deref_mut.ensures.len c.deref_mut.ensures.value (c.len-nets.ensures ∙ c.args.made.kinds.ok.0) c.settle.ensures in
    is-shown d m told c.requires.defaults c.in_ok-wires.wires _ there c.in_ok-wires.ensures.wired refl

pub returns-clause-reads : goal.returns-clause-reads
returns-clause-reads c =
    λ d made there.
    let m = now c.args.made c.settle.new.processes in
    let told : IsTold d m = as-told d c.args.made c.settle.new.processes c.deref_mut.result.now c.len-nets.result made there c.settle.auto.processes c.deref_mut.ensures.len c.deref_mut.ensures.value (c.len-nets.ensures ∙ c.args.made.kinds.ok.0) c.settle.ensures in
    reads-all d.nets d.processes m.processes.items told.processes

pub returns-clause-idle : goal.returns-clause-idle
returns-clause-idle c =
    λ d made there.
    let m = now c.args.made c.settle.new.processes in
    let told : IsTold d m = as-told d c.args.made c.settle.new.processes c.deref_mut.result.now c.len-nets.result made there c.settle.auto.processes c.deref_mut.ensures.len c.deref_mut.ensures.value (c.len-nets.ensures ∙ c.args.made.kinds.ok.0) c.settle.ensures in
    subst (λ (ps : List IdlePort). All (λ (p : IdlePort). p.net < length c.args.made.kinds.items) ps) (sym c.in_ok-wires.ensures.wired.idle) (idle-there d m told there)
