use Rattle.std.proofs.Common.{◌≡◌, map, string_bytes, refl}
use Rattle.vhdl_source_files.specs.Listed.{listed}
use Rattle.vhdl_source_files.proofs.Named.{none, told}
use Rattle.vhdl_source_files.proofs.listing.listed.Goals as goal

pub returns-in-None : goal.returns-in-None
returns-in-None c given =
    let all : told c.folder_of-folder.result.now c.as_slice-left.result.now ≡ listed c.args.list.now c.args.text.now =
    rw (c.as_slice-left.ensures.value, c.in_ok-found.ensures, c.folder_of-folder.ensures) refl in
    none c.folder_of-folder.result.now (map string_bytes c.loop-left.names.items) c.loop-left.left.now _ c.in-len1-up.len_at_least
    (rw c.in-None.is at c.in_ok-told.ensures) (rw (c.loop-left.invariant, all) given.1)
