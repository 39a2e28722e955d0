use Rattle.std.proofs.Common.{arith}
use Rattle.std.proofs.lemmas.List.{length-set}
use Rattle.rtl_net_groups.proofs.Touching.{touches_set}
use Rattle.rtl_levels.proofs.state.State.set.Goals as goal

pub mark_readers-requires-clause-there : goal.mark_readers-requires-clause-there
mark_readers-requires-clause-there c = rw (c.deref.ensures.value) c.requires.there

pub mark_readers-requires-clause-each_net : goal.mark_readers-requires-clause-each_net
mark_readers-requires-clause-each_net c = rw (c.deref.ensures.value) c.requires.have_readers.each_net

pub mark_readers-requires-clause-below : goal.mark_readers-requires-clause-below
mark_readers-requires-clause-below c = c.requires.have_readers.below

pub mark_run-requires : goal.mark_run-requires
mark_run-requires c = omega (arith, c.requires.there, c.requires.have_readers.each_chunk)

pub returns-clause-advances : goal.returns-clause-advances
returns-clause-advances c =
    let old = c.args.self.now in
    record {
      as_many = length-set old.values.items c.args.net c.args.value;
      marks = rw (c.deref.ensures.value) at c.mark_readers.ensures;
      touched = touches_set old.touched c.mark_run.new.self c.args.net c.args.value old.values.items c.mark_run.ensures;
    }
