use Rattle.std.proofs.Common.{rules, arith}
use Rattle.std.proofs.lemmas.Grind.{common_steps}
use Rattle.vhdl_tree.specs.View.{file_view}
use Rattle.vhdl_names.proofs.Written.{units_in_are_sound, units_in_are_named, ports_in_are_distinct}
use Rattle.vhdl_names.proofs.Spelled.{words}
use Rattle.vhdl_names.proofs.units.analyse_in.Goals as goal

pub returns-in-Profile-clause-given : goal.returns-in-Profile-clause-given
returns-in-Profile-clause-given c = first_of (search rules, grind (arith, common_steps))

pub returns-in-Profile-clause-sound : goal.returns-in-Profile-clause-sound
returns-in-Profile-clause-sound c = λ formed. units_in_are_sound c.args.language (file_view c.args.file.now) _ formed (returns-in-Profile-clause-given c)

pub returns-in-Profile-clause-named : goal.returns-in-Profile-clause-named
returns-in-Profile-clause-named c = λ spelled.
    units_in_are_named c.args.language (file_view c.args.file.now) _ (words (file_view c.args.file.now) spelled) (returns-in-Profile-clause-given c)

pub returns-in-Profile-clause-ports : goal.returns-in-Profile-clause-ports
returns-in-Profile-clause-ports c = λ spelled.
    ports_in_are_distinct c.args.language (file_view c.args.file.now) _ (words (file_view c.args.file.now) spelled) (returns-in-Profile-clause-given c)

pub returns-in_ok-written-in-Wide-clause-given : goal.returns-in_ok-written-in-Wide-clause-given
returns-in_ok-written-in-Wide-clause-given c = first_of (search rules, grind (arith, common_steps))

pub returns-in_ok-written-in-Wide-clause-sound : goal.returns-in_ok-written-in-Wide-clause-sound
returns-in_ok-written-in-Wide-clause-sound c = λ formed. units_in_are_sound c.args.language (file_view c.args.file.now) _ formed (returns-in_ok-written-in-Wide-clause-given c)

pub returns-in_ok-written-in-Wide-clause-named : goal.returns-in_ok-written-in-Wide-clause-named
returns-in_ok-written-in-Wide-clause-named c = λ spelled.
    units_in_are_named c.args.language (file_view c.args.file.now) _ (words (file_view c.args.file.now) spelled) (returns-in_ok-written-in-Wide-clause-given c)

pub returns-in_ok-written-in-Wide-clause-ports : goal.returns-in_ok-written-in-Wide-clause-ports
returns-in_ok-written-in-Wide-clause-ports c = λ spelled.
    ports_in_are_distinct c.args.language (file_view c.args.file.now) _ (words (file_view c.args.file.now) spelled) (returns-in_ok-written-in-Wide-clause-given c)
