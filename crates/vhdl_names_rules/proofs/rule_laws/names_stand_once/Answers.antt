use Rattle.vhdl_names_rules.proofs.laws.Regions as laws
use Rattle.vhdl_names_rules.proofs.rule_laws.names_stand_once.Goals as goal

pub returns-clause-interface : goal.returns-clause-interface
returns-clause-interface c = laws.interface_names_stand_once

pub returns-clause-architecture : goal.returns-clause-architecture
returns-clause-architecture c = laws.architecture_names_stand_once

pub returns-clause-process : goal.returns-clause-process
returns-clause-process c = laws.process_names_stand_once

pub returns-clause-generate : goal.returns-clause-generate
returns-clause-generate c = laws.generate_labels_stand_once
