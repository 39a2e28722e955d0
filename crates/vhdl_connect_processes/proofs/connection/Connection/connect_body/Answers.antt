use Rattle.std.proofs.Common.{Contains}
use Rattle.vhdl_connect_processes.proofs.Driven.{statements_assign}
use Rattle.vhdl_connect_processes.proofs.Parts.{whole_becomes}
use Rattle.vhdl_connect_processes.proofs.connection.Connection.connect_body.Goals as goal

pub connect_statements-requires-clause-driven : goal.connect_statements-requires-clause-driven
connect_statements-requires-clause-driven c = statements_assign (Contains c.args.self.now.drives.now) c.args.body.now c.requires.driven

pub returns : goal.returns
returns c = whole_becomes c.args.self.now c.connect_statements.result c.args.body.now c.connect_statements.new.statements c.connect_statements.ensures
