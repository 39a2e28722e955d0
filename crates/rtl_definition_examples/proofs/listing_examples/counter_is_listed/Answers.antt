use Rattle.rtl_definition_examples.proofs.Listing as rows
use Rattle.rtl_definition_examples.proofs.listing_examples.counter_is_listed.Goals as goal

pub returns-clause-net : goal.returns-clause-net
returns-clause-net c = rows.counter_is_listed

pub returns-clause-verdict : goal.returns-clause-verdict
returns-clause-verdict c = rows.counter_is_reported
