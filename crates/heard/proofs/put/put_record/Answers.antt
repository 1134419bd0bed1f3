use Rattle.std.proofs.Common.{rules}
use Rattle.heard.proofs.Putting.{records}
use Rattle.heard.proofs.put.put_record.Goals as goal

pub store_words-requires : goal.store_words-requires
store_words-requires c = search (records, rules)

pub store_words-requires-in-6 : goal.store_words-requires-in-6
store_words-requires-in-6 c = search (records, rules)

pub returns-in-4 : goal.returns-in-4
returns-in-4 c = search (records, rules)

pub returns-in-6 : goal.returns-in-6
returns-in-6 c = search (records, rules)
