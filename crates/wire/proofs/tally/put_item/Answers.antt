use Rattle.std.proofs.Common.{rules}
use Rattle.wire.proofs.Counting.{counting}
use Rattle.wire.proofs.tally.put_item.Goals as goal

pub returns-then-not-is_spoken : goal.returns-then-not-is_spoken
returns-then-not-is_spoken c = search (counting, rules)

pub put_message-size-requires : goal.put_message-size-requires
put_message-size-requires c = search (counting, rules)

pub returns : goal.returns
returns c = search (counting, rules)
