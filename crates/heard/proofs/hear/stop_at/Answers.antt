use Rattle.std.proofs.Common.{rules}
use Rattle.heard.proofs.Hearing.{stepping}
use Rattle.heard.proofs.hear.stop_at.Goals as goal

pub returns-then-not-is_whole : goal.returns-then-not-is_whole
returns-then-not-is_whole c = search (stepping, rules)

pub word_at-size-requires : goal.word_at-size-requires
word_at-size-requires c = search (stepping, rules)

pub bounds-s-at : goal.bounds-s-at
bounds-s-at c = search (stepping, rules)

pub ending-requires : goal.ending-requires
ending-requires c = search (stepping, rules)

pub is_payload-requires : goal.is_payload-requires
is_payload-requires c = search (stepping, rules)

pub returns-then-is_payload : goal.returns-then-is_payload
returns-then-is_payload c = search (stepping, rules)

pub returns : goal.returns
returns c = search (stepping, rules)
