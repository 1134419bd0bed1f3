use Rattle.std.proofs.Common.{rules}
use Rattle.heard.proofs.Hearing.{opening}
use Rattle.heard.proofs.hear.is_open.Goals as goal

pub returns-then-not-is_whole : goal.returns-then-not-is_whole
returns-then-not-is_whole c = search (opening, rules)

pub bounds-s-1 : goal.bounds-s-1
bounds-s-1 c = search (opening, rules)

pub returns-then-s-ne3 : goal.returns-then-s-ne3
returns-then-s-ne3 c = search (opening, rules)

pub word_at-requires : goal.word_at-requires
word_at-requires c = search (opening, rules)

pub returns : goal.returns
returns c = search (opening, rules)
