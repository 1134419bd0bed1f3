use Rattle.std.proofs.Common.{rules}
use Rattle.history.proofs.Asking.{querying}
use Rattle.history.proofs.query.query.Goals as goal

pub returns-in-Err : goal.returns-in-Err
returns-in-Err c = search (querying, rules)

pub serve-requires : goal.serve-requires
serve-requires c = search (querying, rules)

pub returns : goal.returns
returns c = search (querying, rules)
