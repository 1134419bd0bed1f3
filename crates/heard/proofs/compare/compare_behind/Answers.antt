use Rattle.std.proofs.Common.{rules}
use Rattle.heard.proofs.Comparing.{behinds}
use Rattle.heard.proofs.compare.compare_behind.Goals as goal

pub four_last-requires-in-4 : goal.four_last-requires-in-4
four_last-requires-in-4 c = search (behinds, rules)

pub compare_six-requires : goal.compare_six-requires
compare_six-requires c = search (behinds, rules)

pub compare_keys-requires : goal.compare_keys-requires
compare_keys-requires c = search (behinds, rules)

pub returns-in-4 : goal.returns-in-4
returns-in-4 c = search (behinds, rules)
