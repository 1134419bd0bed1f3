use Rattle.std.proofs.Common.{rules}
use Rattle.cursors.proofs.Fronting.{fronting_word}
use Rattle.cursors.proofs.front.front_at.Goals as goal

pub returns-then-e-p-ge11 : goal.returns-then-e-p-ge11
returns-then-e-p-ge11 c = search (fronting_word, rules)
