use Rattle.std.proofs.Common.{rules}
use Rattle.heard.proofs.Summing.{summing}
use Rattle.heard.proofs.sums.plus.Goals as goal

pub overflow_add-result-then-announces : goal.overflow_add-result-then-announces
overflow_add-result-then-announces c = search (summing, rules)

pub overflow_add-result-3 : goal.overflow_add-result-3
overflow_add-result-3 c = search (summing, rules)
