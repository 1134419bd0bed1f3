use Rattle.std.proofs.Common.{rules}
use Rattle.item.proofs.Copying.{copying}
use Rattle.item.proofs.copy.copy_bytes.Goals as goal

pub loop-k-preserved : goal.loop-k-preserved
loop-k-preserved c = search (copying, rules)
