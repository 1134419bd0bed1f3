-- Well-formedness part by part: the state, and each store with what is held in it.
use Rattle.std.specs.Prelude.{ℕ, List, Bool, ◌&&◌, leb, length, take}
use Rattle.body.specs.declared.tag.Form.TheVariants.{Snapshot, Delta}
use Rattle.payload.specs.Content.{Bytes}
use Rattle.payload.specs.Limit.{limit}
use Rattle.past.specs.declared.state.History.{History}
use Rattle.past.specs.Store.{total, cuts}
use Rattle.past.specs.WellFormed.{is_good, every, in_range, good_serial, good_start}

unfoldable pub good_state : History → Bool
good_state h = in_range h && good_serial h && good_start h

-- the first n bytes of the snapshot store are a good snapshot
unfoldable pub good_snapshot : ℕ → Bytes → Bool
good_snapshot n s = leb (length s) (limit Snapshot) && (leb n (length s) && is_good Snapshot (take n s))

-- byte strings of these lengths lie one behind the other in s and are good deltas
unfoldable pub good_runs : List ℕ → Bytes → Bool
good_runs lens s = leb (total lens) (length s) && every (is_good Delta) (cuts lens s)

unfoldable pub good_deltas : List ℕ → Bytes → Bool
good_deltas lens s = leb (length s) (limit Delta) && good_runs lens s
