-- Where the held deltas lie in the delta store, and the last of them merged.
use Rattle.std.specs.Prelude.{ℕ, ◌+◌, ◌-◌, ◌≤◌, ◌<◌, ◌≡◌, List, map, length, get_or, take, drop, Ok}
use Rattle.order.specs.Comparison.{bytes}
use Rattle.order.specs.Map.{All}
use Rattle.change.specs.Merge.{merge_all}
use Rattle.change.specs.History.{last_n}
use Rattle.body.specs.declared.tag.Form.TheVariants.{Delta}
use Rattle.field.specs.Verdict.{verdict}
use Rattle.payload.specs.Content.{Bytes}
use Rattle.payload.specs.Payload.{changes}
use Rattle.payload.specs.Limit.{limit}
use Rattle.merged.specs.declared.place.Places.{Places}
use Rattle.past.specs.Store.{total, cuts}
use Rattle.cursors.specs.Cursor.{D}

-- the lengths from `from` up to `to`
abbrev pub between : List ℕ → ℕ → ℕ → List ℕ
between lens from to = take (to - from) (drop from lens)

-- n lengths that a delta store can have room for
pub record Summed (lengths : List ℕ) (n : ℕ) : Type 0 where
  pub few : n ≤ 64
  pub small : total (take n lengths) ≤ limit Delta

-- the first n deltas lie one behind the other
pub record Placed (lengths : List ℕ) (n : ℕ) (r : Places) : Type 0 where
  pub known : n ≤ length lengths
  pub long : length r.at ≡ 64
  pub long_ends : length r.ends ≡ 64
  pub starts : (i : ℕ) → i < n → get_or r.at i 0 ≡ total (take i lengths)
  pub stops : (i : ℕ) → i < n → get_or r.ends i 0 ≡ total (take i lengths) + get_or lengths i 0

abbrev pub IsFine : Bytes → Type 0
IsFine d = verdict Delta d ≡ Ok tt

-- the store holds n deltas of these lengths, each of them good
pub record Stored (s : Bytes) (lengths : List ℕ) (n : ℕ) : Type 0 where
  pub few : n ≤ 64
  pub fits : total (take n lengths) ≤ length s
  pub small : length s ≤ limit Delta
  pub good : All IsFine (cuts (take n lengths) s)

-- the last d of them merged, earliest first
abbrev pub last_merged : Bytes → List ℕ → ℕ → ℕ → D
last_merged s lengths n d = merge_all bytes bytes (map changes (last_n d (cuts (take n lengths) s)))
