-- What is known of the messages beforehand, for speed: chunks of them with their first and last in message order, and hints.
use Rattle.std.specs.Prelude.{◌≡◌, ℕ, ◌<◌, ◌≤◌, Bool, true, false, List, length, take, ◌≢◌, slice_index, slice_index_or}
use Rattle.payload.specs.Content.{Bytes}
use Rattle.heard.specs.Place.{Messages, Payload, precedes}
use Rattle.batch.specs.declared.collect.Part.{Part}
use Rattle.batch.specs.declared.map.Chunk.{Chunk}
use Rattle.batch.specs.declared.map.Map.{Map}
use Rattle.batch.specs.declared.survey.Filled.{Filled}
use Rattle.batch.specs.declared.survey.Charted.{Charted}
use Rattle.batch.specs.Next.{is_above}
use Rattle.batch.specs.Keep.{In, Bound, is_up_to, Fronts}

-- x is one of the messages up to `stop`
pub record Hint (s : Bytes) (stop x : ℕ) : Type 0 where
  pub good : Payload s x
  pub among : (xs : List ℕ) → Messages s 8 xs stop → In x xs

-- 0, or one of the messages
pub data HintAt (s : Bytes) (stop x : ℕ) : Type 0 where
  none : x ≡ 0 → HintAt s stop x
  one : Hint s stop x → HintAt s stop x

-- 960 hints
pub record Hinted (s : Bytes) (stop : ℕ) (l : List ℕ) : Type 0 where
  pub long : length l ≡ 960
  pub each : (k : ℕ) → k < 960 → HintAt s stop (slice_index l k)

-- messages from `at` to `stop`
pub record Stretch (s : Bytes) (at stop : ℕ) : Type 0 where
  pub xs : List ℕ
  pub messages : Messages s at xs stop

-- a stretch of messages, one of them at `mid`, none before `least` or behind `most`
pub record ChunkIs (s : Bytes) (stop : ℕ) (c : Chunk) : Type 0 where
  pub cs : List ℕ
  pub messages : Messages s c.from cs c.over
  pub first : Stretch s c.from c.mid
  pub second : Stretch s c.mid c.over
  pub within : c.over ≤ stop
  pub least_good : Payload s c.least
  pub most_good : Payload s c.most
  pub lowest : (x : ℕ) → In x cs → precedes s x c.least ≡ false
  pub highest : (x : ℕ) → In x cs → precedes s c.most x ≡ false

-- 112 chunks; where one starts at 0, none
pub record Marked (s : Bytes) (stop : ℕ) (l : List Chunk) : Type 0 where
  pub long : length l ≡ 112
  pub each : (c : ℕ) (d : Chunk) → c < 112 → ((slice_index_or l c d).from ≢ 0) → ChunkIs s stop (slice_index_or l c d)

-- chunks, and hints; how many hints there are and how many a batch may reach over touches speed alone
pub record Mapped (s : Bytes) (stop : ℕ) (m : Map) : Type 0 where
  pub marked : Marked s stop m.chunks
  pub hinted : Hinted s stop m.hints

-- where a batch may end: 0 for anywhere, or at a message behind `low`
pub data Tops (s : Bytes) (stop low top : ℕ) : Type 0 where
  all : top ≡ 0 → Tops s stop low top
  one : Hint s stop top → is_above s low top ≡ true → Tops s stop low top

-- what the test of a chunk may assume
pub record Clears (s : Bytes) (low : ℕ) (p : Part) (least most : ℕ) : Type 0 where
  pub low_bound : Bound s low
  pub top_bound : Bound s p.top
  pub fronts : Fronts s low p
  pub least_good : Payload s least
  pub most_good : Payload s most

-- nothing of a chunk is wanted
pub data Clear (s : Bytes) (low top least most : ℕ) : Bool → Type 0 where
  unsure : Clear s low top least most false
  before : is_above s low most ≡ false → Clear s low top least most true
  behind : is_up_to s top least ≡ false → Clear s low top least most true

-- ---- the survey

pub record FilledIs (s : Bytes) (from stop : ℕ) (l : List ℕ) (r : Filled) : Type 0 where
  pub cs : List ℕ
  pub messages : Messages s from cs r.over
  pub rest : List ℕ
  pub ahead : Messages s r.over rest stop
  pub few : r.n ≤ 6_000
  pub len : length l ≡ 6_000
  pub is : take r.n l ≡ cs
  pub moves : from < stop → from < r.over
  pub some : from < stop → 1 ≤ r.n

-- y is one of the first n
pub record Among (b : List ℕ) (n y : ℕ) : Type 0 where
  pub i : ℕ
  pub within : i < n
  pub is : y ≡ slice_index b i

-- a hint is as it was or one of those drawn from
pub data Drew (b : List ℕ) (n x y : ℕ) : Type 0 where
  old : y ≡ x → Drew b n x y
  new : Among b n y → Drew b n x y

-- what is asked to draw from the first n
pub record Draws (b : List ℕ) (n every : ℕ) (l : List ℕ) (held : ℕ) : Type 0 where
  pub len : length b ≡ 6_000
  pub within : n ≤ 6_000
  pub some : 1 ≤ every
  pub small : every < 4_294_967_296
  pub long : length l ≡ 960
  pub few : held ≤ 960

pub record Drawn (b : List ℕ) (n : ℕ) (l₀ : List ℕ) (held : ℕ) (l : List ℕ) (r : ℕ) : Type 0 where
  pub long : length l ≡ length l₀
  pub ahead : held ≤ r
  pub few : r ≤ 960
  pub each : (k : ℕ) → Drew b n (slice_index l₀ k) (slice_index l k)
  pub before : (k : ℕ) → k < held → slice_index l k ≡ slice_index l₀ k
  pub fresh : (k : ℕ) → held ≤ k → k < r → Among b n (slice_index l k)

-- at the start, or at `mid`
pub data CutAt (at mid r : ℕ) : Type 0 where
  start : r ≡ at → CutAt at mid r
  middle : r ≡ mid → CutAt at mid r

-- what is asked for a chunk to be surveyed
pub record Starts (s : Bytes) (stop at : ℕ) (l : List ℕ) : Type 0 where
  pub stretch : Stretch s at stop
  pub ahead : at < stop
  pub len : length l ≡ 6_000

-- a chunk is surveyed: the buffer holds its messages
pub record ChartedIs (s : Bytes) (stop at : ℕ) (l : List ℕ) (r : Charted) : Type 0 where
  pub chunk : ChunkIs s stop r.chunk
  pub from : r.chunk.from ≡ at
  pub stretch : Stretch s r.chunk.over stop
  pub moves : at < r.chunk.over
  pub len : length l ≡ 6_000
  pub few : r.n ≤ 6_000
  pub each : (i : ℕ) → i < r.n → In (slice_index l i) chunk.cs

-- what the survey may assume
pub record Surveys (s : Bytes) (stop : ℕ) (m : Map) (l : List ℕ) : Type 0 where
  pub stretch : Stretch s 8 stop
  pub mapped : Mapped s stop m
  pub len : length l ≡ 6_000

-- the chunks are surveyed: the first r hints are messages
pub record Surveyed (s : Bytes) (stop : ℕ) (m : Map) (l : List ℕ) (r : ℕ) : Type 0 where
  pub mapped : Mapped s stop m
  pub len : length l ≡ 6_000
  pub few : r ≤ 960
  pub each : (k : ℕ) → k < r → Hint s stop (slice_index m.hints k)

-- what is asked for the hints to be lined up
pub record Lines (s : Bytes) (stop : ℕ) (m : Map) (held : ℕ) : Type 0 where
  pub mapped : Mapped s stop m
  pub few : held ≤ 960
  pub each : (k : ℕ) → k < held → Hint s stop (slice_index m.hints k)
