-- What the sort asks and gives.
use Rattle.std.specs.Prelude.{ℕ, ◌+◌, ◌-◌, ◌≤◌, ◌<◌, ◌≡◌, List, ◌++◌, Bool, true, false, length, get_or, take, drop}
use Rattle.payload.specs.Content.{Bytes}
use Rattle.heard.specs.Place.{Payload, precedes}
use Rattle.sorting.specs.Sorted.{sorted}

-- each offset held is that of a payload message
pub record Held (s : Bytes) (l : List ℕ) : Type 0 where
  pub each : (k : ℕ) → k < length l → Payload s (get_or l k 0)

pub record SortedIs (s : Bytes) (l₀ l : List ℕ) : Type 0 where
  pub held : Held s l
  pub is : l ≡ sorted s l₀

pub record FirstSorted (s : Bytes) (l₀ : List ℕ) (n : ℕ) (l : List ℕ) : Type 0 where
  pub long : length l ≡ length l₀
  pub is : take n l ≡ sorted s (take n l₀)
  pub rest : drop n l ≡ drop n l₀

pub record Ascends (s : Bytes) (l : List ℕ) (r : Bool) : Type 0 where
  pub same : r ≡ true → sorted s l ≡ l

-- ---- one goes down

-- the first i are in message order
pub record Climbs (s : Bytes) (l : List ℕ) (i : ℕ) : Type 0 where
  pub up : (a b : ℕ) → a < b → b < i → precedes s (get_or l b 0) (get_or l a 0) ≡ false

-- one at i goes down among those before it
pub record Settles (s : Bytes) (l : List ℕ) (i : ℕ) : Type 0 where
  pub held : Held s l
  pub within : i < length l

pub record Settled (s : Bytes) (l₀ l : List ℕ) (i : ℕ) : Type 0 where
  pub held : Held s l
  pub long : length l ≡ length l₀
  pub same : sorted s l ≡ sorted s l₀
  pub order : Climbs s l₀ i → Climbs s l (i + 1)

-- ---- two runs are merged

-- the first m and the copy of the others are each in order
pub record Weaves (s : Bytes) (l : List ℕ) (m : ℕ) (c : List ℕ) : Type 0 where
  pub left_held : Held s (take m l)
  pub right_held : Held s c
  pub left : sorted s (take m l) ≡ take m l
  pub right : sorted s c ≡ c
  pub left_some : 1 ≤ m
  pub right_some : 1 ≤ length c
  pub long : length l ≡ m + length c

-- with the first r of the copy at the front they are one run
pub record Woven (s : Bytes) (l₀ : List ℕ) (m : ℕ) (c l : List ℕ) (r : ℕ) : Type 0 where
  pub long : length l ≡ length l₀
  pub few : r ≤ length c
  pub is : take r c ++ drop r l ≡ sorted s (take m l₀ ++ c)

-- the first m and the others are each in order, and `spare` has room for the others
pub record Merges (s : Bytes) (l : List ℕ) (m : ℕ) (spare : List ℕ) : Type 0 where
  pub held : Held s l
  pub room : length l - m ≤ length spare
  pub left : sorted s (take m l) ≡ take m l
  pub right : sorted s (drop m l) ≡ drop m l

-- ---- runs of a width

-- each w of them are in order, and what is left at the end is
pub data Runs (s : Bytes) (w : ℕ) : List ℕ → Type 0 where
  last : {l : List ℕ} → length l ≤ w → sorted s l ≡ l → Runs s w l
  more : {l : List ℕ} → w ≤ length l → sorted s (take w l) ≡ take w l → Runs s w (drop w l) → Runs s w l

pub record RunsAre (s : Bytes) (l₀ : List ℕ) (w : ℕ) (l : List ℕ) : Type 0 where
  pub held : Held s l
  pub same : sorted s l ≡ sorted s l₀
  pub runs : Runs s w l

-- two runs become one; `spare` has room for 448
pub record Doubles (s : Bytes) (l : List ℕ) (w : ℕ) (spare : List ℕ) : Type 0 where
  pub held : Held s l
  pub runs : Runs s w l
  pub some : 1 ≤ w
  pub small : w ≤ 448
  pub room : length spare ≡ 448

-- ---- blocks of 448

pub record Block (s : Bytes) (l spare : List ℕ) : Type 0 where
  pub held : Held s l
  pub small : length l ≤ 448
  pub room : length spare ≡ 448

-- the first m are in order, and the others a block
pub record Extends (s : Bytes) (l : List ℕ) (m : ℕ) (spare : List ℕ) : Type 0 where
  pub held : Held s l
  pub within : m < length l
  pub small : length l - m ≤ 448
  pub room : length spare ≡ 448
  pub left : sorted s (take m l) ≡ take m l
