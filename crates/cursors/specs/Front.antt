-- The front of a run: the first eight bytes of its first key as one number; and 64 fronts with the lowest of each eight.
use Rattle.std.specs.Prelude.{ℕ, ◌+◌, ◌*◌, ◌≤◌, ◌<◌, ◌≡◌, List, [], ◌∷◌, Bool, true, length, get_or, set, Option, None, Some}
use Rattle.std.proofs.Math.Option.{none, some}
use Rattle.order.specs.Comparison.{bytes}
use Rattle.order.specs.Many.{lower_of, least, first, past}
use Rattle.change.specs.Merge.{merge_at}
use Rattle.number.specs.Bytes.{AllBytes}
use Rattle.field.specs.If.{If}
use Rattle.payload.specs.Content.{Bytes}
use Rattle.item.specs.Front.{front_key, top}
use Rattle.item.specs.Place.{held_in, Holds}
use Rattle.cursors.specs.declared.least.Lower.{Lower}
use Rattle.cursors.specs.Cursor.{D, run, runs, Stands, Within, key_at, Filled, HeldAt}
use Rattle.item.specs.declared.place.Act.{Act}
use Rattle.cursors.specs.declared.least.Lead.{Lead}

-- ---- one front

abbrev pub front_of : D → ℕ
front_of [] = top
front_of (x ∷ d) = front_key x.key

-- the first key, if there is one, is made of bytes, and its kind is low
abbrev pub HeadBytes : D → Type 0
HeadBytes [] = Unit {0}
HeadBytes (x ∷ d) = AllBytes x.key × (front_key x.key < top)

-- v is the front of the run from p up to e
pub record Fronts (s : Bytes) (p e v : ℕ) : Type 0 where
  pub is : v ≡ front_of (run s p e)
  pub octets : HeadBytes (run s p e)

-- ---- many: 64 of them, then the lowest of each eight

pub data Sits (f : List ℕ) (a b m : ℕ) : Type 0 where
  nowhere : m ≡ top → Sits f a b m
  on : (j : ℕ) → a ≤ j → j < b → get_or f j 0 ≡ m → Sits f a b m

-- m is the lowest from a up to b
pub record Lowest (f : List ℕ) (a b m : ℕ) : Type 0 where
  pub under : (j : ℕ) → a ≤ j → j < b → m ≤ get_or f j 0
  pub sits : Sits f a b m

pub record Blocks (f : List ℕ) : Type 0 where
  pub long : length f ≡ 72
  pub lows : (b : ℕ) → b < 8 → Lowest f (8 * b) (8 * b + 8) (get_or f (64 + b) 0)

-- r is the first place from `from` on with this front; or there is none below n
pub record Finds (f : List ℕ) (low from n r : ℕ) : Type 0 where
  pub other : (j : ℕ) → from ≤ j → j < r → j < n → get_or f j 0 ≡ low → ⊥
  pub found : r < n → get_or f r 0 ≡ low
  pub ahead : from ≤ r

-- the eights from `from` up to b are above low
pub record Skips (f : List ℕ) (low from b : ℕ) : Type 0 where
  pub above : (j : ℕ) → from ≤ j → j < b → low < get_or f (64 + j) 0
  pub ahead : from ≤ b
  pub small : b ≤ 8

-- the front at r is v now
pub record Settled (f₀ f : List ℕ) (r v : ℕ) : Type 0 where
  pub blocks : Blocks f
  pub same_long : length f ≡ length f₀
  pub here : get_or f r 0 ≡ v
  pub others : (j : ℕ) → j < 64 → (j ≡ r → ⊥) → get_or f j 0 ≡ get_or f₀ j 0

-- the fronts of the runs from `from` up to n; all others are above each front
pub record Lined (s : Bytes) (at ends : List ℕ) (from n : ℕ) (f : List ℕ) : Type 0 where
  pub blocks : Blocks f
  pub each : (r : ℕ) → from ≤ r → r < n → Fronts s (get_or at r 0) (get_or ends r 0) (get_or f r 0)
  pub before : (r : ℕ) → r < from → r < 64 → get_or f r 0 ≡ top
  pub behind : (r : ℕ) → n ≤ r → r < 64 → get_or f r 0 ≡ top

-- the same, closed: a search does not look into it
pub data Fronted (s : Bytes) (at ends : List ℕ) (from n : ℕ) (f : List ℕ) : Type 0 where
  lined : Lined s at ends from n f → Fronted s at ends from n f

abbrev pub line : {s : Bytes} {at ends : List ℕ} {from n : ℕ} {f : List ℕ} → Fronted s at ends from n f → Lined s at ends from n f
line (lined l) = l

-- ---- the least key, by its front

-- what the search for the least key may assume
pub record Looks (s : Bytes) (at ends : List ℕ) (from n : ℕ) (f : List ℕ) (low : ℕ) : Type 0 where
  pub within : Within s at ends n
  pub fronted : Fronted s at ends from n f
  pub lowest : Lowest f 64 72 low

-- two runs that have an item
pub record Pair (s : Bytes) (at ends : List ℕ) (b p : ℕ) : Type 0 where
  pub long : length at ≡ 64
  pub long_ends : length ends ≡ 64
  pub small : (b < 64) × (p < 64)
  pub earlier : Filled s (get_or at b 0) (get_or ends b 0)
  pub later : Filled s (get_or at p 0) (get_or ends p 0)

-- r is one of the two
pub data OneOf (b p r : ℕ) : Type 0 where
  left : r ≡ b → OneOf b p r
  right : r ≡ p → OneOf b p r

abbrev pub key_of_run : Bytes → List ℕ → List ℕ → ℕ → Bytes
key_of_run s at ends r = key_at s (get_or at r 0) (get_or ends r 0)

-- the run is b or p, whichever stands lower; `same` stays only where both stand at one key
pub record Lowers (s : Bytes) (at ends : List ℕ) (b p : ℕ) (same : Bool) (r : Lower) : Type 0 where
  pub one : OneOf b p r.run
  pub key : key_of_run s at ends r.run ≡ lower_of (bytes (key_of_run s at ends b) (key_of_run s at ends p)) (key_of_run s at ends b) (key_of_run s at ends p)
  pub before : r.same ≡ true → same ≡ true
  pub alike : r.same ≡ true → (key_of_run s at ends b ≡ key_of_run s at ends p) × (r.run ≡ b)

-- the first run and the last with the lowest front
pub record Tied (f : List ℕ) (low from n first last : ℕ) : Type 0 where
  pub ahead : from ≤ first
  pub ordered : first ≤ last
  pub inside : last < n
  pub others : (j : ℕ) → from ≤ j → j < n → get_or f j 0 ≡ low → (first ≤ j) × (j ≤ last)

-- all runs with the lowest front stand at the first key of the run from p up to e
abbrev pub Alike : Bytes → List ℕ → List ℕ → List ℕ → ℕ → ℕ → ℕ → ℕ → ℕ → Type 0
Alike s at ends f low first last p e = (j : ℕ) → first ≤ j → j ≤ last → get_or f j 0 ≡ low → key_of_run s at ends j ≡ key_at s p e

-- the run from p up to e stands at the least key
pub record LeastIs (s : Bytes) (at ends : List ℕ) (from n : ℕ) (f : List ℕ) (low p e first last : ℕ) (same : Bool) : Type 0 where
  pub alike : same ≡ true → Alike s at ends f low first last p e
  pub filled : Filled s p e
  pub key : least bytes (runs s at ends from n) ≡ some (key_at s p e)
  pub front : low ≡ front_key (key_at s p e)
  pub some_left : low < top
  pub tied : Tied f low from n first last

-- what was found, closed: a search does not look into it
pub data LeastBy (s : Bytes) (at ends : List ℕ) (from n : ℕ) (f : List ℕ) (low : ℕ) (r : Option Lead) : Type 0 where
  nowhere_left : r ≡ None → least bytes (runs s at ends from n) ≡ none → LeastBy s at ends from n f low r
  stands_at : (l : Lead) → r ≡ Some l → LeastIs s at ends from n f low l.at l.end l.first l.last l.same → LeastBy s at ends from n f low r

-- what the gathering at the first key of the run from q up to g may assume
pub record Meets (s : Bytes) (at ends : List ℕ) (from n : ℕ) (f : List ℕ) (low first last q g : ℕ) (same : Bool) : Type 0 where
  pub alike : same ≡ true → Alike s at ends f low first last q g
  pub key : Filled s q g
  pub within : Within s at ends n
  pub fronted : Fronted s at ends from n f
  pub front : low ≡ front_key (key_at s q g)
  pub some_left : low < top
  pub tied : Tied f low from n first last

-- a run goes on at a place of it
pub record Advances (s : Bytes) (at ends f : List ℕ) (p next : ℕ) : Type 0 where
  pub long : length at ≡ 64
  pub long_ends : length ends ≡ 64
  pub blocks : Blocks f
  pub small : p < 64
  pub stands : Stands s next (get_or ends p 0)

pub record Advanced (s : Bytes) (ends f₀ f : List ℕ) (p next : ℕ) : Type 0 where
  pub front : ℕ
  pub is : Fronts s next (get_or ends p 0) front
  pub settled : Settled f₀ f p front

-- what run p says of the first key of the run from q up to g is taken
pub record Takes (s : Bytes) (at ends f : List ℕ) (p q g : ℕ) (same : Bool) (held : Option Act) : Type 0 where
  pub alike : If same (key_of_run s at ends p ≡ key_at s q g)
  pub key : Filled s q g
  pub long : length at ≡ 64
  pub long_ends : length ends ≡ 64
  pub blocks : Blocks f
  pub small : p < 64
  pub filled : Filled s (get_or at p 0) (get_or ends p 0)
  pub front : Fronts s (get_or at p 0) (get_or ends p 0) (get_or f p 0)
  pub inside : HeldAt s held

pub record Taken (s : Bytes) (at₀ at ends f₀ f : List ℕ) (p q g : ℕ) (held r : Option Act) : Type 0 where
  pub place : ℕ
  pub moved : at ≡ set at₀ p place
  pub stands : Stands s place (get_or ends p 0)
  pub gone : run s place (get_or ends p 0) ≡ past bytes (key_at s q g) (run s (get_or at₀ p 0) (get_or ends p 0))
  pub fronts : Advanced s ends f₀ f p place
  pub holds : Holds s s (merge_at bytes (held_in s s held) (first bytes (key_at s q g) (run s (get_or at₀ p 0) (get_or ends p 0)))) r
