-- The walk over many runs of the delta store at once: a cursor stands in each run, and each run has its end.
use Rattle.std.specs.Prelude.{ℕ, zero, suc, ◌+◌, ◌-◌, ◌≤◌, ◌<◌, ◌≡◌, cond, eqb, length, get_or, take, drop, None, Some}
use mathlib.Core.List.{List, [], ◌∷◌, map, foldl}
use Rattle.std.proofs.Math.Option.{Option, none, some}
use Rattle.order.specs.Comparison.{bytes}
use Rattle.order.specs.Map.{All, Sorted}
use Rattle.order.specs.Many.{first, past}
use Rattle.change.specs.Change.{Change}
use Rattle.change.specs.Difference as change
use Rattle.change.specs.Merge.{merge_at, merge_all}
use Rattle.body.specs.declared.tag.Form.TheVariants.{Delta}
use Rattle.field.specs.declared.key.Key.{Key}
use Rattle.field.specs.Places.{key_in}
use Rattle.payload.specs.Content.{Bytes}
use Rattle.payload.specs.Payload.{changes}
use Rattle.payload.specs.Limit.{limit}
use Rattle.item.specs.declared.place.Act.{Act}
use Rattle.item.specs.declared.place.Act.TheVariants.{Announce, Withdraw}
use Rattle.item.specs.declared.place.Entry.{Entry}
use Rattle.item.specs.declared.reading.Reading.TheVariants.{Changes}
use Rattle.item.specs.Place.{item_in, change_in, HeldFits, ActFits, KeyIn, Holds}
use Rattle.item.specs.Reading.{Ready}
use Rattle.std.specs.Prelude as opt

abbrev pub D : Type 0
D = change.Delta Bytes Bytes

-- ---- runs

-- the changes of the store from p up to e
unfoldable pub run : Bytes → ℕ → ℕ → D
run s p e = changes (drop p (take e s))

-- m runs, from the r-th on
unfoldable pub runs_n : Bytes → List ℕ → List ℕ → ℕ → ℕ → List D
runs_n s at ends r zero = []
runs_n s at ends r (suc m) = run s (get_or at r 0) (get_or ends r 0) ∷ runs_n s at ends (suc r) m

-- the runs that take part: those from `from` up to n
abbrev pub runs : Bytes → List ℕ → List ℕ → ℕ → ℕ → List D
runs s at ends from n = runs_n s at ends from (n - from)

-- what is left of them, merged: the earliest one first
abbrev pub left_of : Bytes → List ℕ → List ℕ → ℕ → ℕ → D
left_of s at ends from n = merge_all bytes bytes (runs s at ends from n)

-- how many items lists have
abbrev pub items_in : List D → ℕ
items_in [] = 0
items_in (d ∷ ds) = length d + items_in ds

abbrev pub items_left : Bytes → List ℕ → List ℕ → ℕ → ℕ → ℕ
items_left s at ends from n = items_in (runs s at ends from n)

-- ---- cursors

-- from p up to e the store is a good run
pub record Stands (s : Bytes) (p e : ℕ) : Type 0 where
  pub ready : Ready Changes (take e s) p
  pub within : e ≤ length s

-- so for each of the first n cursors
pub record Within (s : Bytes) (at ends : List ℕ) (n : ℕ) : Type 0 where
  pub few : n ≤ 64
  pub long : length at ≡ 64
  pub long_ends : length ends ≡ 64
  pub each : (r : ℕ) → r < n → Stands s (get_or at r 0) (get_or ends r 0)

-- and what is left of the runs ascends
pub record Walks (s : Bytes) (at ends : List ℕ) (from n : ℕ) : Type 0 where
  pub within : Within s at ends n
  pub up : All (Sorted bytes) (runs s at ends from n)

-- ---- one cursor

-- an item of the store, and where its run goes on
pub record EntryFits (s : Bytes) (e : ℕ) (x : Entry) : Type 0 where
  pub key : KeyIn s x.key
  pub act : ActFits s s x.act
  pub stands : Stands s x.next e

abbrev pub HeadFits : Bytes → ℕ → opt.Option Entry → Type 0
HeadFits s e None = Unit {0}
HeadFits s e (Some x) = EntryFits s e x

abbrev pub head_is : Bytes → ℕ → opt.Option Entry → D
head_is s e None = []
head_is s e (Some x) = item_in s s x.key x.act ∷ run s x.next e

-- the run from p up to e by its first item
pub record Heads (s : Bytes) (p e : ℕ) (r : opt.Option Entry) : Type 0 where
  pub fits : HeadFits s e r
  pub is : run s p e ≡ head_is s e r

-- ---- the first key of a run

-- of an empty one no bytes
abbrev pub head_key : D → Bytes
head_key [] = []
head_key (x ∷ d) = x.key

abbrev pub key_at : Bytes → ℕ → ℕ → Bytes
key_at s p e = head_key (run s p e)

-- the run from p up to e has an item
pub record Filled (s : Bytes) (p e : ℕ) : Type 0 where
  pub stands : Stands s p e
  pub some : run s p e ≡ [] → ⊥

-- ---- the changes at a key

pub record HeldAt (s : Bytes) (h : opt.Option Act) : Type 0 where
  pub fits : HeldFits s s h

-- a change of the store, and a place where its run goes on
pub record ChangeFits (s : Bytes) (e : ℕ) (a : Act) (next : ℕ) : Type 0 where
  pub act : ActFits s s a
  pub stands : Stands s next e

abbrev pub SaidFits : Bytes → ℕ → opt.Option (Act × ℕ) → Type 0
SaidFits s e None = Unit {0}
SaidFits s e (Some (a, next)) = ChangeFits s e a next

abbrev pub change_said : Bytes → opt.Option (Act × ℕ) → Option (Change Bytes)
change_said s None = none
change_said s (Some (a, next)) = some (change_in s s a)

abbrev pub behind : ℕ → opt.Option (Act × ℕ) → ℕ
behind p None = p
behind p (Some (a, next)) = next

-- the change of an origin with this tag, whose field ends at `to`
abbrev pub origin_act : ℕ → ℕ → Act
origin_act tag to = cond (eqb tag 0x11) (Announce (record { from = to; to = to })) (Withdraw (record { from = to; to = to }))

-- one run: its change at k, if it has one, and the run past k
pub record Says (s : Bytes) (p e : ℕ) (k : Bytes) (r : opt.Option (Act × ℕ)) : Type 0 where
  pub fits : SaidFits s e r
  pub change : first bytes k (run s p e) ≡ change_said s r
  pub gone : run s (behind p r) e ≡ past bytes k (run s p e)

-- all runs: their changes at k, merged, and the runs past it
pub record Gathered (s : Bytes) (at₀ at ends : List ℕ) (from n : ℕ) (k : Bytes) (r : opt.Option Act) : Type 0 where
  pub holds : Holds s s (foldl (merge_at bytes) none (map (first bytes k) (runs s at₀ ends from n))) r
  pub within : Within s at ends n
  pub gone : runs s at ends from n ≡ map (past bytes k) (runs s at₀ ends from n)

-- ---- the next item

-- an item of the store
pub record ItemFits (s : Bytes) (k : Key) (a : Act) : Type 0 where
  pub key : KeyIn s k
  pub act : ActFits s s a

-- a change at the first key of the run from p up to e
pub data Made (s : Bytes) (p e : ℕ) (a : Act) (r : opt.Option (Key × Act)) : Type 0 where
  made : (k : Key) → KeyIn s k → key_in s k ≡ key_at s p e → r ≡ Some (k, a) → Made s p e a r

abbrev pub yields : Bytes → opt.Option (Key × Act) → D → D
yields s None d = []
yields s (Some (key, act)) d = item_in s s key act ∷ d

abbrev pub NextFits : Bytes → ℕ → ℕ → opt.Option (Key × Act) → Type 0
NextFits s before after None = Unit {0}
NextFits s before after (Some (key, act)) = ItemFits s key act × (after < before)

-- what was left is this item and what is left now; with an item, fewer are left in the runs
pub record NextIs (s : Bytes) (at₀ at ends : List ℕ) (from n : ℕ) (r : opt.Option (Key × Act)) : Type 0 where
  pub walks : Walks s at ends from n
  pub fits : NextFits s (items_left s at₀ ends from n) (items_left s at ends from n) r
  pub is : left_of s at₀ ends from n ≡ yields s r (left_of s at ends from n)

-- the runs that take part have no more items than a delta store has bytes
pub record Bounded (s : Bytes) (at ends : List ℕ) (from n : ℕ) : Type 0 where
  pub walks : Walks s at ends from n
  pub few : items_left s at ends from n ≤ limit Delta
