-- What the buffer keeps while the messages are walked: those behind `low` and not behind `top`.
use Rattle.std.specs.Prelude.{◌≡◌, ℕ, ◌+◌, ◌<◌, ◌≤◌, Bool, true, false, cond, not, ◌&&◌, List, [], ◌∷◌, ◌++◌, length, take, ◌==◌, slice_index, slice_set}
use Rattle.number.specs.Number.{word_at}
use Rattle.payload.specs.Content.{Bytes}
use Rattle.item.specs.Front.{front_key}
use Rattle.heard.specs.Place.{Messages, Payload, type_at, key_at, precedes}
use Rattle.sorting.specs.Sorted.{sorted}
use Rattle.sorting.specs.Sort.{SortedIs}
use Rattle.batch.specs.declared.collect.Part.{Part}
use Rattle.batch.specs.Next.{is_above}

-- those that pass a test
abbrev pub only : (ℕ → Bool) → List ℕ → List ℕ
only p [] = []
only p (x ∷ xs) = cond (p x) (x ∷ only p xs) (only p xs)

-- not behind the message at `top`; 0 stands behind all
unfoldable pub is_up_to : Bytes → ℕ → ℕ → Bool
is_up_to s top x = cond (top == 0) true (not (precedes s top x))

unfoldable pub is_wanted : Bytes → ℕ → ℕ → ℕ → Bool
is_wanted s low top x = is_above s low x && is_up_to s top x

-- the front of a message's record; of none (0), this number
unfoldable pub front_or : Bytes → ℕ → ℕ → ℕ
front_or s x none = cond (x == 0) none (front_key (key_at s x))

-- the word behind the front of an IPv6 prefix; of another message, and of none (0), this number
unfoldable pub word_or : Bytes → ℕ → ℕ → ℕ
word_or s x none = cond (x == 0) none (cond (type_at s x == 6) (word_at s (x + 18)) none)

-- x stands in the list
pub data In (x : ℕ) : List ℕ → Type 0 where
  here : {xs : List ℕ} → In x (x ∷ xs)
  there : {y : ℕ} {xs : List ℕ} → In x xs → In x (y ∷ xs)

-- 0 or a payload message
pub data Bound (s : Bytes) (x : ℕ) : Type 0 where
  none : x ≡ 0 → Bound s x
  one : Payload s x → Bound s x

-- ---- collecting

-- what the walk may assume: messages up to `stop`, and `low` 0 or one of them
pub record Told (s : Bytes) (stop low : ℕ) : Type 0 where
  pub xs : List ℕ
  pub messages : Messages s 8 xs stop
  pub bound : Bound s low

-- the fronts between which those lie that may be held
pub record Fronts (s : Bytes) (low : ℕ) (p : Part) : Type 0 where
  pub least : p.least ≡ front_or s low 0
  pub most : p.most ≡ front_or s p.top 18_446_744_073_709_551_615
  pub under : p.under ≡ word_or s low 0
  pub over : p.over ≡ word_or s p.top 18_446_744_073_709_551_615

-- false only for a number that is not between the two
pub record Sifted (x least most : ℕ) (r : Bool) : Type 0 where
  pub out : r ≡ false → least ≤ x → x ≤ most → ⊥

pub record Trims (s : Bytes) (low : ℕ) (l : List ℕ) (p : Part) : Type 0 where
  pub low_bound : Bound s low
  pub long : length l ≡ 6_000
  pub few : p.n ≤ 6_000
  pub held : (k : ℕ) → k < p.n → Payload s (slice_index l k)

-- a buffer with room stays; of a full one the lower part does, and its last is the top
pub data Trimmed (s : Bytes) (low : ℕ) (l₀ : List ℕ) (p₀ : Part) (l : List ℕ) (p : Part) : Type 0 where
  kept : p₀.n < 6_000 → l ≡ l₀ → p ≡ p₀ → Trimmed s low l₀ p₀ l p
  cut : p₀.n ≡ 6_000 → SortedIs s l₀ l → p.n ≡ 4_500 → p.top ≡ slice_index l 4_499 → Fronts s low p → Trimmed s low l₀ p₀ l p

-- what is asked for a message to be passed over by its front
pub record Meets (s : Bytes) (low at : ℕ) (p : Part) : Type 0 where
  pub low_bound : Bound s low
  pub top_bound : Bound s p.top
  pub fronts : Fronts s low p
  pub good : Payload s at

-- and by the word behind it: all that may be held have its front
pub record MeetsBehind (s : Bytes) (low at : ℕ) (p : Part) : Type 0 where
  pub meets : Meets s low at p
  pub one : p.least ≡ p.most
  pub front : front_key (key_at s at) ≡ p.least

-- it is not wanted, or nothing is known
pub data Passed (s : Bytes) (low at : ℕ) (p : Part) : Bool → Type 0 where
  surely : is_wanted s low p.top at ≡ false → Passed s low at p true
  unsure : Passed s low at p false

-- what is asked for a message to be taken in
pub record Takes (s : Bytes) (low at : ℕ) (l : List ℕ) (p : Part) : Type 0 where
  pub meets : Meets s low at p
  pub len : length l ≡ 6_000
  pub room : p.n < 6_000
  pub held : (k : ℕ) → k < p.n → Payload s (slice_index l k)

abbrev pub one_more : Part → Part
one_more p = record { n = p.n + 1; top = p.top; least = p.least; most = p.most; under = p.under; over = p.over }

-- it is passed over, or it stands behind those held
pub data Taken (s : Bytes) (low at : ℕ) (l₀ : List ℕ) (p₀ : Part) (l : List ℕ) (p : Part) : Type 0 where
  passed : is_wanted s low p₀.top at ≡ false → l ≡ l₀ → p ≡ p₀ → Taken s low at l₀ p₀ l p
  taken : is_wanted s low p₀.top at ≡ true → Trimmed s low (slice_set l₀ p₀.n at) (one_more p₀) l p → Taken s low at l₀ p₀ l p

-- two of them, one after the other
pub data TakesTwo (s : Bytes) (low a b : ℕ) (l : List ℕ) (p : Part) : Type 0 where
  both : Takes s low a l p → Payload s b → TakesTwo s low a b l p

pub data TakenTwo (s : Bytes) (low a b : ℕ) (l₀ : List ℕ) (p₀ : Part) (l : List ℕ) (p : Part) : Type 0 where
  both : (m : List ℕ) (q : Part) → Taken s low a l₀ p₀ m q → Taken s low b m q l p → TakenTwo s low a b l₀ p₀ l p

-- 0, or one of these messages, behind `low`
pub data TopIs (s : Bytes) (xs : List ℕ) (low top : ℕ) : Type 0 where
  all : top ≡ 0 → TopIs s xs low top
  one : In top xs → is_above s low top ≡ true → TopIs s xs low top

-- of the messages xs those in ws are met: the buffer holds, in some order, those of them behind `low` and not behind the top
pub record Holds (s : Bytes) (xs ws : List ℕ) (low : ℕ) (l : List ℕ) (p : Part) : Type 0 where
  pub low_bound : Bound s low
  pub fronts : Fronts s low p
  pub len : length l ≡ 6_000
  pub room : p.n < 6_000
  pub held : (k : ℕ) → k < p.n → Payload s (slice_index l k)
  pub is : sorted s (take p.n l) ≡ sorted s (only (is_wanted s low p.top) ws)
  pub top : TopIs s xs low p.top

-- of the messages up to `stop` those before `at` are met
pub data WalkedTo (s : Bytes) (stop low at : ℕ) (l : List ℕ) (p : Part) : Type 0 where
  walked : (ps rest : List ℕ) → Messages s 8 ps at → Messages s at rest stop → Holds s (ps ++ rest) ps low l p → WalkedTo s stop low at l p

-- the buffer holds, in some order, the messages up to `stop` behind `low` and not behind the top
pub record Collected (s : Bytes) (stop low : ℕ) (l : List ℕ) (p : Part) : Type 0 where
  pub xs : List ℕ
  pub messages : Messages s 8 xs stop
  pub len : length l ≡ 6_000
  pub room : p.n < 6_000
  pub held : (k : ℕ) → k < p.n → Payload s (slice_index l k)
  pub is : sorted s (take p.n l) ≡ sorted s (only (is_wanted s low p.top) xs)
  pub top : TopIs s xs low p.top
