-- What the comparisons of two messages ask.
use Rattle.std.specs.Prelude.{ℕ, ◌≡◌}
use Rattle.payload.specs.Content.{Bytes}
use Rattle.item.specs.Front.{front_key}
use Rattle.heard.specs.Place.{type_at, key_at, Payload}

-- a good payload message of this type stands at `at`
pub record Of (s : Bytes) (kind at : ℕ) : Type 0 where
  pub payload : Payload s at
  pub type : type_at s at ≡ kind

-- a good payload message stands at `at`, and f is the front of its record
pub record FrontOf (s : Bytes) (f at : ℕ) : Type 0 where
  pub payload : Payload s at
  pub is : f ≡ front_key (key_at s at)

-- the records at x and at y have the same front
pub record Fronted (s : Bytes) (x y : ℕ) : Type 0 where
  pub one : Payload s x
  pub other : Payload s y
  pub front : front_key (key_at s x) ≡ front_key (key_at s y)

-- and the messages this type
pub record Alike (s : Bytes) (kind x y : ℕ) : Type 0 where
  pub one : Of s kind x
  pub other : Of s kind y
  pub front : front_key (key_at s x) ≡ front_key (key_at s y)
