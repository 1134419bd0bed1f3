-- What the changes of a delta say as messages. A snapshot says what the difference from the empty one says.
use Rattle.std.specs.Prelude.{ℕ, ◌+◌, List, [], ◌∷◌, ◌++◌, map, cond, eqb, get_or}
use Rattle.order.specs.Map.{Item}
use Rattle.change.specs.Change.{Change}
use Rattle.change.specs.Difference.{Delta}
use Rattle.serial.specs.declared.timing.Timing.{Timing}
use Rattle.payload.specs.Content.{Bytes}
use Rattle.message.specs.declared.version.Version.{Version}
use Rattle.message.specs.Version.{speaks}
use Rattle.message.specs.Message.{Message, cache_response, end_of_data}
use Rattle.message.specs.Record.{message_of, flags_of}

module _ {A : Type 0} where
  -- the kind of an item
  abbrev pub kind_in : Item Bytes A → ℕ
  kind_in x = get_or x.key 0 0

  -- those of the kinds that a version speaks of
  unfoldable pub spoken : Version → List (Item Bytes A) → List (Item Bytes A)
  spoken v [] = []
  spoken v (x ∷ D) = cond (speaks v (kind_in x)) (x ∷ spoken v D) (spoken v D)

  -- how many are of a kind
  unfoldable pub of_kind : ℕ → List (Item Bytes A) → ℕ
  of_kind kind [] = 0
  of_kind kind (x ∷ D) = cond (eqb (kind_in x) kind) 1 0 + of_kind kind D

  -- how many of a kind are left out
  abbrev pub skipped : Version → ℕ → List (Item Bytes A) → ℕ
  skipped v kind D = cond (speaks v kind) 0 (of_kind kind D)

-- the message of an item
abbrev pub say_of : Item Bytes (Change Bytes) → Message
say_of x = message_of (flags_of x.val) x.key

-- the messages of a delta, in its order
abbrev pub said : Version → Delta Bytes Bytes → List Message
said v D = map say_of (spoken v D)

-- a whole answer: Cache Response, what is said, End of Data
abbrev pub answer : Version → (session serial : ℕ) → Timing → Delta Bytes Bytes → List Message
answer v session serial times D = cache_response session ∷ (said v D ++ (end_of_data session serial times ∷ []))
