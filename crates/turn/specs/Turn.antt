-- A turn of the walk over two runs: whose item goes first.
use Rattle.std.specs.Prelude.{ℕ, ◌≡◌, [], drop, Some}
use Rattle.order.specs.Comparison.{bytes}
use Rattle.order.specs.Map.{Below}
use Rattle.field.specs.Places.{key_in}
use Rattle.payload.specs.Content.{Bytes}
use Rattle.item.specs.declared.reading.Reading.{Reading}
use Rattle.turn.specs.declared.turn.Side.TheVariants as side
use Rattle.turn.specs.declared.turn.Turn.{Turn}
use Rattle.turn.specs.declared.turn.Turn.TheVariants.{Over, Left, Right, Both}
use Rattle.item.specs.Reading.{read_as, Reads}

module _ (ra : Reading) (a : Bytes) (i : ℕ) (rb : Reading) (b : Bytes) (j : ℕ) where
  -- one side has run out: the other still has fields; the lower key goes first; both have it
  abbrev pub TurnMeans : Turn → Type 0
  TurnMeans (Over side.Left) = read_as rb (drop j b) ≡ []
  TurnMeans (Over side.Right) = read_as ra (drop i a) ≡ []
  TurnMeans (Left x) = Reads ra a i (Some x) × Below bytes (key_in a x.key) (read_as rb (drop j b))
  TurnMeans (Right y) = Reads rb b j (Some y) × Below bytes (key_in b y.key) (read_as ra (drop i a))
  TurnMeans (Both x y) = Reads ra a i (Some x) × Reads rb b j (Some y) × (key_in a x.key ≡ key_in b y.key)

  pub record TurnIs (r : Turn) : Type 0 where
    pub is : TurnMeans r
