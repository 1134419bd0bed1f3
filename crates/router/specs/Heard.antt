-- The items that are heard in an answer.
use Rattle.std.specs.Prelude.{ℕ, ◌+◌, ◌≡◌, List, [], ◌∷◌, true, length}
use Rattle.order.specs.Map.{Item}
use Rattle.change.specs.Change.{Change}
use Rattle.number.specs.Bytes.{AllBytes}
use Rattle.body.specs.declared.tag.Form.TheVariants.{Delta}
use Rattle.payload.specs.Content.{Bytes}
use Rattle.payload.specs.Valid.{Valid}
use Rattle.message.specs.declared.version.Version.{Version}
use Rattle.message.specs.Version as version
use Rattle.message.specs.Message.{pdu}
use Rattle.message.specs.Say.{kind_in, say_of}
use Rattle.message.specs.Hear.{Told}

abbrev pub X : Type 0
X = Item Bytes (Change Bytes)

-- a valid item whose key is made of bytes, of a kind that a version speaks of
pub record Spoken (v : Version) (x : X) : Type 0 where
  pub valid : Valid Delta x
  pub octets : AllBytes x.key
  pub speaks : version.speaks v (kind_in x) ≡ true

-- items told one after the other, the first at `at`
abbrev pub told_from : Version → ℕ → List X → List Told
told_from v at [] = []
told_from v at (x ∷ xs) = record { at = at; key = x.key; change = x.val } ∷ told_from v (at + length (pdu v (say_of x))) xs
