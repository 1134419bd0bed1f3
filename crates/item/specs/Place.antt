-- What the places that the code keeps stand for. The former value of a change lies in the bytes a, the new one in b.
use Rattle.std.specs.Prelude.{ℕ, ◌+◌, ◌-◌, ◌≤◌, ◌≡◌, length, None, Some}
use Rattle.std.proofs.Math.Option.{Option, none, some}
use Rattle.order.specs.Map.{Item}
use Rattle.change.specs.Change.{Change, announce, withdraw, update}
use Rattle.number.specs.Bytes.{part}
use Rattle.field.specs.declared.key.Key.{Key}
use Rattle.field.specs.Places.{KeyFits, key_in}
use Rattle.payload.specs.Content.{Bytes}
use Rattle.item.specs.declared.place.Part.{Part}
use Rattle.item.specs.declared.place.Act.{Act}
use Rattle.item.specs.declared.place.Act.TheVariants.{Announce, Withdraw, Update}
use Rattle.std.specs.Prelude as opt

abbrev pub part_in : Bytes → Part → Bytes
part_in s p = part s p.from p.to

abbrev pub part_size : Part → ℕ
part_size p = p.to - p.from

abbrev pub change_in : Bytes → Bytes → Act → Change Bytes
change_in a b (Announce n) = announce (part_in b n)
change_in a b (Withdraw p) = withdraw (part_in a p)
change_in a b (Update p n) = update (part_in a p) (part_in b n)

abbrev pub item_in : Bytes → Bytes → Key → Act → Item Bytes (Change Bytes)
item_in a b key act = record { key = key_in a key; val = change_in a b act }

abbrev pub held_in : Bytes → Bytes → opt.Option Act → Option (Change Bytes)
held_in a b None = none
held_in a b (Some act) = some (change_in a b act)

abbrev pub key_size : Key → ℕ
key_size k = k.to - k.from

-- how many bytes the values of a change take in a body
abbrev pub values_size : Act → ℕ
values_size (Announce n) = part_size n
values_size (Withdraw p) = part_size p
values_size (Update p n) = 2 + part_size p + part_size n

-- a part that lies in s
pub record Lies (s : Bytes) (p : Part) : Type 0 where
  pub ordered : p.from ≤ p.to
  pub within : p.to ≤ length s

-- a list of providers, or nothing: it lies in s
pub record PartFits (s : Bytes) (p : Part) : Type 0 where
  pub ordered : p.from ≤ p.to
  pub short : p.to - p.from ≤ 16_384
  pub within : p.to ≤ length s

abbrev pub PartsFit : Bytes → Bytes → Act → Type 0
PartsFit a b (Announce n) = PartFits b n
PartsFit a b (Withdraw p) = PartFits a p
PartsFit a b (Update p n) = PartFits a p × PartFits b n

pub record ActFits (a b : Bytes) (act : Act) : Type 0 where
  pub parts : PartsFit a b act

-- the same of the sizes alone
pub record PartSized (p : Part) : Type 0 where
  pub ordered : p.from ≤ p.to
  pub short : p.to - p.from ≤ 16_384

abbrev pub PartsSized : Act → Type 0
PartsSized (Announce n) = PartSized n
PartsSized (Withdraw p) = PartSized p
PartsSized (Update p n) = PartSized p × PartSized n

pub record ActSized (act : Act) : Type 0 where
  pub parts : PartsSized act

abbrev pub HeldFits : Bytes → Bytes → opt.Option Act → Type 0
HeldFits a b None = Unit {0}
HeldFits a b (Some act) = ActFits a b act

-- a key of a good field: it lies in s
pub record KeyIn (s : Bytes) (k : Key) : Type 0 where
  pub fits : KeyFits s k
  pub kind : k.kind ≤ 3
  pub short : k.to - k.from ≤ 1_048

-- r lies in a and b, and stands for o
pub record Holds (a b : Bytes) (o : Option (Change Bytes)) (r : opt.Option Act) : Type 0 where
  pub fits : HeldFits a b r
  pub is : held_in a b r ≡ o
