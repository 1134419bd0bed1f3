-- Laws of the merge table by places.
use mathlib.Core.Path.{◌≡◌, refl}
use mathlib.Core.Option.{Option}
use mathlib.Core.Logic.{◌⊎◌, inl, inr}
use Rattle.std.specs.declared.cmp.Ordering.{Ordering}
use Rattle.std.specs.declared.cmp.Ordering.TheVariants.{Less, Equal, Greater}
use Rattle.order.specs.Comparison.{bytes}
use Rattle.change.specs.Change.{Change, replace}
use Rattle.change.specs.Merge.{table}
use Rattle.payload.specs.Content.{Bytes}
use Rattle.item.specs.declared.place.Part.{Part}
use Rattle.item.specs.declared.place.Act.{Act}
use Rattle.item.specs.declared.place.Act.TheVariants.{Announce, Withdraw, Update}
use Rattle.item.specs.Place.{part_in, change_in, PartFits, ActFits, Holds}
use Rattle.std.specs.Prelude as opt
use Rattle.std.specs.Prelude.{None, Some}

module _ (a : Bytes) (p : Part) (b : Bytes) (n : Part) (o : Ordering) (c : o ≡ bytes (part_in a p) (part_in b n)) where
  pub replaced_same : o ≡ Equal → Holds a b (replace bytes (part_in a p) (part_in b n)) None
  replaced_same d = record { fits = tt; is = rw (← c, d) }

  pub replaced_other : PartFits a p × PartFits b n → (o ≡ Less) ⊎ (o ≡ Greater) → Holds a b (replace bytes (part_in a p) (part_in b n)) (Some (Update p n))
  replaced_other f (inl d) = record { fits = record { parts = f }; is = rw (← c, d) }
  replaced_other f (inr d) = record { fits = record { parts = f }; is = rw (← c, d) }

module _ (a : Bytes) (x : Act) (b : Bytes) (y : Act) (f : ActFits a a x × ActFits b b y) where
  abbrev Outcome : opt.Option Act → Type 0
  Outcome = Holds a b (table bytes (change_in a a x) (change_in b b y))

-- whatever the two changes are, something is held: the table's outcome lies in a and b
pub record Outcomes (a b : Bytes) (o : Option (Change Bytes)) : Type 0 where
  pub held : opt.Option Act
  pub holds : Holds a b o held

replace_held : (a : Bytes) (p : Part) (b : Bytes) (n : Part) → PartFits a p → PartFits b n → Outcomes a b (replace bytes (part_in a p) (part_in b n))
replace_held a p b n f g = go (bytes (part_in a p) (part_in b n)) refl
  where
    go : (o : Ordering) → o ≡ bytes (part_in a p) (part_in b n) → Outcomes a b (replace bytes (part_in a p) (part_in b n))
    go Less c = record { held = Some (Update p n); holds = replaced_other a p b n Less c (f, g) (inl refl) }
    go Equal c = record { held = None; holds = replaced_same a p b n Equal c refl }
    go Greater c = record { held = Some (Update p n); holds = replaced_other a p b n Greater c (f, g) (inr refl) }

pub table_held : (a : Bytes) (x : Act) (b : Bytes) (y : Act) → ActFits a a x → ActFits b b y → Outcomes a b (table bytes (change_in a a x) (change_in b b y))
table_held a (Announce m) b (Announce n) f g = record { held = Some (Announce n); holds = record { fits = record { parts = g.parts }; is = refl } }
table_held a (Announce m) b (Withdraw q) f g = record { held = None; holds = record { fits = tt; is = refl } }
table_held a (Announce m) b (Update q n) f g = record { held = Some (Announce n); holds = record { fits = record { parts = g.parts.1 }; is = refl } }
table_held a (Withdraw p) b (Announce n) f g = replace_held a p b n f.parts g.parts
table_held a (Withdraw p) b (Withdraw q) f g = record { held = Some (Withdraw p); holds = record { fits = record { parts = f.parts }; is = refl } }
table_held a (Withdraw p) b (Update q n) f g = replace_held a p b n f.parts g.parts.1
table_held a (Update p m) b (Announce n) f g = record { held = Some (Update p n); holds = record { fits = record { parts = (f.parts.0, g.parts) }; is = refl } }
table_held a (Update p m) b (Withdraw q) f g = record { held = Some (Withdraw p); holds = record { fits = record { parts = f.parts.0 }; is = refl } }
table_held a (Update p m) b (Update q n) f g = replace_held a p b n f.parts.0 g.parts.1
