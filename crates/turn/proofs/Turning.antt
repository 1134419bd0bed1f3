-- Laws of a turn of the walk.
use Prim.Native.Nat.{ℕ}
use mathlib.Core.Path.{◌≡◌, sym, ap, ◌∙◌}
use Rattle.std.specs.declared.cmp.Ordering.{Ordering}
use Rattle.std.specs.declared.cmp.Ordering.TheVariants.{Less, Equal, Greater}
use Rattle.order.specs.Comparison.{bytes, flip}
use Rattle.order.proofs.Comparison.{strings}
use Rattle.field.specs.Places.{key_in}
use Rattle.payload.specs.Content.{Bytes}
use Rattle.item.specs.declared.place.Entry.{Entry}
use Rattle.item.specs.declared.reading.Reading.{Reading}
use Rattle.turn.specs.declared.turn.Side.TheVariants as side
use Rattle.turn.specs.declared.turn.Turn.TheVariants.{Over, Left, Right, Both}
use Rattle.item.specs.Reading.{Reads}
use Rattle.turn.specs.Turn.{TurnIs}
use Rattle.std.specs.Prelude.{None, Option, Some}

module _ (ra : Reading) (a : Bytes) (i : ℕ) (rb : Reading) (b : Bytes) (j : ℕ) (p : Option Entry) (f : Reads ra a i p) where
  pub left_over_lem : p ≡ None → TurnIs ra a i rb b j (Over side.Right)
  left_over_lem e = record { is = rw e at f.is }

  module _ (q : Option Entry) (g : Reads rb b j q) where
    pub right_over : q ≡ None → TurnIs ra a i rb b j (Over side.Left)
    right_over e = record { is = rw e at g.is }

    module _ (x y : Entry) (ex : p ≡ Some x) (ey : q ≡ Some y) (o : Ordering) (c : o ≡ bytes (key_in a x.key) (key_in b y.key)) where
      l : Reads ra a i (Some x)
      l = rw ex at f

      r : Reads rb b j (Some y)
      r = rw ey at g

      pub left_first : o ≡ Less → TurnIs ra a i rb b j (Left x)
      left_first d = record { is = (l, rw r.is (sym c ∙ d)) }

      pub right_first : o ≡ Greater → TurnIs ra a i rb b j (Right y)
      right_first d = record { is = (r, rw l.is (strings.turn (key_in a x.key) (key_in b y.key) ∙ ap flip (sym c ∙ d))) }

      pub both_first : o ≡ Equal → TurnIs ra a i rb b j (Both x y)
      both_first d = record { is = (l, r, strings.same (key_in a x.key) (key_in b y.key) (sym c ∙ d)) }

pub ruleset turning = (left_over_lem, right_over, left_first, right_first, both_first)
