-- Laws of what one run says of a key.
use Prim.Native.Nat.{ℕ, ◌+◌, ◌-◌, ◌≤◌}
use mathlib.Core.Path.{◌≡◌, refl, sym, ap, ◌∙◌}
use mathlib.Core.List.{[], ◌∷◌}
use mathlib.Core.Option.{none, some}
use mathlib.Core.Bool.{Bool, true, false, cond}
use native.Mathlib.Omega.{arith}
use lib.Dec.{eqb}
use lib.ListN.{length, get_or, take, length-take}
use Rattle.std.specs.declared.cmp.Ordering.{Ordering}
use Rattle.std.specs.declared.cmp.Ordering.TheVariants.{Less, Equal, Greater}
use Rattle.order.specs.Comparison.{bytes}
use Rattle.order.specs.Many.{first, past}
use Rattle.order.proofs.Comparison.{strings}
use Rattle.change.specs.Change.{announce, withdraw}
use Rattle.number.specs.Bytes.{part}
use Rattle.field.specs.Places.{key_in}
use Rattle.field.specs.If.{If}
use Rattle.payload.specs.Content.{Bytes}
use Rattle.item.specs.declared.place.Act.TheVariants.{Announce, Withdraw}
use Rattle.item.specs.declared.place.Entry.{Entry}
use Rattle.item.specs.Place.{change_in, ActFits}
use Rattle.walk.specs.Origins.{origin_of, OriginAt}
use Rattle.cursors.specs.Cursor.{D, run, Heads, head_key, key_at, Filled, origin_act, Says}
use Rattle.cursors.proofs.Standing.{head_end, head_is_lem, head_fits}
use Rattle.std.specs.Prelude.{None, Option, Some}
use Rattle.item.specs.declared.place.Act.{Act}

-- ---- said_first

module _ (s : Bytes) (p e : ℕ) (r : Option Entry) (h : Heads s p e r) where
  pub first_end : r ≡ None → Says s p e (key_at s p e) None
  first_end q = let z = head_end s p e r h q in record { fits = tt; change = rw z; gone = rw z }

  pub first_item : (x : Entry) → r ≡ Some x → Says s p e (key_at s p e) (Some (x.act, x.next))
  first_item x q =
      let self : bytes (key_in s x.key) (key_in s x.key) ≡ Equal = strings.self (key_in s x.key) in
      record {
        fits = record { act = (head_fits s p e r h x q).act; stands = (head_fits s p e r h x q).stands };
        change = rw (head_is_lem s p e r h x q, self);
        gone = rw (head_is_lem s p e r h x q, self);
      }

module _ (s : Bytes) (p e : ℕ) (i : Filled s p e) (b : Bool) (w : If b (OriginAt (take e s) p)) (d : b ≡ true) where
  o : OriginAt (take e s) p
  o = w.holds d

  room : p + 26 ≤ length s
  room = omega (arith, o.within, length-take e s)

  nothing : part s (p + 26) (p + 26) ≡ []
  nothing = let z : p + 26 - (p + 26) ≡ 0 = omega arith in rw z

  act_fits : (t : Bool) → ActFits s s (cond t (Announce (record { from = p + 26; to = p + 26 })) (Withdraw (record { from = p + 26; to = p + 26 })))
  act_fits true = record { parts = record { ordered = omega arith; short = omega arith; within = room } }
  act_fits false = record { parts = record { ordered = omega arith; short = omega arith; within = room } }

  act_is : (t : Bool) → cond t (announce []) (withdraw []) ≡ change_in s s (cond t (Announce (record { from = p + 26; to = p + 26 })) (Withdraw (record { from = p + 26; to = p + 26 })))
  act_is true = rw nothing
  act_is false = rw nothing

  pub first_at : OriginAt (take e s) p
  first_at = o

  pub first_origin : (r : Option (Act × ℕ)) → r ≡ Some (origin_act (get_or (take e s) p 0) (p + 26), p + 26) → Says s p e (key_at s p e) r
  unfolding run
  first_origin r q =
      let self : bytes (origin_of (take e s) p).key (origin_of (take e s) p).key ≡ Equal = strings.self (origin_of (take e s) p).key in
      rw q (record {
        fits = record { act = act_fits (eqb (get_or (take e s) p 0) 0x11); stands = record { ready = o.next; within = i.stands.within } };
        change = rw (o.is, self) (ap some (act_is (eqb (get_or (take e s) p 0) 0x11)));
        gone = rw (o.is, self);
      })

pub ruleset first_saying = (first_end, first_item, first_at, first_origin)

-- ---- ask

module _ (s : Bytes) (p e q g : ℕ) where
  pub ask_same : (b : Bool) → If b (key_at s p e ≡ key_at s q g) → b ≡ true → (r : Option (Act × ℕ)) → Says s p e (key_at s p e) r → Says s p e (key_at s q g) r
  ask_same b i d r h = rw (← i.holds d) h

  none_said : (k : Bytes) → first bytes k (run s p e) ≡ none → past bytes k (run s p e) ≡ run s p e → Says s p e k None
  none_said k f b = record { fits = tt; change = f; gone = sym b }

  module _ (o : Ordering) (c : o ≡ bytes (key_at s q g) (key_at s p e)) where
    pub ask_equal : o ≡ Equal → (r : Option (Act × ℕ)) → Says s p e (key_at s p e) r → Says s p e (key_at s q g) r
    ask_equal d r h = let z : key_at s q g ≡ key_at s p e = strings.same (key_at s q g) (key_at s p e) (sym c ∙ d) in rw z h

    pub ask_less : o ≡ Less → Says s p e (key_at s q g) None
    ask_less d = let z = go (run s p e) (sym c ∙ d) in none_said (key_at s q g) z.0 z.1
      where
        go : (x : D) → bytes (key_at s q g) (head_key x) ≡ Less → (first bytes (key_at s q g) x ≡ none) × (past bytes (key_at s q g) x ≡ x)
        go [] z = (refl, refl)
        go (y ∷ x) z = (rw z, rw z)

    pub ask_greater : o ≡ Greater → Says s p e (key_at s q g) None
    ask_greater d = let z = go (run s p e) (sym c ∙ d) in none_said (key_at s q g) z.0 z.1
      where
        go : (x : D) → bytes (key_at s q g) (head_key x) ≡ Greater → (first bytes (key_at s q g) x ≡ none) × (past bytes (key_at s q g) x ≡ x)
        go [] z = (refl, refl)
        go (y ∷ x) z = (rw z, rw z)

pub ruleset asking = (ask_same, ask_less, ask_greater, ask_equal)
