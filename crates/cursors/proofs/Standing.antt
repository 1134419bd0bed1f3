-- Laws of one cursor: what a run up to e reads as, by places of the store itself.
use Prim.Native.Nat.{ℕ, suc, ◌+◌, ◌-◌, ◌≤◌, ◌<◌}
use mathlib.Core.Path.{◌≡◌, ap, ◌∙◌}
use mathlib.Core.List.{List, [], ◌∷◌}
use native.Mathlib.Omega.{arith}
use native.Mathlib.Numerals.{add-one}
use lib.ListN.{length, get_or, take, drop, length-take}
use lib.Seq.{take-take, length-take-le}
use Rattle.number.specs.Bytes.{part}
use Rattle.field.specs.declared.key.Key.{Key}
use Rattle.field.specs.Places.{key_in}
use Rattle.payload.specs.Content.{Bytes}
use Rattle.item.specs.declared.place.Part.{Part}
use Rattle.item.specs.declared.place.Act.{Act}
use Rattle.item.specs.declared.place.Act.TheVariants.{Announce, Withdraw, Update}
use Rattle.item.specs.declared.place.Entry.{Entry}
use Rattle.item.specs.declared.reading.Reading.TheVariants.{Changes}
use Rattle.item.specs.Place.{part_in, change_in, item_in, PartFits, ActFits, KeyIn}
use Rattle.item.specs.Reading.{Reads}
use Rattle.item.proofs.Places.{drop_take}
use Rattle.cursors.specs.Cursor.{run, runs_n, Stands, EntryFits, Heads}
use Rattle.std.specs.Prelude.{None, Option, Some}

module _ (s : Bytes) (e : ℕ) where
  -- a part that ends at or before e
  pub part_take : (from to : ℕ) → to ≤ length (take e s) → part (take e s) from to ≡ part s from to
  part_take from to h =
      let k : to ≤ e = omega (arith, length-take e s) in
      ap (take (to - from)) (drop_take from e s) ∙ take-take (to - from) (e - from) (drop from s) (omega arith)

  in_store : (n : ℕ) → n ≤ length (take e s) → n ≤ length s
  in_store n h = omega (arith, length-take e s)

  part_fits : (p : Part) → PartFits (take e s) p → PartFits s p
  part_fits p f = record { ordered = f.ordered; short = f.short; within = in_store p.to f.within }

  part_same : (p : Part) → PartFits (take e s) p → part_in (take e s) p ≡ part_in s p
  part_same p f = part_take p.from p.to f.within

  pub key_fits : (k : Key) → KeyIn (take e s) k → KeyIn s k
  key_fits k f = record {
    fits = record { ordered = f.fits.ordered; within = in_store k.to f.fits.within };
    kind = f.kind;
    short = f.short;
  }

  pub key_same : (k : Key) → KeyIn (take e s) k → key_in (take e s) k ≡ key_in s k
  key_same k f = ap (λ (b : Bytes). k.kind ∷ b) (part_take k.from k.to f.fits.within)

  pub act_fits : (a : Act) → ActFits (take e s) (take e s) a → ActFits s s a
  act_fits (Announce n) f = record { parts = part_fits n f.parts }
  act_fits (Withdraw p) f = record { parts = part_fits p f.parts }
  act_fits (Update p n) f = record { parts = (part_fits p f.parts.0, part_fits n f.parts.1) }

  pub change_same : (a : Act) → ActFits (take e s) (take e s) a → change_in (take e s) (take e s) a ≡ change_in s s a
  change_same (Announce n) f = rw (part_same n f.parts)
  change_same (Withdraw p) f = rw (part_same p f.parts)
  change_same (Update p n) f = rw (part_same p f.parts.0, part_same n f.parts.1)

  pub item_same : (k : Key) (a : Act) → KeyIn (take e s) k → ActFits (take e s) (take e s) a → item_in (take e s) (take e s) k a ≡ item_in s s k a
  item_same k a f g = let p = key_same k f in let q = change_same a g in λ i. record { key = p i; val = q i }

-- ---- item_at

module _ (s : Bytes) (p e : ℕ) (st : Stands s p e) where
  pub stands_long : length (take e s) ≡ e
  stands_long = length-take-le e s st.within

  pub heads_of_lem : (r : Option Entry) → Reads Changes (take e s) p r → Heads s p e r
  unfolding run
  heads_of_lem None h = record { fits = tt; is = h.is }
  heads_of_lem (Some x) h =
      let f = h.fits in
      record {
        fits = record { key = key_fits s e x.key f.key; act = act_fits s e x.act f.act; stands = record { ready = f.ready; within = st.within } };
        is = h.is ∙ rw (item_same s e x.key x.act f.key f.act);
      }

pub ruleset heading = (stands_long, heads_of_lem)

-- ---- what a cursor stands at

module _ (s : Bytes) (p e : ℕ) (r : Option Entry) (h : Heads s p e r) where
  pub head_end : r ≡ None → run s p e ≡ []
  head_end q = rw q at h.is

  module _ (x : Entry) (q : r ≡ Some x) where
    pub head_is_lem : run s p e ≡ item_in s s x.key x.act ∷ run s x.next e
    head_is_lem = rw q at h.is

    pub head_fits : EntryFits s e x
    head_fits = rw q at h.fits

-- ---- the runs, one by one

module _ (s : Bytes) (at ends : List ℕ) where
  pub runs_cons : (r n : ℕ) → r < n → runs_n s at ends r (n - r) ≡ run s (get_or at r 0) (get_or ends r 0) ∷ runs_n s at ends (r + 1) (n - (r + 1))
  unfolding runs_n
  runs_cons r n h = let d : n - r ≡ suc (n - (r + 1)) = omega arith in rw (d, add-one)

  pub runs_nil : (r n : ℕ) → n ≤ r → runs_n s at ends r (n - r) ≡ []
  unfolding runs_n
  runs_nil r n h = let d : n - r ≡ 0 = omega arith in rw d
