-- Counting a delta's fields: what the code that counts asks.
use Prim.Native.Nat.{ℕ, ◌+◌, ◌-◌, ◌<◌, ◌≤◌, ◌^◌}
use mathlib.Core.Path.{◌≡◌, refl}
use mathlib.Core.Bool.{Bool, true, false, cond}
use mathlib.Core.List.{List, []}
use native.Mathlib.Omega.{arith}
use lib.ListN.{length, drop}
use Rattle.field.specs.declared.head.Field.{Field}
use Rattle.field.specs.declared.head.Field.TheVariants.{End, Cut, Whole}
use Rattle.field.specs.Cells.{cells}
use Rattle.field.specs.Head.{field_at}
use Rattle.field.proofs.Fields.{cut_at, body_within, field_long}
use Rattle.field.proofs.Run.{cells_at_cut}
use Rattle.field.proofs.Walk.{good_end, good_cells}
use Rattle.payload.specs.Count.{is_announced, is_withdrawn, announced_in, withdrawn_in}
use Rattle.reader.specs.declared.count.Tally.{Tally}
use Rattle.std.specs.Borrow.{Bor}
use Rattle.reader.specs.declared.DeltaReader.{DeltaReader}
use Rattle.reader.specs.Step.{start, found, stepped}
use Rattle.reader.specs.Count.{tally_of}
use Rattle.reader.specs.Counting.{announces_tag, withdraws_tag, Countable, plus_tag}

-- ---- one tag

at_most_one : (b : Bool) → cond b 1 0 ≤ 1
at_most_one true = omega arith
at_most_one false = omega arith

-- ---- a reader that counts on its way

-- c are the counts of the fields before `at`
pub record Counted (s : List ℕ) (at : ℕ) (c : Tally) : Type 0 where
  pub announced : c.announced + announced_in (drop at s) ≡ announced_in s
  pub withdrawn : c.withdrawn + withdrawn_in (drop at s) ≡ withdrawn_in s
  pub few : c.announced ≤ at
  pub fewer : c.withdrawn ≤ at

pub counted_start : (s : List ℕ) → Counted s 0 (record { announced = 0; withdrawn = 0 })
counted_start s = record { announced = omega arith; withdrawn = omega arith; few = omega arith; fewer = omega arith }

-- what the field that the reader found says of the fields from there on
module _ (s : List ℕ) (at : ℕ) (f : Field) (e : f ≡ field_at s at) (c : Tally) (h : Counted s at c) where
  -- no field is left
  counted_all : cells (drop at s) ≡ [] → c ≡ tally_of s
  counted_all n =
      let p : c.announced + 0 ≡ announced_in s = rw n at h.announced in
      let q : c.withdrawn + 0 ≡ withdrawn_in s = rw n at h.withdrawn in
      let p' : c.announced ≡ announced_in s = omega arith in
      let q' : c.withdrawn ≡ withdrawn_in s = omega arith in
      λ i. record { announced = p' i; withdrawn = q' i }

  module _ (tag from to : ℕ) (p : f ≡ Whole tag from to) where
    counted_room : at < length s
    counted_room = let w = field_long s at f e tag from to p in let v = body_within s at f e tag from to p in omega arith

    counted_less : length s - to < length s - at
    counted_less = let w = field_long s at f e tag from to p in let v = body_within s at f e tag from to p in omega arith

    counted_more : Counted s to (plus_tag c tag)
    counted_more =
        let long = field_long s at f e tag from to p in
        let within = body_within s at f e tag from to p in
        let w = good_cells s at f e tag from to p in
        let a : announces_tag tag ≤ 1 = at_most_one (is_announced tag) in
        let b : withdraws_tag tag ≤ 1 = at_most_one (is_withdrawn tag) in
        let x : c.announced + (announces_tag tag + announced_in (drop to s)) ≡ announced_in s = rw w at h.announced in
        let y : c.withdrawn + (withdraws_tag tag + withdrawn_in (drop to s)) ≡ withdrawn_in s = rw w at h.withdrawn in
        let i = h.few in
        let j = h.fewer in
        record { announced = omega arith; withdrawn = omega arith; few = omega arith; fewer = omega arith }

-- a reader over d, where c are the counts of the fields that it has passed
pub record Passed (d : List ℕ) (r : DeltaReader) (c : Tally) : Type 0 where
  pub same : r.delta.now ≡ d
  pub counted : Counted d r.at c

pub passed_none : (d : Bor (List ℕ)) (r : DeltaReader) → r ≡ start d → Passed d.now r (record { announced = 0; withdrawn = 0 })
passed_none d r e = rw e (record { same = refl; counted = counted_start d.now })

module _ (d : List ℕ) (r : DeltaReader) (c : Tally) (f : Field) (h : Passed d r c) (e : f ≡ found r) where
  at_place : f ≡ field_at d r.at
  at_place = rw (← h.same) e

  pub passed_over : ((tag from to : ℕ) → f ≡ Whole tag from to → ⊥) → c ≡ tally_of d
  passed_over other = go f refl
    where
      go : (g : Field) → f ≡ g → c ≡ tally_of d
      go End l = counted_all d r.at f at_place c h.counted (good_end d r.at f at_place l)
      go Cut l = counted_all d r.at f at_place c h.counted (cells_at_cut (drop r.at d) (cut_at d r.at f at_place l))
      go (Whole tag from to) l = absurd (other tag from to l)

  module _ (tag from to : ℕ) (p : f ≡ Whole tag from to) where
    pub passed_room : length d < 2 ^ 64 → Countable c
    passed_room k =
        let u = counted_room d r.at f at_place c h.counted tag from to p in
        let a = h.counted.few in
        let b = h.counted.fewer in
        record { announced = omega arith; withdrawn = omega arith }

    module _ (q : DeltaReader) (n : q ≡ stepped r) where
      place : q.at ≡ to
      place = rw (n, ← e, p)

      pub passed_less : length d - q.at < length d - r.at
      passed_less = rw place (counted_less d r.at f at_place c h.counted tag from to p)

      pub passed_more : (b : Tally) → b ≡ plus_tag c tag → Passed d q b
      passed_more b k = record { same = rw n h.same; counted = rw (place, k) (counted_more d r.at f at_place c h.counted tag from to p) }

pub ruleset passing = (passed_none, passed_over, passed_room, passed_less, passed_more)
