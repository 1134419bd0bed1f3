-- Where the parts of a good body lie: the body is the part of s from `from` up to `to`.
use Prim.Native.Nat.{ℕ, zero, suc, ◌+◌, ◌-◌, ◌*◌, ◌≤◌, ◌<◌, min}
use mathlib.Core.Path.{◌≡◌, sym, ap, ap₂, ◌∙◌}
use mathlib.Core.List.{[], ◌∷◌}
use mathlib.Core.Bool.{true}
use native.Mathlib.Omega.{arith}
use lib.ListN.{length, get_or, take, drop, length-take, length-drop}
use lib.Seq.{take-nil, drop-drop, take-take, get_or-take, get_or-drop}
use Rattle.change.specs.Change.{announce, withdraw, update}
use Rattle.number.specs.Number.{two_at}
use Rattle.number.specs.Bytes.{part}
use Rattle.body.specs.Tag.{tag_of, kind_of, good_body}
use Rattle.body.specs.Aspa.{good_aspa, good_update, former_size, former_of, new_of}
use Rattle.body.proofs.Sizes.{origin_size, key_size_lem, providers_size, aspa_parts, update_parts}
use Rattle.field.specs.Places.{key_place}
use Rattle.payload.specs.Content.{Bytes, action_of}
use Rattle.payload.proofs.Known as known
use Rattle.payload.proofs.Known.{Known}
use Rattle.item.specs.declared.place.Part.{Part}
use Rattle.item.specs.declared.reading.Reading.{Reading}
use Rattle.item.specs.declared.reading.Reading.TheVariants.{Withdrawn, Announced, Changes}
use Rattle.item.specs.Place.{part_in, change_in, PartFits, ActFits}
use Rattle.item.specs.Reading.{item_as, form_of, middle, act_place, SplitFits, Splits}

pub drop_take : (i m : ℕ) (l : Bytes) → drop i (take m l) ≡ take (m - i) (drop i l)
drop_take zero m l = let e : m - 0 ≡ m = omega arith in rw e
drop_take (suc i) zero l = let e : 0 - suc i ≡ 0 = omega arith in rw e
drop_take (suc i) (suc m) [] = sym (take-nil (suc m - suc i))
drop_take (suc i) (suc m) (x ∷ l) = let e : suc m - suc i ≡ m - i = omega arith in rw e (drop_take i m l)

-- a value that lies in s
pub record Value (s : Bytes) (v : Part) (val : Bytes) : Type 0 where
  pub fits : PartFits s v
  pub is : part_in s v ≡ val

module _ (s : Bytes) (from to : ℕ) (o : from ≤ to) (w : to ≤ length s) where
  abbrev body : Bytes
  body = part s from to

  pub body_length : length body ≡ to - from
  body_length = simp (length-take, length-drop) (omega arith)

  -- a part of the body, and what is behind i bytes of it
  inner : (i j : ℕ) → i ≤ j → from + j ≤ to → part s (from + i) (from + j) ≡ take (j - i) (drop i body)
  inner i j h k =
      let d : from + j - (from + i) ≡ j - i = omega arith in
      rw (d, drop_take i (to - from) (drop from s), drop-drop i from s)
      (sym (take-take (j - i) (to - from - i) (drop (from + i) s) (omega arith)))

  behind : (i : ℕ) → from + i ≤ to → part s (from + i) to ≡ drop i body
  behind i h =
      let d : to - (from + i) ≡ to - from - i = omega arith in
      rw (d, drop_take i (to - from) (drop from s), drop-drop i from s)

  byte : (i : ℕ) → from + i < to → get_or body i 0 ≡ get_or s (from + i) 0
  byte i h = let k : i < to - from = omega arith in rw (get_or-take (to - from) (drop from s) i 0 k, get_or-drop from s i 0)

  -- an origin or a router key has no value
  no_value : Value s (record { from = to; to = to }) []
  no_value =
      let z : to - to ≡ 0 = omega arith in
      record { fits = record { ordered = omega arith; short = omega arith; within = w }; is = rw z }

  -- the value of an ASPA stands behind its customer
  aspa_value : good_aspa body ≡ true → Value s (record { from = min (from + 4) to; to = to }) (drop 4 body)
  aspa_value h =
      let p = aspa_parts body h in
      let l : 4 ≤ to - from = omega (arith, p.customer, body_length) in
      let m : min (from + 4) to ≡ from + 4 = omega arith in
      let n : to - (from + 4) ≤ 16_384 = omega (arith, rw (length-drop 4 body) at (providers_size (drop 4 body) p.providers).0, body_length) in
      rw m (record { fits = record { ordered = omega arith; short = n; within = w }; is = behind 4 (omega arith) })

  -- the values of an update
  pub record Updated (v : Part) : Type 0 where
    pub splits : SplitFits s v
    pub former : Value s (record { from = v.from + 2; to = middle s v }) (former_of body)
    pub new : Value s (record { from = middle s v; to = v.to }) (new_of body)

  update_values : good_update body ≡ true → Updated (record { from = min (from + 4) to; to = to })
  update_values h =
      let p = update_parts body h in
      let l : 6 + former_size body ≤ to - from = omega (arith, p.head, body_length) in
      let m : min (from + 4) to ≡ from + 4 = omega arith in
      let c : from + 4 + 1 ≡ from + 5 = omega arith in
      let t : two_at s (from + 4) ≡ two_at body 4 = rw (c, byte 4 (omega arith), byte 5 (omega arith)) in
      let k : from + 4 + 2 + two_at s (from + 4) * 4 ≡ from + (6 + former_size body) = omega (arith, t) in
      let j : from + 4 + 2 ≡ from + 6 = omega arith in
      let f : former_size body ≤ 16_384 =
      omega (arith, rw (length-take, length-drop) at (providers_size (former_of body) p.former).0, body_length) in
      let n : to - (from + (6 + former_size body)) ≤ 16_384 =
      omega (arith, rw length-drop at (providers_size (new_of body) p.new).0, body_length) in
      let z : 6 + former_size body - 6 ≡ former_size body = omega arith in
      rw m (record {
        splits = record { ends = omega (arith, k); within = w };
        former = rw (k, j) (record {
          fits = record { ordered = omega arith; short = omega arith; within = omega arith };
          is = inner 6 (6 + former_size body) (omega arith) (omega arith) ∙ rw z;
        });
        new = rw k (record {
          fits = record { ordered = omega arith; short = n; within = w };
          is = behind (6 + former_size body) (omega arith);
        });
      })

  -- where the values of a field lie: behind its key
  abbrev pub values_at : ℕ → Part
  values_at kind = record { from = (key_place kind from to).to; to = to }

  -- the field with a tag, as a reading has it
  pub record Entered (reading : Reading) (tag : ℕ) : Type 0 where
    pub splits : Splits (action_of (tag_of (form_of reading) tag)) s (values_at (kind_of (form_of reading) tag))
    pub fits : ActFits s s (act_place reading (action_of (tag_of (form_of reading) tag)) s (values_at (kind_of (form_of reading) tag)))
    pub is : change_in s s (act_place reading (action_of (tag_of (form_of reading) tag)) s (values_at (kind_of (form_of reading) tag))) ≡ (item_as reading (record { tag = tag; body = body })).val
    pub kind : kind_of (form_of reading) tag ≤ 3
    pub short : (key_place (kind_of (form_of reading) tag) from to).to - from ≤ 1_048

  customer_short : min (from + 4) to - from ≤ 1_048
  customer_short = omega arith

  enter : (reading : Reading) (tag : ℕ) → Known (form_of reading) tag → good_body (form_of reading) tag body ≡ true → Entered reading tag
  unfolding good_body tag_of kind_of
  enter Withdrawn tag known.origin h = let v = no_value in
      record { splits = tt; fits = record { parts = v.fits }; is = ap withdraw v.is; kind = omega arith; short = omega (arith, origin_size body h, body_length) }
  enter Withdrawn tag known.router_key h = let v = no_value in
      record { splits = tt; fits = record { parts = v.fits }; is = ap withdraw v.is; kind = omega arith; short = omega (arith, key_size_lem body h, body_length) }
  enter Withdrawn tag known.aspa h = let v = aspa_value h in
      record { splits = tt; fits = record { parts = v.fits }; is = ap withdraw v.is; kind = omega arith; short = customer_short }
  enter Announced tag known.origin h = let v = no_value in
      record { splits = tt; fits = record { parts = v.fits }; is = ap announce v.is; kind = omega arith; short = omega (arith, origin_size body h, body_length) }
  enter Announced tag known.router_key h = let v = no_value in
      record { splits = tt; fits = record { parts = v.fits }; is = ap announce v.is; kind = omega arith; short = omega (arith, key_size_lem body h, body_length) }
  enter Announced tag known.aspa h = let v = aspa_value h in
      record { splits = tt; fits = record { parts = v.fits }; is = ap announce v.is; kind = omega arith; short = customer_short }
  enter Changes tag known.announced_origin h = let v = no_value in
      record { splits = tt; fits = record { parts = v.fits }; is = ap announce v.is; kind = omega arith; short = omega (arith, origin_size body h, body_length) }
  enter Changes tag known.withdrawn_origin h = let v = no_value in
      record { splits = tt; fits = record { parts = v.fits }; is = ap withdraw v.is; kind = omega arith; short = omega (arith, origin_size body h, body_length) }
  enter Changes tag known.announced_key h = let v = no_value in
      record { splits = tt; fits = record { parts = v.fits }; is = ap announce v.is; kind = omega arith; short = omega (arith, key_size_lem body h, body_length) }
  enter Changes tag known.withdrawn_key h = let v = no_value in
      record { splits = tt; fits = record { parts = v.fits }; is = ap withdraw v.is; kind = omega arith; short = omega (arith, key_size_lem body h, body_length) }
  enter Changes tag known.announced_aspa h = let v = aspa_value h in
      record { splits = tt; fits = record { parts = v.fits }; is = ap announce v.is; kind = omega arith; short = customer_short }
  enter Changes tag known.withdrawn_aspa h = let v = aspa_value h in
      record { splits = tt; fits = record { parts = v.fits }; is = ap withdraw v.is; kind = omega arith; short = customer_short }
  enter Changes tag known.updated_aspa h = let u = update_values h in
      record { splits = u.splits; fits = record { parts = (u.former.fits, u.new.fits) }; is = ap₂ update u.former.is u.new.is; kind = omega arith; short = customer_short }

  pub entered : (reading : Reading) (tag : ℕ) → good_body (form_of reading) tag body ≡ true → Entered reading tag
  entered reading tag h = enter reading tag (known.known (form_of reading) tag body h) h
