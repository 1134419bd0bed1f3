-- Laws of the search for a record in the snapshot.
use Prim.Native.Nat.{ℕ, ◌+◌, ◌-◌, ◌<◌, ◌≤◌}
use mathlib.Core.Path.{◌≡◌, refl, sym, ap, ap₂, subst, ◌∙◌}
use mathlib.Core.List.{List, [], ◌∷◌, ◌++◌, map, append_assoc}
use mathlib.Core.Bool.{Bool, true, false, cond}
use native.Mathlib.Omega.{arith}
use native.Mathlib.Nat.{zero-add}
use mir.Syntax.{w8}
use mir.Val.{Fits}
use borrow.Author.Tests.{ltb-true, lt-ltb, le-ltb}
use lib.Dec.{eqb, ltb}
use lib.ListN.{length, get_or, take, drop, replicate, length-append, length-drop, length-take, length-replicate}
use lib.Seq.{sets, take_at, drop-drop, take-add, sets-eq, length-sets}
use Rattle.std.specs.declared.cmp.Ordering.{Ordering}
use Rattle.std.specs.declared.cmp.Ordering.TheVariants.{Less, Equal, Greater}
use Rattle.order.specs.Comparison.{bytes, flip}
use Rattle.order.specs.Map.{Item, All, Below, Sorted}
use Rattle.order.proofs.Never.{never}
use Rattle.order.proofs.Comparison.{strings}
use Rattle.order.proofs.Map.{all_append}
use Rattle.change.specs.Change.{Change}
use Rattle.change.specs.Difference as change
use Rattle.number.specs.Number.{word_at}
use Rattle.number.specs.Bytes.{part}
use Rattle.body.specs.declared.tag.Form.TheVariants.{Snapshot}
use Rattle.body.specs.Tag.{kind_of}
use Rattle.body.proofs.Digits.{snapshot_kind}
use Rattle.field.specs.Cells.{Cell, cells, field}
use Rattle.field.specs.Cells as run
pub use Rattle.field.specs.Places.{key_in}
use Rattle.payload.specs.Content.{Bytes, entry_of, cell_for}
use Rattle.payload.specs.Payload.{entries, encode, items}
use Rattle.payload.proofs.Faithful.{run_back, entries_end, read}
use Rattle.item.specs.declared.place.Entry.{Entry}
use Rattle.item.specs.declared.reading.Reading.TheVariants.{Announced}
use Rattle.item.specs.Front.{front_key, front_in}
use Rattle.item.specs.Reading.{Ready, FieldIs, Reads}
use Rattle.item.proofs.Fronts.{front_less, drop_bytes}
use Rattle.item.proofs.Heres.{here, cell, said, front_is}
use Rattle.item.proofs.Heres as heres
use Rattle.turn.specs.Seek.{Seeks}
use Rattle.heard.specs.Place.{type_at, size_at, key_at, Payload, Sized, v4, v6, key}
use Rattle.heard.specs.Field.{record_field}
use Rattle.heard.proofs.Comparing.{key_octets}
use Rattle.heard.proofs.Places.{size_most}
use Rattle.item.specs.declared.place.Part.{Part}
use Rattle.judge.specs.State.{Finds, IsPast}
use Rattle.std.specs.Prelude.{None, Option, Some}

abbrev S : Type 0
S = change.Snapshot Bytes Bytes

-- ---- a snapshot's items and its bytes

pub encode_append : (a b : S) → encode Snapshot (a ++ b) ≡ encode Snapshot a ++ encode Snapshot b
unfolding encode run.cell_bytes
encode_append [] b = refl
encode_append (x ∷ a) b =
    ap (λ (l : Bytes). field (cell_for Snapshot x).tag (cell_for Snapshot x).body ++ l) (encode_append a b)
    ∙ sym (append_assoc (field (cell_for Snapshot x).tag (cell_for Snapshot x).body) (encode Snapshot a) (encode Snapshot b))

module _ (a : Bytes) (from : ℕ) (r : Ready Announced a from) where
  pub sorted_from : Sorted bytes (items (drop from a))
  sorted_from = (read Snapshot r.good.run).sorted

  pub bytes_from : ((i : ℕ) → Fits w8 (get_or a i 0)) → encode Snapshot (items (drop from a)) ≡ drop from a
  bytes_from o = run_back Snapshot r.good.run (drop_bytes from a (λ i. (o i).fits))

-- the bytes of items passed
pub passed_bytes : (a : Bytes) (from at : ℕ) → Ready Announced a from → Ready Announced a at → from ≤ at → ((i : ℕ) → Fits w8 (get_or a i 0)) →
    (passed : S) → items (drop from a) ≡ passed ++ items (drop at a) → encode Snapshot passed ≡ part a from at
passed_bytes a from at r q h o passed e =
    let whole : encode Snapshot passed ++ drop at a ≡ drop from a
    = ap (λ (l : Bytes). encode Snapshot passed ++ l) (sym (bytes_from a at q o)) ∙ sym (encode_append passed (items (drop at a))) ∙ ap (encode Snapshot) (sym e) ∙ bytes_from a from r o in
    let z : length (encode Snapshot passed) + length (drop at a) ≡ length (drop from a) = sym (length-append (encode Snapshot passed) (drop at a)) ∙ ap length whole in
    let size : length (encode Snapshot passed) ≡ at - from = omega (arith, z, length-drop at a, length-drop from a, h, r.within, q.within) in
    sym (ap (take (at - from)) (sym whole) ∙ take_at (encode Snapshot passed) (drop at a) (at - from) size)

-- ---- find_key

-- from `from` up to `at` stand items below the key
pub record Seeking (a : Bytes) (from : ℕ) (k : Bytes) (at : ℕ) : Type 0 where
  pub passed : S
  pub low : All (λ (x : Item Bytes Bytes). bytes x.key k ≡ Less) passed
  pub split : items (drop from a) ≡ passed ++ items (drop at a)
  pub on : from ≤ at
  pub start : Ready Announced a from
  pub ready : Ready Announced a at

no_images : {A B : Type 0} (f : A → B) (l : List A) → l ≡ [] → map f l ≡ []
no_images f l e = ap (map f) e

pub seeking_start : (a : Bytes) (from : ℕ) (k : Bytes) → Ready Announced a from → Seeking a from k from
seeking_start a from k r = record { passed = []; low = tt; split = refl; on = omega arith; start = r; ready = r }

module _ (a : Bytes) (from : ℕ) (k : Bytes) (at : ℕ) (h : Seeking a from k at) where
  pub seeking_ready : Ready Announced a at
  seeking_ready = h.ready

  module _ (o : (i : ℕ) → Fits w8 (get_or a i 0)) where
    -- the key is not there
    absent : Below bytes k (items (drop at a)) → Finds a from k (record { from = at; to = at })
    absent b = record {
      passed = h.passed;
      low = h.low;
      bytes_are = passed_bytes a from at h.start h.ready h.on o h.passed h.split;
      here = [];
      is_here = tt;
      counted = rw (le-ltb at at (omega arith));
      split = h.split;
      rest = b;
      on = h.on;
      within = h.ready.within;
      ready = h.ready;
    }

    module _ (r : Option Entry) (e : Reads Announced a at r) where
      pub found_end : r ≡ None → Finds a from k (record { from = at; to = at })
      unfolding entries
      found_end q = absent (rw (no_images (entry_of Snapshot) (cells (drop at a)) (rw q at e.fits)) tt)

      module _ (x : Entry) (q : r ≡ Some x) where
        one : Reads Announced a at (Some x)
        one = rw q at e

        abbrev F : FieldIs Announced a at x
        F = one.fits.field

        abbrev held : Item Bytes Bytes
        held = entry_of Snapshot F.cell

        items_are : items (drop at a) ≡ held ∷ items (drop x.next a)
        unfolding entries
        items_are = ap (map (entry_of Snapshot)) F.front

        key_is : key_in a x.key ≡ held.key
        key_is = ap (λ (y : Item Bytes (Change Bytes)). y.key) F.says

        module _ (c : Ordering) (f : c ≡ bytes (key_in a x.key) k) where
          is : bytes held.key k ≡ c
          is = rw (← key_is) (sym f)

          pub found_not : c ≡ Greater → Finds a from k (record { from = at; to = at })
          found_not g = absent (rw items_are (strings.turn held.key k ∙ ap flip (is ∙ g)))

          pub found_here : c ≡ Equal → Finds a from k (record { from = at; to = x.next })
          found_here g =
              let z : held.key ≡ k = strings.same held.key k (is ∙ g) in
              let s : Sorted bytes (held ∷ items (drop x.next a)) = subst (Sorted bytes) items_are (sorted_from a at h.ready) in
              record {
                passed = h.passed;
                low = h.low;
                bytes_are = passed_bytes a from at h.start h.ready h.on o h.passed h.split;
                here = held ∷ [];
                is_here = (z, tt);
                counted = rw (lt-ltb at x.next (omega (arith, one.fits.ahead)));
                split = h.split ∙ ap (λ (l : S). h.passed ++ l) items_are;
                rest = subst (λ (y : Bytes). Below bytes y (items (drop x.next a))) z s.0;
                on = h.on;
                within = h.ready.within;
                ready = one.fits.ready;
              }

          pub seeking_again : c ≡ Less → Seeking a from k x.next
          seeking_again g = record {
            passed = h.passed ++ (held ∷ []);
            low = all_append (λ (y : Item Bytes Bytes). bytes y.key k ≡ Less) h.passed (held ∷ []) h.low (is ∙ g, tt);
            split = h.split ∙ ap (λ (l : S). h.passed ++ l) items_are ∙ sym (append_assoc h.passed (held ∷ []) (items (drop x.next a)));
            on = omega (arith, h.on, one.fits.ahead);
            start = h.start;
            ready = one.fits.ready;
          }

pub seeking_less : (a : Bytes) (at : ℕ) (r : Option Entry) → Reads Announced a at r → (x : Entry) → r ≡ Some x → length a - x.next < length a - at
seeking_less a at r e x q = let f = (rw q at e.fits) in omega (arith, f.ahead, f.ready.within)

pub ruleset keys = (seeking_start, seeking_ready, found_end, found_not, found_here, seeking_again, seeking_less)

-- ---- the record of a message

module _ (s : Bytes) (at : ℕ) where
  abbrev four_key_lem : Bytes
  four_key_lem = 1 ∷ 4 ∷ (part s (at + 12) (at + 16) ++ (replicate 12 0 ++ (get_or s (at + 9) 0 ∷ get_or s (at + 10) 0 ∷ part s (at + 16) (at + 20))))

  abbrev six_key_lem : Bytes
  six_key_lem = 1 ∷ 6 ∷ (part s (at + 12) (at + 28) ++ (get_or s (at + 9) 0 ∷ get_or s (at + 10) 0 ∷ part s (at + 28) (at + 32)))

  abbrev router_key_lem : Bytes
  router_key_lem = 2 ∷ part s (at + 8) (at + size_at s at)

  pub key_cons : key_at s at ≡ get_or (key_at s at) 0 0 ∷ drop 1 (key_at s at)
  unfolding key_at
  key_cons = go (eqb (type_at s at) 4) (eqb (type_at s at) 6)
    where
      go : (b c : Bool) → cond b four_key_lem (cond c six_key_lem router_key_lem) ≡ get_or (cond b four_key_lem (cond c six_key_lem router_key_lem)) 0 0 ∷ drop 1 (cond b four_key_lem (cond c six_key_lem router_key_lem))
      go true c = refl
      go false true = refl
      go false false = refl

  part_short : (from to : ℕ) → length (part s from to) ≤ to - from
  part_short from to = omega (arith, length-take (to - from) (drop from s))

  pub key_short : Payload s at → length (key_at s at) ≤ 1_049
  unfolding key_at
  key_short p = go (eqb (type_at s at) 4) (eqb (type_at s at) 6)
    where
      go : (b c : Bool) → length (cond b four_key_lem (cond c six_key_lem router_key_lem)) ≤ 1_049
      go true c =
          let p : length (part s (at + 12) (at + 16)) ≤ at + 16 - (at + 12) = part_short (at + 12) (at + 16) in
          let q : length (part s (at + 16) (at + 20)) ≤ at + 20 - (at + 16) = part_short (at + 16) (at + 20) in
          let r : length {A = ℕ} (replicate 12 0) ≡ 12 = length-replicate {A = ℕ} 12 0 in
          let t = length-append (part s (at + 12) (at + 16)) (replicate 12 0 ++ (get_or s (at + 9) 0 ∷ get_or s (at + 10) 0 ∷ part s (at + 16) (at + 20))) in
          let u = length-append {A = ℕ} (replicate 12 0) (get_or s (at + 9) 0 ∷ get_or s (at + 10) 0 ∷ part s (at + 16) (at + 20)) in
          omega (arith, p, q, r, t, u)
      go false true =
          let p : length (part s (at + 12) (at + 28)) ≤ at + 28 - (at + 12) = part_short (at + 12) (at + 28) in
          let q : length (part s (at + 28) (at + 32)) ≤ at + 32 - (at + 28) = part_short (at + 28) (at + 32) in
          let t = length-append (part s (at + 12) (at + 28)) (get_or s (at + 9) 0 ∷ get_or s (at + 10) 0 ∷ part s (at + 28) (at + 32)) in
          omega (arith, p, q, t)
      go false false =
          let q : length (part s (at + 8) (at + size_at s at)) ≤ at + size_at s at - (at + 8) = part_short (at + 8) (at + size_at s at) in
          let z = size_most s at p in
          omega (arith, q, z)

-- ---- a record by its name

part_split : (a : Bytes) (from at to : ℕ) → from ≤ at → at ≤ to → part a from at ++ part a at to ≡ part a from to
part_split a from at to h k =
    let e : at - from + (to - at) ≡ to - from = omega arith in
    let d : from + (at - from) ≡ at = omega arith in
    sym (ap (λ (n : ℕ). take n (drop from a)) (sym e) ∙ take-add (at - from) (to - at) (drop from a) ∙ rw (drop-drop (at - from) from a, d) refl)

-- a record's field in an array, from its start on
module _ (k : Bytes) (n₀ n : Bytes) (room : length (record_field k) ≤ length n₀) (e : n ≡ sets n₀ 0 (record_field k)) where
  laid : n ≡ record_field k ++ drop (length (record_field k)) n₀
  laid = e ∙ sets-eq (record_field k) n₀ 0 (omega (arith, room)) ∙ ap (λ (n : ℕ). record_field k ++ drop n n₀) (zero-add (length (record_field k)))

  pub named : k ≡ get_or k 0 0 ∷ drop 1 k → (size : ℕ) → size ≡ length (record_field k) → key_in n (record { kind = get_or n 0 0; from = 3; to = size }) ≡ k
  unfolding run.field
  named c size z =
      rw (laid, z) (ap (λ (l : Bytes). get_or k 0 0 ∷ l) (take_at (drop 1 k) (drop (length (record_field k)) n₀) (length (record_field k) - 3) (omega arith)) ∙ sym c)

-- ---- find_named

module _ (s : Bytes) (x : ℕ) where
  field_some : 3 ≤ length (record_field (key_at s x))
  unfolding run.field
  field_some = omega arith

  module _ (n₀ : Bytes) (room : length (record_field (key_at s x)) ≤ length n₀) where
    pub name_room : 0 + length (record_field (key_at s x)) ≤ length n₀
    name_room = omega arith

    module _ (n : Bytes) (e : n ≡ sets n₀ 0 (record_field (key_at s x))) where
      pub name_some : 0 < length n
      name_some = let z : length n ≡ length n₀ = ap length e ∙ length-sets n₀ 0 (record_field (key_at s x)) in omega (arith, z, room, field_some)

      pub name_is : (a : Bytes) (from size : ℕ) → size ≡ length (record_field (key_at s x)) → (r : Part)
          → Finds a from (key_in n (record { kind = get_or n 0 0; from = 3; to = size })) r → Finds a from (key_at s x) r
      name_is a from size z r h =
          subst (λ (y : Bytes). Finds a from y r) (named (key_at s x) n₀ n room e (key_cons s x) size z) h

pub ruleset naming = (name_room, name_some, name_is)

-- ---- find_exactly

pub record_short : (s : Bytes) (x : ℕ) → Payload s x → length (record_field (key_at s x)) ≤ 1056
unfolding run.field
record_short s x p = let h = key_short s x p in omega (arith, h, length-drop 1 (key_at s x))

pub long_room : (s : Bytes) (x : ℕ) → Payload s x → (n : Bytes) → length n ≡ 1056 → length (record_field (key_at s x)) ≤ length n
long_room s x p n l = omega (arith, l, record_short s x p)

-- the record of a prefix
prefix_short : (s : Bytes) (x : ℕ) → Sized s x → (type_at s x ≡ 9 → ⊥) → length (key_at s x) ≤ 24
unfolding key_at
prefix_short s x (v4 t e) q =
    let z : eqb (type_at s x) 4 ≡ true = rw t in
    let a : length (part s (x + 12) (x + 16)) ≤ x + 16 - (x + 12) = part_short s x (x + 12) (x + 16) in
    let b : length (part s (x + 16) (x + 20)) ≤ x + 20 - (x + 16) = part_short s x (x + 16) (x + 20) in
    let r : length {A = ℕ} (replicate 12 0) ≡ 12 = length-replicate {A = ℕ} 12 0 in
    let u = length-append (part s (x + 12) (x + 16)) (replicate 12 0 ++ (get_or s (x + 9) 0 ∷ get_or s (x + 10) 0 ∷ part s (x + 16) (x + 20))) in
    let w = length-append {A = ℕ} (replicate 12 0) (get_or s (x + 9) 0 ∷ get_or s (x + 10) 0 ∷ part s (x + 16) (x + 20)) in
    rw z (omega (arith, a, b, r, u, w))
prefix_short s x (v6 t e) q =
    let y : eqb (type_at s x) 4 ≡ false = rw t in
    let z : eqb (type_at s x) 6 ≡ true = rw t in
    let a : length (part s (x + 12) (x + 28)) ≤ x + 28 - (x + 12) = part_short s x (x + 12) (x + 28) in
    let b : length (part s (x + 28) (x + 32)) ≤ x + 32 - (x + 28) = part_short s x (x + 28) (x + 32) in
    let u = length-append (part s (x + 12) (x + 28)) (get_or s (x + 9) 0 ∷ get_or s (x + 10) 0 ∷ part s (x + 28) (x + 32)) in
    rw (y, z) (omega (arith, a, b, u))
prefix_short s x (key t l h) q = absurd (q t)

pub short_room : (s : Bytes) (x : ℕ) → Payload s x → (t : ℕ) → t ≡ type_at s x → (t ≡ 9 → ⊥) → (n : Bytes) → length n ≡ 32 → length (record_field (key_at s x)) ≤ length n
unfolding run.field
short_room s x p t e q n l = let h = prefix_short s x p.sized (λ y. q (e ∙ y)) in omega (arith, l, h, length-drop 1 (key_at s x))

pub ruleset exactly = (long_room, short_room)

-- ---- is_past

module _ (a : Bytes) (at : ℕ) (r : Ready Announced a at) (front : ℕ) where
  pub past_end : length a ≤ at → IsPast a at front true
  unfolding entries
  past_end h = record { past = λ q k e. rw (none (drop at a) (length-drop at a ∙ omega arith)) tt }
    where
      none : (l : Bytes) → length l ≡ 0 → items l ≡ []
      none [] z = entries_end Snapshot
      none (y ∷ l) z = absurd (omega arith)

  pub past_unsure : IsPast a at front false
  past_unsure = record { past = λ q. never cc }

  module _ (h : 11 ≤ length a - at) where
    pub past_in : at < length a
    past_in = omega arith

    pub past_word : at + 3 + 8 ≤ length a
    past_word = omega arith

    pub past_front : ((i : ℕ) → Fits w8 (get_or a i 0)) → (w v : ℕ) → w ≡ word_at a (at + 3) → v ≡ front_in (get_or a at 0) w → (b : Bool) → b ≡ ltb front v → IsPast a at front b
    past_front o w v q z b e = record {
      past = λ t k f.
          let g = here Snapshot a at r.good past_in in
          let c : get_or a at 0 ≡ kind_of Snapshot g.tag = g.is ∙ sym (snapshot_kind g.tag g.body g.good) in
          let u : v ≡ front_key (entry_of Snapshot (cell Snapshot a at r.good past_in)).key = z ∙ rw (q, c) (sym (front_is Snapshot a at r.good past_in o (omega arith))) in
          let y : front < v = ltb-true front v (sym e ∙ t) in
          rw (said Snapshot a at r.good past_in)
          (front_less k (entry_of Snapshot (cell Snapshot a at r.good past_in)).key (heres.octets Snapshot a at r.good past_in o) (omega (arith, f, u, y)));
    }

pub ruleset pasts = (past_end, past_unsure, past_in, past_word, past_front)

-- ---- find

module _ (a : Bytes) (from : ℕ) (s : Bytes) (x : ℕ) (p : Payload s x) (os : (i : ℕ) → Fits w8 (get_or s i 0)) (oa : (i : ℕ) → Fits w8 (get_or a i 0)) (g : Ready Announced a from)
    (b : ℕ) (f : b ≡ front_key (key_at s x)) (at count : ℕ) (k : Seeks a from b at count) where
  first_low : (l : S) → All (λ (y : Item Bytes Bytes). front_key y.key < b) l → All (λ (y : Item Bytes Bytes). bytes y.key (key_at s x) ≡ Less) l
  first_low [] w = tt
  first_low (y ∷ l) w = (front_less y.key (key_at s x) (λ i. (key_octets s x os i).fits) (rw f at w.0), first_low l w.1)

  pub find_from : Ready Announced a at
  find_from = k.ready

  pub find_past : (r : Bool) → IsPast a at b r → r ≡ true → Finds a from (key_at s x) (record { from = at; to = at })
  find_past r q e =
      absent a from (key_at s x) at (record { passed = k.passed; low = first_low k.passed k.low; split = k.split; on = k.on; start = g; ready = k.ready }) oa
      (q.past e (key_at s x) (sym f))

  pub find_on : (r : Part) → Finds a at (key_at s x) r → Finds a from (key_at s x) r
  find_on r d = record {
    passed = k.passed ++ d.passed;
    low = all_append (λ (y : Item Bytes Bytes). bytes y.key (key_at s x) ≡ Less) k.passed d.passed (first_low k.passed k.low) d.low;
    bytes_are = encode_append k.passed d.passed
        ∙ ap₂ (λ (u w : Bytes). u ++ w) (passed_bytes a from at g k.ready k.on oa k.passed k.split) d.bytes_are
        ∙ part_split a from at r.from k.on d.on;
    here = d.here;
    is_here = d.is_here;
    counted = d.counted;
    split = k.split ∙ ap (λ (l : S). k.passed ++ l) d.split ∙ sym (append_assoc k.passed d.passed (d.here ++ items (drop r.to a)));
    rest = d.rest;
    on = omega (arith, k.on, d.on);
    within = d.within;
    ready = d.ready;
  }

pub ruleset finding = (find_from, find_past, find_on)
