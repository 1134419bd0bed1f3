-- Laws of the search for a delta's next item in a snapshot.
use Prim.Native.Nat.{ℕ, ◌+◌, ◌-◌, ◌/◌, ◌^◌, ◌<◌, ◌≤◌}
use mathlib.Core.Path.{◌≡◌, refl, sym, ap, subst, ◌∙◌}
use mathlib.Core.List.{List, [], ◌∷◌, ◌++◌, map, append_assoc}
use native.Mathlib.Omega.{arith}
use mir.Syntax.{w8, w64}
use mir.Val.{Fits}
use lib.ListN.{length, get_or, drop, length-append, length-drop}
use Rattle.order.specs.Map.{Item}
use Rattle.order.proofs.Map.{all_append}
use Rattle.change.specs.Change.{Change}
use Rattle.change.specs.Difference as change
use Rattle.number.specs.Number.{two_at, word_at}
use Rattle.number.specs.Bytes.{AllBytes}
use Rattle.body.specs.declared.tag.Form.TheVariants.{Snapshot, Delta}
use Rattle.body.specs.Tag.{kind_of}
use Rattle.body.proofs.Digits.{snapshot_kind, delta_kind}
use Rattle.field.specs.Cells.{Cell}
use Rattle.field.proofs.Run.{cells_end}
use Rattle.field.proofs.Common.{Found, found_origin}
use Rattle.payload.specs.Content.{Bytes, entry_of}
use Rattle.payload.specs.Payload.{entries, items, changes}
use Rattle.item.specs.declared.reading.Reading.TheVariants.{Announced, Changes}
use Rattle.item.specs.Front.{front_key, front_in, top}
use Rattle.item.specs.Reading.{Ready}
use Rattle.item.proofs.Heres.{here, cell, next, said, behind, within, front_is, octets}
pub use Rattle.turn.specs.Seek.{Bounds, Seeks}

-- ---- bound_at

module _ (d : Bytes) (j : ℕ) (r : Ready Changes d j) where
  pub bound_end : length d ≤ j → Bounds d j top
  unfolding entries
  bound_end h = record { above = λ x rest e. absurd (none x rest e) }
    where
      none : (x : Item Bytes (Change Bytes)) (rest : change.Delta Bytes Bytes) → changes (drop j d) ≡ x ∷ rest → ⊥
      none x rest e =
          let z : length (drop j d) ≡ 0 = length-drop j d ∙ omega arith in
          let y : length (changes (drop j d)) ≡ 0 = empty (drop j d) z in
          let w : length (changes (drop j d)) ≡ length (x ∷ rest) = ap length e in
          omega (arith, y, w)
        where
          empty : (l : Bytes) → length l ≡ 0 → length (changes l) ≡ 0
          empty [] q = ap (λ (c : List Cell). length (map (entry_of Delta) c)) cells_end
          empty (x ∷ l) q = absurd (omega arith)

  module _ (o : (i : ℕ) → Fits w8 (get_or d i 0)) (h : j < length d) where
    -- the first of what the delta says from j on
    first_is : (x : Item Bytes (Change Bytes)) (rest : change.Delta Bytes Bytes) → changes (drop j d) ≡ x ∷ rest → (entry_of Delta (cell Delta d j r.good h)).key ≡ x.key
    first_is x rest e = let z : entry_of Delta (cell Delta d j r.good h) ≡ x = cc (sym (said Delta d j r.good h) ∙ e) in ap (λ (y : Item Bytes (Change Bytes)). y.key) z

    bounded : (bound : ℕ) → bound ≤ front_key (entry_of Delta (cell Delta d j r.good h)).key → Bounds d j bound
    bounded bound q = record {
      above = λ x rest e. let z = first_is x rest e in (rw z at q, subst AllBytes z (octets Delta d j r.good h o));
    }

    pub bound_none : Bounds d j 0
    bound_none = bounded 0 (omega arith)

    pub bound_front : 11 ≤ length d - j → (w v : ℕ) → w ≡ word_at d (j + 3) → v ≡ front_in (get_or d j 0 / 16) w → Bounds d j v
    bound_front k w v c e =
        let f = here Delta d j r.good h in
        let z : get_or d j 0 / 16 ≡ kind_of Delta f.tag = ap (λ (x : ℕ). x / 16) f.is ∙ sym (delta_kind f.tag f.body f.good) in
        let u : v ≡ front_key (entry_of Delta (cell Delta d j r.good h)).key = e ∙ rw (c, z) (sym (front_is Delta d j r.good h o (omega arith))) in
        bounded v (omega (arith, u))

pub ruleset bounding = (bound_end, bound_none, bound_front)

-- ---- size_at

module _ (s : Bytes) (at : ℕ) (r : Ready Announced s at) (h : at < length s) where
  pub size_origin : get_or s at 0 ≡ 1 → 26 ≡ 3 + two_at s (at + 1)
  size_origin e = let f = here Snapshot s at r.good h in omega (arith, f.size, found_origin s at f e)

pub ruleset sizes = (size_origin)

-- ---- seek

pub seek_start : (s : Bytes) (from bound : ℕ) → Ready Announced s from → Seeks s from bound from 0
seek_start s from bound r = record { passed = []; split = refl; low = tt; number = refl; on = omega arith; few_on = omega arith; ready = r }

module _ (s : Bytes) (from bound at count : ℕ) (l : Seeks s from bound at count) where
  pub seek_ready : Ready Announced s at
  seek_ready = l.ready

  module _ (h : 11 ≤ length s - at) where
    pub seek_in : at < length s
    seek_in = omega arith

    pub seek_word : at + 3 + 8 ≤ length s
    seek_word = omega arith

    abbrev f : Found Snapshot s at
    f = here Snapshot s at l.ready.good seek_in

    pub seek_size : (n : ℕ) → n ≡ 3 + two_at s (at + 1) → at + n ≤ length s
    seek_size n e = let z = f.size in let w = within Snapshot s at l.ready.good seek_in in omega arith

    pub seek_more : ((i : ℕ) → Fits w8 (get_or s i 0)) → (c v : ℕ) → c ≡ word_at s (at + 3) → v ≡ front_in (get_or s at 0) c → v < bound → (n : ℕ) → n ≡ 3 + two_at s (at + 1)
        → Seeks s from bound (at + n) (count + 1)
    seek_more o c v b e q n d =
        let z : at + n ≡ next Snapshot s at l.ready.good seek_in = omega (arith, d, f.size) in
        let k : get_or s at 0 ≡ kind_of Snapshot f.tag = f.is ∙ sym (snapshot_kind f.tag f.body f.good) in
        let w : v ≡ front_key (entry_of Snapshot (cell Snapshot s at l.ready.good seek_in)).key
        = e ∙ rw (b, k) (sym (front_is Snapshot s at l.ready.good seek_in o (omega arith))) in
        let x : Item Bytes Bytes = entry_of Snapshot (cell Snapshot s at l.ready.good seek_in) in
        record {
          passed = l.passed ++ (x ∷ []);
          split = l.split ∙ ap (λ (y : change.Snapshot Bytes Bytes). l.passed ++ y) (said Snapshot s at l.ready.good seek_in) ∙ rw z (sym (append_assoc l.passed (x ∷ []) (items (drop (next Snapshot s at l.ready.good seek_in) s))));
          low = all_append (λ (y : Item Bytes Bytes). front_key y.key < bound) l.passed (x ∷ []) l.low (rw w at q, tt);
          number = length-append l.passed (x ∷ []) ∙ omega (arith, l.number);
          on = omega (arith, l.on);
          few_on = omega (arith, l.few_on, d);
          ready = rw z (record { good = behind Snapshot s at l.ready.good seek_in; within = within Snapshot s at l.ready.good seek_in });
        }

    pub seek_less : (n : ℕ) → n ≡ 3 + two_at s (at + 1) → length s - (at + n) < length s - at
    seek_less n e = omega arith

    pub seek_count : Fits w64 (length s) → count + 1 < 2 ^ 64
    seek_count w = omega (arith, l.few_on, w.fits)

pub ruleset seeking = (seek_start, seek_ready, seek_in, seek_word, seek_size, seek_more, seek_less, seek_count)
