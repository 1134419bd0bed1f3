-- Laws of the places of the held deltas: the runs there are the deltas.
use Prim.Native.Nat.{ℕ, zero, suc, ◌+◌, ◌-◌, ◌≤◌, ◌<◌}
use mathlib.Core.Path.{◌≡◌, refl, sym, ap, ap₂, ◌∙◌}
use mathlib.Core.List.{List, [], ◌∷◌, map}
use native.Mathlib.Omega.{arith}
use native.Mathlib.Decide.{ℕ_discrete}
use lib.ListN.{length, get_or, take, drop, set, length-set, length-take, length-drop, length-map}
use mir.Val.{Fits}
use mir.Syntax.{w8}
use lib.Seq.{take-nil, take-take, drop-cons, drop-drop, get_or-take, get_or-set_same, get_or-set_other}
use Rattle.order.specs.Comparison.{bytes}
use Rattle.order.specs.Map.{All, Sorted}
use Rattle.change.specs.Merge.{merge_all}
use Rattle.change.specs.History.{last_n}
use Rattle.change.proofs.Chain.{all_drop}
use Rattle.body.specs.declared.tag.Form.TheVariants.{Delta}
use Rattle.field.specs.Head.{Front, end, cut, whole, front}
use Rattle.field.specs.Cells.{cells, cells_f, cells_at}
use Rattle.field.proofs.Walk.{good_start_lem}
use Rattle.payload.specs.Content.{Bytes, entry_of}
use Rattle.payload.specs.Payload.{entries, changes}
use Rattle.payload.specs.Limit.{limit}
use Rattle.payload.proofs.Faithful.{faithful}
use Rattle.item.specs.Write.{writes}
use Rattle.walk.specs.Walk.{output_of, whole_out}
use Rattle.item.proofs.Places.{drop_take}
use Rattle.merged.specs.declared.place.Places.{Places}
use Rattle.past.specs.Store.{total, cuts}
use Rattle.cursors.specs.Cursor.{D, run, runs_n, runs, left_of, items_in, items_left, Stands, Within, Bounded}
use Rattle.cursors.specs.declared.runs.Walk.{Walk}
use Rattle.cursors.specs.Walk.{LinedUp, Starts, remains}
use Rattle.merged.specs.Place.{between, Summed, Placed, IsFine, Stored, last_merged}
use Rattle.past.proofs.Lists.{all_map}
use Rattle.past.proofs.Store.{cuts_length}
use Rattle.item.proofs.Fronts.{drop_bytes}
use Rattle.merged.proofs.Sizing.{merged_size}
use Rattle.item.specs.declared.sink.Counts.{Counts}
use Rattle.std.specs.Prelude.{Option}

-- ---- sums

total_next : (l : List ℕ) (i : ℕ) → i < length l → total (take (suc i) l) ≡ total (take i l) + get_or l i 0
total_next [] i h = absurd (omega arith)
total_next (x ∷ l) zero h = omega arith
total_next (x ∷ l) (suc i) h = omega (arith, total_next l i (omega arith))

total_le : (l : List ℕ) (i n : ℕ) → i ≤ n → total (take i l) ≤ total (take n l)
total_le [] i n h = rw (take-nil i, take-nil n) (omega arith)
total_le (x ∷ l) zero n h = omega arith
total_le (x ∷ l) (suc i) zero h = absurd (omega arith)
total_le (x ∷ l) (suc i) (suc n) h = omega (arith, total_le l i n (omega arith))

-- ---- place_all

pub record Placing (lengths : List ℕ) (n : ℕ) (at ends : List ℕ) (sum i : ℕ) : Type 0 where
  pub summed : Summed lengths n
  pub passed : i ≤ n
  pub known : n ≤ length lengths
  pub long : length at ≡ 64
  pub long_ends : length ends ≡ 64
  pub sum_is : sum ≡ total (take i lengths)
  pub low : sum ≤ limit Delta
  pub starts : (j : ℕ) → j < i → get_or at j 0 ≡ total (take j lengths)
  pub stops : (j : ℕ) → j < i → get_or ends j 0 ≡ total (take j lengths) + get_or lengths j 0

pub place_start : (lengths : List ℕ) (n : ℕ) (at ends : List ℕ) → Summed lengths n → length lengths ≡ 64 → length at ≡ 64 → length ends ≡ 64 →
    Placing lengths n at ends 0 0
place_start lengths n at ends s l a e = record {
  summed = s;
  passed = omega arith;
  known = omega (arith, s.few);
  long = a;
  long_ends = e;
  sum_is = refl;
  low = omega arith;
  starts = λ j q. absurd (omega arith);
  stops = λ j q. absurd (omega arith);
}

module _ (lengths : List ℕ) (n : ℕ) (at ends : List ℕ) (sum i : ℕ) (p : Placing lengths n at ends sum i) where
  module _ (h : i < n) (k : ℕ) (e : k ≡ get_or lengths i 0) where
    sum_here : total (take (i + 1) lengths) ≡ sum + k
    sum_here =
        let f : i + 1 ≡ suc i = omega arith in
        rw (f, e, p.sum_is) (total_next lengths i (omega (arith, p.known)))

    place_fits : sum + k ≤ limit Delta
    place_fits = omega (arith, sum_here, total_le lengths (i + 1) n (omega arith), p.summed.small)

    pub place_again : Placing lengths n (set at i sum) (set ends i (sum + k)) (sum + k) (i + 1)
    place_again = record {
      summed = p.summed;
      passed = omega arith;
      known = p.known;
      long = length-set at i sum ∙ p.long;
      long_ends = length-set ends i (sum + k) ∙ p.long_ends;
      sum_is = sym sum_here;
      low = place_fits;
      starts = λ j q. start j q (ℕ_discrete j i);
      stops = λ j q. stop j q (ℕ_discrete j i);
    }
      where
        start : (j : ℕ) → j < i + 1 → Dec (j ≡ i) → get_or (set at i sum) j 0 ≡ total (take j lengths)
        start j q (yes d) = rw (d, get_or-set_same at i sum 0 (omega (arith, p.long, p.summed.few))) p.sum_is
        start j q (no d) = get_or-set_other at i j sum 0 d ∙ p.starts j (omega arith)

        stop : (j : ℕ) → j < i + 1 → Dec (j ≡ i) → get_or (set ends i (sum + k)) j 0 ≡ total (take j lengths) + get_or lengths j 0
        stop j q (yes d) = rw (d, get_or-set_same ends i (sum + k) 0 (omega (arith, p.long_ends, p.summed.few)), e, p.sum_is)
        stop j q (no d) = get_or-set_other ends i j (sum + k) 0 d ∙ p.stops j (omega arith)

  pub place_done : n ≤ i → Placed lengths n (record { at = at; ends = ends })
  place_done h = record {
    known = p.known;
    long = p.long;
    long_ends = p.long_ends;
    starts = λ j q. p.starts j (omega arith);
    stops = λ j q. p.stops j (omega arith);
  }

pub ruleset placing = (place_start, place_again, place_done)

-- ---- the deltas of a store, one by one

cuts_drop : (r : ℕ) (ks : List ℕ) (s : Bytes) → drop r (cuts ks s) ≡ cuts (drop r ks) (drop (total (take r ks)) s)
cuts_drop zero ks s = refl
cuts_drop (suc r) [] s = refl
cuts_drop (suc r) (k ∷ ks) s = cuts_drop r ks (drop k s) ∙ ap (cuts (drop r ks)) (drop-drop (total (take r ks)) k s)

-- what holds of each holds of the one at i
cut_at : (P : Bytes → Type 0) (ks : List ℕ) (s : Bytes) (i : ℕ) → All P (cuts ks s) → i < length ks → P (take (get_or ks i 0) (drop (total (take i ks)) s))
cut_at P [] s i h l = absurd (omega arith)
cut_at P (k ∷ ks) s zero h l = h.0
cut_at P (k ∷ ks) s (suc i) h l =
    let e : drop (total (take i ks)) (drop k s) ≡ drop (k + total (take i ks)) s = drop-drop (total (take i ks)) k s in
    rw e at (cut_at P ks (drop k s) i h.1 (omega arith))

-- a delta has no more items than bytes
cells_f_few : (n : ℕ) (s : Bytes) → length (cells_f n s) ≤ n
unfolding cells_f
cells_f_few zero s = omega arith
cells_f_few (suc n) s = go (front s) (λ t. cells_f_few n t)
  where
    go : (f : Front) → ((t : Bytes) → length (cells_f n t) ≤ n) → length (cells_at f (cells_f n)) ≤ suc n
    go end h = omega arith
    go cut h = omega arith
    go (whole tag b rest) h = omega (arith, h rest)

changes_few : (s : Bytes) → length (changes s) ≤ length s
unfolding entries cells
changes_few s = rw (length-map (cells s) (entry_of Delta)) (cells_f_few (length s) s)

items_few : (ks : List ℕ) (s : Bytes) → items_in (map changes (cuts ks s)) ≤ length s
items_few [] s = omega arith
items_few (k ∷ ks) s = omega (arith, changes_few (take k s), length-take k s, items_few ks (drop k s), length-drop k s)

-- ---- the runs at the places

module _ (s : Bytes) (lengths : List ℕ) (n : ℕ) (r : Places) (p : Placed lengths n r) where
  -- one of them
  cut_is : (i : ℕ) → i < n → drop (get_or r.at i 0) (take (get_or r.ends i 0) s) ≡ take (get_or lengths i 0) (drop (total (take i lengths)) s)
  cut_is i h =
      let e : total (take i lengths) + get_or lengths i 0 - total (take i lengths) ≡ get_or lengths i 0 = omega arith in
      rw (p.starts i h, p.stops i h) (drop_take (total (take i lengths)) (total (take i lengths) + get_or lengths i 0) s ∙ rw e)

  runs_are : (i m : ℕ) → i + m ≤ n → runs_n s r.at r.ends i m ≡ map changes (cuts (take m (drop i lengths)) (drop (total (take i lengths)) s))
  unfolding runs_n run
  runs_are i zero h = refl
  runs_are i (suc m) h =
      let l : i < length lengths = omega (arith, p.known) in
      let a : changes (drop (get_or r.at i 0) (take (get_or r.ends i 0) s)) ≡ changes (take (get_or lengths i 0) (drop (total (take i lengths)) s)) = ap changes (cut_is i (omega arith)) in
      let b : drop (get_or lengths i 0) (drop (total (take i lengths)) s) ≡ drop (total (take (suc i) lengths)) s =
      drop-drop (get_or lengths i 0) (total (take i lengths)) s ∙ ap (λ (k : ℕ). drop k s) (sym (total_next lengths i l)) in
      rw (drop-cons lengths i 0 l) (ap₂ (λ (x : D) (y : List D). x ∷ y) a (runs_are (suc i) m (omega arith) ∙ rw b))

  module _ (d : ℕ) (h : d ≤ n) where
    cuts_tail : cuts (take (n - (n - d)) (drop (n - d) lengths)) (drop (total (take (n - d) lengths)) s) ≡ drop (n - d) (cuts (take n lengths) s)
    cuts_tail =
        ap₂ cuts (sym (drop_take (n - d) n lengths)) (ap (λ (l : List ℕ). drop (total l) s) (sym (take-take (n - d) n lengths (omega arith))))
        ∙ sym (cuts_drop (n - d) (take n lengths) s)

    tail_is : runs s r.at r.ends (n - d) n ≡ map changes (drop (n - d) (cuts (take n lengths) s))
    tail_is =
        let e : n - (n - d) ≡ n - (n - d) = refl in
        runs_are (n - d) (n - (n - d)) (omega arith)
        ∙ ap (map changes) (
        ap₂ cuts (sym (drop_take (n - d) n lengths)) (ap (λ (l : List ℕ). drop (total l) s) (sym (take-take (n - d) n lengths (omega arith))))
        ∙ sym (cuts_drop (n - d) (take n lengths) s)
        )

    pub last_is : runs s r.at r.ends (n - d) n ≡ map changes (last_n d (cuts (take n lengths) s))
    last_is =
        let e : length (cuts (take n lengths) s) ≡ n = cuts_length (take n lengths) s ∙ length-take n lengths ∙ omega (arith, p.known) in
        tail_is ∙ rw e

    pub left_is : left_of s r.at r.ends (n - d) n ≡ last_merged s lengths n d
    left_is = ap (merge_all bytes bytes) last_is

    module _ (t : Stored s lengths n) where
      fine_at : (i : ℕ) → i < n → IsFine (take (get_or lengths i 0) (drop (total (take i lengths)) s))
      fine_at i q =
          let g = cut_at IsFine (take n lengths) s i t.good (rw (length-take n lengths) (omega (arith, p.known))) in
          rw (get_or-take n lengths i 0 q, take-take i n lengths (omega arith)) at g

      stands_at : (i : ℕ) → i < n → Stands s (get_or r.at i 0) (get_or r.ends i 0)
      stands_at i q =
          let g = good_start_lem Delta _ (fine_at i q) in
          let w = total_le lengths (suc i) n (omega arith) in
          let x = total_next lengths i (omega (arith, p.known)) in
          let y : get_or r.ends i 0 ≤ length s = rw (p.stops i q) (omega (arith, t.fits)) in
          record {
            ready = record {
              good = record { before = g.before; run = rw (cut_is i q) g.run };
              within = rw (length-take (get_or r.ends i 0) s, p.starts i q) (omega (arith, y, p.stops i q));
            };
            within = y;
          }

      sorted_all : All (Sorted bytes) (runs s r.at r.ends (n - d) n)
      sorted_all =
          rw last_is
          (all_map changes IsFine (Sorted bytes) (λ x f. ((faithful Delta).map_of x f).sorted) (last_n d (cuts (take n lengths) s))
          (all_drop IsFine (length (cuts (take n lengths) s) - d) (cuts (take n lengths) s) t.good))

      few_left : items_left s r.at r.ends (n - d) n ≤ limit Delta
      few_left =
          let f = items_few (take (n - (n - d)) (drop (n - d) lengths)) (drop (total (take (n - d) lengths)) s) in
          rw (runs_are (n - d) (n - (n - d)) (omega arith)) (omega (arith, length-drop (total (take (n - d) lengths)) s, t.small))

      most : ((i : ℕ) → Fits w8 (get_or s i 0)) → (m : ℕ) → m ≡ total (between lengths (n - d) n) →
          length (writes Delta (left_of s r.at r.ends (n - d) n)) ≤ m
      most o m e =
          let f : All IsFine (cuts (take (n - (n - d)) (drop (n - d) lengths)) (drop (total (take (n - d) lengths)) s)) =
          rw cuts_tail (all_drop IsFine (n - d) (cuts (take n lengths) s) t.good) in
          rw (e, runs_are (n - d) (n - (n - d)) (omega arith))
          (merged_size (take (n - (n - d)) (drop (n - d) lengths)) (drop (total (take (n - d) lengths)) s)
          (drop_bytes (total (take (n - d) lengths)) s (λ i. (o i).fits)) f)

      bounded : Bounded s r.at r.ends (n - d) n
      bounded = record {
        walks = record {
          within = record { few = t.few; long = p.long; long_ends = p.long_ends; each = stands_at };
          up = sorted_all;
        };
        few = few_left;
      }

      pub last_within : Within s r.at r.ends n
      last_within = bounded.walks.within

      module _ (w : Walk) (l : LinedUp s r.at r.ends (n - d) n w) where
        pub last_starts : Starts w
        last_starts = record { bounded = rw (l.store, l.at, l.ends, l.from, l.n) bounded; fronted = rw (l.store, l.at, l.ends, l.from, l.n) l.fronted }

        pub last_most : ((i : ℕ) → Fits w8 (get_or s i 0)) → (m : ℕ) → m ≡ total (between lengths (n - d) n) → length (writes Delta (remains w)) ≤ m
        last_most o m e = rw (l.store, l.at, l.ends, l.from, l.n) (most o m e)

        pub remains_is : remains w ≡ last_merged s lengths n d
        remains_is = rw (l.store, l.at, l.ends, l.from, l.n) left_is

        pub last_output : (c : Option Counts) (m : ℕ) → c ≡ output_of Delta (remains w) m → c ≡ output_of Delta (last_merged s lengths n d) m
        last_output c m e = e ∙ ap (λ (x : D). output_of Delta x m) remains_is

        pub last_bytes : (o o' : Bytes) → o' ≡ whole_out Delta (remains w) o → o' ≡ whole_out Delta (last_merged s lengths n d) o
        last_bytes o o' e = e ∙ ap (λ (x : D). whole_out Delta x o) remains_is

pub stored_summed : (s : Bytes) (lengths : List ℕ) (n : ℕ) → Stored s lengths n → Summed lengths n
stored_summed s lengths n t = record { few = t.few; small = omega (arith, t.fits, t.small) }

pub last_ordered : (n d : ℕ) → n - d ≤ n
last_ordered n d = omega arith

pub last_few : (s : Bytes) (lengths : List ℕ) (n : ℕ) → Stored s lengths n → n ≤ 64
last_few s lengths n t = t.few

pub ruleset lasting = (stored_summed, last_ordered, last_few, last_within, last_starts, last_most, last_output, last_bytes)
