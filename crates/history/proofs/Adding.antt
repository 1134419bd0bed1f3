-- Laws of a delta that is added: what stays of the held ones, and what the stores and lengths become.
use Prim.Native.Nat.{ℕ, zero, suc, ◌+◌, ◌-◌, ◌≤◌}
use mathlib.Core.Path.{◌≡◌, refl, sym, ap, ap₂, ◌∙◌}
use mathlib.Core.List.{List, [], ◌∷◌, ◌++◌, map, append_assoc, append-nil}
use mathlib.Core.Bool.{Bool, true, false, cond, ◌&&◌}
use native.Mathlib.Omega.{arith}
use lib.Dec.{leb, eqb}
use lib.ListN.{length, take, drop, length-take, length-drop, length-append, length-map}
use lib.Seq.{take-take, take-add, drop-drop}
use borrow.Author.Tests.{leb-true}
use Rattle.order.proofs.Never.{never}
use Rattle.body.proofs.Sizes.{both}
use Rattle.body.specs.declared.tag.Form.TheVariants.{Snapshot, Delta}
use Rattle.field.specs.Verdict.{verdict}
use Rattle.payload.specs.Content.{Bytes}
use Rattle.payload.specs.Limit.{limit}
use Rattle.delta.specs.declared.refusal.Refusal.TheVariants.{TooLong}
use Rattle.delta.specs.Admission.{verdict_admitted, and_then, admit_one_of}
use Rattle.item.proofs.Places.{drop_take}
use Rattle.past.specs.declared.state.History.{History}
use Rattle.past.specs.Store.{total, cuts, joined, held_snapshot, held_lengths, held_deltas, lengths_of}
use Rattle.payload.specs.Written.{written_over}
use Rattle.past.specs.WellFormed.{is_good, every, good_keep, in_range, good_serial, good_start, well_formed}
use Rattle.history.specs.Check.{good_state, good_snapshot, good_runs, good_deltas}
use Rattle.past.specs.Update.{pushed, deltas_with, next_state}
use Rattle.merged.specs.Place.{between}
use Rattle.history.specs.Push.{drops_of, lengths_with, grown_of, laid, Ranged}
use Rattle.history.specs.Stage.{Compares, Renews}
use Rattle.past.proofs.Lists.{map_push}
use Rattle.past.proofs.Store.{joined_length}
use Rattle.past.proofs.Steps.{admitted_fine}
use Rattle.history.proofs.Forming.{formed_parts}
use Rattle.history.proofs.Asking.{fine_true}
use Rattle.history.proofs.Pushing.{drops_few}
use Rattle.std.specs.Prelude.{Err, Ok}

-- ---- what a well-formed history and an admitted snapshot tell

pub record Formed (h : History) (snapshots deltas : Bytes) : Type 0 where
  pub ranged : Ranged h
  pub short : length snapshots ≤ limit Snapshot
  pub within : h.snapshot ≤ length snapshots
  pub good : verdict Snapshot (held_snapshot h snapshots) ≡ Ok tt
  pub limited : length deltas ≤ limit Delta
  pub room : total (held_lengths h) ≤ length deltas

state_ranged : (h : History) → good_state h ≡ true → Ranged h
unfolding good_state
state_ranged h e =
    let p = both (in_range h && good_serial h) (good_start h) e in
    let q = both (in_range h) (good_serial h) p.0 in
    let r = both (good_keep h.keep) (leb h.n h.keep) q.0 in
    let t = both (leb 1 h.keep) (leb h.keep 64) r.0 in
    record { least = leb-true 1 h.keep t.0; most = leb-true h.keep 64 t.1; count = leb-true h.n h.keep r.1 }

pub formed_is : (h : History) (s d : Bytes) → well_formed h s d ≡ true → Formed h s d
unfolding good_snapshot good_deltas good_runs
formed_is h s d e =
    let p = both (good_state h && good_snapshot h.snapshot s) (good_deltas (held_lengths h) d) (sym (formed_parts h s d) ∙ e) in
    let q = both (good_state h) (good_snapshot h.snapshot s) p.0 in
    let r = both (leb (length s) (limit Snapshot)) (leb h.snapshot (length s) && is_good Snapshot (held_snapshot h s)) q.1 in
    let t = both (leb h.snapshot (length s)) (is_good Snapshot (held_snapshot h s)) r.1 in
    let u = both (leb (length d) (limit Delta)) (good_runs (held_lengths h) d) p.1 in
    let v = both (leb (total (held_lengths h)) (length d)) (every (is_good Delta) (held_deltas h d)) u.1 in
    record {
      ranged = state_ranged h q.0;
      short = leb-true (length s) (limit Snapshot) r.0;
      within = leb-true h.snapshot (length s) t.0;
      good = fine_true (verdict Snapshot (held_snapshot h s)) t.1;
      limited = leb-true (length d) (limit Delta) u.0;
      room = leb-true (total (held_lengths h)) (length d) v.0;
    }

pub admitted_short : (s : Bytes) → admit_one_of Snapshot s ≡ Ok tt → length s ≤ limit Snapshot
admitted_short s = go (leb (length s) (limit Snapshot)) refl
  where
    go : (t : Bool) → leb (length s) (limit Snapshot) ≡ t → and_then (cond t (Ok tt) (Err (TooLong 1))) (verdict_admitted 1 (verdict Snapshot s)) ≡ Ok tt → length s ≤ limit Snapshot
    go true q e = leb-true (length s) (limit Snapshot) q
    go false q e = never cc

pub renews_compares : (h : History) (new s d : Bytes) → Renews h new s d → Compares h new s
renews_compares h new s d r =
    let f = formed_is h s d r.formed in
    record {
      within = f.within;
      inputs = record {
        short_a = let l = length-take h.snapshot s in omega (arith, l, f.short);
        short_b = admitted_short new r.admitted;
        fine_a = f.good;
        fine_b = admitted_fine Snapshot new r.admitted;
      };
    }

-- ---- byte strings cut and joined

cuts_lengths : (ks : List ℕ) (s : Bytes) → total ks ≤ length s → map length (cuts ks s) ≡ ks
cuts_lengths [] s h = refl
cuts_lengths (k ∷ ks) s h =
    let l : length (take k s) ≡ k = length-take k s ∙ omega arith in
    rw l (ap (λ (r : List ℕ). k ∷ r) (cuts_lengths ks (drop k s) (omega (arith, length-drop k s))))

joined_cuts : (ks : List ℕ) (s : Bytes) → joined (cuts ks s) ≡ take (total ks) s
joined_cuts [] s = refl
joined_cuts (k ∷ ks) s = ap (λ (r : Bytes). take k s ++ r) (joined_cuts ks (drop k s)) ∙ sym (take-add k (total ks) s)

drop_cuts : (j : ℕ) (ks : List ℕ) (s : Bytes) → drop j (cuts ks s) ≡ cuts (drop j ks) (drop (total (take j ks)) s)
drop_cuts zero ks s = refl
drop_cuts (suc j) [] s = refl
drop_cuts (suc j) (k ∷ ks) s = drop_cuts j ks (drop k s) ∙ ap (cuts (drop j ks)) (drop-drop (total (take j ks)) k s)

joined_push : (ds : List Bytes) (d : Bytes) → joined (ds ++ (d ∷ [])) ≡ joined ds ++ d
joined_push [] d = append-nil d
joined_push (x ∷ ds) d = ap (λ (r : Bytes). x ++ r) (joined_push ds d) ∙ sym (append_assoc x (joined ds) d)

total_append : (a b : List ℕ) → total (a ++ b) ≡ total a + total b
total_append [] b = omega arith
total_append (k ∷ a) b = omega (arith, total_append a b)

total_split : (j : ℕ) (ks : List ℕ) → total (take j ks) + total (drop j ks) ≡ total ks
total_split zero ks = omega arith
total_split (suc j) [] = omega arith
total_split (suc j) (k ∷ ks) = omega (arith, total_split j ks)

-- ---- the deltas that are held once one is added

module _ (h : History) (s d : Bytes) (f : Formed h s d) where
  abbrev j : ℕ
  j = drops_of h

  -- the lengths that stay, and where their bytes start
  abbrev K : List ℕ
  K = between h.deltas (drops_of h) h.n

  abbrev F : ℕ
  F = total (between h.deltas 0 (drops_of h))

  lengths_stay : drop (drops_of h) (held_lengths h) ≡ K
  lengths_stay = drop_take (drops_of h) h.n h.deltas

  lengths_go : take (drops_of h) (held_lengths h) ≡ between h.deltas 0 (drops_of h)
  lengths_go =
      let z : drops_of h - 0 ≡ drops_of h = omega arith in
      rw z (take-take (drops_of h) h.n h.deltas (drops_few h f.ranged).1)

  pub stay_within : F + total K ≤ length d
  stay_within =
      let t = total_split (drops_of h) (held_lengths h) in
      let u : F + total K ≡ total (held_lengths h) = rw (← lengths_go, ← lengths_stay) t in
      omega (arith, f.room)

  pushed_stay : (ds : List Bytes) (c : Bytes) → pushed h.n h.keep ds c ≡ drop (drops_of h) ds ++ (c ∷ [])
  unfolding drops_of
  pushed_stay ds c = go (eqb h.n h.keep)
    where
      go : (t : Bool) → cond t (drop 1 ds) ds ++ (c ∷ []) ≡ drop (cond t 1 0) ds ++ (c ∷ [])
      go true = refl
      go false = refl

  module _ (c : Bytes) where
    with_is : deltas_with h d c ≡ cuts K (drop F d) ++ (c ∷ [])
    with_is =
        let e : drop (drops_of h) (held_deltas h d) ≡ cuts K (drop F d)
        = drop_cuts (drops_of h) (held_lengths h) d ∙ ap₂ (λ (ks gs : List ℕ). cuts ks (drop (total gs) d)) lengths_stay lengths_go in
        pushed_stay (held_deltas h d) c ∙ ap (λ (l : List Bytes). l ++ (c ∷ [])) e

    with_lengths : map length (deltas_with h d c) ≡ K ++ (length c ∷ [])
    with_lengths =
        ap (map length) with_is ∙ map_push length (cuts K (drop F d)) c
        ∙ ap (λ (l : List ℕ). l ++ (length c ∷ [])) (cuts_lengths K (drop F d) (let l = length-drop F d in omega (arith, stay_within)))

    pub with_total : total (map length (deltas_with h d c)) ≡ total K + length c
    with_total = ap total with_lengths ∙ total_append K (length c ∷ []) ∙ omega arith

    with_joined : joined (deltas_with h d c) ≡ take (total K) (drop F d) ++ c
    with_joined = ap joined with_is ∙ joined_push (cuts K (drop F d)) c ∙ ap (λ (b : Bytes). b ++ c) (joined_cuts K (drop F d))

    -- the store
    pub with_store : laid F (total K) c d ≡ written_over (joined (deltas_with h d c)) d
    unfolding laid
    with_store =
        let l : length (joined (deltas_with h d c)) ≡ total K + length c = joined_length (deltas_with h d c) ∙ with_total in
        rw (l, with_joined) (sym (append_assoc (take (total K) (drop F d)) c (drop (total K + length c) d)))

    -- the lengths
    module _ (full : length h.deltas ≡ 64) where
      pub with_count : h.n - drops_of h + 1 ≡ length (deltas_with h d c)
      with_count =
          let k : length K ≡ h.n - drops_of h = simp (length-take, length-drop) (let r = f.ranged in omega (arith, full, r.count, r.most)) in
          let l : length (map length (deltas_with h d c)) ≡ length (deltas_with h d c) = length-map (deltas_with h d c) length in
          let m : length (map length (deltas_with h d c)) ≡ length K + 1 = ap length with_lengths ∙ length-append K (length c ∷ []) in
          omega arith

      pub with_array : lengths_with h.deltas (drops_of h) h.n (length c) ≡ lengths_of (deltas_with h d c)
      unfolding lengths_with
      with_array =
          let e : suc (h.n - drops_of h) ≡ length (deltas_with h d c) = omega (arith, with_count) in
          rw (e, with_lengths)

      pub with_state : (new : Bytes) → grown_of h (drops_of h) (length new) (length c) ≡ next_state h new (deltas_with h d c)
      unfolding grown_of
      with_state new = λ i. record {
        session = h.session;
        keep = h.keep;
        active = true;
        newest = (next_state h new (deltas_with h d c)).newest;
        start = h.start;
        n = with_count i;
        snapshot = length new;
        deltas = with_array i;
      }
