-- Laws of an update.
use Prim.Native.Nat.{ℕ, ◌-◌, ◌^◌, ◌≤◌, ◌<◌}
use mathlib.Core.Path.{◌≡◌, refl, sym, ap, ◌∙◌}
use mathlib.Core.List.{[], map}
use mathlib.Core.Bool.{Bool, true, false, not, cond}
use native.Mathlib.Omega.{arith}
use lib.Dec.{leb, eqb}
use lib.ListN.{length, take, drop, replicate}
use borrow.Author.Tests.{not-true, not-false, le-leb, lt-leb, ne_eqb}
use Rattle.order.proofs.Never.{never}
use Rattle.body.specs.declared.tag.Form.TheVariants.{Snapshot, Delta}
use Rattle.payload.specs.Content.{Bytes}
use Rattle.payload.specs.Limit.{limit}
use Rattle.payload.specs.Payload.{encode}
use Rattle.delta.specs.declared.refusal.Refusal.{Refusal}
use Rattle.delta.specs.declared.refusal.Refusal.TheVariants.{IllFormed, StoreFull}
use Rattle.item.specs.declared.reading.Reading.TheVariants.{Withdrawn, Announced}
use Rattle.item.specs.declared.sink.Counts.{Counts}
use Rattle.delta.specs.Admission.{admit_one_of}
use Rattle.item.specs.Write.{plus_all, zero}
use Rattle.walk.specs.Walk.{Runs, merged_as}
use Rattle.delta.specs.Answer.{difference_of, counts_of}
use Rattle.delta.proofs.Answering.{runs_of, difference_is, counts_are}
use Rattle.past.specs.declared.state.History.{History}
use Rattle.history.specs.declared.push.Kept.{Kept}
use Rattle.past.specs.declared.update.Updated.{Updated}
use Rattle.past.specs.Store.{total, held_snapshot}
use Rattle.payload.specs.Written.{written_over}
use Rattle.past.specs.WellFormed.{well_formed}
use Rattle.past.specs.Update.{Step, refuse, first, unchanged, add, deltas_with, first_step, admitted_step, step_for, update_at, update_of, snapshots_at, update_snapshots, deltas_at, update_deltas}
use Rattle.merged.specs.Place.{between}
use Rattle.history.specs.Push.{drops_of, kept_of, grown_of, laid, Ranged, Pushes, Grows}
use Rattle.history.specs.Stage.{update_admitted, Judged, Compares, Accepts, Renews, Extends, Does, Stores, first_of, first_store}
use Rattle.past.proofs.Steps.{unchanged_step}
use Rattle.history.proofs.Adding.{Formed, formed_is, admitted_short, renews_compares, stay_within, with_total, with_store, with_state}
use Rattle.delta.specs.Admission.{Admitted}
use Rattle.std.specs.Prelude.{Err, Ok}
use Rattle.past.specs.declared.update.Update.TheVariants as outcome

-- ---- admission

module _ (h : History) (new s d : Bytes) (t : Bool) (e : t ≡ well_formed h s d) where
  pub admit_ill : not t ≡ true → Judged h new s d (Err IllFormed)
  unfolding update_admitted
  admit_ill q = record { is = rw (← e, not-true t q) }

  pub admit_new : (r : Admitted) → not t ≡ false → r ≡ admit_one_of Snapshot new → Judged h new s d r
  unfolding update_admitted
  admit_new r q p = record { is = rw (← e, not-false t q) p }

pub ruleset admitting = (admit_ill, admit_new)

-- ---- the first snapshot

module _ (h : History) (new s : Bytes) where
  pub first_full : length s < length new → record { answer = Err StoreFull; history = h } ≡ first_of h new s
  unfolding first_of
  first_full l = rw (lt-leb (length new) (length s) l)

  pub first_made : (k : ℕ) → length new ≤ length s → k ≡ length new →
      record { answer = Ok outcome.First; history = record { session = h.session; keep = h.keep; active = true; newest = h.newest; start = h.start; n = 0; snapshot = k; deltas = replicate 64 0 } } ≡ first_of h new s
  unfolding first_of
  first_made k l e = rw (le-leb (length new) (length s) l, e)

module _ (new s : Bytes) where
  pub first_left : length s < length new → s ≡ first_store new s
  unfolding first_store
  first_left l = rw (lt-leb (length new) (length s) l)

  pub first_held : (q : Bytes) → length new ≤ length s → q ≡ written_over new s → q ≡ first_store new s
  unfolding first_store
  first_held q l e = rw (le-leb (length new) (length s) l) e

pub ruleset beginning = (first_full, first_made, first_left, first_held)

-- ---- the difference

module _ (h : History) (new s : Bytes) (p : Compares h new s) (held : ℕ) (e : held ≡ h.snapshot) where
  pub compare_end : held ≤ length s
  compare_end = let w = p.within in omega arith

  compare_old : take (held - 0) (drop 0 s) ≡ held_snapshot h s
  compare_old = let z : held - 0 ≡ h.snapshot = omega arith in rw z

  pub compare_runs : Runs Withdrawn (take (held - 0) (drop 0 s)) Announced new
  compare_runs = rw compare_old (runs_of Withdrawn (held_snapshot h s) Announced new p.inputs)

  pub compare_counts : (r : Counts) → r ≡ plus_all Delta zero (merged_as Withdrawn (take (held - 0) (drop 0 s)) Announced new) →
      r ≡ counts_of (difference_of (held_snapshot h s) new)
  compare_counts r q =
      q ∙ counts_are (merged_as Withdrawn (take (held - 0) (drop 0 s)) Announced new)
      ∙ ap counts_of (ap (λ (o : Bytes). encode Delta (merged_as Withdrawn o Announced new)) compare_old ∙ difference_is (held_snapshot h s) new p.inputs)

pub ruleset comparing = (compare_end, compare_runs, compare_counts)

-- ---- what each step leaves

module _ (h : History) (new s d : Bytes) (x : Step) (e : step_for h new s d ≡ x) where
  step_answer : update_at x h new d ≡ update_of h new s d
  unfolding update_of
  step_answer = rw e

  step_snapshots : snapshots_at x new s ≡ update_snapshots h new s d
  unfolding update_snapshots
  step_snapshots = rw e

  step_deltas : deltas_at x h d ≡ update_deltas h new s d
  unfolding update_deltas
  step_deltas = rw e

  step_does : Does h new s d (update_at x h new d) (snapshots_at x new s) (deltas_at x h d)
  step_does = record { answer = step_answer; snapshots = step_snapshots; deltas = step_deltas }

-- ---- a change

module _ (h : History) (new s d : Bytes) (counts : Counts) (kept : Kept) (x : Extends h new s d counts kept) where
  abbrev c : Bytes
  c = difference_of (held_snapshot h s) new

  formed : Formed h s d
  formed = formed_is h s d x.renews.formed

  len_is : counts.len ≡ length (difference_of (held_snapshot h s) new)
  len_is = ap (λ (k : Counts). k.len) x.counted

  kept_len : kept.len ≡ total (between h.deltas (drops_of h) h.n)
  unfolding kept_of
  kept_len = ap (λ (k : Kept). k.len) x.stays

  kept_from : kept.from ≡ total (between h.deltas 0 (drops_of h))
  unfolding kept_of
  kept_from = ap (λ (k : Kept). k.from) x.stays

  pub extend_first : kept.first ≡ drops_of h
  unfolding kept_of
  extend_first = ap (λ (k : Kept). k.first) x.stays

  pub extend_ranged : Ranged h
  extend_ranged = formed.ranged

  pub extend_new : length new < 2 ^ 32
  extend_new = let l = admitted_short new x.renews.admitted in omega arith

  pub extend_delta : counts.len < 2 ^ 32
  extend_delta = let l = formed.limited in let r = x.room in omega arith

  step : step_for h new s d ≡ add c
  unfolding step_for
  step =
      let r = x.renews in
      let t : total (map length (deltas_with h d c)) ≤ length d = let z = with_total h s d formed c in omega (arith, x.room, kept_len, len_is) in
      let n : length c ≡ 0 → ⊥ = λ z. x.some (len_is ∙ z) in
      rw (r.formed, r.admitted, r.active, ne_eqb (length c) 0 n, le-leb (length new) (length s) x.fits, le-leb (total (map length (deltas_with h d c))) (length d) t)

  extend_snapshots : (q : Bytes) → q ≡ written_over new s → q ≡ update_snapshots h new s d
  extend_snapshots q e = e ∙ step_snapshots h new s d (add c) step

  extend_answer : (g : History) → length h.deltas ≡ 64 → g ≡ grown_of h kept.first (length new) counts.len →
      record { answer = Ok (outcome.Changed counts); history = g } ≡ update_of h new s d
  extend_answer g l e =
      let y : g ≡ (update_at (add c) h new d).history = e ∙ rw (extend_first, len_is) (with_state h s d formed c l new) in
      (λ i. record { answer = Ok (outcome.Changed (x.counted i)); history = y i }) ∙ step_answer h new s d (add c) step

  pub extend_does : (g : History) (q p : Bytes) → Grows h kept.first (length new) counts.len g → Stores h new s d q p →
      Does h new s d (record { answer = Ok (outcome.Changed counts); history = g }) q p
  extend_does g q p e t = record { answer = extend_answer g e.full e.is; snapshots = t.snapshots; deltas = t.deltas }

  module _ (held : ℕ) (e : held ≡ h.snapshot) where
    pub extend_end : held ≤ length s
    extend_end = let w = formed.within in omega arith

    old_is : take (held - 0) (drop 0 s) ≡ held_snapshot h s
    old_is = let z : held - 0 ≡ h.snapshot = omega arith in rw z

    pub extend_pushes : Pushes (take (held - 0) (drop 0 s)) new kept.from kept.len d
    extend_pushes = rw old_is (record {
      inputs = (renews_compares h new s d x.renews).inputs;
      within = let w = stay_within h s d formed in omega (arith, kept_len, kept_from);
      room = omega (arith, x.room, len_is);
    })

    extend_deltas : (q : Bytes) → q ≡ laid kept.from kept.len (difference_of (take (held - 0) (drop 0 s)) new) d → q ≡ update_deltas h new s d
    extend_deltas q f = f ∙ rw (old_is, kept_from, kept_len) (with_store h s d formed c) ∙ step_deltas h new s d (add c) step

    pub extend_stores : (q p : Bytes) → p ≡ laid kept.from kept.len (difference_of (take (held - 0) (drop 0 s)) new) d → q ≡ written_over new s → Stores h new s d q p
    extend_stores q p f g = record { snapshots = extend_snapshots q g; deltas = extend_deltas p f }

pub ruleset laying = (extend_end, extend_pushes, extend_stores)

pub ruleset extending = (extend_first, extend_ranged, extend_new, extend_delta, extend_does)

-- ---- a later snapshot

module _ (h : History) (new s d : Bytes) (r : Renews h new s d) where
  pub later_compares : Compares h new s
  later_compares = renews_compares h new s d r

  pub later_ranged : Ranged h
  later_ranged = (formed_is h s d r.formed).ranged

  module _ (counts : Counts) (e : counts ≡ counts_of (difference_of (held_snapshot h s) new)) where
    length_is : counts.len ≡ length (difference_of (held_snapshot h s) new)
    length_is = ap (λ (k : Counts). k.len) e

    module _ (z : counts.len ≡ 0) where
      same : step_for h new s d ≡ unchanged
      same = unchanged_step h new s d r.formed r.admitted r.active (sym length_is ∙ z)

      pub later_same : Does h new s d (record { answer = Ok outcome.Unchanged; history = h }) s d
      later_same = step_does h new s d unchanged same

    module _ (z : counts.len ≡ 0 → ⊥) where
      differs : eqb (length (difference_of (held_snapshot h s) new)) 0 ≡ false
      differs = ne_eqb (length (difference_of (held_snapshot h s) new)) 0 (λ y. z (length_is ∙ y))

      module _ (l : length s < length new) where
        long : step_for h new s d ≡ refuse StoreFull
        unfolding step_for
        long = rw (r.formed, r.admitted, r.active, differs, lt-leb (length new) (length s) l)

        pub later_long : Does h new s d (record { answer = Err StoreFull; history = h }) s d
        later_long = step_does h new s d (refuse StoreFull) long

      module _ (l : length new ≤ length s) (kept : Kept) (k : kept ≡ kept_of h) where
        len_kept : kept.len ≡ total (between h.deltas (drops_of h) h.n)
        unfolding kept_of
        len_kept = ap (λ (m : Kept). m.len) k

        pub later_extends : counts.len ≤ length d - kept.len → Extends h new s d counts kept
        later_extends m = record {
          renews = r;
          counted = e;
          some = z;
          fits = l;
          stays = k;
          room = let w = stay_within h s d (formed_is h s d r.formed) in omega (arith, len_kept);
        }

        module _ (m : length d - kept.len < counts.len) where
          full : step_for h new s d ≡ refuse StoreFull
          unfolding step_for
          full =
              let t : length d < total (map length (deltas_with h d (difference_of (held_snapshot h s) new))) = let y = with_total h s d (formed_is h s d r.formed) (difference_of (held_snapshot h s) new) in omega (arith, len_kept, length_is) in
              rw (r.formed, r.admitted, r.active, differs, le-leb (length new) (length s) l, lt-leb (total (map length (deltas_with h d (difference_of (held_snapshot h s) new)))) (length d) t)

          pub later_full : Does h new s d (record { answer = Err StoreFull; history = h }) s d
          later_full = step_does h new s d (refuse StoreFull) full

  pub later_kept : (kept : Kept) → kept ≡ kept_of h → kept.len ≤ length d
  unfolding kept_of
  later_kept kept k =
      let w = stay_within h s d (formed_is h s d r.formed) in
      let l : kept.len ≡ total (between h.deltas (drops_of h) h.n) = ap (λ (m : Kept). m.len) k in
      omega arith

pub ruleset lasting = (later_compares, later_ranged, later_kept, later_same, later_long, later_full, later_extends)

-- ---- the update

admitted_both : (h : History) (new s d : Bytes) → update_admitted h new s d ≡ Ok tt → (well_formed h s d ≡ true) × (admit_one_of Snapshot new ≡ Ok tt)
unfolding update_admitted
admitted_both h new s d = go (well_formed h s d) refl
  where
    go : (t : Bool) → well_formed h s d ≡ t → cond t (admit_one_of Snapshot new) (Err IllFormed) ≡ Ok tt → (well_formed h s d ≡ true) × (admit_one_of Snapshot new ≡ Ok tt)
    go true q e = (q, e)
    go false q e = never cc

refused_step : (h : History) (new s d : Bytes) (r : Refusal) → update_admitted h new s d ≡ Err r → step_for h new s d ≡ refuse r
unfolding update_admitted step_for
refused_step h new s d r = go (well_formed h s d)
  where
    go : (t : Bool) → cond t (admit_one_of Snapshot new) (Err IllFormed) ≡ Err r → cond t (admitted_step (admit_one_of Snapshot new) h new s d) (refuse IllFormed) ≡ refuse r
    go true e = rw e
    go false e = cc

module _ (h : History) (new s d : Bytes) (x : Admitted) (e : Judged h new s d x) where
  pub update_refused : (r : Refusal) → x ≡ Err r → Does h new s d (record { answer = Err r; history = h }) s d
  update_refused r q = step_does h new s d (refuse r) (refused_step h new s d r (sym e.is ∙ q))

  pub update_accepts : x ≡ Ok tt → Accepts h new s d
  update_accepts y = let b = admitted_both h new s d (sym e.is ∙ y) in record { formed = b.0; admitted = b.1 }

pub ruleset updating = (update_refused, update_accepts)

-- ---- a snapshot that is admitted

module _ (h : History) (new s d : Bytes) (x : Accepts h new s d) where
  pub accept_renews : h.active ≡ true → Renews h new s d
  accept_renews a = record { formed = x.formed; admitted = x.admitted; active = a }

  pub accept_short : length new ≤ limit Snapshot
  accept_short = admitted_short new x.admitted

  module _ (a : h.active ≡ false) where
    begins : step_for h new s d ≡ first_step new s
    unfolding step_for
    begins = rw (x.formed, x.admitted, a)

    first_any : update_at (first_step new s) h new [] ≡ update_at (first_step new s) h new d
    first_any = go (leb (length new) (length s))
      where
        go : (t : Bool) → update_at (cond t first (refuse StoreFull)) h new [] ≡ update_at (cond t first (refuse StoreFull)) h new d
        go true = refl
        go false = refl

    first_keeps : d ≡ deltas_at (first_step new s) h d
    first_keeps = go (leb (length new) (length s))
      where
        go : (t : Bool) → d ≡ deltas_at (cond t first (refuse StoreFull)) h d
        go true = refl
        go false = refl

    pub accept_first : (r : Updated) (q : Bytes) → r ≡ first_of h new s → q ≡ first_store new s → Does h new s d r q d
    unfolding first_of first_store
    accept_first r q e p = record {
      answer = e ∙ first_any ∙ step_answer h new s d (first_step new s) begins;
      snapshots = p ∙ step_snapshots h new s d (first_step new s) begins;
      deltas = first_keeps ∙ step_deltas h new s d (first_step new s) begins;
    }

pub ruleset accepting = (accept_renews, accept_short, accept_first)
