-- What a history reached by a run of calls holds of the snapshots accepted so far.
use Prim.Native.Nat.{ℕ, ◌+◌, ◌-◌, ◌%◌, ◌^◌, ◌≤◌, ◌<◌, min}
use mathlib.Core.Path.{◌≡◌, refl, sym, ap, ◌∙◌}
use mathlib.Core.List.{List, [], ◌∷◌, ◌++◌, map}
use mathlib.Core.Bool.{Bool, true, false, cond, ◌&&◌}
use native.Mathlib.Omega.{arith}
use lib.Dec.{eqb}
use lib.ListN.{length, drop, length-append, length-map}
use lib.Seq.{drop-nil, take-append_seam}
use borrow.Author.Tests.{le-leb, eq-eqb, eqb-true}
use Rattle.order.specs.Comparison.{bytes}
use Rattle.order.specs.Map.{All}
use Rattle.order.proofs.Never.{never}
use Rattle.change.specs.Difference.{diff}
use Rattle.change.specs.History.{last_n, newest}
use Rattle.change.specs.Held.{diffs, held}
use Rattle.change.specs.Grouping.{steps}
use Rattle.change.proofs.Chain.{all_newest}
use Rattle.change.proofs.History.{diffs_length, held_push, last_n_push}
use Rattle.serial.specs.declared.Serial.{Serial}
use Rattle.number.specs.Bytes.{AllBytes}
use Rattle.body.specs.declared.tag.Form.TheVariants.{Snapshot, Delta}
use Rattle.field.specs.Head.{front}
use Rattle.field.specs.Verdict.{judge, verdict_f, verdict}
use Rattle.payload.specs.Content.{Bytes}
use Rattle.payload.specs.Payload.{items, changes}
use Rattle.payload.specs.Limit.{limit}
use Rattle.delta.specs.Answer.{difference_of}
use Rattle.past.specs.Store.{total, joined, held_snapshot, held_lengths, held_deltas}
use Rattle.payload.specs.Written.{written_over}
use Rattle.past.specs.WellFormed.{is_good, every, good_keep, good_serial, good_start, well_formed}
use Rattle.past.specs.Update.{Step, refuse, first, unchanged, add, deltas_with, next_state, step_for, update_at, update_of, snapshots_at, update_snapshots, deltas_at, update_deltas}
use Rattle.past.specs.Run.{World, Call, update, query, full, notify, ready, step_of, given_by, given_after}
use Rattle.past.specs.Promise.{OfBytes}
use Rattle.past.proofs.Lists.{last_n_length, steps_push, pushed_last, newest_push, all_push, all_pushed, map_push, map_pushed, map_newest}
use Rattle.past.proofs.Store.{joined_length, store_length, next_lengths, next_deltas}
use Rattle.delta.specs.Demand.{GoodSnapshot}
use Rattle.delta.proofs.Differences.{difference_fine, difference_says}
use Rattle.past.proofs.Steps.{Adds, Begins, step_add, step_first}
use Rattle.std.specs.Prelude.{Ok}

-- what no call changes: the session, keep and start serial of the creation, and stores within their limits
pub record Frame (session keep : ℕ) (start : Serial) (w : World) : Type 0 where
  pub of_session : w.history.session ≡ session
  pub of_keep : w.history.keep ≡ keep
  pub of_start : w.history.start ≡ start
  pub bound : start.0 < 2 ^ 32
  pub least : 1 ≤ keep
  pub most : keep ≤ 64
  pub snapshots : length w.snapshots ≤ limit Snapshot
  pub deltas : length w.deltas ≤ limit Delta

-- before the first snapshot
pub record Waits (session keep : ℕ) (start : Serial) (w : World) : Type 0 where
  pub frame : Frame session keep start w
  pub active : w.history.active ≡ false
  pub serial : w.history.newest.0 ≡ start.0
  pub count : w.history.n ≡ 0
  pub snapshot : w.history.snapshot ≡ 0

abbrev pub FineDelta : Bytes → Type 0
FineDelta d = verdict Delta d ≡ Ok tt

-- after the first snapshot S and the changed ones Ts: the newest is held, F is the start serial plus the count of changes, modulo 2^32,
-- and the held deltas are good, are the last differences, as many as are kept, and say them
pub record Holds (session keep : ℕ) (start : Serial) (w : World) (S : Bytes) (Ts : List Bytes) : Type 0 where
  pub frame : Frame session keep start w
  pub active : w.history.active ≡ true
  pub serial : w.history.newest.0 ≡ (start.0 + length Ts) % 2 ^ 32
  pub good : GoodSnapshot S
  pub goods : All GoodSnapshot Ts
  pub current : held_snapshot w.history w.snapshots ≡ newest S Ts
  pub says : map changes (held_deltas w.history w.deltas) ≡ held bytes bytes keep (items S) (map items Ts)
  pub are : held_deltas w.history w.deltas ≡ last_n keep (steps difference_of S Ts)
  pub fine : All FineDelta (held_deltas w.history w.deltas)
  pub count : w.history.n ≡ length (held_deltas w.history w.deltas)
  pub within : w.history.snapshot ≤ length w.snapshots
  pub room : total (held_lengths w.history) ≤ length w.deltas

abbrev pub Inv : ℕ → ℕ → Serial → World → List Bytes → Type 0
Inv session keep start w [] = Waits session keep start w
Inv session keep start w (S ∷ Ts) = Holds session keep start w S Ts

-- ---- it is well formed

and : {s t : Bool} → s ≡ true → t ≡ true → (s && t) ≡ true
and p q = rw (p, q)

every_fine : (ds : List Bytes) → All FineDelta ds → every (is_good Delta) ds ≡ true
every_fine [] h = refl
every_fine (d ∷ ds) h = rw h.0 (every_fine ds h.1)

nil_good : is_good Snapshot [] ≡ true
unfolding verdict verdict_f judge front
nil_good = refl

module _ {session keep : ℕ} {start : Serial} {w : World} where
  keep_good : Frame session keep start w → good_keep w.history.keep ≡ true
  keep_good f = and (le-leb 1 w.history.keep (omega arith)) (le-leb w.history.keep 64 (omega arith))

  -- as many deltas are held as there were changes, up to keep
  pub holds_count : {S : Bytes} {Ts : List Bytes} → Holds session keep start w S Ts → w.history.n ≡ min keep (length Ts)
  holds_count {S} {Ts} i =
      i.count ∙ sym (length-map (held_deltas w.history w.deltas) changes) ∙ ap length i.says
      ∙ last_n_length keep (diffs bytes bytes (items S) (map items Ts))
      ∙ ap (min keep) (diffs_length bytes bytes (items S) (map items Ts) ∙ length-map Ts items)

  -- with one more snapshot the last differences are held
  pub would_hold : {S : Bytes} {Ts : List Bytes} → Holds session keep start w S Ts → (new : Bytes) →
      deltas_with w.history w.deltas (difference_of (held_snapshot w.history w.snapshots) new) ≡ last_n keep (steps difference_of S (Ts ++ (new ∷ [])))
  would_hold {S} {Ts} i new =
      let c : w.history.n ≡ min keep (length Ts) = holds_count i in
      let k : w.history.keep ≡ keep = i.frame.of_keep in
      let l : 1 ≤ keep = i.frame.least in
      pushed_last w.history.n w.history.keep (held_deltas w.history w.deltas) (difference_of (held_snapshot w.history w.snapshots) new) (omega arith) i.count (omega arith)
      ∙ rw (k, i.are, i.current, steps_push difference_of S Ts new) (last_n_push keep (steps difference_of S Ts) (difference_of (newest S Ts) new))

  start_of_lem : Frame session keep start w → w.history.start.0 ≡ start.0
  start_of_lem f = ap (λ (s : Serial). s.0) f.of_start

  -- with none held the serial is the start serial
  pub holds_zero : {S : Bytes} {Ts : List Bytes} → Holds session keep start w S Ts → w.history.n ≡ 0 → w.history.newest.0 ≡ w.history.start.0
  holds_zero i e = let c = holds_count i in let s = i.serial in let f = i.frame in let b = start_of_lem f in omega arith

  serial_good : {S : Bytes} {Ts : List Bytes} → Holds session keep start w S Ts → good_serial w.history ≡ true
  serial_good i = rw i.active (go (eqb w.history.n 0) refl)
    where
      go : (t : Bool) → eqb w.history.n 0 ≡ t → cond t (eqb w.history.newest.0 w.history.start.0) true ≡ true
      go true e = eq-eqb w.history.newest.0 w.history.start.0 (holds_zero i (eqb-true w.history.n 0 e))
      go false e = refl

  pub holds_formed : {S : Bytes} {Ts : List Bytes} → Holds session keep start w S Ts → well_formed w.history w.snapshots w.deltas ≡ true
  unfolding well_formed
  holds_formed {S} {Ts} i =
      let f = i.frame in
      let c = holds_count i in
      let range = and (keep_good f) (le-leb w.history.n w.history.keep (omega arith)) in
      let start : good_start w.history ≡ true = rw i.active in
      let limits = and (le-leb (length w.snapshots) (limit Snapshot) f.snapshots) (le-leb (length w.deltas) (limit Delta) f.deltas) in
      let stores = and (and limits (le-leb w.history.snapshot (length w.snapshots) i.within)) (le-leb (total (held_lengths w.history)) (length w.deltas) i.room) in
      let snapshot : is_good Snapshot (held_snapshot w.history w.snapshots) ≡ true = rw (i.current, (all_newest GoodSnapshot S Ts i.good i.goods).fine) in
      and (and (and (and range (serial_good i)) start) stores) (and snapshot (every_fine (held_deltas w.history w.deltas) i.fine))

  pub waits_formed : Waits session keep start w → well_formed w.history w.snapshots w.deltas ≡ true
  unfolding well_formed
  waits_formed i =
      let f = i.frame in
      let c = i.count in
      let range = and (keep_good f) (le-leb w.history.n w.history.keep (omega arith)) in
      let serial : good_serial w.history ≡ true = rw (i.active, eq-eqb w.history.newest.0 w.history.start.0 (i.serial ∙ sym (start_of_lem f))) in
      let start : good_start w.history ≡ true = rw (i.active, i.count, i.snapshot) in
      let limits = and (le-leb (length w.snapshots) (limit Snapshot) f.snapshots) (le-leb (length w.deltas) (limit Delta) f.deltas) in
      let none : total (held_lengths w.history) ≡ 0 = rw i.count in
      let stores = and (and limits (le-leb w.history.snapshot (length w.snapshots) (rw i.snapshot (omega arith)))) (le-leb (total (held_lengths w.history)) (length w.deltas) (omega arith)) in
      let snapshot : is_good Snapshot (held_snapshot w.history w.snapshots) ≡ true = rw i.snapshot nil_good in
      let deltas : every (is_good Delta) (held_deltas w.history w.deltas) ≡ true = rw i.count in
      and (and (and (and range serial) start) stores) (and snapshot deltas)

-- so refusal 7 never comes
pub inv_formed : (session keep : ℕ) (start : Serial) (w : World) (given : List Bytes) → Inv session keep start w given → well_formed w.history w.snapshots w.deltas ≡ true
inv_formed session keep start w [] i = waits_formed i
inv_formed session keep start w (S ∷ Ts) i = holds_formed i

-- ---- every call keeps it

never_both : {b : Bool} → b ≡ false → b ≡ true → ⊥
never_both p q = never cc

module _ (session keep : ℕ) (start : Serial) (w : World) (new : Bytes) (octets : AllBytes new) where
  -- what a step leaves
  abbrev after : Step → World
  after s = record {
    history = (update_at s w.history new w.deltas).history;
    snapshots = snapshots_at s new w.snapshots;
    deltas = deltas_at s w.history w.deltas;
  }

  begin : Waits session keep start w → Begins w.history new w.snapshots → Holds session keep start (after first) new []
  begin i b =
      let f = i.frame in
      let l : length (written_over new w.snapshots) ≡ length w.snapshots = store_length new w.snapshots b.fits in
      record {
        frame = record {
          of_session = f.of_session;
          of_keep = f.of_keep;
          of_start = f.of_start;
          bound = f.bound;
          least = f.least;
          most = f.most;
          snapshots = rw l f.snapshots;
          deltas = f.deltas;
        };
        active = refl;
        serial = let e = i.serial in let b = f.bound in omega arith;
        good = record { octets = octets; fine = b.fine };
        goods = tt;
        current = take-append_seam new (drop (length new) w.snapshots);
        says = sym (drop-nil (0 - keep));
        are = sym (drop-nil (0 - keep));
        fine = tt;
        count = refl;
        within = rw l b.fits;
        room = omega arith;
      }

  module _ (S : Bytes) (Ts : List Bytes) (i : Holds session keep start w S Ts) (d : Bytes) (a : Adds w.history new w.snapshots w.deltas d) where
    is_difference : d ≡ difference_of (newest S Ts) new
    is_difference = rw (← i.current) a.difference

    good_new : GoodSnapshot new
    good_new = record { octets = octets; fine = a.fine }

    good_old : GoodSnapshot (newest S Ts)
    good_old = all_newest GoodSnapshot S Ts i.good i.goods

    -- the deltas held afterwards
    abbrev next : List Bytes
    next = deltas_with w.history w.deltas d

    next_held : held_deltas (next_state w.history new next) (written_over (joined next) w.deltas) ≡ next
    next_held = next_deltas w.history new next (drop (length (joined next)) w.deltas)

    next_fine : All FineDelta next
    next_fine =
        all_pushed FineDelta w.history.n w.history.keep (held_deltas w.history w.deltas) d i.fine
        (rw is_difference (difference_fine (newest S Ts) new good_old good_new))

    -- the difference from the newest is pushed
    next_says : map changes next ≡ held bytes bytes keep (items S) (map items (Ts ++ (new ∷ [])))
    next_says =
        let c : w.history.n ≡ min keep (length Ts) = holds_count i in
        let k : w.history.keep ≡ keep = i.frame.of_keep in
        let l : 1 ≤ keep = i.frame.least in
        let m : w.history.n ≡ length (map changes (held_deltas w.history w.deltas)) = i.count ∙ sym (length-map (held_deltas w.history w.deltas) changes) in
        let e : changes d ≡ diff bytes bytes (newest (items S) (map items Ts)) (items new) = rw (is_difference, map_newest items S Ts) (difference_says (newest S Ts) new good_old good_new) in
        map_pushed changes w.history.n w.history.keep (held_deltas w.history w.deltas) d
        ∙ pushed_last w.history.n w.history.keep (map changes (held_deltas w.history w.deltas)) (changes d) (omega arith) m (omega arith)
        ∙ rw (k, i.says, e, map_push items Ts new) (held_push bytes bytes keep (items S) (map items Ts) (items new))

    grow : Holds session keep start (after (add d)) S (Ts ++ (new ∷ []))
    grow =
        let f = i.frame in
        let j : length (joined next) ≡ total (map length next) = joined_length next in
        let r : total (map length next) ≤ length w.deltas = a.room in
        let l : length (written_over new w.snapshots) ≡ length w.snapshots = store_length new w.snapshots a.fits in
        let m : length (written_over (joined next) w.deltas) ≡ length w.deltas = store_length (joined next) w.deltas (omega arith) in
        record {
          frame = record {
            of_session = f.of_session;
            of_keep = f.of_keep;
            of_start = f.of_start;
            bound = f.bound;
            least = f.least;
            most = f.most;
            snapshots = rw l f.snapshots;
            deltas = rw m f.deltas;
          };
          active = refl;
          serial = let e = i.serial in rw (length-append Ts (new ∷ [])) (omega arith);
          good = i.good;
          goods = all_push GoodSnapshot Ts new i.goods good_new;
          current = take-append_seam new (drop (length new) w.snapshots) ∙ sym (newest_push S Ts new);
          says = rw next_held next_says;
          are = rw next_held (ap (deltas_with w.history w.deltas) a.difference ∙ would_hold i new);
          fine = rw next_held next_fine;
          count = ap length (sym next_held);
          within = rw l a.fits;
          room = rw (next_lengths w.history new next, m) r;
        }

  -- an update
  update_inv : (given : List Bytes) → Inv session keep start w given → Inv session keep start (step_of w (update new)) (given_after w (update new) given)
  unfolding update_of update_snapshots update_deltas
  update_inv [] i = go (step_for w.history new w.snapshots w.deltas) refl
    where
      go : (s : Step) → step_for w.history new w.snapshots w.deltas ≡ s →
          Inv session keep start (after s) (given_by (update_at s w.history new w.deltas).answer new [])
      go (refuse r) e = i
      go first e = begin i (step_first w.history new w.snapshots w.deltas e)
      go unchanged e = i
      go (add d) e = absurd (never_both i.active (step_add w.history new w.snapshots w.deltas d e).active)
  update_inv (S ∷ Ts) i = go (step_for w.history new w.snapshots w.deltas) refl
    where
      go : (s : Step) → step_for w.history new w.snapshots w.deltas ≡ s →
          Inv session keep start (after s) (given_by (update_at s w.history new w.deltas).answer new (S ∷ Ts))
      go (refuse r) e = i
      go first e = absurd (never_both (step_first w.history new w.snapshots w.deltas e).active i.active)
      go unchanged e = i
      go (add d) e = grow S Ts i d (step_add w.history new w.snapshots w.deltas d e)

-- any call
pub call_inv : (session keep : ℕ) (start : Serial) (w : World) (given : List Bytes) (c : Call) → OfBytes c → Inv session keep start w given →
    Inv session keep start (step_of w c) (given_after w c given)
call_inv session keep start w given (update new) o i = update_inv session keep start w new o given i
call_inv session keep start w given (query s asked out) o i = i
call_inv session keep start w given full o i = i
call_inv session keep start w given notify o i = i
call_inv session keep start w given ready o i = i
