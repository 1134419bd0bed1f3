-- Laws of the entries.
use Prim.Native.Nat.{ℕ, zero, suc, ◌+◌, ◌-◌, ◌/◌, ◌^◌, ◌≤◌, ◌<◌}
use mathlib.Core.Path.{◌≡◌, refl, sym, ap, ◌∙◌}
use mathlib.Core.List.{List, [], ◌∷◌}
use mathlib.Core.Bool.{Bool, true, false, not, cond, ◌&&◌}
use native.Mathlib.Omega.{arith}
use native.Mathlib.Nat.{zero-add}
use borrow.Author.Tests.{not-true, not-false, le-leb, lt-leb, leb-true}
use mir.Syntax.{w8}
use mir.Val.{Fits}
use lib.Dec.{leb}
use lib.ListN.{length, get_or, take, drop, length-take}
use lib.Seq.{sets, sets-eq, take-nil}
use Rattle.serial.specs.declared.Serial.{Serial}
use Rattle.serial.specs.declared.Session.{Session}
use Rattle.serial.specs.declared.timing.Timing.{Timing}
use Rattle.serial.specs.Serial.{distance_of, session_of}
use Rattle.number.specs.Number.{two_bytes, four_bytes}
use Rattle.body.specs.declared.tag.Form.TheVariants.{Snapshot, Delta}
use Rattle.body.proofs.Sizes.{both}
use Rattle.payload.specs.Content.{Bytes}
use Rattle.payload.specs.Written.{written_if_room}
use Rattle.payload.specs.Limit.{limit}
use Rattle.payload.specs.Valid.{IsMap}
use Rattle.payload.specs.Payload.{changes}
use Rattle.payload.proofs.Faithful.{faithful}
use Rattle.payload.proofs.Closed.{diff_map, merge_all_map}
use Rattle.item.proofs.Fronts.{take_bytes}
use Rattle.message.specs.declared.version.Version.{Version}
use Rattle.message.specs.Version.{speaks, end_length}
use Rattle.message.specs.Message.{pdu, cache_reset, serial_notify}
use Rattle.message.specs.Say.{spoken, of_kind}
use Rattle.delta.specs.declared.refusal.Refusal.TheVariants.{NoRoom, IllFormed}
use Rattle.past.specs.declared.state.History.{History}
use Rattle.past.specs.Store.{total, cuts, held_snapshot, held_deltas}
use Rattle.past.specs.WellFormed.{is_good, every, in_range, good_serial, good_start, good_stores, good_held, well_formed}
use Rattle.past.specs.Query.{is_served, is_session}
use Rattle.past.proofs.Served.{served_rule, rule_within}
use Rattle.past.proofs.Lists.{all_map}
use Rattle.order.specs.Map.{All}
use Rattle.change.proofs.Chain.{all_drop}
use Rattle.change.specs.History.{last_n}
use Rattle.cursors.specs.declared.runs.Walk.{Walk}
use Rattle.cursors.specs.Cursor.{runs, Within}
use Rattle.cursors.specs.Walk.{LinedUp, remains}
use Rattle.merged.specs.declared.place.Places.{Places}
use Rattle.merged.specs.Place.{IsFine, Placed, Stored, last_merged}
use Rattle.merged.specs.Place.{between}
use Rattle.history.proofs.Asking.{fine_true, formed_stored, formed_serial}
use Rattle.merged.proofs.Placing.{stored_summed, last_ordered, last_few, last_within, last_starts, last_most, last_is, remains_is}
use Rattle.wire.specs.declared.tally.Tally.{Tally}
use Rattle.wire.specs.declared.frame.Frame.{Frame}
use Rattle.wire.specs.declared.sent.Sent.{Sent}
use Rattle.wire.specs.Answer.{Plan, frame_of, answer_bytes, tally_of, aside, refused_with, report_bytes, notice_bytes, sent_at, out_at, data_plan, reset_plan, report_plan, query_plan, all_new, full_plan, notify_plan}
use Rattle.wire.specs.Put.{writing_of, answer_out, sent_of, Merges, Holds, Held}
use Rattle.wire.proofs.Saying.{D, tally_path}
use Rattle.wire.proofs.Sizing.{answer_short, new_short}
use Rattle.std.specs.Prelude.{None, Option, Some, Ok}
use Rattle.wire.specs.declared.sent.Reply.TheVariants as reply

-- ---- bytes that fit, or not

module _ (b : Bytes) (s : Sent) (o : Bytes) where
  abbrev sent_by : Sent
  sent_by = cond (leb (length b) (length o)) s (refused_with NoRoom)

  abbrev out_by : Bytes
  out_by = written_if_room b o

  fits_sent : length b ≤ length o → s ≡ sent_by
  fits_sent h = rw (le-leb (length b) (length o) h)

  fits_out : (p : Bytes) → length b ≤ length o → p ≡ sets o 0 b → p ≡ out_by
  fits_out p h e = rw (le-leb (length b) (length o) h) (e ∙ sets-eq b o 0 (simp zero-add h) ∙ simp zero-add)

  long_sent : (r : Sent) → length o < length b → r ≡ refused_with NoRoom → r ≡ sent_by
  long_sent r h e = rw (lt-leb (length b) (length o) h) e

  long_out : length o < length b → o ≡ out_by
  long_out h = rw (lt-leb (length b) (length o) h)

-- ---- a Cache Reset

module _ (v : Version) (o : Bytes) where
  reset_long : length (pdu v cache_reset) ≡ 8
  unfolding pdu two_bytes four_bytes
  reset_long = refl

  pub reset_none : (r : Sent) → length o < 8 → r ≡ refused_with NoRoom → r ≡ sent_at (reset_plan v) (length o)
  unfolding sent_at reset_plan
  reset_none r h e = long_sent (pdu v cache_reset) (aside (Ok (reply.Reset (length (pdu v cache_reset))))) o r (omega (arith, reset_long)) e

  pub reset_kept : length o < 8 → o ≡ out_at (reset_plan v) o
  unfolding out_at reset_plan
  reset_kept h = long_out (pdu v cache_reset) (aside (Ok (reply.Reset (length (pdu v cache_reset))))) o (omega (arith, reset_long))

  pub reset_sent : (r : Sent) → 8 ≤ length o → r ≡ aside (Ok (reply.Reset 8)) → r ≡ sent_at (reset_plan v) (length o)
  unfolding sent_at reset_plan
  reset_sent r h e = e ∙ ap (λ (n : ℕ). aside (Ok (reply.Reset n))) (sym reset_long) ∙ fits_sent (pdu v cache_reset) (aside (Ok (reply.Reset (length (pdu v cache_reset))))) o (omega (arith, reset_long))

  pub reset_out : (p : Bytes) → 8 ≤ length o → p ≡ sets o 0 (pdu v cache_reset) → p ≡ out_at (reset_plan v) o
  unfolding out_at reset_plan
  reset_out p h e = fits_out (pdu v cache_reset) (aside (Ok (reply.Reset (length (pdu v cache_reset))))) o p (omega (arith, reset_long)) e

pub ruleset resetting = (reset_none, reset_kept, reset_sent, reset_out)

-- ---- an Error Report

module _ (v : Version) (session : Session) (asked : Serial) (o : Bytes) where
  report_long : length (report_bytes v session asked) ≡ 28
  unfolding pdu two_bytes four_bytes
  report_long = refl

  abbrev report_sent : Sent
  report_sent = aside (Ok (reply.Report (length (report_bytes v session asked))))

  pub report_none : (r : Sent) → length o < 28 → r ≡ refused_with NoRoom → r ≡ sent_at (report_plan v session asked) (length o)
  unfolding sent_at report_plan
  report_none r h e = long_sent (report_bytes v session asked) report_sent o r (omega (arith, report_long)) e

  pub report_kept : length o < 28 → o ≡ out_at (report_plan v session asked) o
  unfolding out_at report_plan
  report_kept h = long_out (report_bytes v session asked) report_sent o (omega (arith, report_long))

  pub report_sent_lem : (r : Sent) → 28 ≤ length o → r ≡ aside (Ok (reply.Report 28)) → r ≡ sent_at (report_plan v session asked) (length o)
  unfolding sent_at report_plan
  report_sent_lem r h e = e ∙ ap (λ (n : ℕ). aside (Ok (reply.Report n))) (sym report_long) ∙ fits_sent (report_bytes v session asked) report_sent o (omega (arith, report_long))

  pub report_out : (p : Bytes) → 28 ≤ length o → p ≡ sets o 0 (report_bytes v session asked) → p ≡ out_at (report_plan v session asked) o
  unfolding out_at report_plan
  report_out p h e = fits_out (report_bytes v session asked) report_sent o p (omega (arith, report_long)) e

pub ruleset reporting = (report_none, report_kept, report_sent_lem, report_out)

-- ---- a notice

module _ (v : Version) (h : History) (o : Bytes) where
  notice_long : length (notice_bytes v h) ≡ 12
  unfolding pdu two_bytes four_bytes
  notice_long = refl

  abbrev notice_sent : Sent
  notice_sent = record { session = session_of h.session; serial = h.newest; reply = Ok (reply.Data (tally_of v (notice_bytes v h) [])) }

  notice_tally : ◌≡◌ {A = Tally} (record { len = 12; announced = 0; withdrawn = 0; keys = 0; aspas = 0 }) (tally_of v (notice_bytes v h) [])
  unfolding spoken of_kind
  notice_tally = tally_path (sym notice_long) refl refl (go (speaks v 2)) (go (speaks v 3))
    where
      go : (b : Bool) → ◌≡◌ {A = ℕ} 0 (cond b 0 0)
      go true = refl
      go false = refl

  pub notice_none : (r : Sent) → length o < 12 → r ≡ refused_with NoRoom → r ≡ sent_at (notify_plan v h) (length o)
  unfolding sent_at notify_plan
  notice_none r l e = long_sent (notice_bytes v h) notice_sent o r (omega (arith, notice_long)) e

  pub notice_kept : length o < 12 → o ≡ out_at (notify_plan v h) o
  unfolding out_at notify_plan
  notice_kept l = long_out (notice_bytes v h) notice_sent o (omega (arith, notice_long))

  module _ (s : Session) (e : s ≡ session_of h.session) (l : 12 ≤ length o) where
    pub notice_sent_lem : record { session = s; serial = h.newest; reply = Ok (reply.Data (record { len = 12; announced = 0; withdrawn = 0; keys = 0; aspas = 0 })) } ≡ sent_at (notify_plan v h) (length o)
    unfolding sent_at notify_plan
    notice_sent_lem =
        (λ i. record { session = e i; serial = h.newest; reply = Ok (reply.Data (notice_tally i)) })
        ∙ fits_sent (notice_bytes v h) notice_sent o (omega (arith, notice_long))

    pub notice_out : (p : Bytes) → p ≡ sets o 0 (pdu v (serial_notify s.0 h.newest.0)) → p ≡ out_at (notify_plan v h) o
    unfolding out_at notify_plan
    notice_out p d =
        fits_out (notice_bytes v h) notice_sent o p (omega (arith, notice_long))
        (d ∙ ap (λ (x : Session). sets o 0 (pdu v (serial_notify x.0 h.newest.0))) e)

pub ruleset noticing = (notice_none, notice_kept, notice_sent_lem, notice_out)

-- ---- data

module _ (v : Version) (f : Frame) (d : D) (o : Bytes) where
  pub data_sent : (w : Option Tally) → w ≡ writing_of v f d (length o) → sent_of f w ≡ sent_at (data_plan v f d) (length o)
  unfolding sent_at data_plan
  data_sent w e = rw e (go (leb (length (answer_bytes v f d)) (length o)))
    where
      go : (t : Bool) → sent_of f (cond t (Some (tally_of v (answer_bytes v f d) d)) None)
          ≡ cond t (record { session = f.session; serial = f.serial; reply = Ok (reply.Data (tally_of v (answer_bytes v f d) d)) }) (refused_with NoRoom)
      go true = refl
      go false = refl

  pub data_out : (p : Bytes) → p ≡ answer_out v f d o → p ≡ out_at (data_plan v f d) o
  unfolding out_at data_plan
  data_out p e = e

-- ---- serve

-- a part of a list sums to no more than the list up to its end
total_part : (a n : ℕ) (l : List ℕ) → total (take n (drop a l)) ≤ total (take (a + n) l)
total_part zero n l = rw (zero-add n) (omega arith)
total_part (suc a) n [] = let e : ◌≡◌ {A = List ℕ} (take n []) [] = take-nil n in rw e (omega arith)
total_part (suc a) n (x ∷ l) = let e : suc a + n ≡ suc (a + n) = omega arith in rw e (omega (arith, total_part a n l))

module _ (s : Bytes) (lengths : List ℕ) (n : ℕ) (r : Places) (p : Placed lengths n r) (d : ℕ) (h : d ≤ n) (t : Stored s lengths n) where
  pub serve_within : Within s r.at r.ends n
  serve_within = last_within s lengths n r p d h t

  maps : All (IsMap Delta) (runs s r.at r.ends (n - d) n)
  maps =
      rw (last_is s lengths n r p d h)
      (all_map changes IsFine (IsMap Delta) (λ x f. (faithful Delta).map_of x f) (last_n d (cuts (take n lengths) s))
      (all_drop IsFine (length (cuts (take n lengths) s) - d) (cuts (take n lengths) s) t.good))

  pub serve_small : (k : ℕ) → k ≡ total (between lengths (n - d) n) → k ≤ 2_200_000_000
  serve_small k e =
      let z : n - d + (n - (n - d)) ≡ n = omega arith in
      let w : total (take (n - (n - d)) (drop (n - d) lengths)) ≤ total (take n lengths) = rw z at (total_part (n - d) (n - (n - d)) lengths) in
      omega (arith, t.fits, t.small)

  module _ (w : Walk) (l : LinedUp s r.at r.ends (n - d) n w) where
    pub serve_merges : Merges w
    serve_merges = record { starts = last_starts s lengths n r p d h t w l; maps = rw (l.store, l.at, l.ends, l.from, l.n) maps }

    pub serve_most : ((i : ℕ) → Fits w8 (get_or s i 0)) → (v : Version) (f : Frame) (k m : ℕ) → k ≡ total (between lengths (n - d) n) → m ≡ 8 + (k + k / 4) + end_length v →
        length (answer_bytes v f (remains w)) ≤ m
    serve_most o v f k m e q =
        rw q (answer_short v f (remains w) k (merge_all_map (runs w.store.now w.at w.ends w.from w.n) serve_merges.maps).valid (last_most s lengths n r p d h t w l o k e))

    is : remains w ≡ last_merged s lengths n d
    is = remains_is s lengths n r p d h t w l

    pub serve_output : (v : Version) (f : Frame) (c : Option Tally) (m : ℕ) → c ≡ writing_of v f (remains w) m → c ≡ writing_of v f (last_merged s lengths n d) m
    serve_output v f c m e = e ∙ ap (λ (x : D). writing_of v f x m) is

    pub serve_bytes : (v : Version) (f : Frame) (o o' : Bytes) → o' ≡ answer_out v f (remains w) o → o' ≡ answer_out v f (last_merged s lengths n d) o
    serve_bytes v f o o' e = e ∙ ap (λ (x : D). answer_out v f x o) is

pub ruleset lasting = (stored_summed, last_ordered, last_few, serve_within, serve_merges, serve_most, serve_small, serve_output, serve_bytes)

module _ (v : Version) (h : History) (times : Timing) (f : Frame) (ef : f ≡ frame_of h times) (deltas : Bytes) (d n k : ℕ) (en : n ≡ h.n) (ek : k ≡ d) (o : Bytes) where
  pub served_stored : Stored deltas h.deltas h.n → Stored deltas h.deltas n
  served_stored s = rw en s

  pub served_sent : (w : Option Tally) (r : Sent) → w ≡ writing_of v f (last_merged deltas h.deltas n k) (length o) → r ≡ sent_of f w →
      r ≡ sent_at (data_plan v (frame_of h times) (last_merged deltas h.deltas h.n d)) (length o)
  served_sent w r e q = rw (ef, en, ek) at (q ∙ data_sent v f (last_merged deltas h.deltas n k) o w e)

  pub served_out : (p : Bytes) → p ≡ answer_out v f (last_merged deltas h.deltas n k) o →
      p ≡ out_at (data_plan v (frame_of h times) (last_merged deltas h.deltas h.n d)) o
  served_out p e = rw (ef, en, ek) at (data_out v f (last_merged deltas h.deltas n k) o p e)

pub ruleset serving = (served_stored, served_sent, served_out)

-- ---- query_messages

module _ (v : Version) (h : History) (session : Session) (asked : Serial) (times : Timing) (s deltas o : Bytes) (t : Bool) (e : t ≡ well_formed h s deltas) where
  abbrev plan : Plan
  plan = query_plan v h session asked times s deltas

  pub ask_ill : (r : Sent) → not t ≡ true → r ≡ refused_with IllFormed → r ≡ sent_at plan (length o)
  unfolding sent_at query_plan
  ask_ill r q i = rw (← e, not-true t q) i

  pub ask_ill_kept : not t ≡ true → o ≡ out_at plan o
  unfolding out_at query_plan
  ask_ill_kept q = rw (← e, not-true t q)

  module _ (q : not t ≡ false) (u : Bool) (f : u ≡ is_session h session) where
    module _ (p : not u ≡ true) where
      other : report_plan v session asked ≡ plan
      unfolding query_plan
      other = rw (← e, not-false t q, ← f, not-true u p)

      pub ask_other : (r : Sent) → r ≡ sent_at (report_plan v session asked) (length o) → r ≡ sent_at plan (length o)
      ask_other r i = i ∙ ap (λ (x : Plan). sent_at x (length o)) other

      pub ask_other_out : (o' : Bytes) → o' ≡ out_at (report_plan v session asked) o → o' ≡ out_at plan o
      ask_other_out o' i = i ∙ ap (λ (x : Plan). out_at x o) other

    module _ (p : not u ≡ false) (d : ℕ) (i : d ≡ distance_of h.newest asked) (w : Bool) (g : w ≡ is_served h.start h.n asked d) where
      module _ (z : not w ≡ true) where
        unserved : reset_plan v ≡ plan
        unfolding query_plan
        unserved = rw (← e, not-false t q, ← f, not-false u p, ← i, ← g, not-true w z)

        pub ask_reset : (r : Sent) → r ≡ sent_at (reset_plan v) (length o) → r ≡ sent_at plan (length o)
        ask_reset r j = j ∙ ap (λ (x : Plan). sent_at x (length o)) unserved

        pub ask_reset_out : (o' : Bytes) → o' ≡ out_at (reset_plan v) o → o' ≡ out_at plan o
        ask_reset_out o' j = j ∙ ap (λ (x : Plan). out_at x o) unserved

      module _ (z : not w ≡ false) where
        served : data_plan v (frame_of h times) (last_merged deltas h.deltas h.n d) ≡ plan
        unfolding query_plan
        served = rw (← e, not-false t q, ← f, not-false u p, ← i, ← g, not-false w z)

        pub ask_stored : Stored deltas h.deltas h.n
        ask_stored = formed_stored h s deltas (sym e ∙ not-false t q)

        pub ask_within : asked.0 < 2 ^ 32 → d ≤ h.n
        ask_within l =
            let x = rule_within h.start h.n h.newest asked l (formed_serial h s deltas (sym e ∙ not-false t q))
            (served_rule h.start h.n asked (distance_of h.newest asked) (sym (g ∙ rw i) ∙ not-false w z)) in
            rw i x

        pub ask_served : (r : Sent) → r ≡ sent_at (data_plan v (frame_of h times) (last_merged deltas h.deltas h.n d)) (length o) → r ≡ sent_at plan (length o)
        ask_served r j = j ∙ ap (λ (x : Plan). sent_at x (length o)) served

        pub ask_served_out : (o' : Bytes) → o' ≡ out_at (data_plan v (frame_of h times) (last_merged deltas h.deltas h.n d)) o → o' ≡ out_at plan o
        ask_served_out o' j = j ∙ ap (λ (x : Plan). out_at x o) served

pub ruleset asking = (ask_ill, ask_ill_kept, ask_other, ask_other_out, ask_reset, ask_reset_out, ask_stored, ask_within, ask_served, ask_served_out)

-- ---- full_messages

held_good : (h : History) (s d : Bytes) → well_formed h s d ≡ true → Held h s
unfolding well_formed
held_good h s d e =
    let a = both (in_range h && good_serial h && good_start h && good_stores h s d) (good_held h s d) e in
    let b = both (in_range h && good_serial h && good_start h) (good_stores h s d) a.0 in
    let c = both (leb (length s) (limit Snapshot) && leb (length d) (limit Delta) && leb h.snapshot (length s)) _ b.1 in
    let g = both (leb (length s) (limit Snapshot) && leb (length d) (limit Delta)) (leb h.snapshot (length s)) c.0 in
    let k = both (leb (length s) (limit Snapshot)) (leb (length d) (limit Delta)) g.0 in
    let m = both (is_good Snapshot (take h.snapshot s)) (every (is_good Delta) (held_deltas h d)) a.1 in
    record {
      within = leb-true h.snapshot (length s) g.1;
      holds = record { fine = fine_true _ m.0; small = let z = leb-true (length s) (limit Snapshot) k.0 in omega (arith, length-take h.snapshot s) };
    }

module _ (v : Version) (h : History) (times : Timing) (s o : Bytes) (y : Held h s) (held : ℕ) (e : held ≡ h.snapshot) where
  pub held_within : held ≤ length s
  held_within = omega (arith, y.within)

  held_is : take (held - 0) (drop 0 s) ≡ held_snapshot h s
  held_is = let z : held - 0 ≡ h.snapshot = omega arith in rw z

  pub held_holds : Holds (take (held - 0) (drop 0 s))
  held_holds = rw held_is y.holds

  held_long : length (held_snapshot h s) ≡ held
  held_long = length-take h.snapshot s ∙ omega (arith, y.within)

  pub held_small : held ≤ 2_200_000_000
  held_small = omega (arith, held_long, y.holds.small)

  pub held_most : ((i : ℕ) → Fits w8 (get_or s i 0)) → (f : Frame) (m : ℕ) → m ≡ 8 + (held + held / 4) + end_length v → length (answer_bytes v f (all_new (take (held - 0) (drop 0 s)))) ≤ m
  held_most b f m q =
      rw (q, held_is)
      (answer_short v f (all_new (held_snapshot h s)) held (diff_map [] _ (record { sorted = tt; valid = tt }) ((faithful Snapshot).map_of (held_snapshot h s) y.holds.fine)).valid
      (let z = new_short (held_snapshot h s) (take_bytes h.snapshot s (λ i. (b i).fits)) y.holds.fine in omega (arith, held_long)))

  module _ (f : Frame) (ef : f ≡ frame_of h times) where
    pub held_sent : (w : Option Tally) (r : Sent) → w ≡ writing_of v f (all_new (take (held - 0) (drop 0 s))) (length o) → r ≡ sent_of f w →
        r ≡ sent_at (data_plan v (frame_of h times) (all_new (held_snapshot h s))) (length o)
    held_sent w r q d = rw (ef, held_is) at (d ∙ data_sent v f (all_new (take (held - 0) (drop 0 s))) o w q)

    pub held_out : (p : Bytes) → p ≡ answer_out v f (all_new (take (held - 0) (drop 0 s))) o → p ≡ out_at (data_plan v (frame_of h times) (all_new (held_snapshot h s))) o
    held_out p q = rw (ef, held_is) at (data_out v f (all_new (take (held - 0) (drop 0 s))) o p q)

pub ruleset holding = (held_within, held_holds, held_small, held_most, held_sent, held_out)

module _ (v : Version) (h : History) (times : Timing) (s d o : Bytes) (t : Bool) (e : t ≡ well_formed h s d) where
  pub full_ill : (r : Sent) → not t ≡ true → r ≡ refused_with IllFormed → r ≡ sent_at (full_plan v h times s d) (length o)
  unfolding sent_at full_plan
  full_ill r q i = rw (← e, not-true t q) i

  pub full_kept : not t ≡ true → o ≡ out_at (full_plan v h times s d) o
  unfolding out_at full_plan
  full_kept q = rw (← e, not-true t q)

  module _ (q : not t ≡ false) where
    pub full_held : Held h s
    full_held = held_good h s d (sym e ∙ not-false t q)

    pub full_sent : (r : Sent) → r ≡ sent_at (data_plan v (frame_of h times) (all_new (held_snapshot h s))) (length o) → r ≡ sent_at (full_plan v h times s d) (length o)
    unfolding full_plan
    full_sent r i = i ∙ rw (← e, not-false t q)

    pub full_out : (p : Bytes) → p ≡ out_at (data_plan v (frame_of h times) (all_new (held_snapshot h s))) o → p ≡ out_at (full_plan v h times s d) o
    unfolding full_plan
    full_out p i = i ∙ rw (← e, not-false t q)

pub ruleset filling = (full_ill, full_kept, full_held, full_sent, full_out)
