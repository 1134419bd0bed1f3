-- Laws of all the queries of a list.
use Prim.Native.Nat.{ℕ, suc, ◌+◌, ◌-◌, ◌*◌, ◌/◌, ◌%◌, ◌^◌, ◌≤◌, ◌<◌, min}
use mathlib.Core.Path.{◌≡◌, refl, sym, ap, ◌∙◌}
use mathlib.Core.List.{List, [], ◌∷◌, ◌++◌, foldl, append_assoc}
use mathlib.Core.Bool.{Bool, true, false, cond, and-eq-true_iff}
use native.Mathlib.Omega.{arith}
use native.Mathlib.Decide.{ℕ_discrete}
use mir.Syntax.{w32, w64}
use mir.Val.{Fits}
use lib.Dec.{leb, eqb}
use lib.ListN.{length, get_or, set, take, drop, replicate, length-set, length-drop, length-append, length-replicate, get_or-replicate}
use lib.Seq.{take_at, get_or-drop, drop-drop, get_or-set_same, get_or-set_other, set_at, length-take-le}
use borrow.Author.Tests.{leb-true, eqb-true}
use Rattle.order.proofs.Never.{never}
use Rattle.serial.specs.declared.Serial.{Serial}
use Rattle.serial.specs.declared.Session.{Session}
use Rattle.serial.specs.Serial.{distance_of, session_of}
use Rattle.number.specs.Number.{two_at, four_at}
use Rattle.payload.specs.Content.{Bytes}
use Rattle.payload.specs.Written.{written_over}
use Rattle.delta.specs.declared.refusal.Refusal.{Refusal}
use Rattle.delta.specs.declared.refusal.Refusal.TheVariants.{IllFormed, BadList}
use Rattle.delta.specs.Admission.{and_then}
use Rattle.delta.specs.Answer.{out_after}
use Rattle.past.specs.declared.state.History.{History}
use Rattle.past.specs.Store.{held_deltas}
use Rattle.past.specs.WellFormed.{well_formed}
use Rattle.past.specs.Query.{ask_admitted, passes, merged_last, query_at, query_of, query_out, query_admitted}
use Rattle.history.proofs.Asking.{formed_stored, query_within}
use Rattle.appliance.specs.declared.reply.Reply.{Reply}
use Rattle.appliance.specs.declared.reply.Replied.{Replied}
use Rattle.appliance.specs.declared.router_turn.Known.{Known}
use Rattle.appliance.specs.declared.router_turn.Known.TheVariants.{Nothing}
use Rattle.appliance.specs.declared.router_turn.Turn.{Turn}
use Rattle.appliance.specs.QueryAll.{Asked, asked_in, asked_first, asked_by, good_list, list_admitted, reply_of, used_by, Laid, answered, laid_of, no_reply, padded, refused_call, query_all_of, query_all_out}
use Rattle.appliance.specs.Turn.{Remembers, Takes, TurnIs}
use Rattle.appliance.proofs.Turning.{knows_nothing, knows_still}
use Rattle.delta.specs.Admission.{Admitted}
use Rattle.std.specs.Prelude.{Err, Ok}

-- ---- what is admitted

passed_both : (t u : Bool) → and_then (passes t IllFormed) (passes u BadList) ≡ Ok tt → (t ≡ true) × (u ≡ true)
passed_both true true e = (refl, refl)
passed_both true false e = never cc
passed_both false u e = never cc

module _ (h : History) (snapshots deltas queries : Bytes) (e : list_admitted h snapshots deltas queries ≡ Ok tt) where
  formed : well_formed h snapshots deltas ≡ true
  formed = (passed_both (well_formed h snapshots deltas) (good_list queries) e).0

  good : (length queries ≤ 2_304) × (length queries % 6 ≡ 0)
  good =
      let g = (and-eq-true_iff (leb (length queries) 2_304) (eqb (length queries % 6) 0)).0 (passed_both (well_formed h snapshots deltas) (good_list queries) e).1 in
      (leb-true (length queries) 2_304 g.0, eqb-true (length queries % 6) 0 g.1)

-- ---- the single query in a well formed history

module _ (h : History) (snapshots deltas : Bytes) (f : well_formed h snapshots deltas ≡ true) (session : Session) (asked : Serial) (l : asked.0 < 2 ^ 32)
    (d : ℕ) (i : d ≡ min (distance_of h.newest asked) 64) where
  -- no served serial is further back than the deltas that are held
  near : ask_admitted h session asked ≡ Ok tt → distance_of h.newest asked ≤ h.n
  near e =
      let q : query_admitted h session asked snapshots deltas ≡ Ok tt = rw f e in
      query_within h session asked snapshots deltas (query_admitted h session asked snapshots deltas) refl q (distance_of h.newest asked) refl l

  steps_are : ask_admitted h session asked ≡ Ok tt → d ≡ distance_of h.newest asked
  steps_are e = omega (arith, near e, (formed_stored h snapshots deltas f).few)

  steps_within : ask_admitted h session asked ≡ Ok tt → d ≤ h.n
  steps_within e = omega (arith, near e, steps_are e)

  single : (room : ℕ) → query_of h session asked snapshots deltas room ≡ query_at (ask_admitted h session asked) h (merged_last d (held_deltas h deltas)) room
  unfolding query_of
  single room = rw f (go (ask_admitted h session asked) steps_are)
    where
      go : (x : Admitted) → (x ≡ Ok tt → d ≡ distance_of h.newest asked) →
          query_at x h (merged_last (distance_of h.newest asked) (held_deltas h deltas)) room ≡ query_at x h (merged_last d (held_deltas h deltas)) room
      go (Ok tt) s = let z = s refl in rw (← z)
      go (Err r) s = refl

  single_out : (out : Bytes) → query_out h session asked snapshots deltas out ≡ out_after (ask_admitted h session asked) (merged_last d (held_deltas h deltas)) out
  unfolding query_out
  single_out out = rw f (go (ask_admitted h session asked) steps_are)
    where
      go : (x : Admitted) → (x ≡ Ok tt → d ≡ distance_of h.newest asked) →
          out_after x (merged_last (distance_of h.newest asked) (held_deltas h deltas)) out ≡ out_after x (merged_last d (held_deltas h deltas)) out
      go (Ok tt) s = let z = s refl in rw (← z)
      go (Err r) s = refl

-- ---- how much a turn uses

pub out_length : (x : Admitted) (b o : Bytes) → length (out_after x b o) ≡ length o
out_length (Err r) b o = refl
out_length (Ok tt) b o = go (leb (length b) (length o)) refl
  where
    go : (t : Bool) → leb (length b) (length o) ≡ t → length (cond t (written_over b o) o) ≡ length o
    go true e = let m = leb-true (length b) (length o) e in length-append b (drop (length b) o) ∙ omega (arith, length-drop (length b) o)
    go false e = refl

pub used_within : (x : Admitted) (h : History) (b : Bytes) (room : ℕ) → used_by (query_at x h b room).answer ≤ room
used_within (Err r) h b room = omega arith
used_within (Ok tt) h b room = go (leb (length b) room) refl
  where
    go : (t : Bool) → leb (length b) room ≡ t → used_by (query_at (Ok tt) h b room).answer ≤ room
    go true e = rw e (leb-true (length b) room e)
    go false e = rw e (omega arith)

module _ (x : Admitted) (h : History) (b : Bytes) (at : ℕ) (out : Bytes) (l : at ≤ length out) (t : Turn) (p : Bytes) (i : TurnIs x h b at out t p) where
  turn_length : length p ≡ length out
  turn_length =
      ap length i.bytes ∙ length-append (take at out) (out_after x b (drop at out))
      ∙ omega (arith, out_length x b (drop at out), length-take-le at out l, length-drop at out)

  turn_front : take at p ≡ take at out
  turn_front = ap (take at) i.bytes ∙ take_at (take at out) (out_after x b (drop at out)) at (length-take-le at out l)

  turn_more : at ≤ t.used
  turn_more = omega (arith, i.used)

  turn_within : t.used ≤ length p
  turn_within = omega (arith, i.used, turn_length, used_within x h b (length (drop at out)), length-drop at out)

-- ---- the query at k

two_drop : (s : Bytes) (n i : ℕ) → two_at (drop n s) i ≡ two_at s (n + i)
two_drop s n i = let z : n + (i + 1) ≡ n + i + 1 = omega arith in rw (get_or-drop n s i 0, get_or-drop n s (i + 1) 0, z)

four_drop : (s : Bytes) (n i : ℕ) → four_at (drop n s) i ≡ four_at s (n + i)
four_drop s n i =
    let z : n + (i + 1) ≡ n + i + 1 = omega arith in
    let y : n + (i + 2) ≡ n + i + 2 = omega arith in
    let x : n + (i + 3) ≡ n + i + 3 = omega arith in
    rw (get_or-drop n s i 0, get_or-drop n s (i + 1) 0, get_or-drop n s (i + 2) 0, get_or-drop n s (i + 3) 0, z, y, x)

asked_is : (s : Bytes) (n : ℕ) (session : Session) (asked : Serial) → session ≡ record { 0 = two_at s n } → asked ≡ record { 0 = four_at s (n + 2) } →
    asked_in (drop n s) ≡ record { session = session; serial = asked }
asked_is s n session asked e f =
    let z : n + 0 ≡ n = omega arith in
    let a : two_at (drop n s) 0 ≡ two_at s n = two_drop s n 0 ∙ rw z in
    let b = four_drop s n 2 in
    rw (e, f) (λ i. record { session = record { 0 = a i }; serial = record { 0 = b i } })

-- ---- the loop

-- the first k queries are answered: to answer those that are left from here gives what to answer all of them gives
pub record Gathering (h : History) (snapshots deltas queries out₀ : Bytes) (count : ℕ) (replies : List Reply) (table : List Known) (used k : ℕ) (out : Bytes) : Type 0 where
  pub admitted : list_admitted h snapshots deltas queries ≡ Ok tt
  pub many : count ≡ length queries / 6
  pub passed : k ≤ count
  pub len : length out ≡ length out₀
  pub slots : length table ≡ 65
  pub room : used ≤ length out
  pub known : (d : ℕ) (z : Known) → d ≤ 64 → Remembers (merged_last d (held_deltas h deltas)) used out (get_or table d z)
  pub so_far : List Reply
  pub counted : length so_far ≡ k
  pub array : replies ≡ so_far ++ replicate (384 - k) no_reply
  pub is : foldl (answered h snapshots deltas) (record { replies = so_far; used = used; out = out }) (asked_first (count - k) (drop (6 * k) queries))
      ≡ laid_of h snapshots deltas (asked_by queries) out₀

module _ (h : History) (snapshots deltas queries : Bytes) (x : Admitted) (e : x ≡ list_admitted h snapshots deltas queries) where
  module _ (r : Refusal) (q : x ≡ Err r) where
    pub all_refused : (a : Replied) (out : Bytes) → a ≡ refused_call r → a ≡ query_all_of h snapshots deltas queries out
    unfolding query_all_of
    all_refused a out i = rw (← e, q) i

    pub all_kept : (out : Bytes) → out ≡ query_all_out h snapshots deltas queries out
    unfolding query_all_out
    all_kept out = rw (← e, q)

  pub gather_start : x ≡ Ok tt → (out : Bytes) (none : Reply) → none ≡ no_reply →
      Gathering h snapshots deltas queries out (length queries / 6) (replicate 384 none) (replicate 65 Nothing) 0 0 out
  unfolding laid_of
  gather_start q out none i =
      let n : length queries / 6 - 0 ≡ length queries / 6 = omega arith in
      record {
        admitted = sym e ∙ q;
        many = refl;
        passed = omega arith;
        len = refl;
        slots = length-replicate 65 Nothing;
        room = omega arith;
        known = λ d z l. rw (get_or-replicate 65 d Nothing z (omega arith)) (knows_nothing (merged_last d (held_deltas h deltas)) 0 out);
        so_far = [];
        counted = refl;
        array = rw i;
        is = rw n;
      }

module _ (h : History) (snapshots deltas queries out₀ : Bytes) (count : ℕ) (replies : List Reply) (table : List Known) (used k : ℕ) (out : Bytes)
    (g : Gathering h snapshots deltas queries out₀ count replies table used k out) where
  abbrev F : Laid → Asked → Laid
  F = answered h snapshots deltas

  fits_list : count ≤ 384
  fits_list = omega (arith, g.many, (good h snapshots deltas queries g.admitted).0)

  all_of : 6 * count ≡ length queries
  all_of = omega (arith, g.many, (good h snapshots deltas queries g.admitted).1)

  pub gather_count : Fits w32 count
  gather_count = record { fits = omega (arith, fits_list) }

  pub gather_done : count ≤ k → (s : Session) → s ≡ session_of h.session →
      record { admitted = Ok tt; session = s; serial = h.newest; used = used; count = count; replies = replies } ≡ query_all_of h snapshots deltas queries out₀
  unfolding query_all_of
  gather_done p s e =
      let z : count - k ≡ 0 = omega arith in
      let c : count ≡ length g.so_far = omega (arith, g.passed, g.counted) in
      let a : replies ≡ padded g.so_far = g.array ∙ rw g.counted in
      rw (g.admitted, ← g.is, z, e, c, a)

  pub gather_out : count ≤ k → out ≡ query_all_out h snapshots deltas queries out₀
  unfolding query_all_out
  gather_out p = let z : count - k ≡ 0 = omega arith in rw (g.admitted, ← g.is, z)

  module _ (p : k < count) where
    pub gather_six : 6 * k + 2 + 4 ≤ length queries
    gather_six = omega (arith, all_of)

    pub gather_slot : k < 384
    gather_slot = omega (arith, fits_list)

    pub gather_place : Fits w64 (k * 40)
    gather_place = record { fits = omega (arith, fits_list) }

    pub gather_next : Fits w64 (k + 1)
    gather_next = record { fits = omega (arith, fits_list) }

    module _ (session : Session) (a : session ≡ record { 0 = two_at queries (6 * k) })
        (asked : Serial) (b : asked ≡ record { 0 = four_at queries (6 * k + 2) }) (l : asked.0 < 4_294_967_296)
        (d : ℕ) (i : d ≡ min (distance_of h.newest asked) 64) (j : ℕ) (w : j ≡ d) where
      few : d ≤ 64
      few = omega arith

      small : asked.0 < 2 ^ 32
      small = l

      abbrev ok : well_formed h snapshots deltas ≡ true
      ok = formed h snapshots deltas queries g.admitted

      pub gather_entry : j < 65
      gather_entry = omega (arith, few)

      pub gather_takes : (z : Known) → Takes (ask_admitted h session asked) h d deltas (get_or table j z) used out
      gather_takes z = record {
        stored = formed_stored h snapshots deltas ok;
        within = steps_within h snapshots deltas ok session asked small d i;
        room = g.room;
        known = rw w (g.known d z few);
      }

      module _ (t : Turn) (q : Bytes) (v : TurnIs (ask_admitted h session asked) h (merged_last d (held_deltas h deltas)) used out t q) where
        abbrev before : Laid
        before = record { replies = g.so_far; used = used; out = out }

        abbrev after : Laid
        after = record { replies = g.so_far ++ (t.reply ∷ []); used = t.used; out = q }

        -- the turn is the fold's
        stepped : F before (asked_in (drop (6 * k) queries)) ≡ after
        stepped =
            let n = single h snapshots deltas ok session asked small d i (length (drop used out)) in
            let r : reply_of used (query_of h session asked snapshots deltas (length (drop used out))).answer ≡ t.reply = rw n (sym v.reply) in
            let u : used + used_by (query_of h session asked snapshots deltas (length (drop used out))).answer ≡ t.used = rw n (sym v.used) in
            let o : take used out ++ query_out h session asked snapshots deltas (drop used out) ≡ q = rw (single_out h snapshots deltas ok session asked small d i (drop used out)) (sym v.bytes) in
            ap (F before) (asked_is queries (6 * k) session asked a b)
            ∙ (λ m. record { replies = g.so_far ++ (r m ∷ []); used = u m; out = o m })

        left : foldl F after (asked_first (count - (k + 1)) (drop (6 * (k + 1)) queries)) ≡ laid_of h snapshots deltas (asked_by queries) out₀
        left =
            let n : count - k ≡ suc (count - (k + 1)) = omega arith in
            let m : 6 * k + 6 ≡ 6 * (k + 1) = omega arith in
            let s : drop 6 (drop (6 * k) queries) ≡ drop (6 * (k + 1)) queries = drop-drop 6 (6 * k) queries ∙ rw m in
            ap (λ (y : Laid). foldl F y (asked_first (count - (k + 1)) (drop (6 * (k + 1)) queries))) (sym stepped)
            ∙ ap (λ (y : Bytes). foldl F (F before (asked_in (drop (6 * k) queries))) (asked_first (count - (k + 1)) y)) (sym s)
            ∙ (rw n at g.is)

        knows : (c : ℕ) (z : Known) → c ≤ 64 → Dec (c ≡ j) → Remembers (merged_last c (held_deltas h deltas)) t.used q (get_or (set table j t.known) c z)
        knows c z m (yes f) = rw (f, get_or-set_same table j t.known z (omega (arith, g.slots, few)), w) v.known
        knows c z m (no f) =
            rw (get_or-set_other table j c t.known z f)
            (knows_still (merged_last c (held_deltas h deltas)) used out (get_or table c z) (g.known c z m) t.used q
            (turn_more (ask_admitted h session asked) h (merged_last d (held_deltas h deltas)) used out g.room t q v)
            (turn_length (ask_admitted h session asked) h (merged_last d (held_deltas h deltas)) used out g.room t q v)
            (turn_front (ask_admitted h session asked) h (merged_last d (held_deltas h deltas)) used out g.room t q v))

        stored : set replies k t.reply ≡ (g.so_far ++ (t.reply ∷ [])) ++ replicate (384 - (k + 1)) no_reply
        stored =
            let n : 384 - k ≡ suc (384 - (k + 1)) = omega (arith, fits_list) in
            let m : replies ≡ g.so_far ++ (no_reply ∷ replicate (384 - (k + 1)) no_reply) = g.array ∙ rw n in
            ap (λ (y : List Reply). set y k t.reply) m
            ∙ set_at g.so_far no_reply (replicate (384 - (k + 1)) no_reply) t.reply k g.counted
            ∙ sym (append_assoc g.so_far (t.reply ∷ []) (replicate (384 - (k + 1)) no_reply))

        pub gather_again : Gathering h snapshots deltas queries out₀ count (set replies k t.reply) (set table j t.known) t.used (k + 1) q
        gather_again = record {
          admitted = g.admitted;
          many = g.many;
          passed = omega arith;
          len = turn_length (ask_admitted h session asked) h (merged_last d (held_deltas h deltas)) used out g.room t q v ∙ g.len;
          slots = length-set table j t.known ∙ g.slots;
          room = turn_within (ask_admitted h session asked) h (merged_last d (held_deltas h deltas)) used out g.room t q v;
          known = λ c z m. knows c z m (ℕ_discrete c j);
          so_far = g.so_far ++ (t.reply ∷ []);
          counted = length-append g.so_far (t.reply ∷ []) ∙ omega (arith, g.counted);
          array = stored;
          is = left;
        }

pub ruleset gathering = (all_refused, all_kept, gather_start, gather_count, gather_done, gather_out, gather_six, gather_slot, gather_place, gather_next, gather_entry, gather_takes, gather_again)
