-- Worked examples, by computation: runs of calls and what they leave.
use Prim.Native.Nat.{ℕ}
use mathlib.Core.Path.{◌≡◌, refl}
use mathlib.Core.List.{List, [], ◌∷◌, ◌++◌}
use mathlib.Core.Bool.{Bool, true, false}
use lib.ListN.{length, replicate}
use Rattle.order.specs.Walk.{walk}
use Rattle.body.specs.Tag.{tag_of, kind_of, good_body, sensible}
use Rattle.body.specs.Aspa.{asns, ascending_from, ascending, good_providers, good_aspa, good_update, is_in, sensible_asns, sensible_providers, sensible_aspa, sensible_update}
use Rattle.field.specs.Head.{front}
use Rattle.field.specs.Key.{key_of}
use Rattle.field.specs.Verdict.{judge, verdict_f, verdict}
use Rattle.field.specs.Cells.{cells_f, cells, field}
use Rattle.field.specs.Cells as run
use Rattle.payload.specs.Content.{Bytes}
use Rattle.payload.specs.Payload.{entries, encode}
use Rattle.delta.specs.declared.refusal.Refusal.TheVariants.{BadKeep, StoreFull, Bad, Senseless, OtherSession, NotServed}
use Rattle.delta.specs.Answer.{difference_of, counts_of}
use Rattle.past.specs.declared.state.History.{History}
use Rattle.past.specs.declared.query.Queried.{Queried}
use Rattle.past.specs.Store.{lengths_of}
use Rattle.past.specs.WellFormed.{well_formed}
use Rattle.past.specs.Create.{fresh_of, create_of}
use Rattle.past.specs.Update.{step_for, update_of, update_snapshots, update_deltas}
use Rattle.past.specs.Query.{merged_last, refused_with, served_with, query_of}
use Rattle.past.specs.Run.{World, Call, update, updated, reply_of, Reached, start_of, run_of}
use Rattle.past.specs.Marked.{p, q, customer, in_snapshot, delta1, delta2, delta3}
use Rattle.std.specs.Prelude.{Err, Ok}
use Rattle.past.specs.declared.update.Update.TheVariants as outcome

-- a history as it stands with these deltas
abbrev state : ℕ → ℕ → ℕ → ℕ → List Bytes → History
state keep newest start snapshot ds = record {
  session = 65_543;
  keep = keep;
  active = true;
  newest = record { 0 = newest };
  start = record { 0 = start };
  n = length ds;
  snapshot = snapshot;
  deltas = lengths_of ds;
}

-- any state, with these lengths of deltas
abbrev any : ℕ → Bool → ℕ → ℕ → ℕ → List ℕ → History
any keep active newest start snapshot lengths = record {
  session = 1;
  keep = keep;
  active = active;
  newest = record { 0 = newest };
  start = record { 0 = start };
  n = length lengths;
  snapshot = snapshot;
  deltas = lengths;
}

abbrev world : History → Bytes → Bytes → World
world h snapshots deltas = record { history = h; snapshots = snapshots; deltas = deltas }

abbrev updates : List Bytes → List Call
updates [] = []
updates (s ∷ ss) = update s ∷ updates ss

-- a run of updates with this keep and start serial, and stores of 12 bytes 9 and of this many bytes 8
abbrev runs_from : ℕ → ℕ → ℕ → List Bytes → Reached
runs_from keep start room news = run_of (start_of 65_543 keep (record { 0 = start }) (replicate 12 9) (replicate room 8)) (updates news)

abbrev runs : ℕ → ℕ → List Bytes → Reached
runs keep room news = runs_from keep 0 room news

-- what a query of the session 7 gets of a history that holds nothing
abbrev waiting : ℕ → ℕ → Queried
waiting start asked = query_of (fresh_of 65_543 2 (record { 0 = start })) (record { 0 = 7 }) (record { 0 = asked }) [] [] 0

pub record Examples : Type 0 where
  -- the first snapshot is current, and the serial stays the start serial
  first_run : runs 2 32 (in_snapshot p ∷ []) ≡ record { world = world (state 2 0 0 11 []) (in_snapshot p ++ (9 ∷ [])) (replicate 32 8); given = in_snapshot p ∷ [] }
  -- with keep 2 the third change drops the first delta; an unchanged snapshot changes nothing; what lies past the held bytes stays
  long_run : runs 2 32 ([] ∷ in_snapshot p ∷ in_snapshot p ∷ in_snapshot q ∷ [] ∷ [])
      ≡ record {
        world = world (state 2 3 0 0 (delta2 ∷ delta3 ∷ [])) (in_snapshot q ++ (9 ∷ [])) (delta2 ++ (delta3 ++ replicate 4 8));
        given = [] ∷ in_snapshot p ∷ in_snapshot q ∷ [] ∷ [];
      }
  -- deltas of 11 and 17 bytes fit into a store of 28; with one byte less the second is refused
  just_room : (runs 2 28 ([] ∷ in_snapshot p ∷ in_snapshot q ∷ [])).world ≡ world (state 2 2 0 11 (delta1 ∷ delta2 ∷ [])) (in_snapshot q ++ (9 ∷ [])) (delta1 ++ delta2)
  store_full : reply_of (runs 2 27 ([] ∷ in_snapshot p ∷ [])).world (update (in_snapshot q)) ≡ updated (Err StoreFull)
  -- the room of a dropped delta is used again: with keep 1 a store of 17 is enough
  room_again : (runs 1 17 ([] ∷ in_snapshot p ∷ in_snapshot q ∷ [])).world ≡ world (state 1 2 0 11 (delta2 ∷ [])) (in_snapshot q ++ (9 ∷ [])) delta2
  -- the answers: first, changed with the delta's counts, unchanged, refused for the first bad field
  -- from the start serial 4,294,967,295: the first snapshot stays there, and the next is over the wrap
  first_there : (runs_from 2 4_294_967_295 32 ([] ∷ [])).world ≡ world (state 2 4_294_967_295 4_294_967_295 0 []) (replicate 12 9) (replicate 32 8)
  over_wrap : (runs_from 2 4_294_967_295 32 ([] ∷ in_snapshot p ∷ [])).world
      ≡ world (state 2 0 4_294_967_295 11 (delta1 ∷ [])) (in_snapshot p ++ (9 ∷ [])) (delta1 ++ replicate 21 8)
  first_answer : reply_of (runs 2 32 []).world (update []) ≡ updated (Ok outcome.First)
  changed_answer : reply_of (runs 2 32 ([] ∷ [])).world (update (in_snapshot p)) ≡ updated (Ok (outcome.Changed (counts_of delta1)))
  unchanged_answer : reply_of (runs 2 32 (in_snapshot p ∷ [])).world (update (in_snapshot p)) ≡ updated (Ok outcome.Unchanged)
  bad_answer : reply_of (runs 2 32 (in_snapshot p ∷ [])).world (update (3 ∷ [])) ≡ updated (Err (Bad 1 0))
  senseless_answer : reply_of (runs 2 32 (in_snapshot p ∷ [])).world (update (in_snapshot customer)) ≡ updated (Err (Senseless 1 0))
  -- while inactive, serial 0 gets the empty delta; a session of other low bits is refused
  inactive_query : query_of (fresh_of 65_543 2 (record { 0 = 0 })) (record { 0 = 7 }) (record { 0 = 0 }) [] [] 0 ≡ served_with (fresh_of 65_543 2 (record { 0 = 0 })) []
  -- from another start serial that one does, and 0 is refused
  start_query : waiting 9 9 ≡ served_with (fresh_of 65_543 2 (record { 0 = 9 })) []
  zero_query : waiting 9 0 ≡ refused_with NotServed
  other_session : query_of (fresh_of 65_543 2 (record { 0 = 0 })) (record { 0 = 8 }) (record { 0 = 0 }) [] [] 0 ≡ refused_with OtherSession
  -- keep 0 and 65 are refused at creation, with a history of zeros
  keep_low : create_of 5 0 (record { 0 = 3 }) [] [] ≡ record { answer = Err BadKeep; history = fresh_of 0 0 (record { 0 = 0 }) }
  keep_high : create_of 5 65 (record { 0 = 3 }) [] [] ≡ record { answer = Err BadKeep; history = fresh_of 0 0 (record { 0 = 0 }) }
  keep_most : create_of 5 64 (record { 0 = 3 }) [] [] ≡ record { answer = Ok tt; history = fresh_of 5 64 (record { 0 = 3 }) }
  -- not well formed: keep out of range, n above keep
  keep_none : well_formed (any 0 true 0 0 0 []) [] [] ≡ false
  keep_many : well_formed (any 65 true 0 0 0 []) [] [] ≡ false
  n_above : well_formed (any 1 true 2 0 0 (11 ∷ 17 ∷ [])) [] (delta1 ++ delta2) ≡ false
  -- F not the start serial with n = 0, or inactive; inactive with a delta or a snapshot
  serial_alone : well_formed (any 2 true 1 0 0 []) [] [] ≡ false
  inactive_serial : well_formed (any 2 false 1 0 0 []) [] [] ≡ false
  serial_alone_zero : well_formed (any 2 true 0 1 0 []) [] [] ≡ false
  inactive_zero : well_formed (any 2 false 0 1 0 []) [] [] ≡ false
  inactive_delta : well_formed (any 2 false 0 0 0 (11 ∷ [])) [] delta1 ≡ false
  inactive_snapshot : well_formed (any 2 false 0 0 11 []) (in_snapshot p) [] ≡ false
  -- held bytes past the end of a store
  snapshot_past : well_formed (any 2 true 0 0 12 []) (in_snapshot p) [] ≡ false
  deltas_past : well_formed (any 2 true 1 0 0 (12 ∷ [])) [] delta1 ≡ false
  -- a snapshot or a delta that is not good
  bad_snapshot : well_formed (any 2 true 0 0 1 []) (3 ∷ []) [] ≡ false
  bad_delta : well_formed (any 2 true 1 0 0 (1 ∷ [])) [] (0x31 ∷ []) ≡ false
  -- and so one with an ASPA that names its customer, or has no providers
  senseless_snapshot : well_formed (any 2 true 0 0 11 []) (in_snapshot customer) [] ≡ false
  senseless_delta : well_formed (any 2 true 1 0 0 (7 ∷ [])) [] (0x31 ∷ 0 ∷ 4 ∷ customer) ≡ false
  -- well formed: a fresh one, and F = 0 with a delta, as after the wrap
  fresh : well_formed (any 2 false 0 0 0 []) [] [] ≡ true
  fresh_there : well_formed (any 2 false 7 7 0 []) [] [] ≡ true
  first_formed : well_formed (any 2 true 7 7 11 []) (in_snapshot p) [] ≡ true
  wrapped : well_formed (any 2 true 0 0 11 (11 ∷ [])) (in_snapshot p) delta1 ≡ true

pub examples : Examples
unfolding create_of step_for update_of update_snapshots update_deltas query_of well_formed merged_last verdict verdict_f judge front good_body tag_of kind_of key_of good_aspa good_update good_providers asns ascending ascending_from sensible sensible_aspa sensible_update sensible_providers sensible_asns is_in cells cells_f field run.cell_bytes entries encode walk difference_of
examples = record {
  first_run = refl;
  long_run = refl;
  just_room = refl;
  store_full = refl;
  room_again = refl;
  first_there = refl;
  over_wrap = refl;
  first_answer = refl;
  changed_answer = refl;
  unchanged_answer = refl;
  bad_answer = refl;
  senseless_answer = refl;
  inactive_query = refl;
  start_query = refl;
  zero_query = refl;
  other_session = refl;
  keep_low = refl;
  keep_high = refl;
  keep_most = refl;
  keep_none = refl;
  keep_many = refl;
  n_above = refl;
  serial_alone = refl;
  inactive_serial = refl;
  serial_alone_zero = refl;
  inactive_zero = refl;
  inactive_delta = refl;
  inactive_snapshot = refl;
  snapshot_past = refl;
  deltas_past = refl;
  bad_snapshot = refl;
  bad_delta = refl;
  senseless_snapshot = refl;
  senseless_delta = refl;
  fresh = refl;
  fresh_there = refl;
  first_formed = refl;
  wrapped = refl;
}
