-- What is promised of the queries of an appliance.
use Rattle.std.specs.Prelude.{ℕ, ◌^◌, ◌≤◌, ◌<◌, ◌≡◌, List, [], ◌∷◌, ◌++◌, true, length, get_or, take, drop, Ok, Err}
use Rattle.order.specs.Map.{All}
use Rattle.serial.specs.declared.Serial.{Serial}
use Rattle.payload.specs.Content.{Bytes}
use Rattle.item.specs.declared.sink.Counts.{Counts}
use Rattle.delta.specs.declared.refusal.Refusal.{Refusal}
use Rattle.past.specs.declared.state.History.{History}
use Rattle.past.specs.Create.{create_of}
use Rattle.past.specs.Query.{query_out}
use Rattle.past.specs.Run.{Call, Reached, start_of, run_of}
use Rattle.past.specs.Promise.{OfBytes, Leads, current}
use Rattle.appliance.specs.declared.reply.Reply.{Reply}
use Rattle.appliance.specs.QueryAll.{Asked, good_list, list_admitted, reply_of, answer_at, Laid, laid_of}

-- a query with those before it and those after it: `left` is what those before it left, `all` what all of them left
pub record Each (h : History) (snapshots deltas : Bytes) (q : Asked) (place : ℕ) (out : Bytes) (left all : Laid) : Type 0 where
  -- its reply is the single query's, lent the output still unused: it depends on the others through the room alone
  pub reply : (z : Reply) → get_or all.replies place z ≡ reply_of left.used (answer_at h snapshots deltas q left.used out)
  -- the bytes at a served reply's offset are those that the single query writes
  pub bytes : (c : Counts) → answer_at h snapshots deltas q left.used out ≡ Ok c →
      take c.len (drop left.used all.out) ≡ take c.len (query_out h q.session q.serial snapshots deltas (drop left.used out))
  -- what is not used of the output is as it was
  pub within : all.used ≤ length out
  pub long : length all.out ≡ length out
  pub rest : drop all.used all.out ≡ drop all.used out

-- a refused query, and so one that does not fit, uses nothing and leaves the output as it was
pub record Refuses (left next : Laid) : Type 0 where
  pub used : next.used ≡ left.used
  pub out : next.out ≡ left.out

abbrev pub EveryQuery : Type 0
EveryQuery = (h : History) (snapshots deltas : Bytes) (before : List Asked) (q : Asked) (after : List Asked) (out : Bytes) →
    Each h snapshots deltas q (length before) out (laid_of h snapshots deltas before out) (laid_of h snapshots deltas (before ++ (q ∷ after)) out)

abbrev pub EveryRefusal : Type 0
EveryRefusal = (h : History) (snapshots deltas : Bytes) (before : List Asked) (q : Asked) (out : Bytes) (r : Refusal) →
    answer_at h snapshots deltas q (laid_of h snapshots deltas before out).used out ≡ Err r →
    Refuses (laid_of h snapshots deltas before out) (laid_of h snapshots deltas (before ++ (q ∷ [])) out)

-- in a run of calls from a fresh history
pub record Appliance (start : Serial) (r : Reached) : Type 0 where
  -- 7 never comes, and so 11 comes exactly for a bad list
  pub admits : (queries : Bytes) → good_list queries ≡ true → list_admitted r.world.history r.world.snapshots r.world.deltas queries ≡ Ok tt
  -- once a first snapshot is accepted, the bytes at each served reply's offset lead its router to the current snapshot
  pub leads : (before : List Asked) (q : Asked) (after : List Asked) (out : Bytes) (c : Counts) → q.serial.0 < 2 ^ 32 → ¬ (r.given ≡ []) →
      answer_at r.world.history r.world.snapshots r.world.deltas q (laid_of r.world.history r.world.snapshots r.world.deltas before out).used out ≡ Ok c →
      Leads start r.given (current r.world) q.serial
      (take c.len (drop (laid_of r.world.history r.world.snapshots r.world.deltas before out).used
      (laid_of r.world.history r.world.snapshots r.world.deltas (before ++ (q ∷ after)) out).out))

abbrev pub EveryAppliance : Type 0
EveryAppliance = (session keep : ℕ) (start : Serial) (snapshots deltas : Bytes) → start.0 < 2 ^ 32 → (create_of session keep start snapshots deltas).answer ≡ Ok tt →
    (calls : List Call) → All OfBytes calls → Appliance start (run_of (start_of session keep start snapshots deltas) calls)
