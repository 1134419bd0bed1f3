-- One query in the code: what is known of the answer at its distance, and what the turn does.
use Rattle.std.specs.Prelude.{ℕ, ◌+◌, ◌-◌, ◌≤◌, ◌<◌, ◌≡◌, ◌++◌, cond, leb, length, take, drop, Ok}
use Rattle.std.proofs.lemmas.List.Edits.{sets}
use Rattle.payload.specs.Content.{Bytes}
use Rattle.item.specs.declared.sink.Counts.{Counts}
use Rattle.delta.specs.declared.refusal.Refusal.{Refusal}
use Rattle.delta.specs.declared.refusal.Refusal.TheVariants.{NoRoom}
use Rattle.delta.specs.Answer.{counts_of, out_after}
use Rattle.past.specs.declared.state.History.{History}
use Rattle.past.specs.Store.{held_deltas}
use Rattle.past.specs.Query.{merged_last, query_at}
use Rattle.merged.specs.Place.{Stored}
use Rattle.appliance.specs.declared.router_turn.Known.{Known}
use Rattle.appliance.specs.declared.router_turn.Known.TheVariants.{Long, Stands}
use Rattle.appliance.specs.declared.router_turn.Turn.{Turn}
use Rattle.appliance.specs.QueryAll.{served_at, refused_with, reply_of, used_by}
use Rattle.delta.specs.Admission.{Admitted}

-- n bytes at `from` lie below i, where there is room for them
pub record Apart (o : Bytes) (from i n : ℕ) : Type 0 where
  pub below : from + n ≤ i
  pub room : i + n ≤ length o

-- the answer b, of these counts, stands at `at` in what is used of the output
pub record Standing (b : Bytes) (used : ℕ) (out : Bytes) (at : ℕ) (c : Counts) : Type 0 where
  pub counts : c ≡ counts_of b
  pub within : at + length b ≤ used
  pub bytes : take (length b) (drop at out) ≡ b

-- what is known of the answer b is true
pub record Remembers (b : Bytes) (used : ℕ) (out : Bytes) (k : Known) : Type 0 where
  pub long : k ≡ Long → length out - used < length b
  pub stands : (at : ℕ) (c : Counts) → k ≡ Stands at c → Standing b used out at c

-- what a turn takes: x is what the query's tests say, d its distance where they let it pass
pub record Takes (x : Admitted) (h : History) (d : ℕ) (deltas : Bytes) (k : Known) (used : ℕ) (out : Bytes) : Type 0 where
  pub stored : Stored deltas h.deltas h.n
  pub within : x ≡ Ok tt → d ≤ h.n
  pub room : used ≤ length out
  pub known : Remembers (merged_last d (held_deltas h deltas)) used out k

-- the single query's answer with the output still unused, whose bytes are b
pub record TurnIs (x : Admitted) (h : History) (b : Bytes) (at : ℕ) (out : Bytes) (r : Turn) (after : Bytes) : Type 0 where
  pub reply : r.reply ≡ reply_of at (query_at x h b (length (drop at out))).answer
  pub used : r.used ≡ at + used_by (query_at x h b (length (drop at out))).answer
  pub bytes : after ≡ take at out ++ out_after x b (drop at out)
  pub known : Remembers b r.used after r.known

-- a refused query uses nothing
abbrev pub refused_turn : Refusal → Known → ℕ → Turn
refused_turn r k used = record { known = k; reply = refused_with r; used = used }

-- so many bytes at `at` are used already
pub record Shares (at : ℕ) (c : Counts) (used : ℕ) (out : Bytes) : Type 0 where
  pub within : at + c.len ≤ used
  pub room : used ≤ length out

-- the answer that stands at `at`, once more if there is room
abbrev pub shared_turn : ℕ → Counts → ℕ → ℕ → Turn
shared_turn at c used room =
    cond (leb c.len (room - used)) (record { known = Stands at c; reply = served_at used c; used = used + c.len }) (refused_turn NoRoom (Stands at c) used)

abbrev pub shared_out : ℕ → Counts → ℕ → Bytes → Bytes
shared_out at c used out = cond (leb c.len (length out - used)) (sets out used (take c.len (drop at out))) out
