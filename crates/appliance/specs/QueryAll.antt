-- The queries of a whole appliance: each is the single query, lent the output still unused.
use Rattle.std.specs.Prelude.{ℕ, zero, suc, ◌+◌, ◌-◌, ◌/◌, ◌%◌, Bool, ◌&&◌, leb, eqb, length, take, drop, replicate, Err, Ok, Result}
use mathlib.Core.List.{List, [], ◌∷◌, ◌++◌, foldl}
use Rattle.serial.specs.declared.Serial.{Serial}
use Rattle.serial.specs.declared.Session.{Session}
use Rattle.serial.specs.Serial.{zero_serial, zero_session, session_of}
use Rattle.number.specs.Number.{two_at, four_at}
use Rattle.payload.specs.Content.{Bytes}
use Rattle.item.specs.declared.sink.Counts.{Counts}
use Rattle.delta.specs.declared.refusal.Refusal.{Refusal}
use Rattle.delta.specs.declared.refusal.Refusal.TheVariants.{IllFormed, BadList}
use Rattle.delta.specs.Refusal.{number_of}
use Rattle.delta.specs.Admission.{and_then}
use Rattle.past.specs.declared.state.History.{History}
use Rattle.past.specs.WellFormed.{well_formed}
use Rattle.past.specs.Query.{passes, query_of, query_out}
use Rattle.appliance.specs.declared.reply.Reply.{Reply}
use Rattle.appliance.specs.declared.reply.Replied.{Replied}
use Rattle.delta.specs.Admission.{Admitted}

-- ---- the list

-- what a router asks
pub record Asked : Type 0 where
  pub session : Session
  pub serial : Serial

-- the query in the six bytes at the start: session 2, serial 4, big-endian
abbrev pub asked_in : Bytes → Asked
asked_in s = record { session = record { 0 = two_at s 0 }; serial = record { 0 = four_at s 2 } }

-- the first n queries of a list
abbrev pub asked_first : ℕ → Bytes → List Asked
asked_first zero s = []
asked_first (suc n) s = asked_in s ∷ asked_first n (drop 6 s)

-- all of them
abbrev pub asked_by : Bytes → List Asked
asked_by s = asked_first (length s / 6) s

-- at most 384 queries, none of them cut
abbrev pub good_list : Bytes → Bool
good_list s = leb (length s) 2_304 && eqb (length s % 6) 0

-- 7, then 11
abbrev pub list_admitted : History → Bytes → Bytes → Bytes → Admitted
list_admitted h snapshots deltas queries = and_then (passes (well_formed h snapshots deltas) IllFormed) (passes (good_list queries) BadList)

-- ---- one query

-- kind 1: where the delta starts in the output, its length and counts
abbrev pub served_at : ℕ → Counts → Reply
served_at at c = record { kind = 1; number = 0; offset = at; length = c.len; announced = c.announced; withdrawn = c.withdrawn }

-- kind 0: the refusal's number, the rest 0
abbrev pub refused_with : Refusal → Reply
refused_with r = record { kind = 0; number = number_of r; offset = 0; length = 0; announced = 0; withdrawn = 0 }

-- the reply to a query that was lent the output from `at` on
abbrev pub reply_of : ℕ → Result Counts Refusal → Reply
reply_of at (Ok c) = served_at at c
reply_of at (Err r) = refused_with r

-- how much of the output an answer uses: a refused one nothing
abbrev pub used_by : Result Counts Refusal → ℕ
used_by (Ok c) = c.len
used_by (Err r) = 0

-- the replies so far, how much of the output they use, and the output
pub record Laid : Type 0 where
  pub replies : List Reply
  pub used : ℕ
  pub out : Bytes

-- the single query's answer where so much of the output is used
abbrev pub answer_at : History → Bytes → Bytes → Asked → ℕ → Bytes → Result Counts Refusal
answer_at h snapshots deltas q used out = (query_of h q.session q.serial snapshots deltas (length (drop used out))).answer

-- and the output that it leaves
abbrev pub out_from : History → Bytes → Bytes → Asked → ℕ → Bytes → Bytes
out_from h snapshots deltas q used out = take used out ++ query_out h q.session q.serial snapshots deltas (drop used out)

-- one more query
abbrev pub answered : History → Bytes → Bytes → Laid → Asked → Laid
answered h snapshots deltas l q = record {
  replies = l.replies ++ (reply_of l.used (answer_at h snapshots deltas q l.used l.out) ∷ []);
  used = l.used + used_by (answer_at h snapshots deltas q l.used l.out);
  out = out_from h snapshots deltas q l.used l.out;
}

-- ---- all of them

-- nothing is used
abbrev pub unused : Bytes → Laid
unused out = record { replies = []; used = 0; out = out }

-- the queries one by one
unfoldable pub laid_of : History → Bytes → Bytes → List Asked → Bytes → Laid
laid_of h snapshots deltas qs out = foldl (answered h snapshots deltas) (unused out) qs

-- a reply of zeros
abbrev pub no_reply : Reply
no_reply = record { kind = 0; number = 0; offset = 0; length = 0; announced = 0; withdrawn = 0 }

-- 384 replies: those past the count are zeros
abbrev pub padded : List Reply → List Reply
padded rs = rs ++ replicate (384 - length rs) no_reply

-- a refused call: all else 0
abbrev pub refused_call : Refusal → Replied
refused_call r = record { admitted = Err r; session = zero_session; serial = zero_serial; used = 0; count = 0; replies = padded [] }

-- the 16-bit session and F, how much of the output is used, and the replies
abbrev pub replied_by : Admitted → History → Laid → Replied
replied_by (Err r) h l = refused_call r
replied_by (Ok tt) h l = record { admitted = Ok tt; session = session_of h.session; serial = h.newest; used = l.used; count = length l.replies; replies = padded l.replies }

-- history, the two stores (which stay as they were), the list, the output
unfoldable pub query_all_of : History → Bytes → Bytes → Bytes → Bytes → Replied
query_all_of h snapshots deltas queries out =
    replied_by (list_admitted h snapshots deltas queries) h (laid_of h snapshots deltas (asked_by queries) out)

-- the output afterwards: of a refused call as it was
abbrev pub out_by : Admitted → Laid → Bytes → Bytes
out_by (Err r) l out = out
out_by (Ok tt) l out = l.out

unfoldable pub query_all_out : History → Bytes → Bytes → Bytes → Bytes → Bytes
query_all_out h snapshots deltas queries out =
    out_by (list_admitted h snapshots deltas queries) (laid_of h snapshots deltas (asked_by queries) out) out
