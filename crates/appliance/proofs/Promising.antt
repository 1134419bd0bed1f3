-- What is promised of the queries of an appliance, proved of the definition.
use Prim.Native.Nat.{ℕ, ◌+◌, ◌-◌, ◌≤◌, ◌<◌}
use mathlib.Core.Path.{◌≡◌, refl, sym, ap, ◌∙◌}
use mathlib.Core.List.{List, [], ◌∷◌, ◌++◌, foldl}
use native.Mathlib.Omega.{arith}
use native.Mathlib.Nat.{zero-add}
use lib.ListN.{length, get_or, take, drop, length-append, length-drop, take-append-drop, get_or-append}
use lib.Seq.{take_at, drop_at, take-take, drop-drop, drop-append-add, drop-append_seam, get_or-append_seam, length-take-le}
use Rattle.serial.specs.declared.Serial.{Serial}
use Rattle.payload.specs.Content.{Bytes}
use Rattle.item.specs.declared.sink.Counts.{Counts}
use Rattle.delta.specs.declared.refusal.Refusal.{Refusal}
use Rattle.past.specs.declared.state.History.{History}
use Rattle.past.specs.Query.{answer_of, query_of, query_out, query_admitted}
use Rattle.past.specs.Run.{Reached}
use Rattle.past.specs.Promise.{Promise}
use Rattle.past.proofs.Queries.{out_refused, out_whole, counts_served}
use Rattle.past.proofs.Runs.{promise}
use Rattle.appliance.specs.declared.reply.Reply.{Reply}
use Rattle.appliance.specs.QueryAll.{Asked, reply_of, used_by, answer_at, Laid, answered, unused, laid_of}
use Rattle.appliance.specs.Promise.{Each, Refuses, EveryQuery, EveryRefusal, Appliance, EveryAppliance}
use Rattle.appliance.proofs.Gathering.{out_length, used_within}
use Rattle.appliance.proofs.Repeating.{part_same}
use Rattle.std.specs.Prelude.{Err, Ok, Result}

-- a fold in two parts
fold_append : (f : Laid → Asked → Laid) (l : Laid) (ps qs : List Asked) → foldl f l (ps ++ qs) ≡ foldl f (foldl f l ps) qs
fold_append f l [] qs = refl
fold_append f l (p ∷ ps) qs = fold_append f (f l p) ps qs

-- what later queries leave of what earlier ones left
record Grown (l m : Laid) : Type 0 where
  more : l.used ≤ m.used
  room : m.used ≤ length m.out
  long : length m.out ≡ length l.out
  front : take l.used m.out ≡ take l.used l.out
  rest : drop m.used m.out ≡ drop m.used l.out
  count : length l.replies ≤ length m.replies
  same : (i : ℕ) (z : Reply) → i < length l.replies → get_or m.replies i z ≡ get_or l.replies i z

front_of_lem : (o p : Bytes) (i n : ℕ) → n ≤ i → take i o ≡ take i p → take n o ≡ take n p
front_of_lem o p i n h e = sym (take-take n i o h) ∙ ap (take n) e ∙ take-take n i p h

rest_of : (o p : Bytes) (i n : ℕ) → i ≤ n → drop i o ≡ drop i p → drop n o ≡ drop n p
rest_of o p i n h e =
    let z : i + (n - i) ≡ n = omega arith in
    ap (λ (k : ℕ). drop k o) (sym z) ∙ sym (drop-drop (n - i) i o) ∙ ap (drop (n - i)) e ∙ drop-drop (n - i) i p ∙ ap (λ (k : ℕ). drop k p) z

grown_none : (l : Laid) → l.used ≤ length l.out → Grown l l
grown_none l h = record { more = omega arith; room = h; long = refl; front = refl; rest = refl; count = omega arith; same = λ i z p. refl }

grown_both : (k l m : Laid) → Grown k l → Grown l m → Grown k m
grown_both k l m a b = record {
  more = omega (arith, a.more, b.more);
  room = b.room;
  long = b.long ∙ a.long;
  front = front_of_lem m.out l.out l.used k.used a.more b.front ∙ a.front;
  rest = b.rest ∙ rest_of l.out k.out l.used m.used b.more a.rest;
  count = omega (arith, a.count, b.count);
  same = λ i z p. b.same i z (omega (arith, a.count)) ∙ a.same i z p;
}

module _ (h : History) (snapshots deltas : Bytes) where
  abbrev F : Laid → Asked → Laid
  F = answered h snapshots deltas

  module _ (l : Laid) (q : Asked) (p : l.used ≤ length l.out) where
    abbrev lent : Bytes
    lent = drop l.used l.out

    abbrev O : Bytes
    O = query_out h q.session q.serial snapshots deltas lent

    abbrev A : Result Counts Refusal
    A = answer_at h snapshots deltas q l.used l.out

    front_length : length (take l.used l.out) ≡ l.used
    front_length = length-take-le l.used l.out p

    -- the single query's output: as long as before, and past what it uses as it was
    out_long : length O ≡ length lent
    unfolding query_out
    out_long = out_length (query_admitted h q.session q.serial snapshots deltas) (answer_of h q.serial deltas) lent

    used_room : used_by A ≤ length lent
    unfolding query_of
    used_room = used_within (query_admitted h q.session q.serial snapshots deltas) h (answer_of h q.serial deltas) (length lent)

    past_used : (a : Result Counts Refusal) → A ≡ a → drop (used_by a) O ≡ drop (used_by a) lent
    past_used (Ok c) e =
        let n : c.len ≡ length (answer_of h q.serial deltas) = ap (λ (y : Counts). y.len) (counts_served h q.session q.serial snapshots deltas lent c e) in
        ap (drop c.len) (out_whole h q.session q.serial snapshots deltas lent c e)
        ∙ rw n (drop-append_seam (answer_of h q.serial deltas) (drop (length (answer_of h q.serial deltas)) lent))
    past_used (Err r) e = out_refused h q.session q.serial snapshots deltas lent r e

    next_long : length (take l.used l.out ++ O) ≡ length l.out
    next_long = length-append (take l.used l.out) O ∙ omega (arith, front_length, out_long, length-drop l.used l.out, p)

    -- past so many bytes of it
    next_drop : (n : ℕ) → drop (l.used + n) (take l.used l.out ++ O) ≡ drop n O
    next_drop n =
        ap (λ (k : ℕ). drop (k + n) (take l.used l.out ++ O)) (sym front_length) ∙ drop-append-add (take l.used l.out) O n

    grown_one : Grown l (F l q)
    grown_one = record {
      more = omega arith;
      room = omega (arith, next_long, used_room, length-drop l.used l.out, p);
      long = next_long;
      front = take_at (take l.used l.out) O l.used front_length;
      rest = next_drop (used_by A) ∙ past_used A refl ∙ drop-drop (used_by A) l.used l.out;
      count = omega (arith, length-append l.replies (reply_of l.used A ∷ []));
      same = λ i z j. get_or-append l.replies (reply_of l.used A ∷ []) z i j;
    }

    refused_one : (r : Refusal) → A ≡ Err r → Refuses l (F l q)
    refused_one r e = record {
      used = rw e (omega arith);
      out = ap (λ (y : Bytes). take l.used l.out ++ y) (out_refused h q.session q.serial snapshots deltas lent r e) ∙ take-append-drop l.used l.out;
    }

  grown : (l : Laid) (qs : List Asked) → l.used ≤ length l.out → Grown l (foldl F l qs)
  grown l [] p = grown_none l p
  grown l (q ∷ qs) p = grown_both l (F l q) (foldl F (F l q) qs) (grown_one l q p) (grown (F l q) qs (grown_one l q p).room)

  counted : (l : Laid) (qs : List Asked) → length (foldl F l qs).replies ≡ length l.replies + length qs
  counted l [] = omega arith
  counted l (q ∷ qs) = counted (F l q) qs ∙ omega (arith, length-append l.replies (reply_of l.used (answer_at h snapshots deltas q l.used l.out) ∷ []))

  module _ (before : List Asked) (q : Asked) (after : List Asked) (out : Bytes) where
    abbrev L : Laid
    L = foldl F (unused out) before

    abbrev M : Laid
    M = foldl F (F L q) after

    start : Grown (unused out) L
    start = grown (unused out) before (omega arith)

    finish : Grown (F L q) M
    finish = grown (F L q) after (grown_one L q start.room).room

    both : Grown L M
    both = grown_both L (F L q) M (grown_one L q start.room) finish

    whole : Grown (unused out) M
    whole = grown_both (unused out) L M start both

    place : length L.replies ≡ length before
    place = counted (unused out) before ∙ zero-add (length before)

    -- the output still unused is as it was lent
    lent_is : drop L.used L.out ≡ drop L.used out
    lent_is = start.rest

    answer_is : answer_at h snapshots deltas q L.used L.out ≡ answer_at h snapshots deltas q L.used out
    answer_is = ap (λ (y : Bytes). (query_of h q.session q.serial snapshots deltas (length y)).answer) lent_is

    each : Each h snapshots deltas q (length before) out L M
    each = record {
      reply = λ z.
          rw (← place, ← answer_is)
          (finish.same (length L.replies) z (omega (arith, length-append L.replies (reply_of L.used (answer_at h snapshots deltas q L.used L.out) ∷ [])))
          ∙ get_or-append_seam L.replies (reply_of L.used (answer_at h snapshots deltas q L.used L.out)) [] z);
      bytes = λ c e.
          let f : answer_at h snapshots deltas q L.used L.out ≡ Ok c = answer_is ∙ e in
          let n : (F L q).used ≡ L.used + c.len = rw f in
          let t : take (L.used + c.len) M.out ≡ take (L.used + c.len) (F L q).out =
          front_of_lem M.out (F L q).out (F L q).used (L.used + c.len) (omega (arith, n)) finish.front in
          part_same M.out (F L q).out (L.used + c.len) L.used c.len t (omega arith)
          ∙ ap (take c.len) (drop_at (take L.used L.out) (O L q start.room) L.used (front_length L q start.room))
          ∙ ap (λ (y : Bytes). take c.len (query_out h q.session q.serial snapshots deltas y)) lent_is;
      within = omega (arith, whole.room, whole.long);
      long = whole.long;
      rest = whole.rest;
    }

pub every_query : EveryQuery
unfolding laid_of
every_query h snapshots deltas before q after out =
    rw (fold_append (answered h snapshots deltas) (unused out) before (q ∷ after)) (each h snapshots deltas before q after out)

pub every_refusal : EveryRefusal
unfolding laid_of
every_refusal h snapshots deltas before q out r e =
    rw (fold_append (answered h snapshots deltas) (unused out) before (q ∷ []))
    (refused_one h snapshots deltas (L h snapshots deltas before q [] out) q (start h snapshots deltas before q [] out).room r (answer_is h snapshots deltas before q [] out ∙ e))

-- ---- in a run

module _ (session keep : ℕ) (start : Serial) (r : Reached) (p : Promise session keep start r) where
  appliance_of : Appliance start r
  appliance_of = record {
    admits = λ queries g. rw (p.formed, g);
    leads = λ before q after out c s n e.
        let w = (every_query r.world.history r.world.snapshots r.world.deltas before q after out).bytes c e in
        rw w (p.leads q.session q.serial (drop (laid_of r.world.history r.world.snapshots r.world.deltas before out).used out) c s n e);
  }

pub every_appliance : EveryAppliance
every_appliance session keep start snapshots deltas bound done calls octets =
    appliance_of session keep start _ (promise session keep start snapshots deltas bound done calls octets)
