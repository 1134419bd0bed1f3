-- Laws of the entry.
use Prim.Native.Nat.{ℕ, ◌+◌, ◌-◌, ◌^◌, ◌<◌, ◌≤◌}
use mathlib.Core.Path.{◌≡◌, refl, sym, ap, ◌∙◌}
use mathlib.Core.List.{List, [], ◌∷◌, ◌++◌, map}
use mathlib.Core.Bool.{Bool, true, false, cond}
use native.Mathlib.Omega.{arith}
use borrow.Author.Tests.{leb-true, leb-false, le-leb, lt-leb}
use mir.Syntax.{w8, w64}
use mir.Val.{Fits}
use lib.Dec.{leb}
use lib.ListN.{length, get_or, drop, replicate, length-replicate, get_or-replicate}
use lib.Seq.{sets, sets-eq}
use Rattle.order.specs.Comparison.{bytes}
use Rattle.order.proofs.Never.{never}
use Rattle.change.specs.Application.{apply}
use Rattle.body.specs.declared.tag.Form.TheVariants.{Snapshot}
use Rattle.field.specs.Verdict.{verdict}
use Rattle.payload.specs.Content.{Bytes}
use Rattle.payload.specs.Payload.{encode, items}
use Rattle.payload.specs.Valid.{IsMap}
use Rattle.payload.specs.Limit.{limit}
use Rattle.payload.specs.Count.{announces, withdraws, sum_of}
use Rattle.payload.proofs.Faithful.{faithful}
use Rattle.item.specs.declared.reading.Reading.TheVariants.{Announced}
use Rattle.item.proofs.Putting.{counts_path}
use Rattle.delta.specs.declared.refusal.Refusal.{Refusal}
use Rattle.delta.specs.declared.refusal.Refusal.TheVariants as refusal
use Rattle.delta.specs.Admission.{and_then, verdict_admitted, admit_one_of}
use Rattle.delta.specs.Answer.{out_after}
use Rattle.delta.proofs.Answering.{ready_start}
use Rattle.message.specs.declared.version.Version.{Version}
use Rattle.message.specs.Hear as message
use Rattle.message.specs.Take.{all, misfit, as_item}
use Rattle.message.specs.Take as fold
use Rattle.heard.specs.Place.{key_at, announces_at, told_at, Payload, Messages, done, more}
use Rattle.batch.specs.Map.{Surveys, Mapped}
use Rattle.batch.specs.Map as map
use Rattle.batch.proofs.Keeping.{size_some}
use Rattle.std.specs.declared.result.Result.TheVariants.{Ok, Err}
use Rattle.batch.specs.declared.map.Chunk.{Chunk}
use Rattle.batch.specs.declared.map.Map.{Map}
use Rattle.heard.specs.declared.hear.End.{End}
use Rattle.heard.specs.declared.hear.Fault.{Fault}
use Rattle.heard.specs.declared.hear.Heard.{Heard}
use Rattle.judge.specs.Walk.{least_fault, settled}
use Rattle.judge.specs.Answer.{taken_of, misfit_as, judge_admitted, result_of, judge_of, judge_out}
use Rattle.heard.specs.Field.{record_field}
use Rattle.heard.specs.Heard.{stop_is, count_flags, sum_fields, HeardIs}
use Rattle.judge.specs.State.{offsets, ordered, Given, Charted, Heeds, left_all, RoomFor, length_of, Balanced}
use Rattle.judge.proofs.Leaving.{offsets_are}
use Rattle.judge.proofs.Finding.{bytes_from}
use Rattle.judge.proofs.Lengths.{taken_length}
use Rattle.judge.proofs.Deciding.{FirstMisfit, fault_found, no_fault, announced_told, withdrawn_told}
use Rattle.delta.specs.Admission.{Admitted}
use Rattle.std.specs.Prelude.{Err, Ok, None, Option, Some}
use Rattle.field.specs.declared.verdict.Flaw.TheVariants as flaw
use Rattle.field.specs.Verdict.{Verdict}

-- ---- put_all

within_room : (m room n : ℕ) → length_of m room ≡ Some n → (m ≤ room) × (n ≡ m)
within_room m room n = go (leb m room) refl
  where
    go : (b : Bool) → leb m room ≡ b → cond b (Some m) None ≡ Some n → (m ≤ room) × (n ≡ m)
    go true p e = (leb-true m room p, sym (cc))
    go false p e = never cc

over_room : (m room : ℕ) → length_of m room ≡ None → room < m
over_room m room = go (leb m room) refl
  where
    go : (b : Bool) → leb m room ≡ b → cond b (Some m) None ≡ None → room < m
    go true p e = never cc
    go false p e = leb-false m room p

module _ (a s : Bytes) (stop more less : ℕ) (m : Map) (buf : List ℕ) (b : Balanced a s stop more less m buf) (o : Bytes) (r : Option ℕ) (e : r ≡ length_of (length a + more - less) (length o)) where
  abbrev whole : Bytes
  whole = left_all a s stop

  is : r ≡ length_of (length whole) (length o)
  is = e ∙ ap (λ (n : ℕ). length_of n (length o)) (omega (arith, b.is))

  pub all_over : r ≡ None → None ≡ length_of (length whole) (length o)
  all_over q = sym q ∙ is

  pub all_left : r ≡ None → o ≡ out_after (Ok tt) whole o
  all_left q = rw (lt-leb (length whole) (length o) (over_room (length whole) (length o) (sym is ∙ q)))

  module _ (n : ℕ) (q : r ≡ Some n) where
    pub all_room : RoomFor a s stop o
    all_room = record { room = (within_room (length whole) (length o) n (sym is ∙ q)).0 }

    pub all_within : Some n ≡ length_of (length whole) (length o)
    all_within = sym q ∙ is

    pub all_out : (p : Bytes) → p ≡ sets o 0 whole → p ≡ out_after (Ok tt) whole o
    all_out p d =
        let h : length whole ≤ length o = all_room.room in
        let z : 0 + length whole ≡ length whole = omega arith in
        rw (le-leb (length whole) (length o) h) (d ∙ sets-eq whole o 0 (omega (arith, h)) ∙ ap (λ (k : ℕ). whole ++ drop k o) z)

module _ (a s : Bytes) (stop more less : ℕ) (m : Map) (buf : List ℕ) (b : Balanced a s stop more less m buf) where
  pub all_charted : Charted a s stop m buf
  all_charted = b.charted

  pub all_enough : less ≤ length a + more
  all_enough = omega (arith, b.is)

pub ruleset putting_all = (all_charted, all_enough, all_over, all_left, all_room, all_within, all_out)

-- ---- our snapshot

admitted_fine : (s : Bytes) → admit_one_of Snapshot s ≡ Ok tt → verdict Snapshot s ≡ Ok tt
admitted_fine s = go (leb (length s) (limit Snapshot)) (verdict Snapshot s)
  where
    go : (b : Bool) (v : Verdict) → and_then (cond b (Ok tt) (Err (refusal.TooLong 1))) (verdict_admitted 1 v) ≡ Ok tt → v ≡ Ok tt
    go false v e = never cc
    go true (Ok tt) e = refl
    go true (Err (flaw.Bad at)) e = never cc
    go true (Err (flaw.Senseless at)) e = never cc
    go true (Err (flaw.NotAbove at)) e = never cc

-- ---- judge

module _ (v : Version) (a m o : Bytes) (x : Admitted) (e : x ≡ admit_one_of Snapshot a) where
  pub judge_refused : (r : Refusal) → x ≡ Err r → Err r ≡ judge_of v a m (length o)
  unfolding judge_of judge_admitted
  judge_refused r d = rw (← e, d)

  pub judge_left : (r : Refusal) → x ≡ Err r → o ≡ judge_out v a m o
  unfolding judge_out judge_admitted
  judge_left r d = rw (← e, d)

module _ (v : Version) (a m : Bytes) (y : admit_one_of Snapshot a ≡ Ok tt) (h : Heard) (k : HeardIs v m h) where
  fine : verdict Snapshot a ≡ Ok tt
  fine = admitted_fine a y

  is_map : IsMap Snapshot (items a)
  is_map = (faithful Snapshot).map_of a fine

  abbrev xs : List ℕ
  xs = offsets m h.over

  xs_are : xs ≡ k.xs
  xs_are = offsets_are m k.messages

  messages : Messages m 8 xs h.over
  messages = rw xs_are k.messages

  told_are : (message.hear v m).told ≡ map (told_at m) xs
  told_are = k.told ∙ ap (map (told_at m)) (sym xs_are)

  pub judge_given : Given a m h.over
  judge_given = record { ready = ready_start Announced a fine; messages = messages }

  pub judge_charted : (c : Map) (buf : List ℕ) → Mapped m h.over c → length buf ≡ 6000 → Charted a m h.over c buf
  judge_charted c buf d e = record { given = judge_given; mapped = d; len = e }

  module _ (l : ℕ) (f : l ≡ least_fault (items a) m 0 h.over (ordered m h.over)) where
    -- a message that does not fit
    module _ (lt : l < h.over) where
      first : FirstMisfit (items a) m xs l
      first = fault_found (items a) m xs 8 h.over l is_map (omega arith) messages f lt

      pub judge_payload : Payload m l
      judge_payload = first.payload

      misfits_at : taken_of v a m ≡ misfit (told_at m l)
      misfits_at = ap (fold.take (items a)) told_are ∙ first.taken

      refused : judge_admitted v a m ≡ Err (misfit_as (told_at m l).change l)
      unfolding judge_admitted
      refused = rw (y, misfits_at)

      pub judge_misfit : (o : Bytes) (r : Refusal) → r ≡ misfit_as (told_at m l).change l → Err r ≡ judge_of v a m (length o)
      unfolding judge_of
      judge_misfit o r q = rw refused (ap Err q)

      pub judge_misfit_left : (o : Bytes) → o ≡ judge_out v a m o
      unfolding judge_out
      judge_misfit_left o = rw refused

    module _ (ge : h.over ≤ l) where
      abbrev whole_is : Bytes
      whole_is = left_all a m h.over

      taken : taken_of v a m ≡ all (apply bytes (items a) (settled m (ordered m h.over)))
      taken = ap (fold.take (items a)) told_are ∙ (no_fault (items a) m xs 8 h.over l is_map (omega arith) messages f ge).taken

      result : result_of v a m ≡ whole_is
      unfolding result_of left_all
      result = rw taken

      -- then a faulty one
      module _ (fault : Fault) (q : h.stop ≡ Err fault) where
        stops : (message.hear v m).stop ≡ message.faulty fault.at
        stops = sym k.stop ∙ ap stop_is q

        faulty : judge_admitted v a m ≡ Err (refusal.Faulty fault.at)
        unfolding judge_admitted
        faulty = rw (y, taken, stops)

        pub judge_faulty : (o : Bytes) → Err (refusal.Faulty fault.at) ≡ judge_of v a m (length o)
        unfolding judge_of
        judge_faulty o = rw faulty

        pub judge_faulty_left : (o : Bytes) → o ≡ judge_out v a m o
        unfolding judge_out
        judge_faulty_left o = rw faulty

      pub judge_balanced : ((i : ℕ) → Fits w8 (get_or a i 0)) → (c : Map) → Mapped m h.over c → (buf : List ℕ) → length buf ≡ 6000 → Balanced a m h.over h.sums.more h.sums.less c buf
      unfolding left_all sum_fields
      judge_balanced oa c d buf len =
          let z : encode Snapshot (items a) ≡ a = bytes_from a 0 judge_given.ready oa in
          let w = taken_length m (sum_fields m true) (sum_fields m false) refl (λ n ns. plus n ns (announces_at m n)) refl (λ n ns. minus n ns (announces_at m n))
          (items a) (apply bytes (items a) (settled m (ordered m h.over))) is_map messages (no_fault (items a) m xs 8 h.over l is_map (omega arith) messages f ge).taken in
          let p : h.sums.more ≡ sum_fields m true xs = k.more ∙ ap (sum_fields m true) (sym xs_are) in
          let q : h.sums.less ≡ sum_fields m false xs = k.less ∙ ap (sum_fields m false) (sym xs_are) in
          record { charted = record { given = judge_given; mapped = d; len = len }; is = omega (arith, w, p, q, ap length z) }
        where
          plus : (n : ℕ) (ns : List ℕ) (b : Bool) → cond b (cond true (length (record_field (key_at m n))) 0) (cond true 0 (length (record_field (key_at m n)))) + sum_fields m true ns ≡ cond b (length (record_field (key_at m n))) 0 + sum_fields m true ns
          plus n ns b = refl

          minus : (n : ℕ) (ns : List ℕ) (b : Bool) → cond b (cond false (length (record_field (key_at m n))) 0) (cond false 0 (length (record_field (key_at m n)))) + sum_fields m false ns ≡ cond b 0 (length (record_field (key_at m n))) + sum_fields m false ns
          minus n ns b = refl

      module _ (e : End) (q : h.stop ≡ Ok e) where
        ends : (message.hear v m).stop ≡ message.ended e.session.0 e.serial.0 e.times
        ends = sym k.stop ∙ ap stop_is q

        yes : judge_admitted v a m ≡ Ok tt
        unfolding judge_admitted
        yes = rw (y, taken, ends)

        pub judge_out_lem : (o p : Bytes) → p ≡ out_after (Ok tt) (left_all a m h.over) o → p ≡ judge_out v a m o
        unfolding judge_out
        judge_out_lem o p d = rw (yes, result) d

        module _ (o : Bytes) (w : Option ℕ) (g : w ≡ length_of (length (left_all a m h.over)) (length o)) where
          pub judge_room : w ≡ None → Err refusal.NoRoom ≡ judge_of v a m (length o)
          unfolding judge_of
          judge_room d =
              let n : length o < length whole_is = over_room (length whole_is) (length o) (sym g ∙ d) in
              rw (yes, result, lt-leb (length whole_is) (length o) n)

          counted : (f : List ℕ → ℕ) (c : ℕ) → c ≡ f k.xs → c ≡ f xs
          counted f c d = d ∙ ap f (sym xs_are)

          announced_is : h.sums.announced ≡ sum_of announces (map as_item (message.hear v m).told)
          unfolding count_flags
          announced_is =
              counted (count_flags m true) h.sums.announced k.announced
              ∙ announced_told m (count_flags m true) refl (λ n ns. refl) xs ∙ ap (λ (t : List message.Told). sum_of announces (map as_item t)) (sym told_are)

          withdrawn_is : h.sums.withdrawn ≡ sum_of withdraws (map as_item (message.hear v m).told)
          unfolding count_flags
          withdrawn_is =
              counted (count_flags m false) h.sums.withdrawn k.withdrawn
              ∙ withdrawn_told m (count_flags m false) refl (λ n ns. refl) xs ∙ ap (λ (t : List message.Told). sum_of withdraws (map as_item t)) (sym told_are)

          pub judge_accepted : (len : ℕ) → w ≡ Some len →
              Ok (record { session = e.session; serial = e.serial; times = e.times; counts = record { len = len; announced = h.sums.announced; withdrawn = h.sums.withdrawn } }) ≡ judge_of v a m (length o)
          unfolding judge_of
          judge_accepted len d =
              let n = within_room (length whole_is) (length o) len (sym g ∙ d) in
              rw (yes, result, le-leb (length whole_is) (length o) n.0, ends) (ap (λ c. Ok (record { session = e.session; serial = e.serial; times = e.times; counts = c })) (counts_path n.1 announced_is withdrawn_is))

-- what `judge` hands on: a map of no chunks and no hints
module _ (v : Version) (a m : Bytes) (h : Heard) (k : HeardIs v m h) where
  abbrev no_chunk : Chunk
  no_chunk = record { from = 0; mid = 0; over = 0; least = 0; most = 0 }

  pub judge_surveys : Surveys m h.over (record { chunks = replicate 112 no_chunk; hints = replicate 960 0; held = 0; step = 0 }) (replicate 6000 0)
  judge_surveys = record {
    stretch = record { xs = k.xs; messages = k.messages };
    mapped = record {
      marked = record { long = length-replicate {A = Chunk} 112 no_chunk; each = λ c d n z. absurd (z (ap (λ (x : Chunk). x.from) (get_or-replicate {A = Chunk} 112 c no_chunk d n))) };
      hinted = record { long = length-replicate {A = ℕ} 960 0; each = λ n z. map.none (get_or-replicate {A = ℕ} 960 n 0 0 z) };
    };
    len = length-replicate {A = ℕ} 6000 0;
  }

  pub judge_count : Fits w64 h.over → h.sums.announced + h.sums.withdrawn < 2 ^ 64
  unfolding count_flags
  judge_count w = omega (arith, k.announced, k.withdrawn, flags m k.xs, counted m k.messages, w.fits)
    where
      flags : (s : Bytes) (xs : List ℕ) → count_flags s true xs + count_flags s false xs ≡ length xs
      flags s [] = refl
      flags s (n ∷ ns) = go (announces_at s n) (flags s ns)
        where
          go : (b : Bool) → count_flags s true ns + count_flags s false ns ≡ length ns → cond b 1 0 + count_flags s true ns + (cond b 0 1 + count_flags s false ns) ≡ length (n ∷ ns)
          go true i = omega (arith, i)
          go false i = omega (arith, i)

      counted : (s : Bytes) {at stop : ℕ} {xs : List ℕ} → Messages s at xs stop → length xs + at ≤ stop
      counted s done = omega arith
      counted s (more {at = at} p ms) = omega (arith, counted s ms, size_some s at p)

  pub judge_heeds : (x : Admitted) → x ≡ admit_one_of Snapshot a → x ≡ Ok tt → (c : Map) (buf : List ℕ) → Mapped m h.over c → length buf ≡ 6000 → Heeds v a m h c buf
  judge_heeds x e y c buf d l = record { fine = sym e ∙ y; heard = k; mapped = d; len = l }

pub ruleset judging = (judge_refused, judge_left, judge_surveys, judge_count, judge_heeds)

pub ruleset judging_heard = (judge_charted, judge_payload, judge_misfit, judge_misfit_left, judge_faulty, judge_faulty_left, judge_balanced, judge_out_lem, judge_room, judge_accepted)
