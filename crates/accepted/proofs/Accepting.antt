-- What a router would take to the end, the judge accepts.
use Prim.Native.Nat.{ℕ, ◌≤◌}
use mathlib.Core.Path.{◌≡◌, ap, ◌∙◌}
use mathlib.Core.List.{[], ◌∷◌, map}
use mathlib.Core.Bool.{Bool, true, false, cond}
use native.Mathlib.Omega.{arith}
use borrow.Author.Tests.{le-leb}
use lib.ListN.{length}
use Rattle.order.specs.Comparison.{bytes}
use Rattle.order.specs.Map.{All}
use Rattle.change.specs.Difference as change
use Rattle.change.specs.Difference.{diff}
use Rattle.change.specs.Application.{apply}
use Rattle.serial.specs.declared.Serial.{Serial}
use Rattle.serial.specs.declared.timing.Timing.{Timing}
use Rattle.serial.specs.Serial.{session_of}
use Rattle.serial.specs.Timing.{timing_of}
use Rattle.body.specs.declared.tag.Form.TheVariants.{Snapshot, Delta}
use Rattle.payload.specs.Content.{Bytes}
use Rattle.payload.specs.Payload.{encode, items}
use Rattle.payload.specs.Valid.{Valid, IsMap}
use Rattle.payload.proofs.Faithful.{faithful}
use Rattle.payload.proofs.Closed.{diff_map, apply_map}
use Rattle.delta.specs.Demand.{GoodSnapshot, Acceptable}
use Rattle.delta.proofs.Differences.{empty_good, good_map}
use Rattle.payload.specs.Written.{written_over}
use Rattle.message.specs.declared.version.Version.{Version}
use Rattle.message.specs.Version.{speaks, times_told}
use Rattle.message.specs.Say.{kind_in, spoken}
use Rattle.message.specs.Hear.{Heard, ended, hear}
use Rattle.message.specs.Take.{all, as_item, take}
use Rattle.message.proofs.Spoken.{spoken_sorted}
use Rattle.judge.specs.Answer.{counts_of, judge_admitted, result_of, judge_of, judge_out}
use Rattle.judge.specs.Promise.{unspoken}
use Rattle.judge.proofs.Results.{onward_spoken, onward_unspoken, onward_whole, onward_taken}
use Rattle.past.specs.Run.{Reached, start_of, run_of}
use Rattle.past.specs.Promise.{serial_in, current, Promise}
use Rattle.past.proofs.Runs.{promise}
use Rattle.past.proofs.Given.{given_acceptable, given_good, all_carried, good_current}
use Rattle.past.proofs.Steps.{fine_admitted}
use Rattle.router.specs.Promise.{LeadsOn, query_in, full_in, written, Wire}
use Rattle.router.proofs.Running.{wire}
use Rattle.accepted.specs.Accepted.{Accepts, Judged, EveryJudged}
use Rattle.std.specs.Prelude.{Ok}

-- the items that a version speaks of are valid if all are
spoken_valid : (v : Version) (D : change.Delta Bytes Bytes) → All (Valid Delta) D → All (Valid Delta) (spoken v D)
unfolding spoken
spoken_valid v [] h = tt
spoken_valid v (x ∷ D) h = go (speaks v (kind_in x)) (spoken_valid v D h.1)
  where
    go : (b : Bool) → All (Valid Delta) (spoken v D) → All (Valid Delta) (cond b (x ∷ spoken v D) (spoken v D))
    go true i = (h.0, i)
    go false i = i

module _ (v : Version) (session : ℕ) (serial : Serial) (times : Timing) (base now messages : Bytes) (gb : Acceptable base) (gn : GoodSnapshot now)
    (l : LeadsOn v session serial times base now messages) where
  abbrev A : change.Snapshot Bytes Bytes
  A = items base

  abbrev C : change.Snapshot Bytes Bytes
  C = items now

  abbrev D : change.Delta Bytes Bytes
  D = spoken v (diff bytes bytes A C)

  abbrev B : change.Snapshot Bytes Bytes
  B = apply bytes A D

  map_a : IsMap Snapshot A
  map_a = good_map base gb.good

  map_c : IsMap Snapshot C
  map_c = good_map now gn

  map_b : IsMap Snapshot B
  map_b =
      let d = diff_map A C map_a map_c in
      apply_map A D map_a (record { sorted = spoken_sorted v (diff bytes bytes A C) d.sorted; valid = spoken_valid v (diff bytes bytes A C) d.valid })

  told_is : map as_item (hear v messages).told ≡ D
  told_is = ap (λ (h : Heard). map as_item h.told) l.reads.heard ∙ l.reads.items

  stop_is_lem : (hear v messages).stop ≡ ended (session_of session).0 serial.0 (times_told v (timing_of times))
  stop_is_lem = ap (λ (h : Heard). h.stop) l.reads.heard

  taken : take A (hear v messages).told ≡ all B
  taken = onward_taken v A C map_a.sorted map_c.sorted (hear v messages).told told_is

  admits : judge_admitted v base messages ≡ Ok tt
  unfolding judge_admitted
  admits = rw (fine_admitted Snapshot base gb.short gb.good.fine, taken, stop_is_lem)

  leaves : result_of v base messages ≡ encode Snapshot B
  unfolding result_of
  leaves = rw taken

  says : items (encode Snapshot B) ≡ B
  says = (faithful Snapshot).map_back B map_b

  answers : (room : ℕ) → length (encode Snapshot B) ≤ room →
      judge_of v base messages room ≡ Ok (record { session = session_of session; serial = serial; times = times_told v (timing_of times); counts = counts_of (hear v messages).told (encode Snapshot B) })
  unfolding judge_of
  answers room h = rw (admits, stop_is_lem, leaves, le-leb (length (encode Snapshot B)) room h)

  outs : (out : Bytes) → length (encode Snapshot B) ≤ length out → judge_out v base messages out ≡ written_over (encode Snapshot B) out
  unfolding judge_out
  outs out h = rw (admits, leaves, le-leb (length (encode Snapshot B)) (length out) h)

  pub accepting : Accepts v session serial times base now messages
  accepting = record {
    result = encode Snapshot B;
    accepts = answers;
    writes = outs;
    fine = (faithful Snapshot).good_bytes B map_b;
    as_now = ap (spoken v) says ∙ onward_spoken v A C map_a.sorted map_c.sorted;
    as_base = ap (unspoken v) says ∙ onward_unspoken v A C map_a.sorted map_c.sorted;
    whole = λ q. ap (encode Snapshot) (onward_whole v A C map_a.sorted map_c.sorted q) ∙ (faithful Snapshot).bytes_back now gn.octets gn.fine;
  }

-- ---- every run

empty_acceptable : Acceptable []
empty_acceptable = record { good = empty_good; short = omega arith }

-- in any version, over every run of calls from a fresh history
pub judged : EveryJudged
judged v session keep start snapshots deltas bound done calls octets =
    go (run_of (start_of session keep start snapshots deltas) calls)
    (promise session keep start snapshots deltas bound done calls octets)
    (wire v session keep start snapshots deltas bound done calls octets)
    (given_good (start_of session keep start snapshots deltas) calls octets tt)
    (given_acceptable (start_of session keep start snapshots deltas) calls octets tt)
  where
    go : (r : Reached) → Promise session keep start r → Wire v session start r → All GoodSnapshot r.given → All Acceptable r.given → Judged v session start r
    go r p w g a = record {
      query = λ s asked times out t b n q base e.
          let h = w.query s asked times out t b n q in
          let same : h.base ≡ base = cc in
          accepting v session (serial_in start r.given) times base (current r.world) (written (query_in v r.world s asked times) out t)
          (all_carried Acceptable start asked r.given base a e) (good_current session keep start r p g n)
          (rw same at h.leads);
      full = λ times out t n q.
          accepting v session (serial_in start r.given) times [] (current r.world) (written (full_in v r.world times) out t)
          empty_acceptable (good_current session keep start r p g n) (w.full times out t n q);
    }
