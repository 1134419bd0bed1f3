-- After every run of calls a served query's answer is the shortest delta that leads the router home.
use Prim.Native.Nat.{ℕ, ◌^◌, ◌<◌}
use mathlib.Core.Path.{◌≡◌}
use mathlib.Core.List.{List, []}
use Rattle.order.specs.Map.{All}
use Rattle.serial.specs.declared.Serial.{Serial}
use Rattle.payload.specs.Content.{Bytes}
use Rattle.delta.specs.Demand.{GoodSnapshot}
use Rattle.delta.specs.Shortest.{LeadsTo}
use Rattle.delta.proofs.Shortest as delta
use Rattle.past.specs.Create.{create_of}
use Rattle.past.specs.Run.{Call, Reached, start_of, run_of}
use Rattle.past.specs.Promise.{OfBytes, Leads, written_in, current, Promise}
use Rattle.past.specs.Shortest.{ShortestHome, Shortest}
use Rattle.past.proofs.Runs.{promise}
use Rattle.past.proofs.Given.{given_good, all_carried, good_current}
use Rattle.std.specs.Prelude.{Ok}

module _ (session keep : ℕ) (start : Serial) (r : Reached) (p : Promise session keep start r) (goods : All GoodSnapshot r.given) where
  home : (asked : Serial) (answer : Bytes) → ¬ (r.given ≡ []) → Leads start r.given (current r.world) asked answer →
      ShortestHome start r.given (current r.world) asked answer
  home asked answer n l =
      let b : GoodSnapshot l.base = all_carried GoodSnapshot start asked r.given l.base goods l.most_recent in
      let c : GoodSnapshot (current r.world) = good_current session keep start r p goods n in
      let t : LeadsTo l.base (current r.world) answer = rw l.exact ((delta.shortest).leads l.base (current r.world) b c) in
      record {
        base = l.base;
        most_recent = l.most_recent;
        leads = t;
        shortest = rw l.exact (λ D o d. (delta.shortest).shortest l.base (current r.world) D b c o d);
        balance = (delta.shortest).balance l.base (current r.world) answer b t;
      }

pub shortest : (session keep : ℕ) (start : Serial) (snapshots deltas : Bytes) → start.0 < 2 ^ 32 → (create_of session keep start snapshots deltas).answer ≡ Ok tt →
    (calls : List Call) → All OfBytes calls → Shortest start (run_of (start_of session keep start snapshots deltas) calls)
shortest session keep start snapshots deltas bound done calls octets =
    go (run_of (start_of session keep start snapshots deltas) calls)
    (promise session keep start snapshots deltas bound done calls octets)
    (given_good (start_of session keep start snapshots deltas) calls octets tt)
  where
    go : (r : Reached) → Promise session keep start r → All GoodSnapshot r.given → Shortest start r
    go r p g = record { home = λ s asked out c l n e. home session keep start r p g asked (written_in r.world s asked out c) n (p.leads s asked out c l n e) }
