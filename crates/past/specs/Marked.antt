-- The marked examples of document 01, K1 to K11, on the smallest snapshots and deltas that show them.
use Rattle.delta.specs.Answer.{Merged}
use Rattle.std.specs.Prelude.{ℕ, ◌≡◌, List, [], ◌∷◌, ◌++◌, length, replicate, Ok, Result, None, Err}
use Rattle.serial.specs.declared.Serial.{Serial}
use Rattle.serial.specs.declared.timing.Timing.{Timing}
use Rattle.serial.specs.Rfc1982.{standing}
use Rattle.serial.specs.Timing.{timing_of}
use Rattle.payload.specs.Content.{Bytes}
use Rattle.delta.specs.declared.refusal.Refusal.TheVariants.{NotServed}
use Rattle.delta.specs.Answer.{merged_of, counts_of, construct_of, merge_of, merge_out}
use Rattle.past.specs.declared.state.History.{History}
use Rattle.past.specs.declared.query.Queried.{Queried}
use Rattle.past.specs.Store.{joined, holding_of}
use Rattle.payload.specs.Written.{written_over}
use Rattle.past.specs.Create.{fresh_of}
use Rattle.past.specs.Query.{query_of, query_out}
use Rattle.item.specs.declared.sink.Counts.{Counts}
use Rattle.delta.specs.declared.refusal.Refusal.{Refusal}

abbrev pub serial : ℕ → Serial
serial n = record { 0 = n }

-- AS 64497 and AS 64498 as the only provider
abbrev pub p : Bytes
p = 0 ∷ 0 ∷ 251 ∷ 241 ∷ []

abbrev pub q : Bytes
q = 0 ∷ 0 ∷ 251 ∷ 242 ∷ []

-- the ASPA of customer 64500 with one provider: in a snapshot, announced, withdrawn, updated
abbrev pub customer : Bytes
customer = 0 ∷ 0 ∷ 251 ∷ 244 ∷ []

abbrev pub in_snapshot : Bytes → Bytes
in_snapshot n = 0x03 ∷ 0 ∷ 8 ∷ (customer ++ n)

abbrev pub announcing : Bytes → Bytes
announcing n = 0x31 ∷ 0 ∷ 8 ∷ (customer ++ n)

abbrev pub withdrawing : Bytes → Bytes
withdrawing n = 0x32 ∷ 0 ∷ 8 ∷ (customer ++ n)

abbrev pub updating : Bytes → Bytes → Bytes
updating former new = 0x33 ∷ 0 ∷ 14 ∷ (customer ++ (0 ∷ 1 ∷ (former ++ new)))

-- three deltas, one after the other: the ASPA comes, changes its provider, and goes
abbrev pub delta1 : Bytes
delta1 = announcing p

abbrev pub delta2 : Bytes
delta2 = updating p q

abbrev pub delta3 : Bytes
delta3 = withdrawing q

-- output lent
abbrev pub lent : Bytes
lent = replicate 20 9

-- a history of the session 65,543, which is 7 in 16 bits
abbrev pub history_with : ℕ → Bytes → List Bytes → History
history_with newest s ds = holding_of (fresh_of 65_543 10 (serial 0)) (serial newest) s ds

-- what a query gets of a history with this newest serial, snapshot and these deltas, oldest first; and the output afterwards
abbrev pub asks : ℕ → Bytes → List Bytes → ℕ → Queried × Bytes
asks newest s ds asked = (
  query_of (history_with newest s ds) (record { 0 = 7 }) (serial asked) s (joined ds) (length lent),
  query_out (history_with newest s ds) (record { 0 = 7 }) (serial asked) s (joined ds) lent,
)

-- it gets a delta
abbrev pub gets : ℕ → Bytes → Queried × Bytes
gets newest d = (record { session = record { 0 = 7 }; serial = serial newest; answer = Ok (counts_of d) }, written_over d lent)

-- it gets refusal 6
abbrev pub gets_six : Queried × Bytes
gets_six = (record { session = record { 0 = 0 }; serial = serial 0; answer = Err NotServed }, lent)

-- what a merge gets, and the output afterwards
abbrev pub merges : Bytes → Bytes → Merged × Bytes
merges earlier later = (merge_of earlier later (serial 2) (length lent), merge_out earlier later lent)

abbrev pub into : Bytes → Merged × Bytes
into d = (Ok (serial 2, counts_of d), written_over d lent)

abbrev pub seconds : ℕ → ℕ → ℕ → Timing
seconds refresh retry expire = record { refresh = refresh; retry = retry; expire = expire }

-- the table
pub record Marked : Type 0 where
  -- empty to empty: no change
  pub k1 : construct_of [] [] (serial 0) 0 ≡ Ok None
  -- n = 0: serial 0 empty delta, serial 1 gets 6
  pub k2 : (asks 0 (in_snapshot p) [] 0 ≡ gets 0 []) × (asks 0 (in_snapshot p) [] 1 ≡ gets_six)
  -- deltas 2, 1: serial 0 gets 1 merged with 2, 1 gets delta 2, 2 empty, 3 gets 6
  pub k3 : (asks 2 (in_snapshot q) (delta1 ∷ delta2 ∷ []) 0 ≡ gets 2 (merged_of delta1 delta2))
      × (asks 2 (in_snapshot q) (delta1 ∷ delta2 ∷ []) 1 ≡ gets 2 delta2)
      × (asks 2 (in_snapshot q) (delta1 ∷ delta2 ∷ []) 2 ≡ gets 2 [])
      × (asks 2 (in_snapshot q) (delta1 ∷ delta2 ∷ []) 3 ≡ gets_six)
  -- delta 1 alone: serial 0 gets delta 1
  pub k4 : asks 1 (in_snapshot p) (delta1 ∷ []) 0 ≡ gets 1 delta1
  -- deltas 3, 2, 1: serial 1 gets 2 merged with 3
  pub k5 : asks 3 [] (delta1 ∷ delta2 ∷ delta3 ∷ []) 1 ≡ gets 3 (merged_of delta2 delta3)
  -- delta 1 alone, serial 2,147,483,649: 6; by RFC 1982 the two are unordered
  pub k6 : (asks 1 (in_snapshot p) (delta1 ∷ []) 2_147_483_649 ≡ gets_six) × (standing (serial 2_147_483_649) (serial 1) ≡ None)
  -- deltas 0, 4,294,967,295, 4,294,967,294: serial 4,294,967,294 gets the last two merged
  pub k7 : asks 0 [] (delta1 ∷ delta2 ∷ delta3 ∷ []) 4_294_967_294 ≡ gets 0 (merged_of delta2 delta3)
  -- withdraw(p) then announce p: nothing
  pub k8 : merges (withdrawing p) (announcing p) ≡ into []
  -- withdraw {64497} then announce {64498}: update({64497})
  pub k9 : merges (withdrawing p) (announcing q) ≡ into (updating p q)
  -- announce {64497} then update to {64498}: announce {64498}
  pub k10 : merges (announcing p) (updating p q) ≡ into (announcing q)
  -- timing (0, 0, 0): (1, 1, 600)
  pub k11 : timing_of (seconds 0 0 0) ≡ seconds 1 1 600
