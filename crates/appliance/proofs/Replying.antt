-- Laws of replies and of the list of queries.
use Prim.Native.Nat.{ℕ, ◌+◌, ◌*◌, ◌%◌, ◌≤◌, ◌<◌}
use mathlib.Core.Path.{◌≡◌}
use mathlib.Core.Bool.{Bool, true, false, not}
use native.Mathlib.Omega.{arith}
use lib.Dec.{eqb}
use lib.ListN.{length}
use borrow.Author.Tests.{not-true, not-false, le-leb, lt-leb}
use Rattle.serial.specs.declared.Serial.{Serial}
use Rattle.serial.specs.declared.Session.{Session}
use Rattle.number.specs.Number.{two_at, four_at}
use Rattle.payload.specs.Content.{Bytes}
use Rattle.delta.specs.declared.refusal.Refusal.TheVariants.{IllFormed, BadList}
use Rattle.past.specs.declared.state.History.{History}
use Rattle.past.specs.WellFormed.{well_formed}
use Rattle.appliance.specs.QueryAll.{good_list, list_admitted}
use Rattle.std.specs.Prelude.{Err, Ok}

-- ---- the list

pub list_long : (s : Bytes) → 2_304 < length s → false ≡ good_list s
list_long s h = rw (lt-leb (length s) 2_304 h)

pub list_whole : (s : Bytes) → length s ≤ 2_304 → eqb (length s % 6) 0 ≡ good_list s
list_whole s h = rw (le-leb (length s) 2_304 h)

pub session_is : (s : Bytes) (i n : ℕ) → n ≡ two_at s i → ◌≡◌ {A = Session} (record { 0 = n }) (record { 0 = two_at s i })
session_is s i n e = λ j. record { 0 = e j }

module _ (s : Bytes) (i high low : ℕ) (a : high ≡ two_at s i) (b : low ≡ two_at s (i + 2)) where
  pub serial_is : ◌≡◌ {A = Serial} (record { 0 = high * 65_536 + low }) (record { 0 = four_at s i })
  serial_is =
      let z : i + 2 + 1 ≡ i + 3 = omega arith in
      let e : high * 65_536 + low ≡ four_at s i = rw (a, b, z) (omega arith) in
      λ j. record { 0 = e j }

  pub serial_small : high < 65_536 → low < 65_536 → high * 65_536 + low < 4_294_967_296
  serial_small m n = omega arith

module _ (h : History) (snapshots deltas queries : Bytes) (t : Bool) (e : t ≡ well_formed h snapshots deltas) where
  pub list_formed : not t ≡ true → Err IllFormed ≡ list_admitted h snapshots deltas queries
  list_formed q = rw (← e, not-true t q)

  module _ (q : not t ≡ false) (u : Bool) (f : u ≡ good_list queries) where
    pub list_bad : not u ≡ true → Err BadList ≡ list_admitted h snapshots deltas queries
    list_bad p = rw (← e, not-false t q, ← f, not-true u p)

    pub list_good : not u ≡ false → (Ok tt) ≡ list_admitted h snapshots deltas queries
    list_good p = rw (← e, not-false t q, ← f, not-false u p)

pub ruleset listing = (list_long, list_whole, session_is, serial_is, serial_small, list_formed, list_bad, list_good)
