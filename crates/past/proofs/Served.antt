-- The serials that are served, and the snapshots that carried them.
use Prim.Native.Nat.{ℕ, zero, suc, ◌+◌, ◌-◌, ◌%◌, ◌^◌, ◌≤◌, ◌<◌}
use mathlib.Core.Path.{◌≡◌, refl}
use mathlib.Core.List.{List, [], ◌∷◌}
use mathlib.Core.Option.{none, some}
use mathlib.Core.Bool.{Bool, true, false, cond}
use native.Mathlib.Omega.{arith}
use lib.Dec.{leb, eqb}
use lib.ListN.{length}
use borrow.Author.Tests.{leb-true, eqb-true, eqb-false, le-leb, eq-eqb, ne_eqb}
use Rattle.change.specs.Held.{nth}
use Rattle.serial.specs.declared.Serial.{Serial}
use Rattle.serial.specs.Serial.{next_of, distance_of}
use Rattle.payload.specs.Content.{Bytes}
use Rattle.past.specs.Query.{is_served}
use Rattle.past.specs.Promise.{Rule, none_held, some_held}
use Rattle.past.specs.Run.{carried}

module _ (start : Serial) (n : ℕ) (asked : Serial) (d : ℕ) where
  -- the test is the rule
  pub served_rule : is_served start n asked d ≡ true → Rule start.0 n asked.0 d
  served_rule = go (eqb n 0) refl
    where
      go : (t : Bool) → eqb n 0 ≡ t → cond t (eqb asked.0 start.0) (leb d n) ≡ true → Rule start.0 n asked.0 d
      go true e k = none_held (eqb-true n 0 e) (eqb-true asked.0 start.0 k)
      go false e k = some_held (omega (arith, eqb-false n 0 e)) (leb-true d n k)

  pub rule_served : Rule start.0 n asked.0 d → is_served start n asked d ≡ true
  rule_served (none_held e f) = rw (eq-eqb n 0 e, eq-eqb asked.0 start.0 f)
  rule_served (some_held e f) = rw (ne_eqb n 0 (omega arith), le-leb d n f)

-- no more steps back than deltas
pub rule_within : (start : Serial) (n : ℕ) (newest asked : Serial) → asked.0 < 2 ^ 32 → (n ≡ 0 → newest.0 ≡ start.0) →
    Rule start.0 n asked.0 (distance_of newest asked) → distance_of newest asked ≤ n
rule_within b n f a l z (none_held e s) = let k : f.0 ≡ b.0 = z e in omega arith
rule_within b n f a l z (some_held e s) = s

-- ---- the snapshot that most recently carried a serial

-- among snapshots that carried serials 1 to 2^32 - 1 steps after it, none
none_carried : (serial asked : Serial) (k : ℕ) (ss : List Bytes) → asked.0 < 2 ^ 32 → serial.0 ≡ (asked.0 + k) % 2 ^ 32 → 1 ≤ k →
    k + length ss ≤ 2 ^ 32 → carried serial asked ss ≡ none
none_carried f a k [] l e m h = refl
none_carried f a k (s ∷ ss) l e m h =
    rw (ne_eqb f.0 a.0 (omega arith), none_carried (next_of f) a (k + 1) ss l (omega arith) (omega arith) (omega arith))

-- the i-th carried it, and the last stands less than 2^32 behind that
carried_from : (serial asked : Serial) (i : ℕ) (S : Bytes) (Ts : List Bytes) → asked.0 < 2 ^ 32 → serial.0 < 2 ^ 32 →
    (serial.0 + i) % 2 ^ 32 ≡ asked.0 → i ≤ length Ts → length Ts - i < 2 ^ 32 → carried serial asked (S ∷ Ts) ≡ some (nth i S Ts)
carried_from f a zero S Ts l m e h k =
    let r : f.0 ≡ a.0 = omega arith in
    rw (none_carried (next_of f) a 1 Ts l (omega arith) (omega arith) (omega arith), eq-eqb f.0 a.0 r)
carried_from f a (suc i) S [] l m e h k = absurd (omega arith)
carried_from f a (suc i) S (T ∷ Ts) l m e h k =
    rw (carried_from (next_of f) a i T Ts l (omega arith) (omega arith) (omega arith) (omega arith))

-- the newest serial is the start serial plus the count of changes: the serial asked for was last carried as many changes ago as it is steps before
pub carried_back : (start newest asked : Serial) (S : Bytes) (Ts : List Bytes) → start.0 < 2 ^ 32 → asked.0 < 2 ^ 32 → newest.0 ≡ (start.0 + length Ts) % 2 ^ 32 →
    distance_of newest asked ≤ length Ts → carried start asked (S ∷ Ts) ≡ some (nth (length Ts - distance_of newest asked) S Ts)
carried_back b f a S Ts k l e h =
    carried_from b a (length Ts - distance_of f a) S Ts l k (omega arith) (omega arith) (omega arith)
