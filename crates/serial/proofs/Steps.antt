-- Laws of the serial after and of the distance of two serials.
use Rattle.std.proofs.Common.{◌≡◌, ℕ, ◌+◌, ◌%◌, ◌^◌, ◌<◌, ◌↔◌, arith}
use Rattle.serial.specs.declared.Serial.{Serial}
use Rattle.serial.specs.Serial.{next_of, distance_of}

-- a serial is known by its number
pub same_serial : {m n : ℕ} → m ≡ n → ◌≡◌ {A = Serial} (record { 0 = m }) (record { 0 = n })
same_serial e = λ i. record { 0 = e i }

-- the serial after is a number of 32 bits
pub next_below : (s : Serial) → (next_of s).0 < 2 ^ 32
next_below s = omega arith

-- the serial after is at distance 1
pub next_distance : (s : Serial) → s.0 < 2 ^ 32 → distance_of (next_of s) s ≡ 1
next_distance s h = omega arith

-- where the newest serial steps on, every distance from it grows by 1, modulo 2^32
pub distance_next : (f s : Serial) → distance_of (next_of f) s ≡ (distance_of f s + 1) % 2 ^ 32
distance_next f s = omega arith

-- two serials are at distance 0 exactly if they are the same
pub distance_zero : (f s : Serial) → f.0 < 2 ^ 32 → s.0 < 2 ^ 32 → distance_of f s ≡ 0 ↔ f ≡ s
distance_zero f s hf hs = (λ e. same_serial {m = f.0} {n = s.0} (omega arith), λ e. let k : f.0 ≡ s.0 = cc in omega arith)
