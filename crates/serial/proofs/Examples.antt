-- Worked examples, by computation.
use Rattle.std.proofs.Common.{◌≡◌, ℕ, refl}
use Rattle.serial.specs.declared.Serial.{Serial}
use Rattle.serial.specs.declared.timing.Timing.{Timing}
use Rattle.serial.specs.Serial.{next_of, distance_of, session_of}
use Rattle.serial.specs.Rfc1982.{first_true, standing}
use Rattle.serial.specs.Timing.{timing_of}
use Rattle.std.specs.declared.cmp.Ordering.TheVariants as ordering
use Rattle.std.specs.Prelude.{None, Some}

abbrev serial : ℕ → Serial
serial n = record { 0 = n }

abbrev values : ℕ → ℕ → ℕ → Timing
values a b c = record { refresh = a; retry = b; expire = c }

-- the serial after 4,294,967,295 is 0
pub wrap : next_of (serial 4294967295) ≡ serial 0
wrap = refl

-- below the wrap the serial after is the next number
pub no_wrap : next_of (serial 4294967294) ≡ serial 4294967295
no_wrap = refl

-- from 4,294,967,294 to 0 it is two steps, across the wrap
pub distance_wrap : distance_of (serial 0) (serial 4294967294) ≡ 2
distance_wrap = refl

-- a session of more than 16 bits is cut
pub session_cut : ((session_of 65535).0 ≡ 65535) × ((session_of 65536).0 ≡ 0) × ((session_of 65537).0 ≡ 1)
session_cut = (refl, refl, refl)

-- across the wrap, 0 is after 4,294,967,295
pub after_wrap : (standing (serial 0) (serial 4294967295) ≡ Some ordering.Greater) × (standing (serial 4294967295) (serial 0) ≡ Some ordering.Less)
unfolding standing first_true
after_wrap = (refl, refl)

-- around half the range: 2^31 - 1 steps on is after, 2^31 is unordered either way, 2^31 + 1 is before
pub around_half : (standing (serial 2147483648) (serial 1) ≡ Some ordering.Greater) × (standing (serial 2147483649) (serial 1) ≡ None) × (standing (serial 1) (serial 2147483649) ≡ None) × (standing (serial 2147483650) (serial 1) ≡ Some ordering.Less)
unfolding standing first_true
around_half = (refl, refl, refl, refl)

-- the order is not transitive: 0 is before 2,147,483,647, which is before 4,294,967,294, which is before 0
pub not_transitive : (standing (serial 0) (serial 2147483647) ≡ Some ordering.Less) × (standing (serial 2147483647) (serial 4294967294) ≡ Some ordering.Less) × (standing (serial 4294967294) (serial 0) ≡ Some ordering.Less)
unfolding standing first_true
not_transitive = (refl, refl, refl)

-- timing (0, 0, 0): (1, 1, 600)
pub k11 : timing_of (values 0 0 0) ≡ values 1 1 600
k11 = refl

-- at the low bounds, one above and one below them
pub low_bounds : (timing_of (values 1 1 600) ≡ values 1 1 600) × (timing_of (values 2 2 601) ≡ values 2 2 601) × (timing_of (values 0 0 599) ≡ values 1 1 600)
low_bounds = (refl, refl, refl)

-- at the high bounds, one below and one above them
pub high_bounds : (timing_of (values 86400 7200 172800) ≡ values 86400 7200 172800) × (timing_of (values 86399 7199 172799) ≡ values 86399 7199 172799) × (timing_of (values 86401 7201 172801) ≡ values 86400 7200 172800)
high_bounds = (refl, refl, refl)

-- refresh and retry are clamped alone
pub each_alone : timing_of (values 0 8000 10000) ≡ values 1 7200 10000
each_alone = refl

-- the request's own example, at the bounds and past them
pub expire_raised : (timing_of (values 86400 7200 600) ≡ values 86400 7200 86401) × (timing_of (values 100000 9000 0) ≡ values 86400 7200 86401)
expire_raised = (refl, refl)

-- expire one below refresh, equal to it, one above it
pub around_refresh : (timing_of (values 1000 1 999) ≡ values 1000 1 1001) × (timing_of (values 1000 1 1000) ≡ values 1000 1 1001) × (timing_of (values 1000 1 1001) ≡ values 1000 1 1001)
around_refresh = (refl, refl, refl)

-- the same where retry is the larger one
pub around_retry : (timing_of (values 1 7200 7199) ≡ values 1 7200 7201) × (timing_of (values 1 7200 7200) ≡ values 1 7200 7201) × (timing_of (values 1 7200 7201) ≡ values 1 7200 7201)
around_retry = (refl, refl, refl)

-- at the lowest expire
pub lowest_expire : (timing_of (values 599 599 0) ≡ values 599 599 600) × (timing_of (values 600 1 0) ≡ values 600 1 601) × (timing_of (values 1 600 600) ≡ values 1 600 601)
lowest_expire = (refl, refl, refl)
