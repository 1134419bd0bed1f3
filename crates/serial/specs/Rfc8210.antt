-- RFC 8210, section 6: which intervals a cache may hand out, and what is promised of those handed out here.
use Rattle.std.specs.Prelude.{◌≡◌, ◌+◌, ◌<◌, ◌≤◌, max}
use Rattle.serial.specs.declared.timing.Timing.{Timing}
use Rattle.serial.specs.Timing.{clamp_of, timing_of}

-- each interval lies in its range, and expire is larger than refresh and than retry
pub record Allowed (t : Timing) : Type 0 where
  pub refresh_low : 1 ≤ t.refresh
  pub refresh_high : t.refresh ≤ 86400
  pub retry_low : 1 ≤ t.retry
  pub retry_high : t.retry ≤ 7200
  pub expire_low : 600 ≤ t.expire
  pub expire_high : t.expire ≤ 172800
  pub above_refresh : t.refresh < t.expire
  pub above_retry : t.retry < t.expire

-- whatever intervals are asked for
pub record Intervals (t : Timing) : Type 0 where
  -- those handed out are allowed
  pub allowed : Allowed (timing_of t)
  -- allowed ones stay as they are
  pub kept : Allowed t → timing_of t ≡ t
  -- an expire that, clamped, is larger than the refresh and the retry handed out is handed out so
  pub left : max (timing_of t).refresh (timing_of t).retry < clamp_of 600 172800 t.expire → (timing_of t).expire ≡ clamp_of 600 172800 t.expire
  -- any other becomes the larger of the two, plus 1
  pub raised : clamp_of 600 172800 t.expire ≤ max (timing_of t).refresh (timing_of t).retry → (timing_of t).expire ≡ max (timing_of t).refresh (timing_of t).retry + 1
