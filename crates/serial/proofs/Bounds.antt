-- Laws of the timing values.
use Rattle.std.proofs.Common.{◌≡◌, ℕ, ◌+◌, ◌<◌, ◌≤◌, max, arith}
use Rattle.serial.specs.declared.timing.Timing.{Timing}
use Rattle.serial.specs.Timing.{clamp_of, expire_of, timing_of}
use Rattle.serial.specs.Rfc8210.{Allowed, Intervals}

-- timing values are known by their three numbers, expire by what it was before it was compared with the two others
pub same_timing : {a b c d x y z : ℕ} → a ≡ x → b ≡ y → c ≡ expire_of a b d → d ≡ z → ◌≡◌ {A = Timing} (record { refresh = a; retry = b; expire = c }) (record { refresh = x; retry = y; expire = expire_of x y z })
same_timing {a} {b} {c} {d} {x} {y} {z} p q r w = λ i. record { refresh = p i; retry = q i; expire = e i }
  where
    e : c ≡ expire_of x y z
    e = omega arith

module _ (low high x : ℕ) (ordered : low ≤ high) where
  -- what is clamped lies within the bounds
  pub clamp_within : (low ≤ clamp_of low high x) × (clamp_of low high x ≤ high)
  clamp_within = omega arith

  -- what lies within the bounds stays
  pub clamp_kept : low ≤ x → x ≤ high → clamp_of low high x ≡ x
  clamp_kept l h = omega arith

module _ (refresh retry expire : ℕ) where
  -- expire becomes larger than both
  pub expire_above : (refresh < expire_of refresh retry expire) × (retry < expire_of refresh retry expire)
  expire_above = (omega arith, omega arith)

  -- and stays within bounds whose upper one is larger than both
  pub expire_within : (low high : ℕ) → low ≤ expire → expire ≤ high → refresh < high → retry < high → (low ≤ expire_of refresh retry expire) × (expire_of refresh retry expire ≤ high)
  expire_within low high l h p q = (omega arith, omega arith)

  -- one that is larger than both stays
  pub expire_kept : max refresh retry < expire → expire_of refresh retry expire ≡ expire
  expire_kept h = omega arith

  -- any other becomes the larger of the two, plus 1
  pub expire_raised : expire ≤ max refresh retry → expire_of refresh retry expire ≡ max refresh retry + 1
  expire_raised h = omega arith

-- the intervals handed out
module _ (t : Timing) where
  abbrev refresh : ℕ
  refresh = clamp_of 1 86400 t.refresh

  abbrev retry : ℕ
  retry = clamp_of 1 7200 t.retry

  abbrev expire : ℕ
  expire = clamp_of 600 172800 t.expire

  in_refresh : (1 ≤ refresh) × (refresh ≤ 86400)
  in_refresh = clamp_within 1 86400 t.refresh (omega arith)

  in_retry : (1 ≤ retry) × (retry ≤ 7200)
  in_retry = clamp_within 1 7200 t.retry (omega arith)

  in_expire : (600 ≤ expire_of refresh retry expire) × (expire_of refresh retry expire ≤ 172800)
  in_expire = let e : (600 ≤ expire) × (expire ≤ 172800) = clamp_within 600 172800 t.expire (omega arith) in expire_within refresh retry expire 600 172800 e.0 e.1 (omega (arith, in_refresh.1)) (omega (arith, in_retry.1))

  allowed : Allowed (timing_of t)
  allowed = record {
    refresh_low = in_refresh.0;
    refresh_high = in_refresh.1;
    retry_low = in_retry.0;
    retry_high = in_retry.1;
    expire_low = in_expire.0;
    expire_high = in_expire.1;
    above_refresh = (expire_above refresh retry expire).0;
    above_retry = (expire_above refresh retry expire).1;
  }

  kept : Allowed t → timing_of t ≡ t
  kept a = λ i. record { refresh = p i; retry = q i; expire = r i }
    where
      p : refresh ≡ t.refresh
      p = clamp_kept 1 86400 t.refresh (omega arith) a.refresh_low a.refresh_high

      q : retry ≡ t.retry
      q = clamp_kept 1 7200 t.retry (omega arith) a.retry_low a.retry_high

      e : expire ≡ t.expire
      e = clamp_kept 600 172800 t.expire (omega arith) a.expire_low a.expire_high

      larger : max t.refresh t.retry < t.expire
      larger = omega arith

      r : expire_of refresh retry expire ≡ t.expire
      r = rw (p, q, e, expire_kept t.refresh t.retry t.expire larger)

  pub intervals : Intervals t
  intervals = record { allowed = allowed; kept = kept; left = expire_kept refresh retry expire; raised = expire_raised refresh retry expire }
