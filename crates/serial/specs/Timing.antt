-- The timing values, in seconds.
use Rattle.std.specs.Prelude.{ℕ, ◌+◌, min, max}
use Rattle.serial.specs.declared.timing.Timing.{Timing}

-- x clamped to low..high
abbrev pub clamp_of : ℕ → ℕ → ℕ → ℕ
clamp_of low high x = max low (min high x)

-- an expire that is not larger than both refresh and retry becomes the larger of the two, plus 1
abbrev pub expire_of : (refresh retry expire : ℕ) → ℕ
expire_of refresh retry expire = max expire (max refresh retry + 1)

-- refresh is clamped to 1..86,400, retry to 1..7,200, expire to 600..172,800, each alone; then expire is larger than the two others
abbrev pub timing_of : Timing → Timing
timing_of t = let refresh : ℕ = clamp_of 1 86_400 t.refresh in
    let retry : ℕ = clamp_of 1 7_200 t.retry in
    record {
      refresh = refresh;
      retry = retry;
      expire = expire_of refresh retry (clamp_of 600 172_800 t.expire);
    }
