-- Laws of where a batch may end.
use Rattle.std.proofs.Common.{◌≡◌, ℕ, ◌+◌, ◌-◌, ◌/◌, ◌<◌, ◌≤◌, List, length, get_or, arith}
use Rattle.payload.specs.Content.{Bytes}
use Rattle.heard.specs.Place.{Payload}
use Rattle.batch.specs.Keep.{Bound}
use Rattle.batch.specs.Map.{Hinted, Hint, HintAt}
use Rattle.batch.specs.Map as map

-- ---- behind

module _ (s : Bytes) (stop x : ℕ) where
  hint_of : HintAt s stop x → (x ≡ 0 → ⊥) → Hint s stop x
  hint_of (map.none e) n = absurd (n e)
  hint_of (map.one h) n = h

  pub hint_good : HintAt s stop x → (x ≡ 0 → ⊥) → Payload s x
  hint_good h n = (hint_of h n).good

-- ---- aim

pub record Aiming (s : Bytes) (stop : ℕ) (l : List ℕ) (low a b : ℕ) : Type 0 where
  pub hinted : Hinted s stop l
  pub low_bound : Bound s low
  pub between : a ≤ b
  pub few : b ≤ 960
  pub len : length l ≡ 960

pub aim_start : (s : Bytes) (stop : ℕ) (l : List ℕ) (low n : ℕ) → Hinted s stop l → Bound s low → n ≤ 960 → Aiming s stop l low 0 n
aim_start s stop l low n h b f = record { hinted = h; low_bound = b; between = omega arith; few = f; len = h.long }

module _ (s : Bytes) (stop : ℕ) (l : List ℕ) (low a b : ℕ) (t : Aiming s stop l low a b) where
  pub aim_few : b ≤ 960
  aim_few = t.few

  pub aim_end : a ≤ 960
  aim_end = omega (arith, t.between, t.few)

  pub aim_low : Bound s low
  aim_low = t.low_bound

  module _ (h : a < b) where
    pub aim_in : a + (b - a) / 2 < length l
    aim_in = omega (arith, t.few, t.len)

    pub aim_good : (get_or l (a + (b - a) / 2) 0 ≡ 0 → ⊥) → Payload s (get_or l (a + (b - a) / 2) 0)
    aim_good n = hint_good s stop (get_or l (a + (b - a) / 2) 0) (t.hinted.each (a + (b - a) / 2) (omega (arith, t.few))) n

    pub aim_down : Aiming s stop l low a (a + (b - a) / 2)
    aim_down = record { hinted = t.hinted; low_bound = t.low_bound; between = omega arith; few = omega (arith, t.few); len = t.len }

    pub aim_up : Aiming s stop l low (a + (b - a) / 2 + 1) b
    aim_up = record { hinted = t.hinted; low_bound = t.low_bound; between = omega arith; few = t.few; len = t.len }

pub ruleset aiming = (aim_start, aim_few, aim_end, aim_low, aim_in, aim_good, aim_down, aim_up)
