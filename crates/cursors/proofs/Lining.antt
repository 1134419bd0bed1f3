-- Laws of the fronts of all runs.
use Prim.Native.Nat.{ℕ, ◌+◌, ◌≤◌, ◌<◌}
use mathlib.Core.Path.{◌≡◌, ◌∙◌}
use mathlib.Core.List.{List}
use native.Mathlib.Omega.{arith}
use native.Mathlib.Decide.{ℕ_discrete, dec_le}
use lib.ListN.{length, get_or, replicate, length-replicate, get_or-replicate}
use Rattle.payload.specs.Content.{Bytes}
use Rattle.cursors.specs.Cursor.{Stands, Within}
use Rattle.item.specs.Front.{top}
use Rattle.cursors.specs.Front.{Fronts, nowhere, Blocks, Settled, Fronted, lined, line}
use Rattle.cursors.specs.declared.runs.Walk.{Walk}
use Rattle.cursors.specs.Walk.{LinedUp}

pub record Lining (s : Bytes) (at ends : List ℕ) (from n : ℕ) (f : List ℕ) (r : ℕ) : Type 0 where
  pub within : Within s at ends n
  pub few : n ≤ 64
  pub long : length f ≡ 72
  pub ahead : from ≤ r
  pub inside : (j : ℕ) → from ≤ j → j < r → j < n
  pub fronted : Fronted s at ends from r f

pub line_start : (s : Bytes) (at ends : List ℕ) (from n : ℕ) → Within s at ends n → Lining s at ends from n (replicate 72 top) from
line_start s at ends from n w = record {
  within = w;
  few = w.few;
  long = length-replicate 72 top;
  ahead = omega arith;
  inside = λ j a b. absurd (omega arith);
  fronted = lined (record {
    blocks = record {
      long = length-replicate 72 top;
      lows = λ b h. record {
        under = λ j x y. rw (get_or-replicate 72 (64 + b) top 0 (omega arith), get_or-replicate 72 j top 0 (omega arith)) (omega arith);
        sits = nowhere (get_or-replicate 72 (64 + b) top 0 (omega arith));
      };
    };
    each = λ r a b. absurd (omega arith);
    before = λ r a b. get_or-replicate 72 r top 0 (omega arith);
    behind = λ r a b. get_or-replicate 72 r top 0 (omega arith);
  });
}

module _ (s : Bytes) (at ends : List ℕ) (from n : ℕ) (f : List ℕ) (r : ℕ) (i : Lining s at ends from n f r) where
  pub line_blocks : Blocks f
  line_blocks = (line i.fronted).blocks

  pub line_stands : r < n → Stands s (get_or at r 0) (get_or ends r 0)
  line_stands h = i.within.each r h

  pub line_again : r < n → (v : ℕ) → Fronts s (get_or at r 0) (get_or ends r 0) v → (g : List ℕ) → Settled f g r v → Lining s at ends from n g (r + 1)
  line_again h v e g t = record {
    within = i.within;
    few = i.few;
    long = t.blocks.long;
    ahead = omega (arith, i.ahead);
    inside = λ j a b. elim (ℕ_discrete j r) [ yes d ↦ omega arith | no d ↦ i.inside j a (omega arith) ];
    fronted = lined (record {
      blocks = t.blocks;
      each = λ j a b. each j a b (ℕ_discrete j r);
      before = λ j a b. t.others j b (λ d. omega (arith, i.ahead)) ∙ (line i.fronted).before j a b;
      behind = λ j a b. t.others j b (λ d. omega arith) ∙ (line i.fronted).behind j (omega arith) b;
    });
  }
    where
      each : (j : ℕ) → from ≤ j → j < r + 1 → Dec (j ≡ r) → Fronts s (get_or at j 0) (get_or ends j 0) (get_or g j 0)
      each j a b (yes d) = rw (d, t.here) e
      each j a b (no d) = rw (t.others j (omega (arith, i.few)) d) ((line i.fronted).each j a (omega arith))

  all_fronted : n ≤ r → Fronted s at ends from n f
  all_fronted h = lined (record {
    blocks = (line i.fronted).blocks;
    each = λ j a b. (line i.fronted).each j a (omega arith);
    before = (line i.fronted).before;
    behind = λ j a b. elim (dec_le r j) [
      | yes q ↦ (line i.fronted).behind j q b
      | no q ↦ elim (dec_le from j) [
        | yes z ↦ absurd (omega (arith, i.inside j z (omega arith)))
        | no z ↦ (line i.fronted).before j (omega arith) b
      ]
    ];
  })

  pub line_done : n ≤ r → (w : Walk) → w.store.now ≡ s → w.at ≡ at → w.ends ≡ ends → w.from ≡ from → w.n ≡ n → w.fronts.of ≡ f → LinedUp s at ends from n w
  line_done h w a b c d e g = record { store = a; at = b; ends = c; from = d; n = e; fronted = rw g (all_fronted h) }

pub ruleset lining = (line_start, line_blocks, line_stands, line_again, line_done)
