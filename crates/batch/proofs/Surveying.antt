-- Laws of the survey.
use Rattle.std.proofs.Common.{◌≡◌, ℕ, ◌+◌, ◌-◌, ◌/◌, ◌<◌, ◌≤◌, false, List, [], ◌∷◌, ◌++◌, length, get_or, take, set, sym, refl, ap, subst, ◌∙◌, add-one, arith, length-set, length-take-le, get_or-drop, get_or-set_other, get_or-take, get_or-set_same, take-suc-set, w64, Fits}
use native.Mathlib.Decide.{ℕ_discrete, dec_le}
use Rattle.payload.specs.Content.{Bytes}
use Rattle.heard.specs.Place.{Messages, done, more, Payload, size_at, precedes}
use Rattle.batch.specs.declared.map.Chunk.{Chunk}
use Rattle.batch.specs.declared.map.Map.{Map}
use Rattle.batch.specs.declared.survey.Filled.{Filled}
use Rattle.batch.specs.declared.survey.Charted.{Charted}
use Rattle.sorting.specs.Sorted.{sorted}
use Rattle.sorting.specs.Sort.{Held, FirstSorted}
use Rattle.batch.specs.Map.{Hint, HintAt, ChunkIs, Mapped, Stretch, FilledIs, Among, Drew, Draws, Drawn, CutAt, Starts, ChartedIs, Surveys, Surveyed, Lines}
use Rattle.batch.specs.Map as map
use Rattle.sorting.proofs.Sorting.{All, cons, climbing_at, all_at, all_by, all_sorted, Climbing, flat, up, climbing_sorted, length_sorted}
use Rattle.batch.proofs.Sorting.{in_sorted, all_in}
use Rattle.sorting.proofs.Precede.{never_self}
use Rattle.batch.proofs.Keeping.{size_some, messages_ahead, messages_good, messages_append, messages_first, Halves, messages_halves, messages_same, in_all, in_append, in_behind}

-- ---- fill

pub record Filling (s : Bytes) (from stop : ℕ) (l : List ℕ) (n at : ℕ) : Type 0 where
  pub cs : List ℕ
  pub messages : Messages s from cs at
  pub rest : List ℕ
  pub ahead : Messages s at rest stop
  pub few : n ≤ 6_000
  pub len : length l ≡ 6_000
  pub is : take n l ≡ cs
  pub some : from < at → 1 ≤ n
  pub moved : 1 ≤ n → from < at

pub fill_start : (s : Bytes) (from stop : ℕ) (l : List ℕ) → Stretch s from stop → length l ≡ 6_000 → Filling s from stop l 0 from
fill_start s from stop l t e =
    record { cs = []; messages = done; rest = t.xs; ahead = t.messages; few = omega arith; len = e; is = refl; some = λ h. absurd (omega arith); moved = λ h. absurd (omega arith) }

module _ (s : Bytes) (from stop : ℕ) (l : List ℕ) (n at : ℕ) (t : Filling s from stop l n at) where
  pub fill_few : n ≤ 6_000
  fill_few = t.few

  pub fill_len : length l ≡ 6_000
  fill_len = t.len

  module _ (h : at < stop) where
    pub fill_good : Payload s at
    fill_good = (messages_first t.ahead h).good

    pub fill_full : n ≡ 6_000 → FilledIs s from stop l (record { n = n; over = at })
    fill_full e = record {
      cs = t.cs;
      messages = t.messages;
      rest = t.rest;
      ahead = t.ahead;
      few = t.few;
      len = t.len;
      is = t.is;
      moves = λ z. t.moved (omega (arith, e));
      some = λ z. omega (arith, e);
    }

    module _ (size : ℕ) (e : size ≡ size_at s at) where
      pub fill_add : Fits w64 stop → Fits w64 (at + size)
      fill_add f = record { fits = omega (arith, e, messages_ahead (messages_first t.ahead h).ahead, f.fits) }

      pub fill_again : (n ≡ 6_000 → ⊥) → Filling s from stop (set l n at) (n + 1) (at + size)
      fill_again g = record {
        cs = t.cs ++ (at ∷ []);
        messages = rw e (messages_append t.messages (more fill_good done));
        rest = (messages_first t.ahead h).rest;
        ahead = rw e (messages_first t.ahead h).ahead;
        few = omega (arith, t.few);
        len = length-set l n at ∙ t.len;
        is = rw (add-one n, take-suc-set l n at (omega (arith, t.few, t.len))) (ap (λ (r : List ℕ). r ++ (at ∷ [])) t.is);
        some = λ z. omega arith;
        moved = λ z. omega (arith, e, messages_ahead t.messages, size_some s at fill_good);
      }

  pub fill_end : stop ≤ at → FilledIs s from stop l (record { n = n; over = at })
  fill_end h = record {
    cs = t.cs;
    messages = t.messages;
    rest = t.rest;
    ahead = t.ahead;
    few = t.few;
    len = t.len;
    is = t.is;
    moves = λ z. omega arith;
    some = λ z. t.some (omega arith);
  }

pub ruleset filling = (fill_start, fill_few, fill_len, fill_good, fill_full, fill_add, fill_again, fill_end)

-- ---- draw

pub record Drawing (b : List ℕ) (n every : ℕ) (l₀ : List ℕ) (held : ℕ) (l : List ℕ) (r : ℕ) : Type 0 where
  pub asked : Draws b n every l₀ held
  pub drawn : Drawn b n l₀ held l r
  pub some : 1 ≤ every

pub draw_start : (b : List ℕ) (n every : ℕ) (l : List ℕ) (held : ℕ) → Draws b n every l held → Drawing b n every l held l held
draw_start b n every l held t = record {
  asked = t;
  drawn = record { long = refl; ahead = omega arith; few = t.few; each = λ k. map.old refl; before = λ k h. refl; fresh = λ k h g. absurd (omega arith) };
  some = t.some;
}

module _ (b : List ℕ) (n every : ℕ) (l₀ : List ℕ) (held : ℕ) (l : List ℕ) (r : ℕ) (t : Drawing b n every l₀ held l r) where
  pub draw_done : Drawn b n l₀ held l r
  draw_done = t.drawn

  pub draw_few : r ≤ 960
  draw_few = t.drawn.few

  pub draw_some : 1 ≤ every
  draw_some = t.some

  pub draw_long : length l ≡ 960
  draw_long = t.drawn.long ∙ t.asked.long

  module _ (i : ℕ) (h : i < n) where
    pub draw_in : i < length b
    draw_in = omega (arith, t.asked.len, t.asked.within)

    pub draw_add : Fits w64 (i + every)
    draw_add = record { fits = omega (arith, t.asked.within, t.asked.small) }

    module _ (g : r ≡ 960 → ⊥) where
      pub draw_at : r < length l
      draw_at = omega (arith, draw_few, draw_long)

      pub draw_again : Drawing b n every l₀ held (set l r (get_or b i 0)) (r + 1)
      draw_again = record {
        asked = t.asked;
        drawn = record {
          long = length-set l r (get_or b i 0) ∙ t.drawn.long;
          ahead = omega (arith, t.drawn.ahead);
          few = omega (arith, t.drawn.few);
          each = λ k. each k (ℕ_discrete k r);
          before = λ k z. get_or-set_other l r k (get_or b i 0) 0 (λ w. omega (arith, t.drawn.ahead)) ∙ t.drawn.before k z;
          fresh = λ k y z. fresh k y z (ℕ_discrete k r);
        };
        some = t.some;
      }
        where
          one : (k : ℕ) → k ≡ r → Among b n (get_or (set l r (get_or b i 0)) k 0)
          one k e = record { i = i; within = h; is = rw (e, get_or-set_same l r (get_or b i 0) 0 draw_at) }

          each : (k : ℕ) → Dec (k ≡ r) → Drew b n (get_or l₀ k 0) (get_or (set l r (get_or b i 0)) k 0)
          each k (yes e) = map.new (one k e)
          each k (no e) = rw (get_or-set_other l r k (get_or b i 0) 0 e) (t.drawn.each k)

          fresh : (k : ℕ) → held ≤ k → k < r + 1 → Dec (k ≡ r) → Among b n (get_or (set l r (get_or b i 0)) k 0)
          fresh k y z (yes e) = one k e
          fresh k y z (no e) = rw (get_or-set_other l r k (get_or b i 0) 0 e) (t.drawn.fresh k y (omega arith))

pub ruleset drawing = (draw_start, draw_done, draw_few, draw_some, draw_long, draw_in, draw_add, draw_at, draw_again)

-- ---- chart

-- of a climbing list none is before the first
first_lowest : (s : Bytes) {l : List ℕ} → Climbing s l → 1 ≤ length l → All (λ (x : ℕ). precedes s x (get_or l 0 0) ≡ false) l
first_lowest s flat h = absurd (omega arith)
first_lowest s (up {x} {xs} a b) h = cons (never_self s x) a

-- and none behind the last
last_highest : (s : Bytes) {l : List ℕ} → Climbing s l → 1 ≤ length l → All (λ (x : ℕ). precedes s (get_or l (length l - 1) 0) x ≡ false) l
last_highest s {l} c h = all_by l (λ k z. go k z (ℕ_discrete k (length l - 1)))
  where
    go : (k : ℕ) → k < length l → Dec (k ≡ length l - 1) → precedes s (get_or l (length l - 1) 0) (get_or l k 0) ≡ false
    go k z (yes e) = rw e (never_self s (get_or l (length l - 1) 0))
    go k z (no e) = climbing_at s c k (length l - 1) (omega arith) (omega arith)

module _ (s : Bytes) (stop at : ℕ) (l : List ℕ) (t : Starts s stop at l) where
  pub chart_stretch : Stretch s at stop
  chart_stretch = t.stretch

  pub chart_len : length l ≡ 6_000
  chart_len = t.len

  module _ (m : List ℕ) (f : Filled) (u : FilledIs s at stop m f) where
    pub chart_few : f.n ≤ length m
    chart_few = omega (arith, u.few, u.len)

    pub chart_some : 1 ≤ f.n
    chart_some = u.some t.ahead

    pub chart_mid : f.n / 2 < length m
    chart_mid = omega (arith, chart_some, chart_few)

    pub chart_held : Held s (take f.n m)
    chart_held = rw u.is (record { each = all_at (messages_good u.messages) })

    module _ (k : List ℕ) (v : FirstSorted s m f.n k) where
      pub chart_long : length k ≡ 6_000
      chart_long = v.long ∙ u.len

      pub chart_first : 0 < length k
      chart_first = omega (arith, chart_long)

      pub chart_last : f.n - 1 < length k
      chart_last = omega (arith, chart_long, u.few)

      are : take f.n k ≡ sorted s u.cs
      are = v.is ∙ ap (sorted s) u.is

      count : length (sorted s u.cs) ≡ f.n
      count = sym (ap length are) ∙ length-take-le f.n k (omega (arith, chart_long, u.few))

      at_place : (i : ℕ) → i < f.n → get_or k i 0 ≡ get_or (sorted s u.cs) i 0
      at_place i h = sym (get_or-take f.n k i 0 h) ∙ ap (λ (y : List ℕ). get_or y i 0) are

      good_at : (i : ℕ) → i < f.n → Payload s (get_or k i 0)
      good_at i h = rw (at_place i h) (all_at (all_sorted s (messages_good u.messages)) i (omega (arith, count)))

      halves : Halves s at (get_or m (f.n / 2) 0) f.over
      halves =
          let h : f.n / 2 < f.n = omega (arith, chart_some) in
          let n : length u.cs ≡ f.n = ap length (sym u.is) ∙ length-take-le f.n m chart_few in
          let e : get_or u.cs (f.n / 2) 0 ≡ get_or m (f.n / 2) 0 = ap (λ (y : List ℕ). get_or y (f.n / 2) 0) (sym u.is) ∙ get_or-take f.n m (f.n / 2) 0 h in
          rw e at (messages_halves u.messages (f.n / 2) (omega (arith, n)))

      pub chart_there : f.n / 2 < length k
      chart_there = omega (arith, chart_some, chart_long, u.few)

      cut_halves : (r : ℕ) → CutAt at (get_or m (f.n / 2) 0) r → Halves s at r f.over
      cut_halves r (map.start e) = rw e (record { first = record { xs = []; messages = done }; second = record { xs = u.cs; messages = u.messages } })
      cut_halves r (map.middle e) = rw e halves

      abbrev chunk_of : ℕ → Chunk
      chunk_of r = record { from = at; mid = r; over = f.over; least = get_or k 0 0; most = get_or k (f.n - 1) 0 }

      chunk : (r : ℕ) → CutAt at (get_or m (f.n / 2) 0) r → ChunkIs s stop (chunk_of r)
      chunk r d = record {
        cs = u.cs;
        messages = u.messages;
        first = (cut_halves r d).first;
        second = (cut_halves r d).second;
        within = messages_ahead u.ahead;
        least_good = good_at 0 (omega (arith, chart_some));
        most_good = good_at (f.n - 1) (omega (arith, chart_some));
        lowest = λ x i. rw (at_place 0 (omega (arith, chart_some))) (in_all (in_sorted s i) (first_lowest s (climbing_sorted s u.cs) (omega (arith, count, chart_some))));
        highest = λ x i. rw (at_place (f.n - 1) (omega (arith, chart_some))) (in_all (in_sorted s i) (rw count at (last_highest s (climbing_sorted s u.cs) (omega (arith, count, chart_some)))));
      }

      pub chart_done : (r : ℕ) → CutAt at (get_or m (f.n / 2) 0) r → ChartedIs s stop at k (record { chunk = chunk_of r; n = f.n })
      unfolding chunk
      chart_done r d = record {
        chunk = chunk r d;
        from = refl;
        stretch = record { xs = u.rest; messages = u.ahead };
        moves = u.moves t.ahead;
        len = chart_long;
        few = u.few;
        each = λ i h. rw (at_place i h) (all_at (all_sorted s (all_in u.cs)) i (omega (arith, count)));
      }

pub ruleset charting = (chart_stretch, chart_len, chart_few, chart_some, chart_mid, chart_held, chart_long, chart_first, chart_last, chart_there, chart_done)

-- ---- chunks

pub record Surveying (s : Bytes) (stop every : ℕ) (m : Map) (l : List ℕ) (at held : ℕ) : Type 0 where
  pub ps : List ℕ
  pub behind : Messages s 8 ps at
  pub stretch : Stretch s at stop
  pub surveyed : Surveyed s stop m l held
  pub some : 1 ≤ every
  pub small : every < 4_294_967_296

pub chunks_start : (s : Bytes) (stop every : ℕ) (m : Map) (l : List ℕ) → Surveys s stop m l → 1 ≤ every → every < 4_294_967_296 → Surveying s stop every m l 8 0
chunks_start s stop every m l t a b = record {
  ps = [];
  behind = done;
  stretch = t.stretch;
  surveyed = record { mapped = t.mapped; len = t.len; few = omega arith; each = λ k h. absurd (omega arith) };
  some = a;
  small = b;
}

module _ (s : Bytes) (stop every : ℕ) (m : Map) (l : List ℕ) (at held : ℕ) (t : Surveying s stop every m l at held) where
  pub chunks_done : Surveyed s stop m l held
  chunks_done = t.surveyed

  pub chunks_some : 1 ≤ every
  chunks_some = t.some

  pub chunks_starts : at < stop → Starts s stop at l
  chunks_starts h = record { stretch = t.stretch; ahead = h; len = t.surveyed.len }

  module _ (b : List ℕ) (f : Charted) (u : ChartedIs s stop at b f) where
    pub chunks_draws : Draws b f.n every m.hints held
    chunks_draws = record { len = u.len; within = u.few; some = t.some; small = t.small; long = t.surveyed.mapped.hinted.long; few = t.surveyed.few }

    from_at : Messages s at u.chunk.cs f.chunk.over
    from_at = subst (λ (n : ℕ). Messages s n u.chunk.cs f.chunk.over) u.from u.chunk.messages

    drawn_hint : (y : ℕ) → Among b f.n y → Hint s stop y
    drawn_hint y a = rw a.is (record {
      good = in_all (u.each a.i a.within) (messages_good u.chunk.messages);
      among = λ xs w. rw (messages_same (messages_append (messages_append t.behind from_at) u.stretch.messages) w) at
          (in_append u.stretch.xs (in_behind t.ps (u.each a.i a.within)));
    })

    pub chunks_again : (c : ℕ) → c < 112 → (k : List ℕ) (r : ℕ) → Drawn b f.n m.hints held k r →
        Surveying s stop every (record { chunks = set m.chunks c f.chunk; hints = k; held = m.held; step = m.step }) b f.chunk.over r
    chunks_again c i k r d = record {
      ps = t.ps ++ u.chunk.cs;
      behind = messages_append t.behind from_at;
      stretch = u.stretch;
      surveyed = record {
        mapped = record {
          marked = record { long = length-set m.chunks c f.chunk ∙ t.surveyed.mapped.marked.long; each = λ j e h z. mark j e h z (ℕ_discrete j c) };
          hinted = record { long = d.long ∙ t.surveyed.mapped.hinted.long; each = λ j z. hint j z (d.each j) };
        };
        len = u.len;
        few = d.few;
        each = λ j z. one j z (dec_le held j);
      };
      some = t.some;
      small = t.small;
    }
      where
        mark : (j : ℕ) (e : Chunk) → j < 112 → ((get_or (set m.chunks c f.chunk) j e).from ≡ 0 → ⊥) → Dec (j ≡ c) → ChunkIs s stop (get_or (set m.chunks c f.chunk) j e)
        mark j e h z (yes q) = rw (q, get_or-set_same m.chunks c f.chunk e (omega (arith, t.surveyed.mapped.marked.long))) u.chunk
        mark j e h z (no q) =
            let g : get_or (set m.chunks c f.chunk) j e ≡ get_or m.chunks j e = get_or-set_other m.chunks c j f.chunk e q in
            rw g (t.surveyed.mapped.marked.each j e h (λ y. z (ap (λ (x : Chunk). x.from) g ∙ y)))

        hint : (j : ℕ) → j < 960 → Drew b f.n (get_or m.hints j 0) (get_or k j 0) → HintAt s stop (get_or k j 0)
        hint j z (map.old e) = rw e (t.surveyed.mapped.hinted.each j z)
        hint j z (map.new a) = map.one (drawn_hint (get_or k j 0) a)

        one : (j : ℕ) → j < r → Dec (held ≤ j) → Hint s stop (get_or k j 0)
        one j z (yes e) = drawn_hint (get_or k j 0) (d.fresh j e z)
        one j z (no e) = rw (d.before j (omega arith)) (t.surveyed.each j (omega arith))

pub ruleset surveying = (chunks_start, chunks_done, chunks_some, chunks_starts, chunks_draws, chunks_again)

-- ---- line_up

module _ (s : Bytes) (stop : ℕ) (m : Map) (held : ℕ) (t : Lines s stop m held) where
  pub line_few : held ≤ length m.hints
  line_few = omega (arith, t.few, t.mapped.hinted.long)

  pub line_held : Held s (take held m.hints)
  line_held = record { each = λ k h. let e : k < held = omega (arith, length-take-le held m.hints line_few) in rw (get_or-take held m.hints k 0 e) (t.each k e).good }

  module _ (l : List ℕ) (f : FirstSorted s m.hints held l) where
    hints : All (λ (x : ℕ). Hint s stop x) (take held m.hints)
    hints = all_by (take held m.hints) (λ k h. let e : k < held = omega (arith, length-take-le held m.hints line_few) in rw (get_or-take held m.hints k 0 e) (t.each k e))

    each : (k : ℕ) → k < 960 → Dec (held ≤ k) → HintAt s stop (get_or l k 0)
    each k h (yes e) =
        let z : held + (k - held) ≡ k = omega arith in
        let q : get_or l k 0 ≡ get_or m.hints k 0 = rw (← z) (sym (get_or-drop held l (k - held) 0) ∙ ap (λ (y : List ℕ). get_or y (k - held) 0) f.rest ∙ get_or-drop held m.hints (k - held) 0) in
        rw q (t.mapped.hinted.each k h)
    each k h (no e) =
        let z : k < length (sorted s (take held m.hints)) = omega (arith, length_sorted s (take held m.hints), length-take-le held m.hints line_few) in
        rw (sym (get_or-take held l k 0 (omega arith)) ∙ ap (λ (y : List ℕ). get_or y k 0) f.is) (map.one (all_at (all_sorted s hints) k z))

    pub line_done : (step : ℕ) → Mapped s stop (record { chunks = m.chunks; hints = l; held = held; step = step })
    line_done step = record {
      marked = t.mapped.marked;
      hinted = record { long = f.long ∙ t.mapped.hinted.long; each = λ k h. each k h (dec_le held k) };
    }

pub ruleset lining = (line_few, line_held, line_done)
