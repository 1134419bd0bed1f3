-- Laws of the loop over batches for the least fault.
use Prim.Native.Nat.{ℕ, ◌+◌, ◌<◌, ◌≤◌}
use mathlib.Core.Path.{◌≡◌, refl, sym, ap, ◌∙◌}
use mathlib.Core.List.{List, [], ◌++◌, append-nil}
use mathlib.Core.Bool.{true, false}
use native.Mathlib.Omega.{arith}
use lib.ListN.{length, take, drop, take-append-drop, length-drop, length-take}
use lib.Seq.{take_all}
use Rattle.payload.specs.Content.{Bytes}
use Rattle.payload.specs.Payload.{items}
use Rattle.batch.specs.declared.next.Batch.{Batch}
use Rattle.batch.specs.Next.{left, NextIs}
use Rattle.judge.specs.declared.check.Check.{Check}
use Rattle.judge.specs.Walk.{least_fault}
use Rattle.batch.specs.Keep.{Told, Bound}
use Rattle.batch.specs.Keep as keep
use Rattle.batch.specs.declared.map.Map.{Map}
use Rattle.batch.specs.Map.{Mapped}
pub use Rattle.judge.specs.State.{offsets}
use Rattle.judge.specs.State.{ordered, Given, Charted, Last, no, one, last_of, Checked, Checks, Chain}
use Rattle.judge.proofs.Leaving.{chain_left, left_on, left_all_lem, chain_take}

-- what is left behind a message
abbrev pub left_at : Bytes → ℕ → ℕ → List ℕ
left_at s stop last = left s last (offsets s stop)

last_bound : (s : Bytes) (last : ℕ) → Last s last → Bound s last
last_bound s last no = keep.none refl
last_bound s last (one p h) = keep.one p

-- ---- a batch

module _ (a s : Bytes) (stop : ℕ) (g : Given a s stop) (last : ℕ) where
  pub given_told : Last s last → Told s stop last
  given_told l = record { xs = offsets s stop; messages = g.messages; bound = last_bound s last l }

  module _ (buf : List ℕ) (r : Batch) (n : NextIs s stop last buf r) where
    pub next_is : take r.n buf ≡ take r.n (left_at s stop last)
    next_is = n.is (offsets s stop) g.messages

    pub next_chain : Chain s last (take r.n buf)
    next_chain = rw next_is (chain_take s last r.n (left_at s stop last) (chain_left s g.messages last))

    pub next_room : length buf ≡ 6000 → r.n ≤ length buf
    next_room e = omega (arith, n.room)

    -- it and what is left behind it are what was left
    pub next_all : r.over ≡ true → left_at s stop last ≡ take r.n buf ++ []
    next_all o = sym (append-nil (take r.n buf) ∙ next_is ∙ take_all r.n (left_at s stop last) (omega (arith, n.all (offsets s stop) g.messages o)))

    pub whole : left_at s stop last ≡ take r.n buf ++ drop r.n (left_at s stop last)
    whole = rw next_is (sym (take-append-drop r.n (left_at s stop last)))

    module _ (o : r.over ≡ false) where
      sizes : length (left_at s stop last) ≡ r.n + length (drop r.n (left_at s stop last))
      sizes = omega (arith, length-drop r.n (left_at s stop last), n.within (offsets s stop) g.messages)

      took : length (take r.n buf) ≡ r.n
      took = rw next_is (length_front (left_at s stop last) r.n (n.within (offsets s stop) g.messages))
        where
          length_front : (l : List ℕ) (n : ℕ) → n ≤ length l → length (take n l) ≡ n
          length_front l n h = omega (arith, length-take n l)

      behind : left_at s stop (last_of last (take r.n buf)) ≡ drop r.n (left_at s stop last)
      behind = left_on s g.messages last (take r.n buf) (drop r.n (left_at s stop last)) (omega (arith, took, n.some o)) whole

      pub next_on : left_at s stop last ≡ take r.n buf ++ left_at s stop (last_of last (take r.n buf))
      next_on = whole ∙ ap (λ (l : List ℕ). take r.n buf ++ l) (sym behind)

      pub next_less : length (left_at s stop (last_of last (take r.n buf))) < length (left_at s stop last)
      next_less = omega (arith, ap length behind, sizes, n.some o)

-- ---- least_fault

pub record Faulting (a s : Bytes) (stop : ℕ) (m : Map) (buf : List ℕ) (c : Check) : Type 0 where
  pub charted : Charted a s stop m buf
  pub checked : Checked a s c
  pub same : least_fault (items a) s 0 stop (ordered s stop) ≡ least_fault (items a) s c.last c.least (left_at s stop c.last)

pub faulting_start : (a s : Bytes) (stop : ℕ) (m : Map) (buf : List ℕ) → Charted a s stop m buf → Faulting a s stop m buf (record { last = 0; field = 0; least = stop })
faulting_start a s stop m buf g = record {
  charted = g;
  checked = record { ready = g.given.ready; last = no; held = λ k b. refl };
  same = ap (least_fault (items a) s 0 stop) (sym (left_all_lem s (offsets s stop)));
}

module _ (a s : Bytes) (stop : ℕ) (m : Map) (b₀ : List ℕ) (c : Check) (h : Faulting a s stop m b₀ c) where
  abbrev given : Given a s stop
  given = h.charted.given

  pub faulting_mapped : Mapped s stop m
  faulting_mapped = h.charted.mapped

  pub faulting_told : Told s stop c.last
  faulting_told = given_told a s stop given c.last h.checked.last

  pub faulting_checked : Checked a s c
  faulting_checked = h.checked

  pub faulting_len : length b₀ ≡ 6000
  faulting_len = h.charted.len

  module _ (buf : List ℕ) (r : Batch) (n : NextIs s stop c.last buf r) where
    pub faulting_chain : Chain s c.last (take r.n buf)
    faulting_chain = next_chain a s stop given c.last buf r n

    pub faulting_room : length buf ≡ 6000 → r.n ≤ length buf
    faulting_room = next_room a s stop given c.last buf r n

    module _ (d : Check) (k : Checks a s c (take r.n buf) d) where
      pub faulting_end : r.over ≡ true → d.least ≡ least_fault (items a) s 0 stop (ordered s stop)
      unfolding least_fault
      faulting_end o = sym (h.same ∙ ap (least_fault (items a) s c.last c.least) (next_all a s stop given c.last buf r n o) ∙ k.same [])

      pub faulting_again : length buf ≡ 6000 → r.over ≡ false → Faulting a s stop m buf d
      faulting_again e o = record {
        charted = record { given = given; mapped = faulting_mapped; len = e };
        checked = k.checked;
        same = h.same ∙ ap (least_fault (items a) s c.last c.least) (next_on a s stop given c.last buf r n o)
            ∙ k.same (left_at s stop (last_of c.last (take r.n buf))) ∙ ap (λ (l : ℕ). least_fault (items a) s d.last d.least (left_at s stop l)) (sym k.last);
      }

      pub faulting_less : r.over ≡ false → length (left_at s stop d.last) < length (left_at s stop c.last)
      faulting_less o = rw k.last (next_less a s stop given c.last buf r n o)

pub ruleset faulting = (faulting_start, faulting_told, faulting_mapped, faulting_checked, faulting_len, faulting_chain, faulting_room, faulting_end, faulting_again, faulting_less)
