-- Laws of the two lent stores.
use Prim.Native.Nat.{ℕ, ◌+◌, ◌-◌, ◌≤◌}
use mathlib.Core.Path.{◌≡◌, sym, ap, ◌∙◌}
use mathlib.Core.List.{[], ◌++◌, append-nil}
use native.Mathlib.Omega.{arith}
use native.Mathlib.Nat.{zero-add}
use lib.ListN.{length, get_or, take, drop, length-take, length-drop, length-append, drop_of_length-le}
use lib.Seq.{sets, sets-eq, drop-drop, get_or-drop, take-length, take_all, take_at, drop_at}
use Rattle.body.specs.declared.tag.Form.TheVariants.{Delta}
use Rattle.payload.specs.Content.{Bytes}
use Rattle.payload.specs.Payload.{encode}
use Rattle.item.specs.declared.reading.Reading.TheVariants.{Withdrawn, Announced}
use Rattle.item.specs.Write.{writes}
use Rattle.walk.specs.Walk.{Runs, merged_as}
use Rattle.delta.specs.Answer.{difference_of}
use Rattle.delta.proofs.Answering.{runs_of, difference_is}
use Rattle.payload.specs.Written.{written_over}
use Rattle.history.specs.Push.{Pushes, laid}

-- ---- bytes moved down

-- what is ahead is as it was, and to store what is left of the part gives what to store all of it gives
pub record Down (s₀ : Bytes) (from len : ℕ) (s : Bytes) (k : ℕ) : Type 0 where
  pub within : from + len ≤ length s₀
  pub passed : k ≤ len
  pub same : length s ≡ length s₀
  pub ahead : drop k s ≡ drop k s₀
  pub left : sets s k (take (len - k) (drop (from + k) s₀)) ≡ sets s₀ 0 (take len (drop from s₀))

module _ (s₀ : Bytes) (from len : ℕ) (s : Bytes) (k : ℕ) (d : Down s₀ from len s k) where
  read : get_or s (from + k) 0 ≡ get_or s₀ (from + k) 0
  read =
      let e : from + k ≡ k + from = omega arith in
      rw e (sym (get_or-drop k s from 0) ∙ ap (λ (l : Bytes). get_or l from 0) d.ahead ∙ get_or-drop k s₀ from 0)

-- ---- a delta behind those that stay

module _ (old new : Bytes) (from kept : ℕ) (s : Bytes) (p : Pushes old new from kept s) where
  pub push_runs : Runs Withdrawn old Announced new
  push_runs = runs_of Withdrawn old Announced new p.inputs

  push_writes : writes Delta (merged_as Withdrawn old Announced new) ≡ difference_of old new
  unfolding encode
  push_writes = difference_is old new p.inputs

  module _ (m : Bytes) (e : m ≡ take kept (drop from s) ++ drop kept s) where
    front : length (take kept (drop from s)) ≡ kept
    front = simp (length-take, length-drop) (omega (arith, p.within))

    pub push_room : kept ≤ length m
    push_room = let l = length-append (take kept (drop from s)) (drop kept s) in rw e (omega (arith, l, front, length-drop kept s))

    pub push_laid : (q : Bytes) → q ≡ sets (take (length m - kept) (drop kept m)) 0 (writes Delta (merged_as Withdrawn old Announced new)) →
        take kept m ++ (q ++ drop (length m - kept) (drop kept m)) ≡ laid from kept (difference_of old new) s
    unfolding laid
    push_laid q f =
        let d : Bytes = difference_of old new in
        let t : take kept m ≡ take kept (drop from s) = rw e (take_at (take kept (drop from s)) (drop kept s) kept front) in
        let u : drop kept m ≡ drop kept s = rw e (drop_at (take kept (drop from s)) (drop kept s) kept front) in
        let l : 0 + length d ≤ length (drop kept s) = omega (arith, length-drop kept s, p.room) in
        let x : take (length m - kept) (drop kept m) ≡ drop kept m = take_all (length m - kept) (drop kept m) (omega (arith, length-drop kept m)) in
        let w : drop (length m - kept) (drop kept m) ≡ [] = drop_of_length-le (drop kept m) {i = length m - kept} (omega (arith, length-drop kept m)) in
        let v : q ≡ d ++ drop (kept + length d) s
        = f ∙ rw (x, u, push_writes) (sets-eq d (drop kept s) 0 l ∙ rw (zero-add, drop-drop (length d) kept s)) in
        rw (t, w, append-nil q, v)

pub ruleset pushing = (push_runs, push_room, push_laid)

-- ---- the current snapshot

pub held_is : (new s q : Bytes) → length new ≤ length s → q ≡ sets s 0 (take (length new - 0) (drop 0 new)) → q ≡ written_over new s
held_is new s q h e =
    let z : length new - 0 ≡ length new = omega arith in
    let l : 0 + length new ≤ length s = omega arith in
    e ∙ rw (z, take-length new) (sets-eq new s 0 l ∙ rw zero-add)

pub ruleset holding = (held_is)
