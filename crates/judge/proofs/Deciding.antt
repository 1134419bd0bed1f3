-- From the least fault to what the fold says, and the counts of the messages.
use Prim.Native.Nat.{ℕ, ◌+◌, ◌<◌, ◌≤◌}
use mathlib.Core.Path.{◌≡◌, refl, sym, ap, ◌∙◌}
use mathlib.Core.List.{List, [], ◌∷◌, map}
use mathlib.Core.Bool.{Bool, true, false, cond}
use native.Mathlib.Omega.{arith}
use Rattle.order.specs.Comparison.{bytes}
use Rattle.order.specs.Map.{lookup}
use Rattle.change.specs.Change.{announce, withdraw}
use Rattle.change.specs.Difference as change
use Rattle.change.specs.Application.{apply, fits}
use Rattle.body.specs.declared.tag.Form.TheVariants.{Snapshot}
use Rattle.payload.specs.Content.{Bytes}
use Rattle.payload.specs.Valid.{IsMap}
use Rattle.payload.specs.Count.{announces, withdraws, sum_of}
use Rattle.message.specs.Hear.{Told}
use Rattle.message.specs.Take.{Taken, all, misfit, as_item, take}
use Rattle.heard.specs.Place.{size_at, announces_at, told_at, Payload, Messages, done, more}
use Rattle.sorting.specs.Sorted.{sorted}
use Rattle.batch.proofs.Keeping.{size_some, messages_ahead}
use Rattle.judge.specs.Walk.{least_fault, settled}
use Rattle.judge.proofs.Faults.{fault_in, least_fault_lem}
use Rattle.judge.proofs.Settled.{misfit≢all, taken_settled}

-- ---- the message that does not fit is one of them

pub record Misfit (s : Bytes) (at stop : ℕ) (t : Told) : Type 0 where
  pub told : t ≡ told_at s t.at
  pub payload : Payload s t.at
  pub from : at ≤ t.at
  pub within : t.at < stop

pub taken_misfit : (s : Bytes) {at stop : ℕ} {xs : List ℕ} (A : change.Snapshot Bytes Bytes) (t : Told) → Messages s at xs stop →
    take A (map (told_at s) xs) ≡ misfit t → Misfit s at stop t
unfolding take
taken_misfit s A t done e = misfit≢all (sym e)
taken_misfit s {stop = stop} A t (more {at = x} {xs = xs} p ms) e =
    go (fits bytes (lookup bytes (told_at s x).key A) (told_at s x).change) e (taken_misfit s (apply bytes A (as_item (told_at s x) ∷ [])) t ms)
  where
    here : told_at s x ≡ t → Misfit s x stop t
    here q = rw (← q) (record { told = refl; payload = p; from = omega arith; within = omega (arith, size_some s x p, messages_ahead ms) })

    go : (b : Bool) → cond b (take (apply bytes A (as_item (told_at s x) ∷ [])) (map (told_at s) xs)) (misfit (told_at s x)) ≡ misfit t →
        (take (apply bytes A (as_item (told_at s x) ∷ [])) (map (told_at s) xs) ≡ misfit t → Misfit s (x + size_at s x) stop t) → Misfit s x stop t
    go true h i = let m = i h in record { told = m.told; payload = m.payload; from = omega (arith, m.from); within = m.within }
    go false h i = here (cc)

-- ---- by the least fault, with `stop` for none

-- the message at r is the first that does not fit
pub record FirstMisfit (A : change.Snapshot Bytes Bytes) (s : Bytes) (xs : List ℕ) (r : ℕ) : Type 0 where
  pub taken : take A (map (told_at s) xs) ≡ misfit (told_at s r)
  pub payload : Payload s r

-- all messages are taken, and leave what they leave in message order
pub record AllTaken (A : change.Snapshot Bytes Bytes) (s : Bytes) (xs : List ℕ) : Type 0 where
  pub taken : take A (map (told_at s) xs) ≡ all (apply bytes A (settled s (sorted s xs)))

module _ (A : change.Snapshot Bytes Bytes) (s : Bytes) (xs : List ℕ) (at stop r : ℕ) (m : IsMap Snapshot A) (pos : 0 < at) (ms : Messages s at xs stop)
    (e : r ≡ least_fault A s 0 stop (sorted s xs)) where
  is_fault_lem : r ≡ fault_in stop (take A (map (told_at s) xs))
  is_fault_lem = e ∙ least_fault_lem s A stop m pos (omega arith) ms

  pub fault_found : r < stop → FirstMisfit A s xs r
  fault_found l = go (take A (map (told_at s) xs)) refl is_fault_lem
    where
      go : (k : Taken) → take A (map (told_at s) xs) ≡ k → r ≡ fault_in stop k → FirstMisfit A s xs r
      go (all B) h q = absurd (omega arith)
      go (misfit t) h q =
          let f = taken_misfit s A t ms h in
          record { taken = h ∙ ap misfit (f.told ∙ ap (told_at s) (sym q)); payload = rw q f.payload }

  pub no_fault : stop ≤ r → AllTaken A s xs
  no_fault l = go (take A (map (told_at s) xs)) refl is_fault_lem
    where
      go : (k : Taken) → take A (map (told_at s) xs) ≡ k → r ≡ fault_in stop k → AllTaken A s xs
      go (all B) h q = record { taken = h ∙ ap all (taken_settled s A B m pos ms h) }
      go (misfit t) h q = let f = taken_misfit s A t ms h in absurd (omega (arith, f.within))

-- ---- how many announce and withdraw; the counts as whoever counts defines them

module _ (s : Bytes) (count : List ℕ → ℕ) (count-end : count [] ≡ 0) where
  abbrev told_items : List ℕ → change.Delta Bytes Bytes
  told_items xs = map as_item (map (told_at s) xs)

  pub announced_told : ((x : ℕ) (xs : List ℕ) → count (x ∷ xs) ≡ cond (announces_at s x) 1 0 + count xs) → (xs : List ℕ) → count xs ≡ sum_of announces (told_items xs)
  announced_told h [] = count-end
  announced_told h (x ∷ xs) = rw (h x xs, announced_told h xs) (go (announces_at s x))
    where
      go : (f : Bool) → cond f 1 0 + sum_of announces (told_items xs) ≡ announces (cond f (announce []) (withdraw [])) + sum_of announces (told_items xs)
      go true = refl
      go false = refl

  pub withdrawn_told : ((x : ℕ) (xs : List ℕ) → count (x ∷ xs) ≡ cond (announces_at s x) 0 1 + count xs) → (xs : List ℕ) → count xs ≡ sum_of withdraws (told_items xs)
  withdrawn_told h [] = count-end
  withdrawn_told h (x ∷ xs) = rw (h x xs, withdrawn_told h xs) (go (announces_at s x))
    where
      go : (f : Bool) → cond f 0 1 + sum_of withdraws (told_items xs) ≡ withdraws (cond f (announce []) (withdraw [])) + sum_of withdraws (told_items xs)
      go true = refl
      go false = refl
