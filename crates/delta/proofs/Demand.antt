-- Demand 3, first part: what the answers of the three entries come to for good snapshots A, B and C within their limit.
use Rattle.delta.specs.Answer.{Constructed}
use Prim.Native.Nat.{ℕ, ◌+◌, ◌≤◌}
use mathlib.Core.Path.{◌≡◌, refl, sym, ap, ◌∙◌}
use mathlib.Core.List.{[], ◌∷◌}
use mathlib.Core.Bool.{Bool, true, false, cond}
use lib.Dec.{leb, eqb}
use native.Mathlib.Omega.{arith}
use borrow.Author.Tests.{le-leb, eq-eqb, ne_eqb, eqb-true}
use lib.ListN.{length}
use Rattle.order.proofs.Never.{never}
use Rattle.order.proofs.Comparison.{strings}
use Rattle.change.proofs.Whole.{compose}
use Rattle.serial.specs.declared.Serial.{Serial}
use Rattle.serial.specs.Serial.{next_of}
use Rattle.number.specs.Bytes.{AllBytes}
use Rattle.body.specs.declared.tag.Form.{Form}
use Rattle.body.specs.declared.tag.Form.TheVariants.{Snapshot, Delta}
use Rattle.field.specs.Verdict.{verdict}
use Rattle.payload.specs.Content.{Bytes}
use Rattle.payload.specs.Written.{written_over}
use Rattle.payload.specs.Limit.{limit}
use Rattle.payload.specs.Valid.{IsMap}
use Rattle.payload.specs.Payload.{encode, items, changes}
use Rattle.payload.proofs.Closed.{merge_map}
use Rattle.payload.proofs.Faithful.{faithful}
use Rattle.payload.proofs.Sizes.{diff_length}
use Rattle.delta.specs.declared.refusal.Refusal.{Refusal}
use Rattle.delta.specs.declared.refusal.Refusal.TheVariants.{NoRoom, TooLong}
use Rattle.delta.specs.declared.refusal.Refusal.TheVariants as refusal
use Rattle.item.specs.declared.sink.Counts.{Counts}
use Rattle.delta.specs.Refusal.{number_of}
use Rattle.delta.specs.Admission.{verdict_admitted, and_then, admit_of}
use Rattle.delta.specs.Answer.{difference_of, merged_of, applied_of, counts_of, out_after, construct_at, construct_of, construct_out, merge_of, merge_out, apply_admitted, apply_of, apply_out}
use Rattle.delta.specs.Demand.{GoodSnapshot, Acceptable, Demand}
use Rattle.delta.proofs.Answering.{admitted_inputs}
use Rattle.delta.proofs.Differences.{good_map, difference_fine, difference_says, difference_fits, difference_yields, difference_empty, difference_self}
use Rattle.delta.specs.Admission.{Admitted}
use Rattle.std.specs.Prelude.{Err, Ok, None, Some}
use Rattle.field.specs.declared.verdict.Flaw.TheVariants as flaw
use Rattle.field.specs.Verdict.{Verdict}

-- good bytes within their limits are admitted
admitted : (f : Form) (a : Bytes) (g : Form) (b : Bytes) → length a ≤ limit f → length b ≤ limit g → verdict f a ≡ Ok tt → verdict g b ≡ Ok tt → admit_of f a g b ≡ Ok tt
admitted f a g b h k x y = rw (le-leb (length a) (limit f) h, le-leb (length b) (limit g) k, x, y)

-- an answer that fits, then the output as it was
out_whole : (d o : Bytes) → length d ≤ length o → out_after (Ok tt) d o ≡ written_over d o
out_whole d o h = rw (le-leb (length d) (length o) h)

pub no_bytes : (s : Bytes) → length s ≡ 0 → s ≡ []
no_bytes [] e = refl
no_bytes (x ∷ s) e = absurd (omega arith)

-- "no change" is answered for an empty difference alone
empty_of : (n room : ℕ) (s : Serial) (k : Counts) →
    ◌≡◌ {A = Constructed} (cond (eqb n 0) (Ok None) (cond (leb n room) (Ok (Some (s, k))) (Err NoRoom))) (Ok None) → n ≡ 0
empty_of n room s k = go (eqb n 0) refl (leb n room)
  where
    go : (t : Bool) → eqb n 0 ≡ t → (w : Bool) → ◌≡◌ {A = Constructed} (cond t (Ok None) (cond w (Ok (Some (s, k))) (Err NoRoom))) (Ok None) → n ≡ 0
    go true e w h = eqb-true n 0 e
    go false e true h = never cc
    go false e false h = never cc

map_of : (s : Bytes) → Acceptable s → IsMap Snapshot (items s)
map_of s i = good_map s i.good

-- a difference is no longer than both snapshots together
pub difference_length : (A B : Bytes) → GoodSnapshot A → GoodSnapshot B → length (difference_of A B) ≤ length A + length B
unfolding difference_of
difference_length A B a b =
    let p : encode Snapshot (items A) ≡ A = (faithful Snapshot).bytes_back A a.octets a.fine in
    let q : encode Snapshot (items B) ≡ B = (faithful Snapshot).bytes_back B b.octets b.fine in
    omega (arith, diff_length (items A) (items B), ap length p, ap length q)

module _ (A B : Bytes) (a : Acceptable A) (b : Acceptable B) where
  pub difference_short : length (difference_of A B) ≤ limit Delta
  difference_short = omega (arith, difference_length A B a.good b.good, a.short, b.short)

  yes : admit_of Snapshot A Snapshot B ≡ Ok tt
  yes = admitted Snapshot A Snapshot B a.short b.short a.good.fine b.good.fine

  -- construct answers "no change" exactly for equal snapshots, and then writes nothing
  pub same_no_change : (serial : Serial) (room : ℕ) → A ≡ B → construct_of A B serial room ≡ Ok None
  unfolding construct_of
  same_no_change serial room e =
      let z : length (difference_of A B) ≡ 0 = ap (λ (s : Bytes). length (difference_of A s)) (sym e) ∙ ap length (difference_self A a.good) in
      rw (yes, eq-eqb (length (difference_of A B)) 0 z)

  pub no_change_same : (serial : Serial) (room : ℕ) → construct_of A B serial room ≡ Ok None → A ≡ B
  unfolding construct_of
  no_change_same serial room h = difference_empty A B a.good b.good (no_bytes (difference_of A B) (empty_of (length (difference_of A B)) room (next_of serial) (counts_of (difference_of A B)) (rw yes at h)))

  -- else, with room, it writes the difference, with its length, its counts of tags and the serial after
  pub constructs : (serial : Serial) (room : ℕ) → ¬ (A ≡ B) → length (difference_of A B) ≤ room →
      construct_of A B serial room ≡ Ok (Some (next_of serial, counts_of (difference_of A B)))
  unfolding construct_of
  constructs serial room n h =
      let z : length (difference_of A B) ≡ 0 → ⊥ = λ e. n (difference_empty A B a.good b.good (no_bytes (difference_of A B) e)) in
      rw (yes, ne_eqb (length (difference_of A B)) 0 z, le-leb (length (difference_of A B)) room h)

  pub construct_writes : (out : Bytes) → length (difference_of A B) ≤ length out → construct_out A B out ≡ written_over (difference_of A B) out
  unfolding construct_out
  construct_writes out h = rw yes (out_whole (difference_of A B) out h)

  -- the difference can be applied to the old snapshot, never with refusal 3, and yields the new one
  fitting : apply_admitted A (difference_of A B) ≡ Ok tt
  fitting =
      rw (
        admitted Snapshot A Delta (difference_of A B) a.short difference_short a.good.fine (difference_fine A B a.good b.good),
        difference_fits A B a.good b.good,
      )

  pub applies_to_old : (room : ℕ) → length B ≤ room → apply_of A (difference_of A B) room ≡ Ok (length B)
  unfolding apply_of
  applies_to_old room h = rw (fitting, difference_yields A B a.good b.good, le-leb (length B) room h)

  pub yields_new : (out : Bytes) → length B ≤ length out → apply_out A (difference_of A B) out ≡ written_over B out
  unfolding apply_out
  yields_new out h = rw (fitting, difference_yields A B a.good b.good) (out_whole B out h)

module _ (A B C : Bytes) (a : Acceptable A) (b : Acceptable B) (c : Acceptable C) where
  -- the bytes of A→B and of B→C, merged, are the bytes of A→C
  pub merged_composes : merged_of (difference_of A B) (difference_of B C) ≡ difference_of A C
  unfolding merged_of difference_of
  merged_composes =
      rw (difference_says A B a.good b.good, difference_says B C b.good c.good)
      (ap (encode Delta) (compose strings strings (items A) (items B) (items C) (map_of A a).sorted (map_of B b).sorted (map_of C c).sorted))

  yes_both : admit_of Delta (difference_of A B) Delta (difference_of B C) ≡ Ok tt
  yes_both =
      admitted Delta (difference_of A B) Delta (difference_of B C) (difference_short A B a b) (difference_short B C b c)
      (difference_fine A B a.good b.good) (difference_fine B C b.good c.good)

  -- and merge answers so
  pub merges : (serial : Serial) (room : ℕ) → length (difference_of A C) ≤ room →
      merge_of (difference_of A B) (difference_of B C) serial room ≡ Ok (serial, counts_of (difference_of A C))
  unfolding merge_of
  merges serial room h = rw (yes_both, merged_composes, le-leb (length (difference_of A C)) room h)

  pub merge_writes : (out : Bytes) → length (difference_of A C) ≤ length out →
      merge_out (difference_of A B) (difference_of B C) out ≡ written_over (difference_of A C) out
  unfolding merge_out
  merge_writes out h = rw (yes_both, merged_composes) (out_whole (difference_of A C) out h)

  -- so the merged delta, applied to A, gives C byte for byte
  pub merged_yields : (out : Bytes) → length C ≤ length out → apply_out A (merged_of (difference_of A B) (difference_of B C)) out ≡ written_over C out
  merged_yields out h = rw merged_composes (yields_new A C a c out h)

-- the merge of two good deltas is a good delta
pub merged_fine : (D F : Bytes) → verdict Delta D ≡ Ok tt → verdict Delta F ≡ Ok tt → verdict Delta (merged_of D F) ≡ Ok tt
unfolding merged_of
merged_fine D F d f = (faithful Delta).good_bytes _ (merge_map (changes D) (changes F) ((faithful Delta).map_of D d) ((faithful Delta).map_of F f))

-- ---- refusal 4 comes for want of room alone

-- two answers or numbers that differ: from them anything follows

-- no refusal of an input is 4
input_four : (f : Form) (a : Bytes) (g : Form) (b : Bytes) (r : Refusal) → admit_of f a g b ≡ Err r → ¬ (number_of r ≡ 4)
input_four f a g b r = go (leb (length a) (limit f)) (leb (length b) (limit g)) (verdict f a) (verdict g b)
  where
    other : (q : Refusal) → ◌≡◌ {A = Admitted} (Err q) (Err r) → ¬ (number_of q ≡ 4) → ¬ (number_of r ≡ 4)
    other q e n m = let s : q ≡ r = cc in n (ap number_of s ∙ m)

    go : (t u : Bool) (v w : Verdict) →
        and_then (cond t (Ok tt) (Err (TooLong 1))) (and_then (cond u (Ok tt) (Err (TooLong 2))) (and_then (verdict_admitted 1 v) (verdict_admitted 2 w))) ≡ Err r → ¬ (number_of r ≡ 4)
    go false u v w e = other (TooLong 1) e (λ (n : 10 ≡ 4). omega arith)
    go true false v w e = other (TooLong 2) e (λ (n : 10 ≡ 4). omega arith)
    go true true (Err (flaw.Bad at)) w e = other (refusal.Bad 1 at) e (λ (n : 1 ≡ 4). omega arith)
    go true true (Err (flaw.Senseless at)) w e = other (refusal.Senseless 1 at) e (λ (n : 12 ≡ 4). omega arith)
    go true true (Err (flaw.NotAbove at)) w e = other (refusal.NotAbove 1 at) e (λ (n : 2 ≡ 4). omega arith)
    go true true (Ok _) (Ok _) e = never cc
    go true true (Ok tt) (Err (flaw.Bad at)) e = other (refusal.Bad 2 at) e (λ (n : 1 ≡ 4). omega arith)
    go true true (Ok tt) (Err (flaw.Senseless at)) e = other (refusal.Senseless 2 at) e (λ (n : 12 ≡ 4). omega arith)
    go true true (Ok tt) (Err (flaw.NotAbove at)) e = other (refusal.NotAbove 2 at) e (λ (n : 2 ≡ 4). omega arith)

-- with as much room as two inputs take together, construct never refuses any of them with 4
pub enough_room : (A B : Bytes) → AllBytes A → AllBytes B → (serial : Serial) (room : ℕ) (r : Refusal) → length A + length B ≤ room →
    construct_of A B serial room ≡ Err r → ¬ (number_of r ≡ 4)
unfolding construct_of
enough_room A B a b serial room r h = go (admit_of Snapshot A Snapshot B) refl
  where
    written : (t u : Bool) → u ≡ true →
        ◌≡◌ {A = Constructed} (cond t (Ok None) (cond u (Ok (Some (next_of serial, counts_of (difference_of A B)))) (Err NoRoom))) (Err r) → ⊥
    written true u f e = never cc
    written false true f e = never cc
    written false false f e = never cc

    go : (x : Admitted) → admit_of Snapshot A Snapshot B ≡ x → construct_at x (difference_of A B) serial room ≡ Err r → ¬ (number_of r ≡ 4)
    go (Err q) e f n = let s : q ≡ r = cc in input_four Snapshot A Snapshot B q e (ap number_of s ∙ n)
    go (Ok tt) e f n =
        let i = admitted_inputs Snapshot A Snapshot B e in
        let l = difference_length A B (record { octets = a; fine = i.fine_a }) (record { octets = b; fine = i.fine_b }) in
        absurd (written (eqb (length (difference_of A B)) 0) (leb (length (difference_of A B)) room) (le-leb (length (difference_of A B)) room (omega arith)) f)

-- so it is in the program, which lends 65,536 bytes for two inputs of at most 32,768
pub program_room : (A B : Bytes) → AllBytes A → AllBytes B → length A ≤ 32_768 → length B ≤ 32_768 → (serial : Serial) (r : Refusal) →
    construct_of A B serial 65_536 ≡ Err r → ¬ (number_of r ≡ 4)
program_room A B a b h k serial r = enough_room A B a b serial 65_536 r (omega arith)

-- the difference is refused on the old snapshot for want of room alone
applies_but_room : (A B : Bytes) → Acceptable A → Acceptable B → (room : ℕ) (r : Refusal) → apply_of A (difference_of A B) room ≡ Err r → number_of r ≡ 4
unfolding apply_of
applies_but_room A B a b room r e =
    go (leb (length (applied_of A (difference_of A B))) room) (rw (fitting A B a b) at e)
  where
    go : (t : Bool) → cond t (Ok (length (applied_of A (difference_of A B)))) (Err NoRoom) ≡ Err r → number_of r ≡ 4
    go true e = never cc
    go false e = let q : NoRoom ≡ r = cc in sym (ap number_of q)

-- ---- all of it

pub demand : Demand
demand = record {
  composes = merged_composes;
  merges = λ A B C a b c serial out h. (merges A B C a b c serial (length out) h, merge_writes A B C a b c out h);
  applies = applies_but_room;
  yields = λ A B a b out h. (applies_to_old A B a b (length out) h, yields_new A B a b out h);
  merged_yields = λ A B C a b c out h. (rw (merged_composes A B C a b c) (applies_to_old A C a c (length out) h), merged_yields A B C a b c out h);
  no_change = λ A B a b serial room. (no_change_same A B a b serial room, same_no_change A B a b serial room);
  nothing_written = λ A a out. construct_writes A A a a out (rw (difference_self A a.good) (omega arith)) ∙ rw (difference_self A a.good);
  constructs = λ A B a b n serial out h. (constructs A B a b serial (length out) n h, construct_writes A B a b out h);
  enough = enough_room;
  good_difference = λ A B a b. (difference_fine A B a.good b.good, difference_short A B a b);
  good_merge = merged_fine;
}
