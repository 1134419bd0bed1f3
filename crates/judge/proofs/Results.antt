-- What all messages leave: a good snapshot, by the last word on each key, with our ASPAs.
use Prim.Native.Nat.{ℕ}
use mathlib.Core.Path.{◌≡◌, refl, sym, ap, ◌∙◌}
use mathlib.Core.List.{List, [], ◌∷◌, map}
use mathlib.Core.Option.{Option, none, some}
use mathlib.Core.Bool.{Bool, true, false, not, cond}
use lib.ListN.{get_or}
use Rattle.std.specs.declared.cmp.Ordering.{Ordering}
use Rattle.std.specs.declared.cmp.Ordering.TheVariants.{Less, Equal, Greater}
use Rattle.order.specs.Comparison.{bytes}
use Rattle.order.specs.Map.{Item, All, own, lookup, Sorted}
use Rattle.order.proofs.Comparison.{strings}
use Rattle.order.proofs.Map.{ext}
use Rattle.change.specs.Change.{Change}
use Rattle.change.specs.Difference as change
use Rattle.change.specs.Difference.{diff}
use Rattle.change.specs.Application.{apply_at, apply, fits, fits_at, Applies}
use Rattle.change.proofs.Whole.{apply_sorted, apply_lookup, diff_sorted, applies, yields}
use Rattle.number.specs.Bytes.{AllBytes}
use Rattle.body.specs.declared.tag.Form.TheVariants.{Snapshot}
use Rattle.payload.specs.Content.{Bytes}
use Rattle.payload.specs.Valid.{IsMap}
use Rattle.payload.specs.Payload.{encode, items, changes}
use Rattle.payload.proofs.Closed.{apply_map}
use Rattle.payload.proofs.Faithful.{faithful, entries_end}
use Rattle.delta.specs.Answer.{difference_of}
use Rattle.delta.specs.Demand.{GoodSnapshot}
use Rattle.delta.proofs.Differences.{good_map, difference_says, empty_good}
use Rattle.message.specs.declared.version.Version.{Version}
use Rattle.message.specs.Version.{speaks}
use Rattle.message.specs.Say.{kind_in, spoken}
use Rattle.message.specs.Hear.{Told, hear}
use Rattle.message.specs.Take.{all, misfit, as_item, take}
use Rattle.message.proofs.Taking.{take_applies, one_lookup, one_sorted}
use Rattle.message.proofs.Telling.{not_aspa, Tells, tells_map, hear_tells}
use Rattle.message.proofs.Spoken.{kept, kept_lookup, kept_sorted, spoken_lookup, spoken_sorted}
use Rattle.judge.specs.Promise.{later, last_word, unspoken, Leave, Say, LeadOn, Outcome, Promise}
use Rattle.judge.proofs.Octets.{ItemBytes, encode_bytes, items_bytes, TellsBytes, taken_bytes, hear_told}
use Rattle.judge.proofs.Settled.{misfit≢all, two_changes}

-- ---- along the fold

-- a property of a snapshot that each message keeps stands at the end
module _ (P : change.Snapshot Bytes Bytes → Type 0) (Q : Told → Type 0) (step : (A : change.Snapshot Bytes Bytes) (t : Told) → Q t → P A → P (apply bytes A (as_item t ∷ []))) where
  taken_keeps : (A B : change.Snapshot Bytes Bytes) (ts : List Told) → All Q ts → P A → take A ts ≡ all B → P B
  unfolding take
  taken_keeps A B [] q p e = let r : A ≡ B = cc in rw (← r) p
  taken_keeps A B (t ∷ ts) q p e = go (fits bytes (lookup bytes t.key A) t.change) e (taken_keeps (apply bytes A (as_item t ∷ [])) B ts q.1 (step A t q.0 p))
    where
      go : (b : Bool) → cond b (take (apply bytes A (as_item t ∷ [])) ts) (misfit t) ≡ all B → (take (apply bytes A (as_item t ∷ [])) ts ≡ all B → P B) → P B
      go true h i = i h
      go false h i = misfit≢all h

taken_map : (A B : change.Snapshot Bytes Bytes) (ts : List Told) → All Tells ts → IsMap Snapshot A → take A ts ≡ all B → IsMap Snapshot B
taken_map = taken_keeps (IsMap Snapshot) Tells (λ A t q m. apply_map A (as_item t ∷ []) m (tells_map t q))

-- ---- the last word

pub taken_word : (k : Bytes) (A B : change.Snapshot Bytes Bytes) (ts : List Told) → Sorted bytes A → take A ts ≡ all B →
    lookup bytes k B ≡ apply_at (lookup bytes k A) (last_word k ts)
unfolding take
taken_word k A B [] s e = let r : A ≡ B = cc in rw (← r)
taken_word k A B (t ∷ ts) s e = go (fits bytes (lookup bytes t.key A) t.change) e (taken_word k (apply bytes A (as_item t ∷ [])) B ts (one_sorted A (as_item t) s))
  where
    word : Option (Change Bytes)
    word = own (bytes k t.key) (some t.change) none

    go : (b : Bool) → cond b (take (apply bytes A (as_item t ∷ [])) ts) (misfit t) ≡ all B →
        (take (apply bytes A (as_item t ∷ [])) ts ≡ all B → lookup bytes k B ≡ apply_at (lookup bytes k (apply bytes A (as_item t ∷ []))) (last_word k ts)) →
        lookup bytes k B ≡ apply_at (lookup bytes k A) (later (last_word k ts) word)
    go true h i = i h ∙ ap (λ (o : Option Bytes). apply_at o (last_word k ts)) (one_lookup A (as_item t) s k) ∙ two_changes (lookup bytes k A) word (last_word k ts)
    go false h i = misfit≢all h

-- there is none on an ASPA
no_word : (k : Bytes) (ts : List Told) → All Tells ts → get_or k 0 0 ≡ 3 → last_word k ts ≡ none
no_word k [] h e = refl
no_word k (t ∷ ts) h e = rw (no_word k ts h.1 e) (go (bytes k t.key) refl)
  where
    go : (o : Ordering) → bytes k t.key ≡ o → own o (some t.change) none ≡ none
    go Less c = refl
    go Equal c = absurd (not_aspa h.0.router (rw (strings.same k t.key c) at e))
    go Greater c = refl

-- ---- accepted as written

module _ {A : Type 0} (v : Version) where
  unspoken_kept : (D : List (Item Bytes A)) → unspoken v D ≡ kept (λ (kind : ℕ). not (speaks v kind)) D
  unfolding unspoken
  unspoken_kept [] = refl
  unspoken_kept (x ∷ D) = go (speaks v (kind_in x)) (unspoken_kept D)
    where
      go : (b : Bool) → unspoken v D ≡ kept (λ (kind : ℕ). not (speaks v kind)) D →
          cond b (unspoken v D) (x ∷ unspoken v D) ≡ cond (not b) (x ∷ kept (λ (kind : ℕ). not (speaks v kind)) D) (kept (λ (kind : ℕ). not (speaks v kind)) D)
      go true i = i
      go false i = ap (λ (r : List (Item Bytes A)). x ∷ r) i

  unspoken_lookup : (k : Bytes) (D : List (Item Bytes A)) → lookup bytes k (unspoken v D) ≡ cond (not (speaks v (get_or k 0 0))) (lookup bytes k D) none
  unspoken_lookup k D = rw (unspoken_kept D) (kept_lookup (λ (kind : ℕ). not (speaks v kind)) k D)

  unspoken_sorted : (D : List (Item Bytes A)) → Sorted bytes D → Sorted bytes (unspoken v D)
  unspoken_sorted D s = rw (unspoken_kept D) (kept_sorted (λ (kind : ℕ). not (speaks v kind)) D s)

module _ (v : Version) (A C : change.Snapshot Bytes Bytes) (s : Sorted bytes A) (t : Sorted bytes C) where
  abbrev D : change.Delta Bytes Bytes
  D = spoken v (diff bytes bytes A C)

  D-sorted : Sorted bytes D
  D-sorted = spoken_sorted v (diff bytes bytes A C) (diff_sorted strings strings A C s t)

  D-applies : Applies bytes bytes A D
  D-applies k = rw (spoken_lookup v k (diff bytes bytes A C)) (go (speaks v (get_or k 0 0)))
    where
      go : (b : Bool) → fits_at bytes (lookup bytes k A) (cond b (lookup bytes k (diff bytes bytes A C)) none) ≡ true
      go true = applies strings strings A C s t k
      go false = refl

  -- what the spoken part of a difference leaves: the new where it speaks, else the old
  onward_lookup : (k : Bytes) → lookup bytes k (apply bytes A D) ≡ cond (speaks v (get_or k 0 0)) (lookup bytes k C) (lookup bytes k A)
  onward_lookup k =
      rw (apply_lookup strings strings A D s D-sorted k, spoken_lookup v k (diff bytes bytes A C)) (go (speaks v (get_or k 0 0)))
    where
      whole : apply_at (lookup bytes k A) (lookup bytes k (diff bytes bytes A C)) ≡ lookup bytes k C
      whole = sym (apply_lookup strings strings A (diff bytes bytes A C) s (diff_sorted strings strings A C s t) k) ∙ ap (lookup bytes k) (yields strings strings A C s t)

      go : (b : Bool) → apply_at (lookup bytes k A) (cond b (lookup bytes k (diff bytes bytes A C)) none) ≡ cond b (lookup bytes k C) (lookup bytes k A)
      go true = whole
      go false = refl

  onward_sorted : Sorted bytes (apply bytes A D)
  onward_sorted = apply_sorted strings strings A D s D-sorted

  pub onward_spoken : spoken v (apply bytes A D) ≡ spoken v C
  onward_spoken =
      ext strings _ _ (spoken_sorted v (apply bytes A D) onward_sorted) (spoken_sorted v C t)
      (λ k. rw (spoken_lookup v k (apply bytes A D), spoken_lookup v k C, onward_lookup k) (go (speaks v (get_or k 0 0)) (lookup bytes k C) (lookup bytes k A)))
    where
      go : (b : Bool) (c a : Option Bytes) → cond b (cond b c a) none ≡ cond b c none
      go true c a = refl
      go false c a = refl

  pub onward_unspoken : unspoken v (apply bytes A D) ≡ unspoken v A
  onward_unspoken =
      ext strings _ _ (unspoken_sorted v (apply bytes A D) onward_sorted) (unspoken_sorted v A s)
      (λ k. rw (unspoken_lookup v k (apply bytes A D), unspoken_lookup v k A, onward_lookup k) (go (speaks v (get_or k 0 0)) (lookup bytes k C) (lookup bytes k A)))
    where
      go : (b : Bool) (c a : Option Bytes) → cond (not b) (cond b c a) none ≡ cond (not b) a none
      go true c a = refl
      go false c a = refl

  -- all of the new, if both have the same beside
  pub onward_whole : unspoken v A ≡ unspoken v C → apply bytes A D ≡ C
  onward_whole e =
      ext strings _ _ onward_sorted t (λ k. onward_lookup k ∙ go k (speaks v (get_or k 0 0)) refl)
    where
      beside : (k : Bytes) → cond (not (speaks v (get_or k 0 0))) (lookup bytes k A) none ≡ cond (not (speaks v (get_or k 0 0))) (lookup bytes k C) none
      beside k = sym (unspoken_lookup v k A) ∙ ap (lookup bytes k) e ∙ unspoken_lookup v k C

      go : (k : Bytes) (b : Bool) → speaks v (get_or k 0 0) ≡ b → cond b (lookup bytes k C) (lookup bytes k A) ≡ lookup bytes k C
      go k true q = refl
      go k false q = rw q at (beside k)

  -- messages that say it are all taken
  pub onward_taken : (ts : List Told) → map as_item ts ≡ D → take A ts ≡ all (apply bytes A D)
  onward_taken ts e =
      take_applies A ts s (rw e D-sorted) (rw e D-applies) ∙ ap (λ (d : change.Delta Bytes Bytes). all (apply bytes A d)) e

-- from nothing, it leaves what it says
pub onward_full : (v : Version) (C : change.Snapshot Bytes Bytes) → Sorted bytes C → apply bytes [] (spoken v (diff bytes bytes [] C)) ≡ spoken v C
onward_full v C t =
    ext strings _ _ (onward_sorted v [] C tt t) (spoken_sorted v C t)
    (λ k. onward_lookup v [] C tt t k ∙ sym (spoken_lookup v k C))

-- ---- the promise

pub promise : (v : Version) → Promise v
promise v = record { outcome = out; delta_taken = onward; full_taken = full }
  where
    out : (snapshot messages : Bytes) (B : change.Snapshot Bytes Bytes) → GoodSnapshot snapshot → AllBytes messages → Leave v snapshot messages B → Outcome v snapshot messages B
    out snapshot messages B g o e =
        let m : IsMap Snapshot B = taken_map (items snapshot) B (hear v messages).told (hear_tells v messages) (good_map snapshot g) e in
        let b : All ItemBytes B
        = taken_keeps (All ItemBytes) TellsBytes taken_bytes (items snapshot) B (hear v messages).told (hear_told v messages o) (items_bytes snapshot g.octets g.fine) e in
        let word : (k : Bytes) → lookup bytes k B ≡ apply_at (lookup bytes k (items snapshot)) (last_word k (hear v messages).told)
        = λ k. taken_word k (items snapshot) B (hear v messages).told (good_map snapshot g).sorted e in
        record {
          good = record { octets = encode_bytes B b; fine = (faithful Snapshot).good_bytes B m };
          says = (faithful Snapshot).map_back B m;
          last_word_lem = word;
          aspas_stay = λ k z. word k ∙ ap (apply_at (lookup bytes k (items snapshot))) (no_word k (hear v messages).told (hear_tells v messages) z);
        }

    onward : (base current messages : Bytes) → GoodSnapshot base → GoodSnapshot current → Say v messages (changes (difference_of base current)) → LeadOn v base current messages
    onward base current messages g h e =
        let s = (good_map base g).sorted in
        let t = (good_map current h).sorted in
        record {
          result = apply bytes (items base) (spoken v (diff bytes bytes (items base) (items current)));
          leave = onward_taken v (items base) (items current) s t (hear v messages).told (e ∙ ap (spoken v) (difference_says base current g h));
          as_current = onward_spoken v (items base) (items current) s t;
          as_base = onward_unspoken v (items base) (items current) s t;
          whole = λ q. ap (encode Snapshot) (onward_whole v (items base) (items current) s t q) ∙ (faithful Snapshot).bytes_back current h.octets h.fine;
        }

    full : (current messages : Bytes) → GoodSnapshot current → Say v messages (changes (difference_of [] current)) → Leave v [] messages (spoken v (items current))
    full current messages h e =
        let z : items [] ≡ [] = entries_end Snapshot in
        let t = (good_map current h).sorted in
        let d : changes (difference_of [] current) ≡ diff bytes bytes [] (items current) = difference_says [] current empty_good h ∙ ap (λ (A : change.Snapshot Bytes Bytes). diff bytes bytes A (items current)) z in
        rw z (onward_taken v [] (items current) tt t (hear v messages).told (e ∙ ap (spoken v) d) ∙ ap all (onward_full v (items current) t))
