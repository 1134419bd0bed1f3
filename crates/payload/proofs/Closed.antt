-- Difference, merge and application of valid maps are valid maps.
use mathlib.Core.Path.{◌≡◌, refl}
use mathlib.Core.List.{[], List, ◌∷◌, foldl}
use mathlib.Core.Option.{Option, none, some}
use mathlib.Core.Logic.{◌⊎◌, inl, inr}
use Rattle.std.specs.declared.cmp.Ordering.{Ordering}
use Rattle.std.specs.declared.cmp.Ordering.TheVariants.{Less, Equal, Greater}
use Rattle.order.specs.Comparison.{TotalOrder, bytes}
use Rattle.order.specs.Map.{Item, All}
use Rattle.order.specs.Walk.{emit, walk}
use Rattle.order.proofs.Comparison.{less≢equal, equal≢greater, strings}
use Rattle.order.proofs.Walk.{walk_nil, walk_left, walk_right, walk_less, walk_equal, walk_greater}
use Rattle.change.specs.Change.{Change, update, unless_equal, replace}
use Rattle.change.specs.Difference as change
use Rattle.change.specs.Difference.{diff_at, diff}
use Rattle.change.specs.Merge.{merge_at, table, merge, merge_all}
use Rattle.change.specs.Application.{apply_at, apply}
use Rattle.change.proofs.Whole.{diff_sorted, merge_sorted, apply_sorted}
use Rattle.body.specs.declared.tag.Form.TheVariants.{Snapshot, Delta}
use Rattle.payload.specs.Content.{Bytes}
use Rattle.payload.specs.Valid.{ValidValue, ValidChange, IsMap, origin, router_key, aspa, valid_announce, valid_withdraw, valid_update}

-- a property of what stands at a key, if anything does
abbrev pub At : {K C : Type 0} → (K → C → Type 0) → K → Option C → Type 0
At R k none = Unit {0}
At R k (some c) = R k c

-- a property of an item
abbrev Of : {K C : Type 0} → (K → C → Type 0) → Item K C → Type 0
Of R x = R x.key x.val

module _ {K A B C : Type 0} {cmp : K → K → Ordering} (O : TotalOrder cmp) (f : Option A → Option B → Option C)
    (P : K → A → Type 0) (Q : K → B → Type 0) (R : K → C → Type 0)
    (left : (k : K) (a : A) → P k a → At R k (f (some a) none))
    (right : (k : K) (b : B) → Q k b → At R k (f none (some b)))
    (both : (k : K) (a : A) (b : B) → P k a → Q k b → At R k (f (some a) (some b))) where
  -- what f yields goes in front
  emit_all : (k : K) (o : Option C) (r : List (Item K C)) → At R k o → All (Of R) r → All (Of R) (emit k o r)
  emit_all k none r h t = t
  emit_all k (some c) r h t = (h, t)

  from_left : (x : Item K A) (r : List (Item K C)) → Of P x → All (Of R) r → All (Of R) (emit x.key (f (some x.val) none) r)
  from_left x r h t = emit_all x.key (f (some x.val) none) r (left x.key x.val h) t

  from_right : (y : Item K B) (r : List (Item K C)) → Of Q y → All (Of R) r → All (Of R) (emit y.key (f none (some y.val)) r)
  from_right y r h t = emit_all y.key (f none (some y.val)) r (right y.key y.val h) t

  from_both : (x : Item K A) (y : Item K B) (r : List (Item K C)) → x.key ≡ y.key → Of P x → Of Q y → All (Of R) r →
      All (Of R) (emit x.key (f (some x.val) (some y.val)) r)
  from_both x y r e h i t =
      let j : Q x.key y.val = rw e i in
      emit_all x.key (f (some x.val) (some y.val)) r (both x.key x.val y.val h j) t

  -- a walk keeps what f keeps at each key
  pub walk_all_lem : (a : List (Item K A)) (b : List (Item K B)) → All (Of P) a → All (Of Q) b → All (Of R) (walk cmp f a b)
  walk_all_lem [] [] s t = rw (walk_nil cmp f) tt
  walk_all_lem [] (y ∷ b) s t = rw (walk_right cmp f y b) (from_right y (walk cmp f [] b) t.0 (walk_all_lem [] b tt t.1))
  walk_all_lem (x ∷ a) [] s t = rw (walk_left cmp f x a) (from_left x (walk cmp f a []) s.0 (walk_all_lem a [] s.1 tt))
  walk_all_lem (x ∷ a) (y ∷ b) s t =
      go (cmp x.key y.key) refl (walk_all_lem a (y ∷ b) s.1 t) (walk_all_lem a b s.1 t.1) (walk_all_lem (x ∷ a) b s t.1)
    where
      go : (o : Ordering) → cmp x.key y.key ≡ o → All (Of R) (walk cmp f a (y ∷ b)) → All (Of R) (walk cmp f a b) → All (Of R) (walk cmp f (x ∷ a) b) →
          All (Of R) (walk cmp f (x ∷ a) (y ∷ b))
      go Less e h i j = rw (walk_less cmp f x a y b e) (from_left x (walk cmp f a (y ∷ b)) s.0 h)
      go Equal e h i j = rw (walk_equal cmp f x a y b e) (from_both x y (walk cmp f a b) (O.same x.key y.key e) s.0 t.0 i)
      go Greater e h i j = rw (walk_greater cmp f x a y b e) (from_right y (walk cmp f (x ∷ a) b) t.0 j)

-- ---- at one key

-- a key whose value is not empty is an ASPA's
value_kind : {k v : Bytes} → ValidValue k v → (v ≡ []) ⊎ ((c : Bytes) × (k ≡ 3 ∷ c))
value_kind (origin h) = inl refl
value_kind (router_key h) = inl refl
value_kind (aspa {k = c} e h z) = inr (c, refl)

-- an update arises only where two different values are valid at one key
update_valid : (k p n : Bytes) → ¬ (p ≡ n) → ValidValue k p → ValidValue k n → ValidChange k (update p n)
update_valid k p n d g h = go (value_kind g) (value_kind h)
  where
    aspa_key : (c : Bytes) → k ≡ 3 ∷ c → ValidChange k (update p n)
    aspa_key c e = rw e (valid_update (rw e at g) (rw e at h))

    go : (p ≡ []) ⊎ ((c : Bytes) × (k ≡ 3 ∷ c)) → (n ≡ []) ⊎ ((c : Bytes) × (k ≡ 3 ∷ c)) → ValidChange k (update p n)
    go (inl a) (inl b) = absurd (d (cc))
    go (inl a) (inr b) = aspa_key b.0 b.1
    go (inr a) r = aspa_key a.0 a.1

replace_valid : (k p n : Bytes) → ValidValue k p → ValidValue k n → At ValidChange k (replace bytes p n)
replace_valid k p n g h = go (bytes p n) refl
  where
    apart : (o : Ordering) → bytes p n ≡ o → ¬ (o ≡ Equal) → ¬ (p ≡ n)
    apart o e d q = d (cc (strings.self n))

    go : (o : Ordering) → bytes p n ≡ o → At ValidChange k (unless_equal o (update p n))
    go Less e = update_valid k p n (apart Less e (λ q. less≢equal refl q)) g h
    go Equal e = tt
    go Greater e = update_valid k p n (apart Greater e (λ q. equal≢greater q refl)) g h

-- the new value of a change, and the former one
table_valid : (k : Bytes) (c d : Change Bytes) → ValidChange k c → ValidChange k d → At ValidChange k (table bytes c d)
table_valid k c d (valid_announce g) (valid_announce h) = valid_announce h
table_valid k c d (valid_announce g) (valid_withdraw h) = tt
table_valid k c d (valid_announce g) (valid_update h i) = valid_announce i
table_valid k c d (valid_withdraw g) (valid_announce h) = replace_valid k _ _ g h
table_valid k c d (valid_withdraw g) (valid_withdraw h) = valid_withdraw g
table_valid k c d (valid_withdraw g) (valid_update h i) = replace_valid k _ _ g i
table_valid k c d (valid_update g h) (valid_announce i) = valid_update g i
table_valid k c d (valid_update g h) (valid_withdraw i) = valid_withdraw g
table_valid k c d (valid_update g h) (valid_update i j) = replace_valid k _ _ g j

apply_valid : (k v : Bytes) (c : Change Bytes) → ValidValue k v → ValidChange k c → At ValidValue k (apply_at (some v) (some c))
apply_valid k v c g (valid_announce h) = h
apply_valid k v c g (valid_withdraw h) = tt
apply_valid k v c g (valid_update h i) = i

apply_new : (k : Bytes) (c : Change Bytes) → ValidChange k c → At ValidValue k (apply_at none (some c))
apply_new k c (valid_announce h) = h
apply_new k c (valid_withdraw h) = tt
apply_new k c (valid_update h i) = i

-- ---- whole maps

-- the difference of two snapshots is a delta
pub diff_map : (A B : change.Snapshot Bytes Bytes) → IsMap Snapshot A → IsMap Snapshot B → IsMap Delta (diff bytes bytes A B)
diff_map A B m n = record {
  sorted = diff_sorted strings strings A B m.sorted n.sorted;
  valid = walk_all_lem strings (diff_at bytes) ValidValue ValidValue ValidChange (λ k a g. valid_withdraw g) (λ k b h. valid_announce h) replace_valid A B m.valid n.valid;
}

-- the merge of two deltas is one
pub merge_map : (D F : change.Delta Bytes Bytes) → IsMap Delta D → IsMap Delta F → IsMap Delta (merge bytes bytes D F)
merge_map D F m n = record {
  sorted = merge_sorted strings strings D F m.sorted n.sorted;
  valid = walk_all_lem strings (merge_at bytes) ValidChange ValidChange ValidChange (λ k c g. g) (λ k d h. h) table_valid D F m.valid n.valid;
}

-- so is the merge of any number
merge_all_from : (D : change.Delta Bytes Bytes) (Fs : List (change.Delta Bytes Bytes)) → IsMap Delta D → All (IsMap Delta) Fs →
    IsMap Delta (foldl (merge bytes bytes) D Fs)
merge_all_from D [] m h = m
merge_all_from D (F ∷ Fs) m h = merge_all_from (merge bytes bytes D F) Fs (merge_map D F m h.0) h.1

pub merge_all_map : (Fs : List (change.Delta Bytes Bytes)) → All (IsMap Delta) Fs → IsMap Delta (merge_all bytes bytes Fs)
merge_all_map Fs h = merge_all_from [] Fs (record { sorted = tt; valid = tt }) h

-- a snapshot with a delta applied is one
pub apply_map : (A : change.Snapshot Bytes Bytes) (D : change.Delta Bytes Bytes) → IsMap Snapshot A → IsMap Delta D → IsMap Snapshot (apply bytes A D)
apply_map A D m n = record {
  sorted = apply_sorted strings strings A D m.sorted n.sorted;
  valid = walk_all_lem strings apply_at ValidValue ValidChange ValidValue (λ k a g. g) apply_new apply_valid A D m.valid n.valid;
}
