-- The keys of what bytes say are made of bytes.
use mathlib.Core.Path.{◌≡◌, refl}
use mathlib.Core.List.{List, [], ◌∷◌}
use mathlib.Core.Option.{Option, none, some}
use native.Mathlib.Omega.{arith}
use Rattle.std.specs.declared.cmp.Ordering.{Ordering}
use Rattle.std.specs.declared.cmp.Ordering.TheVariants.{Less, Equal, Greater}
use Rattle.order.specs.Comparison.{bytes}
use Rattle.order.specs.Map.{Item, All}
use Rattle.order.specs.Walk.{emit, walk}
use Rattle.order.proofs.Walk.{walk_nil, walk_right, walk_left, walk_less, walk_equal, walk_greater}
use Rattle.change.specs.Change.{Change}
use Rattle.change.specs.Difference.{Snapshot, diff_at, diff}
use Rattle.number.specs.Bytes.{AllBytes}
use Rattle.body.specs.declared.tag.Form.{Form}
use Rattle.body.specs.declared.tag.Form.TheVariants as form
use Rattle.body.specs.Tag.{kind_of}
use Rattle.field.specs.Verdict.{verdict}
use Rattle.field.specs.Run.{Run, done, more}
use Rattle.field.proofs.Encode.{field_front, rest_bytes}
use Rattle.field.proofs.Walk.{good_start_lem}
use Rattle.payload.specs.Content.{Bytes, Content}
use Rattle.payload.specs.Payload.{entries, items}
use Rattle.payload.proofs.Faithful.{body_bytes, entries_end, entries_more}
use Rattle.item.proofs.Heres.{low_kind, key_octets}
use Rattle.std.specs.Prelude.{Ok}

module _ (form : Form) where
  entry_bytes : {k s : Bytes} → Run form k s → AllBytes s → All (λ (x : Item Bytes (Content form)). AllBytes x.key) (entries form s)
  unfolding kind_of
  entry_bytes done o = rw (entries_end form) tt
  entry_bytes (more {k} {s} tag b rest e g z l r) o =
      let f = field_front s tag b rest o e in
      rw (entries_more form s tag b rest e)
      (key_octets (kind_of form tag) b (omega (arith, low_kind form tag)) (body_bytes s tag b rest o f), entry_bytes r (rest_bytes s tag b rest o f))

pub item_bytes : (s : Bytes) → AllBytes s → verdict form.Snapshot s ≡ Ok tt → All (λ (x : Item Bytes Bytes). AllBytes x.key) (items s)
item_bytes s o f = entry_bytes form.Snapshot (good_start_lem form.Snapshot s f).run o

-- a walk has no keys but those of its sides
module _ {A B C : Type 0} (f : Option A → Option B → Option C) (P : Bytes → Type 0) where
  emit_keys : (k : Bytes) (o : Option C) (r : List (Item Bytes C)) → P k → All (λ (x : Item Bytes C). P x.key) r → All (λ (x : Item Bytes C). P x.key) (emit k o r)
  emit_keys k none r h t = t
  emit_keys k (some c) r h t = (h, t)

  walk_keys : (a : List (Item Bytes A)) (b : List (Item Bytes B)) → All (λ (x : Item Bytes A). P x.key) a → All (λ (x : Item Bytes B). P x.key) b →
      All (λ (x : Item Bytes C). P x.key) (walk bytes f a b)
  walk_keys [] [] s t = rw (walk_nil bytes f) tt
  walk_keys [] (y ∷ b) s t = rw (walk_right bytes f y b) (emit_keys y.key (f none (some y.val)) (walk bytes f [] b) t.0 (walk_keys [] b tt t.1))
  walk_keys (x ∷ a) [] s t = rw (walk_left bytes f x a) (emit_keys x.key (f (some x.val) none) (walk bytes f a []) s.0 (walk_keys a [] s.1 tt))
  walk_keys (x ∷ a) (y ∷ b) s t =
      go (bytes x.key y.key) refl (walk_keys a (y ∷ b) s.1 t) (walk_keys a b s.1 t.1) (walk_keys (x ∷ a) b s t.1)
    where
      go : (o : Ordering) → bytes x.key y.key ≡ o → All (λ (z : Item Bytes C). P z.key) (walk bytes f a (y ∷ b)) →
          All (λ (z : Item Bytes C). P z.key) (walk bytes f a b) → All (λ (z : Item Bytes C). P z.key) (walk bytes f (x ∷ a) b) →
          All (λ (z : Item Bytes C). P z.key) (walk bytes f (x ∷ a) (y ∷ b))
      go Less e h i j = rw (walk_less bytes f x a y b e) (emit_keys x.key (f (some x.val) none) (walk bytes f a (y ∷ b)) s.0 h)
      go Equal e h i j = rw (walk_equal bytes f x a y b e) (emit_keys x.key (f (some x.val) (some y.val)) (walk bytes f a b) s.0 i)
      go Greater e h i j = rw (walk_greater bytes f x a y b e) (emit_keys y.key (f none (some y.val)) (walk bytes f (x ∷ a) b) t.0 j)

pub diff_bytes : (A C : Snapshot Bytes Bytes) → All (λ (x : Item Bytes Bytes). AllBytes x.key) A → All (λ (x : Item Bytes Bytes). AllBytes x.key) C →
    All (λ (x : Item Bytes (Change Bytes)). AllBytes x.key) (diff bytes bytes A C)
diff_bytes A C h g = walk_keys (diff_at bytes) AllBytes A C h g
