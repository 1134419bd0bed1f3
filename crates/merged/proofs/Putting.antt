-- Laws of writing the merge of many runs.
use Prim.Native.Nat.{ℕ, ◌+◌, ◌-◌, ◌^◌, ◌≤◌, ◌<◌}
use mathlib.Core.Path.{◌≡◌, refl, sym, ap, ap₂, ◌∙◌}
use mathlib.Core.List.{[], ◌∷◌, ◌++◌, append_assoc}
use native.Mathlib.Omega.{arith}
use lib.ListN.{length, length-take, length-drop}
use lib.Seq.{sets, length-sets}
use Rattle.order.proofs.Never.{never}
use Rattle.number.specs.Bytes.{part}
use Rattle.body.specs.declared.tag.Form.TheVariants.{Delta}
use Rattle.field.specs.declared.key.Key.{Key}
use Rattle.payload.specs.Content.{Bytes}
use Rattle.item.specs.declared.place.Act.{Act}
use Rattle.item.specs.declared.sink.Counts.{Counts}
use Rattle.item.specs.Place.{part_in, change_in, item_in, ActFits, KeyIn, Lies}
use Rattle.item.specs.Write.{field_as, writes, plus_item, plus_all, zero, Countable}
use Rattle.item.proofs.Putting.{counts_path}
use Rattle.walk.proofs.Walking.{Left-over, none_counts, none_bytes, left_some, plus_append, sets_writes, plus_one, writes_one, one_small, announces_one, withdraws_one, whole_long, whole_long_bytes, whole_fits, whole_bytes}
use Rattle.cursors.specs.declared.lone.Lone.{Lone}
use Rattle.cursors.specs.declared.runs.Walk.{Walk}
use Rattle.cursors.specs.Cursor.{D, items_left, ItemFits}
use Rattle.cursors.specs.Lone.{passes}
pub use Rattle.cursors.specs.Walk.{items_of}
use Rattle.cursors.specs.Walk.{Underway, Starts, Kept, Gives, Passed, remains}
use Rattle.cursors.proofs.Keeping.{kept_remains, kept_items}
use Rattle.merged.specs.Put.{Roomy, Puts, PutSome, put_some, PutNext, put_end, put_on}
use Rattle.merged.proofs.Sizing.{sure_fits, sure_bytes}
use Rattle.std.specs.Prelude.{None, Option, Some}

-- ---- put_lone and put_next

part_long : (s : Bytes) (from to : ℕ) → to ≤ length s → length (part s from to) ≡ to - from
part_long s from to h = simp (length-take, length-drop) (omega arith)

module _ (w : Walk) (c : Counts) (i : Puts w c) where
  pub puts_room : Countable c
  puts_room = record { len = omega (arith, i.room.len); announced = omega (arith, i.room.announced); withdrawn = omega (arith, i.room.withdrawn) }

  module _ (w' : Walk) (r : Lone) (l : Passed w w' r) (u : Underway w') (k : Kept w w') where
    pub lone_lies : Lies w'.store.now (record { from = r.from; to = r.to })
    lone_lies = go l
      where
        go : Passed w w' r → Lies w'.store.now (record { from = r.from; to = r.to })
        go (passes d p) = record { ordered = p.ordered; within = rw k.store p.within }

    -- the counts with what lies there
    abbrev sum : Counts
    sum = record { len = c.len + (r.to - r.from); announced = c.announced + r.announced; withdrawn = c.withdrawn + r.withdrawn }

    room : Roomy (items_of w') sum
    room = go l
      where
        go : Passed w w' r → Roomy (items_of w') sum
        go (passes d p) =
            let fewer : items_of w ≡ length d + items_of w' = p.fewer ∙ ap (λ (m : ℕ). length d + m) (kept_items w w' k) in
            record {
              len = omega (arith, i.room.len, fewer, p.short, p.ordered);
              announced = omega (arith, i.room.announced, fewer, p.number);
              withdrawn = omega (arith, i.room.withdrawn, fewer, p.number);
            }

    pub lone_len : c.len + (r.to - r.from) < 2 ^ 64
    lone_len = omega (arith, room.len)

    pub lone_announced : c.announced + r.announced < 2 ^ 64
    lone_announced = omega (arith, room.announced)

    pub lone_withdrawn : c.withdrawn + r.withdrawn < 2 ^ 64
    lone_withdrawn = omega (arith, room.withdrawn)

    pub lone_put : (o o' : Bytes) → o' ≡ sets o c.len (part_in w'.store.now (record { from = r.from; to = r.to })) → PutSome w w' c o o' sum
    lone_put o o' e = go l
      where
        go : Passed w w' r → PutSome w w' c o o' sum
        go (passes d p) =
            let lies : writes Delta d ≡ part w'.store.now r.from r.to = rw k.store p.lies in
            let long : length (part w'.store.now r.from r.to) ≡ r.to - r.from = part_long w'.store.now r.from r.to lone_lies.within in
            let z : length (writes Delta d) ≡ r.to - r.from = ap length lies ∙ long in
            put_some d (record {
              puts = record { underway = u; room = room };
              is = p.is ∙ ap (λ (x : D). d ++ x) (kept_remains w w' k);
              counts = counts_path (omega (arith, z)) (omega (arith, p.announced)) (omega (arith, p.withdrawn));
              bytes = e ∙ ap (sets o c.len) (sym lies);
              fewer = omega (arith, p.fewer, kept_items w w' k);
            })

  module _ (w' : Walk) (r : Option (Key × Act)) (x : Gives w w' r) where
    pub next_end : r ≡ None → (o : Bytes) → PutNext w w' c o o None
    next_end q o = put_end refl (rw q at x.is) refl

    module _ (u : Underway w') (k : Kept w w') (key : Key) (act : Act) (q : r ≡ Some (key, act)) where
      fits : ItemFits w.store.now key act × (items_left w.store.now w'.at w.ends w.from w.n < items_of w)
      fits = rw q at x.fits

      less : items_of w' < items_of w
      less = omega (arith, fits.1, kept_items w w' k)

      pub next_key : KeyIn w'.store.now key
      next_key = rw k.store fits.0.key

      pub next_act : ActFits w'.store.now w'.store.now act
      next_act = rw k.store fits.0.act

      is : remains w ≡ item_in w'.store.now w'.store.now key act ∷ remains w'
      is = (rw q at x.is) ∙ ap₂ (λ (t : Bytes) (d : D). item_in t t key act ∷ d) (sym k.store) (kept_remains w w' k)

      pub next_on : (c' : Counts) (o o' : Bytes) → c' ≡ plus_item Delta c (item_in w'.store.now w'.store.now key act) →
          o' ≡ sets o c.len (field_as Delta (item_in w'.store.now w'.store.now key act)) → PutNext w w' c o o' (Some c')
      next_on c' o o' ec eo =
          let m = one_small Delta w'.store.now w'.store.now key act next_key next_act in
          put_on c' refl (put_some (item_in w'.store.now w'.store.now key act ∷ []) (record {
            puts = record {
              underway = u;
              room = record {
                len = rw ec (omega (arith, i.room.len, less));
                announced = rw ec (omega (arith, i.room.announced, less, announces_one (change_in w'.store.now w'.store.now act)));
                withdrawn = rw ec (omega (arith, i.room.withdrawn, less, withdraws_one (change_in w'.store.now w'.store.now act)));
              };
            };
            is = is;
            counts = ec ∙ plus_one Delta c (item_in w'.store.now w'.store.now key act);
            bytes = eo ∙ ap (sets o c.len) (writes_one Delta c (item_in w'.store.now w'.store.now key act));
            fewer = omega (arith, less);
          })) less

pub ruleset steps = (puts_room, lone_lies, lone_len, lone_announced, lone_withdrawn, lone_put, next_end, next_key, next_act, next_on)

-- ---- put_step

end≢on : (c : Counts) → None ≡ Some c → ⊥
end≢on c q = never cc

module _ (w w₁ : Walk) (c : Counts) (o o₁ : Bytes) (r : Option Counts) (x : PutNext w w₁ c o o₁ r) where
  pub step_end : r ≡ None → PutNext w w₁ c o o₁ None
  step_end q = rw q at x

  module _ (c₁ : Counts) (q : r ≡ Some c₁) where
    put_is : PutSome w w₁ c o o₁ c₁ × (items_of w₁ < items_of w)
    put_is = go x
      where
        go : PutNext w w₁ c o o₁ r → PutSome w w₁ c o o₁ c₁ × (items_of w₁ < items_of w)
        go (put_end e z y) = absurd (end≢on c₁ (sym e ∙ q))
        go (put_on d e z y) = let v : d ≡ c₁ = cc (sym e ∙ q) in (rw v at z, y)

    pub step_puts : Puts w₁ c₁
    step_puts = go put_is.0
      where
        go : PutSome w w₁ c o o₁ c₁ → Puts w₁ c₁
        go (put_some d y) = y.puts

    pub step_on : (w₂ : Walk) (o₂ : Bytes) (c₂ : Counts) → PutSome w₁ w₂ c₁ o₁ o₂ c₂ → PutNext w w₂ c o o₂ (Some c₂)
    step_on w₂ o₂ c₂ p = go put_is.0 p
      where
        go : PutSome w w₁ c o o₁ c₁ → PutSome w₁ w₂ c₁ o₁ o₂ c₂ → PutNext w w₂ c o o₂ (Some c₂)
        go (put_some d y) (put_some e v) = put_on c₂ refl (put_some (d ++ e) (record {
          puts = v.puts;
          is = y.is ∙ ap (λ (l : D). d ++ l) v.is ∙ sym (append_assoc d e (remains w₂));
          counts = v.counts ∙ ap (λ (z : Counts). plus_all Delta z e) y.counts ∙ sym (plus_append Delta c d e);
          bytes = v.bytes ∙ rw (y.bytes, y.counts) (sym (sets_writes Delta o c.len d e));
          fewer = omega (arith, y.fewer, v.fewer);
        })) (omega (arith, v.fewer, put_is.1))

pub ruleset stepping = (step_end, step_puts, step_on)

-- ---- put_all

-- what was written, with what is left, is the whole
pub record Putting (w₀ : Walk) (o₀ : Bytes) (w : Walk) (o : Bytes) (c : Counts) : Type 0 where
  pub puts : Puts w c
  pub long : length o ≡ length o₀
  pub left : Left-over Delta c o (remains w) zero o₀ (remains w₀)

pub put_start : (w : Walk) (o : Bytes) → Starts w → Putting w o w o zero
put_start w o i =
    let b = i.bounded in
    record {
      puts = record {
        underway = record { walks = b.walks; fronted = i.fronted };
        room = record { len = omega (arith, b.few); announced = omega (arith, b.few); withdrawn = omega (arith, b.few) };
      };
      long = refl;
      left = record { counts = refl; laid = refl };
    }

module _ (w₀ : Walk) (o₀ : Bytes) (w : Walk) (o : Bytes) (c : Counts) (i : Putting w₀ o₀ w o c) where
  on : (w' : Walk) (o' : Bytes) (c' : Counts) → PutSome w w' c o o' c' → Putting w₀ o₀ w' o' c'
  on w' o' c' (put_some d y) = record {
    puts = y.puts;
    long = ap length y.bytes ∙ length-sets o c.len (writes Delta d) ∙ i.long;
    left = left_some Delta c o _ zero o₀ _ i.left d (remains w') y.is c' o' y.counts y.bytes;
  }

  module _ (w₁ : Walk) (o₁ : Bytes) (r : Option Counts) (x : PutNext w w₁ c o o₁ r) where
    pub put_counts : r ≡ None → c ≡ plus_all Delta zero (remains w₀)
    put_counts q = go x
      where
        go : PutNext w w₁ c o o₁ r → c ≡ plus_all Delta zero (remains w₀)
        go (put_end e z y) = none_counts Delta c o _ zero o₀ _ i.left z
        go (put_on d e z y) = absurd (end≢on d (sym q ∙ e))

    pub put_bytes : r ≡ None → o₁ ≡ sets o₀ 0 (writes Delta (remains w₀))
    put_bytes q = go x
      where
        go : PutNext w w₁ c o o₁ r → o₁ ≡ sets o₀ 0 (writes Delta (remains w₀))
        go (put_end e z y) = y ∙ none_bytes Delta c o _ zero o₀ _ i.left z
        go (put_on d e z y) = absurd (end≢on d (sym q ∙ e))

    module _ (c₁ : Counts) (q : r ≡ Some c₁) where
      pub put_again : Putting w₀ o₀ w₁ o₁ c₁
      put_again = on w₁ o₁ c₁ (put_is w w₁ c o o₁ r x c₁ q).0

      pub put_less : items_of w₁ < items_of w
      put_less = (put_is w w₁ c o o₁ r x c₁ q).1

pub ruleset putting = (put_start, put_counts, put_bytes, put_again, put_less)

-- the whole of it, or nothing: as for the merge of two
pub ruleset wholes = (sure_fits, sure_bytes, whole_long, whole_long_bytes, whole_fits, whole_bytes)
