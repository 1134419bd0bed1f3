-- Laws of the two loops: over the merge of many runs, and over the fields of a snapshot.
use Prim.Native.Nat.{ℕ, ◌+◌, ◌*◌, ◌-◌, ◌≤◌, ◌<◌}
use mathlib.Core.Path.{◌≡◌, refl, sym, ap, ap₂, ◌∙◌}
use mathlib.Core.List.{[], ◌∷◌, ◌++◌}
use native.Mathlib.Omega.{arith}
use lib.ListN.{length, drop, length-append}
use lib.Seq.{sets}
use Rattle.order.specs.Map.{All}
use Rattle.body.specs.declared.tag.Form.TheVariants.{Snapshot, Delta}
use Rattle.field.specs.declared.key.Key.{Key}
use Rattle.payload.specs.Content.{Bytes}
use Rattle.payload.specs.Limit.{limit}
use Rattle.payload.specs.Valid.{Valid}
use Rattle.payload.proofs.Faithful.{faithful}
use Rattle.payload.proofs.Closed.{diff_map, merge_all_map}
use Rattle.item.specs.declared.place.Act.{Act}
use Rattle.item.specs.declared.place.Entry.{Entry}
use Rattle.item.specs.declared.reading.Reading.TheVariants.{Announced}
use Rattle.item.specs.Place.{item_in}
use Rattle.item.specs.Reading.{read_as, Ready, Reads}
use Rattle.item.proofs.Sinking.{sets_append}
use Rattle.message.specs.declared.version.Version.{Version}
use Rattle.delta.proofs.Answering.{ready_start}
use Rattle.cursors.specs.declared.runs.Walk.{Walk}
use Rattle.cursors.specs.Cursor.{runs, items_left, ItemFits}
pub use Rattle.cursors.specs.Walk.{items_of}
use Rattle.cursors.specs.Walk.{Underway, Kept, Gives, remains}
use Rattle.cursors.proofs.Keeping.{kept_remains, kept_items}
use Rattle.wire.specs.declared.tally.Tally.{Tally}
use Rattle.wire.specs.Answer.{all_new}
use Rattle.wire.specs.declared.origins.RunEnd.{RunEnd}
use Rattle.wire.specs.Tally.{saying, plus_all, start, Countable, Says, Steps, ItemIs}
use Rattle.wire.specs.Left.{Left, Listed, Passed}
use Rattle.wire.specs.Put.{Merges, Holds, LaidIs}
use Rattle.wire.proofs.Saying.{X, D, saying_cons, saying_none, plus_cons, plus_none}
use Rattle.std.specs.Prelude.{None, Option, Some}

module _ (v : Version) (t : Tally) (o : Bytes) (d : D) (t₀ : Tally) (o₀ : Bytes) (d₀ : D) (l : Left v t o d t₀ o₀ d₀) where
  left_len : t.len + length (saying v d) ≡ t₀.len + length (saying v d₀)
  left_len = ap (λ (u : Tally). u.len) l.tally

  pub left_one : (x : X) (d' : D) (o' : Bytes) (r : Tally) → d ≡ x ∷ d' → ItemIs v x t o o' r → Left v r o' d' t₀ o₀ d₀
  left_one x d' o' r e i =
      let len = left_len in
      let cut : saying v d ≡ saying v (x ∷ []) ++ saying v d' = ap (saying v) e ∙ saying_cons v x d' in
      let long : length (saying v d) ≡ length (saying v (x ∷ [])) + length (saying v d') = ap length cut ∙ length-append (saying v (x ∷ [])) (saying v d') in
      let rl : r.len ≡ t.len + length (saying v (x ∷ [])) = ap (λ (u : Tally). u.len) i.tally in
      record {
        tally = ap (λ (u : Tally). plus_all v u d') i.tally ∙ plus_cons v t x d' ∙ ap (plus_all v t) (sym e) ∙ l.tally;
        same = i.same ∙ l.same;
        laid = λ g.
            let fit : t.len + length (saying v (x ∷ [])) ≤ length o = omega (arith, len, long, l.same) in
            ap₂ (λ (p : Bytes) (n : ℕ). sets p n (saying v d')) (i.laid fit) rl
            ∙ sym (sets_append (saying v (x ∷ [])) (saying v d') o t.len) ∙ ap (sets o t.len) (sym cut) ∙ l.laid g;
      }

  -- one behind the other
  pub left_then : (t' : Tally) (o' : Bytes) (d' : D) → Left v t' o' d' t o d → Left v t' o' d' t₀ o₀ d₀
  left_then t' o' d' m =
      let len = left_len in
      record {
        tally = m.tally ∙ l.tally;
        same = m.same ∙ l.same;
        laid = λ g. m.laid (omega (arith, len, l.same)) ∙ l.laid g;
      }

module _ (v : Version) (t : Tally) (o : Bytes) (d : D) (o₀ : Bytes) (d₀ : D) (l : Left v t o d start o₀ d₀) where
  left_none : d ≡ [] → Countable t → LaidIs v d₀ o₀ o t
  left_none e r = record {
    tally = sym (plus_none v t) ∙ ap (plus_all v t) (sym e) ∙ l.tally;
    room = r;
    same = l.same;
    laid = λ g. ap (sets o t.len) (sym (ap (saying v) e ∙ saying_none v)) ∙ l.laid g;
  }

-- ---- the merge of many runs: each item that is left counts for at most 1,056 bytes

pub record Putting (v : Version) (w₀ : Walk) (o₀ : Bytes) (w : Walk) (o : Bytes) (t : Tally) : Type 0 where
  pub underway : Underway w
  pub long : length o ≡ length o₀
  pub len : t.len + 1_056 * items_of w ≤ 8 + 1_056 * limit Delta
  pub announced : t.announced + items_of w ≤ limit Delta
  pub withdrawn : t.withdrawn + items_of w ≤ limit Delta
  pub keys : t.keys + items_of w ≤ limit Delta
  pub aspas : t.aspas + items_of w ≤ limit Delta
  pub valid : All (Valid Delta) (remains w)
  pub left : Left v t o (remains w) start o₀ (remains w₀)

pub put_start : (v : Version) (w : Walk) (o : Bytes) (t : Tally) → Merges w → t ≡ start → Putting v w o w o t
put_start v w o t m e =
    let b = m.starts.bounded in
    rw e (record {
      underway = record { walks = b.walks; fronted = m.starts.fronted };
      long = refl;
      len = omega (arith, b.few);
      announced = omega (arith, b.few);
      withdrawn = omega (arith, b.few);
      keys = omega (arith, b.few);
      aspas = omega (arith, b.few);
      valid = (merge_all_map (runs w.store.now w.at w.ends w.from w.n) m.maps).valid;
      left = record { tally = refl; same = refl; laid = λ g. refl };
    })

module _ (v : Version) (w₀ : Walk) (o₀ : Bytes) (w : Walk) (o : Bytes) (t : Tally) (i : Putting v w₀ o₀ w o t) where
  pub put_underway : Underway w
  put_underway = i.underway

  pub put_room : Countable t
  put_room = record {
    len = omega (arith, i.len);
    announced = omega (arith, i.announced);
    withdrawn = omega (arith, i.withdrawn);
    keys = omega (arith, i.keys);
    aspas = omega (arith, i.aspas);
  }

  module _ (w' : Walk) (r : Option (Key × Act)) (x : Gives w w' r) where
    pub put_end : r ≡ None → LaidIs v (remains w₀) o₀ o t
    put_end q = left_none v t o _ o₀ _ i.left (rw q at x.is) put_room

    module _ (u : Underway w') (k : Kept w w') (key : Key) (act : Act) (q : r ≡ Some (key, act)) where
      fits : ItemFits w.store.now key act × (items_left w.store.now w'.at w.ends w.from w.n < items_of w)
      fits = rw q at x.fits

      first : remains w ≡ item_in w'.store.now w'.store.now key act ∷ remains w'
      first = (rw q at x.is) ∙ ap₂ (λ (s : Bytes) (d : D). item_in s s key act ∷ d) (sym k.store) (kept_remains w w' k)

      rest_valid : All (Valid Delta) (item_in w'.store.now w'.store.now key act ∷ remains w')
      rest_valid = rw first at i.valid

      pub put_says : Says w'.store.now key act
      put_says = record { key_in_lem = rw k.store fits.0.key; valid = rest_valid.0 }

      pub put_less : items_of w' < items_of w
      put_less = omega (arith, fits.1, kept_items w w' k)

      pub put_again : (o' : Bytes) (t' : Tally) → ItemIs v (item_in w'.store.now w'.store.now key act) t o o' t' → Putting v w₀ o₀ w' o' t'
      put_again o' t' z = record {
        underway = u;
        long = z.same ∙ i.long;
        len = omega (arith, i.len, put_less, z.steps.len);
        announced = omega (arith, i.announced, put_less, z.steps.announced);
        withdrawn = omega (arith, i.withdrawn, put_less, z.steps.withdrawn);
        keys = omega (arith, i.keys, put_less, z.steps.keys);
        aspas = omega (arith, i.aspas, put_less, z.steps.aspas);
        valid = rest_valid.1;
        left = left_one v t o _ start o₀ _ i.left (item_in w'.store.now w'.store.now key act) (remains w') o' t' first z;
      }

pub ruleset putting = (put_start, put_underway, put_room, put_end, put_says, put_less, put_again)

-- ---- the fields of a snapshot

-- one field more
pub listed_more : (s : Bytes) (at next : ℕ) (t r : Tally) (x : X) → Listed s at t → at < next → Ready Announced s next → Steps t r →
    read_as Announced (drop at s) ≡ x ∷ read_as Announced (drop next s) → Listed s next r
listed_more s at next t r x l ahead ready z e =
    let a : All (Valid Delta) (x ∷ read_as Announced (drop next s)) = rw e at l.valid in
    record {
      ready = ready;
      small = l.small;
      len = omega (arith, l.len, ahead, z.len);
      announced = omega (arith, l.announced, ahead, z.announced);
      withdrawn = omega (arith, l.withdrawn, ahead, z.withdrawn);
      keys = omega (arith, l.keys, ahead, z.keys);
      aspas = omega (arith, l.aspas, ahead, z.aspas);
      valid = a.1;
    }

pub listed_room : (s : Bytes) (at : ℕ) (t : Tally) → Listed s at t → Countable t
listed_room s at t l =
    let w = l.ready.within in
    record {
      len = omega (arith, l.len, l.small);
      announced = omega (arith, l.announced, l.small);
      withdrawn = omega (arith, l.withdrawn, l.small);
      keys = omega (arith, l.keys, l.small);
      aspas = omega (arith, l.aspas, l.small);
    }

pub record Listing (v : Version) (s o₀ : Bytes) (at : ℕ) (o : Bytes) (t : Tally) : Type 0 where
  pub long : length o ≡ length o₀
  pub listed : Listed s at t
  pub left : Left v t o (read_as Announced (drop at s)) start o₀ (all_new s)

pub list_start : (v : Version) (s o : Bytes) (t : Tally) → Holds s → t ≡ start → Listing v s o 0 o t
list_start v s o t h e = rw e (record {
  long = refl;
  listed = record {
    ready = ready_start Announced s h.fine;
    small = h.small;
    len = omega arith;
    announced = omega arith;
    withdrawn = omega arith;
    keys = omega arith;
    aspas = omega arith;
    valid = (diff_map [] _ (record { sorted = tt; valid = tt }) ((faithful Snapshot).map_of s h.fine)).valid;
  };
  left = record { tally = refl; same = refl; laid = λ g. refl };
})

module _ (v : Version) (s o₀ : Bytes) (at : ℕ) (o : Bytes) (t : Tally) (i : Listing v s o₀ at o t) where
  pub list_listed : Listed s at t
  list_listed = i.listed

  -- behind a run of origins
  module _ (o₁ : Bytes) (run : RunEnd) (p : Passed v s at t o o₁ run) where
    left : Left v run.tally o₁ (read_as Announced (drop run.at s)) start o₀ (all_new s)
    left = left_then v t o _ start o₀ _ i.left run.tally o₁ _ p.left

    pub list_ready : Ready Announced s run.at
    list_ready = p.listed.ready

    pub list_room : Countable run.tally
    list_room = listed_room s run.at run.tally p.listed

    pub list_long : length o₁ ≡ length o₀
    list_long = p.left.same ∙ i.long

    module _ (r : Option Entry) (x : Reads Announced s run.at r) where
      pub list_end : r ≡ None → LaidIs v (all_new s) o₀ o₁ run.tally
      list_end q = left_none v run.tally o₁ _ o₀ _ left (rw q at x.is) list_room

      module _ (e : Entry) (q : r ≡ Some e) where
        first_field : read_as Announced (drop run.at s) ≡ item_in s s e.key e.act ∷ read_as Announced (drop e.next s)
        first_field = rw q at x.is

        pub list_says : Says s e.key e.act
        list_says =
            let f = rw q at x.fits in
            let a : All (Valid Delta) (item_in s s e.key e.act ∷ read_as Announced (drop e.next s)) = rw first_field at p.listed.valid in
            record { key_in_lem = f.key; valid = a.0 }

        pub list_less : length s - e.next < length s - at
        list_less = let f = rw q at x.fits in omega (arith, p.on, f.ahead, f.ready.within)

        pub list_again : (o' : Bytes) (t' : Tally) → ItemIs v (item_in s s e.key e.act) run.tally o₁ o' t' → Listing v s o₀ e.next o' t'
        list_again o' t' z =
            let f = rw q at x.fits in
            record {
              long = z.same ∙ list_long;
              listed = listed_more s run.at e.next run.tally t' (item_in s s e.key e.act) p.listed f.ahead f.ready z.steps first_field;
              left = left_one v run.tally o₁ _ start o₀ _ left (item_in s s e.key e.act) (read_as Announced (drop e.next s)) o' t' first_field z;
            }

pub ruleset listing = (list_start, list_listed, list_ready, list_room, list_long, list_end, list_says, list_less, list_again)
