-- Laws of writing what the messages leave of the snapshot.
use Prim.Native.Nat.{ℕ, zero, suc, ◌+◌, ◌-◌, ◌^◌, ◌<◌, ◌≤◌}
use mathlib.Core.Path.{◌≡◌, refl, sym, ap, ap₂, subst, ◌∙◌}
use mathlib.Core.List.{List, [], ◌∷◌, ◌++◌, append-nil, append_assoc}
use mathlib.Core.Bool.{Bool, true, false, not, cond}
use mathlib.Core.Option.{none, some}
use native.Mathlib.Omega.{arith}
use lib.Dec.{ltb}
use native.Mathlib.Numerals.{add-one}
use borrow.Author.Tests.{eq-eqb, ne_eqb, not-true, not-false}
use mir.Syntax.{w8, w64}
use mir.Val.{Fits}
use lib.ListN.{length, get_or, drop, length-append, length-take, length-drop, drop_of_length-le}
use lib.Seq.{sets, length-sets, take_all, drop-cons}
use Rattle.std.specs.declared.cmp.Ordering.TheVariants.{Less, Equal}
use Rattle.order.specs.Comparison.{bytes}
use Rattle.order.specs.Map.{Item, All, Below}
use Rattle.order.specs.Walk.{emit}
use Rattle.order.proofs.Comparison.{strings}
use Rattle.order.proofs.Walk.{walk_equal}
use Rattle.change.specs.Change.{Change, announce, withdraw}
use Rattle.change.specs.Difference as change
use Rattle.change.specs.Application.{apply, apply_at}
use Rattle.change.proofs.Whole.{apply_none}
use Rattle.number.specs.Bytes.{part}
use Rattle.body.specs.declared.tag.Form.TheVariants.{Snapshot}
use Rattle.field.specs.Cells.{field}
use Rattle.field.specs.Cells as run
use Rattle.payload.specs.Content.{Bytes}
use Rattle.payload.specs.Payload.{encode, items}
use Rattle.item.specs.declared.reading.Reading.TheVariants.{Announced}
use Rattle.item.specs.Place.{part_in, Lies}
use Rattle.item.specs.Reading.{Ready}
use Rattle.item.proofs.Sinking.{sets_append}
use Rattle.walk.proofs.Walking.{walk_left_first, walk_right_first}
use Rattle.message.specs.Take.{as_item}
use Rattle.heard.specs.Field.{record_field}
use Rattle.heard.specs.Place.{key_at, announces_at, told_at, Payload}
use Rattle.judge.specs.declared.write.Write.{Write}
use Rattle.judge.specs.Walk.{follows, settle, settled}
use Rattle.item.specs.declared.place.Part.{Part}
use Rattle.judge.specs.State.{Last, no, one, Next, Chain, last_of, Finds, settle_from, left_over, Written, Fitting, Ending, Writes, settled_field, Settles}
use Rattle.judge.proofs.Settled.{settle_end, settle_same, settle_other, settled_end, settled_more}
use Rattle.judge.proofs.Sorting.{follows_same}
use Rattle.judge.proofs.Finding.{encode_append, bytes_from}
use Rattle.judge.proofs.Checking.{follows_key, last_payload, chain_next, chain_rest}

abbrev S : Type 0
S = change.Snapshot Bytes Bytes

abbrev D : Type 0
D = change.Delta Bytes Bytes

-- ---- settle

module _ (s : Bytes) (last : ℕ) where
  field_first : last ≡ 0 → settled_field s last ≡ []
  unfolding settled_field
  field_first e = rw (eq-eqb last 0 e)

  field_is : (last ≡ 0 → ⊥) → settled_field s last ≡ cond (announces_at s last) (record_field (key_at s last)) []
  unfolding settled_field
  field_is e = rw (ne_eqb last 0 e)

  module _ (o : Bytes) (end : ℕ) where
    none_end : settled_field s last ≡ [] → end ≡ end + length (settled_field s last)
    none_end e = omega (arith, ap length e)

    none_out : settled_field s last ≡ [] → o ≡ sets o end (settled_field s last)
    none_out e = sym (ap (sets o end) e)

    pub first_end : last ≡ 0 → end ≡ end + length (settled_field s last)
    first_end e = none_end (field_first e)

    pub first_out : last ≡ 0 → o ≡ sets o end (settled_field s last)
    first_out e = none_out (field_first e)

    pub settles_payload : Settles s last o end → (last ≡ 0 → ⊥) → Payload s last
    settles_payload h e = last_payload s last h.told e

    module _ (e : last ≡ 0 → ⊥) (t : Bool) (f : t ≡ announces_at s last) where
      gone : not t ≡ true → settled_field s last ≡ []
      gone k = field_is e ∙ ap (λ (b : Bool). cond b (record_field (key_at s last)) []) (sym f ∙ not-true t k)

      pub gone_end : not t ≡ true → end ≡ end + length (settled_field s last)
      gone_end k = none_end (gone k)

      pub gone_out : not t ≡ true → o ≡ sets o end (settled_field s last)
      gone_out k = none_out (gone k)

      module _ (k : not t ≡ false) where
        kept : settled_field s last ≡ record_field (key_at s last)
        kept = field_is e ∙ ap (λ (b : Bool). cond b (record_field (key_at s last)) []) (sym f ∙ not-false t k)

        pub kept_room : Settles s last o end → end + length (record_field (key_at s last)) ≤ length o
        kept_room h = omega (arith, ap length kept, h.room)

        pub kept_out : (p : Bytes) → p ≡ sets o end (record_field (key_at s last)) → p ≡ sets o end (settled_field s last)
        kept_out p d = d ∙ ap (sets o end) (sym kept)

        module _ (size : ℕ) (z : size ≡ length (record_field (key_at s last))) where
          pub kept_end : end + size ≡ end + length (settled_field s last)
          kept_end = omega (arith, z, ap length kept)

          pub kept_add : Settles s last o end → Fits w64 (length o) → end + size < 2 ^ 64
          kept_add h w = omega (arith, z, ap length kept, h.room, w.fits)

pub ruleset settling = (first_end, first_out, settles_payload, gone_end, gone_out, kept_room, kept_out, kept_end, kept_add)

-- ---- what becomes of records, from one on

abbrev says : Bool → Change Bytes
says b = cond b (announce []) (withdraw [])

-- the first speaks of the record of x
record Heads (s : Bytes) (x : ℕ) (d : D) : Type 0 where
  flag : Bool
  rest : D
  is : d ≡ record { key = key_at s x; val = says flag } ∷ rest

heads : (s : Bytes) (x : ℕ) (zs : List ℕ) → Heads s x (settle s x zs)
heads s x [] = record { flag = announces_at s x; rest = []; is = settle_end s x }
heads s x (y ∷ zs) = go (follows s x y) refl (heads s y zs)
  where
    go : (b : Bool) → follows s x y ≡ b → Heads s y (settle s y zs) → Heads s x (settle s x (y ∷ zs))
    go true e i = record { flag = i.flag; rest = i.rest; is = settle_same s x y zs e ∙ i.is ∙ ap (λ (k : Bytes). record { key = k; val = says i.flag } ∷ i.rest) (sym (follows_same s x y e)) }
    go false e i = record { flag = announces_at s x; rest = settle s y zs; is = settle_other s x y zs e }

from_some : (s : Bytes) (last : ℕ) (zs : List ℕ) → 1 ≤ last → settle_from s last zs ≡ settle s last zs
unfolding settle_from
from_some s last zs h = rw (ne_eqb last 0 (λ e. omega arith))

pub from_none : (s : Bytes) (zs : List ℕ) → settle_from s 0 zs ≡ settled s zs
unfolding settle_from
from_none s zs = refl

-- ---- application, from the front

apply_pass : (A B : S) (y : Item Bytes (Change Bytes)) (d : D) → All (λ (x : Item Bytes Bytes). bytes x.key y.key ≡ Less) A → apply bytes (A ++ B) (y ∷ d) ≡ A ++ apply bytes B (y ∷ d)
apply_pass [] B y d h = refl
apply_pass (x ∷ A) B y d h = walk_left_first apply_at x (A ++ B) (y ∷ d) h.0 ∙ ap (λ (l : S). x ∷ l) (apply_pass A B y d h.1)

apply_first : (A : S) (k : Bytes) (b : Bool) (d : D) → Below bytes k A → apply bytes A (record { key = k; val = says b } ∷ d) ≡ emit k (apply_at none (some (says b))) (apply bytes A d)
apply_first A k b d h = walk_right_first apply_at A (record { key = k; val = says b }) d h

-- an item of the same record is replaced
apply_here : (H A : S) (k : Bytes) (b c : Bool) (d : D) → All (λ (x : Item Bytes Bytes). x.key ≡ k) H → length H ≡ cond c 1 0 → Below bytes k A →
    apply bytes (H ++ A) (record { key = k; val = says b } ∷ d) ≡ apply bytes A (record { key = k; val = says b } ∷ d)
apply_here [] A k b c d p q h = refl
apply_here (x ∷ []) A k b c d p q h =
    let e : bytes x.key k ≡ Equal = rw p.0 (strings.self k) in
    walk_equal bytes apply_at x A (record { key = k; val = says b }) d e ∙ rw (p.0, apply_first A k b d h) (same b)
  where
    same : (b : Bool) → emit k (apply_at (some x.val) (some (says b))) (apply bytes A d) ≡ emit k (apply_at none (some (says b))) (apply bytes A d)
    same true = refl
    same false = refl
apply_here (x ∷ y ∷ H) A k b c d p q h = absurd (go c q)
  where
    go : (c : Bool) → length (x ∷ y ∷ H) ≡ cond c 1 0 → ⊥
    go true q = omega (arith, q)
    go false q = omega (arith, q)

emit_field : (k : Bytes) (b : Bool) (A : S) → encode Snapshot (emit k (apply_at none (some (says b))) A) ≡ cond b (record_field k) [] ++ encode Snapshot A
unfolding encode run.cell_bytes
emit_field k true A = ap (λ (l : Bytes). field (get_or k 0 0) l ++ encode Snapshot A) (append-nil (drop 1 k))
emit_field k false A = refl

-- ---- what is left to write, by what the next message is

-- the last record's field goes first
last_field : (s : Bytes) (last : ℕ) → 1 ≤ last → (A : S) → Below bytes (key_at s last) A → (d : D) →
    encode Snapshot (apply bytes A (as_item (told_at s last) ∷ d)) ≡ settled_field s last ++ encode Snapshot (apply bytes A d)
last_field s last h A b d =
    ap (encode Snapshot) (apply_first A (key_at s last) (announces_at s last) d b) ∙ emit_field (key_at s last) (announces_at s last) (apply bytes A d)
    ∙ ap (λ (l : Bytes). l ++ encode Snapshot (apply bytes A d)) (sym (field_is s last (λ e. omega arith)))

other_step : (s : Bytes) (last x : ℕ) → Last s last → (A : S) → (1 ≤ last → Below bytes (key_at s last) A) → follows s last x ≡ false → (zs : List ℕ) →
    encode Snapshot (apply bytes A (settle_from s last (x ∷ zs))) ≡ settled_field s last ++ encode Snapshot (apply bytes A (settle s x zs))
other_step s last x no A b e zs =
    ap (λ (d : D). encode Snapshot (apply bytes A d)) (from_none s (x ∷ zs) ∙ settled_more s x zs)
    ∙ ap (λ (l : Bytes). l ++ encode Snapshot (apply bytes A (settle s x zs))) (sym (field_first s 0 refl))
other_step s last x (one p h) A b e zs =
    ap (λ (d : D). encode Snapshot (apply bytes A d)) (from_some s last (x ∷ zs) h ∙ settle_other s last x zs e) ∙ last_field s last h A (b h) (settle s x zs)

end_step : (s : Bytes) (last : ℕ) → Last s last → (A : S) → (1 ≤ last → Below bytes (key_at s last) A) →
    encode Snapshot (apply bytes A (settle_from s last [])) ≡ settled_field s last ++ encode Snapshot A
end_step s last no A b =
    ap (λ (d : D). encode Snapshot (apply bytes A d)) (from_none s [] ∙ settled_end s) ∙ ap (encode Snapshot) (apply_none bytes bytes A)
    ∙ ap (λ (l : Bytes). l ++ encode Snapshot A) (sym (field_first s 0 refl))
end_step s last (one p h) A b =
    ap (λ (d : D). encode Snapshot (apply bytes A d)) (from_some s last [] h ∙ settle_end s last) ∙ last_field s last h A (b h) []
    ∙ ap (λ (l : S). settled_field s last ++ encode Snapshot l) (apply_none bytes bytes A)

-- what the snapshot has below the record is copied
found_step : (a s : Bytes) (from x : ℕ) (r : Part) → Finds a from (key_at s x) r → (zs : List ℕ) →
    encode Snapshot (apply bytes (items (drop from a)) (settle s x zs)) ≡ part a from r.from ++ encode Snapshot (apply bytes (items (drop r.to a)) (settle s x zs))
found_step a s from x r f zs =
    let g = heads s x zs in
    let B : S = items (drop r.to a) in
    let y : Item Bytes (Change Bytes) = record { key = key_at s x; val = says g.flag } in
    let z : apply bytes (items (drop from a)) (y ∷ g.rest) ≡ f.passed ++ apply bytes B (y ∷ g.rest)
    = ap (λ (l : S). apply bytes l (y ∷ g.rest)) f.split ∙ apply_pass f.passed (f.here ++ B) y g.rest f.low
    ∙ ap (λ (l : S). f.passed ++ l) (apply_here f.here B (key_at s x) g.flag (ltb r.from r.to) g.rest f.is_here f.counted f.rest) in
    rw g.is (ap (encode Snapshot) z ∙ encode_append f.passed (apply bytes B (y ∷ g.rest)) ∙ ap (λ (l : Bytes). l ++ encode Snapshot (apply bytes B (y ∷ g.rest))) f.bytes_are)

part_size_lem : (a : Bytes) (from to : ℕ) → to ≤ length a → length (part a from to) ≡ to - from
part_size_lem a from to h = omega (arith, length-take (to - from) (drop from a), length-drop from a)

-- ---- write_one

module _ (a s : Bytes) (w : Write) (x : ℕ) (h : Written a s w) where
  pub written_last : Last s w.last
  written_last = h.last

  pub written_ready : Ready Announced a w.field
  written_ready = h.ready

  module _ (n : Next s w.last x) (t : Bool) (e : t ≡ follows s w.last x) where
    pub write_follows : t ≡ true → (o : Bytes) → Writes a s w (x ∷ []) o o (record { last = x; field = w.field; end = w.end })
    write_follows q o =
        let k = follows_key s w.last x (sym e ∙ q) in
        let p : 1 ≤ w.last = some w.last k.0 in
        record {
          written = record { ready = h.ready; last = one n.payload n.behind; above = λ b. subst (λ (y : Bytes). Below bytes y (items (drop w.field a))) k.1 (h.above p) };
          last = refl;
          laid = [];
          same = λ zs. ap (λ (d : D). encode Snapshot (apply bytes (items (drop w.field a)) d))
              (from_some s w.last (x ∷ zs) p ∙ settle_same s w.last x zs (sym e ∙ q) ∙ sym (from_some s x zs n.behind));
          out = refl;
          end = omega arith;
        }
      where
        some : (l : ℕ) → (l ≡ 0 → ⊥) → 1 ≤ l
        some zero z = absurd (z refl)
        some (suc l) z = omega arith

    module _ (q : t ≡ false) (r : Part) (f : Finds a w.field (key_at s x) r) where
      abbrev kept_field : Bytes
      kept_field = settled_field s w.last

      abbrev copied : Bytes
      copied = part a w.field r.from

      left_is : (m : ℕ) (zs : List ℕ) → left_over a s w (x ∷ zs) ≡ kept_field ++ (copied ++ left_over a s (record { last = x; field = r.to; end = m }) zs)
      left_is m zs =
          other_step s w.last x h.last (items (drop w.field a)) h.above (sym e ∙ q) zs
          ∙ ap (λ (l : Bytes). kept_field ++ l)
          (found_step a s w.field x r f zs ∙ ap (λ (d : D). copied ++ encode Snapshot (apply bytes (items (drop r.to a)) d)) (sym (from_some s x zs n.behind)))

      copied_size : length copied ≡ r.from - w.field
      copied_size = part_size_lem a w.field r.from f.within

      module _ (o : Bytes) (g : Fitting a s w (x ∷ []) o) where
        enough : w.end + (length kept_field + (r.from - w.field)) ≤ length o
        enough =
            let l : Bytes = left_over a s (record { last = x; field = r.to; end = 0 }) g.others in
            let z = ap length (left_is 0 g.others) in
            let u = length-append kept_field (copied ++ l) in
            let v = length-append copied l in
            omega (arith, z, u, v, g.room, copied_size)

        pub write_settles : Settles s w.last o w.end
        write_settles = record { told = h.last; room = omega (arith, enough) }

        pub write_add : (m : ℕ) → m ≡ w.end + length (settled_field s w.last) → Fits w64 (length o) → m + (r.from - w.field) < 2 ^ 64
        write_add m z u = omega (arith, enough, z, u.fits)

      pub write_lies : Lies a (record { from = w.field; to = r.from })
      write_lies = record { ordered = f.on; within = f.within }

      pub write_found : (o p u : Bytes) (m : ℕ) → m ≡ w.end + length (settled_field s w.last) → p ≡ sets o w.end (settled_field s w.last) →
          u ≡ sets p m (part_in a (record { from = w.field; to = r.from })) → Writes a s w (x ∷ []) o u (record { last = x; field = r.to; end = m + (r.from - w.field) })
      write_found o p u m z i j = record {
        written = record { ready = f.ready; last = one n.payload n.behind; above = λ b. f.rest };
        last = refl;
        laid = kept_field ++ copied;
        same = λ zs. left_is (m + (r.from - w.field)) zs ∙ sym (append_assoc kept_field copied (left_over a s (record { last = x; field = r.to; end = m + (r.from - w.field) }) zs));
        out = j ∙ ap₂ (λ (l : Bytes) (k : ℕ). sets l k copied) i z ∙ sym (sets_append kept_field copied o w.end);
        end = omega (arith, z, copied_size, length-append kept_field copied);
      }

pub ruleset writes_one = (written_last, written_ready, write_follows, write_settles, write_add, write_lies, write_found)

-- ---- write_batch

pub record Writing (a s : Bytes) (xs : List ℕ) (o₀ : Bytes) (w₀ : Write) (o : Bytes) (w : Write) (i : ℕ) : Type 0 where
  pub written : Written a s w
  pub chain : Chain s w.last (drop i xs)
  pub last : last_of w.last (drop i xs) ≡ last_of w₀.last xs
  pub laid : Bytes
  pub same : (zs : List ℕ) → left_over a s w₀ (xs ++ zs) ≡ laid ++ left_over a s w (drop i xs ++ zs)
  pub out : o ≡ sets o₀ w₀.end laid
  pub out_len : length o ≡ length o₀
  pub end : w.end ≡ w₀.end + length laid
  pub fitting : Fitting a s w₀ xs o₀

pub writing_start : (a s : Bytes) (xs : List ℕ) (o : Bytes) (w : Write) → Written a s w → Chain s w.last xs → Fitting a s w xs o → Writing a s xs o w o w 0
writing_start a s xs o w h b f = record {
  written = h;
  chain = b;
  last = refl;
  laid = [];
  same = λ zs. refl;
  out = refl;
  out_len = refl;
  end = omega arith;
  fitting = f;
}

module _ (a s : Bytes) (xs : List ℕ) (o₀ : Bytes) (w₀ : Write) (o : Bytes) (w : Write) (i : ℕ) (h : Writing a s xs o₀ w₀ o w i) where
  pub writing_written : Written a s w
  writing_written = h.written

  module _ (l : i < length xs) where
    abbrev rest : List ℕ
    rest = drop (i + 1) xs

    split : drop i xs ≡ get_or xs i 0 ∷ rest
    split = rw add-one (drop-cons xs i 0 l)

    pub writing_next : Next s w.last (get_or xs i 0)
    writing_next = chain_next s w.last (get_or xs i 0) rest (subst (Chain s w.last) split h.chain)

    step : (zs : List ℕ) → left_over a s w₀ (xs ++ zs) ≡ h.laid ++ left_over a s w (get_or xs i 0 ∷ (rest ++ zs))
    step zs = h.same zs ∙ ap (λ (k : List ℕ). h.laid ++ left_over a s w (k ++ zs)) split

    pub writing_fits : Fitting a s w (get_or xs i 0 ∷ []) o
    writing_fits =
        let z = ap length (step h.fitting.others) in
        let u = length-append h.laid (left_over a s w (get_or xs i 0 ∷ (rest ++ h.fitting.others))) in
        let v = ap length h.out in
        record { others = rest ++ h.fitting.others; room = omega (arith, z, u, v, length-sets o₀ w₀.end h.laid, h.end, h.fitting.room) }

    pub writing_again : (p : Bytes) (r : Write) → Writes a s w (get_or xs i 0 ∷ []) o p r → Writing a s xs o₀ w₀ p r (i + 1)
    writing_again p r q = record {
      written = q.written;
      chain = rw q.last (chain_rest s w.last (get_or xs i 0) rest (subst (Chain s w.last) split h.chain));
      last = rw q.last (ap (last_of w.last) (sym split) ∙ h.last);
      laid = h.laid ++ q.laid;
      same = λ zs. step zs ∙ ap (λ (k : Bytes). h.laid ++ k) (q.same (rest ++ zs)) ∙ sym (append_assoc h.laid q.laid (left_over a s r (rest ++ zs)));
      out = q.out ∙ ap₂ (λ (k : Bytes) (m : ℕ). sets k m q.laid) h.out h.end ∙ sym (sets_append h.laid q.laid o₀ w₀.end);
      out_len = ap length q.out ∙ length-sets o w.end q.laid ∙ h.out_len;
      end = omega (arith, q.end, h.end, length-append h.laid q.laid);
      fitting = h.fitting;
    }

  pub writing_end : length xs ≤ i → Writes a s w₀ xs o₀ o w
  writing_end l =
      let z : drop i xs ≡ [] = drop_of_length-le xs {i = i} l in
      record {
        written = h.written;
        last = ap (last_of w.last) (sym z) ∙ h.last;
        laid = h.laid;
        same = λ zs. h.same zs ∙ ap (λ (k : List ℕ). h.laid ++ left_over a s w (k ++ zs)) z;
        out = h.out;
        end = h.end;
      }

pub ruleset writing = (writing_start, writing_written, writing_next, writing_fits, writing_again, writing_end)

-- ---- put_rest

module _ (a s : Bytes) (w : Write) (h : Written a s w) where
  pub rest_lies : Lies a (record { from = w.field; to = length a })
  rest_lies = record { ordered = h.ready.within; within = omega arith }

  module _ (oa : (i : ℕ) → Fits w8 (get_or a i 0)) where
    rest_is : left_over a s w [] ≡ settled_field s w.last ++ drop w.field a
    rest_is = end_step s w.last h.last (items (drop w.field a)) h.above ∙ ap (λ (l : Bytes). settled_field s w.last ++ l) (bytes_from a w.field h.ready oa)

    pub rest_settles : (o : Bytes) → Ending a s w o → Settles s w.last o w.end
    rest_settles o f = record { told = h.last; room = omega (arith, f.room, ap length rest_is, length-append (settled_field s w.last) (drop w.field a)) }

    pub rest_out : (o p u : Bytes) (m : ℕ) → m ≡ w.end + length (settled_field s w.last) → p ≡ sets o w.end (settled_field s w.last) →
        u ≡ sets p m (part_in a (record { from = w.field; to = length a })) → u ≡ sets o w.end (left_over a s w [])
    rest_out o p u m z i j =
        let k : part a w.field (length a) ≡ drop w.field a = take_all (length a - w.field) (drop w.field a) (omega (arith, length-drop w.field a)) in
        j ∙ ap (sets p m) k ∙ ap₂ (λ (l : Bytes) (n : ℕ). sets l n (drop w.field a)) i z
        ∙ sym (sets_append (settled_field s w.last) (drop w.field a) o w.end) ∙ ap (sets o w.end) (sym rest_is)

pub ruleset resting = (rest_lies, rest_settles, rest_out)
