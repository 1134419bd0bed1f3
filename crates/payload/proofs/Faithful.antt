-- Good snapshots and deltas are the maps of valid items, each with exactly one byte form.
use Prim.Native.Nat.{ℕ, suc, ◌≤◌, ◌<◌}
use mathlib.Core.Path.{◌≡◌, refl, sym, ap, ap₂, ◌∙◌}
use mathlib.Core.List.{[], List, ◌∷◌, ◌++◌, map}
use native.Mathlib.Omega.{arith}
use native.Mathlib.Decide.{dec_le}
use lib.ListN.{length, get_or, get_or-append, get_or-eq_default}
use Rattle.std.specs.declared.cmp.Ordering.TheVariants.{Less}
use Rattle.order.specs.Comparison.{bytes}
use Rattle.order.specs.Map.{Item, All, Below, Sorted}
use Rattle.change.specs.Change.{Change}
use Rattle.number.specs.Bytes.{AllBytes}
use Rattle.body.specs.declared.tag.Form.{Form}
use Rattle.body.specs.declared.tag.Form.TheVariants.{Snapshot, Delta}
use Rattle.body.specs.Tag.{kind_of}
use Rattle.field.specs.Key.{key_of}
use Rattle.field.specs.Head.{front, whole}
use Rattle.field.specs.Verdict.{verdict}
use Rattle.field.specs.Cells.{Cell, cells, field}
use Rattle.field.specs.Cells as run
use Rattle.field.specs.Run.{Run, done, more}
use Rattle.field.proofs.Run.{fine_run, cells_end, cells_more}
use Rattle.field.proofs.Encode.{Ascent, none, next, ascent_fine, cells_encode, encode_cells, field_front, rest_bytes}
use Rattle.payload.specs.Content.{Bytes, Content, entry_of, cell_for}
use Rattle.payload.specs.Valid.{ValidValue, ValidChange, Valid, IsMap, origin, router_key, aspa, valid_announce, valid_withdraw, valid_update}
use Rattle.payload.specs.Payload.{entries, encode}
use Rattle.payload.proofs.Back.{says_valid, says_back}
use Rattle.payload.proofs.Forth.{Good, good}
use Rattle.std.specs.Prelude.{Ok}

-- the body of a field of bytes is of bytes
pub body_bytes : (s : Bytes) (tag : ℕ) (b rest : Bytes) → AllBytes s → s ≡ field tag b ++ rest → AllBytes b
unfolding field
body_bytes s tag b rest o e i = go (dec_le (length b) i)
  where
    go : Dec (length b ≤ i) → get_or b i 0 < 256
    go (yes l) = rw (get_or-eq_default b 0 l) (omega arith)
    go (no l) =
        let h : i < length b = omega arith in
        rw (get_or-append b rest 0 i h) at (rw e at (o (suc (suc (suc i)))))

pub entries_end : (form : Form) → entries form [] ≡ []
unfolding entries
entries_end form = ap (map (entry_of form)) cells_end

pub entries_more : (form : Form) (s : Bytes) (tag : ℕ) (b rest : Bytes) → front s ≡ whole tag b rest →
    entries form s ≡ entry_of form (record { tag = tag; body = b }) ∷ entries form rest
unfolding entries
entries_more form s tag b rest e = ap (map (entry_of form)) (cells_more s tag b rest e)

-- a good run, read: above the key before it, ascending and valid
pub record Read (form : Form) (k s : Bytes) : Type 0 where
  pub above : Below bytes k (entries form s)
  pub sorted : Sorted bytes (entries form s)
  pub valid : All (Valid form) (entries form s)

pub read : (form : Form) {k s : Bytes} → Run form k s → Read form k s
read form done = let e = entries_end form in record { above = rw e tt; sorted = rw e tt; valid = rw e tt }
read form (more {s = s} tag b rest f g z l r) =
    let i : Read form (key_of (kind_of form tag) b) rest = read form r in
    let e = entries_more form s tag b rest f in
    record { above = rw e l; sorted = rw e (i.above, i.sorted); valid = rw e (says_valid form tag b g z, i.valid) }

-- and its cells are those of what they say
cells_back : (form : Form) {k s : Bytes} → Run form k s → AllBytes s → map (cell_for form) (entries form s) ≡ cells s
cells_back form done o = rw (entries_end form, cells_end)
cells_back form (more {s = s} tag b rest f g z l r) o =
    let w : s ≡ field tag b ++ rest = field_front s tag b rest o f in
    rw (entries_more form s tag b rest f, cells_more s tag b rest f)
    (ap₂ (λ (c : Cell) (cs : List Cell). c ∷ cs) (says_back form tag b (body_bytes s tag b rest o w) g)
    (cells_back form r (rest_bytes s tag b rest o w)))

-- so its bytes are those of what it says
pub run_back : (form : Form) {k s : Bytes} → Run form k s → AllBytes s → encode form (entries form s) ≡ s
unfolding encode
run_back form r o = ap run.cell_bytes (cells_back form r o) ∙ encode_cells form r o

-- a valid key stands above the one that stands before each run
lowest_value : {k v : Bytes} → ValidValue k v → bytes (0 ∷ []) k ≡ Less
lowest_value (origin h) = refl
lowest_value (router_key h) = refl
lowest_value (aspa e h z) = refl

lowest_change : {k : Bytes} {c : Change Bytes} → ValidChange k c → bytes (0 ∷ []) k ≡ Less
lowest_change (valid_announce h) = lowest_value h
lowest_change (valid_withdraw h) = lowest_value h
lowest_change (valid_update g h) = refl

lowest : (form : Form) (x : Item Bytes (Content form)) → Valid form x → bytes (0 ∷ []) x.key ≡ Less
lowest Snapshot x h = lowest_value h
lowest Delta x h = lowest_change h

module _ (form : Form) where
  -- valid items in ascending order have good cells in ascending order
  ascent : (k : Bytes) (xs : List (Item Bytes (Content form))) → Below bytes k xs → Sorted bytes xs → All (Valid form) xs →
      Ascent form k (map (cell_for form) xs)
  ascent k [] b s h = none
  ascent k (x ∷ xs) b s h =
      let g : Good form x.key x.val = good form x h.0 in
      let e : key_of (kind_of form (cell_for form x).tag) (cell_for form x).body ≡ x.key = ap (λ (y : Item Bytes (Content form)). y.key) g.back in
      let l : bytes k (key_of (kind_of form (cell_for form x).tag) (cell_for form x).body) ≡ Less = rw e b in
      let r : Ascent form (key_of (kind_of form (cell_for form x).tag) (cell_for form x).body) (map (cell_for form) xs) = rw e (ascent x.key xs s.0 s.1 h.1) in
      next g.good g.sense l r

  ascent_start : (xs : List (Item Bytes (Content form))) → IsMap form xs → Ascent form (0 ∷ []) (map (cell_for form) xs)
  ascent_start [] m = none
  ascent_start (x ∷ xs) m = ascent (0 ∷ []) (x ∷ xs) (lowest form x m.valid.0) m.sorted m.valid

  said : (xs : List (Item Bytes (Content form))) → All (Valid form) xs → map (entry_of form) (map (cell_for form) xs) ≡ xs
  said [] h = refl
  said (x ∷ xs) h = ap₂ (λ (y : Item Bytes (Content form)) (ys : List (Item Bytes (Content form))). y ∷ ys) (good form x h.0).back (said xs h.1)

-- bytes and maps are one: reading good bytes gives a map, whose bytes they are; writing a map gives good bytes, which say it
pub record Faithful (form : Form) : Type 0 where
  pub map_of : (s : Bytes) → verdict form s ≡ Ok tt → IsMap form (entries form s)
  pub bytes_back : (s : Bytes) → AllBytes s → verdict form s ≡ Ok tt → encode form (entries form s) ≡ s
  pub good_bytes : (xs : List (Item Bytes (Content form))) → IsMap form xs → verdict form (encode form xs) ≡ Ok tt
  pub map_back : (xs : List (Item Bytes (Content form))) → IsMap form xs → entries form (encode form xs) ≡ xs

pub faithful : (form : Form) → Faithful form
unfolding encode entries
faithful form =
    record {
      map_of = λ s e. let r = read form (fine_run form s e) in record { sorted = r.sorted; valid = r.valid };
      bytes_back = λ s o e. run_back form (fine_run form s e) o;
      good_bytes = λ xs m. ascent_fine form (map (cell_for form) xs) (ascent_start form xs m);
      map_back = λ xs m. ap (map (entry_of form)) (cells_encode (map (cell_for form) xs)) ∙ said form xs m.valid;
    }

-- two good runs that say the same are the same bytes
pub one_form : (form : Form) (s t : Bytes) → AllBytes s → AllBytes t → verdict form s ≡ Ok tt → verdict form t ≡ Ok tt →
    entries form s ≡ entries form t → s ≡ t
one_form form s t o p e f h = sym ((faithful form).bytes_back s o e) ∙ ap (encode form) h ∙ (faithful form).bytes_back t p f
