-- Items of each kind before and after a delta is applied, by the tags of their fields.
use Prim.Native.Nat.{ℕ, suc, ◌+◌, ◌*◌}
use mathlib.Core.Path.{◌≡◌, refl, sym, ap, ap₂, ◌∙◌}
use mathlib.Core.List.{List, [], ◌∷◌, map}
use mathlib.Core.Bool.{Bool, true, false, cond}
use native.Mathlib.Omega.{arith}
use lib.Dec.{eqb}
use lib.ListN.{length, get_or}
use borrow.Author.Tests.{eq-eqb, ne_eqb, eqb-true, eqb-false}
use Rattle.order.specs.Comparison.{bytes}
use Rattle.order.specs.Map.{All}
use Rattle.order.proofs.Comparison.{strings}
use Rattle.change.specs.Change.{Change, announce, withdraw, update}
use Rattle.change.specs.Difference as change
use Rattle.change.specs.Balance.{brings, takes, of_kind, brought, taken}
use Rattle.change.proofs.Balance as maps
use Rattle.body.specs.declared.tag.Form.{Form}
use Rattle.body.specs.declared.tag.Form.TheVariants.{Snapshot, Delta}
use Rattle.body.specs.Tag.{tag_of, kind_of}
use Rattle.field.specs.Key.{key_of}
use Rattle.field.specs.Verdict.{verdict}
use Rattle.field.specs.Cells.{Cell, cells}
use Rattle.field.specs.Run.{Run, done, more}
use Rattle.field.proofs.Run.{fine_run, cells_end, cells_more}
use Rattle.payload.specs.Content.{Bytes, digit, entry_of, cell_for}
use Rattle.payload.specs.Count.{is_announced, is_withdrawn, count_tags}
use Rattle.payload.specs.Payload.{entries, items, changes}
use Rattle.payload.proofs.Faithful.{entries_end, entries_more}
use Rattle.payload.proofs.Known as known
use Rattle.payload.proofs.Known.{Known}
use Rattle.delta.specs.Demand.{GoodSnapshot}
use Rattle.delta.specs.Shortest.{LeadsTo, tagged, Balance}
use Rattle.delta.proofs.Differences.{good_map}
use Rattle.delta.proofs.Leading.{leads_after, leads_fine, leads_map}
use Rattle.std.specs.Prelude.{Ok}

-- a good field has the tag of what it says
tag_known : (form : Form) (tag : ℕ) (b : Bytes) → Known form tag → (cell_for form (entry_of form (record { tag = tag; body = b }))).tag ≡ tag
unfolding tag_of kind_of key_of
tag_known Snapshot tag b known.origin = refl
tag_known Snapshot tag b known.router_key = refl
tag_known Snapshot tag b known.aspa = refl
tag_known Delta tag b known.announced_origin = refl
tag_known Delta tag b known.withdrawn_origin = refl
tag_known Delta tag b known.announced_key = refl
tag_known Delta tag b known.withdrawn_key = refl
tag_known Delta tag b known.announced_aspa = refl
tag_known Delta tag b known.withdrawn_aspa = refl
tag_known Delta tag b known.updated_aspa = refl

-- so the tags of good bytes are those of what they say
tags_run : (form : Form) (test : ℕ → Bool) {k s : Bytes} → Run form k s → count_tags test (cells s) ≡ count_tags test (map (cell_for form) (entries form s))
tags_run form test done = rw (entries_end form, cells_end)
tags_run form test (more {s = s} tag b rest f g z l r) =
    rw (entries_more form s tag b rest f, cells_more s tag b rest f)
    (ap₂ (λ (m n : ℕ). m + n) (ap (λ (t : ℕ). cond (test t) 1 0) (sym (tag_known form tag b (known.known form tag b g)))) (tags_run form test r))

tags_of : (form : Form) (test : ℕ → Bool) (s : Bytes) → verdict form s ≡ Ok tt → count_tags test (cells s) ≡ count_tags test (map (cell_for form) (entries form s))
tags_of form test s e = tags_run form test (fine_run form s e)

-- the tags of one kind, in a snapshot and in a delta
shifted : (k g d : ℕ) → eqb (k * 16 + d) (g * 16 + d) ≡ eqb k g
shifted k g d = go (eqb k g) refl
  where
    go : (t : Bool) → eqb k g ≡ t → eqb (k * 16 + d) (g * 16 + d) ≡ t
    go true e = let q = eqb-true k g e in eq-eqb (k * 16 + d) (g * 16 + d) (omega arith)
    go false e = ne_eqb (k * 16 + d) (g * 16 + d) (λ q. eqb-false k g e (omega arith))

tag_brings : (k g : ℕ) (c : Change Bytes) → eqb (k * 16 + 1) (g * 16 + digit c) ≡ brings (eqb k g) c
tag_brings k g (announce n) = shifted k g 1
tag_brings k g (withdraw p) = ne_eqb (k * 16 + 1) (g * 16 + 2) (λ q. omega arith)
tag_brings k g (update p n) = ne_eqb (k * 16 + 1) (g * 16 + 3) (λ q. omega arith)

tag_takes : (k g : ℕ) (c : Change Bytes) → eqb (k * 16 + 2) (g * 16 + digit c) ≡ takes (eqb k g) c
tag_takes k g (announce n) = ne_eqb (k * 16 + 2) (g * 16 + 1) (λ q. omega arith)
tag_takes k g (withdraw p) = shifted k g 2
tag_takes k g (update p n) = ne_eqb (k * 16 + 2) (g * 16 + 3) (λ q. omega arith)

-- keys of a kind, by their first byte
abbrev is_kind : ℕ → Bytes → Bool
is_kind k key = eqb k (get_or key 0 0)

held_tags : (k : ℕ) (A : change.Snapshot Bytes Bytes) → count_tags (eqb k) (map (cell_for Snapshot) A) ≡ of_kind (is_kind k) A
held_tags k [] = refl
held_tags k (x ∷ A) = ap (λ (n : ℕ). cond (is_kind k x.key) 1 0 + n) (held_tags k A)

brought_tags : (k : ℕ) (D : change.Delta Bytes Bytes) → count_tags (eqb (k * 16 + 1)) (map (cell_for Delta) D) ≡ brought (is_kind k) D
brought_tags k [] = refl
brought_tags k (x ∷ D) = ap₂ (λ (t : Bool) (n : ℕ). cond t 1 0 + n) (tag_brings k (get_or x.key 0 0) x.val) (brought_tags k D)

taken_tags : (k : ℕ) (D : change.Delta Bytes Bytes) → count_tags (eqb (k * 16 + 2)) (map (cell_for Delta) D) ≡ taken (is_kind k) D
taken_tags k [] = refl
taken_tags k (x ∷ D) = ap₂ (λ (t : Bool) (n : ℕ). cond t 1 0 + n) (tag_takes k (get_or x.key 0 0) x.val) (taken_tags k D)

-- ---- all kinds together

known_run : (form : Form) {k s : Bytes} → Run form k s → All (λ (c : Cell). Known form c.tag) (cells s)
known_run form done = rw cells_end tt
known_run form (more {s = s} tag b rest f g z l r) = rw (cells_more s tag b rest f) (known.known form tag b g, known_run form r)

-- the fields of a snapshot are of three tags
item_tags : (cs : List Cell) → All (λ (c : Cell). Known Snapshot c.tag) cs →
    length cs ≡ count_tags (eqb 0x01) cs + count_tags (eqb 0x02) cs + count_tags (eqb 0x03) cs
item_tags [] h = refl
item_tags (c ∷ cs) h = go c.tag h.0 (item_tags cs h.1)
  where
    go : (t : ℕ) → Known Snapshot t → length cs ≡ count_tags (eqb 0x01) cs + count_tags (eqb 0x02) cs + count_tags (eqb 0x03) cs →
        suc (length cs) ≡ (cond (eqb 0x01 t) 1 0 + count_tags (eqb 0x01) cs) + (cond (eqb 0x02 t) 1 0 + count_tags (eqb 0x02) cs) + (cond (eqb 0x03 t) 1 0 + count_tags (eqb 0x03) cs)
    go t known.origin i = omega arith
    go t known.router_key i = omega arith
    go t known.aspa i = omega arith

-- those of a delta are of four that announce and three that withdraw
abbrev Announced : List Cell → Type 0
Announced cs = count_tags is_announced cs ≡ count_tags (eqb 0x11) cs + count_tags (eqb 0x21) cs + count_tags (eqb 0x31) cs + count_tags (eqb 0x33) cs

announced_tags : (cs : List Cell) → All (λ (c : Cell). Known Delta c.tag) cs → Announced cs
announced_tags [] h = refl
announced_tags (c ∷ cs) h = go c.tag c.body h.0 (announced_tags cs h.1)
  where
    go : (t : ℕ) (b : Bytes) → Known Delta t → Announced cs → Announced (record { tag = t; body = b } ∷ cs)
    go t b known.announced_origin i = omega arith
    go t b known.withdrawn_origin i = omega arith
    go t b known.announced_key i = omega arith
    go t b known.withdrawn_key i = omega arith
    go t b known.announced_aspa i = omega arith
    go t b known.withdrawn_aspa i = omega arith
    go t b known.updated_aspa i = omega arith

abbrev Withdrawn : List Cell → Type 0
Withdrawn cs = count_tags is_withdrawn cs ≡ count_tags (eqb 0x12) cs + count_tags (eqb 0x22) cs + count_tags (eqb 0x32) cs

withdrawn_tags : (cs : List Cell) → All (λ (c : Cell). Known Delta c.tag) cs → Withdrawn cs
withdrawn_tags [] h = refl
withdrawn_tags (c ∷ cs) h = go c.tag c.body h.0 (withdrawn_tags cs h.1)
  where
    go : (t : ℕ) (b : Bytes) → Known Delta t → Withdrawn cs → Withdrawn (record { tag = t; body = b } ∷ cs)
    go t b known.announced_origin i = omega arith
    go t b known.withdrawn_origin i = omega arith
    go t b known.announced_key i = omega arith
    go t b known.withdrawn_key i = omega arith
    go t b known.announced_aspa i = omega arith
    go t b known.withdrawn_aspa i = omega arith
    go t b known.updated_aspa i = omega arith

-- ---- a delta that leads from A to C

module _ (A C D : Bytes) (a : GoodSnapshot A) (l : LeadsTo A C D) where
  even_map : (k : ℕ) → of_kind (is_kind k) (items C) + taken (is_kind k) (changes D) ≡ of_kind (is_kind k) (items A) + brought (is_kind k) (changes D)
  even_map k =
      rw (leads_after A C D a l)
      (maps.balance strings bytes (is_kind k) (items A) (changes D) (good_map A a).sorted (leads_map A C D a l).ascends (leads_map A C D a l).applies)

  -- of the kind k
  even : verdict Snapshot C ≡ Ok tt → (k : ℕ) → tagged k C + tagged (k * 16 + 2) D ≡ tagged k A + tagged (k * 16 + 1) D
  even c k =
      rw (
        tags_of Snapshot (eqb k) C c ∙ held_tags k (items C),
        tags_of Delta (eqb (k * 16 + 2)) D l.fine ∙ taken_tags k (changes D),
        tags_of Snapshot (eqb k) A a.fine ∙ held_tags k (items A),
        tags_of Delta (eqb (k * 16 + 1)) D l.fine ∙ brought_tags k (changes D),
      ) (even_map k)

  pub balanced : Balance A D C
  balanced =
      let c = leads_fine A C D a l in
      let o : tagged 0x01 C + tagged 0x12 D ≡ tagged 0x01 A + tagged 0x11 D = even c 1 in
      let r : tagged 0x02 C + tagged 0x22 D ≡ tagged 0x02 A + tagged 0x21 D = even c 2 in
      let s : tagged 0x03 C + tagged 0x32 D ≡ tagged 0x03 A + tagged 0x31 D = even c 3 in
      let x = item_tags (cells C) (known_run Snapshot (fine_run Snapshot C c)) in
      let y = item_tags (cells A) (known_run Snapshot (fine_run Snapshot A a.fine)) in
      let n = announced_tags (cells D) (known_run Delta (fine_run Delta D l.fine)) in
      let w = withdrawn_tags (cells D) (known_run Delta (fine_run Delta D l.fine)) in
      record { origins = o; router_keys = r; customers = s; all = omega (arith, x, y, n, w) }
