-- Cells as bytes and back.
use Prim.Native.Nat.{ℕ, ◌+◌, ◌*◌, ◌/◌, ◌%◌, ◌<◌, ◌≤◌}
use native.Mathlib.Nat.{div-add-mod'}
use mathlib.Core.Path.{◌≡◌, ap, sym, ◌∙◌}
use mathlib.Core.List.{List, [], ◌∷◌, ◌++◌}
use mathlib.Core.Bool.{true}
use native.Mathlib.Omega.{arith}
use borrow.Author.Tests.{le-leb}
use lib.ListN.{length, length-append}
use lib.Seq.{take-append_seam, drop-append_seam, get_or-append-add}
use Rattle.std.specs.declared.cmp.Ordering.TheVariants.{Less}
use Rattle.order.specs.Comparison.{bytes}
use Rattle.number.specs.Bytes.{AllBytes}
use Rattle.body.specs.declared.tag.Form.{Form}
use Rattle.body.specs.Tag.{good_body, sensible, kind_of}
use Rattle.field.specs.Head.{whole, front}
use Rattle.field.specs.Key.{key_of}
use Rattle.field.specs.Verdict.{verdict}
use Rattle.field.specs.Cells.{Cell, cells, field, cell_bytes}
use Rattle.field.proofs.Fronts.{opens}
use Rattle.field.specs.Run.{Run, done, more}
use Rattle.field.proofs.Run.{cells_end, cells_more, run_verdict}
use Rattle.std.specs.Prelude.{Ok}

-- a field is read as it was written
pub front_field : (tag : ℕ) (b s : List ℕ) → front (field tag b ++ s) ≡ whole tag b s
unfolding front field
front_field tag b s =
    let w : length b ≤ length (b ++ s) = simp length-append (omega arith) in
    rw (div-add-mod' (length b) 256, le-leb (length b) (length (b ++ s)) w, take-append_seam b s, drop-append_seam b s)

-- cells are read as they were written
pub cells_encode : (cs : List Cell) → cells (cell_bytes cs) ≡ cs
unfolding cell_bytes
cells_encode [] = cells_end
cells_encode (c ∷ cs) =
    cells_more (field c.tag c.body ++ cell_bytes cs) c.tag c.body (cell_bytes cs) (front_field c.tag c.body (cell_bytes cs))
    ∙ ap (λ (l : List Cell). c ∷ l) (cells_encode cs)

-- ---- good cells, behind the key k

-- the key of a cell
abbrev cell_key : Form → Cell → List ℕ
cell_key form c = key_of (kind_of form c.tag) c.body

pub data Ascent (form : Form) : List ℕ → List Cell → Type 0 where
  none : {k : List ℕ} → Ascent form k []
  next : {k : List ℕ} {c : Cell} {cs : List Cell} → good_body form c.tag c.body ≡ true
      → sensible form c.tag c.body ≡ true → bytes k (cell_key form c) ≡ Less → Ascent form (cell_key form c) cs → Ascent form k (c ∷ cs)

-- good cells are a good run when written
pub ascent_run : (form : Form) {k : List ℕ} {cs : List Cell} → Ascent form k cs → Run form k (cell_bytes cs)
unfolding cell_bytes
ascent_run form none = done
ascent_run form (next {c = c} {cs = cs} g z o a) =
    more c.tag c.body (cell_bytes cs) (front_field c.tag c.body (cell_bytes cs)) g z o (ascent_run form a)

pub ascent_fine : (form : Form) (cs : List Cell) → Ascent form (0 ∷ []) cs → verdict form (cell_bytes cs) ≡ Ok tt
ascent_fine form cs a = run_verdict form (cell_bytes cs) (ascent_run form a)

-- ---- bytes

split_high : (h l n : ℕ) → l < 256 → h * 256 + l ≡ n → n / 256 ≡ h
split_high h l n k e = omega arith

split_low : (h l n : ℕ) → l < 256 → h * 256 + l ≡ n → n % 256 ≡ l
split_low h l n k e = omega arith

-- a field of bytes is written as it was read
pub field_front : (s : List ℕ) (tag : ℕ) (b rest : List ℕ) → AllBytes s → front s ≡ whole tag b rest → s ≡ field tag b ++ rest
unfolding field
field_front s tag b rest bs e =
    let o = opens s tag b rest e in
    let k : o.low < 256 = rw o.bytes at (bs 2) in
    rw (split_high o.high o.low (length b) k o.size, split_low o.high o.low (length b) k o.size) o.bytes

-- and so are the bytes behind it
pub rest_bytes : (s : List ℕ) (tag : ℕ) (b rest : List ℕ) → AllBytes s → s ≡ field tag b ++ rest → AllBytes rest
rest_bytes s tag b rest bs e i = rw (e, get_or-append-add (field tag b) rest i 0) at (bs (length (field tag b) + i))

pub encode_cells : (form : Form) {k s : List ℕ} → Run form k s → AllBytes s → cell_bytes (cells s) ≡ s
unfolding cell_bytes
encode_cells form done bs = rw cells_end
encode_cells form (more {s = s} tag b rest e g z o r) bs =
    let f = field_front s tag b rest bs e in
    rw (cells_more s tag b rest e) (ap (λ (l : List ℕ). field tag b ++ l) (encode_cells form r (rest_bytes s tag b rest bs f)) ∙ sym f)
