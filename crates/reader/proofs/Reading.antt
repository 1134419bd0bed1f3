-- Stepping a reader from the start of a delta to its end answers the delta's fields, in order, once each.
use Prim.Native.Nat.{ℕ, zero, suc, ◌-◌, ◌≤◌}
use mathlib.Core.Path.{◌≡◌, refl, sym, ap, ◌∙◌, subst}
use mathlib.Core.List.{List, [], ◌∷◌, map}
use native.Mathlib.Omega.{arith}
use denote.Ref.{Bor}
use lib.ListN.{length, drop, replicate, length-map, length-drop}
use Rattle.number.specs.Bytes.{part}
use Rattle.body.specs.declared.tag.Form.TheVariants.{Delta}
use Rattle.field.specs.declared.head.Field.{Field}
use Rattle.field.specs.declared.head.Field.TheVariants.{End, Cut, Whole}
use Rattle.field.specs.Verdict.{verdict}
use Rattle.field.specs.Head.{field_at}
use Rattle.field.specs.Cells.{Cell, cells}
use Rattle.field.specs.Places.{GoodAt}
use Rattle.field.proofs.Fields.{field_end, end_at_lem, cut_at, body_within}
use Rattle.field.proofs.Fronts.{front_end}
use Rattle.field.proofs.Run.{cells_at_cut}
use Rattle.field.proofs.Walk.{good_start_lem, good_end, good_cells, good_cut, good_next}
use Rattle.payload.specs.Content.{Bytes, entry_of}
use Rattle.payload.specs.Payload.{entries, changes}
use Rattle.payload.specs.Valid.{IsMap}
use Rattle.payload.proofs.Faithful.{faithful}
use Rattle.reader.specs.declared.DeltaReader.{DeltaReader}
use Rattle.reader.specs.Step.{start}
use Rattle.reader.specs.Stepping.{answers, steps, wholes}
use Rattle.reader.specs.Reading.{said, size, ReadsAll}
use Rattle.std.specs.Prelude.{Ok}

none_left : (cs : List Cell) → length cs ≤ 0 → cs ≡ []
none_left [] h = refl
none_left (c ∷ cs) h = absurd (omega arith)

module _ (d : Bor Bytes) where
  abbrev s : Bytes
  s = d.now

  abbrev from : ℕ → DeltaReader
  from at = record { delta = d; at = at }

  -- ---- any bytes

  module _ (n at : ℕ) (ih : (to : ℕ) → length (cells (drop to s)) ≤ n → wholes s (answers n (from to)) ≡ cells (drop to s)) (h : length (cells (drop at s)) ≤ suc n) where
    one_more_lem : (f : Field) → field_at s at ≡ f → wholes s (answers (suc n) (from at)) ≡ cells (drop at s)
    unfolding answers wholes
    one_more_lem End e = let c = good_end s at (field_at s at) refl e in rw (e, c) (ih at (rw c (omega arith)) ∙ c)
    one_more_lem Cut e = let c = cells_at_cut (drop at s) (cut_at s at (field_at s at) refl e) in rw (e, c) (ih at (rw c (omega arith)) ∙ c)
    one_more_lem (Whole tag b to) e =
        let c = good_cells s at (field_at s at) refl tag b to e in
        rw (e, c) (ap (λ (cs : List Cell). record { tag = tag; body = part s b to } ∷ cs) (ih to (let l = rw c at h in omega arith)))

  reads_from : (n at : ℕ) → length (cells (drop at s)) ≤ n → wholes s (answers n (from at)) ≡ cells (drop at s)
  unfolding answers wholes
  reads_from zero at h = sym (none_left (cells (drop at s)) h)
  reads_from (suc n) at h = one_more_lem n at (reads_from n) h (field_at s at) refl

  -- enough calls answer each field of the bytes, in order, once; the others answer that there is none
  pub reads_fields : (n : ℕ) → length (cells s) ≤ n → wholes s (answers n (start d)) ≡ cells s
  reads_fields n h = reads_from n 0 h

  -- ---- a good delta

  -- where no field is left, the delta ends
  at_end : (at : ℕ) → at ≤ length s → GoodAt Delta s at → (f : Field) → field_at s at ≡ f → length (cells (drop at s)) ≡ 0 → at ≡ length s
  at_end at l g End e h =
      let p : drop at s ≡ [] = front_end (drop at s) (end_at_lem s at (field_at s at) refl e) in
      let k : length s - at ≡ 0 = sym (length-drop at s) ∙ ap length p in
      omega arith
  at_end at l g Cut e h = absurd (good_cut s at (field_at s at) refl Delta g e)
  at_end at l g (Whole tag b to) e h = absurd (let k = rw (good_cells s at (field_at s at) refl tag b to e) at h in omega arith)

  module _ (n at : ℕ) (ih : (to : ℕ) → to ≤ length s → GoodAt Delta s to → length (cells (drop to s)) ≡ n → steps n (from to) ≡ from (length s))
      (l : at ≤ length s) (g : GoodAt Delta s at) (h : length (cells (drop at s)) ≡ suc n) where
    one_step : (f : Field) → field_at s at ≡ f → steps (suc n) (from at) ≡ from (length s)
    unfolding steps
    one_step End e = absurd (let k = rw (good_end s at (field_at s at) refl e) at h in omega arith)
    one_step Cut e = absurd (good_cut s at (field_at s at) refl Delta g e)
    one_step (Whole tag b to) e =
        rw e (ih to (body_within s at (field_at s at) refl tag b to e) (good_next s at (field_at s at) refl Delta g tag b to e)
        (let k = rw (good_cells s at (field_at s at) refl tag b to e) at h in omega arith))

  steps_from : (n at : ℕ) → at ≤ length s → GoodAt Delta s at → length (cells (drop at s)) ≡ n → steps n (from at) ≡ from (length s)
  unfolding steps
  steps_from zero at l g h = ap from (at_end at l g (field_at s at) refl h)
  steps_from (suc n) at l g h = one_step n at (steps_from n) l g h (field_at s at) refl

  -- at the end a reader stays
  stays : (n : ℕ) → answers n (from (length s)) ≡ replicate n End
  unfolding answers
  stays zero = refl
  stays (suc n) = rw (← field_end s (length s) (omega arith)) (ap (λ (fs : List Field). End ∷ fs) (stays n))

  module _ (good : verdict Delta s ≡ Ok tt) where
    sized : size d ≡ length (cells s)
    unfolding entries
    sized = length-map (cells s) (entry_of Delta)

    items : said (size d) d ≡ changes s
    unfolding entries
    items = ap (map (entry_of Delta)) (reads_fields (size d) (rw sized (omega arith)))

    ends : steps (size d) (start d) ≡ from (length s)
    ends = steps_from (size d) 0 (omega arith) (good_start_lem Delta s good) (sym sized)

    -- the reader of a good delta answers its items from first to last, once each, and then its end
    pub reads : ReadsAll d
    reads = record { items = items; once = subst (IsMap Delta) (sym items) ((faithful Delta).map_of s good); whole = ends; then = λ n. rw ends (stays n) }
