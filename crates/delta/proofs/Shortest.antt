-- The difference as bytes beside any other delta that leads the same way, and the merges of a chain.
use Prim.Native.Nat.{ℕ, ◌+◌, ◌≤◌}
use mathlib.Core.Path.{◌≡◌, refl, sym, ap, ◌∙◌}
use mathlib.Core.List.{List, [], ◌∷◌, map}
use mathlib.Core.Option.{some}
use native.Mathlib.Omega.{arith}
use lib.ListN.{length, drop, length-append}
use lib.Seq.{take-append_seam}
use Rattle.order.specs.Comparison.{bytes}
use Rattle.order.proofs.Never.{never}
use Rattle.order.proofs.Comparison.{strings}
use Rattle.change.specs.Difference.{diff}
use Rattle.change.specs.Part.{Part}
use Rattle.change.proofs.Short.{total, part_total, part_length, part_whole, part_map}
use Rattle.change.proofs.Short as short
use Rattle.change.proofs.Whole.{compose}
use Rattle.change.proofs.Grouping.{tree_ends}
use Rattle.serial.specs.declared.Serial.{Serial}
use Rattle.number.specs.Bytes.{AllBytes}
use Rattle.body.specs.declared.tag.Form.{Form}
use Rattle.body.specs.declared.tag.Form.TheVariants.{Snapshot, Delta}
use Rattle.field.specs.Verdict.{verdict}
use Rattle.field.specs.Cells.{Cell, cells}
use Rattle.field.specs.Cells as run
use Rattle.field.proofs.Encode.{cells_encode}
use Rattle.payload.specs.Content.{Bytes, cell_for}
use Rattle.payload.specs.Payload.{entries, encode, items, changes}
use Rattle.payload.specs.Limit.{limit}
use Rattle.payload.proofs.Faithful.{faithful}
use Rattle.fit.specs.Fit.{fit_of}
use Rattle.delta.specs.Admission.{admit_of}
use Rattle.delta.specs.Answer.{difference_of, merged_of, applied_of, fit_admitted, apply_admitted, apply_answer, apply_of}
use Rattle.delta.specs.Demand.{GoodSnapshot, Acceptable}
use Rattle.delta.specs.Shortest.{LeadsTo, NoLonger, merge_into, Shortest}
use Rattle.delta.proofs.Answering.{admitted_inputs, both_yes}
use Rattle.delta.proofs.Differences.{good_map, difference_fine, difference_says, difference_fits, difference_yields}
use Rattle.delta.proofs.Demand.{difference_short, merges, merge_writes}
use Rattle.delta.proofs.Leading.{leads_map}
use Rattle.delta.proofs.Balance.{balanced}
use Rattle.std.specs.Prelude.{None, Option, Some, Err, Ok}
use Rattle.delta.specs.Admission.{Admitted}

-- two answers that differ: from them anything follows

-- the fields of good bytes are those of what they say
pub cells_of : (form : Form) (s : Bytes) → AllBytes s → verdict form s ≡ Ok tt → cells s ≡ map (cell_for form) (entries form s)
unfolding encode
cells_of form s o e = ap cells (sym ((faithful form).bytes_back s o e)) ∙ cells_encode (map (cell_for form) (entries form s))

-- and make up their length, a head of three bytes and a body each
abbrev width : Cell → ℕ
width c = 3 + length c.body

run_length : (cs : List Cell) → length (run.cell_bytes cs) ≡ total width cs
unfolding run.cell_bytes run.field
run_length [] = refl
run_length (c ∷ cs) = omega (arith, length-append c.body (run.cell_bytes cs), run_length cs)

module _ (A C D : Bytes) (a : GoodSnapshot A) (l : LeadsTo A C D) (c : GoodSnapshot C) (o : AllBytes D) where
  -- the fields of the difference
  difference_cells : cells (difference_of A C) ≡ map (cell_for Delta) (diff bytes bytes (items A) (items C))
  unfolding difference_of encode
  difference_cells = cells_encode (map (cell_for Delta) (diff bytes bytes (items A) (items C)))

  fields_within : Part (cells (difference_of A C)) (cells D)
  fields_within =
      rw (difference_cells, cells_of Delta D o l.fine)
      (part_map (cell_for Delta) (short.within strings strings (items A) (items C) (changes D) (good_map A a).sorted (good_map C c).sorted (leads_map A C D a l)))

  difference_back : run.cell_bytes (cells (difference_of A C)) ≡ difference_of A C
  unfolding difference_of encode
  difference_back = ap run.cell_bytes (cells_encode (map (cell_for Delta) (diff bytes bytes (items A) (items C))))

  delta_back : run.cell_bytes (cells D) ≡ D
  unfolding encode
  delta_back = ap run.cell_bytes (cells_of Delta D o l.fine) ∙ (faithful Delta).bytes_back D o l.fine

  -- no fewer items, no fewer bytes
  pub no_longer : NoLonger (difference_of A C) D
  no_longer =
      let p = fields_within in
      let d : length (difference_of A C) ≡ total width (cells (difference_of A C)) = ap length (sym difference_back) ∙ run_length (cells (difference_of A C)) in
      let e : length D ≡ total width (cells D) = ap length (sym delta_back) ∙ run_length (cells D) in
      record {
        within = p;
        items = part_length p;
        bytes = omega (arith, part_total width p);
        only = λ h. sym delta_back ∙ ap run.cell_bytes (part_whole p h) ∙ difference_back;
      }

-- neighbouring differences of good snapshots, merged, are the difference of their ends, however long they are
composes : (A B C : Bytes) → GoodSnapshot A → GoodSnapshot B → GoodSnapshot C → merged_of (difference_of A B) (difference_of B C) ≡ difference_of A C
unfolding merged_of difference_of
composes A B C a b c =
    rw (difference_says A B a b, difference_says B C b c)
    (ap (encode Delta) (compose strings strings (items A) (items B) (items C) (good_map A a).sorted (good_map B b).sorted (good_map C c).sorted))

-- with room for any delta `merge` writes it
enters : (out : Bytes) (serial : Serial) → limit Delta ≤ length out → (A B C : Bytes) → Acceptable A → Acceptable B → Acceptable C →
    merge_into out serial (some (difference_of A B)) (some (difference_of B C)) ≡ some (difference_of A C)
enters out serial h A B C a b c =
    let l = difference_short A C a c in
    rw (
      merges A B C a b c serial (length out) (omega arith),
      merge_writes A B C a b c out (omega arith),
    ) (ap (λ (d : Bytes). some d) (take-append_seam (difference_of A C) (drop (length (difference_of A C)) out)))

-- what `apply` accepts is good and fits
fit_yes : (f : Option ℕ) → fit_admitted f ≡ Ok tt → f ≡ None
fit_yes None e = refl
fit_yes (Some at) e = never cc

accepts : (A D : Bytes) (room n : ℕ) → apply_of A D room ≡ Ok n → LeadsTo A (applied_of A D) D
unfolding apply_of
accepts A D room n h = go (apply_admitted A D) refl h
  where
    go : (x : Admitted) → apply_admitted A D ≡ x → apply_answer x (applied_of A D) room ≡ Ok n → LeadsTo A (applied_of A D) D
    go (Err r) e h = never cc
    go (Ok tt) e h =
        let y = both_yes (admit_of Snapshot A Delta D) (fit_admitted (fit_of A D)) e in
        record { fine = (admitted_inputs Snapshot A Delta D y.0).fine_b; fits = fit_yes (fit_of A D) y.1; yields = refl }

pub shortest : Shortest
shortest = record {
  accepted = accepts;
  leads = λ A C a c. record {
    fine = difference_fine A C a c;
    fits = difference_fits A C a c;
    yields = difference_yields A C a c;
  };
  shortest = λ A C D a c o l. no_longer A C D a l c o;
  grouping = tree_ends difference_of merged_of GoodSnapshot composes;
  merges = λ out serial g S Ts h. tree_ends (λ (A B : Bytes). some (difference_of A B)) (merge_into out serial) Acceptable (enters out serial h) g S Ts;
  balance = balanced;
}
