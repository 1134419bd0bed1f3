-- Worked examples, by computation: lists, and the replies of a history that holds nothing.
use mathlib.Core.Path.{◌≡◌, refl}
use mathlib.Core.List.{[], ◌∷◌, ◌++◌}
use mathlib.Core.Bool.{true, false}
use lib.ListN.{replicate}
use Rattle.order.specs.Walk.{walk}
use Rattle.field.specs.Head.{front}
use Rattle.field.specs.Verdict.{judge, verdict_f, verdict}
use Rattle.field.specs.Cells.{cells_f, cells, field}
use Rattle.field.specs.Cells as run
use Rattle.payload.specs.Content.{Bytes}
use Rattle.payload.specs.Payload.{entries, encode}
use Rattle.past.specs.declared.state.History.{History}
use Rattle.past.specs.WellFormed.{well_formed}
use Rattle.past.specs.Create.{fresh_of}
use Rattle.past.specs.Query.{merged_last, query_of, query_out}
use Rattle.delta.specs.declared.refusal.Refusal.TheVariants.{OtherSession, NotServed, BadList, IllFormed}
use Rattle.appliance.specs.QueryAll.{asked_by, good_list, list_admitted, served_at, refused_with, laid_of}
use Rattle.std.specs.Prelude.{Err, Ok}

-- the session 7 and the serial 9, in six bytes
abbrev nine : Bytes
nine = 0 ∷ 7 ∷ 0 ∷ 0 ∷ 0 ∷ 9 ∷ []

-- the session 264 and the serial 16,909,060
abbrev other : Bytes
other = 1 ∷ 8 ∷ 1 ∷ 2 ∷ 3 ∷ 4 ∷ []

-- a history of the session 65,543 that waits at the serial 9
abbrev waiting : History
waiting = fresh_of 65_543 2 (record { 0 = 9 })

pub record Examples : Type 0 where
  -- six bytes are a query
  pub none : asked_by [] ≡ []
  pub two : asked_by (nine ++ other)
      ≡ record { session = record { 0 = 7 }; serial = record { 0 = 9 } } ∷ record { session = record { 0 = 264 }; serial = record { 0 = 16_909_060 } } ∷ []
  -- a list may be empty and have 384 queries; one that is cut, or has 385, is bad
  pub empty : good_list [] ≡ true
  pub most : good_list (replicate 2_304 0) ≡ true
  pub many : good_list (replicate 2_310 0) ≡ false
  pub cut : good_list (0 ∷ nine) ≡ false
  -- 11 after 7
  pub bad : list_admitted waiting [] [] (0 ∷ nine) ≡ Err BadList
  pub good : list_admitted waiting [] [] (nine ++ other) ≡ Ok tt
  pub seven : list_admitted (fresh_of 65_543 0 (record { 0 = 9 })) [] [] (0 ∷ nine) ≡ Err IllFormed
  -- a reply for each query, in order
  pub replies : laid_of waiting [] [] (asked_by (nine ++ other ++ (0 ∷ 7 ∷ 0 ∷ 0 ∷ 0 ∷ 8 ∷ []) ++ nine)) (5 ∷ [])
      ≡ record {
        replies = served_at 0 (record { len = 0; announced = 0; withdrawn = 0 }) ∷ refused_with OtherSession ∷ refused_with NotServed
            ∷ served_at 0 (record { len = 0; announced = 0; withdrawn = 0 }) ∷ [];
        used = 0;
        out = 5 ∷ [];
      }

pub examples : Examples
unfolding walk front judge verdict_f verdict cells_f cells field run.cell_bytes entries encode well_formed merged_last query_of query_out laid_of
examples = record {
  none = refl;
  two = refl;
  empty = refl;
  most = refl;
  many = refl;
  cut = refl;
  bad = refl;
  good = refl;
  seven = refl;
  replies = refl;
}
