-- What a reader of a good delta promises.
use Rattle.std.specs.Prelude.{ℕ, ◌≡◌, map, length, replicate}
use Rattle.std.specs.Borrow.{Bor}
use Rattle.change.specs.Difference as change
use Rattle.body.specs.declared.tag.Form.TheVariants.{Delta}
use Rattle.field.specs.declared.head.Field.TheVariants.{End}
use Rattle.payload.specs.Content.{Bytes, entry_of}
use Rattle.payload.specs.Payload.{changes}
use Rattle.payload.specs.Valid.{IsMap}
use Rattle.reader.specs.Step.{start}
use Rattle.reader.specs.Stepping.{answers, steps, wholes}

-- what the fields say that n calls of `next` answer, from the start
abbrev pub said : ℕ → Bor Bytes → change.Delta Bytes Bytes
said n d = map (entry_of Delta) (wholes d.now (answers n (start d)))

-- how many items a delta has
abbrev pub size : Bor Bytes → ℕ
size d = length (changes d.now)

pub record ReadsAll (d : Bor Bytes) : Type 0 where
  -- as many calls as the delta has items answer its items, in order
  pub items : said (size d) d ≡ changes d.now
  -- these are valid and ascend: none comes twice
  pub once : IsMap Delta (said (size d) d)
  -- then the reader stands at the delta's end
  pub whole : steps (size d) (start d) ≡ record { delta = d; at = length d.now }
  -- and each further call says so
  pub then : (n : ℕ) → answers n (steps (size d) (start d)) ≡ replicate n End
