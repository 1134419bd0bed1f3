-- Good runs of fields.
use Rattle.std.specs.Prelude.{ℕ, ◌≡◌, List, [], true}
use Rattle.std.specs.declared.cmp.Ordering.TheVariants.{Less}
use Rattle.order.specs.Comparison.{bytes}
use Rattle.body.specs.declared.tag.Form.{Form}
use Rattle.body.specs.Tag.{good_body, sensible, kind_of}
use Rattle.field.specs.Head.{whole, front}
use Rattle.field.specs.Key.{key_of}

-- a good run behind the key k: its end, or a good field that makes sense, above k, and a good run behind it
pub data Run (form : Form) : List ℕ → List ℕ → Type 0 where
  done : {k : List ℕ} → Run form k []
  more : {k s : List ℕ} (tag : ℕ) (b rest : List ℕ) → front s ≡ whole tag b rest → good_body form tag b ≡ true
      → sensible form tag b ≡ true → bytes k (key_of (kind_of form tag) b) ≡ Less → Run form (key_of (kind_of form tag) b) rest → Run form k s
