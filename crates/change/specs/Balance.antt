-- How many items of a kind a snapshot has, and how many a delta brings and takes.
use Rattle.std.specs.Prelude.{ℕ, ◌+◌, List, [], ◌∷◌, Bool, false, cond}
use Rattle.order.specs.Map.{Item}
use Rattle.change.specs.Change.{Change, announce, withdraw, update}
use Rattle.change.specs.Difference.{Snapshot, Delta}

-- how many members of a list pass a test
abbrev pub count : {A : Type 0} → (A → Bool) → List A → ℕ
count test [] = 0
count test (x ∷ l) = cond (test x) 1 0 + count test l

-- a change of a key that is of the kind, or is not: an announcement brings one, a withdrawal takes one, an update does neither
abbrev pub brings : {W : Type 0} → Bool → Change W → Bool
brings kind (announce n) = kind
brings kind (withdraw p) = false
brings kind (update p n) = false

abbrev pub takes : {W : Type 0} → Bool → Change W → Bool
takes kind (announce n) = false
takes kind (withdraw p) = kind
takes kind (update p n) = false

module _ {K W : Type 0} (kind : K → Bool) where
  -- the items of a snapshot whose keys are of the kind; how many of them a delta brings, and how many it takes
  abbrev pub of_kind : Snapshot K W → ℕ
  of_kind A = count (λ (x : Item K W). kind x.key) A

  abbrev pub brought : Delta K W → ℕ
  brought D = count (λ (x : Item K (Change W)). brings (kind x.key) x.val) D

  abbrev pub taken : Delta K W → ℕ
  taken D = count (λ (x : Item K (Change W)). takes (kind x.key) x.val) D
