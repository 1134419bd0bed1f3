-- Worked examples over byte strings: K8, K9 and K10 of document 01, each row of the merge table, and the rows off a chain.
use mathlib.Core.Path.{◌≡◌, refl}
use mathlib.Core.List.{List, [], ◌∷◌}
use mathlib.Core.Option.{none, some}
use mathlib.Core.Bool.{Bool, true, false}
use Prim.Native.Nat.{ℕ}
use lib.Dec.{eqb}
use lib.ListN.{get_or}
use Rattle.order.specs.Comparison.{bytes}
use Rattle.order.specs.Map.{Item}
use Rattle.order.specs.Walk.{walk}
use Rattle.change.specs.Change.{Change, announce, withdraw, update}
use Rattle.change.specs.Difference.{Delta, diff}
use Rattle.change.specs.Merge.{table, merge, merge_all}
use Rattle.change.specs.Application.{fits, apply}
use Rattle.change.specs.Grouping.{Grouping, alone, grouped, leaves, merge_tree}
use Rattle.change.specs.Balance.{of_kind, brought, taken}

abbrev B : Type 0
B = List ℕ

-- AS 64497 and AS 64498, four bytes each, as the only provider
abbrev p : B
p = 0 ∷ 0 ∷ 251 ∷ 241 ∷ []

abbrev q : B
q = 0 ∷ 0 ∷ 251 ∷ 242 ∷ []

-- what becomes of the ASPA of customer 64500, and of an origin
abbrev aspa : {A : Type 0} → A → List (Item B A)
aspa x = record { key = 3 ∷ 0 ∷ 0 ∷ 251 ∷ 244 ∷ []; val = x } ∷ []

abbrev origin : Change B → Delta B B
origin x = record { key = 1 ∷ 4 ∷ 192 ∷ 0 ∷ 2 ∷ []; val = x } ∷ []

abbrev M : Delta B B → Delta B B → Delta B B
M = merge bytes bytes

-- withdraw(p) then announce p: nothing
pub k8 : M (aspa (withdraw p)) (aspa (announce p)) ≡ []
unfolding walk
k8 = refl

-- withdraw {64497} then announce {64498}: update({64497})
pub k9 : M (aspa (withdraw p)) (aspa (announce q)) ≡ aspa (update p q)
unfolding walk
k9 = refl

-- announce {64497} then update to {64498}: announce {64498}
pub k10 : M (aspa (announce p)) (aspa (update p q)) ≡ aspa (announce q)
unfolding walk
k10 = refl

-- update(p), announce p: update(p), even if p is the new list
pub kept : M (aspa (update p q)) (aspa (announce p)) ≡ aspa (update p p)
unfolding walk
kept = refl

-- update(p), update: nothing if p is the new list, else update(p)
pub back : M (aspa (update p q)) (aspa (update q p)) ≡ []
unfolding walk
back = refl

pub onward : M (aspa (update p q)) (aspa (update q [])) ≡ aspa (update p [])
unfolding walk
onward = refl

-- update(p), withdraw: withdraw(p), never the middle providers
pub first_kept : M (aspa (update p q)) (aspa (withdraw q)) ≡ aspa (withdraw p)
unfolding walk
first_kept = refl

-- the rows that no chain of differences meets
pub off_chain_announces : table bytes (announce p) (announce q) ≡ some (announce q)
off_chain_announces = refl

pub off_chain_withdraws : table bytes (withdraw p) (withdraw q) ≡ some (withdraw p)
off_chain_withdraws = refl

pub off_chain_update : table bytes (withdraw p) (update q p) ≡ none
off_chain_update = refl

-- an origin or router key that is withdrawn and announced again is untouched: it has no value
pub untouched : M (origin (withdraw [])) (origin (announce [])) ≡ []
unfolding walk
untouched = refl

-- off a chain two groupings differ: announce, withdraw, withdraw of one origin
pub left_first : M (M (origin (announce [])) (origin (withdraw []))) (origin (withdraw [])) ≡ origin (withdraw [])
unfolding walk
left_first = refl

pub right_first : M (origin (announce [])) (M (origin (withdraw [])) (origin (withdraw []))) ≡ []
unfolding walk
right_first = refl

-- earliest first: the other way round is another delta
pub in_order : merge_all bytes bytes (aspa (announce p) ∷ aspa (update p q) ∷ []) ≡ aspa (announce q)
unfolding walk
in_order = refl

-- the difference of one ASPA's providers, and its application
pub providers_change : diff bytes bytes (aspa p) (aspa q) ≡ aspa (update p q)
unfolding walk
providers_change = refl

pub providers_apply : apply bytes (aspa p) (aspa (update p q)) ≡ aspa q
unfolding walk
providers_apply = refl

-- an update of other providers than the held ones cannot be applied
pub stale : fits bytes (some q) (update p q) ≡ false
stale = refl

-- an announcement where something is held, a withdrawal and an update where nothing is: none can be applied
pub over_held : fits bytes (some p) (announce q) ≡ false
over_held = refl

pub nothing_to_withdraw : fits bytes none (withdraw p) ≡ false
nothing_to_withdraw = refl

pub nothing_to_update : fits bytes none (update p q) ≡ false
nothing_to_update = refl

-- the same as groupings of one list of deltas
abbrev announced_first : Grouping (Delta B B)
announced_first = grouped (grouped (alone (origin (announce []))) (alone (origin (withdraw [])))) (alone (origin (withdraw [])))

abbrev withdrawn_first : Grouping (Delta B B)
withdrawn_first = grouped (alone (origin (announce []))) (grouped (alone (origin (withdraw []))) (alone (origin (withdraw []))))

pub same_leaves : leaves announced_first ≡ leaves withdrawn_first
same_leaves = refl

pub off_chain_left : merge_tree M announced_first ≡ origin (withdraw [])
unfolding walk
off_chain_left = refl

pub off_chain_right : merge_tree M withdrawn_first ≡ []
unfolding walk
off_chain_right = refl

-- an update to the providers that are held can be applied and changes nothing: a delta that is longer than the difference
pub idle_fits : fits bytes (some p) (update p p) ≡ true
idle_fits = refl

pub idle_yields : apply bytes (aspa p) (aspa (update p p)) ≡ aspa p
unfolding walk
idle_yields = refl

pub idle_longer : diff bytes bytes (aspa p) (aspa p) ≡ []
unfolding walk
idle_longer = refl

-- keys of ASPAs: one announced is one brought, one withdrawn is one taken, an update is neither
abbrev is_aspa : B → Bool
is_aspa k = eqb (get_or k 0 0) 3

pub aspa_held : of_kind is_aspa (aspa p) ≡ 1
aspa_held = refl

pub aspa_brought : brought is_aspa (aspa (announce p)) ≡ 1
aspa_brought = refl

pub aspa_taken : taken is_aspa (aspa (withdraw p)) ≡ 1
aspa_taken = refl

pub aspa_updated : brought is_aspa (aspa (update p q)) ≡ 0
aspa_updated = refl

pub origin_brought : brought is_aspa (origin (announce [])) ≡ 0
origin_brought = refl
