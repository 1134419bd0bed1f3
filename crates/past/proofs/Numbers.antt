-- Replies that refuse, by document 01's numbers.
use mathlib.Core.Path.{◌≡◌, refl, ap}
use mathlib.Core.Option.{Option, none, some}
use mathlib.Core.Logic.{◌↔◌}
use Rattle.order.proofs.Map.{none≢some}
use Rattle.delta.specs.declared.refusal.Refusal.{Refusal}
use Rattle.delta.specs.Refusal.{Values, values_of}
use Rattle.delta.proofs.Numbers.{same_refusal}
use Rattle.past.specs.Run.{refused_update, refused_answer, numbered}
use Rattle.item.specs.declared.sink.Counts.{Counts}
use Rattle.std.specs.Prelude.{Err, Ok, Result}
use Rattle.past.specs.declared.update.Update.TheVariants as outcome
use Rattle.past.specs.declared.update.Update.{Update}

-- one after the other
pub through : {A B C : Type 0} → (A ↔ B) → (B ↔ C) → (A ↔ C)
through f g = (λ a. g.0 (f.0 a), λ c. f.1 (g.1 c))

-- a refusal with these numbers is this one
pub refusal_is : (o : Option Refusal) (q : Refusal) → numbered o ≡ some (values_of q) ↔ o ≡ some q
refusal_is none q = (λ e. none≢some refl e, λ e. none≢some refl e)
refusal_is (some r) q = (
  λ e. let v : values_of r ≡ values_of q = cc in ap (λ (x : Refusal). some x) (same_refusal r q v),
  λ e. ap numbered e,
)

pub number_of_lem : {x y : Values} → some x ≡ some y → x.number ≡ y.number
number_of_lem {x} {y} e = let q : x ≡ y = cc in ap (λ (v : Values). v.number) q

pub argument_of_lem : {x y : Values} → some x ≡ some y → x.argument ≡ y.argument
argument_of_lem {x} {y} e = let q : x ≡ y = cc in ap (λ (v : Values). v.argument) q

pub update_refused : (a : Result Update Refusal) (q : Refusal) → numbered (refused_update a) ≡ some (values_of q) ↔ a ≡ Err q
update_refused a q = (λ e. go a ((refusal_is (refused_update a) q).0 e), λ e. ap (λ (x : Result Update Refusal). numbered (refused_update x)) e)
  where
    go : (a : Result Update Refusal) → refused_update a ≡ some q → a ≡ Err q
    go (Ok outcome.First) e = none≢some refl e
    go (Ok outcome.Unchanged) e = none≢some refl e
    go (Ok (outcome.Changed c)) e = none≢some refl e
    go (Err r) e = cc

pub answer_refused : (a : Result Counts Refusal) (q : Refusal) → numbered (refused_answer a) ≡ some (values_of q) ↔ a ≡ Err q
answer_refused a q = (λ e. go a ((refusal_is (refused_answer a) q).0 e), λ e. ap (λ (x : Result Counts Refusal). numbered (refused_answer x)) e)
  where
    go : (a : Result Counts Refusal) → refused_answer a ≡ some q → a ≡ Err q
    go (Err r) e = cc
    go (Ok c) e = none≢some refl e
