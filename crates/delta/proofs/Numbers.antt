-- A refusal is known by document 01's number, argument and offset.
use mathlib.Core.Path.{◌≡◌, refl, sym, ap, ◌∙◌}
use mathlib.Core.Bool.{cond}
use lib.Dec.{eqb}
use Rattle.delta.specs.declared.refusal.Refusal.{Refusal}
use Rattle.delta.specs.declared.refusal.Refusal.TheVariants.{Bad, NotAbove, CannotApply, NoRoom, OtherSession, NotServed, IllFormed, BadKeep, StoreFull, TooLong, BadList, Senseless, Faulty, Absent, Present}
use Rattle.delta.specs.Refusal.{Values, values_of}

-- the refusal that has these
abbrev named : Values → Refusal
named x =
    cond (eqb x.number 1) (Bad x.argument x.offset)
    (cond (eqb x.number 2) (NotAbove x.argument x.offset)
    (cond (eqb x.number 3) (CannotApply x.offset)
    (cond (eqb x.number 4) NoRoom
    (cond (eqb x.number 5) OtherSession
    (cond (eqb x.number 6) NotServed
    (cond (eqb x.number 7) IllFormed
    (cond (eqb x.number 8) BadKeep
    (cond (eqb x.number 9) StoreFull
    (cond (eqb x.number 10) (TooLong x.argument)
    (cond (eqb x.number 11) BadList
    (cond (eqb x.number 12) (Senseless x.argument x.offset)
    (cond (eqb x.number 13) (Faulty x.offset)
    (cond (eqb x.number 14) (Absent x.offset)
    (Present x.offset))))))))))))))

named_back : (r : Refusal) → named (values_of r) ≡ r
named_back (Bad argument at) = refl
named_back (NotAbove argument at) = refl
named_back (CannotApply at) = refl
named_back NoRoom = refl
named_back OtherSession = refl
named_back NotServed = refl
named_back IllFormed = refl
named_back BadKeep = refl
named_back StoreFull = refl
named_back (TooLong argument) = refl
named_back BadList = refl
named_back (Senseless argument at) = refl
named_back (Faulty at) = refl
named_back (Absent at) = refl
named_back (Present at) = refl

pub same_refusal : (r q : Refusal) → values_of r ≡ values_of q → r ≡ q
same_refusal r q e = sym (named_back r) ∙ ap named e ∙ named_back q
