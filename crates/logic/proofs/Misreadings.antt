-- What the classes get wrong. Assumes nothing.
use Rattle.basics.proofs.Membership.{inserted, repeated}
use Rattle.logic.specs.Figure1.{Same}
use Rattle.logic.specs.Signed.{Anybody, OtherThan}
use Rattle.logic.specs.Misreadings.{SaysGivesNoAtom, SignedGiveNoAtom, SaysServesNoOther, SignedServeNoOther, SaysFalseServesNoOther, SaysFalseGivesNoFalse, SignedGiveNoFalse, TwiceAddsNothing}
use Rattle.logic.proofs.Structural.{weaken}
use Rattle.logic.proofs.FromSigned.{one_signed, from_signed}
use Rattle.logic.proofs.Figure1.{figure1}

pub signed_give_no_atom : SignedGiveNoAtom
signed_give_no_atom Γ s = (figure1.signed_alone Γ s).no_atom

pub says_gives_no_atom : SaysGivesNoAtom
says_gives_no_atom K a = signed_give_no_atom _ (one_signed Anybody _ tt) a

pub signed_serve_no_other : SignedServeNoOther
signed_serve_no_other L Γ s a D = from_signed Same (OtherThan L) ⊥ D s ((λ M differs. differs), tt)

pub says_serves_no_other : SaysServesNoOther
says_serves_no_other K L differ a D = differ ((figure1.says_serves K L a).0 D)

pub says_false_serves_no_other : SaysFalseServesNoOther
says_false_serves_no_other K L differ a D =
    from_signed Same (OtherThan L) ⊥ D (one_signed (OtherThan L) _ differ) ((λ M differs. differs), tt)

pub signed_give_no_false : SignedGiveNoFalse
signed_give_no_false Γ s = (figure1.signed_alone Γ s).no_false

pub says_false_gives_no_false : SaysFalseGivesNoFalse
says_false_gives_no_false K = signed_give_no_false _ (one_signed Anybody _ tt)

pub twice_adds_nothing : TwiceAddsNothing
twice_adds_nothing Γ Δ A m B = (weaken (repeated Γ Δ A m), weaken (inserted Γ Δ A))
