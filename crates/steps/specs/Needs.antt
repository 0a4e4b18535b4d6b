-- What a rule needs of a goal and of an entry: the goal or the entry of that kind hands its parts on, and any other is
-- refused 13, "the goal isn't what the rule needs .., the named formula isn't of the kind the rule needs" (01). Assumes
-- nothing.
use Rattle.table.specs.declared.entry.Formula.{Formula}
use Rattle.table.specs.declared.entry.Principal.{Principal}
use Rattle.table.specs.declared.entry.Entry.{Entry}
use Rattle.table.specs.declared.entry.Entry.TheVariants.{Atom, False, Implies, And, Or, Says, IllFormed}
use Rattle.steps.specs.declared.goal.Goal.{Goal}
use Rattle.steps.specs.declared.goal.Goal.TheVariants.{True, Affirms}
use Rattle.steps.specs.declared.opened.Opened.{Opened}
use Rattle.steps.specs.declared.opened.Opened.TheVariants.{Refused}

abbrev pub truth : Goal → (Formula → Opened) → Opened
truth (True f) next = next f
truth (Affirms k f) next = Refused 13

abbrev pub affirmation : Goal → (Principal → Formula → Opened) → Opened
affirmation (True f) next = Refused 13
affirmation (Affirms k f) next = next k f

-- by the kind of an entry, in 01's order
abbrev pub by_kind : Opened → Opened → (Formula → Formula → Opened) → (Formula → Formula → Opened) → (Formula → Formula → Opened)
    → (Principal → Formula → Opened) → Entry → Opened
by_kind anAtom aFalse anImplies anAnd anOr aSays (Atom a) = anAtom
by_kind anAtom aFalse anImplies anAnd anOr aSays False = aFalse
by_kind anAtom aFalse anImplies anAnd anOr aSays (Implies f g) = anImplies f g
by_kind anAtom aFalse anImplies anAnd anOr aSays (And f g) = anAnd f g
by_kind anAtom aFalse anImplies anAnd anOr aSays (Or f g) = anOr f g
by_kind anAtom aFalse anImplies anAnd anOr aSays (Says k f) = aSays k f
by_kind anAtom aFalse anImplies anAnd anOr aSays IllFormed = Refused 13

-- any other kind is refused
abbrev pub other : Opened
other = Refused 13

abbrev pub other₂ : {A B : Type 0} → A → B → Opened
other₂ a b = Refused 13

abbrev pub is_atom : Entry → Opened → Opened
is_atom e next = by_kind next other other₂ other₂ other₂ other₂ e

abbrev pub is_false : Entry → Opened → Opened
is_false e next = by_kind other next other₂ other₂ other₂ other₂ e

abbrev pub is_implies : Entry → (Formula → Formula → Opened) → Opened
is_implies e next = by_kind other other next other₂ other₂ other₂ e

abbrev pub is_and : Entry → (Formula → Formula → Opened) → Opened
is_and e next = by_kind other other other₂ next other₂ other₂ e

abbrev pub is_or : Entry → (Formula → Formula → Opened) → Opened
is_or e next = by_kind other other other₂ other₂ next other₂ e

abbrev pub is_says : Entry → (Principal → Formula → Opened) → Opened
is_says e next = by_kind other other other₂ other₂ other₂ next e
