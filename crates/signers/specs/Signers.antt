-- "The signers of a record are the principals K of its statements of the form K says A, each once" (01), "in rising
-- principal number" (02, job 1). "A paper that lay unused makes no signer. A signer is now a principal K with a
-- statement K says A that some says-left step names." (02, job 3) Assumes nothing.
use Rattle.std.specs.Prelude.{ℕ, List, [], ◌∷◌}
use Rattle.basics.specs.Choice.{pick}
use Rattle.basics.specs.Membership.{holds}
use Rattle.basics.specs.Rising.{into}
use Rattle.table.specs.declared.entry.Entry.{Entry}
use Rattle.table.specs.declared.entry.Entry.TheVariants.{Atom, False, Implies, And, Or, Says, IllFormed}
use Rattle.table.specs.Tests.{entry_at}

-- the principals found, and that of one statement more; "a statement that isn't a says-formula is a standing order of
-- the mill"
abbrev pub joined : List ℕ → Entry → List ℕ
joined ks (Says k f) = into ks k.0
joined ks (Atom a) = ks
joined ks False = ks
joined ks (Implies f g) = ks
joined ks (And f g) = ks
joined ks (Or f g) = ks
joined ks IllFormed = ks

-- the principals of statements
unfoldable pub principals : List Entry → List ℕ → List ℕ
principals es [] = []
principals es (n ∷ ns) = joined (principals es ns) (entry_at es n)

-- the statements among the formulas named
unfoldable pub used : List ℕ → List ℕ → List ℕ
used named [] = []
used named (n ∷ ns) = pick (holds named n) (n ∷ used named ns) (used named ns)

-- the signers of statements, where the says lefts name these formulas
abbrev pub signers : List Entry → List ℕ → List ℕ → List ℕ
signers es statements named = principals es (used named statements)
